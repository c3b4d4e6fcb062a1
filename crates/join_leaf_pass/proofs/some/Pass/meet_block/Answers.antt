use Rattle.std.proofs.Common.{◌≢◌, ◌∙◌, ℕ, List, arith, subst}
use Rattle.key_attrs.specs.Columns.{TreeColumns, tree_columns}
use Rattle.bt_levels.specs.Sound.{held_block, index_columns}
use Rattle.join_meet.specs.Meeting.{HaveMetSome, leaf_entries}
use Rattle.join_meet.proofs.Some.{some-none}
use Rattle.join_leaf_pass.proofs.Reading.{block-readable, readable-by}
use Rattle.join_leaf_pass.proofs.some.Pass.meet_block.Goals as goal

pub returns-clause-met : goal.returns-clause-met
returns-clause-met g c names told =
    let tree = c.args.tree.now in
    let page = c.page-page.ensures ∙ c.in_ok-take_ahead.ensures.bytes names told in
    let not-meta = c.requires.not_meta in
    let some : c.args.b ≢ 0 = λ e. absurd (omega (arith, not-meta, e)) in
    let readable = readable-by (tree_columns c.columns.result) (index_columns tree) c.page-page.result.now (held_block names tree c.args.b) c.columns.ensures.lists page (block-readable names tree (c.requires.holds names told) c.args.b some c.requires.below) in
    subst (λ (s : TreeColumns). HaveMetSome (leaf_entries s (held_block names tree c.args.b)) c.args.slots.now c.meet_near.new.slots) c.columns.ensures.lists
    (subst (λ (p : List ℕ). HaveMetSome (leaf_entries (tree_columns c.columns.result) p) c.args.slots.now c.meet_near.new.slots) page (c.meet_near.ensures readable))

pub returns-then-not-may_name-clause-met : goal.returns-then-not-may_name-clause-met
returns-then-not-may_name-clause-met g c = λ names told. some-none (leaf_entries (index_columns c.args.tree.now) (held_block names c.args.tree.now c.args.b)) c.args.slots.now

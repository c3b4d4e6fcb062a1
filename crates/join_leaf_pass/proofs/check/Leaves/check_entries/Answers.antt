use Rattle.std.proofs.Common.{◌≡◌, ◌∙◌, ◌+◌, ◌-◌, ◌++◌, ℕ, Bool, List, inl, inr, true, ap, subst, sym, arith}
use Rattle.std.specs.List.{flat_map}
use Rattle.std.specs.Option.{option_copied}
use Rattle.std.specs.Prelude.{Option}
use Rattle.std.proofs.lemmas.Bool.{cases_lt}
use Rattle.outside.specs.Outside.{Names}
use Rattle.outside.proofs.Adding.{Adds-exit, Begins-none}
use Rattle.outside.proofs.Asking.{PassedAtMost-none}
use Rattle.bt_image.specs.Image.{LeafEntry}
use Rattle.laws_search.specs.Search.{tree_blocks}
use Rattle.bt_levels.specs.Files.{number_of, relation_of}
use Rattle.bt_levels.specs.Sound.{block_count, file_of, held_block, index_columns}
use Rattle.reports.specs.Added.{each_upto, joined, report_lists}
use Rattle.reports.specs.Lists.{Lists}
use Rattle.reports.proofs.Upto.{upto-cut, upto-next, upto-none}
use Rattle.bt_levels.specs.declared.sound.SoundTree.{SoundTree}
use Rattle.bt_steps.specs.Pages.{is_live_leaf}
use Rattle.join_distinct.specs.Apart.{AreApartBelow, IsApart}
use Rattle.join_meet.specs.Meeting.{all_entries, leaf_entries}
use Rattle.join_meet.proofs.Meets.{met-then, none, same}
use Rattle.join_leaf_pass.specs.Passes.{strays_of, strays_on}
use Rattle.join_leaf_pass.proofs.Reading.{passed-more}
use Rattle.join_leaf_pass.proofs.Passing.{targets-kept}
use Rattle.join_leaf_pass.proofs.BlockKeys.{all-blocks, blocks-next}
use Rattle.join_leaf_pass.proofs.check.Leaves.check_entries.Goals as goal

-- what is found of a block, and its entries
abbrev of-block : SoundTree → Option (List (List Bool)) → Names → ℕ → Lists
of-block tree targets names b = strays_on (number_of (file_of tree)) (index_columns tree) targets b (held_block names tree b)

abbrev keys-of : SoundTree → Names → ℕ → List LeafEntry
keys-of tree names b = leaf_entries (index_columns tree) (held_block names tree b)

-- one block more is apart
one-more : (tree : SoundTree) (names : Names) (k : ℕ) → AreApartBelow names tree (k + 1) → (is_live_leaf (held_block names tree (k + 1)) ≡ true → IsApart (index_columns tree) (held_block names tree (k + 1))) → AreApartBelow names tree (k + 1 + 1)
one-more tree names k so here b from below = elim (cases_lt b (k + 1)) [
  | inl low ↦ so b from low
  | inr high ↦
      let same : k + 1 ≡ b = omega (arith, high, below) in
      subst (λ (n : ℕ). is_live_leaf (held_block names tree n) ≡ true → IsApart (index_columns tree) (held_block names tree n)) same here
]

pub take_block-requires-clause-holds : goal.take_block-requires-clause-holds
take_block-requires-clause-holds g c names told = c.requires.holds names (sym c.loop-k.invariant.asked.same ∙ told)

pub take_block-requires-clause-hand : goal.take_block-requires-clause-hand
take_block-requires-clause-hand g c names told = c.loop-k.invariant.hand names (sym c.loop-k.invariant.asked.same ∙ told)

pub loop-k-init : goal.loop-k-init
loop-k-init g c = record {
  lists = λ names told targets. upto-none report_lists (of-block c.args.self.tree.now (option_copied c.args.self.targets) names) c.args.report.now;
  met = λ names told. none c.args.slots.now;
  apart = λ names told known b from below. absurd (omega (arith, from, below));
  hand = λ names told. c.new.ensures names (relation_of (file_of c.args.self.tree.now));
  asked = PassedAtMost-none;
}

pub loop-k-preserved : goal.loop-k-preserved
loop-k-preserved g c = record {
  lists = λ names told targets.
      let still = targets-kept (option_copied c.args.self.targets) _ c.args.slots.now c.loop-k.slots (c.loop-k.invariant.met names told) targets in
      upto-next report_lists (of-block c.args.self.tree.now (option_copied c.args.self.targets) names) c.loop-k.k c.args.report.now c.loop-k.report c.take_block.new.report (c.loop-k.invariant.lists names told targets)
      (c.in_ok-take_block.ensures.lists names (c.loop-k.invariant.asked.same ∙ told) still);
  met = λ names told.
      let keys = keys-of c.args.self.tree.now names in
      let k = c.loop-k.k in
      let before : List LeafEntry = flat_map keys (tree_blocks (k + 1)) in
      same (before ++ keys (k + 1)) (flat_map keys (tree_blocks (k + 1 + 1))) c.args.slots.now c.take_block.new.slots (sym (blocks-next keys k))
      (met-then before (keys (k + 1)) c.args.slots.now c.loop-k.slots c.take_block.new.slots (c.loop-k.invariant.met names told)
      (c.in_ok-take_block.ensures.met names (c.loop-k.invariant.asked.same ∙ told)));
  apart = λ names told known.
      let here = c.in_ok-take_block.ensures.apart names (c.loop-k.invariant.asked.same ∙ told) known in
      one-more c.args.self.tree.now names c.loop-k.k (c.loop-k.invariant.apart names told here.known) here.here;
  hand = λ names told. c.in_ok-take_block.ensures.hand names (c.loop-k.invariant.asked.same ∙ told);
  asked = passed-more c.loop-k.invariant.asked c.in_ok-take_block.ensures.asked;
}

pub returns-in_err-take_block-clause-lists : goal.returns-in_err-take_block-clause-lists
unfolding strays_of
returns-in_err-take_block-clause-lists g c names told targets =
    let tree = c.args.self.tree.now in
    let still = targets-kept (option_copied c.args.self.targets) _ c.args.slots.now c.loop-k.slots (c.loop-k.invariant.met names told) targets in
    let of = of-block tree (option_copied c.args.self.targets) names in
    Adds-exit report_lists c.from_residual-in_err-take_block.result _ c.args.report.now c.take_block.new.report (each_upto report_lists of (block_count tree - 1)) c.from_residual-in_err-take_block.ensures.1
    (upto-cut report_lists of c.loop-k.k (block_count tree - 1) c.args.report.now c.loop-k.report c.take_block.new.report (omega (arith, c.loop-k-test.true, c.saturating_sub-k-end.ensures, c.blocks-2.ensures)) (c.loop-k.invariant.lists names told targets)
    (c.in_err-take_block.ensures.lists names (c.loop-k.invariant.asked.same ∙ told) still))

pub returns-clause-lists : goal.returns-clause-lists
unfolding strays_of
returns-clause-lists g c names told targets =
    let tree = c.args.self.tree.now in
    let of = of-block tree (option_copied c.args.self.targets) names in
    let whole : c.loop-k.k ≡ block_count tree - 1 = omega (arith, c.loop-k-test.false, c.saturating_sub-k-end.ensures, c.blocks-2.ensures) in
    subst (λ (n : ℕ). c.loop-k.report ≡ joined c.args.report.now (each_upto report_lists of n)) whole (c.loop-k.invariant.lists names told targets)

pub returns-clause-met : goal.returns-clause-met
unfolding all_entries
returns-clause-met g c names told =
    let tree = c.args.self.tree.now in
    let keys = keys-of tree names in
    let whole : c.loop-k.k ≡ block_count tree - 1 = omega (arith, c.loop-k-test.false, c.saturating_sub-k-end.ensures, c.blocks-2.ensures) in
    same (flat_map keys (tree_blocks (c.loop-k.k + 1))) (flat_map keys (tree_blocks (block_count tree))) c.args.slots.now c.loop-k.slots (ap (flat_map keys) (all-blocks c.loop-k.k (block_count tree) whole))
    (c.loop-k.invariant.met names told)

pub returns-clause-apart : goal.returns-clause-apart
returns-clause-apart g c names told known b from below =
    let tree = c.args.self.tree.now in
    let whole : c.loop-k.k ≡ block_count tree - 1 = omega (arith, c.loop-k-test.false, c.saturating_sub-k-end.ensures, c.blocks-2.ensures) in
    c.loop-k.invariant.apart names told known b from (omega (arith, whole, below))

pub returns-in_err-begin-clause-lists : goal.returns-in_err-begin-clause-lists
returns-in_err-begin-clause-lists g c names told targets =
    let owed = strays_of names (option_copied c.args.self.targets) c.args.self.tree.now in
    Adds-exit report_lists c.from_residual.result _ c.args.report.now c.args.report.now owed c.from_residual.ensures.1 (Begins-none report_lists c.args.report.now owed)

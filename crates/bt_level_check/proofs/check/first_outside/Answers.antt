use Rattle.std.proofs.Common.{◌≡◌, ◌+◌, ◌<◌, refl, sym, subst, ◌∙◌, arith}
use Rattle.std.specs.Prelude.{None}
use Rattle.outside.proofs.Asking.{PassedAtMost-next, PassedAtMost-none}
use Rattle.rel_files.specs.Relation.{count_of}
use Rattle.laws_levels.specs.Walk.{first_outside}
use Rattle.laws_levels.proofs.Descent.{block_found, block_passed}
use Rattle.bt_pages.specs.Trees.{tree_seen}
use Rattle.bt_level_check.specs.Sets.{is_in}
use Rattle.bt_level_check.specs.Trees.{image_of}
use Rattle.bt_level_check.proofs.check.first_outside.Goals as goal

pub is_outside-requires-clause-attached : goal.is_outside-requires-clause-attached
is_outside-requires-clause-attached g c names told = c.requires.attached names (sym c.loop-k.invariant.asked.same ∙ told)

pub loop-k-init : goal.loop-k-init
loop-k-init g c = record { none = λ names told. refl; asked = PassedAtMost-none }

pub loop-k-preserved : goal.loop-k-preserved
loop-k-preserved g c = record {
  none = λ names told.
      let i = c.loop-k.invariant in
      block_passed (image_of (tree_seen names c.args.tree.now)) (is_in c.args.stands.now) (c.loop-k.k + 1) (omega arith) (i.none names told) (sym (c.in_ok-is_outside.ensures.told names (i.asked.same ∙ told)) ∙ c.if-branch.false);
  asked = PassedAtMost-next 2 c.loop-k.k c.loop-k.invariant.asked c.in_ok-is_outside.ensures.asked;
}

pub returns-then-branch-clause-told : goal.returns-then-branch-clause-told
returns-then-branch-clause-told g c names told =
    let i = c.loop-k.invariant in
    let lt : c.loop-k.k + 1 < count_of c.args.tree.now.relation.now = let t = c.loop-k-test.true in let e = c.blocks-k-end.ensures in omega (arith, t, e) in
    sym (block_found (image_of (tree_seen names c.args.tree.now)) (is_in c.args.stands.now) (c.loop-k.k + 1) (count_of c.args.tree.now.relation.now) (omega arith) lt (i.none names told) (sym (c.in_ok-is_outside.ensures.told names (i.asked.same ∙ told)) ∙ c.if-branch.true))

pub returns-clause-told : goal.returns-clause-told
returns-clause-told g c names told =
    let some = c.requires.some in
    let whole : c.loop-k.k + 1 ≡ count_of c.args.tree.now.relation.now = let e = c.blocks-k-end.ensures in let t = c.loop-k.auto.k-end in let f = c.loop-k-test.false in omega (arith, e, t, f, some) in
    sym (subst (λ n. first_outside (image_of (tree_seen names c.args.tree.now)) (is_in c.args.stands.now) n ≡ None) whole (c.loop-k.invariant.none names told))

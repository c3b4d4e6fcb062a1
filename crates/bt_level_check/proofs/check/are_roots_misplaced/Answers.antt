use Rattle.std.proofs.Common.{sym, ◌∙◌}
use Rattle.bt_pages.specs.Trees.{tree_seen}
use Rattle.bt_level_check.proofs.Roots.{by_fast, by_levels, by_root}
use Rattle.bt_level_check.proofs.check.are_roots_misplaced.Goals as goal

pub is_misplaced-requires-2 : goal.is_misplaced-requires-2
is_misplaced-requires-2 g c = record { attached = λ names told. c.requires.attached names (sym c.in_ok-is_root_misplaced.ensures.asked.same ∙ told) }

pub returns-then-is_root_misplaced-clause-told : goal.returns-then-is_root_misplaced-clause-told
returns-then-is_root_misplaced-clause-told g c names told holds =
    let tree = tree_seen names c.args.tree.now in
    let root = c.in_ok-is_root_misplaced.ensures in
    let fast = c.in_ok-is_fast_misplaced.ensures in
    by_root tree holds.pages c.args.meta.now (c.requires.meta names told) c.in_ok-is_root_misplaced.is_root_misplaced c.in_ok-is_fast_misplaced.is_fast_misplaced
    (λ inside. root.told names told inside) (λ inside. fast.told names (root.asked.same ∙ told) inside) c.if-is_root_misplaced.true

pub returns-then-is_fast_misplaced-clause-told : goal.returns-then-is_fast_misplaced-clause-told
returns-then-is_fast_misplaced-clause-told g c names told holds =
    let tree = tree_seen names c.args.tree.now in
    let root = c.in_ok-is_root_misplaced.ensures in
    let fast = c.in_ok-is_fast_misplaced.ensures in
    by_fast tree holds.pages c.args.meta.now (c.requires.meta names told) c.in_ok-is_root_misplaced.is_root_misplaced c.in_ok-is_fast_misplaced.is_fast_misplaced
    (λ inside. root.told names told inside) (λ inside. fast.told names (root.asked.same ∙ told) inside) c.if-is_root_misplaced.false c.if-is_fast_misplaced.true

pub returns-else-is_fast_misplaced-clause-told : goal.returns-else-is_fast_misplaced-clause-told
returns-else-is_fast_misplaced-clause-told g c names told holds =
    let tree = tree_seen names c.args.tree.now in
    let root = c.in_ok-is_root_misplaced.ensures in
    let fast = c.in_ok-is_fast_misplaced.ensures in
    by_levels tree holds.pages c.args.meta.now (c.requires.meta names told) c.in_ok-is_root_misplaced.is_root_misplaced c.in_ok-is_fast_misplaced.is_fast_misplaced
    (λ inside. root.told names told inside) (λ inside. fast.told names (root.asked.same ∙ told) inside) c.if-is_root_misplaced.false c.if-is_fast_misplaced.false

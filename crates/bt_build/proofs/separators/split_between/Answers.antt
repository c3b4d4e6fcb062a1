use Rattle.std.proofs.Common.{◌≡◌, ap, Some, ◌+◌, ◌-◌, ◌∙◌, ℕ, sym, subst, arith, length, List}
use Rattle.laws_building.specs.Splits.{split_values}
use Rattle.key_orders.specs.Keys.{columns_of}
use Rattle.key_storage.specs.Stored.{values_read}
use Rattle.bt_build.specs.Separators.{split_of}
use Rattle.bt_build.specs.Source.{entry_of}
use Rattle.bt_build.specs.Places.{tid_of}
use Rattle.bt_build.proofs.SortedLaws.{first_is}
use Rattle.bt_build.proofs.SplitLaws.{rest_split, split_end, split_here, split_later}
use Rattle.bt_build.proofs.separators.split_between.Goals as goal

pub loop-i-init : goal.loop-i-init
loop-i-init c =
    let s = c.args.source in
    let n : length s.specs.now - 0 ≡ length s.specs.now = omega arith in
    let a = (λ i. values_read (n i) (c.behind_count-a.ensures i)) ∙ first_is s.specs.now s.more.now s.arena.now c.args.left c.requires.left in
    let b = (λ i. values_read (n i) (c.behind_count-b.ensures i)) ∙ first_is s.specs.now s.more.now s.arena.now c.args.right c.requires.right in
    let many : length (split_of s.specs.now (entry_of s c.args.left) (entry_of s c.args.right)).kept
    ≡ length (rest_split s.specs.now (tid_of c.args.left) 0 c.behind_count-a.result.now c.behind_count-b.result.now).kept =
    (λ i. length (split_values (columns_of s.specs.now) (tid_of c.args.left) (sym a i) (sym b i) 0).kept) in (
      omega (arith, many),
      (λ i. (split_values (columns_of s.specs.now) (tid_of c.args.left) (sym a i) (sym b i) 0).tid),
    )

pub returns-then-is_ne-clause-count : goal.returns-then-is_ne-clause-count
returns-then-is_ne-clause-count c =
    let s = c.args.source in
    (split_here s.specs.now (tid_of c.args.left) c.loop-i.i _ c.loop-i.a.now c.loop-i.b.now _ _ c.compare_in_column.result c.loop-i-test.true c.compare_in_column.ensures
    c.read_value.ensures.value c.read_value-in-loop-i.ensures.value (split_of s.specs.now (entry_of s c.args.left) (entry_of s c.args.right)) (sym c.is_ne.ensures ∙ c.if-is_ne.true) c.loop-i.invariant).0

pub returns-then-is_ne-clause-tid : goal.returns-then-is_ne-clause-tid
returns-then-is_ne-clause-tid c =
    let s = c.args.source in
    (split_here s.specs.now (tid_of c.args.left) c.loop-i.i _ c.loop-i.a.now c.loop-i.b.now _ _ c.compare_in_column.result c.loop-i-test.true c.compare_in_column.ensures
    c.read_value.ensures.value c.read_value-in-loop-i.ensures.value (split_of s.specs.now (entry_of s c.args.left) (entry_of s c.args.right)) (sym c.is_ne.ensures ∙ c.if-is_ne.true) c.loop-i.invariant).1

pub loop-i-preserved : goal.loop-i-preserved
loop-i-preserved c =
    let s = c.args.source in
    let sep = (split_of s.specs.now (entry_of s c.args.left) (entry_of s c.args.right)) in
    subst (λ (w : List ℕ × List ℕ). (length sep.kept ≡ c.loop-i.i + 1 + length (rest_split s.specs.now (tid_of c.args.left) (c.loop-i.i + 1) w.0 w.1).kept)
    × (sep.tid ≡ (rest_split s.specs.now (tid_of c.args.left) (c.loop-i.i + 1) w.0 w.1).tid))
    (λ j. (sym c.read_value.ensures.rest j, sym c.read_value-in-loop-i.ensures.rest j))
    (split_later s.specs.now (tid_of c.args.left) c.loop-i.i _ c.loop-i.a.now c.loop-i.b.now _ _ c.compare_in_column.result c.loop-i-test.true c.compare_in_column.ensures
    c.read_value.ensures.value c.read_value-in-loop-i.ensures.value (split_of s.specs.now (entry_of s c.args.left) (entry_of s c.args.right)) (sym c.is_ne.ensures ∙ c.if-is_ne.false) c.loop-i.invariant)

pub returns-clause-count : goal.returns-clause-count
returns-clause-count c =
    let s = c.args.source in
    (split_end s.specs.now (tid_of c.args.left) c.loop-i.i c.loop-i.a.now c.loop-i.b.now (split_of s.specs.now (entry_of s c.args.left) (entry_of s c.args.right)) (omega arith) c.loop-i.invariant).0

pub returns-clause-tid : goal.returns-clause-tid
returns-clause-tid c =
    let s = c.args.source in
    ap Some c.tid.ensures
    ∙ (split_end s.specs.now (tid_of c.args.left) c.loop-i.i c.loop-i.a.now c.loop-i.b.now (split_of s.specs.now (entry_of s c.args.left) (entry_of s c.args.right)) (omega arith) c.loop-i.invariant).1

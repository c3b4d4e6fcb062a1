-- A header whose attributes are where they should be ends within its tuple.
use Rattle.std.proofs.Common.{◌≡◌, ℕ, ◌≤◌, Bool, true, false, cond, refl, ◌+◌, ◌*◌, ◌/◌, arith}
use Rattle.std.specs.Prelude.{◌||◌, ◌==◌, not, nat_lt}
use Rattle.std.proofs.lemmas.Bool.{eqb-true, ltb-false, not-false, true≢false}
use Rattle.tuple_head.specs.declared.HeapHead.{HeapHead}
use Rattle.tuple_head.specs.Head.{expected_hoff, has_misplaced_attributes, has_nulls}

or_false : (a b : Bool) → a || b ≡ false → (a ≡ false) × (b ≡ false)
or_false true b h = absurd (true≢false h)
or_false false b h = (refl, h)

hoff_by : (b : Bool) (n : ℕ) → 23 ≤ cond b ((23 + (n + 7) / 8 + 7) / 8 * 8) 24
hoff_by true n = omega arith
hoff_by false n = omega arith

expected_hoff-least : (head : HeapHead) → 23 ≤ expected_hoff head
unfolding expected_hoff
expected_hoff-least head = hoff_by (has_nulls head) _

pub placed : (len : ℕ) (head : HeapHead) → has_misplaced_attributes len head ≡ false → (23 ≤ head.hoff) × (head.hoff ≤ len)
placed len head h =
    let parts = or_false (not (head.hoff == expected_hoff head)) (nat_lt len head.hoff) h in
    let same : head.hoff ≡ expected_hoff head = eqb-true head.hoff (expected_hoff head) (not-false _ parts.0) in
    let least = expected_hoff-least head in
    (rw same least, ltb-false len head.hoff parts.1)

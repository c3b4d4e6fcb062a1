-- The test of a pointer's numbers says what its sentence says.
use Rattle.std.proofs.Common.{◌≡◌, Bool, true, false, refl, inl, inr}
use Rattle.std.specs.Prelude.{not, ◌||◌, nat_le}
use Rattle.std.proofs.lemmas.Bool.{and_from, and_parts, both_ways, cases_Bool, le-leb, leb-true, or_cases, not-true}
use Rattle.varlena_attrs.specs.declared.places.ToastPointer.{ToastPointer}
use Rattle.toast_chunks.specs.Laws.{PointerIsTested}
use Rattle.toast_chunks.specs.Pointer.{KeepsPointerRule, is_compressed, keeps_pointer_rule, method_of}

or_right : (a b : Bool) → b ≡ true → a || b ≡ true
or_right true b e = refl
or_right false b e = e

tells : (p : ToastPointer) → keeps_pointer_rule p ≡ true → KeepsPointerRule p
unfolding keeps_pointer_rule
tells p h =
    let last = and_parts _ _ h in
    let third = and_parts _ _ last.0 in
    let second = and_parts _ _ third.0 in
    record {
      least = leb-true _ _ second.0;
      most = leb-true _ _ second.1;
      stored = leb-true _ _ third.1;
      method = λ compressed. elim (or_cases _ _ last.1) [ inl e ↦ absurd (both_ways _ (not-true _ e) compressed) | inr e ↦ leb-true _ _ e ];
    }

known : (p : ToastPointer) → KeepsPointerRule p → not (is_compressed p) || nat_le (method_of p) 1 ≡ true
known p k =
    elim (cases_Bool (is_compressed p)) [
      | inl e ↦ or_right _ _ (le-leb _ _ (k.method e))
      | inr e ↦ go (is_compressed p) e
    ]
  where
    go : (b : Bool) → b ≡ false → not b || nat_le (method_of p) 1 ≡ true
    go true e = absurd (both_ways true e refl)
    go false e = refl

from : (p : ToastPointer) → KeepsPointerRule p → keeps_pointer_rule p ≡ true
unfolding keeps_pointer_rule
from p k =
    and_from _ _ (and_from _ _ (and_from _ _ (le-leb _ _ k.least) (le-leb _ _ k.most)) (le-leb _ _ k.stored)) (known p k)

pub pointer-sentence : (p : ToastPointer) → PointerIsTested p
pointer-sentence p = (tells p, from p)

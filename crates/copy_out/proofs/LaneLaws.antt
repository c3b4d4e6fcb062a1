-- What a comparison of 32 bytes with one says of each.
use Rattle.std.proofs.Common.{◌≡◌, ℕ, suc, zero, ◌%◌, ◌^◌, ◌<◌, ◌≤◌, ◌==◌, List, [], ◌∷◌, Bool, true, false, cond, length, get_or, ltb, map, replicate, refl, sym, ap, ◌∙◌, arith, w8}
use Rattle.std.specs.Prelude.{None, not}
use Rattle.std.specs.Simd.Lanes.{zip2, mask_l, top}
use Rattle.std.proofs.lemmas.Simd.{length-zip2, get_or-zip2, get_or-replicate, tops_compared, mask_l-mod}
use Rattle.std.proofs.lemmas.Bool.{eqb-true, ltb-false}
use Rattle.std.proofs.lemmas.Bool.Decides.{nat_tests}
use Rattle.copy_out.specs.Escapes.{letter_of}

zero_mask : (bs : List Bool) (k : ℕ) → mask_l bs ≡ 0 → get_or bs k false ≡ false
zero_mask [] k e = refl
zero_mask (true ∷ bs) k e = absurd (omega (arith, e))
zero_mask (false ∷ bs) zero e = refl
zero_mask (false ∷ bs) (suc k) e = zero_mask bs k (omega (arith, e))

-- where no bit is set the test holds of no lane
pub no_lane : (t : ℕ → ℕ → Bool) (v : List ℕ) (x : ℕ) → length v ≡ 32
    → mask_l (map (top 7) (zip2 (λ a b. cond (t a b) 255 0) v (replicate 32 x))) % 2 ^ 64 ≡ 0 → (k : ℕ) → k < 32 → t (get_or v k 0) x ≡ false
no_lane t v x long e k lt =
    let many : length (zip2 t v (replicate 32 x)) ≡ 32 = length-zip2 t v (replicate 32 x) long ∙ long in
    let mask = ap (λ ms. mask_l ms % 2 ^ 64) (tops_compared w8 t v (replicate 32 x)) ∙ mask_l-mod (zip2 t v (replicate 32 x)) 64 (omega (arith, many)) in
    sym (get_or-zip2 t v (replicate 32 x) k 0 0 false (omega (arith, long)) lt ∙ ap (t (get_or v k 0)) (get_or-replicate 32 k x 0 lt))
    ∙ zero_mask (zip2 t v (replicate 32 x)) k (sym mask ∙ e)

-- a byte from 14 on that is no backslash has no letter
pub high_has_none : (b : ℕ) → 14 ≤ b → (b == 92) ≡ false → letter_of b ≡ None
unfolding letter_of
high_has_none b high other = grind (arith, nat_tests)

pub from_not_below : (b n : ℕ) → ltb b n ≡ false → n ≤ b
from_not_below b n e = ltb-false b n e

is_true : (b : Bool) → not b ≡ false → b ≡ true
is_true true e = refl
is_true false e = absurd cc

-- no bit is set
pub none_by : (mask : ℕ) → not (mask == 0) ≡ false → mask ≡ 0
none_by mask e = eqb-true mask 0 (is_true (mask == 0) e)

-- Sums of lists of coefficients.
use Rattle.std.proofs.Common.{◌≡◌, ℕ, zero, suc, ◌<◌, ◌≤◌, Bool, true, false, List, [], ◌∷◌, ◌++◌, length, refl, ap, arith}
use Rattle.std.specs.Prelude.{◌&&◌}
use Rattle.cluster_control.specs.Crc.{added, times, xor, zeros}

pub xor_assoc : (x y z : Bool) → xor (xor x y) z ≡ xor x (xor y z)
xor_assoc false y z = refl
xor_assoc true false z = refl
xor_assoc true true false = refl
xor_assoc true true true = refl

pub xor-false : (x : Bool) → xor x false ≡ x
xor-false false = refl
xor-false true = refl

xor_back : (x y : Bool) → xor x (xor x y) ≡ y
xor_back false y = refl
xor_back true false = refl
xor_back true true = refl

pub and-true : (a : Bool) → (a && true) ≡ a
and-true false = refl
and-true true = refl

pub added_assoc : (a b c : List Bool) → added (added a b) c ≡ added a (added b c)
added_assoc [] b c = refl
added_assoc (x ∷ a) [] c = refl
added_assoc (x ∷ a) (y ∷ b) [] = refl
added_assoc (x ∷ a) (y ∷ b) (z ∷ c) = λ i. xor_assoc x y z i ∷ added_assoc a b c i

pub length_added : (a b : List Bool) → length a ≤ length b → length (added a b) ≡ length b
length_added [] b le = refl
length_added (x ∷ a) [] le = absurd (omega arith)
length_added (x ∷ a) (y ∷ b) le = ap (λ n. suc n) (length_added a b (omega arith))

-- added twice it is gone
pub added_back : (a b : List Bool) → length a ≤ length b → added a (added a b) ≡ b
added_back [] b le = refl
added_back (x ∷ a) [] le = absurd (omega arith)
added_back (x ∷ a) (y ∷ b) le = λ i. xor_back x y i ∷ added_back a b (omega arith) i

-- what is all false changes nothing
pub added_zeros : (n : ℕ) (b : List Bool) → n ≤ length b → added (zeros n) b ≡ b
added_zeros zero b le = refl
added_zeros (suc n) [] le = absurd (omega arith)
added_zeros (suc n) (y ∷ b) le = ap (λ (t : List Bool). y ∷ t) (added_zeros n b (omega arith))

pub to_zeros : (b : List Bool) → added b (zeros (length b)) ≡ b
to_zeros [] = refl
to_zeros (y ∷ b) = λ i. xor-false y i ∷ to_zeros b i

pub added_times_false : (a b : List Bool) → length a ≤ length b → added (times false a) b ≡ b
added_times_false [] b le = refl
added_times_false (x ∷ a) [] le = absurd (omega arith)
added_times_false (x ∷ a) (y ∷ b) le = ap (λ (t : List Bool). y ∷ t) (added_times_false a b (omega arith))

-- a last false changes nothing of what is longer
pub added_last : (a b : List Bool) → length a < length b → added (a ++ false ∷ []) b ≡ added a b
added_last [] [] lt = absurd (omega arith)
added_last [] (y ∷ b) lt = refl
added_last (x ∷ a) [] lt = absurd (omega arith)
added_last (x ∷ a) (y ∷ b) lt = ap (λ (t : List Bool). xor x y ∷ t) (added_last a b (omega arith))

pub times_true : (a : List Bool) → times true a ≡ a
times_true [] = refl
times_true (x ∷ a) = ap (λ (t : List Bool). x ∷ t) (times_true a)

pub length_times : (t : Bool) (a : List Bool) → length (times t a) ≡ length a
length_times t [] = refl
length_times t (x ∷ a) = ap (λ n. suc n) (length_times t a)

pub length_zeros : (n : ℕ) → length (zeros n) ≡ n
length_zeros zero = refl
length_zeros (suc n) = ap (λ n. suc n) (length_zeros n)

-- one zero more at the end is one more at the head
pub zeros_more : (n : ℕ) (rest : List Bool) → zeros (suc n) ++ rest ≡ zeros n ++ (false ∷ rest)
zeros_more zero rest = refl
zeros_more (suc n) rest = ap (λ (t : List Bool). false ∷ t) (zeros_more n rest)

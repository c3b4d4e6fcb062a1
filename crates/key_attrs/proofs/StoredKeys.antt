-- Values that are stored one behind the other, and what is left of them.
use Rattle.std.proofs.Common.{◌≡◌, ◌+◌, ◌-◌, ◌<◌, ℕ, zero, suc, List, [], ◌∷◌, drop, get_or, length, refl, sym, ap, ◌∙◌, arith, add-one, drop-cons}
use Rattle.key_orders.specs.declared.columns.Value.{Value}
use Rattle.key_storage.specs.Stored.{value_read, values_read}

abbrev first_of : Value → List Value → Value
first_of d [] = d
first_of d (v ∷ vs) = v

abbrev rest_of : List Value → List Value
rest_of [] = []
rest_of (v ∷ vs) = vs

-- so many are read
pub held_count : (n : ℕ) (bytes : List ℕ) → length (values_read n bytes) ≡ n
held_count zero bytes = refl
held_count (suc n) bytes = ap suc (held_count n (value_read bytes).1)

next : (n k : ℕ) (left : List ℕ) → k < n → values_read (n - k) left ≡ (value_read left).0 ∷ values_read (n - (k + 1)) (value_read left).1
next n k left lt = let is : n - k ≡ suc (n - (k + 1)) = omega arith in ap (λ m. values_read m left) is

split : (n k : ℕ) (left : List ℕ) (key : List Value) (d : Value) → k < n → k < length key → values_read (n - k) left ≡ drop k key
    → (value_read left).0 ∷ values_read (n - (k + 1)) (value_read left).1 ≡ get_or key k d ∷ drop (k + 1) key
split n k left key d lt within held =
    sym (next n k left lt) ∙ held ∙ drop-cons key k d within ∙ ap (λ m. get_or key k d ∷ drop m key) (sym (add-one k))

-- the value at a number is the first of those that are left
pub held_at : (n k : ℕ) (left : List ℕ) (key : List Value) (d : Value) → k < n → k < length key → values_read (n - k) left ≡ drop k key
    → get_or key k d ≡ (value_read left).0
held_at n k left key d lt within held = sym (ap (first_of d) (split n k left key d lt within held))

-- and behind it are the others
pub held_behind : (n k : ℕ) (left : List ℕ) (key : List Value) (d : Value) → k < n → k < length key → values_read (n - k) left ≡ drop k key
    → values_read (n - (k + 1)) (value_read left).1 ≡ drop (k + 1) key
held_behind n k left key d lt within held = ap rest_of (split n k left key d lt within held)

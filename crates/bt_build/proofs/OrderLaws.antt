-- Stored keys, compared value by value.
use Rattle.std.proofs.Common.{◌≡◌, ◌<◌, ◌+◌, ◌-◌, ◌∙◌, ℕ, zero, suc, true, false, List, [], ◌∷◌, length, refl, sym, ap, arith, add-one, get_or, Ordering, Less, Equal, Greater}
use Rattle.std.specs.Ordering.{is_ne, ordering_then}
use Rattle.laws_search.specs.Keys.{compare_values}
use Rattle.key_orders.specs.declared.columns.KeySpec.{KeySpec}
use Rattle.key_orders.specs.declared.columns.Value.{Value}
use Rattle.key_orders.specs.Keys.{columns_of}
use Rattle.key_orders.specs.Orders.{column_order}
use Rattle.key_storage.specs.Stored.{value_read, values_read}
use Rattle.key_storage.proofs.StoredLaws.{next_read}

pub then_ne : (o r : Ordering) → is_ne o ≡ true → ordering_then o r ≡ o
then_ne Less r e = refl
then_ne Equal r e = absurd cc
then_ne Greater r e = refl

pub then_eq : (o r : Ordering) → is_ne o ≡ false → ordering_then o r ≡ r
then_eq Less r e = absurd cc
then_eq Equal r e = refl
then_eq Greater r e = absurd cc

-- the order of the i-th column
column_at : (specs : List KeySpec) (i : ℕ) (k : KeySpec) → i < length specs → columns_of specs i ≡ column_order (get_or specs i k)
column_at [] i k lt = absurd (omega arith)
column_at (s ∷ ks) zero k lt = refl
column_at (s ∷ ks) (suc i) k lt = column_at ks i k (omega arith)

-- what two values compare as in their column
pub in_column : (specs : List KeySpec) (i : ℕ) (k : KeySpec) (x y v w : Value) (o : Ordering) → i < length specs
    → o ≡ column_order (get_or specs i k) x y → x ≡ v → y ≡ w → columns_of specs i v w ≡ o
in_column specs i k x y v w o lt e p q =
    ap (λ (R : Value → Value → Ordering). R v w) (column_at specs i k lt) ∙ (sym (λ j. column_order (get_or specs i k) (p j) (q j)) ∙ sym e)

-- one column more
pub next_column : (specs : List KeySpec) (i : ℕ) (k : KeySpec) (left right : List ℕ) (x y : Value) (o : Ordering) → i < length specs
    → o ≡ column_order (get_or specs i k) x y → x ≡ (value_read left).0 → y ≡ (value_read right).0
    → compare_values (columns_of specs) i (values_read (length specs - i) left) (values_read (length specs - i) right)
    ≡ ordering_then o (compare_values (columns_of specs) (i + 1) (values_read (length specs - (i + 1)) (value_read left).1) (values_read (length specs - (i + 1)) (value_read right).1))
next_column specs i k left right x y o lt e p q =
    let n : ℕ = length specs in
    let rest : ℕ → Ordering = λ j. compare_values (columns_of specs) j (values_read (n - (i + 1)) (value_read left).1) (values_read (n - (i + 1)) (value_read right).1) in
    (λ j. compare_values (columns_of specs) i (next_read n i left lt j) (next_read n i right lt j))
    ∙ ap (λ (w : Ordering). ordering_then w (rest (suc i))) (in_column specs i k x y (value_read left).0 (value_read right).0 o lt e p q)
    ∙ ap (λ (j : ℕ). ordering_then o (rest j)) (sym (add-one i))

pub none_left : (specs : List KeySpec) (i : ℕ) (left right : List ℕ) → length specs ≡ i
    → compare_values (columns_of specs) i (values_read (length specs - i) left) (values_read (length specs - i) right) ≡ Equal
none_left specs i left right e =
    let none : length specs - i ≡ 0 = omega (arith, e) in
    ap (λ (n : ℕ). compare_values (columns_of specs) i (values_read n left) (values_read n right)) none

-- The separator of two entries, column by column.
use Rattle.std.proofs.Common.{◌≡◌, ◌<◌, ◌+◌, ◌-◌, ◌∙◌, ℕ, suc, true, false, List, [], ◌∷◌, length, refl, sym, ap, arith, add-one, Some, None}
use Rattle.std.specs.Ordering.{is_ne}
use Rattle.std.specs.declared.cmp.Ordering.{Ordering}
use Rattle.std.specs.declared.cmp.Ordering.TheVariants.{Less, Equal, Greater}
use Rattle.laws_search.specs.Keys.{Separator}
use Rattle.laws_building.specs.Splits.{keep_by, split_values}
use Rattle.key_orders.specs.declared.columns.KeySpec.{KeySpec}
use Rattle.key_orders.specs.declared.columns.Value.{Value}
use Rattle.key_orders.specs.declared.Tid.{Tid}
use Rattle.key_orders.specs.Keys.{columns_of}
use Rattle.key_orders.specs.Orders.{column_order}
use Rattle.key_storage.specs.Stored.{value_read, values_read}
use Rattle.key_storage.proofs.StoredLaws.{next_read}
use Rattle.std.proofs.Common.{get_or}
use Rattle.bt_build.proofs.OrderLaws.{in_column}

-- what the rest of two keys gives, from column i on
abbrev pub rest_split : List KeySpec → Tid → ℕ → (left right : List ℕ) → Separator Value Tid
rest_split specs tid i left right = split_values (columns_of specs) tid (values_read (length specs - i) left) (values_read (length specs - i) right) i

differs : (o : Ordering) (y : Value) (s : Separator Value Tid) → is_ne o ≡ true → keep_by o y s ≡ record { kept = y ∷ []; tid = None }
differs Less y s e = refl
differs Equal y s e = absurd cc
differs Greater y s e = refl

agrees : (o : Ordering) (y : Value) (s : Separator Value Tid) → is_ne o ≡ false → keep_by o y s ≡ record { kept = y ∷ s.kept; tid = s.tid }
agrees Less y s e = absurd cc
agrees Equal y s e = refl
agrees Greater y s e = absurd cc

module _ (specs : List KeySpec) (tid : Tid) (i : ℕ) (k : KeySpec) (left right : List ℕ) (x y : Value) (o : Ordering) (lt : i < length specs)
    (e : o ≡ column_order (get_or specs i k) x y) (p : x ≡ (value_read left).0) (q : y ≡ (value_read right).0) where
  next_split : rest_split specs tid i left right ≡ keep_by o (value_read right).0 (rest_split specs tid (i + 1) (value_read left).1 (value_read right).1)
  next_split =
      let n : ℕ = length specs in
      let rest : ℕ → Separator Value Tid = λ j. split_values (columns_of specs) tid (values_read (n - (i + 1)) (value_read left).1) (values_read (n - (i + 1)) (value_read right).1) j in
      (λ j. split_values (columns_of specs) tid (next_read n i left lt j) (next_read n i right lt j) i)
      ∙ ap (λ (w : Ordering). keep_by w (value_read right).0 (rest (suc i))) (in_column specs i k x y (value_read left).0 (value_read right).0 o lt e p q)
      ∙ ap (λ (j : ℕ). keep_by o (value_read right).0 (rest j)) (sym (add-one i))

  pub split_here : (s : Separator Value Tid) → is_ne o ≡ true
      → (length s.kept ≡ i + length (rest_split specs tid i left right).kept) × (s.tid ≡ (rest_split specs tid i left right).tid)
      → (i + 1 ≡ length s.kept) × (None ≡ s.tid)
  split_here s ne so =
      let is = next_split ∙ differs o (value_read right).0 (rest_split specs tid (i + 1) (value_read left).1 (value_read right).1) ne in
      let one : length (rest_split specs tid i left right).kept ≡ 1 = ap (λ (z : Separator Value Tid). length z.kept) is in
      (omega (arith, so.0, one), sym (so.1 ∙ ap (λ (z : Separator Value Tid). z.tid) is))

  pub split_later : (s : Separator Value Tid) → is_ne o ≡ false
      → (length s.kept ≡ i + length (rest_split specs tid i left right).kept) × (s.tid ≡ (rest_split specs tid i left right).tid)
      → (length s.kept ≡ i + 1 + length (rest_split specs tid (i + 1) (value_read left).1 (value_read right).1).kept)
      × (s.tid ≡ (rest_split specs tid (i + 1) (value_read left).1 (value_read right).1).tid)
  split_later s eq so =
      let is = next_split ∙ agrees o (value_read right).0 (rest_split specs tid (i + 1) (value_read left).1 (value_read right).1) eq in
      let one : length (rest_split specs tid i left right).kept ≡ suc (length (rest_split specs tid (i + 1) (value_read left).1 (value_read right).1).kept) =
      ap (λ (z : Separator Value Tid). length z.kept) is in
      (omega (arith, so.0, one), so.1 ∙ ap (λ (z : Separator Value Tid). z.tid) is)

pub split_end : (specs : List KeySpec) (tid : Tid) (i : ℕ) (left right : List ℕ) (s : Separator Value Tid) → length specs ≡ i
    → (length s.kept ≡ i + length (rest_split specs tid i left right).kept) × (s.tid ≡ (rest_split specs tid i left right).tid)
    → (length specs ≡ length s.kept) × (Some tid ≡ s.tid)
split_end specs tid i left right s end so =
    let none : length specs - i ≡ 0 = omega (arith, end) in
    let is : rest_split specs tid i left right ≡ record { kept = []; tid = Some tid } =
    ap (λ (n : ℕ). split_values (columns_of specs) tid (values_read n left) (values_read n right) i) none in
    let zero_more : length (rest_split specs tid i left right).kept ≡ 0 = ap (λ (z : Separator Value Tid). length z.kept) is in
    (omega (arith, so.0, zero_more, end), sym (so.1 ∙ ap (λ (z : Separator Value Tid). z.tid) is))

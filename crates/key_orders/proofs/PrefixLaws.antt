-- Where the number of a key is smaller, the key is below.
use Rattle.std.proofs.Common.{◌≡◌, ℕ, ◌<◌, ◌≤◌, Bool, true, false, List, [], ◌∷◌, refl, ap, arith}
use Rattle.std.proofs.Common.{Ordering, Less}
use Rattle.std.specs.Prelude.{Option, ℤ, pos, negsuc, ⊤}
use Rattle.std.specs.Ordering.{ordering_then, int_cmp}
use Rattle.laws_search.specs.Keys.{compare_values}
use Rattle.key_orders.specs.declared.columns.KeySpec.{KeySpec}
use Rattle.key_orders.specs.declared.columns.Value.{Value}
use Rattle.key_orders.specs.declared.columns.Value.TheVariants.{Null, Bool as BoolValue, Int, Bytes}
use Rattle.key_orders.specs.declared.types.ValueKind.{ValueKind}
use Rattle.key_orders.specs.declared.types.ValueKind.TheVariants.{Flag, Number, Octets}
use Rattle.key_orders.specs.Types.{type_of}
use Rattle.key_orders.specs.Orders.{value_order, directed, null_table, column_order, fits_kind, fits_type}
use Rattle.key_orders.specs.Keys.{columns_of, fits_columns}
use Rattle.key_orders.specs.Prefixes.{greatest, rising_number, directed_number, null_number, value_number, key_number, IsHeld, IsFirstHeld, IsPrefix}
use Rattle.std.proofs.lemmas.Bool.{and_parts}
use Rattle.key_orders.proofs.Leading.{eight_below, eight_under}

-- ---- values that fit the same column are of one kind, or null

abbrev kind_number : ValueKind → ℕ
kind_number Flag = 1
kind_number (Number signed low high) = 2
kind_number Octets = 3

abbrev IsOfKind : ℕ → Value → Type 0
IsOfKind n Null = ⊤
IsOfKind n (BoolValue b) = n ≡ 1
IsOfKind n (Int z) = n ≡ 2
IsOfKind n (Bytes bytes) = n ≡ 3

fitting_is_of_kind : (kind : ValueKind) (len : Option ℕ) (v : Value) → fits_kind kind len v ≡ true → IsOfKind (kind_number kind) v
fitting_is_of_kind Flag len Null h = tt
fitting_is_of_kind Flag len (BoolValue b) h = refl
fitting_is_of_kind Flag len (Int z) h = absurd cc
fitting_is_of_kind Flag len (Bytes bytes) h = absurd cc
fitting_is_of_kind (Number signed low high) len Null h = tt
fitting_is_of_kind (Number signed low high) len (BoolValue b) h = absurd cc
fitting_is_of_kind (Number signed low high) len (Int z) h = refl
fitting_is_of_kind (Number signed low high) len (Bytes bytes) h = absurd cc
fitting_is_of_kind Octets len Null h = tt
fitting_is_of_kind Octets len (BoolValue b) h = absurd cc
fitting_is_of_kind Octets len (Int z) h = absurd cc
fitting_is_of_kind Octets len (Bytes bytes) h = refl

-- ---- numbers of values

rising_under : (v : Value) → IsHeld v → rising_number v ≤ greatest
rising_under Null h = omega arith
rising_under (BoolValue false) h = omega arith
rising_under (BoolValue true) h = omega arith
rising_under (Int (pos n)) h = let few : n < 9223372036854775808 = h.sfits in omega arith
rising_under (Int (negsuc n)) h = omega arith
rising_under (Bytes bytes) h = eight_under bytes h

directed_under : (falls : Bool) (n : ℕ) → n ≤ greatest → directed_number falls n ≤ greatest
directed_under false n h = h
directed_under true n h = omega arith

rising_bools : (b c : Bool) → rising_number (BoolValue b) < rising_number (BoolValue c) → value_order (BoolValue b) (BoolValue c) ≡ Less
rising_bools false false h = absurd (omega arith)
rising_bools false true h = refl
rising_bools true false h = absurd (omega arith)
rising_bools true true h = absurd (omega arith)

rising_ints : (x y : ℤ) → rising_number (Int x) < rising_number (Int y) → int_cmp x y ≡ Less
rising_ints (pos x) (pos y) h = grind arith
rising_ints (pos x) (negsuc y) h = absurd (omega arith)
rising_ints (negsuc x) (pos y) h = refl
rising_ints (negsuc x) (negsuc y) h = grind arith

-- values rise with their numbers
rises : (n : ℕ) (v w : Value) → IsOfKind n v → IsOfKind n w → IsHeld v → IsHeld w → rising_number v < rising_number w → value_order v w ≡ Less
rises n Null Null p q left right h = absurd (omega arith)
rises n Null (BoolValue c) p q left right h = refl
rises n Null (Int y) p q left right h = refl
rises n Null (Bytes ys) p q left right h = refl
rises n (BoolValue b) Null p q left right h = absurd (omega arith)
rises n (BoolValue b) (BoolValue c) p q left right h = rising_bools b c h
rises n (BoolValue b) (Int y) p q left right h = absurd (omega arith)
rises n (BoolValue b) (Bytes ys) p q left right h = absurd (omega arith)
rises n (Int x) Null p q left right h = absurd (omega arith)
rises n (Int x) (BoolValue c) p q left right h = absurd (omega arith)
rises n (Int x) (Int y) p q left right h = rising_ints x y h
rises n (Int x) (Bytes ys) p q left right h = absurd (omega arith)
rises n (Bytes xs) Null p q left right h = absurd (omega arith)
rises n (Bytes xs) (BoolValue c) p q left right h = absurd (omega arith)
rises n (Bytes xs) (Int y) p q left right h = absurd (omega arith)
rises n (Bytes xs) (Bytes ys) p q left right h = eight_below xs ys left right h

-- or fall
directed_rises : (falls : Bool) (n : ℕ) (v w : Value) → IsOfKind n v → IsOfKind n w → IsHeld v → IsHeld w
    → directed_number falls (rising_number v) < directed_number falls (rising_number w) → directed falls value_order v w ≡ Less
directed_rises false n v w p q left right h = rises n v w p q left right h
directed_rises true n v w p q left right h = rises n w v q p right left (omega arith)

-- ---- with nulls

null_before : (first : Bool) (n : ℕ) (o : Ordering) → n ≤ greatest → null_number first < n → null_table first true false o ≡ Less
null_before true n o most h = refl
null_before false n o most h = absurd (omega arith)

null_after : (first : Bool) (n : ℕ) (o : Ordering) → n < null_number first → null_table first false true o ≡ Less
null_after true n o h = absurd (omega arith)
null_after false n o h = refl

no_null : (first : Bool) (o : Ordering) → o ≡ Less → null_table first false false o ≡ Less
no_null true o h = h
no_null false o h = h

before_value : (k : KeySpec) (w : Value) (o : Ordering) → IsHeld w → null_number k.nulls_first < directed_number k.desc (rising_number w)
    → null_table k.nulls_first true false o ≡ Less
before_value k w o held h =
    null_before k.nulls_first (directed_number k.desc (rising_number w)) o (directed_under k.desc (rising_number w) (rising_under w held)) h

both_values : (k : KeySpec) (n : ℕ) (v w : Value) → IsOfKind n v → IsOfKind n w → IsHeld v → IsHeld w
    → directed_number k.desc (rising_number v) < directed_number k.desc (rising_number w)
    → null_table k.nulls_first false false (directed k.desc value_order v w) ≡ Less
both_values k n v w p q left right h =
    no_null k.nulls_first (directed k.desc value_order v w) (directed_rises k.desc n v w p q left right h)

column_rises : (k : KeySpec) (n : ℕ) (v w : Value) → IsOfKind n v → IsOfKind n w → IsHeld v → IsHeld w → value_number k v < value_number k w
    → column_order k v w ≡ Less
column_rises k n Null Null p q left right h = absurd (omega arith)
column_rises k n Null (BoolValue c) p q left right h = before_value k (BoolValue c) _ right h
column_rises k n Null (Int y) p q left right h = before_value k (Int y) _ right h
column_rises k n Null (Bytes ys) p q left right h = before_value k (Bytes ys) _ right h
column_rises k n (BoolValue b) Null p q left right h = null_after k.nulls_first _ _ h
column_rises k n (Int x) Null p q left right h = null_after k.nulls_first _ _ h
column_rises k n (Bytes xs) Null p q left right h = null_after k.nulls_first _ _ h
column_rises k n (BoolValue b) (BoolValue c) p q left right h = both_values k n (BoolValue b) (BoolValue c) p q left right h
column_rises k n (BoolValue b) (Int y) p q left right h = both_values k n (BoolValue b) (Int y) p q left right h
column_rises k n (BoolValue b) (Bytes ys) p q left right h = both_values k n (BoolValue b) (Bytes ys) p q left right h
column_rises k n (Int x) (BoolValue c) p q left right h = both_values k n (Int x) (BoolValue c) p q left right h
column_rises k n (Int x) (Int y) p q left right h = both_values k n (Int x) (Int y) p q left right h
column_rises k n (Int x) (Bytes ys) p q left right h = both_values k n (Int x) (Bytes ys) p q left right h
column_rises k n (Bytes xs) (BoolValue c) p q left right h = both_values k n (Bytes xs) (BoolValue c) p q left right h
column_rises k n (Bytes xs) (Int y) p q left right h = both_values k n (Bytes xs) (Int y) p q left right h
column_rises k n (Bytes xs) (Bytes ys) p q left right h = both_values k n (Bytes xs) (Bytes ys) p q left right h

-- ---- keys

pub keys_rise : (specs : List KeySpec) (a b : List Value) → fits_columns specs a ≡ true → fits_columns specs b ≡ true → IsFirstHeld specs a → IsFirstHeld specs b
    → key_number specs a < key_number specs b → compare_values (columns_of specs) 0 a b ≡ Less
keys_rise [] a b fits fit left right h = absurd (omega arith)
keys_rise (k ∷ ks) [] [] fits fit left right h = absurd (omega arith)
keys_rise (k ∷ ks) [] (w ∷ ws) fits fit left right h = refl
keys_rise (k ∷ ks) (v ∷ vs) [] fits fit left right h = absurd (omega arith)
keys_rise (k ∷ ks) (v ∷ vs) (w ∷ ws) fits fit left right h =
    ap (λ o. ordering_then o (compare_values (columns_of (k ∷ ks)) 1 vs ws))
    (column_rises k (kind_number (type_of k.ctype).kind) v w (of_kind v (and_parts (fits_type k.ctype v) (fits_columns ks vs) fits).0) (of_kind w (and_parts (fits_type k.ctype w) (fits_columns ks ws) fit).0) left right h)
  where
    of_kind : (x : Value) → fits_type k.ctype x ≡ true → IsOfKind (kind_number (type_of k.ctype).kind) x
    of_kind x is = fitting_is_of_kind (type_of k.ctype).kind (type_of k.ctype).len x is

-- the same of two numbers that were told
pub prefixes_rise : (specs : List KeySpec) (a b : List Value) (m n : ℕ) → IsPrefix specs a m → IsPrefix specs b n → m < n
    → fits_columns specs a ≡ true → fits_columns specs b ≡ true → compare_values (columns_of specs) 0 a b ≡ Less
prefixes_rise specs a b m n left right lt fits fit = keys_rise specs a b fits fit left.held right.held (omega (arith, left.is, right.is))

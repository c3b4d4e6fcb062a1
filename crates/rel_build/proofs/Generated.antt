-- The generated rows, entries and separators are read again.
use Rattle.std.proofs.Common.{◌≡◌, ◌≤◌, ◌<◌, ◌-◌, ℕ, pos, suc, [], ◌∷◌, length, Bool, false, ◌==◌, Option, Some, None, inl, inr, Ok, refl, ap, sym, ◌∙◌, arith, lt-ltb, subst}
use mir.Val.{sel}
use lib.IntN.{negsuc}
use Rattle.std.specs.Int.{cast_signed, from_le_bytes, w32, w64}
use Rattle.std.specs.Option.{ForSome}
use Rattle.std.proofs.lemmas.Bool.{cases_Bool, cond-false, cond-true}
use Rattle.std.proofs.lemmas.Nat.{from_le_bytes-to_le_bytes_4, from_le_bytes-to_le_bytes_8}
use Rattle.byteorder.specs.Endian.{little_bytes}
use Rattle.key_orders.specs.declared.columns.ColType.TheVariants.{Int4, Int8}
use Rattle.key_orders.specs.declared.columns.Value.TheVariants.{Int}
use Rattle.key_orders.specs.declared.Tid.{Tid}
use Rattle.key_orders.specs.Values.{value_in}
use Rattle.varlena_attrs.specs.Attributes.{is_null, presence_of}
use Rattle.key_attrs.specs.Keyed.{key_values, read_inline}
use Rattle.varlena_attrs.specs.Reading.{fixed_at, stored_at}
use Rattle.bt_tuples.specs.declared.items.Spot3.TheVariants.{HighKey, Inner, LeafItem}
use Rattle.bt_tuples.specs.Items.{Pivot, Plain, tuple_outcome}
use Rattle.rel_build.specs.declared.rows.Row.{Row}
use Rattle.rel_build.specs.declared.trees.Key.{Key}
use Rattle.rel_build.specs.declared.trees.Key.TheVariants.{Group, Id}
use Rattle.page_write.specs.Fields.{IsTid}
use Rattle.page_write.specs.Pages.{zeros}
use Rattle.rel_build.specs.Rows.{IsRow, row_body, tid_of}
use Rattle.rel_build.specs.Trees.{key_bytes, key_of, key_value, leaf_item, separator_item, spec_of, tid_between}
use Rattle.page_write.specs.Tuples.{fixed_width, before_tid, padded_body}
use Rattle.page_write.proofs.TupleReading.{high_key_form, pivot_means, plain_means}

-- numbers that aren't below 0
signed_8 : (n : ℕ) → n < 9223372036854775808 → cast_signed w64 n ≡ pos n
signed_8 n small = ap (λ (b : Bool). sel b (pos n) (negsuc (18446744073709551616 - suc n))) (lt-ltb n 9223372036854775808 small)

signed_4 : (n : ℕ) → n < 2147483648 → cast_signed w32 n ≡ pos n
signed_4 n small = ap (λ (b : Bool). sel b (pos n) (negsuc (4294967296 - suc n))) (lt-ltb n 2147483648 small)

number_8 : (n : ℕ) → n < 9223372036854775808 → cast_signed w64 (from_le_bytes w64 (little_bytes 8 n)) ≡ pos n
number_8 n small = ap (cast_signed w64) (from_le_bytes-to_le_bytes_8 n (omega (arith, small))) ∙ signed_8 n small

number_4 : (n : ℕ) → n < 2147483648 → cast_signed w32 (from_le_bytes w32 (little_bytes 4 n)) ≡ pos n
number_4 n small = ap (cast_signed w32) (from_le_bytes-to_le_bytes_4 n (omega (arith, small))) ∙ signed_4 n small

wide : {row : Row} → IsRow row → row.id < 9223372036854775808
wide is = let id = is.id in omega (arith, id)

-- the columns of a row
pub row_reads : (row : Row) → IsRow row
    → key_values (Int8 ∷ Int4 ∷ []) (row_body row) None ≡ Ok (Int (pos row.id) ∷ Int (pos row.group) ∷ [])
unfolding key_values read_inline presence_of is_null stored_at fixed_at value_in row_body
row_reads row is = λ i. Ok (Int (number_8 row.id (wide is) i) ∷ Int (number_4 row.group is.group i) ∷ [])

-- the key of an entry, and of a separator
entry_reads : (key : Key) (row : Row) → IsRow row
    → key_values ((spec_of key).ctype ∷ []) (padded_body (key_bytes key row)) None ≡ Ok (key_value key row)
unfolding key_values read_inline presence_of is_null stored_at fixed_at value_in key_bytes padded_body zeros
entry_reads Id row is = λ i. Ok (Int (number_8 row.id (wide is) i) ∷ [])
entry_reads Group row is = λ i. Ok (Int (number_4 row.group is.group i) ∷ [])

separator_reads : (key : Key) (row : Row) (tid : Option Tid) → IsRow row
    → key_values ((spec_of key).ctype ∷ []) (before_tid tid (key_bytes key row)) None ≡ Ok (key_value key row)
unfolding key_values read_inline presence_of is_null stored_at fixed_at value_in key_bytes before_tid padded_body zeros
separator_reads Id row None is = λ i. Ok (Int (number_8 row.id (wide is) i) ∷ [])
separator_reads Id row (Some tid) is = λ i. Ok (Int (number_8 row.id (wide is) i) ∷ [])
separator_reads Group row None is = λ i. Ok (Int (number_4 row.group is.group i) ∷ [])
separator_reads Group row (Some tid) is = λ i. Ok (Int (number_4 row.group is.group i) ∷ [])

tid_fits : (row : Row) → IsRow row → IsTid (tid_of row)
tid_fits row is = let id = is.id in record { block = omega (arith, id); item = omega arith }

length_key : (key : Key) (row : Row) → length (key_bytes key row) ≤ 8
unfolding key_bytes
length_key Id row = omega arith
length_key Group row = omega arith

pub entry_means : (key : Key) (row : Row) (killed : Bool) → IsRow row
    → tuple_outcome (spec_of key ∷ []) [] LeafItem (leaf_item key row) killed ≡ Ok (Plain (key_value key row) [] (tid_of row) killed)
unfolding leaf_item
entry_means key row killed is =
    let few = length_key key row in
    plain_means (spec_of key ∷ []) [] (tid_of row) fixed_width (key_bytes key row) killed (key_value key row) (tid_fits row is)
    (λ none. omega (arith, none)) (omega (arith, few)) (omega arith) (entry_reads key row is)

some_same : {s t : Tid} → ◌≡◌ {A = Option Tid} (Some s) (Some t) → s ≡ t
some_same e = cc

none_some : {t : Tid} → ◌≡◌ {A = Option Tid} None (Some t) → ⊥
none_some e = cc

between_fits : (key : Key) (left right : Row) → IsRow left → ForSome (tid_between key left right) IsTid
between_fits key left right is tid e =
    elim (cases_Bool (key_of key left == key_of key right)) [
      | inl same ↦ subst IsTid (some_same (sym (cond-true _ _ _ same) ∙ e)) (tid_fits left is)
      | inr other ↦ absurd (none_some (sym (cond-false _ _ _ other) ∙ e))
    ]

pub high_key_means : (key : Key) (down : ℕ) (left right : Row) (killed : Bool) → IsRow left → IsRow right → down < 4294967296
    → tuple_outcome (spec_of key ∷ []) [] HighKey (separator_item key down left right) killed
    ≡ Ok (Pivot (record { kept = key_value key right; tid = tid_between key left right }) down)
unfolding separator_item
high_key_means key down left right killed was is small =
    let few = length_key key right in
    let tid = tid_between key left right in
    pivot_means (spec_of key ∷ []) [] HighKey down 1 tid fixed_width (key_bytes key right) killed (key_value key right) small (omega arith)
    (between_fits key left right was) (omega (arith, few)) (omega arith)
    (high_key_form 1 false down 1 tid fixed_width (key_bytes key right) (omega arith) (λ none. omega (arith, none)) (omega arith) (λ e. refl))
    (separator_reads key right tid is)

pub inner_means : (key : Key) (down : ℕ) (left right : Row) (killed : Bool) → IsRow left → IsRow right → down < 4294967296
    → tuple_outcome (spec_of key ∷ []) [] Inner (separator_item key down left right) killed
    ≡ Ok (Pivot (record { kept = key_value key right; tid = tid_between key left right }) down)
unfolding separator_item
inner_means key down left right killed was is small =
    let few = length_key key right in
    let tid = tid_between key left right in
    pivot_means (spec_of key ∷ []) [] Inner down 1 tid fixed_width (key_bytes key right) killed (key_value key right) small (omega arith)
    (between_fits key left right was) (omega (arith, few)) (omega arith)
    (high_key_form 1 false down 1 tid fixed_width (key_bytes key right) (omega arith) (λ none. omega (arith, none)) (omega arith) (λ e. refl))
    (separator_reads key right tid is)

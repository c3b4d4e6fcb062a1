-- The columns of a document that breaks no rule are sound.
use Rattle.std.proofs.Common.{◌≡◌, ℕ, ◌<◌, ◌≤◌, ◌+◌, ◌/◌, ◌%◌, List, [], ◌∷◌, length, map, Bool, true, false, not, ◌&&◌, ◌||◌, ◌==◌, cond, nat_le, Option, Some}
use Rattle.std.proofs.Common.{None, is_some, option_and_then, unwrap_or, find, inl, inr, refl, sym, codes, arith, lit<}
use Rattle.std.proofs.lemmas.Bool.{and_parts, cases_Bool, eqb-true, false≢true, le-leb, lt-ltb, not-false}
use Rattle.std.proofs.lemmas.Bool.Decides.{nat_tests}
use Rattle.std.proofs.lemmas.List.Sums.{AllPass-from_list_all}
use Rattle.std.specs.Int.{is_in_range, IsInRange}
use Rattle.std.specs.List.{AllByRecursion, list_all}
use Rattle.hex.specs.Hex.{IsBytes, is_hex_digit}
use Rattle.hex.proofs.HexLemmas.{decode_of-digits, decode_of-ok}
use Rattle.key_orders.specs.declared.columns.ColType.{ColType}
use Rattle.key_orders.specs.declared.columns.ColType.TheVariants.{Fixed, Varlena}
use Rattle.key_orders.specs.declared.columns.Value.{Value}
use Rattle.key_orders.specs.Orders.{fits_type}
use Rattle.key_orders.specs.Types.{fixed_length}
use Rattle.key_orders.specs.Values.{value_in}
use Rattle.toml.specs.Data.{Data, string, integer, float, boolean, datetime, array, table, Members, get_member, as_str, as_table}
use Rattle.case_rules.specs.declared.keys.Place.TheVariants.{Column}
use Rattle.case_rules.specs.declared.keys.Key.TheVariants.{ColumnType, ColumnLen, ColumnAlign}
use Rattle.case_rules.specs.declared.keys.Kind.TheVariants.{Text as TextKind}
use Rattle.case_rules.specs.declared.keys.Range.TheVariants.{StoredBytes}
use Rattle.case_file.specs.Columns.{below_or_zero, column_of, decoded, missing_of, stored_type, told_type}
use Rattle.case_rules.specs.Keys.{keys_of, row_of}
use Rattle.case_rules.specs.Rules.{applies, breaks, fails, has_known_type, has_other_kind, has_type, is_align, is_fit, is_len, is_missing_text, is_needed, is_of}
use Rattle.case_rules.specs.Rules.{is_out_of_range, is_stored_len, is_told, is_told_len, is_unknown, key_type, key_types, has_key_type}
use Rattle.case_file.specs.Sound.{IsSoundColumn, is_sound_type, octet_count}
use Rattle.case_rules.specs.Spots.{column_spots, flat_map_from, in_table, listed}
use Rattle.case_rules.specs.Tables.{number_at, text_at}
use Rattle.case_file.proofs.Passing.{EachPasses, Passes, passes_after, passes_before}
use Rattle.case_file.proofs.MissingValues.{null_fits, value_fits, value_is_small}
use Rattle.case_file.proofs.Rows.{align_found, needed_key, number_in_range}

-- the first of some types that passes a test, or else another: it is good where each of them is, and the other where
-- none passes
pub found_or : (test good : ColType → Bool) (types : List ColType) (other : ColType) → list_all good types ≡ true
    → (is_some (find test types) ≡ false → good other ≡ true) → good (unwrap_or (find test types) other) ≡ true
found_or test good [] other all none = none refl
found_or test good (t ∷ ts) other all none =
    let parts = and_parts (good t) (list_all good ts) all in
    elim (cases_Bool (test t)) [
      | inl passes ↦ rw passes parts.0
      | inr fails ↦ rw fails (found_or test good ts other parts.1 (rw fails at none))
    ]

key_or_stored : (t : Members) → (has_key_type t ≡ false → is_sound_type (stored_type t) ≡ true) → is_sound_type (told_type (Some t)) ≡ true
unfolding key_type told_type
key_or_stored t h = found_or (is_told t) is_sound_type key_types (stored_type t) refl h

pub below-kept : (limit n : ℕ) → n < limit → below_or_zero limit n ≡ n
below-kept limit n l = rw (lt-ltb n limit l) refl

-- an alignment that is one is small
align_small : (fixed : Bool) (n : ℕ) → cond fixed (n == 1 || n == 2 || n == 4 || n == 8) (n == 4 || n == 8) ≡ true → n < 256
align_small true n h = grind (arith, nat_tests)
align_small false n h = grind (arith, nat_tests)

is_in : (low high n : ℕ) → IsInRange low high n → is_in_range low high n ≡ true
is_in low high n h = rw (le-leb low n h.0, le-leb n high h.1) refl

-- a type that tells its storage, from a length and an alignment
stored : (fixed : Bool) (len align : ℕ) → (fixed ≡ true → IsInRange 1 8000 len)
    → cond fixed (align == 1 || align == 2 || align == 4 || align == 8) (align == 4 || align == 8) ≡ true
    → is_sound_type (cond fixed (Fixed (below_or_zero 65536 len) (below_or_zero 256 align)) (Varlena (below_or_zero 256 align))) ≡ true
stored true len align l a =
    let within = l refl in
    let len_kept = below-kept 65536 len (omega arith) in
    let align_kept = below-kept 256 align (align_small true align a) in
    rw (len_kept, align_kept, is_in 1 8000 len within) a
stored false len align l a = rw (below-kept 256 align (align_small false align a)) a

-- a known type that may be no key tells its storage
is_stored : (may fixed varlena : Bool) → not (may || (fixed || varlena)) ≡ false → may ≡ false → (fixed || varlena) ≡ true
is_stored true f v known no_key = absurd (false≢true (sym no_key))
is_stored false true v known no_key = refl
is_stored false false true known no_key = refl
is_stored false false false known no_key = absurd (false≢true (sym known))

-- the length of a column of the type `fixed`
fixed_len : (top : Members) (k : ℕ) (t : Members) → Passes top (listed (Column k) ColumnLen t) → has_type (codes "fixed") t ≡ true
    → IsInRange 1 8000 (number_at (codes "len") t)
unfolding row_of is_needed
fixed_len top k t len fixed = number_in_range ColumnLen t 1 8000 (needed_key top (Column k) ColumnLen t len fixed) refl refl (lit< tt)

sound_type : (top : Members) (k : ℕ) (t : Members) → Passes top (listed (Column k) ColumnType t) → Passes top (listed (Column k) ColumnLen t)
    → Passes top (listed (Column k) ColumnAlign t)
    → is_sound_type (told_type (Some t)) ≡ true
unfolding breaks is_unknown is_needed row_of has_known_type stored_type is_align number_at
sound_type top k t ctype len align =
    key_or_stored t (λ no_key.
    let fixed : Bool = has_type (codes "fixed") t in
    let varlena : Bool = has_type (codes "varlena") t in
    let needed = is_stored (has_key_type t) fixed varlena ctype.c5 no_key in
    let good = needed_key top (Column k) ColumnAlign t align needed in
    stored fixed (number_at (codes "len") t) (number_at (codes "align") t) (fixed_len top k t len) (align_found t (get_member (codes "align") t) good.is_there good.kind good.range))

-- how many bytes a value may have, where the words of the column are tests
abbrev is_told_by : Option ColType → (fixed varlena : Bool) → (len n : ℕ) → Bool
is_told_by (Some ctype) fixed varlena len n = is_len (fixed_length ctype) n
is_told_by None fixed varlena len n = cond fixed (n == len) (cond varlena (nat_le n 8000) true)

-- so many bytes are a stored value of the type that the words of a column tell
bytes_fit : (o : Option ColType) (fixed varlena : Bool) (len kept align n : ℕ) → (fixed ≡ true → kept ≡ len)
    → (is_some o || (fixed || varlena)) ≡ true
    → is_told_by o fixed varlena len n ≡ true
    → is_len (fixed_length (unwrap_or o (cond fixed (Fixed kept align) (Varlena align)))) n ≡ true
bytes_fit (Some ctype) fixed varlena len kept align n same known fit = fit
bytes_fit None true varlena len kept align n same known fit = rw (same refl) fit
bytes_fit None false true len kept align n same known fit = fit
bytes_fit None false false len kept align n same known fit = absurd (false≢true known)

told_as : (o : Option ColType) (t : Members) (n : ℕ) → is_told_len o t n ≡ true
    → is_told_by o (has_type (codes "fixed") t) (has_type (codes "varlena") t) (number_at (codes "len") t) n ≡ true
told_as (Some ctype) t n h = h
told_as None t n h = h

-- digits write half as many bytes
record AreWritten (s bytes : List ℕ) : Type 0 where
  half : length s / 2 ≡ length bytes
  small : IsBytes bytes

decoded_are : (s : List ℕ) → list_all is_hex_digit s ≡ true → length s % 2 ≡ 0 → AreWritten s (decoded s)
unfolding decoded
decoded_are s digits even =
    let bytes = decode_of-digits s even (AllPass-from_list_all is_hex_digit s digits) in
    let ok = decode_of-ok s bytes.0 bytes.1 in
    let twice = ok.2 in
    record { half = rw bytes.1 (omega arith); small = rw bytes.1 ok.3 }

-- a value that a column of the type may have, of at most 8000 bytes
abbrev IsMissing : ColType → Value → Type 0
IsMissing ctype v = (fits_type ctype v ≡ true) × (octet_count v ≤ 8000)

missing_fits : (t : Members) (s : List ℕ) → has_known_type t ≡ true → (has_type (codes "fixed") t ≡ true → IsInRange 1 8000 (number_at (codes "len") t))
    → is_sound_type (told_type (Some t)) ≡ true
    → is_missing_text t s ≡ true
    → IsMissing (told_type (Some t)) (value_in (told_type (Some t)) (decoded s))
unfolding is_missing_text is_stored_len told_type stored_type has_known_type
missing_fits t s known len sound fit =
    let whole = and_parts (list_all is_hex_digit s && length s % 2 == 0) (is_stored_len t (length s / 2)) fit in
    let parts = and_parts (list_all is_hex_digit s) (length s % 2 == 0) whole.0 in
    let written = decoded_are s parts.0 (eqb-true (length s % 2) 0 parts.1) in
    let fixed : Bool = has_type (codes "fixed") t in
    let varlena : Bool = has_type (codes "varlena") t in
    let length_of : ℕ = number_at (codes "len") t in
    let stored = bytes_fit (key_type t) fixed varlena length_of (below_or_zero 65536 length_of) (below_or_zero 256 (number_at (codes "align") t)) (length (decoded s))
    (λ is. below-kept 65536 length_of (let within = len is in omega arith)) known (told_as (key_type t) t (length (decoded s)) (rw written.half at whole.1)) in
    (value_fits (told_type (Some t)) (decoded s) written.small stored, value_is_small (told_type (Some t)) (decoded s) sound stored)

sound_missing : (t : Members) (o : Option Data) → has_known_type t ≡ true → (has_type (codes "fixed") t ≡ true → IsInRange 1 8000 (number_at (codes "len") t))
    → is_sound_type (told_type (Some t)) ≡ true
    → fails (is_of TextKind) o ≡ false → fails (is_fit StoredBytes t) o ≡ false
    → IsMissing (told_type (Some t)) (missing_of (told_type (Some t)) (option_and_then as_str o))
unfolding is_of is_fit missing_of
sound_missing t None known len sound kind range = (null_fits (told_type (Some t)), omega arith)
sound_missing t (Some (string s)) known len sound kind range = missing_fits t s known len sound (not-false (is_missing_text t s) range)
sound_missing t (Some (integer z)) known len sound kind range = absurd (false≢true (sym kind))
sound_missing t (Some (float x)) known len sound kind range = absurd (false≢true (sym kind))
sound_missing t (Some (boolean b)) known len sound kind range = absurd (false≢true (sym kind))
sound_missing t (Some (datetime dt)) known len sound kind range = absurd (false≢true (sym kind))
sound_missing t (Some (array ds)) known len sound kind range = absurd (false≢true (sym kind))
sound_missing t (Some (table ms)) known len sound kind range = absurd (false≢true (sym kind))

sound_column : (top : Members) (k : ℕ) (d : Data) (o : Option Members) → as_table d ≡ o → EachPasses top (in_table (Column k) o) → IsSoundColumn (column_of d)
unfolding in_table keys_of column_of told_type missing_of breaks has_other_kind is_out_of_range applies is_unknown row_of text_at
sound_column top k d None is all = rw is (record { ctype = refl; missing = refl; few = omega arith })
sound_column top k d (Some t) is all =
    let ctype = all.1.1.0 in
    let len = all.1.1.1.0 in
    let align = all.1.1.1.1.0 in
    let missing = all.1.1.1.1.1.0 in
    let sound = sound_type top k t ctype len align in
    let value = sound_missing t (get_member (codes "missing") t) (not-false (has_known_type t) ctype.c5) (fixed_len top k t len) sound missing.c3 missing.c4 in
    rw is (record { ctype = sound; missing = value.0; few = value.1 })

pub sound_columns : (top : Members) (k : ℕ) (ds : List Data) → EachPasses top (flat_map_from column_spots k ds)
    → AllByRecursion IsSoundColumn (map column_of ds)
sound_columns top k [] all = tt
sound_columns top k (d ∷ ds) all = (
  sound_column top k d (as_table d) refl (passes_before top (column_spots k d) _ all),
  sound_columns top (k + 1) ds (passes_after top (column_spots k d) _ all),
)

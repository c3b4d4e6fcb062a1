-- The rules C2 to C7, each as a test of one spot.
use Rattle.std.specs.Prelude.{ℕ, ◌/◌, ◌%◌, ◌==◌, ℤ, pos, negsuc, List, [], ◌∷◌, length, take, Bool, true, false, not}
use Rattle.std.specs.Prelude.{◌&&◌, ◌||◌, nat_le, if◌then◌else◌, Option, Some, None, is_some, find, codes}
use Rattle.std.specs.Option.{option_map_or}
use Rattle.std.specs.Int.{is_in_range}
use Rattle.std.specs.List.{list_all, list_any}
use Rattle.std.specs.Str.{bytes_eq}
use Rattle.toml.specs.Data.{Data, string, integer, array, Members, no_members, member, get_member, as_str, as_integer}
use Rattle.toml.specs.Data.{as_array, as_bool, as_table}
use Rattle.hex.specs.Hex.{is_hex_digit}
use Rattle.key_orders.specs.declared.columns.ColType.{ColType}
use Rattle.key_orders.specs.declared.columns.ColType.TheVariants.{Bool as BoolType, Int2, Int4, Int8, Uuid}
use Rattle.key_orders.specs.declared.columns.ColType.TheVariants.{Text as TextType, Bytea, Oid, Date, Timestamp}
use Rattle.key_orders.specs.declared.columns.ColType.TheVariants.{Timestamptz}
use Rattle.key_orders.specs.declared.columns.ColType.TheVariants.{Fixed, Varlena}
use Rattle.key_orders.specs.Types.{fixed_length, is_alignment}
use Rattle.rel_files.specs.Ranges.{distance}
use Rattle.case_rules.specs.declared.keys.Place.{Place}
use Rattle.case_rules.specs.declared.keys.Place.TheVariants.{Cluster, Column, Index}
use Rattle.case_rules.specs.declared.keys.Key.{Key}
use Rattle.case_rules.specs.declared.keys.Key.TheVariants.{ColumnName, ColumnType, IndexName, KeyColumn}
use Rattle.case_rules.specs.declared.keys.Kind.{Kind}
use Rattle.case_rules.specs.declared.keys.Kind.TheVariants.{Text, Integer, Boolean, Array, Table, Tables}
use Rattle.case_rules.specs.declared.keys.Need.{Need}
use Rattle.case_rules.specs.declared.keys.Need.TheVariants.{Always, Optional, WithToastFile, WithToastOid, OfFixed}
use Rattle.case_rules.specs.declared.keys.Need.TheVariants.{OfStored}
use Rattle.case_rules.specs.declared.keys.Range.{Range}
use Rattle.case_rules.specs.declared.keys.Range.TheVariants.{Any, Between, Alignment, StoredBytes}
use Rattle.case_rules.specs.declared.fault.CaseRule.{CaseRule}
use Rattle.case_rules.specs.declared.fault.CaseRule.TheVariants.{C1, C2, C3, C4, C5, C6, C7}
use Rattle.case_rules.specs.Keys.{row_of, keys_of, late_keys_of}
use Rattle.case_rules.specs.Tables.{as_tables, below_2_32, has, number_at, tables_at, text_at, values_of}
use Rattle.case_rules.specs.Spots.{Spot, whole, listed, element}

-- the code of each rule, as a refusal prints it
unfoldable pub rule_code : CaseRule → List ℕ
rule_code C1 = codes "C1"
rule_code C2 = codes "C2"
rule_code C3 = codes "C3"
rule_code C4 = codes "C4"
rule_code C5 = codes "C5"
rule_code C6 = codes "C6"
rule_code C7 = codes "C7"

-- both texts are there and have the same bytes
abbrev pub same_text : Option (List ℕ) → Option (List ℕ) → Bool
same_text (Some a) (Some b) = bytes_eq a b
same_text _ _ = false

-- the column has the type of this word
unfoldable pub has_type : List ℕ → Members → Bool
has_type word t = same_text (text_at (codes "type") t) (Some word)

-- the word of a type
abbrev pub word_of : ColType → List ℕ
word_of BoolType = codes "bool"
word_of Int2 = codes "int2"
word_of Int4 = codes "int4"
word_of Int8 = codes "int8"
word_of Uuid = codes "uuid"
word_of TextType = codes "text"
word_of Bytea = codes "bytea"
word_of Oid = codes "oid"
word_of Date = codes "date"
word_of Timestamp = codes "timestamp"
word_of Timestamptz = codes "timestamptz"
word_of (Fixed len align) = codes "fixed"
word_of (Varlena align) = codes "varlena"

-- the column's type is this one, by its word
abbrev pub is_told : Members → ColType → Bool
is_told t ctype = has_type (word_of ctype) t

-- the types that may be keys
abbrev pub key_types : List ColType
key_types =
    BoolType ∷ Int2 ∷ Int4 ∷ Int8 ∷ Uuid ∷ TextType ∷ Bytea ∷ Oid ∷ Date ∷ Timestamp ∷ Timestamptz ∷ []

-- the type of a column that may be a key
unfoldable pub key_type : Members → Option ColType
key_type t = find (is_told t) key_types

abbrev pub has_key_type : Members → Bool
has_key_type t = is_some (key_type t)

-- the column's type is told by its storage alone
abbrev pub has_stored_type : Members → Bool
has_stored_type t = has_type (codes "fixed") t || has_type (codes "varlena") t

unfoldable pub has_known_type : Members → Bool
has_known_type t = has_key_type t || has_stored_type t

-- a value is there, and fails the test
abbrev pub fails : (Data → Bool) → Option Data → Bool
fails test (Some d) = not (test d)
fails test None = false

-- C2: the key is needed and absent
unfoldable pub is_needed : Need → Members → Bool
is_needed Always t = true
is_needed Optional t = false
is_needed WithToastFile t = has (codes "toast_file") t
is_needed WithToastOid t = has (codes "toast_oid") t
is_needed OfFixed t = has_type (codes "fixed") t
is_needed OfStored t = has_stored_type t

unfoldable pub is_absent : Key → Members → Bool
is_absent key t = is_needed (row_of key).need t && not (has (row_of key).word t)

-- C3: the value is of another kind
unfoldable pub is_of : Kind → Data → Bool
is_of Text d = is_some (as_str d)
is_of Integer d = is_some (as_integer d)
is_of Boolean d = is_some (as_bool d)
is_of Array d = is_some (as_array d)
is_of Table d = is_some (as_table d)
is_of Tables d = is_some (as_tables d)

unfoldable pub has_other_kind : Key → Members → Bool
has_other_kind key t = fails (is_of (row_of key).kind) (get_member (row_of key).word t)

abbrev pub is_no_text : Data → Bool
is_no_text d = not (is_some (as_str d))

-- C4: a number, the length of a text in bytes or the count of an array is out of range
abbrev pub number_is_in_range : ℕ → ℕ → ℤ → Bool
number_is_in_range low high (pos n) = is_in_range low high n
number_is_in_range low high (negsuc n) = false

unfoldable pub is_between : ℕ → ℕ → Data → Bool
is_between low high (integer z) = number_is_in_range low high z
is_between low high (string s) = is_in_range low high (length s)
is_between low high (array ds) = is_in_range low high (length (values_of ds))
is_between low high _ = true

-- the table isn't one that has no use for the key
unfoldable pub applies : Need → Members → Bool
applies OfFixed t = has_type (codes "fixed") t
applies OfStored t = has_stored_type t
applies _ t = true

-- `fixed` stands at multiples of 1, 2, 4 or 8, `varlena` at multiples of 4 or 8
unfoldable pub is_align : Members → ℕ → Bool
is_align t n = if has_type (codes "fixed") t then is_alignment n else n == 4 || n == 8

-- n bytes may be a value: the length of a type that has one, and else 8000 or fewer
abbrev pub is_len : Option ℕ → ℕ → Bool
is_len (Some len) n = n == len
is_len None n = nat_le n 8000

-- the same of a column of a type that may be a key, or that is told by its storage, or else any number
abbrev pub is_told_len : Option ColType → Members → ℕ → Bool
is_told_len (Some ctype) t n = is_len (fixed_length ctype) n
is_told_len None t n =
    if has_type (codes "fixed") t then n == number_at (codes "len") t
    else if has_type (codes "varlena") t then nat_le n 8000 else true

-- a stored value of the column's type may have n bytes, where the type is known
unfoldable pub is_stored_len : Members → ℕ → Bool
is_stored_len t n = is_told_len (key_type t) t n

-- hexadecimal digits, two for each byte of a stored value
unfoldable pub is_missing_text : Members → List ℕ → Bool
is_missing_text t s = list_all is_hex_digit s && length s % 2 == 0 && is_stored_len t (length s / 2)

-- the value, if it is of the key's kind, is one that the range allows in this table
unfoldable pub is_fit : Range → Members → Data → Bool
is_fit Any t d = true
is_fit (Between low high) t d = is_between low high d
is_fit Alignment t d = option_map_or (λ z. is_align t (below_2_32 z)) (as_integer d) true
is_fit StoredBytes t d = option_map_or (is_missing_text t) (as_str d) true

unfoldable pub is_out_of_range : Key → Members → Bool
is_out_of_range key t =
    applies (row_of key).need t && fails (is_fit (row_of key).range t) (get_member (row_of key).word t)

-- C5: the value names what isn't there, or what was named before
abbrev pub has_name : Option (List ℕ) → Data → Bool
has_name name d = option_map_or (λ t. same_text (text_at (codes "name") t) name) (as_table d) false

abbrev pub is_key_column : Option (List ℕ) → Data → Bool
is_key_column name d = has_name name d && option_map_or has_key_type (as_table d) false

abbrev pub number_of : Place → ℕ
number_of (Column k) = k
number_of (Index k) = k
number_of _ = 0

-- one of the first k tables at a key has the name of this table
unfoldable pub is_name_taken : Members → List ℕ → ℕ → Members → Bool
is_name_taken top key k t = list_any (has_name (text_at (codes "name") t)) (take k (tables_at key top))

unfoldable pub is_unknown : Members → Place → Key → Members → Bool
is_unknown top p ColumnName t = is_name_taken top (codes "column") (number_of p) t
is_unknown top p ColumnType t = not (has_known_type t)
is_unknown top p IndexName t = is_name_taken top (codes "index") (number_of p) t
is_unknown top p KeyColumn t =
    not (list_any (is_key_column (text_at (codes "column") t)) (tables_at (codes "column") top))
is_unknown top p _ t = false

-- no column has the text as its name
unfoldable pub names_no_column : Members → Data → Bool
names_no_column top d = not (list_any (has_name (as_str d)) (tables_at (codes "column") top))

-- C6: the table has a key that isn't listed, or that it has no use for
abbrev pub member_names : Members → List (List ℕ)
member_names no_members = []
member_names (member name d ms) = name ∷ member_names ms

abbrev pub is_among : List Key → Members → List ℕ → Bool
is_among keys t name = list_any (λ key. bytes_eq (row_of key).word name && applies (row_of key).need t) keys

unfoldable pub is_listed : Place → Members → List ℕ → Bool
is_listed p t name = is_among (keys_of p) t name || is_among (late_keys_of p) t name

unfoldable pub has_unlisted : Place → Members → Bool
has_unlisted p t = list_any (λ name. not (is_listed p t name)) (member_names t)

-- C7: the oldest number is half of the way round behind the next, or more; the next multixact 0 is read as 1
abbrev pub at_least_one : ℕ → ℕ
at_least_one n = if n == 0 then 1 else n

unfoldable pub is_too_old : ℕ → ℕ → Bool
is_too_old oldest next = nat_le 2147483648 (distance oldest next)

unfoldable pub has_too_old : Place → Members → Bool
has_too_old Cluster t =
    is_too_old (number_at (codes "oldest_xid") t) (number_at (codes "next_xid") t)
    || is_too_old (number_at (codes "oldest_multi") t) (at_least_one (number_at (codes "next_multi") t))
has_too_old _ t = false

-- a spot breaks a rule
unfoldable pub breaks : Members → CaseRule → Spot → Bool
breaks top C2 (listed p key t) = is_absent key t
breaks top C3 (listed p key t) = has_other_kind key t
breaks top C3 (element p key j d) = is_no_text d
breaks top C4 (listed p key t) = is_out_of_range key t
breaks top C5 (listed p key t) = is_unknown top p key t
breaks top C5 (element p key j d) = names_no_column top d
breaks top C6 (whole p t) = has_unlisted p t
breaks top C7 (whole p t) = has_too_old p t
breaks top _ _ = false

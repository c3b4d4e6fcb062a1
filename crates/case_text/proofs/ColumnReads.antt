-- What is read of a column that is written.
use Rattle.std.proofs.Common.{◌≡◌, ℕ, pos, ◌<◌, List, [], ◌∷◌, ◌++◌, map, Bool, true, false, ◌&&◌, cond, Option, Some, None, is_some, unwrap_or}
use Rattle.std.proofs.Common.{find, codes, string_bytes, Vec, Global, refl, ap, ◌∙◌, arith}
use Rattle.std.proofs.lemmas.Bool.{lt-ltb}
use Rattle.std.specs.List.{AllByRecursion}
use Rattle.std.specs.Option.{option_map_or}
use Rattle.hex.proofs.HexLemmas.{decode_of-encode_lower}
use Rattle.key_orders.specs.declared.columns.ColType.{ColType}
use Rattle.key_orders.specs.declared.columns.ColType.TheVariants.{Bool as BoolType, Int2, Int4, Int8, Uuid, Text, Bytea}
use Rattle.key_orders.specs.declared.columns.ColType.TheVariants.{Oid, Date, Timestamp, Timestamptz, Fixed, Varlena}
use Rattle.key_orders.specs.Types.{may_be_key}
use Rattle.toml.specs.Data.{Members, string, members_depth}
use Rattle.case_rules.specs.Rules.{has_key_type, has_name, has_type, is_key_column, key_type, key_types, same_text, word_of}
use Rattle.case_rules.specs.Tables.{below_2_32, number_at, text_at}
use Rattle.case_file.specs.Columns.{below_or_zero, column_of, decoded, missing_of, stored_type, told_type}
use Rattle.case_text.specs.declared.parts.ColumnPart.{ColumnPart}
use Rattle.case_text.specs.Plain.{AreBytes, IsPlainColumn, IsStorable}
use Rattle.case_text.specs.Told.{column_told, is_key_named, is_named, missing_told}
use Rattle.case_text.specs.Written.{column_data, column_pairs, members_with, missing_digits, number_pairs, text_pairs, told_align, told_len}
use Rattle.case_text.specs.Written.{with_member}

-- the number that is read of one that is written, 0 where none is
abbrev read_number : Option ℕ → ℕ
read_number o = option_map_or (λ n. below_2_32 (pos n)) o 0

-- what a column's table holds at its keys
pub record IsWritten (t : Members) (name word : List ℕ) (len align : Option ℕ) (digits : Option (List ℕ)) : Type 0 where
  pub named : text_at (codes "name") t ≡ Some name
  pub typed : text_at (codes "type") t ≡ Some word
  pub has_len : number_at (codes "len") t ≡ read_number len
  pub has_align : number_at (codes "align") t ≡ read_number align
  pub has_digits : text_at (codes "missing") t ≡ digits
  pub flat : members_depth t ≡ 0

abbrev pub column_members : (name word : List ℕ) (len align : Option ℕ) (digits : Option (List ℕ)) → Members
column_members name word len align digits =
    members_with (((codes "name", string name) ∷ (codes "type", string word) ∷ []) ++ number_pairs (codes "len") len
    ++ number_pairs (codes "align") align ++ text_pairs (codes "missing") digits)

pub is_written : (name word : List ℕ) (len align : Option ℕ) (digits : Option (List ℕ))
    → IsWritten (column_members name word len align digits) name word len align digits
unfolding with_member text_at number_at
is_written name word None None None = record { named = refl; typed = refl; has_len = refl; has_align = refl; has_digits = refl; flat = refl }
is_written name word None None (Some s) = record { named = refl; typed = refl; has_len = refl; has_align = refl; has_digits = refl; flat = refl }
is_written name word None (Some a) None = record { named = refl; typed = refl; has_len = refl; has_align = refl; has_digits = refl; flat = refl }
is_written name word None (Some a) (Some s) = record { named = refl; typed = refl; has_len = refl; has_align = refl; has_digits = refl; flat = refl }
is_written name word (Some l) None None = record { named = refl; typed = refl; has_len = refl; has_align = refl; has_digits = refl; flat = refl }
is_written name word (Some l) None (Some s) = record { named = refl; typed = refl; has_len = refl; has_align = refl; has_digits = refl; flat = refl }
is_written name word (Some l) (Some a) None = record { named = refl; typed = refl; has_len = refl; has_align = refl; has_digits = refl; flat = refl }
is_written name word (Some l) (Some a) (Some s) = record { named = refl; typed = refl; has_len = refl; has_align = refl; has_digits = refl; flat = refl }

-- the type that may be a key and has a word
abbrev type_by : Option (List ℕ) → Option ColType
type_by o = find (λ ctype. same_text o (Some (word_of ctype))) key_types

key_type_by : (t : Members) (o : Option (List ℕ)) → text_at (codes "type") t ≡ o → key_type t ≡ type_by o
unfolding key_type has_type
key_type_by t o is = ap type_by is

type_by_word : (ctype : ColType) → type_by (Some (word_of ctype)) ≡ cond (may_be_key ctype) (Some ctype) None
type_by_word BoolType = refl
type_by_word Int2 = refl
type_by_word Int4 = refl
type_by_word Int8 = refl
type_by_word Uuid = refl
type_by_word Text = refl
type_by_word Bytea = refl
type_by_word Oid = refl
type_by_word Date = refl
type_by_word Timestamp = refl
type_by_word Timestamptz = refl
type_by_word (Fixed len align) = refl
type_by_word (Varlena align) = refl

told_by : (t : Members) (o : Option ColType) → key_type t ≡ o → told_type (Some t) ≡ unwrap_or o (stored_type t)
unfolding told_type
told_by t o is = ap (λ (o : Option ColType). unwrap_or o (stored_type t)) is

-- the type that a word and two numbers tell
abbrev stored_by : Option (List ℕ) → ℕ → ℕ → ColType
stored_by o len align =
    cond (same_text o (Some (codes "fixed"))) (Fixed (below_or_zero 65536 len) (below_or_zero 256 align)) (Varlena (below_or_zero 256 align))

stored_is : (t : Members) (o : Option (List ℕ)) (len align : ℕ) → text_at (codes "type") t ≡ o → number_at (codes "len") t ≡ len → number_at (codes "align") t ≡ align
    → stored_type t ≡ stored_by o len align
unfolding stored_type has_type
stored_is t o len align typed has_len has_align = λ i. stored_by (typed i) (has_len i) (has_align i)

kept : (limit n : ℕ) → n < limit → n < 4294967296 → below_or_zero limit (below_2_32 (pos n)) ≡ n
kept limit n small fits = rw (lt-ltb n 4294967296 fits, lt-ltb n limit small) refl

pub told_back : (ctype : ColType) (t : Members) (name : List ℕ) (digits : Option (List ℕ)) → IsStorable ctype
    → IsWritten t name (word_of ctype) (told_len ctype) (told_align ctype) digits
    → told_type (Some t) ≡ ctype
told_back BoolType t name digits fits w = told_by t _ (key_type_by t _ w.typed)
told_back Int2 t name digits fits w = told_by t _ (key_type_by t _ w.typed)
told_back Int4 t name digits fits w = told_by t _ (key_type_by t _ w.typed)
told_back Int8 t name digits fits w = told_by t _ (key_type_by t _ w.typed)
told_back Uuid t name digits fits w = told_by t _ (key_type_by t _ w.typed)
told_back Text t name digits fits w = told_by t _ (key_type_by t _ w.typed)
told_back Bytea t name digits fits w = told_by t _ (key_type_by t _ w.typed)
told_back Oid t name digits fits w = told_by t _ (key_type_by t _ w.typed)
told_back Date t name digits fits w = told_by t _ (key_type_by t _ w.typed)
told_back Timestamp t name digits fits w = told_by t _ (key_type_by t _ w.typed)
told_back Timestamptz t name digits fits w = told_by t _ (key_type_by t _ w.typed)
told_back (Fixed len align) t name digits fits w =
    let len_kept = kept 65536 len fits.0 (let l = fits.0 in omega arith) in
    let align_kept = kept 256 align fits.1 (let l = fits.1 in omega arith) in
    told_by t None (key_type_by t _ w.typed) ∙ stored_is t _ _ _ w.typed w.has_len w.has_align ∙ (λ i. Fixed (len_kept i) (align_kept i))
told_back (Varlena align) t name digits fits w =
    told_by t None (key_type_by t _ w.typed) ∙ stored_is t _ _ _ w.typed w.has_len w.has_align ∙ ap Varlena (kept 256 align fits (omega (arith, fits)))

missing_back : (ctype : ColType) (missing : Option (Vec ℕ Global)) → AreBytes missing → missing_of ctype (missing_digits missing) ≡ missing_told ctype missing
unfolding missing_of decoded
missing_back ctype None bytes = refl
missing_back ctype (Some v) bytes = rw (decode_of-encode_lower v.items bytes) refl

abbrev pub members_of_column : ColumnPart → Members
members_of_column c = column_members (string_bytes c.name) (word_of c.ctype) (told_len c.ctype) (told_align c.ctype) (missing_digits c.missing)

pub column_written : (c : ColumnPart) → IsWritten (members_of_column c) (string_bytes c.name) (word_of c.ctype) (told_len c.ctype) (told_align c.ctype) (missing_digits c.missing)
column_written c = is_written (string_bytes c.name) (word_of c.ctype) (told_len c.ctype) (told_align c.ctype) (missing_digits c.missing)

pub column_back : (c : ColumnPart) → IsPlainColumn c → column_of (column_data c) ≡ column_told c
unfolding column_of column_data column_pairs column_told
column_back c plain =
    let w = column_written c in
    let told = told_back c.ctype (members_of_column c) (string_bytes c.name) (missing_digits c.missing) plain.fits w in
    let one : column_of (column_data c) ≡ record { ctype = c.ctype; missing = missing_of c.ctype (missing_digits c.missing) } =
    λ i. record { ctype = told i; missing = missing_of (told i) (w.has_digits i) } in
    one ∙ ap (λ m. record { ctype = c.ctype; missing = m }) (missing_back c.ctype c.missing plain.bytes)

pub columns_back : (cs : List ColumnPart) → AllByRecursion IsPlainColumn cs → map column_of (map column_data cs) ≡ map column_told cs
columns_back [] all = refl
columns_back (c ∷ cs) all = λ i. column_back c all.0 i ∷ columns_back cs all.1 i

-- whether a column that is written has a name, and may be a key
pub named_back : (name : List ℕ) (c : ColumnPart) → has_name (Some name) (column_data c) ≡ is_named name c
unfolding column_data column_pairs
named_back name c = ap (λ (o : Option (List ℕ)). same_text o (Some name)) (column_written c).named

key_back : (ctype : ColType) (t : Members) → text_at (codes "type") t ≡ Some (word_of ctype) → has_key_type t ≡ may_be_key ctype
key_back ctype t typed = ap is_some (key_type_by t _ typed ∙ type_by_word ctype) ∙ some_key (may_be_key ctype) ctype
  where
    some_key : (may : Bool) (ctype : ColType) → is_some (cond may (Some ctype) None) ≡ may
    some_key true ctype = refl
    some_key false ctype = refl

pub key_named_back : (name : List ℕ) (c : ColumnPart) → is_key_column (Some name) (column_data c) ≡ is_key_named name c
unfolding column_data column_pairs
key_named_back name c =
    let w = column_written c in
    let may = key_back c.ctype (members_of_column c) w.typed in
    λ i. named_back name c i && may i

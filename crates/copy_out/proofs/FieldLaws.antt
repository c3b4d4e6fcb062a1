-- A field tells its cell.
use Rattle.std.proofs.Common.{◌≡◌, ◌≢◌, ℕ, ◌<◌, ◌^◌, ◌==◌, ◌&&◌, suc, Bool, true, false, cond, List, [], ◌∷◌, length, drop, slice_index, Option, Some, None, refl, sym, ap, subst, ◌∙◌, arith}
use Rattle.std.specs.Prelude.{ℤ, pos, negsuc}
use Rattle.std.specs.Int.Signed.{mag}
use Rattle.std.proofs.lemmas.Bool.{cond-false, eqb-true}
use Rattle.hex.specs.Hex.{IsBytes, encode_lower}
use Rattle.key_orders.specs.Orders.{fits_type, is_between}
use Rattle.key_orders.specs.declared.columns.ColType.{ColType}
use Rattle.key_orders.specs.declared.columns.ColType.TheVariants as of
use Rattle.key_orders.specs.declared.columns.Value.{Value}
use Rattle.key_orders.specs.declared.columns.Value.TheVariants.{Null, Bool as BoolValue, Int, Bytes}
use Rattle.case_file.specs.declared.case.Column.{Column}
use Rattle.heap_rows.specs.RowFits.{FitsColumn}
use Rattle.copy_out.specs.Fields.{HasBytes, IsField, field_text, form_of, hexadecimal, value_text}
use Rattle.heap_rows.specs.declared.row_cells.Cell.{Cell}
use Rattle.heap_rows.specs.declared.row_cells.Cell.TheVariants.{Held, Packed}
use Rattle.copy_out.specs.declared.forms.Form.{Form}
use Rattle.copy_out.specs.declared.forms.Form.TheVariants.{Letter, Decimal, Grouped, Escaped, Digits}
use Rattle.copy_out.specs.Readings.{ReadsAs, bytes_read, mark_of, unescaped, without_hyphens}
use Rattle.copy_out.proofs.Breaks.{AllFree, IsClear, IsPlain, each-weaker, free_is_clear}
use Rattle.copy_out.proofs.Unescaping.{IsUnmarked, escaped_clear, escaped_unmarked, free_is_unmarked, unescaped_escaped}
use Rattle.copy_out.proofs.HexDigits.{bytes_read-encode, encode_digits, IsHexDigit}
use Rattle.copy_out.proofs.Grouping.{grouped_free, grouped_read}
use Rattle.copy_out.proofs.Numbers.{number_read, number_read-signed, signed_free}

-- what the values of a form are, besides null
abbrev pub IsOf : Form → Value → Type 0
IsOf form Null = Unit {0}
IsOf Letter (BoolValue b) = Unit {0}
IsOf Decimal (Int z) = mag z < 2 ^ 63
IsOf Grouped (Bytes bytes) = IsBytes bytes × (length bytes ≡ 16)
IsOf Escaped (Bytes bytes) = Unit {0}
IsOf Digits (Bytes bytes) = IsBytes bytes
IsOf form v = ⊥

-- the numbers of each type are those of eight bytes
in_range : (a h : ℕ) (z : ℤ) → a < 2 ^ 63 → h < 2 ^ 63 → is_between (negsuc a) (pos h) z ≡ true → mag z < 2 ^ 63
in_range a h (pos n) la lh e = grind arith
in_range a h (negsuc n) la lh e = grind arith

from_zero : (h : ℕ) (z : ℤ) → h < 2 ^ 63 → is_between (pos 0) (pos h) z ≡ true → mag z < 2 ^ 63
from_zero h (pos n) lh e = grind arith
from_zero h (negsuc n) lh e = absurd (cc e)

pub is_of : (ctype : ColType) (v : Value) → fits_type ctype v ≡ true → HasBytes (Held v) → IsOf (form_of ctype) v
is_of of.Bool Null h k = tt
is_of of.Bool (BoolValue b) h k = tt
is_of of.Bool (Int z) h k = absurd (cc h)
is_of of.Bool (Bytes bytes) h k = absurd (cc h)
is_of of.Int2 Null h k = tt
is_of of.Int2 (BoolValue b) h k = absurd (cc h)
is_of of.Int2 (Int z) h k = in_range 32767 32767 z (omega arith) (omega arith) h
is_of of.Int2 (Bytes bytes) h k = absurd (cc h)
is_of of.Int4 Null h k = tt
is_of of.Int4 (BoolValue b) h k = absurd (cc h)
is_of of.Int4 (Int z) h k = in_range 2147483647 2147483647 z (omega arith) (omega arith) h
is_of of.Int4 (Bytes bytes) h k = absurd (cc h)
is_of of.Int8 Null h k = tt
is_of of.Int8 (BoolValue b) h k = absurd (cc h)
is_of of.Int8 (Int z) h k = in_range 9223372036854775807 9223372036854775807 z (omega arith) (omega arith) h
is_of of.Int8 (Bytes bytes) h k = absurd (cc h)
is_of of.Uuid Null h k = tt
is_of of.Uuid (BoolValue b) h k = absurd (cc h)
is_of of.Uuid (Int z) h k = absurd (cc h)
is_of of.Uuid (Bytes bytes) h k = (k, eqb-true (length bytes) 16 h)
is_of of.Text Null h k = tt
is_of of.Text (BoolValue b) h k = absurd (cc h)
is_of of.Text (Int z) h k = absurd (cc h)
is_of of.Text (Bytes bytes) h k = tt
is_of of.Bytea Null h k = tt
is_of of.Bytea (BoolValue b) h k = absurd (cc h)
is_of of.Bytea (Int z) h k = absurd (cc h)
is_of of.Bytea (Bytes bytes) h k = k
is_of of.Oid Null h k = tt
is_of of.Oid (BoolValue b) h k = absurd (cc h)
is_of of.Oid (Int z) h k = from_zero 4294967295 z (omega arith) h
is_of of.Oid (Bytes bytes) h k = absurd (cc h)
is_of of.Date Null h k = tt
is_of of.Date (BoolValue b) h k = absurd (cc h)
is_of of.Date (Int z) h k = in_range 2147483647 2147483647 z (omega arith) (omega arith) h
is_of of.Date (Bytes bytes) h k = absurd (cc h)
is_of of.Timestamp Null h k = tt
is_of of.Timestamp (BoolValue b) h k = absurd (cc h)
is_of of.Timestamp (Int z) h k = in_range 9223372036854775807 9223372036854775807 z (omega arith) (omega arith) h
is_of of.Timestamp (Bytes bytes) h k = absurd (cc h)
is_of of.Timestamptz Null h k = tt
is_of of.Timestamptz (BoolValue b) h k = absurd (cc h)
is_of of.Timestamptz (Int z) h k = in_range 9223372036854775807 9223372036854775807 z (omega arith) (omega arith) h
is_of of.Timestamptz (Bytes bytes) h k = absurd (cc h)
is_of (of.Fixed len align) Null h k = tt
is_of (of.Fixed len align) (BoolValue b) h k = absurd (cc h)
is_of (of.Fixed len align) (Int z) h k = absurd (cc h)
is_of (of.Fixed len align) (Bytes bytes) h k = k
is_of (of.Varlena align) Null h k = tt
is_of (of.Varlena align) (BoolValue b) h k = absurd (cc h)
is_of (of.Varlena align) (Int z) h k = absurd (cc h)
is_of (of.Varlena align) (Bytes bytes) h k = k

-- Reading. What is read of a text that is no field's, is not said.

abbrev pub value_read : Form → List ℕ → Value
value_read Letter text = BoolValue (slice_index text 0 == 116)
value_read Decimal text = Int (number_read text)
value_read Grouped text = Bytes (bytes_read (without_hyphens text))
value_read Escaped text = Bytes (unescaped text false)
value_read Digits text = Bytes (bytes_read (drop 3 text))

abbrev cell_by : Form → List ℕ → Option Cell → Cell
cell_by form text (Some c) = c
cell_by form text None = Held (value_read form text)

-- what a field says
abbrev cell_read : ColType → List ℕ → Cell
cell_read ctype text = cell_by (form_of ctype) text (mark_of text)

unmarked_step : (a b : ℕ) (first second third : Bool) → (a == 92) ≡ first → (b == 78) ≡ second → (b == 35) ≡ third
    → (a ≡ 92 → (b ≢ 78) × (b ≢ 35))
    → cond first (cond second (Some (Held Null)) (cond third (Some Packed) None)) None ≡ None
unmarked_step a b false second third x y z h = refl
unmarked_step a b true true third x y z h = absurd ((h (eqb-true a 92 x)).0 (eqb-true b 78 y))
unmarked_step a b true false true x y z h = absurd ((h (eqb-true a 92 x)).1 (eqb-true b 35 z))
unmarked_step a b true false false x y z h = refl

other_length : (n a : ℕ) → (suc (suc (suc n)) == 2 && a == 92) ≡ false
other_length n a = grind arith

no_mark : (text : List ℕ) → IsUnmarked text → mark_of text ≡ None
no_mark [] h = refl
no_mark (a ∷ []) h = refl
no_mark (a ∷ b ∷ []) h = unmarked_step a b (a == 92) (b == 78) (b == 35) refl refl refl h
no_mark (a ∷ b ∷ c ∷ text) h = cond-false _ _ _ (other_length (length text) a)

-- the text of a value that isn't null: it is read back, has no tab or line feed, and is no mark
pub record IsTold (form : Form) (v : Value) : Type 0 where
  pub read : value_read form (value_text form v) ≡ v
  pub clear : IsClear (value_text form v)
  pub unmarked : IsUnmarked (value_text form v)

from_free : (form : Form) (v : Value) → value_read form (value_text form v) ≡ v → AllFree (value_text form v) → IsTold form v
from_free form v e h = record {
  read = e;
  clear = free_is_clear (value_text form v) h;
  unmarked = free_is_unmarked (value_text form v) h;
}

plain : (b : ℕ) → 14 < b → IsPlain b
plain b more = record { no_tab = λ e. omega arith; no_line_feed = λ e. omega arith }

-- `\\x` is taken off again
hexadecimal_told : (bytes : List ℕ) → IsBytes bytes → IsTold Digits (Bytes bytes)
unfolding hexadecimal
hexadecimal_told bytes h = record {
  read = ap Bytes (bytes_read-encode bytes h);
  clear = (
    plain 92 (omega arith),
    (
      plain 92 (omega arith),
      (
        plain 120 (omega arith),
        each-weaker IsHexDigit IsPlain (λ b d. record { no_tab = d.free.no_tab; no_line_feed = d.free.no_line_feed }) (encode_lower bytes) (encode_digits bytes),
      ),
    ),
  );
  unmarked = tt;
}

abbrev IsNull : Value → Type 0
IsNull Null = Unit {0}
IsNull v = ⊥

told : (form : Form) (v : Value) → (IsNull v → ⊥) → IsOf form v → IsTold form v
told Letter Null n h = absurd (n tt)
told Decimal Null n h = absurd (n tt)
told Grouped Null n h = absurd (n tt)
told Escaped Null n h = absurd (n tt)
told Digits Null n h = absurd (n tt)
told Letter (BoolValue true) n h = record { read = refl; clear = (plain 116 (omega arith), tt); unmarked = tt }
told Letter (BoolValue false) n h = record { read = refl; clear = (plain 102 (omega arith), tt); unmarked = tt }
told Decimal (Int z) n h = from_free Decimal (Int z) (ap Int (number_read-signed z h)) (signed_free z h)
told Grouped (Bytes bytes) n h = from_free Grouped (Bytes bytes) (ap Bytes (grouped_read bytes h.0 h.1)) (grouped_free bytes)
told Escaped (Bytes bytes) n h = record {
  read = ap Bytes (unescaped_escaped bytes);
  clear = escaped_clear bytes;
  unmarked = escaped_unmarked bytes;
}
told Digits (Bytes bytes) n h = hexadecimal_told bytes h
told Letter (Int z) n h = absurd h
told Letter (Bytes bytes) n h = absurd h
told Decimal (BoolValue b) n h = absurd h
told Decimal (Bytes bytes) n h = absurd h
told Grouped (BoolValue b) n h = absurd h
told Grouped (Int z) n h = absurd h
told Escaped (BoolValue b) n h = absurd h
told Escaped (Int z) n h = absurd h
told Digits (BoolValue b) n h = absurd h
told Digits (Int z) n h = absurd h

value_told : (ctype : ColType) (v : Value) → (IsNull v → ⊥) → fits_type ctype v ≡ true → HasBytes (Held v) → IsTold (form_of ctype) v
value_told ctype v n fits bytes = told (form_of ctype) v n (is_of ctype v fits bytes)

null_text : (form : Form) → value_text form Null ≡ 92 ∷ 78 ∷ []
null_text Letter = refl
null_text Decimal = refl
null_text Grouped = refl
null_text Escaped = refl
null_text Digits = refl

read_value : (form : Form) (v : Value) → IsTold form v → cell_by form (value_text form v) (mark_of (value_text form v)) ≡ Held v
read_value form v t = ap (cell_by form (value_text form v)) (no_mark (value_text form v) t.unmarked) ∙ ap Held t.read

read_null : (form : Form) (text : List ℕ) → text ≡ 92 ∷ 78 ∷ [] → cell_by form text (mark_of text) ≡ Held Null
read_null form text e = ap (λ (t : List ℕ). cell_by form t (mark_of t)) e

-- a field is read back
cell_read-field : (column : Column) (c : Cell) → FitsColumn column c → HasBytes c → cell_read column.ctype (field_text column.ctype c) ≡ c
cell_read-field column Packed fits bytes = refl
cell_read-field column (Held Null) fits bytes = read_null (form_of column.ctype) (value_text (form_of column.ctype) Null) (null_text (form_of column.ctype))
cell_read-field column (Held (BoolValue b)) fits bytes = read_value (form_of column.ctype) (BoolValue b) (value_told column.ctype (BoolValue b) (λ n. n) fits bytes)
cell_read-field column (Held (Int z)) fits bytes = read_value (form_of column.ctype) (Int z) (value_told column.ctype (Int z) (λ n. n) fits bytes)
cell_read-field column (Held (Bytes b)) fits bytes = read_value (form_of column.ctype) (Bytes b) (value_told column.ctype (Bytes b) (λ n. n) fits bytes)

-- a field tells its cell
pub field_tells : (column : Column) (c d : Cell) → FitsColumn column c → HasBytes c → FitsColumn column d → HasBytes d
    → field_text column.ctype c ≡ field_text column.ctype d → c ≡ d
field_tells column c d fc bc fd bd e =
    sym (cell_read-field column c fc bc) ∙ ap (cell_read column.ctype) e ∙ cell_read-field column d fd bd

-- no tab and no line feed is in a field
pub field_clear : (column : Column) (c : Cell) → FitsColumn column c → HasBytes c → IsClear (field_text column.ctype c)
field_clear column Packed fits bytes = (plain 92 (omega arith), (plain 35 (omega arith), tt))
field_clear column (Held Null) fits bytes = subst IsClear (sym (null_text (form_of column.ctype))) (plain 92 (omega arith), (plain 78 (omega arith), tt))
field_clear column (Held (BoolValue b)) fits bytes = (value_told column.ctype (BoolValue b) (λ n. n) fits bytes).clear
field_clear column (Held (Int z)) fits bytes = (value_told column.ctype (Int z) (λ n. n) fits bytes).clear
field_clear column (Held (Bytes b)) fits bytes = (value_told column.ctype (Bytes b) (λ n. n) fits bytes).clear

-- What the reader makes of a field.

-- where no mark was found, the cell has a value
reads_same : (form : Form) (v w : Value) (text : List ℕ) → (IsNull w → ⊥) → IsOf form w → ReadsAs form text v → text ≡ value_text form w → v ≡ w
reads_same Letter v w text n h r e = r ∙ ap (value_read Letter) e ∙ (told Letter w n h).read
reads_same Grouped v w text n h r e = r ∙ ap (value_read Grouped) e ∙ (told Grouped w n h).read
reads_same Escaped v w text n h r e = r ∙ ap (value_read Escaped) e ∙ (told Escaped w n h).read
reads_same Digits v w text n h r e = r ∙ ap (value_read Digits) e ∙ (told Digits w n h).read
reads_same Decimal v Null text n h r e = absurd (n tt)
reads_same Decimal v (BoolValue b) text n h r e = absurd h
reads_same Decimal v (Bytes bytes) text n h r e = absurd h
reads_same Decimal v (Int z) text n h r e = r.1 ∙ ap Int (r.2 z h e)

-- the mark of a cell, where it has one
marked_null : (column : Column) (text : List ℕ) → text ≡ value_text (form_of column.ctype) Null → mark_of text ≡ Some (Held Null)
marked_null column text e = ap mark_of (e ∙ null_text (form_of column.ctype))

unmarked_value : (column : Column) (w : Value) (text : List ℕ) → (IsNull w → ⊥) → IsField column (Held w) text → mark_of text ≡ None
unmarked_value column w text n f =
    ap mark_of f.is ∙ no_mark (value_text (form_of column.ctype) w) (value_told column.ctype w n f.fits f.bytes).unmarked

value_same : (column : Column) (v w : Value) (text : List ℕ) → (IsNull w → ⊥) → ReadsAs (form_of column.ctype) text v → IsField column (Held w) text → Held v ≡ Held w
value_same column v w text n r f = ap Held (reads_same (form_of column.ctype) v w text n (is_of column.ctype w f.fits f.bytes) r f.is)

pub mark_tells : (column : Column) (text : List ℕ) (c d : Cell) → mark_of text ≡ Some c → IsField column d text → c ≡ d
mark_tells column text c Packed m f = let e : mark_of text ≡ Some Packed = ap mark_of f.is in cc
mark_tells column text c (Held Null) m f = let e = marked_null column text f.is in cc
mark_tells column text c (Held (BoolValue b)) m f = let e = unmarked_value column (BoolValue b) text (λ n. n) f in cc
mark_tells column text c (Held (Int z)) m f = let e = unmarked_value column (Int z) text (λ n. n) f in cc
mark_tells column text c (Held (Bytes b)) m f = let e = unmarked_value column (Bytes b) text (λ n. n) f in cc

pub value_tells : (column : Column) (text : List ℕ) (v : Value) (d : Cell) → mark_of text ≡ None → ReadsAs (form_of column.ctype) text v → IsField column d text → Held v ≡ d
value_tells column text v Packed m r f = let e : mark_of text ≡ Some Packed = ap mark_of f.is in cc
value_tells column text v (Held Null) m r f = let e = marked_null column text f.is in cc
value_tells column text v (Held (BoolValue b)) m r f = value_same column v (BoolValue b) text (λ n. n) r f
value_tells column text v (Held (Int z)) m r f = value_same column v (Int z) text (λ n. n) r f
value_tells column text v (Held (Bytes b)) m r f = value_same column v (Bytes b) text (λ n. n) r f

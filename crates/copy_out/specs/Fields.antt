-- The text of a field: what a column of a row is written as.
use Rattle.std.specs.Prelude.{◌≡◌, ℕ, true, false, List, [], ◌∷◌, ◌++◌, length, take, drop, codes}
use Rattle.std.specs.Fmt.{signed_decimal}
use Rattle.std.specs.List.{join_with_byte}
use Rattle.hex.specs.Hex.{encode_lower, IsBytes}
use Rattle.key_orders.specs.declared.columns.ColType.{ColType}
use Rattle.key_orders.specs.declared.columns.ColType.TheVariants as of
use Rattle.key_orders.specs.declared.columns.Value.{Value}
use Rattle.key_orders.specs.declared.columns.Value.TheVariants.{Null, Bool, Int, Bytes}
use Rattle.case_file.specs.declared.case.Column.{Column}
use Rattle.heap_rows.specs.declared.row_cells.Cell.{Cell}
use Rattle.heap_rows.specs.declared.row_cells.Cell.TheVariants.{Held, Packed}
use Rattle.heap_rows.specs.RowFits.{FitsColumn}
use Rattle.copy_out.specs.Escapes.{escaped}
use Rattle.copy_out.specs.declared.forms.Form.{Form}
use Rattle.copy_out.specs.declared.forms.Form.TheVariants.{Letter, Decimal, Grouped, Escaped, Digits}

-- How the values of each type are written: as a letter, a number in decimal, digits in groups, bytes with escapes, or
-- digits.
abbrev pub form_of : ColType → Form
form_of of.Bool = Letter
form_of of.Int2 = Decimal
form_of of.Int4 = Decimal
form_of of.Int8 = Decimal
form_of of.Uuid = Grouped
form_of of.Text = Escaped
form_of of.Bytea = Digits
form_of of.Oid = Decimal
form_of of.Date = Decimal
form_of of.Timestamp = Decimal
form_of of.Timestamptz = Decimal
form_of (of.Fixed len align) = Digits
form_of (of.Varlena align) = Digits

-- groups of so many digits each
abbrev pub groups : List ℕ → List ℕ → List (List ℕ)
groups [] digits = []
groups (n ∷ ns) digits = take n digits ∷ groups ns (drop n digits)

-- groups of 8, 4, 4, 4 and 12 digits, joined by `-`
unfoldable pub in_groups : List ℕ → List ℕ
in_groups digits = join_with_byte 45 (groups (8 ∷ 4 ∷ 4 ∷ 4 ∷ 12 ∷ []) digits)

-- lower-case hexadecimal in groups
unfoldable pub grouped : List ℕ → List ℕ
grouped bytes = in_groups (encode_lower bytes)

-- `\\x`, and lower-case hexadecimal
unfoldable pub hexadecimal : List ℕ → List ℕ
hexadecimal bytes = codes "\\\\x" ++ encode_lower bytes

-- The text of a value by the form of its type; null is `\N`. What a type of this form can't have, has none.
abbrev pub value_text : Form → Value → List ℕ
value_text form Null = codes "\\N"
value_text Letter (Bool true) = codes "t"
value_text Letter (Bool false) = codes "f"
value_text Decimal (Int z) = signed_decimal z
value_text Grouped (Bytes bytes) = grouped bytes
value_text Escaped (Bytes bytes) = escaped bytes
value_text Digits (Bytes bytes) = hexadecimal bytes
value_text form v = []

-- the text of a cell by the form of its column's type; a compressed value is `\#`
abbrev pub cell_text : Form → Cell → List ℕ
cell_text form (Held v) = value_text form v
cell_text form Packed = codes "\\#"

-- the text of a cell in a column of a type
abbrev pub field_text : ColType → Cell → List ℕ
field_text ctype c = cell_text (form_of ctype) c

-- only 16 bytes are written in groups
abbrev pub FitsForm : Form → Value → Type 0
FitsForm Grouped (Bytes bytes) = length bytes ≡ 16
FitsForm form v = Unit {0}

abbrev pub FitsAs : Form → Cell → Type 0
FitsAs form (Held v) = FitsForm form v
FitsAs form Packed = Unit {0}

-- what it holds is made of bytes
abbrev pub HasBytes : Cell → Type 0
HasBytes (Held (Bytes bytes)) = IsBytes bytes
HasBytes c = Unit {0}

-- these bytes are the field of a cell, which its column may have
pub record IsField (column : Column) (c : Cell) (text : List ℕ) : Type 0 where
  pub fits : FitsColumn column c
  pub bytes : HasBytes c
  pub is : text ≡ field_text column.ctype c

-- The steps of reading a line: its fields, and what each says if it is one. Of what is read of other bytes nothing is
-- told.
use Rattle.std.specs.Prelude.{◌≡◌, ◌≢◌, ◌⊎◌, ℕ, ℤ, ◌<◌, ◌^◌, ◌==◌, ◌&&◌, if◌then◌else◌, not, Bool, true, false}
use Rattle.std.specs.Prelude.{List, [], ◌∷◌, ◌++◌, length, drop, slice_index, Option, Some, None}
use Rattle.std.specs.Fmt.{signed_decimal}
use Rattle.std.specs.Int.Signed.{mag}
use Rattle.std.specs.List.{AllByRecursion, filter}
use Rattle.std.specs.Result.{result_unwrap_or}
use Rattle.hex.specs.Hex.{decode_of}
use Rattle.case_file.specs.declared.case.Column.{Column}
use Rattle.key_orders.specs.declared.columns.Value.{Value}
use Rattle.key_orders.specs.declared.columns.Value.TheVariants.{Null, Bool as BoolValue, Int, Bytes}
use Rattle.copy_out.specs.Fields.{HasBytes}
use Rattle.heap_rows.specs.RowFits.{FitColumns}
use Rattle.copy_out.specs.Lines.{IsRow, row_text}
use Rattle.heap_rows.specs.declared.row_cells.Cell.{Cell}
use Rattle.heap_rows.specs.declared.row_cells.Cell.TheVariants.{Held, Packed}
use Rattle.copy_out.specs.declared.forms.Form.{Form}
use Rattle.copy_out.specs.declared.forms.Form.TheVariants.{Letter, Decimal, Grouped, Escaped, Digits}

-- the byte that a letter behind a backslash stands for
unfoldable pub byte_of : ℕ → ℕ
byte_of l =
    if l == 98 then 8
    else if l == 116 then 9
    else if l == 110 then 10
    else if l == 118 then 11
    else if l == 102 then 12
    else if l == 114 then 13
    else l

-- the bytes of a text with escapes, behind a backslash or not
abbrev pub unescaped : List ℕ → (behind : Bool) → List ℕ
unescaped [] behind = []
unescaped (b ∷ rest) true = byte_of b ∷ unescaped rest false
unescaped (b ∷ rest) false = if b == 92 then unescaped rest true else b ∷ unescaped rest false

-- the bytes of hexadecimal digits
unfoldable pub bytes_read : List ℕ → List ℕ
bytes_read digits = result_unwrap_or (decode_of digits) []

abbrev pub is_no_hyphen : ℕ → Bool
is_no_hyphen b = not (b == 45)

abbrev pub without_hyphens : List ℕ → List ℕ
without_hyphens text = filter is_no_hyphen text

-- the cell of a mark
abbrev pub mark_of : List ℕ → Option Cell
mark_of text =
    if length text == 2 && slice_index text 0 == 92
    then (if slice_index text 1 == 78 then Some (Held Null) else if slice_index text 1 == 35 then Some Packed else None)
    else None

-- it is the number of the text, where that is one
abbrev pub IsNumberOf : List ℕ → ℤ → Type 0
IsNumberOf text n = (z : ℤ) → mag z < 2 ^ 63 → text ≡ signed_decimal z → n ≡ z

-- the value of a field without a mark; of a number it is said which one it is, where it is one
abbrev pub ReadsAs : Form → List ℕ → Value → Type 0
ReadsAs Letter text v = v ≡ BoolValue (slice_index text 0 == 116)
ReadsAs Decimal text v = (n : ℤ) × (v ≡ Int n) × IsNumberOf text n
ReadsAs Grouped text v = v ≡ Bytes (bytes_read (without_hyphens text))
ReadsAs Escaped text v = v ≡ Bytes (unescaped text false)
ReadsAs Digits text v = v ≡ Bytes (bytes_read (drop 3 text))

-- the bytes are no row's, without its line feed
abbrev pub IsNoRow : List Column → List ℕ → Type 0
IsNoRow columns bytes = (cells : List Cell) → IsRow columns cells → bytes ≢ row_text columns cells

-- the byte isn't among these
abbrev pub Lacks : ℕ → List ℕ → Type 0
Lacks d bytes = AllByRecursion (λ b. b ≢ d) bytes

-- what stands before the first tab and what stands behind it, or all and nothing
pub record CutsField (bytes field after : List ℕ) : Type 0 where
  pub no_tab : Lacks 9 field
  pub cut : (bytes ≡ field ++ 9 ∷ after) ⊎ ((bytes ≡ field) × (after ≡ []))

-- the cells that are read of a row, or none where there is no row of this text
pub record ReadsCells (columns : List Column) (row : List ℕ) (cells : List Cell) : Type 0 where
  pub fit : FitColumns columns cells
  pub bytes : AllByRecursion HasBytes cells
  pub told : (wanted : List Cell) → IsRow columns wanted → row ≡ row_text columns wanted → cells ≡ wanted

abbrev pub ReadsRow : List Column → List ℕ → Option (List Cell) → Type 0
ReadsRow columns row (Some cells) = ReadsCells columns row cells
ReadsRow columns row None = IsNoRow columns row

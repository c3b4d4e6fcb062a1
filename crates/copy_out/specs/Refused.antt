-- Which texts are refused, and at which line.
use Rattle.std.specs.Prelude.{◌≡◌, ◌≢◌, ℕ, ◌+◌, ◌<◌, ◌==◌, if◌then◌else◌, List, [], ◌∷◌, ◌++◌, length}
use Rattle.std.specs.Prelude.{Result, Ok, Err}
use Rattle.std.specs.List.{AllByRecursion}
use Rattle.case_file.specs.declared.case.Column.{Column}
use Rattle.copy_out.specs.Lines.{IsRow, line_of, text_of}
use Rattle.heap_rows.specs.declared.row_cells.Cell.{Cell}
use Rattle.copy_out.specs.declared.read_texts.LineFault.{LineFault}
use Rattle.copy_out.specs.declared.read_texts.LineFault.TheVariants.{NoMemory, Refused}

-- the first line with its line feed, or all where there is none
abbrev pub first_line : List ℕ → List ℕ
first_line [] = []
first_line (b ∷ bytes) = if b == 10 then b ∷ [] else b ∷ first_line bytes

-- the line is no row's
abbrev pub IsNoLine : List Column → List ℕ → Type 0
IsNoLine columns line = (cells : List Cell) → IsRow columns cells → line ≢ line_of columns cells

-- After the lines of some rows the text goes on, with a line that is no row's. This is its number, counted from 1.
pub record IsRefusedAt (columns : List Column) (text : List ℕ) (line : ℕ) : Type 0 where
  pub before : List (List Cell)
  pub rest : List ℕ
  pub fit : AllByRecursion (IsRow columns) before
  pub is : text ≡ text_of columns before ++ rest
  pub count : line ≡ length before + 1
  pub some : 0 < length rest
  pub none : IsNoLine columns (first_line rest)

-- what a fault tells of the text
abbrev pub TellsFault : List Column → List ℕ → LineFault → Type 0
TellsFault columns text (Refused line) = IsRefusedAt columns text line
TellsFault columns text NoMemory = Unit {0}

-- the answer to the text of these rows
abbrev pub Answers : Result (List (List Cell)) LineFault → List (List Cell) → Type 0
Answers (Ok found) rows = found ≡ rows
Answers (Err (Refused line)) rows = ⊥
Answers (Err NoMemory) rows = Unit {0}

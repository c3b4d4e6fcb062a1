-- The forms of a command line: the first word is the command, and the others are its own.
use Rattle.std.specs.Prelude.{ℕ, List, [], ◌∷◌, Option, Some, None, codes, if◌then◌else◌}
use Rattle.std.specs.Option.{option_map}
use Rattle.std.specs.Str.{bytes_eq}
use Rattle.laws_search.specs.Keys.{Bound}
use Rattle.key_orders.specs.Scans.{Bounds}
use Rattle.key_orders.specs.declared.columns.Value.{Value}
use Rattle.key_orders.specs.declared.scans.ScanDirection.{ScanDirection}
use Rattle.cmd_line.specs.Bounds.{bound_written, direction_written}
use Rattle.cmd_line.specs.Numbers.{u32_written, u64_written}
use Rattle.cmd_line.specs.declared.bounds.Side.TheVariants.{Low, High}
use Rattle.cmd_line.specs.declared.notice.Notice.{Notice}
use Rattle.cmd_line.specs.declared.notice.Notice.TheVariants as notice
use Rattle.cmd_line.specs.declared.words.Shown.{Shown}
use Rattle.cmd_line.specs.declared.words.Shown.TheVariants as shown

-- a command that judges files and makes a report, with the names that it gives
pub data Check : Type 0 where
  -- pages FILE
  Pages : List ℕ → Check
  -- heap CASE
  Heap : List ℕ → Check
  -- index CASE NAME
  Index : (case name : List ℕ) → Check
  -- all CASE
  All : List ℕ → Check
  -- gen SEED ROWS
  Generated : (seed rows : ℕ) → Check

-- what the words ask for
pub data Form : Type 0 where
  Judge : Check → Form
  -- copy CASE
  Copy : List ℕ → Form
  -- reindex CASE NAME
  Reindex : (case name : List ℕ) → Form
  -- show heap FILE BLOCK, show tree FILE BLOCK
  Show : Shown → List ℕ → ℕ → Form
  -- scan CASE NAME LOW HIGH DIR
  Scan : (case name : List ℕ) → Bounds → ScanDirection → Form
  -- --help, --version
  Tell : Notice → Form

-- a form that has no words of its own
abbrev pub alone : Form → List (List ℕ) → Option Form
alone form [] = Some form
alone form (word ∷ words) = None

-- one word, which isn't empty
unfoldable pub name_alone : List (List ℕ) → Option (List ℕ)
name_alone [] = None
name_alone ([] ∷ words) = None
name_alone ((x ∷ xs) ∷ []) = Some (x ∷ xs)
name_alone ((x ∷ xs) ∷ word ∷ words) = None

-- a case and a name, unless one is empty
abbrev pub named_by : (case name : List ℕ) → Option (List ℕ × List ℕ)
named_by [] name = None
named_by (x ∷ xs) [] = None
named_by (x ∷ xs) (y ∷ ys) = Some (x ∷ xs, y ∷ ys)

-- two words, neither of which is empty
unfoldable pub case_and_name : List (List ℕ) → Option (List ℕ × List ℕ)
case_and_name [] = None
case_and_name (case ∷ []) = None
case_and_name (case ∷ name ∷ []) = named_by case name
case_and_name (case ∷ name ∷ word ∷ words) = None

-- what the page that a word names is a page of
unfoldable pub shown_by : List ℕ → Option Shown
shown_by word =
    if bytes_eq word (codes "heap") then Some shown.Heap
    else if bytes_eq word (codes "tree") then Some shown.Tree
    else None

-- a kind of page, a file, whose name isn't empty, and the number of a block
abbrev pub page_by : Option Shown → List ℕ → Option ℕ → Option Form
page_by None file block = None
page_by (Some kind) [] block = None
page_by (Some kind) (x ∷ xs) None = None
page_by (Some kind) (x ∷ xs) (Some block) = Some (Show kind (x ∷ xs) block)

unfoldable pub show_form : List (List ℕ) → Option Form
show_form [] = None
show_form (kind ∷ []) = None
show_form (kind ∷ file ∷ []) = None
show_form (kind ∷ file ∷ block ∷ []) = page_by (shown_by kind) file (u32_written block)
show_form (kind ∷ file ∷ block ∷ word ∷ words) = None

-- a seed, and a number of rows
abbrev pub generated_by : (seed rows : Option ℕ) → Option Form
generated_by None rows = None
generated_by (Some seed) None = None
generated_by (Some seed) (Some rows) = Some (Judge (Generated seed rows))

-- two words that write these
unfoldable pub generated_form : List (List ℕ) → Option Form
generated_form [] = None
generated_form (seed ∷ []) = None
generated_form (seed ∷ rows ∷ []) = generated_by (u64_written seed) (u32_written rows)
generated_form (seed ∷ rows ∷ word ∷ words) = None

-- a case and a name, unless one is empty, and words that write two bounds and a direction
abbrev pub scan_by : (case name : List ℕ) → (low high : Option (Bound Value)) → Option ScanDirection → Option Form
scan_by [] name low high direction = None
scan_by (x ∷ xs) [] low high direction = None
scan_by (x ∷ xs) (y ∷ ys) None high direction = None
scan_by (x ∷ xs) (y ∷ ys) (Some low) None direction = None
scan_by (x ∷ xs) (y ∷ ys) (Some low) (Some high) None = None
scan_by (x ∷ xs) (y ∷ ys) (Some low) (Some high) (Some direction) =
    Some (Scan (x ∷ xs) (y ∷ ys) (record { low = low; high = high }) direction)

unfoldable pub scan_form : List (List ℕ) → Option Form
scan_form [] = None
scan_form (case ∷ []) = None
scan_form (case ∷ name ∷ []) = None
scan_form (case ∷ name ∷ low ∷ []) = None
scan_form (case ∷ name ∷ low ∷ high ∷ []) = None
scan_form (case ∷ name ∷ low ∷ high ∷ direction ∷ []) =
    scan_by case name (bound_written Low low) (bound_written High high) (direction_written direction)
scan_form (case ∷ name ∷ low ∷ high ∷ direction ∷ word ∷ words) = None

-- a command's name, and the words after it
unfoldable pub command_form : List ℕ → List (List ℕ) → Option Form
command_form command words =
    if bytes_eq command (codes "pages") then option_map (λ file. Judge (Pages file)) (name_alone words)
    else if bytes_eq command (codes "heap") then option_map (λ case. Judge (Heap case)) (name_alone words)
    else if bytes_eq command (codes "index") then option_map (λ w. Judge (Index w.0 w.1)) (case_and_name words)
    else if bytes_eq command (codes "reindex") then option_map (λ w. Reindex w.0 w.1) (case_and_name words)
    else if bytes_eq command (codes "all") then option_map (λ case. Judge (All case)) (name_alone words)
    else if bytes_eq command (codes "copy") then option_map (λ case. Copy case) (name_alone words)
    else if bytes_eq command (codes "show") then show_form words
    else if bytes_eq command (codes "gen") then generated_form words
    else if bytes_eq command (codes "scan") then scan_form words
    else if bytes_eq command (codes "--help") then alone (Tell notice.Help) words
    else if bytes_eq command (codes "--version") then alone (Tell notice.Version) words
    else None

-- words that have none of the forms ask for nothing
unfoldable pub form_of : List (List ℕ) → Option Form
form_of [] = None
form_of (command ∷ words) = command_form command words

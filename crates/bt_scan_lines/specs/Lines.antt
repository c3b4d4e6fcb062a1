-- The lines of entries.
use Rattle.std.specs.Prelude.{◌≡◌, ◌+◌, ℕ, List, ◌++◌, length, reverse}
use Rattle.std.specs.List.{flat_map}
use Rattle.laws_search.specs.Keys.{Entry}
use Rattle.key_orders.specs.declared.columns.Value.{Value}
use Rattle.key_orders.specs.declared.Tid.{Tid}
use Rattle.back_scan.specs.Texts.{entry_text}
use Rattle.key_orders.specs.declared.scans.ScanDirection.{ScanDirection}
use Rattle.key_orders.specs.declared.scans.ScanDirection.TheVariants.{Forward, Backward}
use Rattle.bt_scan_lines.specs.declared.lines.LineWriter.{LineWriter}
use Rattle.bt_scan_lines.specs.declared.lines.ScanLines.{ScanLines}

abbrev pub line_of : Entry Value Tid → List ℕ
line_of e = entry_text e.values e.tid

abbrev pub lines_of : List (Entry Value Tid) → List ℕ
lines_of es = flat_map line_of es

-- in the order of the index, or in the reverse of that
abbrev pub in_direction : ScanDirection → List (Entry Value Tid) → List (Entry Value Tid)
in_direction Forward es = es
in_direction Backward es = reverse es

-- they are the lines of these entries
pub record AreLinesOf (es : List (Entry Value Tid)) (lines : ScanLines) : Type 0 where
  pub text : lines.text ≡ lines_of es
  pub count : lines.count ≡ length es

-- those were added
pub record AddsLinesOf (es : List (Entry Value Tid)) (old new : LineWriter) : Type 0 where
  pub text : new.text ≡ old.text ++ lines_of es
  pub count : new.count ≡ old.count + length es

-- they were added but for these, which are left
pub record LeavesLinesOf (es left : List (Entry Value Tid)) (old new : LineWriter) : Type 0 where
  pub text : new.text ++ lines_of left ≡ old.text ++ lines_of es
  pub count : new.count + length left ≡ old.count + length es

use Rattle.std.proofs.Common.{◌≡◌, ◌≤◌, ◌+◌, ◌++◌, length}
use Rattle.std.specs.List.{AllByRecursion}
use Rattle.copy_out.specs.Lines.{IsRow, text_of}
use Rattle.copy_out.proofs.read_texts.read_rows.Given as goal

-- what was read are rows, and what is left goes on from there
abbrev pub invariant-loop-rest : goal.invariant-loop-rest
invariant-loop-rest l = record {
  fit : AllByRecursion (IsRow l.columns) l.rows;
  told : l.text ≡ text_of l.columns l.rows ++ l.rest;
  counted : l.line ≡ length l.rows + 1;
  few : length l.rows + length l.rest ≤ length l.text;
}

abbrev pub decreases-loop-rest : goal.decreases-loop-rest
decreases-loop-rest l = length l.rest

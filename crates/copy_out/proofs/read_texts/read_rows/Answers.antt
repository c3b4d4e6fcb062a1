use Rattle.std.proofs.Common.{◌≡◌, ◌++◌, ◌∷◌, ◌+◌, ◌<◌, ◌==◌, [], List, ℕ, suc, false, length, sym, ap, subst, ◌∙◌, arith, length-append, Option}
use Rattle.std.specs.Prelude.{MatchOption}
use Rattle.std.specs.List.{AllByRecursion}
use Rattle.case_file.specs.declared.case.Column.{Column}
use Rattle.copy_out.specs.Lines.{IsRow, row_text, text_of}
use Rattle.copy_out.specs.Readings.{IsNoRow}
use Rattle.heap_rows.specs.declared.row_cells.Cell.{Cell}
use Rattle.copy_out.proofs.Breaks.{each-append}
use Rattle.copy_out.proofs.Refusals.{no_feed_no_line, no_row_no_line, row_read}
use Rattle.copy_out.proofs.read_texts.read_rows.Goals as goal

some : (xs : List ℕ) → false ≡ (length xs == 0) → 0 < length xs
some [] e = cc e
some (x ∷ xs) e = omega arith

-- what reading a line answers
abbrev Line : List Column → List ℕ → Option (List Cell) → Type 0
Line columns row found = MatchOption found (IsNoRow columns row) (λ cells. IsRow columns cells × (row ≡ row_text columns cells))

pub returns-in_default-clause-fault : goal.returns-in_default-clause-fault
returns-in_default-clause-fault c = record {
  before = c.loop-rest.rows;
  rest = c.loop-rest.rest.now;
  fit = c.loop-rest.invariant.fit;
  is = c.loop-rest.invariant.told;
  count = c.loop-rest.invariant.counted;
  some = some c.loop-rest.rest.now c.loop-rest-test.ensures;
  none = no_feed_no_line c.args.columns.now c.loop-rest.rest.now c.in_default.ensures;
}

pub returns-in_default-2-clause-fault : goal.returns-in_default-2-clause-fault
returns-in_default-2-clause-fault c =
    let row = c.in-Some.row.now in
    let no_row = subst (Line c.args.columns.now row) c.in_default-2.is c.in_ok-cells.ensures in
    record {
      before = c.loop-rest.rows;
      rest = c.loop-rest.rest.now;
      fit = c.loop-rest.invariant.fit;
      is = c.loop-rest.invariant.told;
      count = c.loop-rest.invariant.counted;
      some = some c.loop-rest.rest.now c.loop-rest-test.ensures;
      none = no_row_no_line c.args.columns.now c.loop-rest.rest.now row c.in-Some.after.now c.in-Some.ensures.0 c.in-Some.ensures.1 no_row;
    }

pub loop-rest-preserved : goal.loop-rest-preserved
loop-rest-preserved c =
    let columns = c.args.columns.now in
    let row = c.in-Some.row.now in
    let after = c.in-Some.after.now in
    let rows = c.loop-rest.rows in
    let cells = c.in-Some-2.cells in
    let before = c.loop-rest.invariant in
    let read = subst (Line columns row) c.in-Some-2.is c.in_ok-cells.ensures in
    let pushed = c.in_ok-push.ensures.ok in
    let longer : length c.push.new.self ≡ length rows + 1 = ap length pushed ∙ length-append rows (cells ∷ []) in
    let shorter : length c.loop-rest.rest.now ≡ length row + suc (length after) = ap length c.in-Some.ensures.0 ∙ length-append row (10 ∷ after) in
    record {
      fit = subst (AllByRecursion (IsRow columns)) (sym pushed) (each-append (IsRow columns) rows (cells ∷ []) before.fit (read.0, tt));
      told = row_read columns c.args.text.now c.loop-rest.rest.now row after rows cells before.told c.in-Some.ensures.0 read.1
          ∙ ap (λ (rs : List (List Cell)). text_of columns rs ++ after) (sym pushed);
      counted = omega (arith, longer);
      few = omega (arith, longer, shorter);
    }

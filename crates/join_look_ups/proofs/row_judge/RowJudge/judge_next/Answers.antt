use Rattle.std.proofs.Common.{◌≡◌, ◌∙◌, ◌∷◌, ◌+◌, ◌*◌, ◌≤◌, ℕ, List, length, refl, ap, sym, subst, arith}
use Rattle.std.specs.Prelude.{Option, drop}
use Rattle.outside.specs.Adds.{Begins, Leaves}
use Rattle.outside.proofs.Adding.{Begins-none, Leaves-none}
use Rattle.reports.specs.Added.{report_lists}
use Rattle.join_look_ups.specs.Looking.{look_length}
use Rattle.heap_rows.specs.declared.row_cursor.RowPlace.{RowPlace}
use Rattle.heap_rows.specs.declared.rows.LiveRow.{LiveRow}
use Rattle.heap_rows.specs.RowCursor.{IsPlaceOfFirst, rows_here}
use Rattle.heap_rows.specs.Reads.{value_reads}
use Rattle.join_look_ups.specs.Rows.{owed_for}
use Rattle.join_look_ups.proofs.Owed.{Settles-exit, found-row, left-is, row-cut, row-step}
use Rattle.join_row_keys.proofs.Places.{same-index}
use Rattle.join_look_ups.proofs.row_judge.RowJudge.judge_next.Goals as goal

pub returns-in_err-place-clause-lists : goal.returns-in_err-place-clause-lists
returns-in_err-place-clause-lists g c = λ names told.
    let owed = owed_for names c.args.self.index.at.tree.now (rows_here names c.args.cursor.now) in
    Settles-exit c.from_residual.result _ c.args.report.now c.args.report.now owed _ c.from_residual.ensures.1 (Begins-none report_lists c.args.report.now owed)

pub returns-in_err-place-clause-told : goal.returns-in_err-place-clause-told
returns-in_err-place-clause-told g c = λ names told. record { ready = (c.requires.told names told).ready; cursor_of = c.find_in_block.ensures.told names told }

pub returns-in_default-clause-lists : goal.returns-in_default-clause-lists
returns-in_default-clause-lists g c = λ names told.
    let tree = c.args.self.index.at.tree.now in
    left-is (ap (owed_for names tree) (sym (c.find_in_block.ensures.here names told)))
    (Leaves-none report_lists c.args.report.now (owed_for names tree (rows_here names c.args.cursor.now)))

pub returns-in_default-clause-told : goal.returns-in_default-clause-told
returns-in_default-clause-told g c = λ names told. record { ready = (c.requires.told names told).ready; cursor_of = c.find_in_block.ensures.told names told }

pub find_in_block-requires : goal.find_in_block-requires
find_in_block-requires g c = record { told = λ names told. (c.requires.told names told).cursor_of }

pub judge_row-requires-clause-index : goal.judge_row-requires-clause-index
judge_row-requires-clause-index g c = same-index c.args.self.index c.args.cursor.now c.find_in_block.new.self c.find_in_block.ensures.same c.requires.index

pub judge_row-requires-clause-ready : goal.judge_row-requires-clause-ready
judge_row-requires-clause-ready g c = λ names told. (c.requires.told names (sym c.find_in_block.ensures.asked.same ∙ told)).ready

pub returns-in_err-judge_row-clause-lists : goal.returns-in_err-judge_row-clause-lists
returns-in_err-judge_row-clause-lists g c = λ names told.
    let tree = c.args.self.index.at.tree.now in
    let cursor = c.find_in_block.new.self in
    let found = found-row names cursor c.in-Some.place (c.find_in_block.ensures.told names told) (subst (λ (o : Option RowPlace). IsPlaceOfFirst o (rows_here names cursor)) c.in-Some.is (c.in_ok-place.ensures.first names told)) in
    let was : rows_here names c.args.cursor.now ≡ found.0 ∷ found.1.rows = sym (c.find_in_block.ensures.here names told) ∙ found.1.here in
    let owed = owed_for names tree (rows_here names c.args.cursor.now) in
    let begins : Begins report_lists c.args.report.now c.judge_row.new.report owed =
    subst (λ (rs : List LiveRow). Begins report_lists c.args.report.now c.judge_row.new.report (owed_for names tree rs)) (sym was)
    (row-cut names tree found.0 found.1.rows c.args.report.now c.judge_row.new.report (c.in_err-judge_row.ensures.lists names (c.find_in_block.ensures.asked.same ∙ told) found.0 found.1)) in
    Settles-exit c.from_residual-in_err-judge_row.result _ c.args.report.now c.judge_row.new.report owed _ c.from_residual-in_err-judge_row.ensures.1 begins

pub returns-in_err-judge_row-clause-told : goal.returns-in_err-judge_row-clause-told
returns-in_err-judge_row-clause-told g c = λ names told. record { ready = c.judge_row.ensures.ready names (c.find_in_block.ensures.asked.same ∙ told); cursor_of = c.find_in_block.ensures.told names told }

pub returns-clause-lists : goal.returns-clause-lists
returns-clause-lists g c = λ names told.
    let tree = c.args.self.index.at.tree.now in
    let cursor = c.find_in_block.new.self in
    let found = found-row names cursor c.in-Some.place (c.find_in_block.ensures.told names told) (subst (λ (o : Option RowPlace). IsPlaceOfFirst o (rows_here names cursor)) c.in-Some.is (c.in_ok-place.ensures.first names told)) in
    let was : rows_here names c.args.cursor.now ≡ found.0 ∷ found.1.rows = sym (c.find_in_block.ensures.here names told) ∙ found.1.here in
    let now : rows_here names c.pass.new.self ≡ found.1.rows = c.pass.ensures.here names (c.find_in_block.ensures.told names told) ∙ ap (λ (rs : List LiveRow). drop 1 rs) found.1.here in
    subst (λ (rs : List LiveRow). Leaves report_lists c.args.report.now c.judge_row.new.report (owed_for names tree rs) (owed_for names tree (rows_here names c.pass.new.self))) (sym was)
    (subst (λ (rs : List LiveRow). Leaves report_lists c.args.report.now c.judge_row.new.report (owed_for names tree (found.0 ∷ found.1.rows)) (owed_for names tree rs)) (sym now)
    (row-step names tree found.0 found.1.rows c.args.report.now c.judge_row.new.report (c.in_ok-judge_row.ensures.lists names (c.find_in_block.ensures.asked.same ∙ told) found.0 found.1)))

pub returns-clause-next : goal.returns-clause-next
returns-clause-next g c = λ names told more.
    let cursor = c.find_in_block.new.self in
    let found = found-row names cursor c.in-Some.place (c.find_in_block.ensures.told names told) (subst (λ (o : Option RowPlace). IsPlaceOfFirst o (rows_here names cursor)) c.in-Some.is (c.in_ok-place.ensures.first names told)) in
    let was : rows_here names c.args.cursor.now ≡ found.0 ∷ found.1.rows = sym (c.find_in_block.ensures.here names told) ∙ found.1.here in
    let now : rows_here names c.pass.new.self ≡ found.1.rows = c.pass.ensures.here names (c.find_in_block.ensures.told names told) ∙ ap (λ (rs : List LiveRow). drop 1 rs) found.1.here in
    ap length was ∙ omega (arith, ap length now)

-- one row's visits
spent-by : (a b n L : ℕ) → a ≤ b + L → a + n * L ≤ b + (n + 1) * L
spent-by a b n L h = omega arith

pub returns-clause-visits : goal.returns-clause-visits
returns-clause-visits g c = λ names told.
    let L = look_length names c.args.self.index.at.tree.now in
    let more : length (rows_here names c.args.cursor.now) ≡ length (rows_here names c.pass.new.self) + 1 = returns-clause-next g c names told refl in
    subst (λ (m : ℕ). c.judge_row.new.look_ups.visits.count + length (rows_here names c.pass.new.self) * L ≤ c.args.look_ups.now.visits.count + m * L) (sym more)
    (spent-by c.judge_row.new.look_ups.visits.count c.args.look_ups.now.visits.count (length (rows_here names c.pass.new.self)) L (c.judge_row.ensures.visits names (c.find_in_block.ensures.asked.same ∙ told)))

pub returns-clause-told : goal.returns-clause-told
returns-clause-told g c = λ names told. record {
  ready = c.judge_row.ensures.ready names (c.find_in_block.ensures.asked.same ∙ told);
  cursor_of = c.pass.ensures.told names (c.find_in_block.ensures.told names told);
}

-- a row's values and its look-up
read-by : (a b d V n L : ℕ) → b ≤ a + V → d ≤ b + L → d + n * L ≤ a + (V + (n + 1) * L)
read-by a b d V n L first look =
    let turn : (n + 1) * L ≡ n * L + L = omega arith in
    omega (arith, first, look, turn)

pub returns-clause-spent : goal.returns-clause-spent
returns-clause-spent g c = λ names told.
    let L = look_length names c.args.self.index.at.tree.now in
    let V = value_reads c.args.cursor.now in
    let n = length (rows_here names c.pass.new.self) in
    let more : length (rows_here names c.args.cursor.now) ≡ n + 1 = returns-clause-next g c names told refl in
    let first : (g.F.Files.seen c.find_in_block.new.files).reads ≤ (g.F.Files.seen c.args.files.now).reads + V = c.find_in_block.ensures.asked.most in
    subst (λ (m : ℕ). (g.F.Files.seen c.judge_row.new.files).reads + n * L ≤ (g.F.Files.seen c.args.files.now).reads + (V + m * L)) (sym more)
    (read-by (g.F.Files.seen c.args.files.now).reads (g.F.Files.seen c.find_in_block.new.files).reads (g.F.Files.seen c.judge_row.new.files).reads V n L first (c.judge_row.ensures.reads names (c.find_in_block.ensures.asked.same ∙ told)))

pub returns-clause-reads : goal.returns-clause-reads
returns-clause-reads g c = λ names told.
    let spent = returns-clause-spent g c names told in
    omega (arith, spent)

pub returns-in_err-judge_row-clause-reads : goal.returns-in_err-judge_row-clause-reads
returns-in_err-judge_row-clause-reads g c = λ names told.
    let L = look_length names c.args.self.index.at.tree.now in
    let V = value_reads c.args.cursor.now in
    let cursor = c.find_in_block.new.self in
    let found = found-row names cursor c.in-Some.place (c.find_in_block.ensures.told names told) (subst (λ (o : Option RowPlace). IsPlaceOfFirst o (rows_here names cursor)) c.in-Some.is (c.in_ok-place.ensures.first names told)) in
    let was : rows_here names c.args.cursor.now ≡ found.0 ∷ found.1.rows = sym (c.find_in_block.ensures.here names told) ∙ found.1.here in
    let n = length found.1.rows in
    let more : length (rows_here names c.args.cursor.now) ≡ n + 1 = ap length was ∙ omega arith in
    let first : (g.F.Files.seen c.find_in_block.new.files).reads ≤ (g.F.Files.seen c.args.files.now).reads + V = c.find_in_block.ensures.asked.most in
    let all = read-by (g.F.Files.seen c.args.files.now).reads (g.F.Files.seen c.find_in_block.new.files).reads (g.F.Files.seen c.judge_row.new.files).reads V n L first (c.judge_row.ensures.reads names (c.find_in_block.ensures.asked.same ∙ told)) in
    subst (λ (m : ℕ). (g.F.Files.seen c.judge_row.new.files).reads ≤ (g.F.Files.seen c.args.files.now).reads + (V + m * L)) (sym more) (omega (arith, all))

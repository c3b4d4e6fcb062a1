use Rattle.std.proofs.Common.{◌≡◌, ◌∙◌, ◌+◌, ◌*◌, ◌<◌, ◌≤◌, ℕ, [], length, refl, ap, sym, arith}
use Rattle.std.proofs.Math.Nat.{mul-le-mul_left}
use Rattle.outside.proofs.Adding.{Adds-exit, Begins-after, Leaves-last, Leaves-none, Leaves-then}
use Rattle.outside.proofs.Asking.{Passed-next, Passed-none}
use Rattle.reports.specs.Added.{report_lists}
use Rattle.heap_rows.specs.RowCursor.{rows_here}
use Rattle.heap_rows.specs.Reads.{value_reads}
use Rattle.heap_rows.proofs.ReadLaws.{value-same}
use Rattle.join_look_ups.specs.Looking.{look_length}
use Rattle.join_look_ups.specs.Rows.{owed_for}
use Rattle.join_look_ups.proofs.Owed.{left-is, none-left, owed-none}
use Rattle.join_row_keys.proofs.Places.{same-index, same-then}
use Rattle.join_look_ups.proofs.row_judge.RowJudge.judge_block.Goals as goal

pub judge_next-requires-clause-told : goal.judge_next-requires-clause-told
judge_next-requires-clause-told g c = λ names told. c.loop-k.invariant.told names (sym c.loop-k.invariant.asked.same ∙ told)

pub loop-k-init : goal.loop-k-init
loop-k-init g c = record {
  index = c.requires.index;
  told = c.requires.told;
  lists = λ names told. Leaves-none report_lists c.args.report.now (owed_for names c.args.self.index.at.tree.now (rows_here names c.args.cursor.now));
  visits = λ names told. omega arith;
  spent = λ names told. omega arith;
  few = λ names told. omega arith;
  next_block = refl;
  taken = refl;
  same = record { case = refl; heap = refl; asked = refl };
  asked = Passed-none;
}

-- one more row
one-more : (a b d x y z v w k : ℕ) → w ≡ v → b + y ≤ a + (v * k + z) → d + x ≤ b + (w + y) → d + x ≤ a + (v * (k + 1) + z)
one-more a b d x y z v w k same before step =
    let turn : v * (k + 1) ≡ v * k + v = omega arith in
    omega (arith, same, before, step, turn)

-- and what is read for it is within what may be read for all
within-all : (a b d y z v w k : ℕ) → k < 2042 → w ≡ v → b + y ≤ a + (v * k + z) → d ≤ b + (w + y) → d ≤ a + (v * 2042 + z)
within-all a b d y z v w k lt same before step =
    let turn : v * (k + 1) ≡ v * k + v = omega arith in
    let most : v * (k + 1) ≤ v * 2042 = mul-le-mul_left v (omega (arith, lt)) in
    omega (arith, same, before, step, turn)

pub loop-k-preserved : goal.loop-k-preserved
loop-k-preserved g c =
    let inv = c.loop-k.invariant in
    let next = c.in_ok-judge_next.ensures in
    record {
      index = same-index c.args.self.index c.loop-k.cursor c.judge_next.new.cursor next.same inv.index;
      told = λ names told. next.told names (inv.asked.same ∙ told);
      lists = λ names told. Leaves-then report_lists (inv.lists names told) (next.lists names (inv.asked.same ∙ told));
      visits = λ names told.
          let step = next.visits names (inv.asked.same ∙ told) in
          let before = inv.visits names told in
          omega arith;
      spent = λ names told.
          let step = next.spent names (inv.asked.same ∙ told) in
          let before = inv.spent names told in
          let same = value-same c.args.cursor.now c.loop-k.cursor inv.same in
          let L = look_length names c.args.self.index.at.tree.now in
          one-more (g.F.Files.seen c.args.files.now).reads (g.F.Files.seen c.loop-k.files).reads (g.F.Files.seen c.judge_next.new.files).reads (length (rows_here names c.judge_next.new.cursor) * L) (length (rows_here names c.loop-k.cursor) * L) (length (rows_here names c.args.cursor.now) * L) (value_reads c.args.cursor.now) (value_reads c.loop-k.cursor) c.loop-k.k same before step;
      few = λ names told.
          let one = next.next names (inv.asked.same ∙ told) c.if-not-branch.false in
          let before = inv.few names told in
          omega arith;
      next_block = next.next_block ∙ inv.next_block;
      taken = next.taken ∙ inv.taken;
      same = same-then c.args.cursor.now c.loop-k.cursor c.judge_next.new.cursor inv.same next.same;
      asked = Passed-next inv.asked next.asked;
    }

pub returns-in_err-judge_next-clause-lists : goal.returns-in_err-judge_next-clause-lists
returns-in_err-judge_next-clause-lists g c = λ names told.
    let owed = owed_for names c.args.self.index.at.tree.now (rows_here names c.args.cursor.now) in
    Adds-exit report_lists c.from_residual.result _ c.args.report.now c.judge_next.new.report owed c.from_residual.ensures.1
    (Begins-after report_lists (c.loop-k.invariant.lists names told) (c.in_err-judge_next.ensures.lists names (c.loop-k.invariant.asked.same ∙ told)))

pub returns-then-not-branch-clause-lists : goal.returns-then-not-branch-clause-lists
returns-then-not-branch-clause-lists g c = λ names told.
    let tree = c.args.self.index.at.tree.now in
    let same = c.loop-k.invariant.asked.same ∙ told in
    let none : rows_here names c.judge_next.new.cursor ≡ [] = c.in_ok-judge_next.ensures.end names same c.if-not-branch.true in
    Leaves-last report_lists
    (left-is (ap (owed_for names tree) none ∙ owed-none names tree)
    (Leaves-then report_lists (c.loop-k.invariant.lists names told) (c.in_ok-judge_next.ensures.lists names same)))

pub returns-clause-lists : goal.returns-clause-lists
returns-clause-lists g c = λ names told.
    let tree = c.args.self.index.at.tree.now in
    let few = c.requires.few names told in
    let left = c.loop-k.invariant.few names told in
    let none : rows_here names c.loop-k.cursor ≡ [] = none-left (rows_here names c.loop-k.cursor) (omega arith) in
    Leaves-last report_lists (left-is (ap (owed_for names tree) none ∙ owed-none names tree) (c.loop-k.invariant.lists names told))

pub returns-clause-end : goal.returns-clause-end
returns-clause-end g c = λ names told.
    let few = c.requires.few names told in
    let left = c.loop-k.invariant.few names told in
    none-left (rows_here names c.loop-k.cursor) (omega arith)

pub returns-in_err-judge_next-clause-told : goal.returns-in_err-judge_next-clause-told
returns-in_err-judge_next-clause-told g c = λ names told. c.judge_next.ensures.told names (c.loop-k.invariant.asked.same ∙ told)

pub returns-then-not-branch-clause-told : goal.returns-then-not-branch-clause-told
returns-then-not-branch-clause-told g c = λ names told. c.judge_next.ensures.told names (c.loop-k.invariant.asked.same ∙ told)

pub returns-in_err-judge_next-clause-reads : goal.returns-in_err-judge_next-clause-reads
returns-in_err-judge_next-clause-reads g c = λ names told.
    let inv = c.loop-k.invariant in
    let L = look_length names c.args.self.index.at.tree.now in
    within-all (g.F.Files.seen c.args.files.now).reads (g.F.Files.seen c.loop-k.files).reads (g.F.Files.seen c.judge_next.new.files).reads (length (rows_here names c.loop-k.cursor) * L) (length (rows_here names c.args.cursor.now) * L) (value_reads c.args.cursor.now) (value_reads c.loop-k.cursor) c.loop-k.k
    (omega (arith, c.loop-k-test.true)) (value-same c.args.cursor.now c.loop-k.cursor inv.same) (inv.spent names told) (c.in_err-judge_next.ensures.reads names (inv.asked.same ∙ told))

pub returns-then-not-branch-clause-reads : goal.returns-then-not-branch-clause-reads
returns-then-not-branch-clause-reads g c = λ names told.
    let inv = c.loop-k.invariant in
    let L = look_length names c.args.self.index.at.tree.now in
    within-all (g.F.Files.seen c.args.files.now).reads (g.F.Files.seen c.loop-k.files).reads (g.F.Files.seen c.judge_next.new.files).reads (length (rows_here names c.loop-k.cursor) * L) (length (rows_here names c.args.cursor.now) * L) (value_reads c.args.cursor.now) (value_reads c.loop-k.cursor) c.loop-k.k
    (omega (arith, c.loop-k-test.true)) (value-same c.args.cursor.now c.loop-k.cursor inv.same) (inv.spent names told) (c.in_ok-judge_next.ensures.reads names (inv.asked.same ∙ told))

pub returns-clause-reads : goal.returns-clause-reads
returns-clause-reads g c = λ names told.
    let V = value_reads c.args.cursor.now in
    let most : V * c.loop-k.k ≤ V * 2042 = mul-le-mul_left V (omega arith) in
    let spent = c.loop-k.invariant.spent names told in
    omega (arith, most, spent)

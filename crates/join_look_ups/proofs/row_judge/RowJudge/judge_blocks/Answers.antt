use Rattle.std.proofs.Common.{◌≡◌, ◌∙◌, ◌+◌, ◌-◌, ◌*◌, ◌≤◌, ℕ, List, length, length-append, refl, ap, sym, subst, arith}
use Rattle.std.proofs.Math.Nat.{mul-le-mul_left, mul-le-mul_right}
use Rattle.outside.specs.Adds.{Begins, each_below}
use Rattle.outside.specs.Outside.{Names}
use Rattle.outside.proofs.Adding.{Adds-exit, loop-cut, loop-next, loop-none}
use Rattle.outside.proofs.Asking.{Passed-next, Passed-none}
use Rattle.reports.specs.Added.{joined, report_lists}
use Rattle.reports.specs.Lists.{Lists}
use Rattle.join_look_ups.specs.Looking.{look_length}
use Rattle.heap_rows.specs.RowCursor.{heap_at, next_in}
use Rattle.heap_rows.specs.Reads.{columns_at, page_reads}
use Rattle.heap_rows.proofs.ReadLaws.{page-same}
use Rattle.heap_rows.specs.Rows.{block_rows}
use Rattle.heap_rows.specs.declared.rows.LiveRow.{LiveRow}
use Rattle.join_row_keys.specs.declared.keys.KeyedHeap.{KeyedHeap}
use Rattle.join_look_ups.specs.Rows.{owed_for, rows_from}
use Rattle.join_look_ups.proofs.Owed.{blocks-owed, rows-more, rows-next}
use Rattle.join_row_keys.proofs.Places.{same-index, same-then}
use Rattle.join_look_ups.proofs.row_judge.RowJudge.judge_blocks.Goals as goal

-- what the rows of a block give, counted from one
abbrev of-block : KeyedHeap → Names → ℕ → ℕ → Lists
of-block index names first k = owed_for names index.at.tree.now (block_rows index.at.case.now names (first + k))

-- the rows of one block more
rows-sum : (index : KeyedHeap) (names : Names) (first k next : ℕ) → next ≡ first + k
    → length (rows_from index.at.case.now names first (k + 1)) ≡ length (rows_from index.at.case.now names first k) + length (block_rows index.at.case.now names next)
rows-sum index names first k next is =
    let rows : ℕ → List LiveRow = block_rows index.at.case.now names in
    ap length (rows-next index.at.case.now names first k) ∙ length-append (rows_from index.at.case.now names first k) (rows (first + k)) ∙ ap (λ (b : ℕ). length (rows_from index.at.case.now names first k) + length (rows b)) (sym is)

-- fewer blocks have no more rows
rows-fewer : (index : KeyedHeap) (names : Names) (first k n : ℕ) → k ≤ n → length (rows_from index.at.case.now names first k) ≤ length (rows_from index.at.case.now names first n)
rows-fewer index names first k n le =
    let case = index.at.case.now in
    let whole : k + (n - k) ≡ n = omega (arith, le) in
    let parts : length (rows_from case names first n) ≡ length (rows_from case names first k) + length (rows_from case names (first + k) (n - k)) =
    ap (λ (m : ℕ). length (rows_from case names first m)) (sym whole) ∙ ap length (rows-more case names first k (n - k)) ∙ length-append (rows_from case names first k) (rows_from case names (first + k) (n - k)) in
    omega (arith, parts)

pub judge_next_block-requires-clause-told : goal.judge_next_block-requires-clause-told
judge_next_block-requires-clause-told g c = λ names told. c.loop-k.invariant.told names (sym c.loop-k.invariant.asked.same ∙ told)

pub judge_next_block-requires-clause-index : goal.judge_next_block-requires-clause-index
judge_next_block-requires-clause-index g c = c.loop-k.invariant.index

pub loop-k-init : goal.loop-k-init
loop-k-init g c = record {
  index = c.requires.index;
  told = c.requires.told;
  lists = λ names told. loop-none report_lists (of-block c.args.self.index names (next_in c.args.cursor.now)) c.args.report.now;
  visits = λ names told. omega arith;
  spent = λ names told. omega arith;
  next_block = omega arith;
  taken = omega arith;
  same = record { case = refl; heap = refl; asked = refl };
  asked = Passed-none;
}

-- the reads of one block more
more-reads : (a b d each now k x y z L : ℕ) → now ≡ each → b ≤ a + (each * k + x * L) → d ≤ b + (now + y * L) → z ≡ x + y → d ≤ a + (each * (k + 1) + z * L)
more-reads a b d each now k x y z L same before step sum =
    let turn : each * (k + 1) ≡ each * k + each = omega arith in
    let looks : (x + y) * L ≡ x * L + y * L = omega arith in
    subst (λ (n : ℕ). d ≤ a + (each * (k + 1) + n * L)) (sym sum) (omega (arith, same, before, step, turn, looks))

-- which are among those of all
all-reads : (a d each k n z w L : ℕ) → k ≤ n → z ≤ w → d ≤ a + (each * k + z * L) → d ≤ a + (each * n + w * L)
all-reads a d each k n z w L blocks rows h =
    let turns : each * k ≤ each * n = mul-le-mul_left each blocks in
    let looks : z * L ≤ w * L = mul-le-mul_right L rows in
    omega (arith, h, turns, looks)

-- the visits of one block more
more-visits : (a b d x y z L : ℕ) → a ≤ b + y * L → b ≤ d + x * L → z ≡ x + y → a ≤ d + z * L
more-visits a b d x y z L h k e = subst (λ (n : ℕ). a ≤ d + n * L) (sym e) (omega (arith, h, k))

pub loop-k-preserved : goal.loop-k-preserved
loop-k-preserved g c =
    let inv = c.loop-k.invariant in
    let next = c.in_ok-judge_next_block.ensures in
    let index = c.args.self.index in
    let first = next_in c.args.cursor.now in
    let k = c.loop-k.k in
    record {
      index = same-index index c.loop-k.cursor c.judge_next_block.new.cursor next.same inv.index;
      told = λ names told. next.told names (inv.asked.same ∙ told);
      lists = λ names told.
          loop-next report_lists (of-block index names first) k c.args.report.now c.loop-k.report c.judge_next_block.new.report (inv.lists names told)
          (next.lists names (inv.asked.same ∙ told) ∙ ap (λ (b : ℕ). joined c.loop-k.report (owed_for names index.at.tree.now (block_rows index.at.case.now names b))) inv.next_block);
      visits = λ names told.
          let rows : ℕ → List LiveRow = block_rows index.at.case.now names in
          more-visits c.judge_next_block.new.look_ups.visits.count c.loop-k.look_ups.visits.count c.args.look_ups.now.visits.count (length (rows_from index.at.case.now names first k)) (length (rows (next_in c.loop-k.cursor))) (length (rows_from index.at.case.now names first (k + 1))) (look_length names index.at.tree.now)
          (next.visits names (inv.asked.same ∙ told)) (inv.visits names told)
          (rows-sum index names first k (next_in c.loop-k.cursor) inv.next_block);
      spent = λ names told.
          let old = c.args.cursor.now in
          let rows : ℕ → List LiveRow = block_rows index.at.case.now names in
          more-reads (g.F.Files.seen c.args.files.now).reads (g.F.Files.seen c.loop-k.files).reads (g.F.Files.seen c.judge_next_block.new.files).reads (page_reads (heap_at old) (columns_at old)) (page_reads (heap_at c.loop-k.cursor) (columns_at c.loop-k.cursor)) k
          (length (rows_from index.at.case.now names first k)) (length (rows (next_in c.loop-k.cursor))) (length (rows_from index.at.case.now names first (k + 1))) (look_length names index.at.tree.now)
          (page-same old c.loop-k.cursor inv.same) (inv.spent names told) (next.reads names (inv.asked.same ∙ told)) (rows-sum index names first k (next_in c.loop-k.cursor) inv.next_block);
      next_block = next.next_block ∙ omega (arith, inv.next_block);
      taken = omega (arith, next.taken, inv.taken);
      same = same-then c.args.cursor.now c.loop-k.cursor c.judge_next_block.new.cursor inv.same next.same;
      asked = Passed-next inv.asked next.asked;
    }

pub returns-in_err-judge_next_block-clause-lists : goal.returns-in_err-judge_next_block-clause-lists
returns-in_err-judge_next_block-clause-lists g c = λ names told.
    let inv = c.loop-k.invariant in
    let index = c.args.self.index in
    let first = next_in c.args.cursor.now in
    let n : ℕ = c.args.end - first in
    let of = of-block index names first in
    let here : Begins report_lists c.loop-k.report c.judge_next_block.new.report (of c.loop-k.k) =
    subst (λ (b : ℕ). Begins report_lists c.loop-k.report c.judge_next_block.new.report (owed_for names index.at.tree.now (block_rows index.at.case.now names b))) inv.next_block (c.in_err-judge_next_block.ensures.lists names (inv.asked.same ∙ told)) in
    Adds-exit report_lists c.from_residual.result _ c.args.report.now c.judge_next_block.new.report (owed_for names index.at.tree.now (rows_from index.at.case.now names first n)) c.from_residual.ensures.1
    (subst (λ (l : Lists). Begins report_lists c.args.report.now c.judge_next_block.new.report l) (sym (blocks-owed index.at.case.now names first index.at.tree.now n))
    (loop-cut report_lists of c.loop-k.k n c.args.report.now c.loop-k.report c.judge_next_block.new.report (omega (arith, c.loop-k-test.true)) (inv.lists names told) here))

pub returns-clause-lists : goal.returns-clause-lists
returns-clause-lists g c = λ names told.
    let index = c.args.self.index in
    let first = next_in c.args.cursor.now in
    let n : ℕ = c.args.end - first in
    let whole : c.loop-k.k ≡ n = omega (arith, c.loop-k-test.false) in
    c.loop-k.invariant.lists names told
    ∙ ap (λ (m : ℕ). joined c.args.report.now (each_below report_lists (of-block index names first) m)) whole
    ∙ ap (joined c.args.report.now) (sym (blocks-owed index.at.case.now names first index.at.tree.now n))

pub returns-clause-visits : goal.returns-clause-visits
returns-clause-visits g c = λ names told.
    let index = c.args.self.index in
    let first = next_in c.args.cursor.now in
    let n : ℕ = c.args.end - first in
    let whole : c.loop-k.k ≡ n = omega (arith, c.loop-k-test.false) in
    subst (λ (m : ℕ). c.loop-k.look_ups.visits.count ≤ c.args.look_ups.now.visits.count + length (rows_from index.at.case.now names first m) * look_length names index.at.tree.now) whole (c.loop-k.invariant.visits names told)

pub returns-in_err-judge_next_block-clause-ready : goal.returns-in_err-judge_next_block-clause-ready
returns-in_err-judge_next_block-clause-ready g c = λ names told. c.judge_next_block.ensures.ready names (c.loop-k.invariant.asked.same ∙ told)

pub returns-clause-ready : goal.returns-clause-ready
returns-clause-ready g c = λ names told. (c.loop-k.invariant.told names told).ready

pub returns-in_err-judge_next_block-clause-taken : goal.returns-in_err-judge_next_block-clause-taken
returns-in_err-judge_next_block-clause-taken g c = omega (arith, c.judge_next_block.ensures.taken, c.loop-k.invariant.taken, c.loop-k-test.true)

pub returns-clause-taken : goal.returns-clause-taken
returns-clause-taken g c = omega (arith, c.loop-k.invariant.taken, c.loop-k-test.false)

pub returns-in_err-judge_next_block-clause-reads : goal.returns-in_err-judge_next_block-clause-reads
returns-in_err-judge_next_block-clause-reads g c = λ names told.
    let inv = c.loop-k.invariant in
    let index = c.args.self.index in
    let old = c.args.cursor.now in
    let first = next_in old in
    let k = c.loop-k.k in
    let n : ℕ = c.args.end - first in
    let rows : ℕ → List LiveRow = block_rows index.at.case.now names in
    let inside : k + 1 ≤ n = omega (arith, c.loop-k-test.true) in
    all-reads (g.F.Files.seen c.args.files.now).reads (g.F.Files.seen c.judge_next_block.new.files).reads (page_reads (heap_at old) (columns_at old)) (k + 1) n (length (rows_from index.at.case.now names first (k + 1))) (length (rows_from index.at.case.now names first n)) (look_length names index.at.tree.now)
    inside (rows-fewer index names first (k + 1) n inside)
    (more-reads (g.F.Files.seen c.args.files.now).reads (g.F.Files.seen c.loop-k.files).reads (g.F.Files.seen c.judge_next_block.new.files).reads (page_reads (heap_at old) (columns_at old)) (page_reads (heap_at c.loop-k.cursor) (columns_at c.loop-k.cursor)) k
    (length (rows_from index.at.case.now names first k)) (length (rows (next_in c.loop-k.cursor))) (length (rows_from index.at.case.now names first (k + 1))) (look_length names index.at.tree.now)
    (page-same old c.loop-k.cursor inv.same) (inv.spent names told) (c.in_err-judge_next_block.ensures.reads names (inv.asked.same ∙ told)) (rows-sum index names first k (next_in c.loop-k.cursor) inv.next_block))

pub returns-clause-reads : goal.returns-clause-reads
returns-clause-reads g c = λ names told.
    let index = c.args.self.index in
    let old = c.args.cursor.now in
    let first = next_in old in
    let n : ℕ = c.args.end - first in
    let whole : c.loop-k.k ≡ n = omega (arith, c.loop-k-test.false) in
    subst (λ (m : ℕ). (g.F.Files.seen c.loop-k.files).reads ≤ (g.F.Files.seen c.args.files.now).reads + (page_reads (heap_at old) (columns_at old) * m + length (rows_from index.at.case.now names first m) * look_length names index.at.tree.now)) whole (c.loop-k.invariant.spent names told)

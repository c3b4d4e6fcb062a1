use Rattle.std.proofs.Common.{◌≡◌, ◌-◌, ◌*◌, ◌≤◌, length}
use Rattle.std.specs.Option.{option_copied}
use Rattle.outside.specs.Outside.{IfTold, PassedAtMost}
use Rattle.case_file.specs.Record.{CaseRecord}
use Rattle.heap_rows.specs.RowPages.{IsInHand, IsSamePage, rows_in_hand}
use Rattle.heap_rows.specs.RowValues.{AreValuesOf, count_asked}
use Rattle.heap_rows.specs.Reads.{row_reads}
use Rattle.heap_rows.proofs.row_page.RowPage.find.Given as goal

-- the items so far are done, and gave no row
abbrev pub invariant-loop-k : goal.invariant-loop-k
invariant-loop-k g l = record {
  left : IfTold g.F.Files.seen l.initial.files (λ names. (case : CaseRecord) → IsInHand case names (option_copied l.from.toast) l.from.chunks.now l.initial.self → AreValuesOf case names l.from → rows_in_hand case names l.self ≡ rows_in_hand case names l.initial.self);
  page : IsSamePage l.initial.self l.self;
  done : l.self.done ≡ l.k;
  from : l.initial.self.done ≤ l.k;
  few : l.k - l.initial.self.done ≤ 2042;
  asked : PassedAtMost (row_reads (option_copied l.from.toast) (count_asked (length l.from.columns.now) l.from.asked.now) * (l.k - l.initial.self.done)) g.F.Files.seen l.initial.files l.files;
}

use Rattle.std.proofs.Common.{◌≡◌, ◌*◌, length}
use Rattle.outside.specs.Outside.{IfTold, PassedAtMost}
use Rattle.page_layout.specs.View.{page_bytes}
use Rattle.liveness.specs.LogFiles.{log_files_of, logs_of}
use Rattle.heap_page_check.specs.Table.{Table, logs_in}
use Rattle.heap_rows.specs.Places.{AreInPlace}
use Rattle.heap_rows.proofs.StateLaws.{AreStatesUpto}
use Rattle.heap_rows.proofs.states.fill_states.Given as goal

-- the items so far have their states
abbrev pub invariant-loop-k : goal.invariant-loop-k
invariant-loop-k g l = record {
  told : IfTold g.F.Files.seen l.initial.files (λ names. (table : Table) → logs_in table ≡ logs_of names (log_files_of l.logs) → AreInPlace (page_bytes l.page) → AreStatesUpto table (page_bytes l.page) l.states.items l.k);
  count : length l.states.items ≡ l.k;
  asked : PassedAtMost (327690 * l.k) g.F.Files.seen l.initial.files l.files;
}

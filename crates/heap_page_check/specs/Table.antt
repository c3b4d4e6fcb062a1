-- What the rules of a heap need to know of its table.
use Rattle.std.specs.Prelude.{◌≤◌, ℕ, All, List, [], length, Option, Some, None}
use Rattle.outside.specs.Outside.{Names}
use Rattle.key_orders.specs.Types.{HasAlignment}
use Rattle.key_orders.specs.declared.columns.ColType.{ColType}
use Rattle.liveness.specs.LogFiles.{LogFiles, log_files_of, logs_of}
use Rattle.liveness.specs.Logs.{Logs}
use Rattle.toast_chunks.specs.declared.map.Chunk.{Chunk}
use Rattle.reports.specs.declared.places.Rel.{Rel}
use Rattle.reports.specs.declared.places.Rel.TheVariants as rel
use Rattle.heap_page_check.specs.declared.table.TableKind.{TableKind}
use Rattle.heap_page_check.specs.declared.table.TableKind.TheVariants.{Heap, Toast}
use Rattle.heap_page_check.specs.declared.table.TableRules.{TableRules}
use Rattle.heap_page_check.specs.declared.table.ToastTable.{ToastTable}

-- a table: whether it is a heap or a TOAST table, its columns, the oid of its TOAST table, where it has one, and where
-- the logs of its transactions stand in the files that have these names
pub record Table : Type 0 where
  pub kind : TableKind
  pub columns : List ColType
  pub toast : Option ℕ
  pub names : Names
  pub logs : LogFiles

-- how reports call it
abbrev pub rel_of : TableKind → Rel
rel_of Heap = rel.Heap
rel_of Toast = rel.Toast

-- what the logs say of its transactions
abbrev pub logs_in : Table → Logs
logs_in table = logs_of table.names table.logs

-- The table that the code's rules of a table stand for

-- the oid of a TOAST table, where there is one
abbrev pub toast_oid_seen : Option ToastTable → Option ℕ
toast_oid_seen None = None
toast_oid_seen (Some toast) = Some toast.oid

-- the chunks that stand in it; none where there is no such table
abbrev pub chunks_seen : Option ToastTable → List Chunk
chunks_seen None = []
chunks_seen (Some toast) = toast.chunks.now

-- the table of these columns, with what the logs in these files say
unfoldable pub table_with : Names → TableKind → List ColType → Option ℕ → LogFiles → Table
table_with names kind columns toast logs =
    record { kind = kind; columns = columns; toast = toast; names = names; logs = logs }

abbrev pub table_seen : Names → TableRules → Table
table_seen names table =
    table_with names table.kind table.columns.now (toast_oid_seen table.toast) (log_files_of table.logs)

-- columns by which tuples can be read
pub record AreReadable (columns : List ColType) : Type 0 where
  pub few : length columns ≤ 64
  pub aligned : All HasAlignment columns

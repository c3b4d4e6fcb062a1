use Rattle.std.proofs.Common.{◌≡◌, ◌*◌, All, List, length, map}
use Rattle.std.specs.Option.{option_copied}
use Rattle.outside.specs.Outside.{IfTold, PassedAtMost}
use Rattle.varlena_attrs.specs.Forms.{Attribute}
use Rattle.varlena_attrs.specs.InTurn.{AreRead}
use Rattle.heap_rows.specs.Rows.{cell_at}
use Rattle.heap_rows.specs.Reads.{chunk_reads}
use Rattle.heap_rows.specs.RowValues.{AreCellsAsked, AreStarts, FitAsked, IsThere, bytes_seen}
use Rattle.heap_rows.proofs.row_values.RowValues.find.Given as goal

-- the values of the columns so far were found
abbrev pub invariant-loop-k : goal.invariant-loop-k
invariant-loop-k g l = record {
  cells : IfTold g.F.Files.seen l.initial.files (λ names. (list : List Attribute) → AreRead l.initial.attrs list → AreStarts (map (λ c. c.ctype) l.from.columns.now) l.from.asked.now l.from.starts.now → All (IsThere (option_copied l.from.toast) l.from.chunks.now) list
      → AreCellsAsked l.tuple.page.now l.self.joined.items l.from.columns.now l.from.asked.now l.self.places.items (cell_at (bytes_seen names (option_copied l.from.toast) l.from.chunks.now) l.from.columns.now list) l.k);
  fits : FitAsked (length l.self.joined.items) l.from.columns.now l.from.asked.now l.self.places.items l.k;
  count : length l.self.places.items ≡ l.k;
  attrs : l.attrs ≡ l.initial.attrs;
  asked : PassedAtMost (chunk_reads (option_copied l.from.toast) * l.k) g.F.Files.seen l.initial.files l.files;
}

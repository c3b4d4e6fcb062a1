use Rattle.std.proofs.Common.{◌≡◌, ◌*◌, ◌++◌}
use Rattle.outside.specs.Outside.{IfTold, PassedAtMost}
use Rattle.rel_files.specs.Relation.{base_of, size_of}
use Rattle.toast_chunks.specs.InHand.{Grows, IsInHand}
use Rattle.toast_chunks.specs.Value.{joined_below}
use Rattle.toast_chunks.proofs.detoast.push_value.Given as goal

abbrev pub invariant-loop-k : goal.invariant-loop-k
invariant-loop-k g l = record {
  bytes : IfTold g.F.Files.seen l.initial.files (λ names. l.bytes.items ≡ l.initial.bytes.items ++ joined_below names (base_of l.toast) (size_of l.toast) l.map l.p.value_id l.k);
  grows : Grows l.initial.bytes.items l.bytes.items;
  hand : IfTold g.F.Files.seen l.initial.files (λ names. IsInHand names l.toast l.in_hand l.reader.page);
  asked : PassedAtMost (1 * l.k) g.F.Files.seen l.initial.files l.files;
}

use Rattle.std.specs.Option.{option_copied}
use Rattle.std.proofs.Common.{◌≡◌}
use Rattle.outside.specs.Adds.{each_below}
use Rattle.outside.specs.Outside.{IfTold, Passed}
use Rattle.rel_files.specs.Relation.{base_of, size_of}
use Rattle.heap_page_check.specs.Found.{both_found, found_parts}
use Rattle.heap_page_check.specs.Table.{chunks_seen, table_seen}
use Rattle.heap_table_check.specs.Map.{bits_seen}
use Rattle.heap_table_check.specs.TableFiles.{AreAtHand, TellsOfFile}
use Rattle.heap_table_check.specs.Relations.{block_found}
use Rattle.heap_table_check.proofs.relations.judge_blocks.Given as goal

-- what is found of the blocks so far is added, they are known, and what is in hand are pages of the table and of the map
abbrev pub invariant-loop-block : goal.invariant-loop-block
invariant-loop-block g l = record {
  found : IfTold g.F.Files.seen l.initial.files (λ names. l.hands.work.found ≡ both_found l.initial.hands.work.found (each_below found_parts (block_found (table_seen names l.table) (chunks_seen l.table.toast) (bits_seen names (option_copied l.file.map)) names (base_of l.file.relation.now) (size_of l.file.relation.now)) l.block));
  known : IfTold g.F.Files.seen l.initial.files (λ names. TellsOfFile names l.table l.file 0 l.initial.hands.known → TellsOfFile names l.table l.file l.block l.hands.known);
  at_hand : IfTold g.F.Files.seen l.initial.files (λ names. AreAtHand names l.file l.hands.ahead l.hands.map);
  asked : Passed g.F.Files.seen l.initial.files l.files;
}

use Rattle.std.proofs.Common.{◌+◌}
use Rattle.std.specs.List.{flat_map}
use Rattle.outside.specs.Outside.{IfTold, PassedAtMost}
use Rattle.laws_search.specs.Search.{tree_blocks}
use Rattle.rel_files.specs.Ahead.{IsAheadOf}
use Rattle.bt_levels.specs.Files.{relation_of}
use Rattle.bt_levels.specs.Sound.{file_of, held_block, index_columns}
use Rattle.join_meet.specs.Meeting.{HaveMetSome, leaf_entries}
use Rattle.join_leaf_pass.proofs.some.meet_some.Given as goal

-- some of the entries of the blocks so far have met their rows, each was taken in hand once at most, and what is in hand
-- are blocks of the index
abbrev pub invariant-loop-k : goal.invariant-loop-k
invariant-loop-k g l = record {
  met : IfTold g.F.Files.seen l.fn.files (λ names. HaveMetSome (flat_map (λ b. leaf_entries (index_columns l.fn.tree) (held_block names l.fn.tree b)) (tree_blocks (l.k + 1))) l.fn.slots l.slots);
  hand : IfTold g.F.Files.seen l.fn.files (λ names. IsAheadOf names (relation_of (file_of l.fn.tree)) l.pass.blocks);
  asked : PassedAtMost l.k g.F.Files.seen l.fn.files l.files;
}

use Rattle.std.proofs.Common.{◌≡◌, ◌+◌, true}
use Rattle.std.specs.List.{flat_map}
use Rattle.std.specs.Option.{option_copied}
use Rattle.outside.specs.Outside.{IfTold, PassedAtMost}
use Rattle.laws_search.specs.Search.{tree_blocks}
use Rattle.reports.specs.Added.{each_upto, joined, report_lists}
use Rattle.rel_files.specs.Ahead.{IsAheadOf}
use Rattle.bt_levels.specs.Files.{number_of, relation_of}
use Rattle.bt_levels.specs.Sound.{file_of, held_block, index_columns}
use Rattle.join_meet.specs.Meeting.{HaveMet, leaf_entries}
use Rattle.join_distinct.specs.Apart.{AreApartBelow}
use Rattle.join_leaf_pass.specs.Passes.{AreTargets, strays_on}
use Rattle.join_leaf_pass.proofs.check.Leaves.check_entries.Given as goal

-- what is found of the blocks so far is added, their entries have met their rows, they are apart where it says so, each
-- was taken in hand once, and what is in hand are blocks of the index
abbrev pub invariant-loop-k : goal.invariant-loop-k
invariant-loop-k g l = record {
  lists : IfTold g.F.Files.seen l.fn.files (λ names. AreTargets (option_copied l.fn.self.targets) l.fn.slots → l.report ≡ joined l.fn.report (each_upto report_lists (λ b. strays_on (number_of (file_of l.fn.self.tree.now)) (index_columns l.fn.self.tree.now) (option_copied l.fn.self.targets) b (held_block names l.fn.self.tree.now b)) l.k));
  met : IfTold g.F.Files.seen l.fn.files (λ names. HaveMet (flat_map (λ b. leaf_entries (index_columns l.fn.self.tree.now) (held_block names l.fn.self.tree.now b)) (tree_blocks (l.k + 1))) l.fn.slots l.slots);
  apart : IfTold g.F.Files.seen l.fn.files (λ names. l.hands.seen.apart ≡ true → AreApartBelow names l.fn.self.tree.now (l.k + 1));
  hand : IfTold g.F.Files.seen l.fn.files (λ names. IsAheadOf names (relation_of (file_of l.fn.self.tree.now)) l.hands.blocks);
  asked : PassedAtMost l.k g.F.Files.seen l.fn.files l.files;
}

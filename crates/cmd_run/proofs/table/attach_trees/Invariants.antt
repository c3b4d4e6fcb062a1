use Rattle.std.proofs.Common.{◌≡◌, ◌-◌}
use Rattle.std.specs.Prelude.{All, None}
use Rattle.outside.specs.Outside.{IfTold, Passed}
use Rattle.bt_levels.specs.Files.{IsFileOf}
use Rattle.cmd_run.specs.Ranges.{indexes_refusal}
use Rattle.cmd_run.specs.Tables.{AreTreesBehind}
use Rattle.cmd_run.proofs.table.attach_trees.Given as goal

-- the files of the indexes up to this place are there, and none of these is refused
abbrev pub invariant-loop-before : goal.invariant-loop-before
invariant-loop-before g l = record {
  trees : AreTreesBehind l.case l.fn.indexes.start (l.before - l.fn.indexes.start) l.trees.items;
  told : IfTold g.F.Files.seen l.initial.files (λ names. All (IsFileOf l.case names) l.trees.items);
  refusal : IfTold g.F.Files.seen l.initial.files (λ names. indexes_refusal l.case names l.fn.indexes.start l.before ≡ None);
  asked : Passed g.F.Files.seen l.initial.files l.files;
}

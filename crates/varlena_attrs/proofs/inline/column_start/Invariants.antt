use Rattle.std.proofs.Common.{◌≤◌, take}
use Rattle.varlena_attrs.specs.Inline.{AreFixed}
use Rattle.varlena_attrs.proofs.inline.column_start.Given as goal

-- the columns so far have fixed lengths
abbrev pub invariant-loop-j : goal.invariant-loop-j
invariant-loop-j l = record {
  fixed : AreFixed (take l.j l.columns) 0 l.start;
  small : l.start ≤ 8192;
}

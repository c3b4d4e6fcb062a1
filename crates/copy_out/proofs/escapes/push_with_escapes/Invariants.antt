use Rattle.std.proofs.Common.{◌≡◌, ◌≤◌, ◌++◌, take, drop}
use Rattle.copy_out.specs.Escapes.{escaped}
use Rattle.copy_out.proofs.escapes.push_with_escapes.Given as goal

-- what is written and what waits is the text of what was passed
abbrev pub invariant-loop-i : goal.invariant-loop-i
invariant-loop-i l = record {
  in_range : l.done ≤ l.i;
  told : l.text ++ drop l.done (take l.i l.bytes) ≡ l.fn.text ++ escaped (take l.i l.bytes);
}

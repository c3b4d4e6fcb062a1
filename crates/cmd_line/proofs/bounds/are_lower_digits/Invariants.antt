use Rattle.std.proofs.Common.{◌≡◌, take, true}
use Rattle.std.specs.List.{list_all}
use Rattle.cmd_line.specs.Bounds.{is_lower_digit}
use Rattle.cmd_line.proofs.bounds.are_lower_digits.Given as goal

abbrev pub invariant-loop-c : goal.invariant-loop-c
invariant-loop-c l = list_all is_lower_digit (take l.c-index l.digits) ≡ true

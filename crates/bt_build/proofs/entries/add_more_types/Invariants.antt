use Rattle.std.proofs.Common.{◌≡◌, ◌++◌, take}
use Rattle.key_attrs.specs.Keyed.{more_types}
use Rattle.bt_build.proofs.entries.add_more_types.Given as goal

abbrev pub invariant-loop-i : goal.invariant-loop-i
invariant-loop-i l = l.types.items ≡ l.fn.types.items ++ more_types (take l.i l.more)

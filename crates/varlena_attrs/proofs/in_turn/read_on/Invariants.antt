use Rattle.std.specs.Option.{option_copied}
use Rattle.varlena_attrs.specs.InTurn.{IsReadOn}
use Rattle.varlena_attrs.proofs.in_turn.read_on.Given as goal

-- the columns so far are read
abbrev pub invariant-loop-j : goal.invariant-loop-j
invariant-loop-j l = IsReadOn (record { columns = l.columns; body = l.body; nulls = option_copied l.nulls; natts = l.natts }) l.j l.place

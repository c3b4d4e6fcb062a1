use Rattle.std.proofs.Common.{sym, ◌∙◌}
use Rattle.std.specs.Option.{option_copied}
use Rattle.varlena_attrs.proofs.InTurn.{fixed_at_end}
use Rattle.varlena_attrs.proofs.in_turn.place_after.Goals as goal

pub returns-in-Some-clause-next : goal.returns-in-Some-clause-next
returns-in-Some-clause-next c =
    fixed_at_end (option_copied c.args.nulls) c.args.natts c.args.k c.args.ctype c.args.body.now c.args.place c.in-Some.next c.if-k-natts.true
    (sym c.is_null.ensures ∙ c.if-not-is_null.true) (sym c.fixed_next.ensures ∙ c.in-Some.is) c.if-next-body.true

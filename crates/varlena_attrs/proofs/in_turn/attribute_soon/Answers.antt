use Rattle.std.proofs.Common.{◌∙◌, ap, sym}
use Rattle.std.specs.Prelude.{Ok}
use Rattle.std.specs.Option.{option_copied}
use Rattle.varlena_attrs.specs.declared.forms.Found.{Found}
use Rattle.varlena_attrs.specs.Attributes.{Presence}
use Rattle.varlena_attrs.specs.Reading.{attribute_at}
use Rattle.varlena_attrs.specs.Shown.{shown_at}
use Rattle.varlena_attrs.proofs.Ends.{stored_there}
use Rattle.varlena_attrs.proofs.in_turn.attribute_soon.Goals as goal

pub returns-in-Some-clause-step : goal.returns-in-Some-clause-step
returns-in-Some-clause-step c =
    let body = c.args.body.now in
    let stored = stored_there (option_copied c.args.nulls) c.args.natts c.args.k c.if-k-natts.true (sym c.is_null.ensures ∙ c.if-not-is_null.true) in
    ap (λ (f : Found). Ok (shown_at body f.place, f.next)) c.found.ensures
    ∙ sym (ap (λ (p : Presence). attribute_at p c.args.ctype body c.args.place) stored ∙ c.in-Some.ensures.step)

use Rattle.std.proofs.Common.{◌≡◌, ◌+◌, ◌∙◌, ap, sym, subst}
use Rattle.std.specs.Option.{option_copied}
use Rattle.std.specs.Prelude.{Result, Ok, Err, IfOk}
use Rattle.key_orders.specs.declared.columns.ColType.{ColType}
use Rattle.varlena_attrs.specs.declared.forms.Found.{Found}
use Rattle.key_attrs.specs.declared.keyed.KeyFault.{KeyFault}
use Rattle.varlena_attrs.specs.declared.places.AttrPlace.TheVariants as at
use Rattle.varlena_attrs.specs.Attributes.{Presence, Stored}
use Rattle.key_attrs.specs.Keyed.{inline_step}
use Rattle.key_attrs.specs.KeyedShown.{HasPlainLength}
use Rattle.varlena_attrs.specs.Reading.{attribute_at}
use Rattle.varlena_attrs.specs.Shown.{shown_at}
use Rattle.varlena_attrs.proofs.Ends.{stored_there}
use Rattle.key_attrs.proofs.Keying.{plain_fits}
use Rattle.key_attrs.proofs.keyed.IndexTuple.attribute.Goals as goal

long_too : (ctype : ColType) (r : Result Found KeyFault) (found : Found) → IfOk r (λ f. f ≡ found) → HasPlainLength ctype found.place → IfOk r (λ f. HasPlainLength ctype f.place)
long_too ctype (Ok f) found e h = subst (λ (g : Found). HasPlainLength ctype g.place) (sym e) h
long_too ctype (Err e) found same h = tt

pub returns-in-Ok-clause-long : goal.returns-in-Ok-clause-long
returns-in-Ok-clause-long c =
    long_too c.args.ctype c.unless_external.result c.in-Ok.found c.unless_external.ensures.same
    (plain_fits _ c.args.ctype c.args.self.now.body.now _ _ c.in-Ok.found.place c.requires.known c.in-Ok.ensures.within.place c.in-Ok.ensures.step)

pub returns-in-Some-clause-step : goal.returns-in-Some-clause-step
returns-in-Some-clause-step c =
    let old = c.args.self.now in
    let stored = stored_there (option_copied old.nulls) old.natts old.column c.if-self.true (sym c.is_null.ensures ∙ c.if-not-is_null.true) in
    ap (λ (f : Found). Ok (shown_at old.body.now f.place, f.next)) c.found.ensures
    ∙ sym (ap (λ (p : Presence). inline_step (old.column + 1) (attribute_at p c.args.ctype old.body.now old.place)) stored
    ∙ ap (inline_step (old.column + 1)) c.in-Some.ensures.step)

pub returns-in-Some-clause-long : goal.returns-in-Some-clause-long
returns-in-Some-clause-long c =
    let old = c.args.self.now in
    subst (λ (f : Found). HasPlainLength c.args.ctype f.place) (sym c.found.ensures)
    (plain_fits Stored c.args.ctype old.body.now old.place (c.in-Some.piece.start + c.in-Some.piece.len) (at.Plain c.in-Some.piece.start c.in-Some.piece.len) c.requires.known c.in-Some.ensures.within (sym c.in-Some.ensures.step))

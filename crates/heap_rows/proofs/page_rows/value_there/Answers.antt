use Rattle.std.proofs.Common.{◌≡◌, Some, slice_get, ap, subst, ◌∙◌}
use Rattle.std.proofs.lemmas.Option.{slice_get_within}
use Rattle.varlena_attrs.specs.InTurn.{IsAttributeOf, TupleParts}
use Rattle.varlena_attrs.specs.Shown.{shown_at}
use Rattle.varlena_attrs.specs.declared.places.AttrPlace.{AttrPlace}
use Rattle.heap_rows.proofs.PageRows.{piece_fits, piece_value}
use Rattle.heap_rows.proofs.page_rows.value_there.Goals as goal

pub value_of-requires : goal.value_of-requires
value_of-requires c =
    let p = c.in-Some-plain_value.piece in
    piece_fits c.args.ctype c.args.attrs.now.body c.body.result.now p.start p.len c.body.ensures (c.in-Some-plain_value.ensures.fits c.args.ctype c.requires.typed)

pub returns-in-Some-plain_value-clause-value : goal.returns-in-Some-plain_value-clause-value
returns-in-Some-plain_value-clause-value c = λ list are starts.
    let attrs = c.args.attrs.now in
    let p = c.in-Some-plain_value.piece in
    let layout = starts c.in-Some.place c.in-Some.is in
    piece_value attrs.columns list c.args.column c.args.ctype attrs.body c.body.result.now p.start p.len _ c.requires.typed c.body.ensures (c.in-Some-plain_value.ensures.read list layout are) c.value_of.ensures.value

pub attribute-requires : goal.attribute-requires
attribute-requires c = slice_get_within c.args.attrs.now.columns c.args.column c.args.ctype c.requires.typed

pub value_of-requires-in-Plain : goal.value_of-requires-in-Plain
value_of-requires-in-Plain c =
    let body = c.args.attrs.now.body in
    let same = c.body-in-Plain.ensures ∙ ap (λ (t : TupleParts). t.body) c.in_ok-attribute.ensures.same in
    piece_fits c.args.ctype body c.body-in-Plain.result.now c.in-Plain.start c.in-Plain.len same
    (subst (λ (at : AttrPlace). IsAttributeOf c.args.ctype body (shown_at body at)) c.in-Plain.is (c.in_ok-attribute.ensures.fits c.args.ctype c.requires.typed))

pub returns-in-Plain-clause-value : goal.returns-in-Plain-clause-value
returns-in-Plain-clause-value c = λ list are starts.
    let attrs = c.args.attrs.now in
    let same = c.body-in-Plain.ensures ∙ ap (λ (t : TupleParts). t.body) c.in_ok-attribute.ensures.same in
    let there = subst (λ (at : AttrPlace). slice_get list c.args.column ≡ Some (shown_at attrs.body at)) c.in-Plain.is (c.in_ok-attribute.ensures.read list are) in
    piece_value attrs.columns list c.args.column c.args.ctype attrs.body c.body-in-Plain.result.now c.in-Plain.start c.in-Plain.len _ c.requires.typed same there c.value_of-in-Plain.ensures.value

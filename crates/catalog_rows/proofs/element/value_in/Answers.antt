use Rattle.std.proofs.Common.{◌∙◌, ap, length, Ok}
use Rattle.key_orders.specs.Types.{alignment_of}
use Rattle.varlena_attrs.specs.Attributes.{is_null, presence_of}
use Rattle.varlena_attrs.specs.Shown.{step_shown}
use Rattle.catalog_rows.specs.Element.{ending_at}
use Rattle.catalog_rows.proofs.element.value_in.Goals as goal

pub returns-in-Ok : goal.returns-in-Ok
unfolding presence_of is_null
returns-in-Ok c =
    c.value_ending.ensures
    ∙ (ap
    (λ n. ending_at n (length c.args.body.now) (step_shown c.args.body.now (Ok c.in-Ok.found)))
    c.alignment.ensures
    ∙ ap (ending_at (alignment_of c.args.ctype) (length c.args.body.now)) c.in-Ok.ensures.step)

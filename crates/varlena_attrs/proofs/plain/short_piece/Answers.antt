use Rattle.std.proofs.Common.{◌≡◌, ◌+◌, ◌/◌, ◌-◌, drop, take, ap, ◌∙◌, arith}
use Rattle.std.specs.Prelude.{Ok}
use Rattle.varlena_attrs.specs.Forms.{Plain}
use Rattle.varlena_attrs.proofs.Ends.{short_start, short_step}
use Rattle.varlena_attrs.proofs.plain.short_piece.Goals as goal

pub returns-clause-step : goal.returns-clause-step
returns-clause-step c =
    let short = c.is_short.ensures.0 c.if-not-is_short.false in
    let first = c.byte_at-first.result in
    let end : c.args.place + first / 2 ≡ c.args.place + 1 + (first / 2 - 1) = omega (arith, c.if-body-place.false, short.0, short.1) in
    short_step c.args.body.now c.args.place first c.byte_at-first.ensures short.0 short.1 (omega (arith, c.if-body-place.false, short.0, short.1))
    ∙ ap (λ n. Ok (Plain (take (first / 2 - 1) (drop (c.args.place + 1) c.args.body.now)), n)) end

pub returns-clause-start : goal.returns-clause-start
returns-clause-start c alignment =
    let short = c.is_short.ensures.0 c.if-not-is_short.false in
    short_start alignment c.args.body.now c.args.place c.byte_at-first.result c.byte_at-first.ensures short.0

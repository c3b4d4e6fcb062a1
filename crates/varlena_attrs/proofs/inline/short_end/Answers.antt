use Rattle.std.proofs.Common.{sym}
use Rattle.varlena_attrs.proofs.Ends.{short_end, short_passes}
use Rattle.varlena_attrs.proofs.inline.short_end.Goals as goal

pub returns-then-end-body-clause-end : goal.returns-then-end-body-clause-end
returns-then-end-body-clause-end c =
    let short = c.requires.short in
    sym (short_end c.args.body.now c.args.start c.args.first c.requires.first short.0 short.1 c.if-end-body.true)

pub returns-else-end-body-clause-end : goal.returns-else-end-body-clause-end
returns-else-end-body-clause-end c =
    let short = c.requires.short in
    sym (short_passes c.args.body.now c.args.start c.args.first c.requires.first short.0 short.1 c.if-end-body.false)

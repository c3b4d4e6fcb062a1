use Rattle.std.proofs.Common.{◌∙◌, sym}
use Rattle.join_unique.specs.Tables.{table_seen}
use Rattle.join_unique.proofs.Steps.{closed-few, closed-more}
use Rattle.join_unique.proofs.grouping.Grouping.close.Goals as goal

pub returns-in_ok-meet_block-clause-met : goal.returns-in_ok-meet_block-clause-met
returns-in_ok-meet_block-clause-met g c = λ names told.
    c.in_ok-meet_block.ensures.met names told ∙ closed-more (table_seen names c.args.self) c.args.group.now (sym c.is_several.ensures ∙ c.if-is_several.true)

pub returns-else-is_several-clause-met : goal.returns-else-is_several-clause-met
returns-else-is_several-clause-met g c = λ names told. closed-few (table_seen names c.args.self) c.args.group.now (sym c.is_several.ensures ∙ c.if-is_several.false)

use Rattle.std.proofs.Common.{◌∙◌, sym}
use Rattle.std.proofs.lemmas.Result.{on_ok_weaker}
use Rattle.join_unique.specs.Tables.{table_seen}
use Rattle.join_unique.proofs.Steps.{entry-is}
use Rattle.join_unique.proofs.grouping.Grouping.take_entry.Goals as goal

pub take_tid-requires-clause-told : goal.take_tid-requires-clause-told
take_tid-requires-clause-told g c = λ names told. c.open.ensures.told names (sym c.open.ensures.asked.same ∙ told)

pub returns-clause-met : goal.returns-clause-met
returns-clause-met g c = on_ok_weaker c.take_tid.result (λ met names told e values tid.
    entry-is (table_seen names c.args.self) e c.args.group.now c.open.new.group c.take_tid.new.group _ c.args.tid (c.as_slice.ensures.values ∙ sym values) tid (c.in_ok-open.ensures.met names told) (met names (c.open.ensures.asked.same ∙ told)))
    c.take_tid.ensures.met

pub returns-clause-told : goal.returns-clause-told
returns-clause-told g c = λ names told. c.take_tid.ensures.told names (c.open.ensures.asked.same ∙ told)

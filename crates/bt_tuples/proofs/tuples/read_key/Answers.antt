use Rattle.std.proofs.lemmas.Result.{IfErr-weaker, IfOk-weaker}
use Rattle.bt_tuples.proofs.Reading.{begins-alone}
use Rattle.bt_tuples.proofs.tuples.read_key.Goals as goal

pub returns-in-Pivot-clause-value : goal.returns-in-Pivot-clause-value
returns-in-Pivot-clause-value c =
    IfOk-weaker c.read_pivot_key.result _ _ (λ u is. begins-alone c.args.columns.now.more.now c.args.head.kind _ _ (is c.args.columns.now.more.now)) c.read_pivot_key.ensures.value

pub returns-in-Pivot-clause-fault : goal.returns-in-Pivot-clause-fault
returns-in-Pivot-clause-fault c = IfErr-weaker c.read_pivot_key.result _ _ (λ e is. is c.args.columns.now.more.now) c.read_pivot_key.ensures.fault

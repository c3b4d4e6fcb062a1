use Rattle.std.proofs.Common.{◌-◌, ap, ◌∙◌}
use Rattle.std.specs.Prelude.{slice_get}
use Rattle.bt_tuples.specs.Keys.{no_tid}
use Rattle.bt_tuples.proofs.LastTid.{last_is}
use Rattle.bt_tuples.proofs.tids.TidList.last.Goals as goal

pub returns : goal.returns
returns c = last_is no_tid _ c.args.self.now (c.get.ensures ∙ ap (λ n. slice_get c.args.self.now (n - 1)) c.len-count.ensures)

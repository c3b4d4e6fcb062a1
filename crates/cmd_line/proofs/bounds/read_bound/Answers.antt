use Rattle.cmd_line.proofs.BoundLaws.{read-none, read-some}
use Rattle.cmd_line.proofs.bounds.read_bound.Goals as goal

pub returns-in-None : goal.returns-in-None
returns-in-None c = read-none c.new.result.items c.args.side c.args.word.now c.new.ensures.items c.in-None.ensures

pub returns-in_ok-values-in-Some : goal.returns-in_ok-values-in-Some
returns-in_ok-values-in-Some c =
    read-some c.in_ok-values-in-Some.values.items c.args.side c.args.word.now c.in-Some.values.now c.in-Some.inclusive c.in_ok-values-in-Some.ensures c.in-Some.ensures

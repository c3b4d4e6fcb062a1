use Rattle.std.proofs.Common.{rules, arith}
use Rattle.reports.proofs.FirstParts.{first_part-full, first_part-room}
use Rattle.reports.proofs.long_list.keep.Goals as goal

pub returns-clause-ok : goal.returns-clause-ok
returns-clause-ok g c =
    let e = first_part-room c.args.first.now.items c.args.more.now c.requires in
    search (rules, e)

pub returns-then-len-eq-STORED-clause-ok : goal.returns-then-len-eq-STORED-clause-ok
returns-then-len-eq-STORED-clause-ok g c = first_part-full c.args.first.now.items c.args.more.now (omega (arith, c.if-len-eq-STORED.true))

use Rattle.std.proofs.Common.{◌∙◌, ap, sym, arith}
use Rattle.std.specs.Prelude.{nat_le}
use Rattle.bt_tuples.specs.Rules.{is_not_above}
use Rattle.bt_tuples.proofs.TidLists.{numbers_stand}
use Rattle.bt_tuples.proofs.tids.is_not_above.Goals as goal

pub returns-in-Some : goal.returns-in-Some
returns-in-Some c =
    (λ i. nat_le (c.number_of_tid.ensures i) (c.number_of_tid-in-Some.ensures i))
    ∙ numbers_stand c.in-Some.before c.args.tid (omega arith) (omega arith)
    ∙ ap (λ o. is_not_above o c.args.tid) (sym c.in-Some.is)

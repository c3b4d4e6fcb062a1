use Rattle.std.proofs.Common.{◌-◌, subst}
use Rattle.join_distinct.specs.declared.rising.Rise.{Rise}
use Rattle.join_distinct.specs.Items.{RisesTo}
use Rattle.join_distinct.proofs.Steps.{rises-first, rises-next}
use Rattle.join_distinct.proofs.rising.Rise.after.Goals as goal

pub returns-in-Begins : goal.returns-in-Begins
returns-in-Begins c columns page i from entry rises =
    rises-first columns page i c.args.number from (subst (λ (r : Rise). RisesTo columns page (i - 1) r) c.in-Begins.is rises) entry

pub returns-else-number-last : goal.returns-else-number-last
returns-else-number-last c columns page i from entry rises =
    rises-next columns page i c.in-Rises.last c.args.number c.if-number-last.false (subst (λ (r : Rise). RisesTo columns page (i - 1) r) c.in-Rises.is rises) entry

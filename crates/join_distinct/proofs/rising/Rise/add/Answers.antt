use Rattle.std.proofs.Common.{subst, sym}
use Rattle.key_attrs.specs.Columns.{tree_columns}
use Rattle.join_distinct.specs.declared.rising.Rise.{Rise}
use Rattle.join_distinct.specs.Items.{RisesTo}
use Rattle.join_distinct.proofs.rising.Rise.add.Goals as goal

pub returns-in-Untold : goal.returns-in-Untold
returns-in-Untold c page i tid lies from rises = subst (λ (r : Rise). RisesTo (tree_columns c.args.columns.now) page i r) (sym c.in-Untold.is) tt

pub returns-in-Some : goal.returns-in-Some
returns-in-Some c page i tid lies from rises = c.after.ensures (tree_columns c.args.columns.now) page i from (c.in-Some.ensures page i tid lies) rises

pub returns-in-None : goal.returns-in-None
returns-in-None c page i tid lies from rises = tt

use Rattle.std.proofs.Common.{◌∙◌, sym}
use Rattle.join_row_entries.proofs.GatherLaws.{are-doubted}
use Rattle.join_row_entries.proofs.gather.Gathered.finish.Goals as goal

pub returns-then-has_doubt : goal.returns-then-has_doubt
returns-then-has_doubt c = λ case names n list left. are-doubted case n names c.args.self (sym c.has_doubt.ensures ∙ c.if-has_doubt.true) left

use Rattle.std.proofs.Common.{drop}
use Rattle.std.specs.List.{AllByRecursion}
use Rattle.case_text.specs.Plain.{IsPlainColumn}
use Rattle.case_text.proofs.plain.columns_are_plain.Given as goal

abbrev pub invariant-loop-column : goal.invariant-loop-column
invariant-loop-column l = AllByRecursion IsPlainColumn (drop l.column-index l.columns) → AllByRecursion IsPlainColumn l.columns

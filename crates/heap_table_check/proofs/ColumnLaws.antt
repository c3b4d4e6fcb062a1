-- The columns of a case are aligned as they may be.
use Rattle.std.proofs.Common.{List, [], ◌∷◌}
use Rattle.std.specs.Prelude.{map}
use Rattle.std.specs.List.{All, AllByRecursion}
use Rattle.std.proofs.lemmas.List.Elements.{All-cons, All-nil}
use Rattle.key_orders.specs.Types.{HasAlignment}
use Rattle.case_file.specs.Sound.{IsSoundColumn}
use Rattle.case_file.specs.declared.case.Column.{Column}
use Rattle.case_file.proofs.Aligned.{aligned}

pub columns_aligned : (columns : List Column) → AllByRecursion IsSoundColumn columns → All HasAlignment (map (λ c. c.ctype) columns)
columns_aligned [] sound = All-nil HasAlignment
columns_aligned (column ∷ columns) sound = All-cons HasAlignment column.ctype (map (λ c. c.ctype) columns) (aligned column.ctype sound.0.ctype) (columns_aligned columns sound.1)

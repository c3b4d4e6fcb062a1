use Rattle.std.proofs.Common.{refl}
use Rattle.case_file.specs.Case.{toast_of}
use Rattle.case_rules.specs.Tables.{number_in}
use Rattle.case_file.proofs.build.toast_of.Goals as goal

pub returns-in_ok-file-in-Some-text_at : goal.returns-in_ok-file-in-Some-text_at
unfolding toast_of number_in
returns-in_ok-file-in-Some-text_at c = rw (c.in-Some.is, c.new.ensures, c.in_ok-file-in-Some-text_at.ensures, c.number_at.ensures, ← c.text_at.ensures, c.in-Some-text_at.is) refl

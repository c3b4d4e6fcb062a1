-- Why the parts of a case have no text.
use Rattle.std.specs.Prelude.{◌≡◌, true, false, Some, Err}
use Rattle.case_file.specs.Case.{Meaning, meaning_of}
use Rattle.case_text.specs.declared.parts.ClusterPart.{ClusterPart}
use Rattle.case_text.specs.declared.parts.TablePart.{TablePart}
use Rattle.case_text.specs.declared.fault.CaseTextFault.{CaseTextFault}
use Rattle.case_text.specs.declared.fault.CaseTextFault.TheVariants.{NotFound, Refused, NoMemory}
use Rattle.case_text.specs.Told.{are_found}
use Rattle.case_text.specs.Written.{document_told}

-- a column of an index isn't found by its name, or each is and the document breaks this rule at this place, or memory
-- ran out
abbrev pub TellsText : ClusterPart → TablePart → CaseTextFault → Type 0
TellsText c t NotFound = are_found t ≡ false
TellsText c t (Refused rule place) =
    (are_found t ≡ true) × ◌≡◌ {A = Meaning} (meaning_of (Some (document_told c t))) (Err (rule, place))
TellsText c t NoMemory = Unit {0}

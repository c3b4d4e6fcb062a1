-- The case of a report.
use Rattle.std.proofs.Common.{◌≡◌, ℕ, Bool, true, false, List, length, nat_lt, refl, subst}
use Rattle.std.specs.Prelude.{Option, Some, None, Ok, Err}
use Rattle.outside.specs.Outside.{Names}
use Rattle.outside.specs.declared.files.Part.TheVariants.{Segment}
use Rattle.toml.specs.Data.{Members}
use Rattle.case_file.specs.Case.{Meaning, case_of, document_of, first_broken, judged, meaning_of, record_of, rules_in_order}
use Rattle.case_file.specs.Record.{CaseRecord}
use Rattle.case_file.specs.Sound.{IsSound}
use Rattle.case_rules.specs.Spots.{Spot, spots}
use Rattle.case_rules.specs.declared.fault.CaseRule.{CaseRule}
use Rattle.case_file.proofs.Soundness.{sound_record}
use Rattle.reports.specs.Lists.{Lists}
use Rattle.rel_files.specs.declared.check_fault.CheckFault.{CheckFault}
use Rattle.cmd_answers.specs.Cases.{CaseRead, case_by, case_in, case_read, case_unless, of_read, text_limit, unless_refused}
use Rattle.cmd_answers.specs.Outcome.{Judged}

-- a report of a case has what is found of it
pub unless_is : (refusal : Option CheckFault) (case : CaseRecord) (found lists : Lists) → unless_refused refusal case found ≡ Ok lists
    → found ≡ lists
unless_is None case found lists e = cc
unless_is (Some fault) case found lists e = cc

-- the case of a report
pub record HasCase (name : List ℕ) (names : Names) (judge : CaseRecord → Judged) (lists : Lists) : Type 0 where
  pub case : CaseRecord
  pub meant : case_in name names ≡ Ok case
  pub judged : judge case ≡ Ok lists

by_read : (name : List ℕ) (names : Names) (judge : CaseRecord → Judged) (read : CaseRead) (lists : Lists) → case_in name names ≡ read
    → of_read judge read ≡ Ok lists → HasCase name names judge lists
by_read name names judge (Ok case) lists is e = record { case = case; meant = is; judged = e }
by_read name names judge (Err refusal) lists is e = cc

pub the_case : (name : List ℕ) (names : Names) (judge : CaseRecord → Judged) (lists : Lists) → of_read judge (case_in name names) ≡ Ok lists
    → HasCase name names judge lists
the_case name names judge lists e = by_read name names judge (case_in name names) lists refl e

-- a case that is meant is the only one
pub one_case : (name : List ℕ) (names : Names) (a b : CaseRecord) → case_in name names ≡ Ok a → case_in name names ≡ Ok b → a ≡ b
one_case name names a b e f = cc

-- A case that is meant is sound

of_first : (top : Members) (case : CaseRecord) (o : Option (CaseRule × Spot)) → first_broken top (spots top) rules_in_order ≡ o
    → judged top o ≡ Ok case → IsSound case
of_first top case (Some broken) is e = absurd cc
of_first top case None is e = let same : record_of top ≡ case = cc in subst IsSound same (sound_record top is)

of_document : (document : Option Members) (case : CaseRecord) → meaning_of document ≡ Ok case → IsSound case
of_document None case e = absurd cc
of_document (Some top) case e = of_first top case (first_broken top (spots top) rules_in_order) refl e

of_text : (text : List ℕ) (case : CaseRecord) → case_of text ≡ Ok case → IsSound case
unfolding case_of
of_text text case e = of_document (document_of text) case e

of_meaning : (text : List ℕ) (case : CaseRecord) (meaning : Meaning) → case_of text ≡ meaning → case_by meaning ≡ Ok case → IsSound case
of_meaning text case (Ok c) is e = let same : c ≡ case = cc in subst IsSound same (of_text text c is)
of_meaning text case (Err refusal) is e = absurd cc

of_size : (name text : List ℕ) (case : CaseRecord) (large : Bool) → case_unless large name text ≡ Ok case → IsSound case
of_size name text case true e = absurd cc
of_size name text case false e = of_meaning text case (case_of text) refl e

of_file : (name : List ℕ) (case : CaseRecord) (file : Option (List ℕ)) → case_read name file ≡ Ok case → IsSound case
unfolding case_read
of_file name case None e = absurd cc
of_file name case (Some text) e = of_size name text case (nat_lt text_limit (length text)) e

pub sound_case : (name : List ℕ) (names : Names) (case : CaseRecord) → case_in name names ≡ Ok case → IsSound case
sound_case name names case e = of_file name case (names name (Segment 0)) e

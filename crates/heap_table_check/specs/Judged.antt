-- What the lists of a case say of it.
use Rattle.std.specs.Prelude.{All}
use Rattle.outside.specs.Outside.{Names}
use Rattle.page_layout.specs.declared.rules.Rule.{Rule}
use Rattle.case_file.specs.Record.{CaseRecord}
use Rattle.reports.specs.Added.{IsListed}
use Rattle.reports.specs.declared.places.Place.{Place}
use Rattle.reports.specs.declared.places.Reason.{Reason}
use Rattle.heap_table_check.specs.Broken.{AreChunksOf, Breaks, Doubts, FilesPass}
use Rattle.heap_table_check.specs.Found.{case_found, chunks_of, doubts_of, findings_of}

-- what is listed is what is broken and what is in doubt, and each place where something is stands there; and where the
-- files pass, the chunks that values are asked of are those of the TOAST table
pub record IsJudged (case : CaseRecord) (names : Names) : Type 0 where
  pub sound : All (λ f. Breaks case names f.rule f.place) (findings_of case names)
  pub doubts : All (λ u. Doubts case names u.reason u.place) (doubts_of case names)
  pub listed : (rule : Rule) (place : Place) → Breaks case names rule place → IsListed (case_found case names) place
  pub doubts_listed : (reason : Reason) (place : Place) → Doubts case names reason place
      → IsListed (case_found case names) place
  pub chunks : FilesPass case names → AreChunksOf case names (chunks_of case names)

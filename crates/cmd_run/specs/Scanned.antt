-- What a run of `scan` is worth.
use Rattle.std.specs.Prelude.{◌≡◌, ℕ, ◌⊎◌, true, List, All, Option, Some, Ok}
use Rattle.outside.specs.Outside.{Names, appended}
use Rattle.page_layout.specs.declared.rules.Rule.{Rule}
use Rattle.laws_search.specs.Keys.{Entry}
use Rattle.key_orders.specs.Scans.{Bounds, FitsKey}
use Rattle.key_orders.specs.declared.Tid.{Tid}
use Rattle.key_orders.specs.declared.columns.Value.{Value}
use Rattle.key_orders.specs.declared.scans.ScanDirection.{ScanDirection}
use Rattle.case_file.specs.Record.{CaseRecord, index_named}
use Rattle.reports.specs.Lists.{Lists}
use Rattle.reports.specs.declared.places.Place.{Place}
use Rattle.reports.specs.declared.places.Reason.{Reason}
use Rattle.bt_pages.specs.Broken.{IsDoubtedAt, IsFoundAt}
use Rattle.bt_levels.specs.Broken.{Breaks, Doubts, IsBehind, IsTrueTree}
use Rattle.bt_levels.specs.Files.{refusal_of}
use Rattle.bt_levels.specs.Index.{tree_lists, tree_of}
use Rattle.bt_levels.specs.Lists.{is_quiet}
use Rattle.bt_scan_lines.specs.Lines.{in_direction}
use Rattle.cmd_answers.specs.Answers.{GaveUp}
use Rattle.cmd_answers.specs.Cases.{case_in, unless_refused}
use Rattle.cmd_answers.specs.Outcome.{Judged, Meets, report_or}
use Rattle.cmd_line.specs.Words.{Scan, form_of}
use Rattle.cmd_run.specs.Headline.{Finds}
use Rattle.cmd_run.specs.Numbered.{KeepsTree}
use Rattle.cmd_run.specs.Scan.{entries_shown, keys_of, wanted_in}

-- what is found of index n by itself, unless its file is refused
abbrev pub tree_judged : CaseRecord → Names → ℕ → Judged
tree_judged case names n = unless_refused (refusal_of case names n) case (tree_lists case names n)

-- each finding of a report is a rule that index n breaks at its place, and each place that it calls unjudged is in
-- doubt
pub record IsSoundOfTree (case : CaseRecord) (names : Names) (n : ℕ) (lists : Lists) : Type 0 where
  pub findings : All (λ f. Breaks case names n f.rule f.place) lists.findings
  pub unjudged : All (λ u. Doubts case names n u.reason u.place) lists.unjudged

-- each place where index n breaks a rule, or of which something is in doubt, stands in the report; of the rules on
-- levels, the first that is broken
pub record IsCompleteOfTree (case : CaseRecord) (names : Names) (n : ℕ) (lists : Lists) : Type 0 where
  pub broken : (rule : Rule) (place : Place) → Breaks case names n rule place
      → IsFoundAt lists place ⊎ IsBehind lists rule
  pub in_doubt : (reason : Reason) (place : Place) → Doubts case names n reason place → IsDoubtedAt lists place

-- What is written are the entries that the search between the bounds finds. They are exactly those of the leaves whose
-- keys keep to the bounds, but for killed ones, in the order in which the searcher comes to them, or in the reverse of
-- that. Each has a line, and the last line says how many they are.
pub record Shows (case : CaseRecord) (names : Names) (n : ℕ) (bounds : Bounds) (direction : ScanDirection)
    (old new : Option (List ℕ)) (code : ℕ) : Type 0 where
  pub entries : List (Entry Value Tid)
  pub finds : Finds case names n bounds entries
  pub written : Meets (entries_shown (in_direction direction entries)) old new code
  -- all of it is written where 0 is answered
  pub whole : code ≡ 0 → new ≡ appended old (entries_shown (in_direction direction entries)).bytes

-- what it is worth, where this is what is found of index n by itself
pub record IsScan (case : CaseRecord) (names : Names) (n : ℕ) (bounds : Bounds) (direction : ScanDirection)
    (lists : Lists) (old new : Option (List ℕ)) (code : ℕ) : Type 0 where
  -- the entries are written and answered, or the report where something is found or in doubt, but for faults and want
  -- of memory
  pub written :
      Meets (report_or lists (entries_shown (in_direction direction (wanted_in case names n bounds)))) old new code
  -- the report finds only what is broken or in doubt, and names each place where something is, or the first of the
  -- rules on levels
  pub sound : IsSoundOfTree case names n lists
  pub complete : IsCompleteOfTree case names n lists
  -- where nothing is found or in doubt the entries are the searcher's
  pub shown : is_quiet lists ≡ true → Shows case names n bounds direction old new code
  -- an index that breaks no rule, and of which all can be judged, gives 0, unless the run gave up
  pub clean : KeepsTree case names n → (code ≡ 0) ⊎ GaveUp code
  -- where 0 is answered nothing is found or in doubt, the index breaks no rule, and all of it can be judged
  pub whole : code ≡ 0 → (is_quiet lists ≡ true) × KeepsTree case names n
  -- and each search of it ends and finds exactly what it should
  pub truth : code ≡ 0 → IsTrueTree (tree_of case names n)

-- where the words ask for `scan`, the file means a case that has such an index, the bounds fit its key, and nothing
-- refuses its file, P holds of these
abbrev pub ForScan :
    List (List ℕ) → Names → (CaseRecord → ℕ → Bounds → ScanDirection → Lists → Type 0) → Type 0
ForScan words names P =
    (file name : List ℕ) (bounds : Bounds) (direction : ScanDirection) (case : CaseRecord) (n : ℕ) (lists : Lists)
    → form_of words ≡ Some (Scan file name bounds direction) → case_in file names ≡ Ok case
    → index_named case.indexes name ≡ Some n → FitsKey (keys_of case n) bounds → tree_judged case names n ≡ Ok lists
    → P case n bounds direction lists

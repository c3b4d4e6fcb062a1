-- What a run of `scan` is worth.
use Rattle.std.proofs.Common.{◌≡◌, ◌∙◌, ◌⊎◌, true, List, ℕ, refl, sym, ap, subst, arith}
use Rattle.std.specs.Prelude.{Option, Some, None, Ok}
use Rattle.std.specs.List.{All}
use Rattle.std.proofs.lemmas.Bool.{and_from, cond-true}
use Rattle.outside.specs.Outside.{Names}
use Rattle.laws_search.specs.Keys.{Entry}
use Rattle.key_orders.specs.Keys.{fits_columns}
use Rattle.key_orders.specs.Scans.{Bounds, FitsKey, scan_of}
use Rattle.key_orders.specs.declared.Tid.{Tid}
use Rattle.key_orders.specs.declared.columns.Value.{Value}
use Rattle.key_orders.specs.declared.scans.ScanDirection.{ScanDirection}
use Rattle.case_file.specs.Record.{CaseRecord, index_named}
use Rattle.rel_files.specs.declared.check_fault.CheckFault.{CheckFault}
use Rattle.reports.specs.Lists.{Lists}
use Rattle.bt_pages.specs.Broken.{AreEmpty, IsDoubtedAt, IsFoundAt}
use Rattle.bt_levels.specs.Broken.{Breaks, Doubts, IsBehind, IsTrueTree}
use Rattle.bt_levels.specs.Files.{refusal_of}
use Rattle.bt_levels.specs.Index.{tree_lists, tree_of}
use Rattle.bt_levels.specs.Lists.{is_quiet}
use Rattle.bt_levels.proofs.LevelLaws.{empty_quiet, quiet_empty}
use Rattle.bt_scan_lines.specs.Lines.{in_direction}
use Rattle.bt_steps.specs.Pages.{is_killed}
use Rattle.cmd_answers.specs.Cases.{CaseRead, case_in, unless_refused}
use Rattle.cmd_answers.specs.Outcome.{Meets, Outcome, bad_bound, report_or, reported}
use Rattle.cmd_answers.proofs.CaseLaws.{unless_is}
use Rattle.cmd_line.specs.Words.{Form, Scan}
use Rattle.cmd_run.specs.Commands.{outcome_of}
use Rattle.cmd_run.specs.Headline.{pages_of}
use Rattle.cmd_run.specs.Laws.{AreLaws}
use Rattle.cmd_run.specs.Numbered.{KeepsTree}
use Rattle.cmd_run.specs.Scan.{are_fitting, bounded_scanned, case_scanned, entries_shown, file_scanned, keys_of, numbered_scanned, scan_outcome, tree_scanned, wanted_in}
use Rattle.cmd_run.specs.Scanned.{IsCompleteOfTree, IsScan, IsSoundOfTree, Shows, tree_judged}
use Rattle.cmd_run.proofs.NumberedLaws.{keeps_tree, tree_empty}
use Rattle.cmd_run.proofs.ReportLaws.{gave_up, nought_or, owed_code, quiet_code, quiet_owes}

-- what is owed where the index's file isn't refused
scanned_is : (refusal : Option CheckFault) (case : CaseRecord) (found lists : Lists) (owed : Outcome) → unless_refused refusal case found ≡ Ok lists
    → file_scanned refusal case (report_or found owed) ≡ report_or lists owed
scanned_is None case found lists owed e = let same : found ≡ lists = cc in ap (λ (l : Lists). report_or l owed) same
scanned_is (Some fault) case found lists owed e = absurd cc

module _ (laws : AreLaws) (case : CaseRecord) (names : Names) (n : ℕ) (bounds : Bounds) (direction : ScanDirection) (lists : Lists) (judged : tree_judged case names n ≡ Ok lists) where
  abbrev shown : Outcome
  shown = entries_shown (in_direction direction (wanted_in case names n bounds))

  found_is : tree_lists case names n ≡ lists
  found_is = unless_is (refusal_of case names n) case (tree_lists case names n) lists judged

  empty : is_quiet lists ≡ true → AreEmpty (tree_lists case names n)
  empty quiet = subst AreEmpty (sym found_is) (quiet_empty lists quiet)

  is_true : is_quiet lists ≡ true → IsTrueTree (tree_of case names n)
  is_true quiet = (laws.trees case names n).kept (empty quiet)

  kept : KeepsTree case names n → is_quiet lists ≡ true
  kept keeps = sym (ap is_quiet found_is) ∙ empty_quiet (tree_lists case names n) (tree_empty laws case names n keeps)

  sound : IsSoundOfTree case names n lists
  sound = record {
    findings = subst (λ (l : Lists). All (λ f. Breaks case names n f.rule f.place) l.findings) found_is (laws.trees case names n).sound;
    unjudged = subst (λ (l : Lists). All (λ u. Doubts case names n u.reason u.place) l.unjudged) found_is (laws.trees case names n).doubts;
  }

  complete : IsCompleteOfTree case names n lists
  complete = record {
    broken = λ rule place broken. subst (λ (l : Lists). IsFoundAt l place ⊎ IsBehind l rule) found_is ((laws.trees case names n).listed rule place broken);
    in_doubt = λ reason place doubt. subst (λ (l : Lists). IsDoubtedAt l place) found_is ((laws.trees case names n).doubted reason place doubt);
  }

  module _ (old new : Option (List ℕ)) (code : ℕ) (meets : Meets (report_or lists shown) old new code) where
    -- the entries that are wanted are the searcher's
    shows : is_quiet lists ≡ true → Shows case names n bounds direction old new code
    shows quiet =
        let search = (is_true quiet).searches is_killed (scan_of (keys_of case n) bounds) (laws.scans (keys_of case n) bounds) in
        let same : wanted_in case names n bounds ≡ search.0 = laws.wanted (keys_of case n) (pages_of case names n) (scan_of (keys_of case n) bounds) search.0 search.1 in
        let here : Meets shown old new code = subst (λ (o : Outcome). Meets o old new code) (cond-true (is_quiet lists) shown (reported lists) quiet) meets in
        let written : Meets (entries_shown (in_direction direction search.0)) old new code =
        subst (λ (es : List (Entry Value Tid)). Meets (entries_shown (in_direction direction es)) old new code) same here in
        record {
          entries = search.0;
          finds = record { wanted = search.1; ended = search.2 };
          written = written;
          whole = λ nought. (written.whole (λ e. absurd (omega (arith, e, nought))) (λ e. absurd (omega (arith, e, nought))) (λ e. absurd (omega (arith, e, nought)))).1;
        }

    quiet_at : code ≡ 0 → is_quiet lists ≡ true
    quiet_at nought = (quiet_code lists shown (owed_code (report_or lists shown) old new code meets nought)).0

    scan_by : IsScan case names n bounds direction lists old new code
    scan_by = record {
      written = meets;
      sound = sound;
      complete = complete;
      shown = shows;
      clean = λ keeps. nought_or (report_or lists shown) old new code meets (quiet_owes lists shown (kept keeps) refl);
      whole = λ nought. (quiet_at nought, keeps_tree laws case names n (empty (quiet_at nought)));
      truth = λ nought. is_true (quiet_at nought);
    }

  -- what it owes
  owed : (file name : List ℕ) → case_in file names ≡ Ok case → index_named case.indexes name ≡ Some n → FitsKey (keys_of case n) bounds
      → scan_outcome file name bounds direction names ≡ report_or lists shown
  unfolding tree_scanned
  owed file name meant numbered fits =
      let fitting : are_fitting (keys_of case n) bounds ≡ true =
      and_from (fits_columns (keys_of case n) bounds.low.values) (fits_columns (keys_of case n) bounds.high.values) fits.low fits.high in
      ap (λ (read : CaseRead). case_scanned read names name bounds direction) meant
      ∙ ap (λ (number : Option ℕ). numbered_scanned case names number bounds direction) numbered
      ∙ cond-true (are_fitting (keys_of case n) bounds) (file_scanned (refusal_of case names n) case (tree_scanned case names n bounds direction)) bad_bound fitting
      ∙ scanned_is (refusal_of case names n) case (tree_lists case names n) lists shown judged

  -- a run that was to write
  pub scan_worth : (file name : List ℕ) → case_in file names ≡ Ok case → index_named case.indexes name ≡ Some n → FitsKey (keys_of case n) bounds
      → (form : Form) (o : Outcome) → Some form ≡ Some (Scan file name bounds direction) → o ≡ outcome_of form names → (old new : Option (List ℕ)) (code : ℕ)
      → Meets o old new code → IsScan case names n bounds direction lists old new code
  scan_worth file name meant numbered fits form o asked is old new code meets =
      let form_is : form ≡ Scan file name bounds direction = cc in
      scan_by old new code
      (subst (λ (p : Outcome). Meets p old new code) (is ∙ ap (λ (f : Form). outcome_of f names) form_is ∙ owed file name meant numbered fits) meets)

  -- and one that gave up before it wrote
  pub given_up_scan : (old new : Option (List ℕ)) (code : ℕ) → (code ≡ 7) ⊎ (code ≡ 9) → IsScan case names n bounds direction lists old new code
  given_up_scan old new code gave = scan_by old new code (gave_up (report_or lists shown) old new code gave)

-- What comes of a heap: its report where something is found, and else what is owed without one.
use Rattle.std.proofs.Common.{◌≡◌, ◌≢◌, ◌∙◌, ◌⊎◌, inl, inr, Bool, true, false, List, ℕ, refl, sym, ap, subst, arith}
use Rattle.std.specs.Prelude.{Option, Some, None, Ok}
use Rattle.std.specs.Option.{is_some}
use Rattle.std.proofs.lemmas.Bool.{both_ways, cases_eq, cond-false, cond-true}
use Rattle.outside.specs.Outside.{Names}
use Rattle.case_file.specs.Record.{CaseRecord}
use Rattle.reports.specs.Lists.{Lists}
use Rattle.rel_files.specs.declared.check_fault.CheckFault.{CheckFault}
use Rattle.rel_files.specs.declared.check_fault.CheckFault.TheVariants.{NoFile, TooLarge, ReadFault, NoMemory}
use Rattle.bt_levels.specs.Lists.{is_quiet}
use Rattle.bt_levels.proofs.LevelLaws.{empty_quiet, quiet_empty}
use Rattle.heap_table_check.specs.Files.{BelongTo, IsSoundHeapOf, files_of, refusal_of}
use Rattle.heap_table_check.specs.Found.{IsQuiet, case_found}
use Rattle.heap_table_check.specs.declared.files.SoundHeap.{SoundHeap}
use Rattle.heap_rows.specs.RowLaws.{AreLiveTuples}
use Rattle.heap_rows.specs.Rows.{rows_of}
use Rattle.cmd_answers.specs.Answers.{GaveUp}
use Rattle.cmd_answers.specs.Cases.{case_in, files_refused}
use Rattle.cmd_answers.specs.Outcome.{Meets, Outcome, report_or, reported}
use Rattle.cmd_answers.proofs.CaseLaws.{HasCase, one_case, sound_case, the_case, unless_is}
use Rattle.cmd_line.specs.Words.{Check}
use Rattle.cmd_run.specs.Commands.{BreaksNothing, DoubtsNothing, IsSound, judged_by}
use Rattle.cmd_run.specs.Heap.{HasTrueHeap, case_judged, heap_judged}
use Rattle.cmd_run.specs.Laws.{AreLaws}
use Rattle.cmd_run.specs.Tables.{IsHeapIn, IsHeapOf}
use Rattle.cmd_run.proofs.NumberedLaws.{quiet_from, quiet_is}
use Rattle.cmd_run.proofs.TogetherLaws.{heap-where-quiet}
use Rattle.cmd_run.proofs.HeapLaws.{heap_true}
use Rattle.cmd_run.proofs.Worth.{clean_has_none, empty_breaks, empty_doubts, none_of}

-- a report where something is found, or in doubt, has another code
pub loud_code : (lists : Lists) → is_quiet lists ≡ false → (reported lists).code ≢ 0
loud_code lists loud e =
    let none = clean_has_none lists.findings lists.unjudged e in
    both_ways (is_quiet lists) loud (empty_quiet lists (record { findings = none.0; unjudged = none.1 }))

module _ (case : CaseRecord) (names : Names) (found : Option SoundHeap) (of : IsHeapOf case names found) where
  -- what a heap that came back is
  pub heap_there : (heap : SoundHeap) → found ≡ Some heap → IsHeapOf case names (Some heap)
  heap_there heap is = subst (IsHeapOf case names) is of

  pub sound_there : (heap : SoundHeap) → found ≡ Some heap → IsSoundHeapOf case names heap
  sound_there heap is = (heap_there heap is).sound

  pub quiet_there : (heap : SoundHeap) → found ≡ Some heap → IsQuiet case names
  quiet_there heap is = (heap_there heap is).quiet.0 refl

  -- with it comes what is owed,
  pub owed_there : (heap : SoundHeap) (o rows : Outcome) → found ≡ Some heap → o ≡ rows → o ≡ report_or (case_found case names) rows
  owed_there heap o rows is owed = owed ∙ sym (cond-true _ _ _ (quiet_from case names (quiet_there heap is)))

  loud_there : found ≡ None → is_quiet (case_found case names) ≡ false
  loud_there is = sym (heap-where-quiet case names found of) ∙ ap (λ (h : Option SoundHeap). is_some h) is

  -- and without it the report, with another code than 0
  pub report_there : (o rows : Outcome) (report : Lists) → found ≡ None → o ≡ reported report → report ≡ case_found case names
      → o ≡ report_or (case_found case names) rows
  report_there o rows report is owed added =
      owed ∙ ap reported added
      ∙ sym (cond-false _ _ _ (loud_there is))

  pub report_code : (o : Outcome) (report : Lists) → found ≡ None → o ≡ reported report → report ≡ case_found case names → o.code ≢ 0
  report_code o report is owed added e = loud_code (case_found case names) (loud_there is) (sym (ap (λ (p : Outcome). p.code) (owed ∙ ap reported added)) ∙ e)

pub belongs_there : (case : CaseRecord) (found : Option SoundHeap) (heap : SoundHeap) → found ≡ Some heap → IsHeapIn case found → BelongTo case (files_of heap)
belongs_there case found heap is belongs = subst (IsHeapIn case) is belongs

-- The case of a report on a heap

module _ (file : List ℕ) (case : CaseRecord) (names : Names) (lists : Lists) (meant : case_in file names ≡ Ok case) (e : heap_judged file names ≡ Ok lists) where
  has : HasCase file names (case_judged names) lists
  has = the_case file names (case_judged names) lists e

  same : has.case ≡ case
  same = one_case file names has.case case has.meant meant

  pub judged_is : case_judged names case ≡ Ok lists
  judged_is = subst (λ (k : CaseRecord). case_judged names k ≡ Ok lists) same has.judged

  found_is : case_found case names ≡ lists
  found_is = unless_is (refusal_of case names) case (case_found case names) lists judged_is

  -- where nothing is found the rows are the live tuples
  pub rows_live : AreLaws → is_quiet lists ≡ true → AreLiveTuples case names (rows_of case names)
  rows_live laws quiet = laws.rows case names (sound_case file names case meant) (quiet_is case names (ap is_quiet found_is ∙ quiet))

-- The code 0

-- what is owed without a report has the code where it comes
pub quiet_code : (lists : Lists) (owed : Outcome) → (report_or lists owed).code ≡ 0 → (is_quiet lists ≡ true) × (owed.code ≡ 0)
quiet_code lists owed e = go (is_quiet lists) refl
  where
    go : (quiet : Bool) → is_quiet lists ≡ quiet → (is_quiet lists ≡ true) × (owed.code ≡ 0)
    go true is = (is, ap (λ (o : Outcome). o.code) (sym (cond-true _ _ _ is)) ∙ e)
    go false is = absurd (loud_code lists is (ap (λ (o : Outcome). o.code) (sym (cond-false _ _ _ is)) ∙ e))

pub quiet_owes : (lists : Lists) (owed : Outcome) → is_quiet lists ≡ true → owed.code ≡ 0 → (report_or lists owed).code ≡ 0
quiet_owes lists owed quiet nought = ap (λ (o : Outcome). o.code) (cond-true (is_quiet lists) owed (reported lists) quiet) ∙ nought

-- a report of what breaks no rule, and of which all can be judged, is empty,
pub kept_quiet : (check : Check) (names : Names) (lists : Lists) → IsSound check names lists → BreaksNothing check names → DoubtsNothing check names → is_quiet lists ≡ true
kept_quiet check names lists sound nothing sure =
    empty_quiet lists (record {
      findings = none_of lists.findings sound.findings (λ f. nothing f.rule f.place);
      unjudged = none_of lists.unjudged sound.unjudged (λ u. sure u.reason u.place);
    })

-- and an empty one tells that it is so
pub quiet_kept : (laws : AreLaws) (check : Check) (names : Names) (lists : Lists) → judged_by check names ≡ Ok lists → is_quiet lists ≡ true → BreaksNothing check names × DoubtsNothing check names
quiet_kept laws check names lists e quiet =
    let empty = quiet_empty lists quiet in
    (empty_breaks laws lists empty.findings empty.unjudged check names e, empty_doubts laws lists empty.findings empty.unjudged check names e)

pub quiet_true : (laws : AreLaws) (file : List ℕ) (names : Names) (lists : Lists) → heap_judged file names ≡ Ok lists → is_quiet lists ≡ true → HasTrueHeap file names
quiet_true laws file names lists e quiet =
    let empty = quiet_empty lists quiet in
    heap_true file names lists e empty.findings empty.unjudged

-- files that are refused have another
pub refused_code : (case : CaseRecord) (fault : CheckFault) → (files_refused case fault).code ≢ 0
refused_code case (NoFile which) e = absurd (omega (arith, e))
refused_code case (TooLarge which blocks limit) e = absurd (omega (arith, e))
refused_code case ReadFault e = absurd (omega (arith, e))
refused_code case NoMemory e = absurd (omega (arith, e))

-- a run that answers 0 owed it
pub owed_code : (owed : Outcome) (old new : Option (List ℕ)) (code : ℕ) → Meets owed old new code → code ≡ 0 → owed.code ≡ 0
owed_code owed old new code meets nought =
    let same = (meets.whole (λ e. absurd (omega (arith, e, nought))) (λ e. absurd (omega (arith, e, nought))) (λ e. absurd (omega (arith, e, nought)))).0 in
    sym same ∙ nought

-- a run that owes 0 answers it, or gave up
pub nought_or : (owed : Outcome) (old new : Option (List ℕ)) (code : ℕ) → Meets owed old new code → owed.code ≡ 0 → (code ≡ 0) ⊎ GaveUp code
nought_or owed old new code meets nought = elim (cases_eq code 7) [
  | inl seven ↦ inr (inl seven)
  | inr not_seven ↦ elim (cases_eq code 8) [
    | inl eight ↦ inr (inr (inl eight))
    | inr not_eight ↦ elim (cases_eq code 9) [
      | inl nine ↦ inr (inr (inr nine))
      | inr not_nine ↦ inl ((meets.whole not_seven not_eight not_nine).0 ∙ nought)
    ]
  ]
]

-- what a run that gave up before it wrote meets
pub gave_up : (owed : Outcome) (old new : Option (List ℕ)) (code : ℕ) → (code ≡ 7) ⊎ (code ≡ 9) → Meets owed old new code
gave_up owed old new code (inl seven) = record { whole = λ not_seven not_eight not_nine. absurd (not_seven seven); prefix = λ eight. absurd (omega (arith, seven, eight)) }
gave_up owed old new code (inr nine) = record { whole = λ not_seven not_eight not_nine. absurd (not_nine nine); prefix = λ eight. absurd (omega (arith, nine, eight)) }

-- The findings of a case are the rules that are broken in its files.
use Rattle.std.proofs.Common.{◌≡◌, ℕ, List, [], ap, subst, ◌∙◌}
use Rattle.std.specs.Prelude.{Ok}
use Rattle.std.specs.List.{All}
use Rattle.std.proofs.lemmas.List.Elements.{All-weaker}
use Rattle.outside.specs.Outside.{Names}
use Rattle.page_layout.specs.declared.rules.Rule.{Rule}
use Rattle.case_file.specs.Record.{CaseRecord}
use Rattle.reports.specs.Added.{IsListed}
use Rattle.reports.specs.Lists.{Lists}
use Rattle.reports.specs.declared.places.Place.{Place}
use Rattle.reports.specs.declared.places.Reason.{Reason}
use Rattle.heap_table_check.specs.Broken.{Breaks, Doubts}
use Rattle.heap_table_check.specs.Files.{refusal_of}
use Rattle.heap_table_check.specs.Found.{case_found, doubts_of, findings_of}
use Rattle.heap_table_check.proofs.TrueLaws.{case_is_judged, case_is_true}
use Rattle.cmd_run.specs.Heap.{BreaksHeap, DoubtsHeap, HasTrueHeap, case_judged, heap_judged}
use Rattle.cmd_answers.proofs.CaseLaws.{HasCase, one_case, the_case, unless_is}

module _ (name : List ℕ) (names : Names) (lists : Lists) (e : heap_judged name names ≡ Ok lists) where
  has : HasCase name names (case_judged names) lists
  has = the_case name names (case_judged names) lists e

  shown : case_found has.case names ≡ lists
  shown = unless_is (refusal_of has.case names) has.case (case_found has.case names) lists has.judged

  -- each finding of its report is a broken rule, and each place that is called unjudged is in doubt
  pub heap_sound : All (λ f. BreaksHeap name names f.rule f.place) lists.findings
  heap_sound =
      subst (λ (l : Lists). All (λ f. BreaksHeap name names f.rule f.place) l.findings) shown
      (All-weaker (λ f. Breaks has.case names f.rule f.place) (λ f. BreaksHeap name names f.rule f.place)
      (λ f broken. record { case = has.case; meant = has.meant; broken = broken }) (findings_of has.case names) (case_is_judged has.case names).sound)

  pub heap_doubts : All (λ u. DoubtsHeap name names u.reason u.place) lists.unjudged
  heap_doubts =
      subst (λ (l : Lists). All (λ u. DoubtsHeap name names u.reason u.place) l.unjudged) shown
      (All-weaker (λ u. Doubts has.case names u.reason u.place) (λ u. DoubtsHeap name names u.reason u.place)
      (λ u doubted. record { case = has.case; meant = has.meant; doubted = doubted }) (doubts_of has.case names) (case_is_judged has.case names).doubts)

  -- and each place where something is stands in it
  pub heap_listed : (rule : Rule) (place : Place) → BreaksHeap name names rule place → IsListed lists place
  heap_listed rule place broken =
      let same = one_case name names broken.case has.case broken.meant has.meant in
      subst (λ (l : Lists). IsListed l place) shown
      ((case_is_judged has.case names).listed rule place (subst (λ (c : CaseRecord). Breaks c names rule place) same broken.broken))

  pub heap_doubt_listed : (reason : Reason) (place : Place) → DoubtsHeap name names reason place → IsListed lists place
  heap_doubt_listed reason place doubted =
      let same = one_case name names doubted.case has.case doubted.meant has.meant in
      subst (λ (l : Lists). IsListed l place) shown
      ((case_is_judged has.case names).doubts_listed reason place (subst (λ (c : CaseRecord). Doubts c names reason place) same doubted.doubted))

  -- a report without findings, and with nothing in doubt, tells what is true of the heap
  pub heap_true : lists.findings ≡ [] → lists.unjudged ≡ [] → HasTrueHeap name names
  heap_true none sure = record {
    case = has.case;
    meant = has.meant;
    heap = case_is_true has.case names (record {
      findings = ap (λ (l : Lists). l.findings) shown ∙ none;
      doubts = ap (λ (l : Lists). l.unjudged) shown ∙ sure;
    });
  }

-- The findings of a case and of one of its indexes are the rules that are broken in their files.
use Rattle.std.proofs.Common.{◌≡◌, ℕ, List, [], ◌++◌, ◌⊎◌, inl, inr, refl, ap, sym, subst, ◌∙◌}
use Rattle.std.specs.Prelude.{Option, Some, None, Ok}
use Rattle.std.specs.List.{All}
use Rattle.std.proofs.lemmas.List.Elements.{All-append, All-weaker, Contains-append_left, Contains-append_right}
use Rattle.outside.specs.Outside.{Names}
use Rattle.page_layout.specs.declared.rules.Rule.{Rule}
use Rattle.case_file.specs.Record.{CaseRecord, index_named}
use Rattle.reports.specs.Added.{IsListed, found, in_doubt, joined}
use Rattle.reports.specs.Lists.{Lists}
use Rattle.reports.specs.declared.places.Place.{Place}
use Rattle.reports.specs.declared.places.Reason.{Reason}
use Rattle.reports.proofs.Parts.{first_is_empty, second_is_empty}
use Rattle.heap_table_check.specs.Broken.{Breaks as BreaksTable, Doubts as DoubtsTable}
use Rattle.heap_table_check.specs.Found.{IsQuiet, case_found}
use Rattle.heap_table_check.proofs.TrueLaws.{case_is_judged}
use Rattle.bt_pages.specs.Broken.{AreEmpty}
use Rattle.cmd_run.specs.Index.{BreaksIndex, DoubtsIndex, HasIndex, HasTrueIndex, in_index, in_table, index_found, index_judged, index_refusal, named_judged, numbered_judged}
use Rattle.cmd_run.specs.Laws.{AreLaws}
use Rattle.cmd_run.specs.Numbered.{BreaksNumbered, DoubtsNumbered, IsBehind, numbered_found}
use Rattle.cmd_answers.proofs.CaseLaws.{HasCase, one_case, sound_case, the_case, unless_is}
use Rattle.cmd_run.proofs.HeadlineLaws.{index_is_true}
use Rattle.cmd_run.proofs.NumberedLaws.{numbered_doubt_listed, numbered_doubts, numbered_joined, numbered_listed, numbered_sound, numbered_tree, numbered_unique}

-- What is listed in a part is listed in the whole

pub listed_first : (a b : Lists) (place : Place) → IsListed a place → IsListed (joined a b) place
listed_first a b place (found rule has) = found rule (Contains-append_left a.findings b.findings _ has)
listed_first a b place (in_doubt reason has) = in_doubt reason (Contains-append_left a.unjudged b.unjudged _ has)

pub listed_second : (a b : Lists) (place : Place) → IsListed b place → IsListed (joined a b) place
listed_second a b place (found rule has) = found rule (Contains-append_right a.findings b.findings _ has)
listed_second a b place (in_doubt reason has) = in_doubt reason (Contains-append_right a.unjudged b.unjudged _ has)

pub behind_second : (a b : Lists) (rule : Rule) (place : Place) → IsBehind b rule place → IsBehind (joined a b) rule place
behind_second a b rule place behind = record {
  own = behind.own;
  first = behind.first;
  level = behind.level;
  found = Contains-append_right a.findings b.findings behind.first behind.found;
  same = behind.same;
}

pub told_second : (a b : Lists) (rule : Rule) (place : Place) → IsListed b place ⊎ IsBehind b rule place → IsListed (joined a b) place ⊎ IsBehind (joined a b) rule place
told_second a b rule place (inl there) = inl (listed_second a b place there)
told_second a b rule place (inr behind) = inr (behind_second a b rule place behind)

-- The index of a report

record IsShown (name : List ℕ) (names : Names) (case : CaseRecord) (lists : Lists) : Type 0 where
  pub number : ℕ
  pub named : index_named case.indexes name ≡ Some number
  pub shown : index_found case names number ≡ lists

by_number : (name : List ℕ) (names : Names) (case : CaseRecord) (number : Option ℕ) (lists : Lists) → index_named case.indexes name ≡ number
    → numbered_judged names case number ≡ Ok lists → IsShown name names case lists
by_number name names case None lists is e = cc
by_number name names case (Some n) lists is e =
    record { number = n; named = is; shown = unless_is (index_refusal case names n) case (index_found case names n) lists e }

one_number : (o : Option ℕ) (a b : ℕ) → o ≡ Some a → o ≡ Some b → a ≡ b
one_number o a b e f = cc

-- an index that is meant is the only one
one_index : (P : CaseRecord → ℕ → Type 0) (file name : List ℕ) (names : Names) (a b : HasIndex file name names) → P a.case a.number → P b.case b.number
one_index P file name names a b holds =
    let same = one_case file names a.case b.case a.meant b.meant in
    let number = one_number (index_named b.case.indexes name) a.number b.number (ap (λ (c : CaseRecord). index_named c.indexes name) (sym same) ∙ a.named) b.named in
    subst (λ (n : ℕ). P b.case n) number (subst (λ (c : CaseRecord). P c a.number) same holds)

module _ (laws : AreLaws) (file name : List ℕ) (names : Names) (lists : Lists) (e : index_judged file name names ≡ Ok lists) where
  of_case : HasCase file names (named_judged name names) lists
  of_case = the_case file names (named_judged name names) lists e

  of_index : IsShown name names of_case.case lists
  of_index = by_number name names of_case.case (index_named of_case.case.indexes name) lists refl of_case.judged

  abbrev has : HasIndex file name names
  has = record { case = of_case.case; meant = of_case.meant; number = of_index.number; named = of_index.named }

  -- each finding of its report is a broken rule, and each place that is called unjudged is in doubt
  pub index_sound : All (λ f. BreaksIndex file name names f.rule f.place) lists.findings
  index_sound =
      subst (λ (l : Lists). All (λ f. BreaksIndex file name names f.rule f.place) l.findings) of_index.shown
      (All-append (λ f. BreaksIndex file name names f.rule f.place) (case_found has.case names).findings (numbered_found has.case names has.number).findings
      (All-weaker (λ f. BreaksTable has.case names f.rule f.place) (λ f. BreaksIndex file name names f.rule f.place)
      (λ f broken. in_table has broken) (case_found has.case names).findings (case_is_judged has.case names).sound)
      (All-weaker (λ f. BreaksNumbered has.case names has.number f.rule f.place) (λ f. BreaksIndex file name names f.rule f.place)
      (λ f broken. in_index has broken) (numbered_found has.case names has.number).findings (numbered_sound laws has.case names has.number)))

  pub index_doubts : All (λ u. DoubtsIndex file name names u.reason u.place) lists.unjudged
  index_doubts =
      subst (λ (l : Lists). All (λ u. DoubtsIndex file name names u.reason u.place) l.unjudged) of_index.shown
      (All-append (λ u. DoubtsIndex file name names u.reason u.place) (case_found has.case names).unjudged (numbered_found has.case names has.number).unjudged
      (All-weaker (λ u. DoubtsTable has.case names u.reason u.place) (λ u. DoubtsIndex file name names u.reason u.place)
      (λ u doubt. in_table has doubt) (case_found has.case names).unjudged (case_is_judged has.case names).doubts)
      (All-weaker (λ u. DoubtsNumbered has.case names has.number u.reason u.place) (λ u. DoubtsIndex file name names u.reason u.place)
      (λ u doubt. in_index has doubt) (numbered_found has.case names has.number).unjudged (numbered_doubts laws has.case names has.number)))

  -- and each place where something is stands in it
  in_report : (place : Place) → IsListed (index_found has.case names has.number) place → IsListed lists place
  in_report place listed = subst (λ (l : Lists). IsListed l place) of_index.shown listed

  pub index_listed : (rule : Rule) (place : Place) → BreaksIndex file name names rule place → IsListed lists place ⊎ IsBehind lists rule place
  index_listed rule place (in_table other broken) =
      inl (in_report place (listed_first (case_found has.case names) (numbered_found has.case names has.number) place
      ((case_is_judged has.case names).listed rule place (one_index (λ c n. BreaksTable c names rule place) file name names other has broken))))
  index_listed rule place (in_index other broken) =
      subst (λ (l : Lists). IsListed l place ⊎ IsBehind l rule place) of_index.shown
      (told_second (case_found has.case names) (numbered_found has.case names has.number) rule place
      (numbered_listed laws has.case names has.number rule place (one_index (λ c n. BreaksNumbered c names n rule place) file name names other has broken)))

  pub index_doubt_listed : (reason : Reason) (place : Place) → DoubtsIndex file name names reason place → IsListed lists place
  index_doubt_listed reason place (in_table other doubt) =
      in_report place (listed_first (case_found has.case names) (numbered_found has.case names has.number) place
      ((case_is_judged has.case names).doubts_listed reason place (one_index (λ c n. DoubtsTable c names reason place) file name names other has doubt)))
  index_doubt_listed reason place (in_index other doubt) =
      in_report place (listed_second (case_found has.case names) (numbered_found has.case names has.number) place
      (numbered_doubt_listed laws has.case names has.number reason place (one_index (λ c n. DoubtsNumbered c names n reason place) file name names other has doubt)))

  -- a report without findings, and with nothing in doubt, tells what is true of the heap and of the index
  pub index_true : lists.findings ≡ [] → lists.unjudged ≡ [] → HasTrueIndex file name names
  index_true none sure =
      let findings : (case_found has.case names).findings ++ (numbered_found has.case names has.number).findings ≡ [] =
      ap (λ (l : Lists). l.findings) of_index.shown ∙ none in
      let doubts : (case_found has.case names).unjudged ++ (numbered_found has.case names has.number).unjudged ≡ [] =
      ap (λ (l : Lists). l.unjudged) of_index.shown ∙ sure in
      let quiet : IsQuiet has.case names = record { findings = first_is_empty _ _ findings; doubts = first_is_empty _ _ doubts } in
      let empty : AreEmpty (numbered_found has.case names has.number) =
      record { findings = second_is_empty (case_found has.case names).findings _ findings; unjudged = second_is_empty (case_found has.case names).unjudged _ doubts } in
      let tree = numbered_tree laws has.case names has.number quiet empty in
      record {
        has = has;
        tree = tree;
        index =
            index_is_true laws has.case names has.number (sound_case file names has.case has.meant) quiet tree
            (numbered_joined laws has.case names has.number quiet empty)
            (numbered_unique laws has.case names has.number quiet empty);
      }

-- The findings of a case and of all of its indexes are the rules that are broken in their files.
use Rattle.std.proofs.Common.{◌≡◌, ℕ, [], ◌⊎◌, inl, inr, refl}
use Rattle.std.specs.Prelude.{length}
use Rattle.std.specs.List.{All}
use Rattle.std.proofs.lemmas.List.Elements.{All-append, All-weaker}
use Rattle.outside.specs.Outside.{Names}
use Rattle.page_layout.specs.declared.rules.Rule.{Rule}
use Rattle.case_file.specs.Record.{CaseRecord}
use Rattle.case_file.specs.Sound.{IsSound as IsSoundCase}
use Rattle.reports.specs.Added.{IsListed, each_upto, found, in_doubt, report_lists}
use Rattle.reports.specs.Lists.{Lists}
use Rattle.reports.specs.declared.places.Place.{Place}
use Rattle.reports.specs.declared.places.Reason.{Reason}
use Rattle.reports.proofs.Parts.{All-upto, among_upto, first_is_empty, second_is_empty, upto_is_empty}
use Rattle.heap_table_check.specs.Broken.{Breaks as BreaksTable, Doubts as DoubtsTable}
use Rattle.heap_table_check.specs.Found.{IsQuiet, case_found}
use Rattle.heap_table_check.proofs.TrueLaws.{case_is_judged, case_is_true}
use Rattle.bt_pages.specs.Broken.{AreEmpty}
use Rattle.bt_levels.specs.Broken.{IsTrueTree}
use Rattle.bt_levels.specs.Index.{tree_of}
use Rattle.cmd_run.specs.All.{BreaksCase, DoubtsCase, IsTrueCase, all_found, in_index, in_table}
use Rattle.cmd_run.specs.Headline.{IsTrueIndex}
use Rattle.cmd_run.specs.Laws.{AreLaws}
use Rattle.cmd_run.specs.Numbered.{BreaksNumbered, DoubtsNumbered, IsBehind, IsNumber, numbered_found}
use Rattle.cmd_run.proofs.HeadlineLaws.{index_is_true}
use Rattle.cmd_run.proofs.IndexLaws.{listed_first, listed_second, told_second}
use Rattle.cmd_run.proofs.NumberedLaws.{numbered_doubt_listed, numbered_doubts, numbered_joined, numbered_listed, numbered_sound, numbered_tree, numbered_unique}

module _ (laws : AreLaws) (case : CaseRecord) (names : Names) where
  abbrev count : ℕ
  count = length case.indexes

  abbrev indexes : Lists
  indexes = each_upto report_lists (numbered_found case names) count

  -- each finding is a broken rule, and each place that is called unjudged is in doubt
  pub whole_sound : All (λ f. BreaksCase case names f.rule f.place) (all_found case names).findings
  whole_sound =
      All-append (λ f. BreaksCase case names f.rule f.place) (case_found case names).findings indexes.findings
      (All-weaker (λ f. BreaksTable case names f.rule f.place) (λ f. BreaksCase case names f.rule f.place)
      (λ f broken. in_table broken) (case_found case names).findings (case_is_judged case names).sound)
      (All-upto report_lists (λ l. l.findings) refl (λ a b. refl) (λ f. BreaksCase case names f.rule f.place) (numbered_found case names) count
      (λ n first last. All-weaker (λ f. BreaksNumbered case names n f.rule f.place) (λ f. BreaksCase case names f.rule f.place)
      (λ f broken. in_index n (record { first = first; last = last }) broken) (numbered_found case names n).findings (numbered_sound laws case names n)))

  pub whole_doubts : All (λ u. DoubtsCase case names u.reason u.place) (all_found case names).unjudged
  whole_doubts =
      All-append (λ u. DoubtsCase case names u.reason u.place) (case_found case names).unjudged indexes.unjudged
      (All-weaker (λ u. DoubtsTable case names u.reason u.place) (λ u. DoubtsCase case names u.reason u.place)
      (λ u doubt. in_table doubt) (case_found case names).unjudged (case_is_judged case names).doubts)
      (All-upto report_lists (λ l. l.unjudged) refl (λ a b. refl) (λ u. DoubtsCase case names u.reason u.place) (numbered_found case names) count
      (λ n first last. All-weaker (λ u. DoubtsNumbered case names n u.reason u.place) (λ u. DoubtsCase case names u.reason u.place)
      (λ u doubt. in_index n (record { first = first; last = last }) doubt) (numbered_found case names n).unjudged (numbered_doubts laws case names n)))

  -- and each place where something is stands among them
  listed_in_indexes : (n : ℕ) → IsNumber case n → (place : Place) → IsListed (numbered_found case names n) place → IsListed indexes place
  listed_in_indexes n is place (found rule has) =
      found rule (among_upto report_lists (λ l. l.findings) refl (λ a b. refl) (numbered_found case names) count n _ is.first is.last has)
  listed_in_indexes n is place (in_doubt reason has) =
      in_doubt reason (among_upto report_lists (λ l. l.unjudged) refl (λ a b. refl) (numbered_found case names) count n _ is.first is.last has)

  behind_in_indexes : (n : ℕ) → IsNumber case n → (rule : Rule) (place : Place) → IsBehind (numbered_found case names n) rule place → IsBehind indexes rule place
  behind_in_indexes n is rule place behind = record {
    own = behind.own;
    first = behind.first;
    level = behind.level;
    found = among_upto report_lists (λ l. l.findings) refl (λ a b. refl) (numbered_found case names) count n behind.first is.first is.last behind.found;
    same = behind.same;
  }

  told_in_indexes : (n : ℕ) → IsNumber case n → (rule : Rule) (place : Place)
      → IsListed (numbered_found case names n) place ⊎ IsBehind (numbered_found case names n) rule place → IsListed indexes place ⊎ IsBehind indexes rule place
  told_in_indexes n is rule place (inl there) = inl (listed_in_indexes n is place there)
  told_in_indexes n is rule place (inr behind) = inr (behind_in_indexes n is rule place behind)

  pub whole_listed : (rule : Rule) (place : Place) → BreaksCase case names rule place
      → IsListed (all_found case names) place ⊎ IsBehind (all_found case names) rule place
  whole_listed rule place (in_table broken) = inl (listed_first (case_found case names) indexes place ((case_is_judged case names).listed rule place broken))
  whole_listed rule place (in_index n is broken) =
      told_second (case_found case names) indexes rule place (told_in_indexes n is rule place (numbered_listed laws case names n rule place broken))

  pub whole_doubt_listed : (reason : Reason) (place : Place) → DoubtsCase case names reason place → IsListed (all_found case names) place
  whole_doubt_listed reason place (in_table doubt) = listed_first (case_found case names) indexes place ((case_is_judged case names).doubts_listed reason place doubt)
  whole_doubt_listed reason place (in_index n is doubt) =
      listed_second (case_found case names) indexes place (listed_in_indexes n is place (numbered_doubt_listed laws case names n reason place doubt))

  -- where nothing is found, and nothing is in doubt, this is true of the heap and of each index
  module _ (sound : IsSoundCase case) (none : (all_found case names).findings ≡ []) (sure : (all_found case names).unjudged ≡ []) where
    quiet : IsQuiet case names
    quiet = record { findings = first_is_empty _ _ none; doubts = first_is_empty _ _ sure }

    empty : (n : ℕ) → IsNumber case n → AreEmpty (numbered_found case names n)
    empty n is = record {
      findings = upto_is_empty report_lists (λ l. l.findings) refl (λ a b. refl) (numbered_found case names) count n (second_is_empty (case_found case names).findings _ none) is.first is.last;
      unjudged = upto_is_empty report_lists (λ l. l.unjudged) refl (λ a b. refl) (numbered_found case names) count n (second_is_empty (case_found case names).unjudged _ sure) is.first is.last;
    }

    tree : (n : ℕ) → IsNumber case n → IsTrueTree (tree_of case names n)
    tree n is = numbered_tree laws case names n quiet (empty n is)

    index : (n : ℕ) → IsNumber case n → IsTrueIndex case names n
    index n is = index_is_true laws case names n sound quiet (tree n is) (numbered_joined laws case names n quiet (empty n is)) (numbered_unique laws case names n quiet (empty n is))

    pub whole_true : IsTrueCase case names
    whole_true = record { heap = case_is_true case names quiet; trees = tree; indexes = index }

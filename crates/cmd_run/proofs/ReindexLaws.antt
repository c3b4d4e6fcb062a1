-- The index that is made of the rows of a heap, and what a run of `reindex` is worth.
use Rattle.std.proofs.Common.{◌≡◌, ◌≢◌, ◌≤◌, ◌∙◌, ◌⊎◌, inl, inr, Bool, true, false, List, [], ◌∷◌, nat_lt, ℕ, refl, sym, ap, subst, arith}
use Rattle.std.specs.Prelude.{All, if◌then◌else◌, Option, Some, None, Ok, unwrap_or}
use Rattle.std.specs.List.{filter}
use Rattle.std.specs.Option.{option_map}
use Rattle.std.proofs.lemmas.Bool.{cond-false, cond-true, le-ltb, ltb-false}
use Rattle.std.proofs.lemmas.List.Elements.{All-cons, All-head, All-nil, All-tail}
use Rattle.outside.specs.Outside.{Names}
use Rattle.key_orders.specs.declared.columns.KeySpec.{KeySpec}
use Rattle.key_orders.specs.declared.more.MoreSpec.{MoreSpec}
use Rattle.key_orders.specs.declared.Tid.{Tid}
use Rattle.case_file.specs.Record.{CaseRecord, IndexRecord, index_named}
use Rattle.reports.specs.Lists.{Lists}
use Rattle.bt_image.specs.Image.{LeafEntry}
use Rattle.bt_levels.specs.Index.{index_of, no_index}
use Rattle.bt_levels.specs.Lists.{is_quiet}
use Rattle.bt_levels.proofs.LevelLaws.{empty_quiet, quiet_empty}
use Rattle.bt_steps.proofs.Members.{none-in}
use Rattle.heap_rows.specs.Rows.{rows_of}
use Rattle.laws_built_index.specs.Items.{tids_of}
use Rattle.bt_build.specs.Listed.{Listed}
use Rattle.bt_build.specs.Outcome.{MayBeIndexed, is_too_large, large_among, large_tid, lowest_tid, tree_for}
use Rattle.join_row_entries.specs.Entries.{AreDoubted, AreListed, doubts_of, rows_listed}
use Rattle.join_row_entries.proofs.ListedLaws.{doubted_loud, listed_is, listed_quiet, quiet_listed}
use Rattle.cmd_answers.specs.Cases.{case_in}
use Rattle.cmd_answers.specs.Outcome.{Judged, Meets, Outcome, judged_or, report_or, reported}
use Rattle.cmd_line.specs.Words.{Form, Heap, Reindex}
use Rattle.cmd_run.specs.Commands.{outcome_of}
use Rattle.cmd_run.specs.Heap.{heap_judged}
use Rattle.cmd_run.specs.Laws.{AreLaws}
use Rattle.cmd_run.specs.Reindex.{MayBeMade, MayBeRemade, case_reindexed, index_made, index_shown, index_written, made_unless, numbered_reindexed, reindex_outcome}
use Rattle.cmd_run.specs.Reindexed.{AreSmall, HasNonePacked, IsMade, IsReindex}
use Rattle.cmd_run.proofs.DoubtLaws.{doubts_are}
use Rattle.cmd_run.proofs.ReportLaws.{gave_up, judged_is, kept_quiet, loud_code, nought_or, owed_code, quiet_code, quiet_kept, quiet_owes, quiet_true, rows_live}
use Rattle.cmd_run.proofs.Worth.{complete_report, none_of, sound_report}

-- The file of an index
pub its_file : (index : Option IndexRecord) (file : List ℕ) → option_map (λ (i : IndexRecord). i.file) index ≡ Some file → (unwrap_or index no_index).file ≡ file
its_file None file e = absurd cc
its_file (Some index) file e = cc

-- What is made of rows

module _ (case : CaseRecord) (names : Names) (n : ℕ) where
  -- their entries,
  pub listed_shown : (l : Listed) (o : Outcome) → AreListed case n (rows_of case names) l → o ≡ index_made l (index_of case n).file → o ≡ index_shown names case n
  unfolding index_shown
  listed_shown l o are is =
      is ∙ ap (λ (k : Listed). index_made k (index_of case n).file) (listed_is case names n l are)
      ∙ sym (cond-true (is_quiet (doubts_of case names n)) _ _ (listed_quiet case names n l are))

  pub listed_may : (l : Listed) → AreListed case n (rows_of case names) l → MayBeIndexed l → MayBeMade names case n
  listed_may l are may = subst MayBeIndexed (listed_is case names n l are) may

  -- or the report on those in doubt
  pub doubted_shown : (report : Lists) (o : Outcome) → AreDoubted case names n report → o ≡ reported report → o ≡ index_shown names case n
  unfolding index_shown
  doubted_shown report o are is =
      is ∙ ap reported are.doubts ∙ sym (cond-false (is_quiet (doubts_of case names n)) _ _ (doubted_loud case names n report are))

  pub doubted_code : (report : Lists) (o : Outcome) → AreDoubted case names n report → o ≡ reported report → o.code ≢ 0
  doubted_code report o are is e =
      loud_code (doubts_of case names n) (doubted_loud case names n report are) (sym (ap (λ (p : Outcome). p.code) (is ∙ ap reported are.doubts)) ∙ e)

-- Where 0 is answered

record IsWritten (large : Option Tid) (l : Listed) (file : List ℕ) : Type 0 where
  none_large : large ≡ None
  few : (tree_for l).blocks ≤ 65536
  written : made_unless large l file ≡ index_written l

written_by : (large : Option Tid) (l : Listed) (file : List ℕ) → (made_unless large l file).code ≡ 0 → IsWritten large l file
written_by (Some tid) l file e = absurd (omega (arith, e))
written_by None l file e = go (nat_lt 65536 (tree_for l).blocks) refl
  where
    go : (many : Bool) → nat_lt 65536 (tree_for l).blocks ≡ many → IsWritten None l file
    go true is = let refused = ap (λ (o : Outcome). o.code) (sym (cond-true _ _ _ is)) ∙ e in absurd (omega (arith, refused))
    go false is = record { none_large = refl; few = ltb-false 65536 (tree_for l).blocks is; written = cond-false _ _ _ is }

made_written : (l : Listed) (file : List ℕ) → (index_made l file).code ≡ 0 → ((tree_for l).blocks ≤ 65536) × (index_made l file ≡ index_written l)
unfolding index_made
made_written l file e = let w = written_by (large_tid l) l file e in (w.few, w.written)

made_small : (l : Listed) (file : List ℕ) → (index_made l file).code ≡ 0 → large_tid l ≡ None
unfolding index_made
made_small l file e = (written_by (large_tid l) l file e).none_large

-- and it is, where no key is too large and the blocks aren't too many
few_written : (large : Option Tid) (l : Listed) (file : List ℕ) → large ≡ None → (tree_for l).blocks ≤ 65536 → (made_unless large l file).code ≡ 0
few_written (Some tid) l file small few = absurd cc
few_written None l file small few = ap (λ (o : Outcome). o.code) (cond-false (nat_lt 65536 (tree_for l).blocks) _ _ (le-ltb 65536 (tree_for l).blocks few))

few_made : (l : Listed) (file : List ℕ) → large_tid l ≡ None → (tree_for l).blocks ≤ 65536 → (index_made l file).code ≡ 0
unfolding index_made
few_made l file small few = few_written (large_tid l) l file small few

-- Keys that are too large

module _ (specs : List KeySpec) (more : List MoreSpec) where
  abbrev large : List LeafEntry → List Tid
  large es = tids_of (filter (is_too_large specs more) es)

  small_none : (es : List LeafEntry) → All (λ e. is_too_large specs more e ≡ false) es → large_among specs more es ≡ None
  small_none [] small = refl
  small_none (e ∷ es) small =
      ap (λ (b : Bool). lowest_tid (tids_of (if b then e ∷ filter (is_too_large specs more) es else filter (is_too_large specs more) es))) (All-head (λ d. is_too_large specs more d ≡ false) e es small)
      ∙ small_none es (All-tail (λ d. is_too_large specs more d ≡ false) e es small)

  none_small : (es : List LeafEntry) → large_among specs more es ≡ None → All (λ e. is_too_large specs more e ≡ false) es
  none_small [] none = All-nil (λ d. is_too_large specs more d ≡ false)
  none_small (e ∷ es) none = by (is_too_large specs more e) refl none (λ rest. none_small es rest)
    where
      by : (b : Bool) → is_too_large specs more e ≡ b
          → lowest_tid (tids_of (if b then e ∷ filter (is_too_large specs more) es else filter (is_too_large specs more) es)) ≡ None
          → (large_among specs more es ≡ None → All (λ d. is_too_large specs more d ≡ false) es) → All (λ d. is_too_large specs more d ≡ false) (e ∷ es)
      by true is some rest = absurd cc
      by false is low rest = All-cons (λ d. is_too_large specs more d ≡ false) e es is (rest low)

module _ (case : CaseRecord) (names : Names) (n : ℕ) (lists : Lists) where
  made_by : MayBeMade names case n → is_quiet lists ≡ true → (index_shown names case n).code ≡ 0 → IsMade case names n lists
  unfolding index_shown
  made_by may quiet e =
      let l = rows_listed case names n in
      let file = (index_of case n).file in
      let both = quiet_code (doubts_of case names n) (index_made l file) e in
      let made = made_written l file both.1 in
      record {
        quiet = quiet;
        listed = quiet_listed case names n both.0;
        indexable = may;
        few = made.0;
        bytes = ap (λ (o : Outcome). o.bytes) (cond-true (is_quiet (doubts_of case names n)) (index_made l file) _ both.0 ∙ made.1);
      }

  -- where no row is in doubt, no key is too large and the blocks aren't too many, 0 is owed
  made_owed : HasNonePacked case names n → AreSmall (rows_listed case names n) → (tree_for (rows_listed case names n)).blocks ≤ 65536 → (index_shown names case n).code ≡ 0
  unfolding index_shown
  made_owed none small few =
      let l = rows_listed case names n in
      let file = (index_of case n).file in
      let doubts = doubts_are case n names in
      let quiet : is_quiet (doubts_of case names n) ≡ true =
      empty_quiet (doubts_of case names n) (record { findings = doubts.none_found; unjudged = none_of (doubts_of case names n).unjudged doubts.sound (λ u. none u.reason u.place) }) in
      quiet_owes (doubts_of case names n) (index_made l file) quiet (few_made l file (small_none l.specs l.more l.entries small) few)

  -- and where it is, that is so
  owed_small : (index_shown names case n).code ≡ 0 → HasNonePacked case names n × AreSmall (rows_listed case names n)
  unfolding index_shown
  owed_small e =
      let l = rows_listed case names n in
      let file = (index_of case n).file in
      let both = quiet_code (doubts_of case names n) (index_made l file) e in
      let empty = quiet_empty (doubts_of case names n) both.0 in
      let doubts = doubts_are case n names in
      (λ reason place doubt. none-in _ (doubts_of case names n).unjudged empty.unjudged (doubts.complete reason place doubt), none_small l.specs l.more l.entries (made_small l file both.1))

-- words that are a command's
pub named_remade : (case name file other : List ℕ) (names : Names) → MayBeRemade case name names → Some (Reindex case name) ≡ Some (Reindex file other) → MayBeRemade file other names
named_remade case name file other names may same =
    let a : case ≡ file = cc in
    let b : name ≡ other = cc in
    subst (λ (f : List ℕ). MayBeRemade f other names) a (subst (λ (n : List ℕ). MayBeRemade case n names) b may)

-- What a run is worth

module _ (laws : AreLaws) (file name : List ℕ) (case : CaseRecord) (names : Names) (n : ℕ) (lists : Lists) (meant : case_in file names ≡ Ok case) (numbered : index_named case.indexes name ≡ Some n)
    (e : heap_judged file names ≡ Ok lists) where
  -- what it owes
  owed : reindex_outcome file name names ≡ report_or lists (index_shown names case n)
  owed =
      ap (case_reindexed name names) meant ∙ ap (numbered_reindexed names case) numbered
      ∙ ap (λ (j : Judged). judged_or j (index_shown names case n)) (judged_is file case names lists meant e)

  reindex_by : (old new : Option (List ℕ)) (code : ℕ) → Meets (report_or lists (index_shown names case n)) old new code → (code ≡ 0 → MayBeMade names case n)
      → IsReindex file case names n lists old new code
  reindex_by old new code meets may = record {
    written = meets;
    sound = sound_report laws (Heap file) names lists e;
    complete = complete_report laws (Heap file) names lists e;
    rows = rows_live file case names lists meant e laws;
    made = λ nought.
        let both = quiet_code lists (index_shown names case n) (owed_code (report_or lists (index_shown names case n)) old new code meets nought) in
        made_by case names n lists (may nought) both.0 both.1;
    doubts = doubts_are case n names;
    clean = λ nothing sure none small few.
        nought_or (report_or lists (index_shown names case n)) old new code meets
        (quiet_owes lists (index_shown names case n) (kept_quiet (Heap file) names lists (sound_report laws (Heap file) names lists e) nothing sure) (made_owed case names n lists none small few));
    whole = λ nought.
        let both = quiet_code lists (index_shown names case n) (owed_code (report_or lists (index_shown names case n)) old new code meets nought) in
        let kept = quiet_kept laws (Heap file) names lists e both.0 in
        let rows = owed_small case names n lists both.1 in
        (kept.0, kept.1, rows.0, rows.1);
    truth = λ nought.
        quiet_true laws file names lists e (quiet_code lists (index_shown names case n) (owed_code (report_or lists (index_shown names case n)) old new code meets nought)).0;
  }

  -- a run that was to write
  pub reindex_worth : (form : Form) (o : Outcome) → Some form ≡ Some (Reindex file name) → o ≡ outcome_of form names → (o.code ≡ 0 → MayBeRemade file name names)
      → (old new : Option (List ℕ)) (code : ℕ) → Meets o old new code → IsReindex file case names n lists old new code
  reindex_worth form o asked is may old new code meets =
      let form_is : form ≡ Reindex file name = cc in
      reindex_by old new code (subst (λ (p : Outcome). Meets p old new code) (is ∙ ap (λ (f : Form). outcome_of f names) form_is ∙ owed) meets)
      (λ nought. may (owed_code o old new code meets nought) case n meant numbered)

  -- and one that gave up before it wrote
  pub given_up_reindex : (old new : Option (List ℕ)) (code : ℕ) → (code ≡ 7) ⊎ (code ≡ 9) → IsReindex file case names n lists old new code
  given_up_reindex old new code gave =
      reindex_by old new code (gave_up (report_or lists (index_shown names case n)) old new code gave) (λ nought. absurd (not_nought code gave nought))
    where
      not_nought : (code : ℕ) → (code ≡ 7) ⊎ (code ≡ 9) → code ≢ 0
      not_nought code (inl seven) nought = absurd (omega (arith, seven, nought))
      not_nought code (inr nine) nought = absurd (omega (arith, nine, nought))

-- Indexes that were judged by themselves, one after the other, and then beside the heap.
use Rattle.std.proofs.Common.{◌≡◌, ◌∙◌, ℕ, Bor, Bool, true, false, List, [], ◌∷◌, ◌++◌, refl, ap, sym, subst, append-nil, arith, length}
use Rattle.std.specs.Prelude.{◌↔◌, All, IfSome, IsSome, Option, Some, None, drop, is_some, map, slice_index_or, ◌&&◌}
use Rattle.std.specs.Option.{option_copied, option_to_list}
use Rattle.std.proofs.lemmas.List.Elements.{All-nil, All-push}
use Rattle.outside.specs.Outside.{IfTold, Names, Seen}
use Rattle.case_file.specs.Record.{CaseRecord}
use Rattle.reports.specs.Added.{joined, nothing, report_lists}
use Rattle.reports.specs.Lists.{Lists}
use Rattle.heap_table_check.specs.Files.{IsSoundHeapOf}
use Rattle.heap_table_check.specs.Found.{IsQuiet, case_found}
use Rattle.heap_table_check.specs.declared.files.SoundHeap.{SoundHeap}
use Rattle.bt_pages.specs.Broken.{AreEmpty}
use Rattle.bt_levels.specs.Files.{IsFileOf, number_of}
use Rattle.bt_levels.specs.Index.{tree_lists}
use Rattle.bt_levels.specs.Lists.{is_quiet, lists_where}
use Rattle.bt_levels.specs.Sound.{HoldsTree, IsSoundIndexOf, file_of}
use Rattle.bt_levels.specs.declared.files.TreeFile.{TreeFile}
use Rattle.bt_levels.specs.declared.sound.SoundTree.{SoundTree}
use Rattle.bt_levels.proofs.LevelLaws.{empty_quiet, quiet_empty}
use Rattle.join_rules.specs.Lists.{indexed_lists}
use Rattle.join_row_keys.specs.declared.joined.IndexedTable.{IndexedTable}
use Rattle.heap_indexed.specs.Meetings.{HoldIt}
use Rattle.cmd_run.specs.Numbered.{join_found}
use Rattle.cmd_run.specs.Tables.{IsHeapOf, IsTreeOf, trees_found}
use Rattle.cmd_run.specs.Together.{AreAlone, WereJudged, WerePut, found_with, is_quiet_tree, joint_lists, own_of, quiet_numbers, tree_number, with_number}
use Rattle.cmd_run.specs.declared.together.Alone.{Alone}
use Rattle.cmd_run.specs.declared.together.OwnReport.{OwnReport}
use Rattle.cmd_run.proofs.NumberedLaws.{quiet_from, quiet_is}

-- One index more

module _ (case : CaseRecord) (names : Names) (file : TreeFile) where
  -- its tree is there exactly where nothing is found of it
  pub there-where-quiet : (tree : Option SoundTree) → IsTreeOf case names (number_of file) tree → is_some tree ≡ is_quiet_tree case names file
  there-where-quiet (Some tree) is = sym (empty_quiet (tree_lists case names (number_of file)) (is.quiet.0 refl))
  there-where-quiet None is = sym (not_true (is_quiet_tree case names file) (λ e. no_some (is.quiet.1 (quiet_empty (tree_lists case names (number_of file)) e))))
    where
      not_true : (b : Bool) → (b ≡ true → ⊥) → b ≡ false
      not_true true never = absurd (never refl)
      not_true false never = refl

      no_some : IsSome {T = SoundTree} None → ⊥
      no_some e = cc

  -- and has its number
  pub number-where-quiet : (tree : Option SoundTree) → IfSome tree (IsSoundIndexOf case (number_of file)) → (quiet : Bool) → is_some tree ≡ quiet → map tree_number (option_to_list tree) ≡ with_number quiet (number_of file) []
  number-where-quiet (Some tree) of true e = λ i. of.number i ∷ []
  number-where-quiet (Some tree) of false e = absurd cc
  number-where-quiet None of true e = absurd cc
  number-where-quiet None of false e = refl

  pub held-where-quiet : (tree : Option SoundTree) → IsTreeOf case names (number_of file) tree → All (λ (t : SoundTree). IsFileOf case names (file_of t) × HoldsTree names t) (option_to_list tree)
  held-where-quiet (Some tree) is =
      All-push (λ (t : SoundTree). IsFileOf case names (file_of t) × HoldsTree names t) [] tree (All-nil (λ (t : SoundTree). IsFileOf case names (file_of t) × HoldsTree names t)) (is.file, is.held)
  held-where-quiet None is = All-nil (λ (t : SoundTree). IsFileOf case names (file_of t) × HoldsTree names t)

pub belongs-where-quiet : (case : CaseRecord) (file : TreeFile) (tree : Option SoundTree) → IfSome tree (IsSoundIndexOf case (number_of file)) → All (λ (t : SoundTree). IsSoundIndexOf case (tree_number t) t) (option_to_list tree)
belongs-where-quiet case file (Some tree) of =
    All-push (λ (t : SoundTree). IsSoundIndexOf case (tree_number t) t) [] tree (All-nil (λ (t : SoundTree). IsSoundIndexOf case (tree_number t) t))
    (subst (λ (n : ℕ). IsSoundIndexOf case n tree) (sym of.number) of)
belongs-where-quiet case file None of = All-nil (λ (t : SoundTree). IsSoundIndexOf case (tree_number t) t)

number-before : (quiet : Bool) (n : ℕ) (ns ms : List ℕ) → with_number quiet n (ns ++ ms) ≡ with_number quiet n ns ++ ms
number-before true n ns ms = refl
number-before false n ns ms = refl

pub quiet-push : (case : CaseRecord) (names : Names) (files : List TreeFile) (file : TreeFile) → quiet_numbers case names (files ++ file ∷ []) ≡ quiet_numbers case names files ++ with_number (is_quiet_tree case names file) (number_of file) []
quiet-push case names [] file = refl
quiet-push case names (f ∷ files) file =
    ap (with_number (is_quiet_tree case names f) (number_of f)) (quiet-push case names files file)
    ∙ number-before (is_quiet_tree case names f) (number_of f) (quiet_numbers case names files) (with_number (is_quiet_tree case names file) (number_of file) [])

-- All of them

pub one-by-one : (case : CaseRecord) (names : Names) (heap : Bool) (files : List TreeFile) → heap ≡ is_quiet (case_found case names) → found_with case names heap files ≡ trees_found case names files
unfolding join_found
one-by-one case names heap [] is = refl
one-by-one case names heap (file ∷ files) is =
    λ i. joined (joined (tree_lists case names (number_of file)) (lists_where (is i && is_quiet_tree case names file) (indexed_lists case names (number_of file)))) (one-by-one case names heap files is i)

pub heap-where-quiet : (case : CaseRecord) (names : Names) (heap : Option SoundHeap) → IsHeapOf case names heap → is_some heap ≡ is_quiet (case_found case names)
heap-where-quiet case names (Some heap) is = sym (quiet_from case names (is.quiet.0 refl))
heap-where-quiet case names None is = sym (not_true (is_quiet (case_found case names)) (λ e. no_some (is.quiet.1 (quiet_is case names e))))
  where
    not_true : (b : Bool) → (b ≡ true → ⊥) → b ≡ false
    not_true true never = absurd (never refl)
    not_true false never = refl

    no_some : IsSome {T = SoundHeap} None → ⊥
    no_some e = cc

-- What came of judging by itself

module _ {S : Type 0} (seen : S → Seen) (files : S) (case : CaseRecord) (names : Names) (told : (seen files).held ≡ Some names) where
  -- the heap
  pub heap-judged : (heap : Option SoundHeap) → (IsSome heap ↔ IsQuiet case names) → IfSome heap (λ sound. IfTold seen files (λ ns. IsSoundHeapOf case ns sound)) → IsHeapOf case names heap
  heap-judged None quiet sound = record { quiet = quiet; sound = record {} }
  heap-judged (Some heap) quiet sound = record { quiet = quiet; sound = sound names told }

  -- index n
  pub tree-judged : (n : ℕ) (tree : Option SoundTree) → (IsSome tree ↔ AreEmpty (tree_lists case names n)) → IfSome tree (λ sound. IfTold seen files (λ ns. IsFileOf case ns (file_of sound)))
      → IfSome tree (λ sound. IfTold seen files (λ ns. HoldsTree ns sound)) → IsTreeOf case names n tree
  tree-judged n None quiet file held = record { quiet = quiet; file = record {}; held = record {} }
  tree-judged n (Some tree) quiet file held = record { quiet = quiet; file = file names told; held = held names told }

-- One report more

module _ (case : CaseRecord) (names : Names) (heap : Bool) (start : Lists) (all : List TreeFile) (alone : Alone) (own : OwnReport) (joint joint' : List Lists) (now next : Lists) where
  pub put-step : (left : List TreeFile) → own ∷ alone.own.items ≡ map (own_of case names) left → joint ≡ joint_lists case names heap (quiet_numbers case names left) → joined now (found_with case names heap left) ≡ joined start (found_with case names heap all)
      → ((heap && own.is_sound) ≡ false → (next ≡ joined now own.report) × (joint' ≡ joint))
      → ((first : Lists) (rest : List Lists) → (heap && own.is_sound) ≡ true → joint ≡ first ∷ rest → (next ≡ joined (joined now own.report) first) × (joint' ≡ rest))
      → WerePut case names heap all alone joint' start next
  put-step [] is beside put single both = absurd cc
  put-step (file ∷ files) is beside put single both =
      let head : own ≡ own_of case names file = ap (λ (os : List OwnReport). slice_index_or os 0 own) is in
      let rest : alone.own.items ≡ map (own_of case names) files = ap (λ (os : List OwnReport). drop 1 os) is in
      by heap (is_quiet_tree case names file) refl refl head rest
    where
      tree : Lists
      tree = tree_lists case names (number_of file)

      more : Lists
      more = indexed_lists case names (number_of file)

      apart : (heap && own.is_sound) ≡ false → (heap && is_quiet_tree case names file) ≡ false → joint ≡ joint_lists case names heap (quiet_numbers case names files) → own ≡ own_of case names file → alone.own.items ≡ map (own_of case names) files → WerePut case names heap all alone joint' start next
      apart none loud here head rest =
          let done = single none in
          record {
            left = files;
            own = rest;
            beside = done.1 ∙ here;
            put =
                ap (λ (l : Lists). joined l (found_with case names heap files)) (done.0 ∙ ap (λ (o : OwnReport). joined now o.report) head ∙ ap (joined now) (sym (report_lists.with_none tree)))
                ∙ report_lists.in_turn now (joined tree nothing) (found_with case names heap files)
                ∙ (λ i. joined now (joined (joined tree (lists_where (sym loud i) more)) (found_with case names heap files))) ∙ put;
          }

      by : (h q : Bool) → heap ≡ h → is_quiet_tree case names file ≡ q → own ≡ own_of case names file → alone.own.items ≡ map (own_of case names) files → WerePut case names heap all alone joint' start next
      by true true hs qs head rest =
          let sound : (heap && own.is_sound) ≡ true = λ i. hs i && (ap (λ (o : OwnReport). o.is_sound) head ∙ qs) i in
          let here : joint ≡ more ∷ joint_lists case names heap (quiet_numbers case names files) =
          beside ∙ (λ i. joint_lists case names (hs i) (with_number (qs i) (number_of file) (quiet_numbers case names files))) ∙ ap (λ (b : Bool). more ∷ joint_lists case names b (quiet_numbers case names files)) (sym hs) in
          let done = both more (joint_lists case names heap (quiet_numbers case names files)) sound here in
          record {
            left = files;
            own = rest;
            beside = done.1;
            put =
                ap (λ (l : Lists). joined l (found_with case names heap files)) (done.0 ∙ ap (λ (o : OwnReport). joined (joined now o.report) more) head ∙ report_lists.in_turn now tree more)
                ∙ report_lists.in_turn now (joined tree more) (found_with case names heap files)
                ∙ (λ i. joined now (joined (joined tree (lists_where (sym hs i && sym qs i) more)) (found_with case names heap files))) ∙ put;
          }
      by true false hs qs head rest = apart (λ i. hs i && (ap (λ (o : OwnReport). o.is_sound) head ∙ qs) i) (λ i. hs i && qs i) (beside ∙ (λ i. joint_lists case names heap (with_number (qs i) (number_of file) (quiet_numbers case names files)))) head rest
      by false true hs qs head rest = apart (λ i. hs i && own.is_sound) (λ i. hs i && is_quiet_tree case names file) (beside ∙ (λ i. joint_lists case names (hs i) (with_number (is_quiet_tree case names file) (number_of file) (quiet_numbers case names files))) ∙ ap (λ (b : Bool). joint_lists case names b (quiet_numbers case names files)) (sym hs)) head rest
      by false false hs qs head rest = apart (λ i. hs i && own.is_sound) (λ i. hs i && is_quiet_tree case names file) (beside ∙ (λ i. joint_lists case names (hs i) (with_number (is_quiet_tree case names file) (number_of file) (quiet_numbers case names files))) ∙ ap (λ (b : Bool). joint_lists case names b (quiet_numbers case names files)) (sym hs)) head rest

-- The indexes beside the heap

pub hold-beside : (case : CaseRecord) (names : Names) (at : IndexedTable) (heap : Option SoundHeap) → heap ≡ Some at.heap.now → IsHeapOf at.case.now names heap
    → All (λ (t : SoundTree). IsFileOf at.case.now names (file_of t) × HoldsTree names t) at.trees.now → HoldIt names at
hold-beside case names at heap is of held =
    let table : IsHeapOf at.case.now names (Some at.heap.now) = subst (IsHeapOf at.case.now names) is of in
    record {
      heap = table.sound;
      quiet = table.quiet.0 refl;
      each = λ k t lt. record { heap = table.sound; quiet = table.quiet.0 refl; file = (held k t lt).0; tree = (held k t lt).1 };
    }

pub all-beside : (case : CaseRecord) (names : Names) (trees : List SoundTree) → map (λ (t : SoundTree). indexed_lists case names (tree_number t)) trees ≡ joint_lists case names true (map tree_number trees)
all-beside case names [] = refl
all-beside case names (t ∷ trees) = ap (λ (ls : List Lists). indexed_lists case names (tree_number t) ∷ ls) (all-beside case names trees)

-- At the end

pub all-judged : (case : CaseRecord) (names : Names) (all left : List TreeFile) (alone : Alone) → left ≡ [] → WereJudged case names all left alone → AreAlone case names all alone
all-judged case names all left alone none were =
    subst (λ (ts : List TreeFile). AreAlone case names ts alone) (sym (were.is ∙ ap (λ (ts : List TreeFile). were.done ++ ts) none ∙ append-nil were.done)) were.were

pub none-of : {X : Type 0} (xs : List X) (n : ℕ) → n ≡ length xs → n ≡ 0 → xs ≡ []
none-of [] n is none = refl
none-of (x ∷ xs) n is none = absurd (omega (arith, is, none))

pub some-copied : {T : Type 0} (o : Option (Bor T)) → is_some (option_copied o) ≡ is_some o
some-copied None = refl
some-copied (Some x) = refl

pub joined-all : (case : CaseRecord) (names : Names) (heap : Option SoundHeap) (files : List TreeFile) (b : Bool) (old new : Lists) → IsHeapOf case names heap → b ≡ is_some heap → new ≡ joined old (found_with case names b files) → new ≡ joined old (trees_found case names files)
joined-all case names heap files b old new of is added =
    added ∙ ap (joined old) (one-by-one case names b files (is ∙ heap-where-quiet case names heap of))

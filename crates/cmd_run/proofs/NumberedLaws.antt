-- What the lists of one index tell, by itself and beside the heap.
use Rattle.std.proofs.Common.{◌≡◌, ◌∙◌, ◌⊎◌, ℕ, Bool, true, false, inl, inr, refl, ap, sym, subst}
use Rattle.std.specs.Prelude.{Option}
use Rattle.std.specs.List.{All}
use Rattle.std.proofs.lemmas.Bool.{and_from, and_left, and_parts, and_right}
use Rattle.std.proofs.lemmas.List.Elements.{All-append, All-contains, All-nil, All-weaker, Contains-append_left, Contains-append_right}
use Rattle.outside.specs.Outside.{Names}
use Rattle.page_layout.specs.declared.rules.Rule.{Rule}
use Rattle.case_file.specs.Record.{CaseRecord}
use Rattle.reports.specs.Added.{IsListed, found, in_doubt, nothing}
use Rattle.reports.specs.Lists.{Lists}
use Rattle.reports.specs.declared.places.Finding.{Finding}
use Rattle.reports.specs.declared.places.Place.{Place}
use Rattle.reports.specs.declared.places.Reason.{Reason}
use Rattle.reports.specs.declared.places.Rel.TheVariants.{Index}
use Rattle.reports.specs.declared.places.UnjudgedPlace.{UnjudgedPlace}
use Rattle.reports.proofs.Parts.{first_is_empty, second_is_empty}
use Rattle.heap_page_check.proofs.PageLaws.{no_members, none_listed}
use Rattle.heap_table_check.specs.Broken.{Breaks as BreaksTable, Doubts as DoubtsTable}
use Rattle.heap_table_check.specs.Found.{IsQuiet, case_found, doubts_of, findings_of}
use Rattle.heap_table_check.proofs.TrueLaws.{case_is_judged}
use Rattle.bt_pages.specs.Broken.{AreEmpty, BreaksBlock, IsDoubtedAt, alone, doubted, IsFoundAt, found as found_there, item, siblings}
use Rattle.bt_pages.specs.Trees.{Tree}
use Rattle.bt_levels.specs.Broken.{Breaks as BreaksTree, Doubts as DoubtsTree, IsBehind as IsTreeBehind, IsJudged as IsTreeJudged, IsTrueTree}
use Rattle.bt_levels.specs.Broken.{BreaksPages, BreaksTree as BreaksAnyTree, bad_places, bad_root, in_block, in_pages, long_segment, no_blocks, no_metapage, on_levels, other_layout, stray_byte, unknown_flag}
use Rattle.bt_levels.specs.Index.{tree_lists, tree_of}
use Rattle.bt_levels.specs.Lists.{is_quiet, lists_where}
use Rattle.bt_levels.proofs.LevelLaws.{empty_quiet, quiet_empty}
use Rattle.join_rules.specs.Broken.{AreJoined, Breaks as BreaksJoin, Doubts as DoubtsJoin, IsJudged as IsJoinJudged}
use Rattle.join_rules.specs.Lists.{indexed_lists}
use Rattle.join_rules.specs.Unique.{AreUnique}
use Rattle.cmd_run.specs.Laws.{AreLaws}
use Rattle.cmd_run.specs.Numbered.{BreaksNumbered, DoubtsNumbered, IsBehind, KeepsTable, KeepsTree, are_quiet, beside_heap, file_at, in_tree, join_found, numbered_found}

-- Lists of which nothing is found

pub quiet_is : (case : CaseRecord) (names : Names) → is_quiet (case_found case names) ≡ true → IsQuiet case names
quiet_is case names e =
    let empty = quiet_empty (case_found case names) e in
    record { findings = empty.findings; doubts = empty.unjudged }

pub quiet_from : (case : CaseRecord) (names : Names) → IsQuiet case names → is_quiet (case_found case names) ≡ true
quiet_from case names quiet = empty_quiet (case_found case names) (record { findings = quiet.findings; unjudged = quiet.doubts })

-- What is found where one of the two isn't quiet, and where both are

module _ (case : CaseRecord) (names : Names) (n : ℕ) where
  none_joined : are_quiet case names n ≡ false → join_found case names n ≡ nothing
  unfolding join_found
  none_joined e = ap (λ (b : Bool). lists_where b (indexed_lists case names n)) e

  pub loud_table : (IsQuiet case names → ⊥) → join_found case names n ≡ nothing
  loud_table loud =
      none_joined (and_left (is_quiet (case_found case names)) (is_quiet (tree_lists case names n))
      (not_true_is (is_quiet (case_found case names)) (λ e. loud (quiet_is case names e))))
    where
      not_true_is : (b : Bool) → (b ≡ true → ⊥) → b ≡ false
      not_true_is true never = absurd (never refl)
      not_true_is false never = refl

  pub loud_tree : (AreEmpty (tree_lists case names n) → ⊥) → join_found case names n ≡ nothing
  loud_tree loud =
      none_joined (and_right (is_quiet (case_found case names)) (is_quiet (tree_lists case names n))
      (not_true_is (is_quiet (tree_lists case names n)) (λ e. loud (quiet_empty (tree_lists case names n) e))))
    where
      not_true_is : (b : Bool) → (b ≡ true → ⊥) → b ≡ false
      not_true_is true never = absurd (never refl)
      not_true_is false never = refl

  pub both_quiet : IsQuiet case names → AreEmpty (tree_lists case names n) → join_found case names n ≡ indexed_lists case names n
  unfolding join_found
  both_quiet quiet empty =
      ap (λ (b : Bool). lists_where b (indexed_lists case names n))
      (and_from (is_quiet (case_found case names)) (is_quiet (tree_lists case names n)) (quiet_from case names quiet) (empty_quiet (tree_lists case names n) empty))

-- The file that a place of a tree is in

in_block_file : (tree : Tree) (b : ℕ) (rule : Rule) (place : Place) → BreaksBlock tree b rule place → file_at place ≡ Index tree.number
in_block_file tree b _ _ (alone rule asked broken) = refl
in_block_file tree b _ _ (siblings judged broken) = refl
in_block_file tree b _ _ (item i rule judged asked broken) = refl

in_pages_file : (tree : Tree) (long : Option ℕ) (rule : Rule) (place : Place) → BreaksPages tree long rule place → file_at place ≡ Index tree.number
in_pages_file tree long _ _ (long_segment k is) = refl
in_pages_file tree long _ _ (no_blocks is) = refl
in_pages_file tree long _ _ (other_layout some is) = refl
in_pages_file tree long _ _ (unknown_flag some is) = refl
in_pages_file tree long _ _ (bad_places some is) = refl
in_pages_file tree long _ _ (stray_byte some is) = refl
in_pages_file tree long _ _ (no_metapage some is) = refl
in_pages_file tree long _ _ (bad_root some version is) = refl
in_pages_file tree long _ _ (in_block b rule place other broken) = in_block_file tree b rule place broken

in_tree_file : (tree : Tree) (long : Option ℕ) (rule : Rule) (place : Place) → BreaksAnyTree tree long rule place → file_at place ≡ Index tree.number
in_tree_file tree long _ _ (in_pages rule place broken) = in_pages_file tree long rule place broken
in_tree_file tree long _ _ (on_levels rule b keeps broken) = refl

module _ (laws : AreLaws) (case : CaseRecord) (names : Names) (n : ℕ) where
  tree : IsTreeJudged case names n
  tree = laws.trees case names n

  join : IsJoinJudged case names n
  join = laws.joins case names n

  abbrev Broken : Finding → Type 0
  Broken f = BreaksNumbered case names n f.rule f.place

  abbrev Doubted : UnjudgedPlace → Type 0
  Doubted u = DoubtsNumbered case names n u.reason u.place

  -- Lists without members are those of files that keep their rules, and the other way round

  keeps_table : IsQuiet case names → KeepsTable case names
  keeps_table quiet = record {
    unbroken = λ rule place broken. none_listed (case_found case names) place quiet.findings quiet.doubts ((case_is_judged case names).listed rule place broken);
    certain = λ reason place doubt. none_listed (case_found case names) place quiet.findings quiet.doubts ((case_is_judged case names).doubts_listed reason place doubt);
  }

  table_quiet : KeepsTable case names → IsQuiet case names
  table_quiet keeps = record {
    findings = no_members (λ f. BreaksTable case names f.rule f.place) (findings_of case names) (case_is_judged case names).sound (λ f broken. keeps.unbroken f.rule f.place broken);
    doubts = no_members (λ u. DoubtsTable case names u.reason u.place) (doubts_of case names) (case_is_judged case names).doubts (λ u doubt. keeps.certain u.reason u.place doubt);
  }

  none_in_tree : AreEmpty (tree_lists case names n) → (rule : Rule) (place : Place)
      → IsFoundAt (tree_lists case names n) place ⊎ IsTreeBehind (tree_lists case names n) rule → ⊥
  none_in_tree empty rule place (inl (found_there broken has)) = none_listed (tree_lists case names n) place empty.findings empty.unjudged (found broken has)
  none_in_tree empty rule place (inr behind) =
      none_listed (tree_lists case names n) behind.first.place empty.findings empty.unjudged (found behind.first.rule behind.found)

  no_doubt_in_tree : AreEmpty (tree_lists case names n) → (place : Place) → IsDoubtedAt (tree_lists case names n) place → ⊥
  no_doubt_in_tree empty place (doubted reason has) = none_listed (tree_lists case names n) place empty.findings empty.unjudged (in_doubt reason has)

  pub keeps_tree : AreEmpty (tree_lists case names n) → KeepsTree case names n
  keeps_tree empty = record {
    unbroken = λ rule place broken. none_in_tree empty rule place (tree.listed rule place broken);
    certain = λ reason place doubt. no_doubt_in_tree empty place (tree.doubted reason place doubt);
  }

  pub tree_empty : KeepsTree case names n → AreEmpty (tree_lists case names n)
  tree_empty keeps = record {
    findings = no_members (λ f. BreaksTree case names n f.rule f.place) (tree_lists case names n).findings tree.sound (λ f broken. keeps.unbroken f.rule f.place broken);
    unjudged = no_members (λ u. DoubtsTree case names n u.reason u.place) (tree_lists case names n).unjudged tree.doubts (λ u doubt. keeps.certain u.reason u.place doubt);
  }

  -- What is listed is broken or in doubt

  joined_broken : (quiet : Bool) → are_quiet case names n ≡ quiet → All Broken (lists_where quiet (indexed_lists case names n)).findings
  joined_broken false is = All-nil Broken
  joined_broken true is =
      let parts = and_parts (is_quiet (case_found case names)) (is_quiet (tree_lists case names n)) is in
      All-weaker (λ f. BreaksJoin case names n f.rule f.place) Broken
      (λ f broken. beside_heap (keeps_table (quiet_is case names parts.0)) (keeps_tree (quiet_empty (tree_lists case names n) parts.1)) broken)
      (indexed_lists case names n).findings join.sound

  joined_doubts : (quiet : Bool) → are_quiet case names n ≡ quiet → All Doubted (lists_where quiet (indexed_lists case names n)).unjudged
  joined_doubts false is = All-nil Doubted
  joined_doubts true is =
      let parts = and_parts (is_quiet (case_found case names)) (is_quiet (tree_lists case names n)) is in
      All-weaker (λ u. DoubtsJoin case names n u.reason u.place) Doubted
      (λ u doubt. beside_heap (keeps_table (quiet_is case names parts.0)) (keeps_tree (quiet_empty (tree_lists case names n) parts.1)) doubt)
      (indexed_lists case names n).unjudged join.doubts

  pub numbered_sound : All Broken (numbered_found case names n).findings
  unfolding join_found
  numbered_sound =
      All-append Broken (tree_lists case names n).findings (lists_where (are_quiet case names n) (indexed_lists case names n)).findings
      (All-weaker (λ f. BreaksTree case names n f.rule f.place) Broken (λ f broken. in_tree broken) (tree_lists case names n).findings tree.sound)
      (joined_broken (are_quiet case names n) refl)

  pub numbered_doubts : All Doubted (numbered_found case names n).unjudged
  unfolding join_found
  numbered_doubts =
      All-append Doubted (tree_lists case names n).unjudged (lists_where (are_quiet case names n) (indexed_lists case names n)).unjudged
      (All-weaker (λ u. DoubtsTree case names n u.reason u.place) Doubted (λ u doubt. in_tree doubt) (tree_lists case names n).unjudged tree.doubts)
      (joined_doubts (are_quiet case names n) refl)

  -- What is broken or in doubt is listed

  in_first : (place : Place) → IsFoundAt (tree_lists case names n) place → IsListed (numbered_found case names n) place
  in_first place (found_there rule has) = found rule (Contains-append_left (tree_lists case names n).findings (join_found case names n).findings _ has)

  in_second : (place : Place) → IsFoundAt (join_found case names n) place → IsListed (numbered_found case names n) place
  in_second place (found_there rule has) = found rule (Contains-append_right (tree_lists case names n).findings (join_found case names n).findings _ has)

  doubt_in_first : (place : Place) → IsDoubtedAt (tree_lists case names n) place → IsListed (numbered_found case names n) place
  doubt_in_first place (doubted reason has) = in_doubt reason (Contains-append_left (tree_lists case names n).unjudged (join_found case names n).unjudged _ has)

  doubt_in_second : (place : Place) → IsDoubtedAt (join_found case names n) place → IsListed (numbered_found case names n) place
  doubt_in_second place (doubted reason has) = in_doubt reason (Contains-append_right (tree_lists case names n).unjudged (join_found case names n).unjudged _ has)

  -- the rule on levels that is found first is found in the same index
  behind_first : (rule : Rule) (place : Place) → BreaksTree case names n rule place → IsTreeBehind (tree_lists case names n) rule → IsBehind (numbered_found case names n) rule place
  behind_first rule place broken behind =
      let first = All-contains (λ f. BreaksTree case names n f.rule f.place) (tree_lists case names n).findings behind.first tree.sound behind.found in
      record {
        own = behind.own;
        first = behind.first;
        level = behind.level;
        found = Contains-append_left (tree_lists case names n).findings (join_found case names n).findings behind.first behind.found;
        same = in_tree_file (tree_of case names n) _ behind.first.rule behind.first.place first ∙ sym (in_tree_file (tree_of case names n) _ rule place broken);
      }

  pub numbered_listed : (rule : Rule) (place : Place) → BreaksNumbered case names n rule place
      → IsListed (numbered_found case names n) place ⊎ IsBehind (numbered_found case names n) rule place
  numbered_listed rule place (in_tree broken) = by (tree.listed rule place broken)
    where
      by : IsFoundAt (tree_lists case names n) place ⊎ IsTreeBehind (tree_lists case names n) rule
          → IsListed (numbered_found case names n) place ⊎ IsBehind (numbered_found case names n) rule place
      by (inl there) = inl (in_first place there)
      by (inr behind) = inr (behind_first rule place broken behind)
  numbered_listed rule place (beside_heap table keeps broken) =
      inl (in_second place (subst (λ (l : Lists). IsFoundAt l place) (sym (both_quiet case names n (table_quiet table) (tree_empty keeps))) (join.listed rule place broken)))

  pub numbered_doubt_listed : (reason : Reason) (place : Place) → DoubtsNumbered case names n reason place → IsListed (numbered_found case names n) place
  numbered_doubt_listed reason place (in_tree doubt) = doubt_in_first place (tree.doubted reason place doubt)
  numbered_doubt_listed reason place (beside_heap table keeps doubt) =
      doubt_in_second place (subst (λ (l : Lists). IsDoubtedAt l place) (sym (both_quiet case names n (table_quiet table) (tree_empty keeps))) (join.doubted reason place doubt))

  -- What holds where nothing is listed

  module _ (quiet : IsQuiet case names) (empty : AreEmpty (numbered_found case names n)) where
    own_empty : AreEmpty (tree_lists case names n)
    own_empty = record { findings = first_is_empty _ _ empty.findings; unjudged = first_is_empty _ _ empty.unjudged }

    pub numbered_tree : IsTrueTree (tree_of case names n)
    numbered_tree = tree.kept own_empty

    joint_empty : AreEmpty (indexed_lists case names n)
    joint_empty =
        let rest : AreEmpty (join_found case names n) =
        record { findings = second_is_empty (tree_lists case names n).findings _ empty.findings; unjudged = second_is_empty (tree_lists case names n).unjudged _ empty.unjudged } in
        subst AreEmpty (both_quiet case names n quiet own_empty) rest

    pub numbered_joined : AreJoined case names n
    numbered_joined = join.kept joint_empty

    pub numbered_unique : AreUnique case names n
    numbered_unique = join.unique joint_empty

-- What is known of a unique index and its heap, where each row has its entry.
use Rattle.std.proofs.Common.{◌≡◌, ◌∙◌, ◌<◌, ℕ, inl, inr, Bool, true, false, List, [], ◌∷◌, refl, ap, sym, subst, arith}
use Rattle.std.specs.Prelude.{All, AllPairs, Contains, Option, Some, cond, not, ◌⊎◌, ◌↔◌, nat_eq, nat_lt}
use Rattle.std.specs.List.{dedup, filter}
use Rattle.std.specs.List.Sorted.{IsPermutation, IsSorted}
use Rattle.std.specs.Ordering.{nat_cmp}
use Rattle.std.specs.declared.cmp.Ordering.TheVariants.{Equal}
use Rattle.std.proofs.lemmas.Bool.{both_ways, lt-ltb}
use Rattle.std.proofs.lemmas.Bool.Decides.{nat_tests}
use Rattle.std.proofs.lemmas.List.Elements.{All-contains}
use Rattle.std.proofs.lemmas.List.Sorted.{Contains-permutation, IsPermutation-sym}
use Rattle.outside.specs.Outside.{Names}
use Rattle.rel_files.specs.Relation.{count_of}
use Rattle.laws_search.specs.Keys.{Entry, Separator, compare_keys}
use Rattle.laws_search.specs.Search.{IsWanted, entries_of, is_wanted}
use Rattle.key_orders.specs.declared.columns.KeySpec.{KeySpec}
use Rattle.key_orders.specs.declared.columns.Value.{Value}
use Rattle.key_orders.specs.declared.Tid.{Tid}
use Rattle.key_orders.specs.Keys.{columns_of, tid_order}
use Rattle.key_orders.specs.Scans.{order_of}
use Rattle.case_file.specs.Record.{CaseRecord}
use Rattle.case_file.specs.Sound.{IsSound}
use Rattle.key_attrs.specs.Columns.{TreeColumns}
use Rattle.bt_levels.specs.declared.sound.SoundTree.{SoundTree}
use Rattle.bt_levels.specs.Files.{number_of}
use Rattle.bt_levels.specs.Sound.{file_of, image_of, index_columns, specs_of}
use Rattle.bt_steps.specs.Pages.{is_killed}
use Rattle.bt_steps.proofs.Members.{either-in, first-in, none-in, other-in}
use Rattle.bt_search.specs.Spots.{scan_on}
use Rattle.heap_table_check.specs.Case.{heap_blocks}
use Rattle.heap_table_check.specs.Files.{heap_in}
use Rattle.heap_rows.specs.RowLaws.{AreLiveTuples, IsBefore, IsRowOfTuple, RowsAreLive, TidsRise}
use Rattle.heap_rows.specs.Rows.{block_rows, heap_page, rows_of}
use Rattle.heap_rows.proofs.QuietHeap.{page_passes}
use Rattle.heap_rows.specs.declared.rows.LiveRow.{LiveRow}
use Rattle.join_rules.specs.Broken.{AreJoined}
use Rattle.join_rules.specs.Lists.{duplicates_lists}
use Rattle.join_rules.specs.Rows.{key_numbers, key_of, values_at}
use Rattle.join_rules.specs.Unique.{AreDuplicates, counts, unique_of}
use Rattle.join_rules.proofs.Duplicates.{is-second, with-earlier}
use Rattle.join_row_keys.specs.Joined.{BelongTogether, HoldTogether}
use Rattle.join_row_keys.proofs.Pages.{count-is, few-items}
use Rattle.case_file.specs.declared.case.Unique.{Unique}
use Rattle.join_row_keys.specs.declared.joined.IndexedHeap.{IndexedHeap}
use Rattle.join_unique.specs.declared.roots.Roots.{Roots}
use Rattle.join_unique.specs.Groups.{later_rows, tid_number}
use Rattle.join_unique.specs.Later.{later_lists}
use Rattle.join_unique.specs.Roots.{is_root_in}
use Rattle.join_unique.specs.Tables.{no_bounds, rows_within, table_for}
use Rattle.join_unique.proofs.Grouped.{Fits, HasItem, Two, later-noted, later-sound}
use Rattle.join_unique.proofs.HeapRows.{block-rises, in-block, of-block}
use Rattle.join_row_keys.proofs.HeapRoots.{roots-apart}
use Rattle.join_unique.proofs.Listing.{listed}
use Rattle.join_unique.proofs.Ordered.{grouped}
use Rattle.join_unique.proofs.RowEntries.{row-entry}
use Rattle.join_unique.proofs.Sorting.{deduped-from, deduped-in, deduped-rise, from-sort}

kept-in : {X : Type 0} (test : X → Bool) (xs : List X) (x : X) → Contains xs x → test x ≡ true → Contains (filter test xs) x
kept-in test [] x has passes = absurd (none-in x [] refl has)
kept-in {X} test (y ∷ ys) x has passes = by (λ later. kept-in test ys x later passes) (test y) refl (either-in y x ys has)
  where
    by : (Contains ys x → Contains (filter test ys) x) → (b : Bool) → test y ≡ b → (y ≡ x) ⊎ Contains ys x
        → Contains (cond b (y ∷ filter test ys) (filter test ys)) x
    by rest true is (inl same) = subst (λ (z : X). Contains (y ∷ filter test ys) z) same (first-in y (filter test ys))
    by rest true is (inr later) = other-in y x (filter test ys) (rest later)
    by rest false is (inl same) = absurd (both_ways (test y) is (ap test same ∙ passes))
    by rest false is (inr later) = rest later

-- it wants each unkilled entry
module _ (specs : List KeySpec) where
  wanted-in : (names : Names) (tree : SoundTree) (es : List (Entry Value Tid)) → IsWanted (order_of (specs_of tree)) is_killed (image_of names tree) (scan_on tree no_bounds) es
      → (e : Entry Value Tid) → Contains (entries_of (image_of names tree)) e → e.killed ≡ false → Contains es e
  wanted-in names tree es wanted e among alive =
      let test = is_wanted is_killed (scan_on tree no_bounds) in
      let kept = filter test (entries_of (image_of names tree)) in
      Contains-permutation kept es e (IsPermutation-sym es kept wanted.all_of_them)
      (kept-in test (entries_of (image_of names tree)) e among (ap not alive))

module _ (names : Names) (at : IndexedHeap) (unique : Unique) (held : Roots) where
  abbrev case : CaseRecord
  case = at.case.now

  abbrev tree : SoundTree
  tree = at.tree.now

  abbrev n : ℕ
  n = number_of (file_of tree)

  module _ (belong : BelongTogether case at.heap.now tree) (hold : HoldTogether names case at.heap.now tree) (sound : IsSound case) (kind : unique ≡ unique_of case n)
      (live : RowsAreLive case names) (rise : TidsRise (rows_of case names)) (whole : AreLiveTuples case names (rows_of case names)) (joined : AreJoined case names n)
      (same_key : (s t : Separator Value Tid) → (compare_keys (columns_of (specs_of tree)) tid_order s t ≡ Equal) ↔ (s ≡ t))
      (roots : All (λ row. is_root_in held row.root ≡ true) (rows_of case names))
      (es : List (Entry Value Tid)) (wanted : IsWanted (order_of (specs_of tree)) is_killed (image_of names tree) (scan_on tree no_bounds) es) where
    -- the key of a row
    abbrev key_in : LiveRow → Option (List Value)
    key_in row = values_at (key_numbers (index_columns tree)) row.cells

    keys-are : (row : LiveRow) → key_in row ≡ key_of case n row
    keys-are row = ap (λ (c : TreeColumns). values_at (key_numbers c) row.cells) belong.index.columns

    count : count_of (heap_in at.heap.now) ≡ heap_blocks case names
    count = count-is case names at.heap.now belong.heap hold.heap

    entry-of : (row : LiveRow) (key : List Value) → Contains (rows_of case names) row → key_in row ≡ Some key → HasItem es key row.root
    entry-of row key among is =
        let has = row-entry names case at.heap.now tree belong hold joined row key among (sym (keys-are row) ∙ is) in
        record {
          item = has.entry;
          among = wanted-in (specs_of tree) names tree es wanted has.entry has.among has.alive;
          values = has.sought.values;
          tid_is = has.sought.tid_is;
        }

    within-in : (row : LiveRow) → Contains (rows_of case names) row → Contains (rows_within case names (count_of (heap_in at.heap.now)) row.tid.block) row
    within-in row among =
        let here = in-block case names row among in
        let lt : row.tid.block < count_of (heap_in at.heap.now) = (let l = here.0 in omega (arith, l, count)) in
        subst (λ (b : Bool). Contains (cond b (block_rows case names row.tid.block) []) row) (sym (lt-ltb row.tid.block (count_of (heap_in at.heap.now)) lt)) here.1

    from-within : (block : ℕ) (row : LiveRow) → Contains (rows_within case names (count_of (heap_in at.heap.now)) block) row → Contains (rows_of case names) row × (row.tid.block ≡ block)
    from-within block row = go (nat_lt block (count_of (heap_in at.heap.now))) refl
      where
        go : (b : Bool) → nat_lt block (count_of (heap_in at.heap.now)) ≡ b → Contains (cond b (block_rows case names block) []) row → Contains (rows_of case names) row × (row.tid.block ≡ block)
        go true is among =
            let lt : block < count_of (heap_in at.heap.now) = grind (arith, nat_tests, is) in
            of-block case names block row (omega (arith, lt, count)) among
        go false is among = absurd (none-in row [] refl among)

    within-rises : (block : ℕ) → AllPairs (λ row later. IsBefore row.tid later.tid) (rows_within case names (count_of (heap_in at.heap.now)) block)
    within-rises block = go (nat_lt block (count_of (heap_in at.heap.now))) refl
      where
        go : (b : Bool) → nat_lt block (count_of (heap_in at.heap.now)) ≡ b → AllPairs (λ row later. IsBefore row.tid later.tid) (cond b (block_rows case names block) [])
        go true is =
            let lt : block < count_of (heap_in at.heap.now) = grind (arith, nat_tests, is) in
            block-rises case names rise block (omega (arith, lt, count))
        go false is = λ i j d lt within. absurd (omega (arith, within))

    fits : Fits (table_for names at unique held) (rows_of case names) es
    unfolding table_for
    fits = record {
      grouped = grouped (specs_of tree) same_key es wanted.rising;
      in_block = within-in;
      of_block = from-within;
      rise = within-rises;
      root_block = λ row among. (All-contains (IsRowOfTuple case names) (rows_of case names) row live among).root;
      root = λ row among. All-contains (λ (r : LiveRow). is_root_in held r.root ≡ true) (rows_of case names) row roots among;
      apart = λ row other first second same. roots-apart case names hold.quiet whole row other first second same;
      entry = entry-of;
    }

    -- the same of two rows
    from-two : (earlier row : LiveRow) → Two (table_for names at unique held) (rows_of case names) earlier row → AreDuplicates case names n earlier row
    unfolding table_for
    from-two earlier row two = record {
      first = two.first;
      second = two.second;
      lower = two.lower;
      key = two.key;
      of_first = sym (keys-are earlier) ∙ two.of_first;
      of_second = sym (keys-are row) ∙ two.of_second;
      counted = ap (λ u. counts u two.key) (sym kind) ∙ two.counted;
    }

    to-two : (earlier row : LiveRow) → AreDuplicates case names n earlier row → Two (table_for names at unique held) (rows_of case names) earlier row
    unfolding table_for
    to-two earlier row two = record {
      first = two.first;
      second = two.second;
      lower = two.lower;
      key = two.key;
      of_first = keys-are earlier ∙ two.of_first;
      of_second = keys-are row ∙ two.of_second;
      counted = ap (λ u. counts u two.key) kind ∙ two.counted;
    }

    small : (row : LiveRow) → Contains (rows_of case names) row → row.tid.item < 65536
    small row among =
        let here = (All-contains (IsRowOfTuple case names) (rows_of case names) row live among).live in
        let last = here.live.item.last in
        let few = few-items (heap_page case names row.tid.block) (page_passes case names hold.quiet row.tid.block here.block).header in
        omega (arith, last, few)

    -- the numbers that are left, sorted and each once, are those of the rows that are listed
    pub later-listed : (later sorted ns : List ℕ) → later ≡ later_rows (table_for names at unique held) es → IsPermutation later sorted → IsSorted nat_cmp sorted → ns ≡ dedup nat_eq sorted
        → later_lists n ns ≡ duplicates_lists case names n
    later-listed later sorted ns are moved in-order once =
        listed case names n small rise ns
        (subst (AllPairs (λ x y. x < y)) (sym once) (deduped-rise sorted (from-sort sorted in-order)))
        (λ m among.
        let there : Contains (later_rows (table_for names at unique held) es) m = subst (λ xs. Contains xs m) are (Contains-permutation sorted later m (IsPermutation-sym later sorted moved) (deduped-from sorted m (subst (λ xs. Contains xs m) once among))) in
        let noted = later-sound (table_for names at unique held) (rows_of case names) es fits m there in
        (noted.1, noted.2.second, is-second case names n noted.0 noted.1 (from-two noted.0 noted.1 noted.2), noted.3))
        (λ row among is.
        let with = with-earlier case names n row among is in
        let there = later-noted (table_for names at unique held) (rows_of case names) es fits with.0 row (to-two with.0 row with.1) in
        subst (λ xs. Contains xs (tid_number row.tid)) (sym once)
        (deduped-in sorted (tid_number row.tid) (Contains-permutation later sorted (tid_number row.tid) moved (subst (λ xs. Contains xs (tid_number row.tid)) (sym are) there))))

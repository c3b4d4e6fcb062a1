-- Where nothing is found of a table and an index of it, the index is true to the table.
use Rattle.std.proofs.Common.{◌≡◌, ◌∙◌, ◌⊎◌, ℕ, suc, Bool, true, false, List, [], ◌∷◌, inl, inr, refl, ap, sym, subst}
use Rattle.std.specs.Prelude.{Contains, None, Some, not, if◌then◌else◌}
use Rattle.std.specs.List.{filter}
use Rattle.std.specs.Ordering.{ordering_then}
use Rattle.std.specs.declared.cmp.Ordering.{Ordering}
use Rattle.std.specs.declared.cmp.Ordering.TheVariants.{Less, Equal, Greater}
use Rattle.std.proofs.lemmas.Bool.{and_from, both_ways}
use Rattle.std.proofs.lemmas.List.Elements.{All-contains}
use Rattle.std.proofs.lemmas.List.Sorted.{Contains-permutation, IsPermutation-sym}
use Rattle.outside.specs.Outside.{Names}
use Rattle.laws_search.specs.Keys.{Entry, Separator, before_bound, compare_first, compare_values, in_bounds, is_above, is_below, past_bound}
use Rattle.laws_search.specs.Search.{entries_of, is_wanted}
use Rattle.key_orders.specs.Keys.{columns_of}
use Rattle.key_orders.specs.Scans.{Bounds, scan_of}
use Rattle.key_orders.specs.declared.Tid.{Tid}
use Rattle.key_orders.specs.declared.columns.KeySpec.{KeySpec}
use Rattle.key_orders.specs.declared.columns.Value.{Value}
use Rattle.case_file.specs.Record.{CaseRecord}
use Rattle.case_file.specs.Sound.{IsSound}
use Rattle.heap_table_check.specs.Found.{IsQuiet}
use Rattle.heap_table_check.proofs.TrueLaws.{case_is_true}
use Rattle.heap_rows.specs.RowLaws.{AreLiveTuples, HasRowAt, IsWholeRow}
use Rattle.heap_rows.specs.Rows.{rows_of}
use Rattle.bt_image.specs.Image.{LeafEntry}
use Rattle.bt_image.proofs.Gathered.{gathered}
use Rattle.bt_levels.specs.Broken.{IsTrueTree}
use Rattle.bt_levels.specs.Index.{tree_of}
use Rattle.bt_steps.specs.Pages.{is_killed}
use Rattle.bt_steps.specs.Sought.{HasAlive}
use Rattle.bt_steps.proofs.Members.{either-in, first-in, in-map, none-in, other-in}
use Rattle.join_rules.specs.Broken.{AreJoined, HasEntry, IsIndexed}
use Rattle.join_rules.specs.Entries.{tree_entries}
use Rattle.join_rules.specs.Unique.{AreUnique}
use Rattle.join_rules.specs.Rows.{keys_of}
use Rattle.cmd_run.specs.Headline.{Finds, IsAnswered, IsFound, IsTrueIndex, just_at, pages_of}
use Rattle.cmd_run.specs.Laws.{AreLaws}

-- what passes a test stays
kept-in : {X : Type 0} (test : X → Bool) (xs : List X) (x : X) → Contains xs x → test x ≡ true → Contains (filter test xs) x
kept-in test [] x has passes = absurd (none-in x [] refl has)
kept-in {X} test (y ∷ ys) x has passes = by (λ later. kept-in test ys x later passes) (test y) refl (either-in y x ys has)
  where
    by : (Contains ys x → Contains (filter test ys) x) → (b : Bool) → test y ≡ b → (y ≡ x) ⊎ Contains ys x
        → Contains (if b then y ∷ filter test ys else filter test ys) x
    by rest true is (inl same) = subst (λ (z : X). Contains (y ∷ filter test ys) z) same (first-in y (filter test ys))
    by rest true is (inr later) = other-in y x (filter test ys) (rest later)
    by rest false is (inl same) = absurd (both_ways (test y) is (ap test same ∙ passes))
    by rest false is (inr later) = rest later

module _ (laws : AreLaws) (specs : List KeySpec) where
  -- A key is as high as itself

  first_then : (a : Ordering) → ordering_then a Equal ≡ Equal → a ≡ Equal
  first_then Less e = absurd cc
  first_then Equal e = refl
  first_then Greater e = absurd cc

  own_values : (key : List Value) → compare_values (columns_of specs) 0 key key ≡ Equal
  own_values key =
      let s : Separator Value Tid = record { kept = key; tid = None } in
      first_then (compare_values (columns_of specs) 0 key key) ((laws.same specs s s).1 refl)

  first_of_all : (i : ℕ) (key : List Value) → compare_first (columns_of specs) i key key ≡ compare_values (columns_of specs) i key key
  first_of_all i [] = refl
  first_of_all i (x ∷ xs) = ap (λ (o : Ordering). ordering_then (columns_of specs i x x) o) (first_of_all (suc i) xs)

  own_first : (key : List Value) → compare_first (columns_of specs) 0 key key ≡ Equal
  own_first key = first_of_all 0 key ∙ own_values key

  -- and within its own bounds
  not_before : (key : List Value) → before_bound (columns_of specs) key true key ≡ false
  not_before [] = refl
  not_before (x ∷ xs) = ap (λ (o : Ordering). is_above o false) (own_first (x ∷ xs))

  not_past : (key : List Value) → past_bound (columns_of specs) key true key ≡ false
  not_past [] = refl
  not_past (x ∷ xs) = ap (λ (o : Ordering). is_below o false) (own_first (x ∷ xs))

  own_bounds : (e : Entry Value Tid) (key : List Value) → e.values ≡ key → (scan_of specs (just_at key)).matches e ≡ true
  own_bounds e key is =
      ap (λ (values : List Value). in_bounds (columns_of specs) (just_at key).low (just_at key).high values) is
      ∙ and_from (not (before_bound (columns_of specs) key true key)) (not (past_bound (columns_of specs) key true key))
      (ap not (not_before key)) (ap not (not_past key))

module _ (laws : AreLaws) (case : CaseRecord) (names : Names) (n : ℕ) (sound : IsSound case) (quiet : IsQuiet case names) (tree : IsTrueTree (tree_of case names n)) (joined : AreJoined case names n) (unique : AreUnique case names n) where
  -- each search has its answer
  answered : (bounds : Bounds) → IsAnswered case names n bounds
  answered bounds =
      let search = tree.searches is_killed (scan_of (keys_of case n) bounds) (laws.scans (keys_of case n) bounds) in
      record { entries = search.0; finds = record { wanted = search.1; ended = search.2 } }

  -- an unkilled entry with this key is among those of the search for it
  comes : (key : List Value) (root : Tid) (es : List (Entry Value Tid)) → Finds case names n (just_at key) es → (has : HasAlive (pages_of case names n) key root) → Contains es has.entry
  comes key root es finds has =
      let wanted = is_wanted is_killed (scan_of (keys_of case n) (just_at key)) in
      let kept = filter wanted (entries_of (pages_of case names n)) in
      Contains-permutation kept es has.entry (IsPermutation-sym es kept finds.wanted.all_of_them)
      (kept-in wanted (entries_of (pages_of case names n)) has.entry has.among
      (and_from ((scan_of (keys_of case n) (just_at key)).matches has.entry) (not has.entry.killed)
      (own_bounds laws (keys_of case n) has.entry key has.sought.values) (ap not has.alive)))

  -- a live tuple is a row with its root and its values, and that row is indexed
  live : AreLiveTuples case names (rows_of case names)
  live = laws.rows case names sound quiet

  -- its entry, as a search sees it
  seen : (key more : List Value) (root : Tid) → HasEntry case names n key more root → HasAlive (pages_of case names n) key root
  seen key more root has = record {
    entry = has.entry.entry;
    among =
        subst (λ es. Contains es has.entry.entry) (sym (gathered (tree_of case names n).specs (tree_of case names n).more (tree_of case names n).blocks (tree_of case names n).block))
        (in-map (λ (e : LeafEntry). e.entry) (tree_entries (tree_of case names n)) has.entry has.among);
    sought = has.sought;
    alive = has.alive;
  }

  among_found : (key more : List Value) (root : Tid) (es : List (Entry Value Tid)) → Finds case names n (just_at key) es → (has : HasEntry case names n key more root)
      → Contains es has.entry.entry
  unfolding seen
  among_found key more root es finds has = comes key root es finds (seen key more root has)

  found_by : (tid : Tid) (has : HasRowAt (rows_of case names) tid) → IsIndexed case names n has.row → IsFound case names n tid
  found_by tid has is =
      let answer = answered (just_at is.key) in
      record {
        row = has.row;
        at = has.at;
        whole = All-contains (IsWholeRow case names) (rows_of case names) has.row live.each has.among;
        key = is.key;
        values = is.values;
        entries = answer.entries;
        finds = answer.finds;
        entry = is.entry.entry;
        stands = is.entry.among;
        among = among_found is.key is.more has.row.root answer.entries answer.finds is.entry;
        root = is.entry.sought.tid_is;
        own_key = is.entry.sought.values;
        included = is.included ∙ ap Some (sym is.entry.included);
      }

  pub index_is_true : IsTrueIndex case names n
  index_is_true = record {
    scans = answered;
    rows = λ tid at. let has = live.all tid at in found_by tid has (joined.rows has.row has.among);
    unique = unique;
    entries = joined.entries;
    table = case_is_true case names quiet;
  }

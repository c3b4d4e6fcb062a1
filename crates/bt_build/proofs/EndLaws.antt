-- The entries in order may be indexed, and what is built of them answers the whole.
use Rattle.std.proofs.Common.{◌≡◌, ◌≤◌, ◌<◌, ◌+◌, ◌∙◌, ℕ, Bool, true, false, cond, inl, inr, List, [], ◌∷◌, ◌++◌, length, map, take, drop, sym, ap, subst, arith}
use Rattle.std.specs.Prelude.{All, IsPermutation, IsSortedBy, None}
use Rattle.std.specs.Prelude.{Result, Ok, Err}
use Rattle.std.specs.List.{AllByRecursion, filter, sum_by}
use Rattle.std.proofs.lemmas.Bool.{cases_Bool, le-ltb, ltb-false}
use Rattle.std.proofs.Math.Seq.{take-append_seam}
use Rattle.std.proofs.lemmas.List.Elements.{All-from_recursion, recursion_from_All}
use Rattle.std.proofs.lemmas.List.Sorted.{All-permutation, IsPermutation-map, sum_by-IsPermutation}
use Rattle.laws_search.specs.Order.{IsOrder}
use Rattle.laws_search.proofs.Rising.{Rising, adjacent_from_rising}
use Rattle.key_orders.specs.declared.columns.KeySpec.{KeySpec}
use Rattle.key_orders.specs.declared.more.MoreSpec.{MoreSpec}
use Rattle.key_orders.specs.declared.Tid.{Tid}
use Rattle.key_orders.specs.Scans.{order_of}
use Rattle.bt_image.specs.Image.{LeafEntry}
use Rattle.laws_built_index.specs.Items.{MayBeLaid, plain_item, tids_of}
use Rattle.laws_built_index.specs.Sizes.{AreIndexable, entry_in}
use Rattle.bt_build.specs.declared.build.BuiltTree.{BuiltTree}
use Rattle.bt_build.specs.declared.entries.Place.{Place}
use Rattle.bt_build.specs.declared.fault.IndexFault.{IndexFault}
use Rattle.bt_build.specs.declared.fault.IndexFault.TheVariants.{KeyTooLarge, TooManyBlocks, NoMemory}
use Rattle.bt_build.specs.declared.levels.Level.{Level}
use Rattle.bt_build.specs.Kept.{IsKept, entries_at, entry_at, listed_in}
use Rattle.bt_build.specs.Levels.{AreAbove, AreLevels}
use Rattle.bt_build.specs.declared.groups.Item.{Item}
use Rattle.bt_build.specs.Listed.{AreApart}
use Rattle.bt_build.specs.Order.{in_order}
use Rattle.bt_build.specs.Outcome.{IsAnswer, IsTreeAnswer, is_too_large, large_among, lowest_tid}
use Rattle.bt_build.specs.Places.{is_below}
use Rattle.bt_build.proofs.ApartLaws.{KeysSame, KeysTotal, all_differ, at_most_one, has_tid}
use Rattle.bt_build.proofs.RisingLaws.{IsUnder, Rise}
use Rattle.bt_build.proofs.SortedLaws.{rises}

-- No entry is too large

module _ (specs : List KeySpec) (ms : List MoreSpec) where
  abbrev IsSmall : LeafEntry → Type 0
  IsSmall e = length (plain_item specs ms e.entry e.more) ≤ 2704

  none_large : (es : List LeafEntry) → large_among specs ms es ≡ None → AllByRecursion IsSmall es
  none_large [] none = tt
  none_large (e ∷ es) none = elim (cases_Bool (is_too_large specs ms e)) [
    | inl large ↦ absurd (some_low e.entry.tid (tids_of (filter (is_too_large specs ms) es)) (sym (ap (λ (c : Bool). lowest_tid (tids_of (cond c (e ∷ filter (is_too_large specs ms) es) (filter (is_too_large specs ms) es)))) large) ∙ none))
    | inr small ↦ (
      ltb-false 2704 (length (plain_item specs ms e.entry e.more)) small,
      none_large es (sym (ap (λ (c : Bool). lowest_tid (tids_of (cond c (e ∷ filter (is_too_large specs ms) es) (filter (is_too_large specs ms) es)))) small) ∙ none),
    )
  ]
    where
      some_low : (t : Tid) (ts : List Tid) → lowest_tid (t ∷ ts) ≡ None → ⊥
      some_low t ts is = absurd cc

  pub small_places : (arena : List ℕ) (places : List Place) → AllByRecursion IsSmall (entries_at specs arena places) → AllByRecursion (λ p. is_too_large specs ms (entry_at specs arena p) ≡ false) places
  small_places arena [] small = tt
  small_places arena (p ∷ places) small = (le-ltb 2704 (length (plain_item specs ms (entry_at specs arena p).entry (entry_at specs arena p).more)) small.0, small_places arena places small.1)

  -- The entries in order

  laid_each : (arena : List ℕ) (places : List Place) → AllByRecursion (IsKept specs ms arena) places → AllByRecursion (MayBeLaid specs ms) (entries_at specs arena places)
  laid_each arena [] kept = tt
  laid_each arena (p ∷ places) kept = (kept.0.laid, laid_each arena places kept.1)

  rising_keys : (es : List LeafEntry) → Rise specs es → Rising (order_of specs) (map entry_in es)
  rising_keys [] up = tt
  rising_keys (e ∷ es) up = (under e es up.0, rising_keys es up.1)
    where
      under : (e : LeafEntry) (es : List LeafEntry) → AllByRecursion (IsUnder specs e) es → AllByRecursion (λ d. (order_of specs).precedes e.entry d ≡ true) (map entry_in es)
      under e [] up = tt
      under e (d ∷ es) up = (up.0, under e es up.1)

  pub indexable : (total : KeysTotal) (same : KeysSame) (order : IsOrder (order_of specs)) (arena : List ℕ) (old new : List Place) → IsPermutation old new → IsSortedBy (is_below specs arena) new → All (IsKept specs ms arena) old
      → AreApart (entries_at specs arena old) → 0 < length specs → large_among specs ms (entries_at specs arena old) ≡ None → AreIndexable specs ms (entries_at specs arena new)
  indexable total same order arena old new moved up kept apart some none =
      let es = entries_at specs arena old in
      let fs = entries_at specs arena new in
      let moved_entries : IsPermutation es fs = IsPermutation-map (entry_at specs arena) old new moved in
      let few = at_most_one es apart in
      let few_new : (t : Tid) → sum_by (has_tid t) fs ≤ 1 = λ t. subst (λ (n : ℕ). n ≤ 1) (sym (sum_by-IsPermutation (has_tid t) es fs moved_entries)) (few t) in
      let kept_new = All-permutation (IsKept specs ms arena) old new moved kept in
      record {
        columns = some;
        each = All-from_recursion (MayBeLaid specs ms) fs (laid_each arena new (recursion_from_All (IsKept specs ms arena) new kept_new));
        small = All-permutation IsSmall es fs moved_entries (All-from_recursion IsSmall es (none_large es none));
        rising = adjacent_from_rising (order_of specs) (map entry_in fs) (rising_keys fs (rises total same specs order ms arena new kept_new up (all_differ total same specs fs few_new)));
      }

  -- The answer

  pub answer_is : (arena : List ℕ) (places sorted : List Place) (r : Result BuiltTree IndexFault) → entries_at specs arena sorted ≡ in_order specs (entries_at specs arena places)
      → large_among specs ms (entries_at specs arena places) ≡ None → AreIndexable specs ms (entries_at specs arena sorted) → IsTreeAnswer specs ms (entries_at specs arena sorted) r
      → IsAnswer (listed_in specs ms arena places) r
  answer_is arena places sorted (Ok tree) is none may answer =
      let here = subst (λ (es : List LeafEntry). IsTreeAnswer specs ms es (Ok tree)) is answer in
      record { small = none; indexable = subst (AreIndexable specs ms) is may; few = here.few; blocks = here.blocks; bytes = here.bytes }
  answer_is arena places sorted (Err (KeyTooLarge tid)) is none may answer = absurd answer
  answer_is arena places sorted (Err (TooManyBlocks blocks)) is none may answer =
      let here = subst (λ (es : List LeafEntry). IsTreeAnswer specs ms es (Err (TooManyBlocks blocks))) is answer in
      record { small = none; count = here.0; many = here.1 }
  answer_is arena places sorted (Err NoMemory) is none may answer = tt

-- There are no more levels than blocks

levels_above_few : (specs : List KeySpec) (es : List LeafEntry) (below : Level) (ups : List Level) (end : ℕ) → AreAbove specs es below ups end → below.first + length ups ≤ end
levels_above_few specs es below [] end above = omega (arith, above.1)
levels_above_few specs es below (up ∷ ups) end above =
    let r = levels_above_few specs es up ups end above.2 in
    omega (arith, r, above.0, above.1.first)

pub levels_few : (specs : List KeySpec) (es : List LeafEntry) (items : List Item) (levels : List Level) (end : ℕ) → AreLevels specs es items levels end → (0 < length levels) × (length levels ≤ end)
levels_few specs es items [] end levels = absurd levels
levels_few specs es items (leaf ∷ ups) end levels =
    let r = levels_above_few specs es leaf ups end levels.1 in
    (omega arith, omega (arith, r, levels.0.first))

-- A list that was lent whole and written back

pub written_back : (len : ℕ) (new old : List Place) → len ≡ length new → take len (new ++ drop (length new) old) ≡ new
written_back len new old is = ap (λ (n : ℕ). take n (new ++ drop (length new) old)) is ∙ take-append_seam new (drop (length new) old)

-- The entry at a spot where one was found: no other that isn't killed has its key and its TID.
use Rattle.std.proofs.Common.{◌≡◌, ◌∙◌, ℕ, zero, suc, ◌≤◌, inl, inr, Bool, true, false, List, [], ◌∷◌, length, map, refl, sym, ap, subst, arith}
use Rattle.std.specs.Prelude.{Contains, Option, Some, cond, not, ◌&&◌, ◌||◌, slice_get}
use Rattle.std.specs.List.{AllAdjacentBelow, filter, list_any}
use Rattle.std.specs.Ordering.{is_le, is_lt}
use Rattle.std.proofs.lemmas.Bool.{and_from, and_parts, both_ways, cases_Bool, not-true, not_from_false}
use Rattle.std.proofs.lemmas.List.Sorted.{Contains-permutation, length_permutation}
use Rattle.outside.specs.Outside.{Names}
use Rattle.laws_search.specs.Keys.{Entry, Separator, as_separator, compare_keys}
use Rattle.laws_search.specs.Order.{IsOrder, IsScan, Order, Scan}
use Rattle.laws_search.specs.Search.{entries_of as searched_of, is_wanted, tree_blocks}
use Rattle.laws_search.specs.Searchable.{IsSearchable}
use Rattle.laws_search.proofs.Gather.{block_in}
use Rattle.laws_search.proofs.Unique.{Contains-from_In}
use Rattle.laws_search.proofs.Whole.{finds}
use Rattle.key_orders.specs.declared.columns.Value.{Value}
use Rattle.key_orders.specs.declared.Tid.{Tid}
use Rattle.key_orders.specs.Keys.{columns_of, entry_of, tid_order}
use Rattle.key_orders.specs.Scans.{order_of}
use Rattle.key_storage.specs.Same.{same_key}
use Rattle.key_storage.proofs.SameLaws.{keys_decide}
use Rattle.bt_meta.specs.Flags.{is_half_dead, is_leaf}
use Rattle.bt_meta.specs.Pages.{is_idle, opaque_of}
use Rattle.bt_image.specs.Image.{LeafEntry, data_items, entries_in, item_at, leaf_entries_with_more, page_entries}
use Rattle.bt_image.proofs.Gathered.{gathered}
use Rattle.bt_levels.specs.declared.sound.SoundTree.{SoundTree}
use Rattle.bt_levels.specs.Sound.{HoldsTree, block_count, held_block, image_of, index_columns, specs_of}
use Rattle.bt_steps.specs.Entries.{keys_at}
use Rattle.bt_steps.specs.Pages.{is_killed}
use Rattle.bt_steps.specs.Sought.{IsSought}
use Rattle.bt_steps.proofs.Members.{either-in, first-in, in-data_items, in-flat_map, in-map, in-place, none-in}
use Rattle.bt_search.specs.declared.spot.Spot.{Spot}
use Rattle.bt_search.specs.Entries.{included_in, included_on}
use Rattle.bt_search.specs.Lookups.{IsAtSpot}
use Rattle.join_slots.specs.Met.{same_tid}
use Rattle.join_rules.specs.Entries.{has_alive, is_alive, is_alive_of}
use Rattle.join_rules.proofs.Alive.{is-there, sought-is, tid-is}
use Rattle.join_look_ups.specs.Looking.{entries_of, has_entry}
use Rattle.join_look_ups.proofs.Widths.{entry-fits}

-- At most one passes a test

all-pass : {X : Type 0} (p : X → Bool) (xs : List X) (x : X) → Contains (filter p xs) x → p x ≡ true
all-pass p [] x h = absurd (none-in x [] refl h)
all-pass {X} p (y ∷ ys) x h = by (p y) refl (all-pass p ys x) h
  where
    by : (b : Bool) → p y ≡ b → (Contains (filter p ys) x → p x ≡ true) → Contains (cond b (y ∷ filter p ys) (filter p ys)) x → p x ≡ true
    by true is again there = elim (either-in y x (filter p ys) there) [
      | inl e ↦ subst (λ (z : X). p z ≡ true) e is
      | inr rest ↦ again rest
    ]
    by false is again there = again there

module _ (key more : List Value) (tid : Tid) where
  abbrev passes : Entry Value Tid → Bool
  passes = is_alive key tid

  abbrev bare : List LeafEntry → List (Entry Value Tid)
  bare es = map (λ (e : LeafEntry). e.entry) es

  one-at-least : (es : List LeafEntry) (l : LeafEntry) → Contains es l → passes l.entry ≡ true → 1 ≤ length (filter passes (bare es))
  one-at-least [] l h pass = absurd (none-in l [] refl h)
  one-at-least (e ∷ es) l h pass = by (passes e.entry) refl (λ rest. one-at-least es l rest pass)
    where
      by : (b : Bool) → passes e.entry ≡ b → (Contains es l → 1 ≤ length (filter passes (bare es))) → 1 ≤ length (cond b (e.entry ∷ filter passes (bare es)) (filter passes (bare es)))
      by true is again = omega arith
      by false is again = elim (either-in e l es h) [
        | inl same ↦ absurd (both_ways (passes e.entry) is (subst (λ (x : LeafEntry). passes x.entry ≡ true) (sym same) pass))
        | inr rest ↦ again rest
      ]

  none-at-all : (es : List LeafEntry) → length (filter passes (bare es)) ≤ 0 → list_any (is_alive_of key more tid) es ≡ false
  none-at-all [] few = refl
  none-at-all (e ∷ es) few = by (passes e.entry) (none-at-all es) few
    where
      by : (b : Bool) → (length (filter passes (bare es)) ≤ 0 → list_any (is_alive_of key more tid) es ≡ false) → length (cond b (e.entry ∷ filter passes (bare es)) (filter passes (bare es))) ≤ 0 → ((b && same_key more e.more) || list_any (is_alive_of key more tid) es) ≡ false
      by true again le = absurd (omega (arith, le))
      by false again le = again le

  -- so that one's included values decide
  decides : (es : List LeafEntry) (l : LeafEntry) → Contains es l → passes l.entry ≡ true → length (filter passes (bare es)) ≤ 1 → list_any (is_alive_of key more tid) es ≡ same_key more l.more
  decides [] l h pass few = absurd (none-in l [] refl h)
  decides (e ∷ es) l h pass few = by (passes e.entry) refl (λ there le. decides es l there pass le) few
    where
      or-false : (b : Bool) → (b || false) ≡ b
      or-false true = refl
      or-false false = refl

      by : (b : Bool) → passes e.entry ≡ b → (Contains es l → length (filter passes (bare es)) ≤ 1 → list_any (is_alive_of key more tid) es ≡ same_key more l.more)
          → length (cond b (e.entry ∷ filter passes (bare es)) (filter passes (bare es))) ≤ 1 → ((b && same_key more e.more) || list_any (is_alive_of key more tid) es) ≡ same_key more l.more
      by true is again le =
          let rest : list_any (is_alive_of key more tid) es ≡ false = none-at-all es (omega (arith, le)) in
          elim (either-in e l es h) [
            | inl same ↦ ap (λ (b : Bool). same_key more e.more || b) rest ∙ or-false (same_key more e.more) ∙ ap (λ (x : LeafEntry). same_key more x.more) same
            | inr there ↦ absurd (let one = one-at-least es l there pass in omega (arith, le, one))
          ]
      by false is again le = elim (either-in e l es h) [
        | inl same ↦ absurd (both_ways (passes e.entry) is (subst (λ (x : LeafEntry). passes x.entry ≡ true) (sym same) pass))
        | inr there ↦ again there le
      ]

-- An index has no two unkilled entries of one key and one TID

module _ (names : Names) (tree : SoundTree) (laws : IsOrder (order_of (specs_of tree))) (fit : IsSearchable (order_of (specs_of tree)) (image_of names tree)) (key : List Value) (tid : Tid) where
  abbrev order : Order (Separator Value Tid) (Entry Value Tid)
  order = order_of (specs_of tree)

  abbrev matches : Entry Value Tid → Bool
  matches e = same_tid tid e.tid && same_key key e.values

  abbrev sought : Entry Value Tid
  sought = entry_of key tid

  -- the scan of just these
  abbrev scan : Scan (Separator Value Tid) (Entry Value Tid)
  scan = record { goes_right = λ s. not (order.within sought s); matches = matches; past_high = λ e. order.precedes sought e }

  same-place : (e : Entry Value Tid) → matches e ≡ true → as_separator e ≡ as_separator sought
  same-place e m =
      let parts = and_parts (same_tid tid e.tid) (same_key key e.values) m in
      λ i. record { kept = (sym ((keys_decide key e.values).0 parts.1)) i; tid = Some ((tid-is tid e.tid parts.0) i) }

  unless : (e : Entry Value Tid) → (matches e ≡ true → ⊥) → matches e ≡ false
  unless e never = elim (cases_Bool (matches e)) [
    | inl t ↦ absurd (never t)
    | inr f ↦ f
  ]

  is-scan : IsScan order scan
  is-scan = record {
    none_left = λ e s right within. unless e (λ m.
        both_ways (order.within sought s) (not-true _ right)
        (ap (λ (k : Separator Value Tid). is_le (compare_keys (columns_of (specs_of tree)) tid_order k s)) (sym (same-place e m)) ∙ within));
    none_past = λ e past. unless e (λ m.
        both_ways (order.precedes sought sought) (laws.strict sought)
        (ap (λ (k : Separator Value Tid). is_lt (compare_keys (columns_of (specs_of tree)) tid_order (as_separator sought) k)) (sym (same-place e m)) ∙ past));
    stays_past = λ d e past above. laws.chained sought d e past above;
  }

  short : (es : List (Entry Value Tid)) → ((e : Entry Value Tid) → Contains es e → matches e ≡ true) → AllAdjacentBelow (λ d e. order.precedes d e ≡ true) es (length es) → length es ≤ 1
  short [] all rising = omega arith
  short (a ∷ []) all rising = omega arith
  short (a ∷ b ∷ es) all rising =
      let first = same-place a (all a (first-in a (b ∷ es))) in
      let second = same-place b (all b (1, omega arith, refl)) in
      let above : order.precedes a b ≡ true = rising 0 a (omega arith) in
      absurd (both_ways (order.precedes sought sought) (laws.strict sought)
      ((λ i. is_lt (compare_keys (columns_of (specs_of tree)) tid_order (sym first i) (sym second i))) ∙ above))

  pub one-alive : length (filter (is_alive key tid) (searched_of (image_of names tree))) ≤ 1
  one-alive =
      let found = finds order (image_of names tree) laws fit is_killed scan is-scan in
      let all = filter (is_wanted is_killed scan) (searched_of (image_of names tree)) in
      let each : (e : Entry Value Tid) → Contains found.0 e → matches e ≡ true =
      λ e h. (and_parts (matches e) (not e.killed) (all-pass (is_wanted is_killed scan) (searched_of (image_of names tree)) e (Contains-permutation found.0 all e found.1.all_of_them h))).0 in
      let few = short found.0 each found.1.rising in
      omega (arith, few, length_permutation found.0 all found.1.all_of_them)

-- The entry at a spot

at-place : (es : List LeafEntry) (k : ℕ) (e : Entry Value Tid) → slice_get (map (λ (l : LeafEntry). l.entry) es) k ≡ Some e → (l : LeafEntry) × (slice_get es k ≡ Some l) × (l.entry ≡ e)
at-place [] k e is = absurd cc
at-place (l ∷ es) zero e is = (l, refl, inner is)
  where
    inner : ◌≡◌ {A = Option (Entry Value Tid)} (Some l.entry) (Some e) → l.entry ≡ e
    inner h = cc
at-place (l ∷ es) (suc k) e is = at-place es k e is

pub record IsSpotOf (names : Names) (tree : SoundTree) (key : List Value) (tid : Tid) (at : Spot) : Type 0 where
  pub entry : LeafEntry
  pub among : Contains (entries_of names tree) entry
  pub passes : is_alive key tid entry.entry ≡ true
  pub included : included_on (index_columns tree) (held_block names tree at.block) at ≡ entry.more

pub spot-of : (names : Names) (tree : SoundTree) (key : List Value) (tid : Tid) (at : Spot) → IsAtSpot names tree key tid at → IsSpotOf names tree key tid at
unfolding keys_at
spot-of names tree key tid at s =
    let columns = index_columns tree in
    let page = held_block names tree at.block in
    let t = s.there in
    let leaf = is_leaf (opaque_of page) in
    let half = is_half_dead (opaque_of page) in
    let here = at-place (entries_in (item_at columns.specs columns.more page at.item)) at.nth t.entry t.is in
    let l : LeafEntry = here.0 in
    let of-page : Contains (page_entries columns.specs columns.more page) l =
    in-flat_map (λ i. entries_in (item_at columns.specs columns.more page i)) (data_items page) at.item l (in-data_items page at.item t.from t.last)
    (in-place (entries_in (item_at columns.specs columns.more page at.item)) at.nth l here.1) in
    let used : (leaf && (not (is_idle page) && not half)) ≡ true =
    and_from leaf _ s.leaf (and_from (not (is_idle page)) (not half) (not_from_false _ s.used) (not_from_false _ s.alive)) in
    let of-leaf : Contains (leaf_entries_with_more columns.specs columns.more page) l =
    subst (λ (b : Bool). Contains (cond b (page_entries columns.specs columns.more page) []) l) (sym used) of-page in
    record {
      entry = l;
      among =
          in-flat_map (λ b. leaf_entries_with_more columns.specs columns.more (held_block names tree b)) (tree_blocks (block_count tree)) at.block l
          (Contains-from_In (tree_blocks (block_count tree)) at.block (block_in (block_count tree) at.block s.not_meta s.inside)) of-leaf;
      passes = subst (λ (e : Entry Value Tid). is_alive key tid e ≡ true) (sym here.2) (sought-is key tid t.entry t.sought t.alive);
      included = ap included_in here.1;
    }

-- What is told of a row by the entry that is found

module _ (names : Names) (tree : SoundTree) (laws : IsOrder (order_of (specs_of tree))) (fit : IsSearchable (order_of (specs_of tree)) (image_of names tree)) (key more : List Value) (tid : Tid) where
  pub told-there : (at : Spot) → IsAtSpot names tree key tid at → has_entry names tree key more tid ≡ same_key more (included_on (index_columns tree) (held_block names tree at.block) at)
  unfolding has_alive
  told-there at s =
      let spot = spot-of names tree key tid at s in
      let few : length (filter (is_alive key tid) (map (λ (e : LeafEntry). e.entry) (entries_of names tree))) ≤ 1 =
      subst (λ (es : List (Entry Value Tid)). length (filter (is_alive key tid) es) ≤ 1) (gathered (index_columns tree).specs (index_columns tree).more (block_count tree) (held_block names tree))
      (one-alive names tree laws fit key tid) in
      decides key more tid (entries_of names tree) spot.entry spot.among spot.passes few
      ∙ ap (same_key more) (sym spot.included)

  -- without included columns it is there
  pub told-bare : HoldsTree names tree → (at : Spot) → IsAtSpot names tree key tid at → (index_columns tree).more ≡ [] → more ≡ [] → has_entry names tree key more tid ≡ true
  told-bare holds at s none empty =
      let spot = spot-of names tree key tid at s in
      let bare : included_on (index_columns tree) (held_block names tree at.block) at ≡ [] = spot.included ∙ (entry-fits names tree holds spot.entry spot.among).1 none in
      told-there at s ∙ (λ i. same_key (empty i) (bare i))

  pub told-none : ((e : Entry Value Tid) → Contains (searched_of (image_of names tree)) e → IsSought key tid e → e.killed ≡ true) → has_entry names tree key more tid ≡ false
  told-none killed = elim (cases_Bool (has_entry names tree key more tid)) [
    | inl t ↦
        let has = is-there key more tid (entries_of names tree) t in
        let among : Contains (searched_of (image_of names tree)) has.entry.entry =
        subst (λ (es : List (Entry Value Tid)). Contains es has.entry.entry) (sym (gathered (index_columns tree).specs (index_columns tree).more (block_count tree) (held_block names tree)))
        (in-map (λ (e : LeafEntry). e.entry) (entries_of names tree) has.entry has.among) in
        absurd (both_ways has.entry.entry.killed has.alive (killed has.entry.entry among has.sought))
    | inr f ↦ f
  ]

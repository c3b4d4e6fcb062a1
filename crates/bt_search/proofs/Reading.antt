-- A reader's steps along a leaf, and from leaf to leaf.
use Rattle.std.proofs.Common.{◌≡◌, ◌≢◌, ℕ, zero, suc, ◌+◌, ◌-◌, ◌<◌, ◌≤◌, inl, inr, true, false, List, [], ◌∷◌, length, take, refl, ap, sym, subst, ◌∙◌, arith}
use Rattle.std.specs.Prelude.{◌==◌, ◌||◌, Some, slice_get}
use Rattle.std.specs.List.{list_any}
use Rattle.std.proofs.lemmas.Bool.{cases_lt, cond-false, ne_eqb, or_from, or_parts}
use Rattle.std.proofs.lemmas.List.{take_all}
use Rattle.outside.specs.Outside.{Names}
use Rattle.page_layout.specs.Page.{count_of}
use Rattle.laws_search.specs.Keys.{Entry}
use Rattle.laws_search.specs.Search.{State, right_of}
use Rattle.laws_search.specs.Spots.{Stands, from_place}
use Rattle.key_orders.specs.declared.columns.Value.{Value}
use Rattle.key_orders.specs.declared.Tid.{Tid}
use Rattle.key_orders.specs.Scans.{Bounds}
use Rattle.key_attrs.specs.Columns.{TreeColumns}
use Rattle.bt_meta.specs.Flags.{is_half_dead, is_leaf}
use Rattle.bt_meta.specs.Pages.{opaque_of}
use Rattle.bt_tuples.specs.Items.{Item, Pivot, Plain, Posting}
use Rattle.bt_image.specs.Image.{first_data, item_at, keys_in, page_image, page_keys, spot_of}
use Rattle.bt_image.proofs.PageFields.{first_cases, leaf_item_good, leaf_spot}
use Rattle.bt_image.proofs.Rises.{IsGood}
use Rattle.bt_levels.specs.declared.sound.SoundTree.{SoundTree}
use Rattle.bt_levels.specs.Sound.{HoldsTree, block_count, held_block, image_of, index_columns}
use Rattle.bt_search.specs.declared.item.Fate.{Fate}
use Rattle.bt_search.specs.declared.item.Fate.TheVariants.{Past, Wanted, Other}
use Rattle.bt_search.specs.declared.spot.Spot.{Spot}
use Rattle.bt_search.specs.Descents.{ComesTo}
use Rattle.bt_steps.specs.Entries.{IsPlaceOn, IsRead, entries_before, keys_at, place_of}
use Rattle.bt_search.specs.Entries.{entry_on}
use Rattle.bt_search.specs.declared.item.ScanEnd.TheVariants.{High}
use Rattle.bt_search.specs.Items.{HasFate, back_on}
use Rattle.bt_search.specs.Leaves.{Finishes, Leaves, Passes, Yields}
use Rattle.bt_steps.specs.Pages.{IsReadable, is_killed}
use Rattle.bt_search.specs.Spots.{StandsAt, left_from, rest_from, scan_on, state_at}
use Rattle.bt_search.specs.Steps.{GoesInSteps}
use Rattle.bt_steps.proofs.OnLeaf.{page-readable}
use Rattle.bt_steps.proofs.Places.{before-all, before-next, entry-there, image-entries}

get-some : {X : Type 0} (xs : List X) (k : ℕ) → k < length xs → (x : X) × (slice_get xs k ≡ Some x)
get-some [] k lt = absurd (omega arith)
get-some (x ∷ xs) zero lt = (x, refl)
get-some (x ∷ xs) (suc k) lt = get-some xs k (omega arith)

good-some : (item : Item) → IsGood item → 0 < length (keys_in item)
good-some (Pivot sep down) good = absurd good
good-some (Plain key more tid killed) good = omega arith
good-some (Posting key [] killed) good = absurd (good.1 refl)
good-some (Posting key (t ∷ ts) killed) good = omega arith

-- a leaf's items
module _ (columns : TreeColumns) (page : List ℕ) (readable : IsReadable columns page) (leaf : is_leaf (opaque_of page) ≡ true) (alive : is_half_dead (opaque_of page) ≡ false) where
  pub keys-some : (i : ℕ) → first_data page ≤ i → i ≤ count_of page → 0 < length (keys_at columns page i)
  unfolding keys_at
  keys-some i from to =
      let one = first_cases page in
      let plain = readable.items alive i (omega (arith, one, from)) to in
      good-some (item_at columns.specs columns.more page i) (leaf_item_good columns.specs columns.more page i (spot_of page i) (leaf_spot page i leaf from) plain.rules)

-- what is known of an item that was read
pub record IsSeen (sound : SoundTree) (bounds : Bounds) (page : List ℕ) (spot : Spot) (fate : Fate) (count : ℕ) : Type 0 where
  pub first : 1 ≤ spot.item
  pub last : spot.item ≤ count_of page
  pub count_is : count ≡ length (keys_at (index_columns sound) page spot.item)
  pub inside : spot.nth < count
  pub fates : (k : ℕ) (e : Entry Value Tid) → slice_get (keys_at (index_columns sound) page spot.item) k ≡ Some e → HasFate (scan_on sound bounds) (back_on sound bounds) High fate e

pub seen-there : (sound : SoundTree) (bounds : Bounds) (p q : List ℕ) (spot : Spot) (f g : Fate) (n : ℕ) → p ≡ q → f ≡ g → IsSeen sound bounds p spot f n → IsSeen sound bounds q spot g n
seen-there sound bounds p q spot f g n there same seen =
    subst (λ (l : List ℕ). IsSeen sound bounds l spot g n) there (subst (λ (h : Fate). IsSeen sound bounds p spot h n) same seen)

pub read-there : (s t : TreeColumns) (p q : List ℕ) (i : ℕ) → s ≡ t → p ≡ q → IsRead t q i → IsRead s p i
read-there s t p q i a b read = subst (λ (k : TreeColumns). IsRead k p i) (sym a) (subst (λ (l : List ℕ). IsRead t l i) (sym b) read)

-- ALONG ONE LEAF

module _ (names : Names) (sound : SoundTree) (bounds : Bounds) (holds : HoldsTree names sound) (steps : GoesInSteps names sound bounds) where
  abbrev Standing : ℕ → ℕ → Type 0
  Standing b j = Stands is_killed (image_of names sound) (scan_on sound bounds) b j

  abbrev from_there : ℕ → ℕ → State (Entry Value Tid)
  from_there b j = from_place is_killed (image_of names sound) (scan_on sound bounds) b j

  abbrev entries_on : ℕ → List (Entry Value Tid)
  entries_on b = (page_image (index_columns sound).specs (index_columns sound).more (held_block names sound b)).entries

  pub comes-by : (b j : ℕ) → Standing b j → ComesTo names sound bounds b
  comes-by b j st = record { visits = st.visits; so_far = st.so_far; comes = st.comes }

  pub readable-at : (b : ℕ) → ComesTo names sound bounds b → IsReadable (index_columns sound) (held_block names sound b)
  readable-at b comes =
      let v = steps.visits b comes in
      page-readable (index_columns sound) (block_count sound) (held_block names sound) b (holds.pages.pages b v.not_meta v.inside v.used)

  pub alive-by : (b j : ℕ) → Standing b j → is_half_dead (opaque_of (held_block names sound b)) ≡ false
  alive-by b j st = (or_parts (right_of (scan_on sound bounds).goes_right (page_image (index_columns sound).specs (index_columns sound).more (held_block names sound b)).high_key) _ st.reads).1

  -- one place leads to another of the page
  record Went (b i j : ℕ) : Type 0 where
    rest : rest_from names sound bounds (from_there b i) ≡ rest_from names sound bounds (from_there b j)
    left : left_from names sound bounds (from_there b i) ≡ left_from names sound bounds (from_there b j)
    stands : Standing b j

  -- an entry that is passed over
  record IsOther (b j : ℕ) : Type 0 where
    entry : Entry Value Tid
    there : slice_get (entries_on b) j ≡ Some entry
    fate : HasFate (scan_on sound bounds) (back_on sound bounds) High Other entry

  skips : (m b j : ℕ) → Standing b j → ((k : ℕ) → k < m → IsOther b (j + k)) → Went b j (j + m)
  skips zero b j st others =
      let e : j + 0 ≡ j = omega arith in
      subst (λ (k : ℕ). Went b j k) (sym e) (record { rest = refl; left = refl; stands = st })
  skips (suc m) b j st others =
      let z : j + 0 ≡ j = omega arith in
      let it = subst (λ (k : ℕ). IsOther b k) z (others 0 (omega arith)) in
      let one = (steps.reads b j st).other it.entry it.there it.fate.0 it.fate.1 in
      let more = skips m b (j + 1) one.2 (λ k lt. let e : j + suc k ≡ j + 1 + k = omega arith in subst (λ (i : ℕ). IsOther b i) e (others (suc k) (omega (arith, lt)))) in
      let e : j + 1 + m ≡ j + suc m = omega arith in
      subst (λ (k : ℕ). Went b j k) e (record { rest = one.0 ∙ more.rest; left = one.1 ∙ more.left; stands = more.stands })

  -- SPOTS

  pub state-there : (spot : Spot) (b : ℕ) → spot.block ≡ b → b ≢ 0 → state_at names sound bounds spot ≡ from_there b (place_of (index_columns sound) (held_block names sound b) spot.item spot.nth)
  unfolding state_at
  state-there spot b is some =
      cond-false (spot.block == 0) _ _ (ne_eqb spot.block 0 (λ e. some (sym is ∙ e)))
      ∙ ap (λ (c : ℕ). from_there c (place_of (index_columns sound) (held_block names sound c) spot.item spot.nth)) is

  pub stands-there : (spot : Spot) (b : ℕ) (page : List ℕ) → spot.block ≡ b → b ≢ 0 → page ≡ held_block names sound b
      → IsPlaceOn (index_columns sound) (held_block names sound b) spot.item spot.nth
      → Standing b (place_of (index_columns sound) (held_block names sound b) spot.item spot.nth)
      → StandsAt names sound bounds spot page
  stands-there spot b page is some hand place stands = record {
    nowhere = λ none. absurd (some (sym is ∙ none));
    in_hand = λ other. hand ∙ ap (held_block names sound) (sym is);
    place = λ other. subst (λ (c : ℕ). IsPlaceOn (index_columns sound) (held_block names sound c) spot.item spot.nth) (sym is) place;
    comes = λ other. subst (λ (c : ℕ). Standing c (place_of (index_columns sound) (held_block names sound c) spot.item spot.nth)) (sym is) stands;
  }

  -- one spot of a leaf after another
  module _ (old : Spot) (page : List ℕ) (some : old.block ≢ 0) (at : StandsAt names sound bounds old page) where
    abbrev held : List ℕ
    held = held_block names sound old.block

    abbrev place : ℕ
    place = place_of (index_columns sound) held old.item old.nth

    st : Standing old.block place
    st = at.comes some

    on : IsPlaceOn (index_columns sound) held old.item old.nth
    on = at.place some

    pub readable : IsReadable (index_columns sound) held
    readable = readable-at old.block (comes-by old.block place st)

    pub is-leaf : is_leaf (opaque_of held) ≡ true
    is-leaf = st.leaf

    pub is-alive : is_half_dead (opaque_of held) ≡ false
    is-alive = alive-by old.block place st

    pub old-state : state_at names sound bounds old ≡ from_there old.block place
    old-state = state-there old old.block refl some

    -- what an entry of the spot's item is
    there : old.item ≤ count_of held → (k : ℕ) (e : Entry Value Tid) → slice_get (keys_at (index_columns sound) held old.item) k ≡ Some e → k < length (keys_at (index_columns sound) held old.item)
        → slice_get (entries_on old.block) (place_of (index_columns sound) held old.item k) ≡ Some e
    there to k e get lt =
        ap (λ (es : List (Entry Value Tid)). slice_get es (place_of (index_columns sound) held old.item k)) (image-entries (index_columns sound) held is-leaf is-alive)
        ∙ (entry-there (index_columns sound) held old.item k on.from to lt ∙ get)

    -- a spot of the page at a later place
    module _ (new : Spot) (same : new.block ≡ old.block) where
      pub stays : (j : ℕ) → place_of (index_columns sound) held new.item new.nth ≡ j → IsPlaceOn (index_columns sound) held new.item new.nth → Standing old.block j → StandsAt names sound bounds new page
      stays j is next stands =
          stands-there new old.block page same some (at.in_hand some) next (subst (λ (i : ℕ). Standing old.block i) (sym is) stands)

      pub new-state : (j : ℕ) → place_of (index_columns sound) held new.item new.nth ≡ j → state_at names sound bounds new ≡ from_there old.block j
      new-state j is = state-there new old.block same some ∙ ap (from_there old.block) is

      -- behind the item
      pub behind-place : new.item ≡ old.item + 1 → new.nth ≡ 0 → old.item ≤ count_of held → IsPlaceOn (index_columns sound) held new.item new.nth
      behind-place item nth to = record {
        from = omega (arith, item, on.from);
        to = omega (arith, item, to);
        inside = λ within.
            let more = keys-some (index_columns sound) held readable is-leaf is-alive new.item (omega (arith, item, on.from)) within in
            omega (arith, nth, more);
        behind = λ e. nth;
      }

      behind-is : new.item ≡ old.item + 1 → new.nth ≡ 0 → place_of (index_columns sound) held new.item new.nth ≡ entries_before (index_columns sound) held old.item + length (keys_at (index_columns sound) held old.item)
      behind-is item nth =
          let next = before-next (index_columns sound) held old.item on.from in
          let here : entries_before (index_columns sound) held new.item ≡ entries_before (index_columns sound) held (old.item + 1) = ap (entries_before (index_columns sound) held) item in
          omega (arith, next, here, nth)

      -- the entries of the item are passed over
      pub passes : new.item ≡ old.item + 1 → new.nth ≡ 0 → (count : ℕ) → IsSeen sound bounds held old Other count → Passes names sound bounds old new page
      passes item nth count seen =
          let to = seen.last in
          let n = length (keys_at (index_columns sound) held old.item) in
          let inside : old.nth < n = omega (arith, seen.inside, seen.count_is) in
          let fates = seen.fates in
          let m = n - old.nth in
          let far : place_of (index_columns sound) held new.item new.nth ≡ place + m = behind-is item nth ∙ omega (arith, inside) in
          let went = skips m old.block place st (λ k lt.
          let within : old.nth + k < n = omega (arith, lt) in
          let it = get-some (keys_at (index_columns sound) held old.item) (old.nth + k) within in
          let e : entries_before (index_columns sound) held old.item + (old.nth + k) ≡ place + k = omega arith in
          record { entry = it.0; there = subst (λ (i : ℕ). slice_get (entries_on old.block) i ≡ Some it.0) e (there to (old.nth + k) it.0 it.1 within); fate = fates (old.nth + k) it.0 it.1 }) in
          record {
            stands = stays (place + m) far (behind-place item nth to) went.stands;
            rest = ap (rest_from names sound bounds) old-state ∙ went.rest ∙ sym (ap (rest_from names sound bounds) (new-state (place + m) far));
            left = ap (left_from names sound bounds) old-state ∙ went.left ∙ sym (ap (left_from names sound bounds) (new-state (place + m) far));
          }

      -- the entry at the spot is taken
      pub yields : (place_of (index_columns sound) held new.item new.nth ≡ place + 1) → IsPlaceOn (index_columns sound) held new.item new.nth
          → (count : ℕ) → IsSeen sound bounds held old Wanted count → Yields names sound bounds old new old page
      yields far next count seen =
          let inside : old.nth < length (keys_at (index_columns sound) held old.item) = omega (arith, seen.inside, seen.count_is) in
          let to = seen.last in
          let fates = seen.fates in
          let it = get-some (keys_at (index_columns sound) held old.item) old.nth inside in
          let fate = fates old.nth it.0 it.1 in
          let one = (steps.reads old.block place st).wanted it.0 (there to old.nth it.0 it.1 inside) fate.0 fate.1 in
          record {
            stands = stays (place + 1) far next one.2;
            entry = it.0;
            is = subst (λ (p : List ℕ). entry_on (index_columns sound) p old ≡ Some it.0) (sym (at.in_hand some)) it.1;
            rest = ap (rest_from names sound bounds) old-state ∙ one.0 ∙ sym (ap (λ (s : State (Entry Value Tid)). it.0 ∷ rest_from names sound bounds s) (new-state (place + 1) far));
            left = ap (left_from names sound bounds) old-state ∙ one.1 ∙ sym (ap (left_from names sound bounds) (new-state (place + 1) far));
          }

    -- the place behind the entry at the spot
    pub next-inside : (new : Spot) → new.item ≡ old.item → new.nth ≡ old.nth + 1 → place_of (index_columns sound) held new.item new.nth ≡ place + 1
    next-inside new item nth =
        let here : entries_before (index_columns sound) held new.item ≡ entries_before (index_columns sound) held old.item = ap (entries_before (index_columns sound) held) item in
        omega (arith, here, nth)

    -- the spot behind the entry, as the reader moves it
    pub takes : (new : Spot) (count : ℕ) → new.block ≡ old.block → IsSeen sound bounds held old Wanted count
        → (old.nth + 1 < count → (new.item ≡ old.item) × (new.nth ≡ old.nth + 1)) → (old.nth + 1 ≡ count → (new.item ≡ old.item + 1) × (new.nth ≡ 0))
        → Yields names sound bounds old new old page
    takes new count same seen within next = elim (cases_lt (old.nth + 1) count) [
      | inl less ↦
          let to = within less in
          yields new same (next-inside new to.0 to.1)
          (record {
            from = omega (arith, to.0, on.from);
            to = omega (arith, to.0, on.to);
            inside = λ low.
                let same_item : length (keys_at (index_columns sound) held new.item) ≡ length (keys_at (index_columns sound) held old.item) = ap (λ (i : ℕ). length (keys_at (index_columns sound) held i)) to.0 in
                omega (arith, same_item, less, to.1, seen.count_is);
            behind = λ e. absurd (omega (arith, e, to.0, seen.last));
          })
          count seen
      | inr most ↦
          let last : old.nth + 1 ≡ count = omega (arith, most, seen.inside) in
          let to = next last in
          yields new same (behind-is new same to.0 to.1 ∙ omega (arith, last, seen.count_is)) (behind-place new same to.0 to.1 seen.last) count seen
    ]

    -- nothing is left
    finish : (rest_from names sound bounds (from_there old.block place) ≡ []) → (left_from names sound bounds (from_there old.block place) ≡ 0) → Finishes names sound bounds old old page
    finish rest left =
        let r = ap (rest_from names sound bounds) old-state ∙ rest in
        let l = ap (left_from names sound bounds) old-state ∙ left in
        record { stands = at; rest = r; left = l; new_rest = r; new_left = l }

    pub ends-past : (count : ℕ) → IsSeen sound bounds held old Past count → Finishes names sound bounds old old page
    ends-past count seen =
        let inside : old.nth < length (keys_at (index_columns sound) held old.item) = omega (arith, seen.inside, seen.count_is) in
        let to = seen.last in
        let fates = seen.fates in
        let it = get-some (keys_at (index_columns sound) held old.item) old.nth inside in
        let one = (steps.reads old.block place st).past it.0 (there to old.nth it.0 it.1 inside) (fates old.nth it.0 it.1) in
        finish one.0 one.1

    -- behind the last entry
    module _ (past : count_of held < old.item) where
      last-item : old.item ≡ count_of held + 1
      last-item = omega (arith, past, on.to)

      at-end : place ≡ length (entries_on old.block)
      at-end =
          let none = on.behind last-item in
          let all = before-all (index_columns sound) held in
          let here : entries_before (index_columns sound) held old.item ≡ entries_before (index_columns sound) held (count_of held + 1) = ap (entries_before (index_columns sound) held) last-item in
          let entries : length (entries_on old.block) ≡ length (page_keys (index_columns sound).specs (index_columns sound).more held) = ap length (image-entries (index_columns sound) held is-leaf is-alive) in
          omega (arith, none, all, here, entries)

      pub ends-last : (opaque_of held).next ≡ 0 → Finishes names sound bounds old old page
      ends-last none =
          let one = (steps.reads old.block place st).last at-end none in
          finish one.0 one.1

      -- the searcher comes to the right sibling
      pub goes-right : (opaque_of held).next ≢ 0 → Leaves names sound bounds old (opaque_of held).next
      unfolding from_place
      goes-right more =
          let one = (steps.reads old.block place st).next at-end more in
          let v = steps.visits old.block (comes-by old.block place st) in
          let es = entries_on old.block in
          let none : list_any (scan_on sound bounds).past_high es ≡ false =
          sym (ap (list_any (scan_on sound bounds).past_high) (ap (λ (k : ℕ). take k es) at-end ∙ take_all (length es) es (omega arith))) ∙ st.none_past in
          let to = (v.reads st.reads st.leaf).0 ∙ cond-false (list_any (scan_on sound bounds).past_high es || (opaque_of held).next == 0) _ _ (or_from _ _ none (ne_eqb _ 0 more)) in
          record {
            comes = v.goes_on (opaque_of held).next _ to;
            rest = ap (rest_from names sound bounds) old-state ∙ one.0;
            left = ap (left_from names sound bounds) old-state ∙ one.1;
          }

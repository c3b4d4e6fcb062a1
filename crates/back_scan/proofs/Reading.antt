-- A reader's steps along a leaf, from its last entry down, and from leaf to leaf to the left.
use Rattle.std.proofs.Common.{◌≡◌, ◌≢◌, ℕ, zero, suc, ◌+◌, ◌-◌, ◌<◌, ◌≤◌, inl, inr, true, false, List, [], ◌∷◌, length, refl, ap, sym, subst, ◌∙◌, arith}
use Rattle.std.specs.Prelude.{◌==◌, None, Some, slice_get}
use Rattle.std.proofs.lemmas.Bool.{cases_Bool, cases_lt, cond-false, ne_eqb, or_parts}
use Rattle.outside.specs.Outside.{Names}
use Rattle.page_layout.specs.Page.{count_of, page_rule_of}
use Rattle.page_layout.specs.declared.page.PageKind.TheVariants.{Tree}
use Rattle.laws_search.specs.Back.{BackState, Reads}
use Rattle.laws_search.specs.Keys.{Entry}
use Rattle.laws_search.specs.Search.{right_of}
use Rattle.laws_back_search.specs.Spots.{GoesBack, IsReadBack, StandsBack, from_place_back}
use Rattle.key_orders.specs.declared.columns.Value.{Value}
use Rattle.key_orders.specs.declared.Tid.{Tid}
use Rattle.key_orders.specs.Scans.{Bounds}
use Rattle.bt_meta.specs.Flags.{is_half_dead, is_leaf}
use Rattle.bt_meta.specs.Pages.{is_idle, opaque_of}
use Rattle.bt_image.specs.Image.{first_data, page_image}
use Rattle.bt_levels.specs.declared.sound.SoundTree.{SoundTree}
use Rattle.bt_levels.specs.Sound.{HoldsTree, block_count, held_block, image_of, index_columns}
use Rattle.bt_steps.specs.Entries.{entries_before, keys_at, place_of}
use Rattle.bt_steps.specs.Pages.{IsReadable, is_killed}
use Rattle.bt_steps.proofs.OnLeaf.{item-read, page-readable}
use Rattle.bt_steps.proofs.Places.{entry-there, image-entries}
use Rattle.bt_search.specs.declared.spot.Spot.{Spot}
use Rattle.bt_search.specs.declared.item.Fate.{Fate}
use Rattle.bt_search.specs.declared.item.Fate.TheVariants.{Past, Wanted, Other}
use Rattle.bt_search.specs.declared.item.ScanEnd.TheVariants.{Low}
use Rattle.bt_search.specs.Entries.{entry_on}
use Rattle.bt_search.specs.Items.{HasFate, back_on}
use Rattle.bt_search.specs.Spots.{scan_on}
use Rattle.bt_search.proofs.Reading.{keys-some}
use Rattle.back_scan.specs.Leaves.{Finishes, HasEntries, IsLastUpTo, Leaves, Passes, Yields}
use Rattle.back_scan.specs.Spots.{IsBackPlace, StandsAt, left_from, left_on, rest_from, state_at}
use Rattle.back_scan.specs.Steps.{GoesInSteps}
use Rattle.back_scan.proofs.Counts.{left-entry, left-front, up-to}

get-some : {X : Type 0} (xs : List X) (k : ℕ) → k < length xs → (x : X) × (slice_get xs k ≡ Some x)
get-some [] k lt = absurd (omega arith)
get-some (x ∷ xs) zero lt = (x, refl)
get-some (x ∷ xs) (suc k) lt = get-some xs k (omega arith)

-- what is known of an item that was read
pub record IsSeen (sound : SoundTree) (bounds : Bounds) (page : List ℕ) (spot : Spot) (fate : Fate) (count : ℕ) : Type 0 where
  pub count_is : count ≡ length (keys_at (index_columns sound) page spot.item)
  pub inside : spot.nth < count
  pub fates : (k : ℕ) (e : Entry Value Tid) → slice_get (keys_at (index_columns sound) page spot.item) k ≡ Some e → HasFate (scan_on sound bounds) (back_on sound bounds) Low fate e

pub seen-there : (sound : SoundTree) (bounds : Bounds) (p q : List ℕ) (spot : Spot) (f g : Fate) (n : ℕ) → p ≡ q → f ≡ g → IsSeen sound bounds p spot f n → IsSeen sound bounds q spot g n
seen-there sound bounds p q spot f g n there same seen =
    subst (λ (l : List ℕ). IsSeen sound bounds l spot g n) there (subst (λ (h : Fate). IsSeen sound bounds p spot h n) same seen)

-- what is known of a page that is read
pub record IsKnown (names : Names) (sound : SoundTree) (b k : ℕ) : Type 0 where
  pub not_meta : b ≢ 0
  pub inside : b < block_count sound
  pub used : is_idle (held_block names sound b) ≡ false
  pub leaf : is_leaf (opaque_of (held_block names sound b)) ≡ true
  pub alive : 1 ≤ k → is_half_dead (opaque_of (held_block names sound b)) ≡ false

module _ (names : Names) (sound : SoundTree) (bounds : Bounds) (holds : HoldsTree names sound) (walk : GoesInSteps names sound bounds) where
  abbrev Standing : ℕ → ℕ → Type 0
  Standing b k = StandsBack is_killed (image_of names sound) (scan_on sound bounds) (back_on sound bounds) b k

  abbrev from_there : ℕ → ℕ → BackState (Entry Value Tid)
  from_there b k = from_place_back is_killed (image_of names sound) (scan_on sound bounds) (back_on sound bounds) b k

  abbrev entries_on : ℕ → List (Entry Value Tid)
  entries_on b = (page_image (index_columns sound).specs (index_columns sound).more (held_block names sound b)).entries

  steps : GoesBack is_killed (image_of names sound) (scan_on sound bounds) (back_on sound bounds) walk.some
  steps = walk.steps walk.some walk.wanted

  known-by : (b k : ℕ) → IsReadBack is_killed (image_of names sound) (scan_on sound bounds) (back_on sound bounds) b → k ≤ length (entries_on b) → IsKnown names sound b k
  known-by b k (inl ends) le =
      let s = steps.seeks b ends.seeks in
      record {
        not_meta = s.not_meta;
        inside = s.inside;
        used = s.used;
        leaf = ends.leaf;
        alive = λ some. (or_parts (right_of (back_on sound bounds).reaches (page_image (index_columns sound).specs (index_columns sound).more (held_block names sound b)).high_key) (is_half_dead (opaque_of (held_block names sound b))) ends.stays).1;
      }
  known-by b k (inr left) le =
      let v = steps.visits b left in
      record {
        not_meta = v.not_meta;
        inside = v.inside;
        used = v.used;
        leaf = v.leaf;
        alive = λ some. elim (cases_Bool (is_half_dead (opaque_of (held_block names sound b)))) [
          | inl dead ↦ absurd (let none : length (entries_on b) ≡ 0 = ap length (v.half_dead_empty dead) in omega (arith, none, le, some))
          | inr alive ↦ alive
        ];
      }

  pub known : (b k : ℕ) → Standing b k → IsKnown names sound b k
  known b k st = known-by b k st.read st.within

  pub readable-at : (b : ℕ) → b ≢ 0 → b < block_count sound → is_idle (held_block names sound b) ≡ false → IsReadable (index_columns sound) (held_block names sound b)
  readable-at b not_meta inside used = page-readable (index_columns sound) (block_count sound) (held_block names sound) b (holds.pages.pages b not_meta inside used)

  -- SPOTS

  pub state-there : (spot : Spot) (b : ℕ) → spot.block ≡ b → b ≢ 0 → state_at names sound bounds spot ≡ from_there b (left_on (index_columns sound) (held_block names sound b) spot.item spot.nth)
  unfolding state_at
  state-there spot b is some =
      cond-false (spot.block == 0) _ _ (ne_eqb spot.block 0 (λ e. some (sym is ∙ e)))
      ∙ ap (λ (c : ℕ). from_there c (left_on (index_columns sound) (held_block names sound c) spot.item spot.nth)) is

  pub stands-there : (spot : Spot) (b : ℕ) (page : List ℕ) → spot.block ≡ b → b ≢ 0 → page ≡ held_block names sound b
      → IsBackPlace (index_columns sound) (held_block names sound b) spot.item spot.nth
      → Standing b (left_on (index_columns sound) (held_block names sound b) spot.item spot.nth)
      → StandsAt names sound bounds spot page
  stands-there spot b page is some hand place stands = record {
    nowhere = λ none. absurd (some (sym is ∙ none));
    in_hand = λ other. hand ∙ ap (held_block names sound) (sym is);
    place = λ other. subst (λ (c : ℕ). IsBackPlace (index_columns sound) (held_block names sound c) spot.item spot.nth) (sym is) place;
    comes = λ other. subst (λ (c : ℕ). Standing c (left_on (index_columns sound) (held_block names sound c) spot.item spot.nth)) (sym is) stands;
  }

  -- ALONG ONE LEAF

  module _ (old : Spot) (page : List ℕ) (some : old.block ≢ 0) (at : StandsAt names sound bounds old page) where
    abbrev held : List ℕ
    held = held_block names sound old.block

    abbrev left : ℕ
    left = left_on (index_columns sound) held old.item old.nth

    st : Standing old.block left
    st = at.comes some

    on : IsBackPlace (index_columns sound) held old.item old.nth
    on = at.place some

    pub old-state : state_at names sound bounds old ≡ from_there old.block left
    old-state = state-there old old.block refl some

    -- the page keeps its layout, and has the spot's item
    pub laid-out : page_rule_of Tree held ≡ None
    laid-out = let it = known old.block left st in (readable-at old.block it.not_meta it.inside it.used).laid_out

    pub place-within : old.item ≤ count_of held
    place-within = elim (cases_lt 0 old.item) [
      | inl more ↦ on.last (λ none. omega (arith, more, none))
      | inr none ↦ omega (arith, none)
    ]

    -- a spot of the page at an earlier place
    stays : (new : Spot) (j : ℕ) → new.block ≡ old.block → left_on (index_columns sound) held new.item new.nth ≡ j → IsBackPlace (index_columns sound) held new.item new.nth → Standing old.block j → StandsAt names sound bounds new page
    stays new j same is place stands =
        stands-there new old.block page same some (at.in_hand some) place (subst (λ (i : ℕ). Standing old.block i) (sym is) stands)

    new-state : (new : Spot) (j : ℕ) → new.block ≡ old.block → left_on (index_columns sound) held new.item new.nth ≡ j → state_at names sound bounds new ≡ from_there old.block j
    new-state new j same is = state-there new old.block same some ∙ ap (from_there old.block) is

    -- nothing is left
    finish : (rest_from names sound bounds (from_there old.block left) ≡ []) → (left_from names sound bounds (from_there old.block left) ≡ 0) → Finishes names sound bounds old old page
    finish rest visits =
        let r = ap (rest_from names sound bounds) old-state ∙ rest in
        let l = ap (left_from names sound bounds) old-state ∙ visits in
        record { stands = at; rest = r; left = l; new_rest = r; new_left = l }

    -- at an entry
    module _ (entry : 1 ≤ old.item) where
      not-front : old.item ≢ 0
      not-front none = omega (arith, entry, none)

      left-is : left ≡ place_of (index_columns sound) held old.item old.nth + 1
      left-is = left-entry (index_columns sound) held old.item old.nth not-front

      facts : IsKnown names sound old.block left
      facts = known old.block left st

      pub from : first_data held ≤ old.item
      from = on.from not-front

      pub last : old.item ≤ count_of held
      last = on.last not-front

      pub readable : IsReadable (index_columns sound) held
      readable = readable-at old.block facts.not_meta facts.inside facts.used

      pub is-leaf : is_leaf (opaque_of held) ≡ true
      is-leaf = facts.leaf

      pub is-alive : is_half_dead (opaque_of held) ≡ false
      is-alive = let more = left-is in facts.alive (omega (arith, more))

      pub has-entries : (i : ℕ) → i ≤ count_of held → first_data held ≤ i → HasEntries (index_columns sound) held i
      has-entries i to low = record {
        read = item-read (index_columns sound) held readable is-leaf is-alive i low to;
        some = keys-some (index_columns sound) held readable is-leaf is-alive i low to;
      }

      -- what an entry of the spot's item is
      there : (k : ℕ) → k < length (keys_at (index_columns sound) held old.item)
          → slice_get (entries_on old.block) (place_of (index_columns sound) held old.item k) ≡ slice_get (keys_at (index_columns sound) held old.item) k
      there k lt =
          ap (λ (es : List (Entry Value Tid)). slice_get es (place_of (index_columns sound) held old.item k)) (image-entries (index_columns sound) held is-leaf is-alive)
          ∙ entry-there (index_columns sound) held old.item k from last lt

      -- the spot before the item
      before-item : (new : Spot) → IsLastUpTo (index_columns sound) held (old.item - 1) new → (left_on (index_columns sound) held new.item new.nth ≡ entries_before (index_columns sound) held old.item) × IsBackPlace (index_columns sound) held new.item new.nth
      before-item new upto =
          let u = up-to (index_columns sound) held (old.item - 1) new upto (omega (arith, from, entry)) (omega (arith, last)) in
          let back : old.item - 1 + 1 ≡ old.item = omega (arith, entry) in
          (u.left ∙ ap (entries_before (index_columns sound) held) back, u.place)

      -- the entries of the item are passed over
      pub passes : (new : Spot) (count : ℕ) → new.block ≡ old.block → IsLastUpTo (index_columns sound) held (old.item - 1) new → IsSeen sound bounds held old Other count → Passes names sound bounds old new page
      passes new count same upto seen =
          let n = length (keys_at (index_columns sound) held old.item) in
          let j = entries_before (index_columns sound) held old.item in
          let now = before-item new upto in
          let whole = left-is in
          let inside : old.nth < n = omega (arith, seen.inside, seen.count_is) in
          let fates = seen.fates in
          let went = (steps.reads old.block left st).others j (omega (arith, whole)) (λ i e lo hi is.
          let m = i - j in
          let at_i : i ≡ place_of (index_columns sound) held old.item m = omega (arith, lo) in
          let within : m < n = omega (arith, lo, hi, whole, inside) in
          fates m e (sym (there m within) ∙ (ap (slice_get (entries_on old.block)) (sym at_i) ∙ is))) in
          let visits = went.0.left in
          let same_left : left_from names sound bounds (from_there old.block left) ≡ left_from names sound bounds (from_there old.block j) = omega (arith, visits) in
          record {
            stands = stays new j same now.0 now.1 went.1;
            rest = ap (rest_from names sound bounds) old-state ∙ went.0.rest ∙ sym (ap (rest_from names sound bounds) (new-state new j same now.0));
            left = ap (left_from names sound bounds) old-state ∙ same_left ∙ sym (ap (left_from names sound bounds) (new-state new j same now.0));
          }

      -- the entry at the spot is taken
      yields : (new : Spot) (count : ℕ) → new.block ≡ old.block → left_on (index_columns sound) held new.item new.nth ≡ place_of (index_columns sound) held old.item old.nth → IsBackPlace (index_columns sound) held new.item new.nth
          → IsSeen sound bounds held old Wanted count → Yields names sound bounds old new old page
      yields new count same is place seen =
          let j = place_of (index_columns sound) held old.item old.nth in
          let inside : old.nth < length (keys_at (index_columns sound) held old.item) = omega (arith, seen.inside, seen.count_is) in
          let fates = seen.fates in
          let it = get-some (keys_at (index_columns sound) held old.item) old.nth inside in
          let fate = fates old.nth it.0 it.1 in
          let one = (steps.reads old.block left st).wanted j it.0 left-is (there old.nth inside ∙ it.1) fate.0 fate.1 in
          record {
            stands = stays new j same is place one.2;
            entry = it.0;
            is = subst (λ (p : List ℕ). entry_on (index_columns sound) p old ≡ Some it.0) (sym (at.in_hand some)) it.1;
            rest = ap (rest_from names sound bounds) old-state ∙ one.0 ∙ sym (ap (λ (s : BackState (Entry Value Tid)). it.0 ∷ rest_from names sound bounds s) (new-state new j same is));
            left = ap (left_from names sound bounds) old-state ∙ one.1 ∙ sym (ap (left_from names sound bounds) (new-state new j same is));
          }

      pub takes : (new : Spot) (count : ℕ) → new.block ≡ old.block → IsSeen sound bounds held old Wanted count
          → (0 < old.nth → (new.item ≡ old.item) × (new.nth + 1 ≡ old.nth)) → (old.nth ≡ 0 → IsLastUpTo (index_columns sound) held (old.item - 1) new)
          → Yields names sound bounds old new old page
      takes new count same seen within next = elim (cases_lt 0 old.nth) [
        | inl more ↦
            let to = within more in
            let some_item : new.item ≢ 0 = λ none. omega (arith, entry, to.0, none) in
            let whole = left-entry (index_columns sound) held new.item new.nth some_item in
            let here : entries_before (index_columns sound) held new.item ≡ entries_before (index_columns sound) held old.item = ap (entries_before (index_columns sound) held) to.0 in
            let same_keys : length (keys_at (index_columns sound) held new.item) ≡ length (keys_at (index_columns sound) held old.item) = ap (λ (i : ℕ). length (keys_at (index_columns sound) held i)) to.0 in
            let low = from in
            let high = last in
            let at_left : left_on (index_columns sound) held new.item new.nth ≡ place_of (index_columns sound) held old.item old.nth = omega (arith, whole, here, to.1) in
            yields new count same at_left
            (record {
              front = λ none. absurd (some_item none);
              from = λ e. omega (arith, low, to.0);
              last = λ e. omega (arith, high, to.0);
              inside = λ e. omega (arith, same_keys, to.1, seen.inside, seen.count_is);
            })
            seen
        | inr none ↦
            let zero_nth : old.nth ≡ 0 = omega (arith, none) in
            let now = before-item new (next zero_nth) in
            let whole : entries_before (index_columns sound) held old.item ≡ place_of (index_columns sound) held old.item old.nth = omega (arith, zero_nth) in
            yields new count same (now.0 ∙ whole) now.1 seen
      ]

      -- an entry before the low bound
      pub ends-before : (count : ℕ) → IsSeen sound bounds held old Past count → Finishes names sound bounds old old page
      ends-before count seen =
          let inside : old.nth < length (keys_at (index_columns sound) held old.item) = omega (arith, seen.inside, seen.count_is) in
          let fates = seen.fates in
          let it = get-some (keys_at (index_columns sound) held old.item) old.nth inside in
          let one = (steps.reads old.block left st).before (place_of (index_columns sound) held old.item old.nth) it.0 left-is (there old.nth inside ∙ it.1) (fates old.nth it.0 it.1) in
          finish one.rest one.left

    -- before the first entry
    module _ (front : old.item ≡ 0) where
      none-left : left ≡ 0
      none-left = left-front (index_columns sound) held old.item old.nth front

      pub ends-first : (opaque_of held).prev ≡ 0 → Finishes names sound bounds old old page
      ends-first none = let one = (steps.reads old.block left st).first none-left none in finish one.rest one.left

      pub goes-left : (opaque_of held).prev ≢ 0 → Leaves names sound bounds old (opaque_of held).prev
      goes-left more =
          let one = (steps.reads old.block left st).previous none-left more in
          let visits = one.0.left in
          let same_left : left_from names sound bounds (from_there old.block left) ≡ left_from names sound bounds (Reads (opaque_of held).prev []) = omega (arith, visits) in
          record {
            comes = one.1;
            rest = ap (rest_from names sound bounds) old-state ∙ one.0.rest;
            left = ap (left_from names sound bounds) old-state ∙ same_left;
          }

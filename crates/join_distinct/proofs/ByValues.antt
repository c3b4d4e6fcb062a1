-- An index whose leaves are apart is searched by its values alone as well: so its entries rise by their values.
use Rattle.std.proofs.Common.{◌≡◌, ◌≢◌, ◌∙◌, ◌↔◌, ◌+◌, ◌⊎◌, ℕ, inl, inr, Bool, true, false, cond, List, [], ◌∷◌, length, refl, ap, sym, subst, arith}
use Rattle.std.specs.Prelude.{Contains, None, Option, Some, not, ◌&&◌, slice_index_or}
use Rattle.std.specs.Cmp.{IsTotalOrder, on_total, tied_itself}
use Rattle.std.specs.List.{AllAdjacentBelow, filter}
use Rattle.std.specs.Ordering.{is_le, is_lt, ordering_then}
use Rattle.std.specs.declared.cmp.Ordering.{Ordering}
use Rattle.std.specs.declared.cmp.Ordering.TheVariants.{Less, Equal, Greater}
use Rattle.std.proofs.lemmas.Bool.{and_from, and_parts, both_ways, cases_Bool, cond-true, not-true, not_from_false}
use Rattle.std.proofs.lemmas.List.Elements.{All-weaker}
use Rattle.std.proofs.lemmas.List.Sorted.{IsPermutation-sym}
use Rattle.outside.specs.Outside.{Names}
use Rattle.laws_search.specs.Keys.{Entry, Separator, compare_keys, compare_tids, compare_values}
use Rattle.laws_search.specs.Levels.{Row, is_live, level_rows, row_lower, row_page, row_role}
use Rattle.laws_search.specs.Order.{IsOrder, IsScan, Order, Scan}
use Rattle.laws_search.specs.Search.{entries_of, is_wanted}
use Rattle.laws_search.specs.Searchable.{EntryAbove, IfFirst, IsInUse, IsSearchable, IsSoundLevel, IsSoundPage, KeyAbove}
use Rattle.laws_search.proofs.Columns.{flip_greater, less_le, then_less}
use Rattle.laws_search.proofs.Gather.{In-from_Contains}
use Rattle.laws_search.proofs.Keys.{lt_less}
use Rattle.laws_search.proofs.Lists.{Each-in, In}
use Rattle.laws_search.proofs.Rising.{Rising, rising_from_adjacent}
use Rattle.laws_search.proofs.Unique.{In-permutation}
use Rattle.laws_search.proofs.Whole.{finds}
use Rattle.key_orders.specs.declared.columns.KeySpec.{KeySpec}
use Rattle.key_orders.specs.declared.columns.Value.{Value}
use Rattle.key_orders.specs.declared.Tid.{Tid}
use Rattle.key_orders.specs.Keys.{columns_of, tid_order}
use Rattle.key_orders.specs.Scans.{order_of}
use Rattle.bt_meta.specs.Flags.{is_half_dead, is_leaf}
use Rattle.bt_meta.specs.Pages.{is_idle, opaque_of}
use Rattle.bt_image.specs.Image.{TreeIndex, has_high_key, page_keys}
use Rattle.bt_levels.specs.declared.sound.SoundTree.{SoundTree}
use Rattle.bt_levels.specs.Sound.{held_block, image_of, index_columns, specs_of}
use Rattle.bt_steps.specs.WayLaws.{total}
use Rattle.join_distinct.specs.Apart.{AreApart, IsApart}

abbrev Item : Type 0
Item = Entry Value Tid

abbrev Key : Type 0
Key = Separator Value Tid

-- a filter keeps what passes
kept : {X : Type 0} (test : X → Bool) (xs : List X) (x : X) → test x ≡ true → In x xs → In x (filter test xs)
kept test [] x passes h = absurd h
kept {X} test (y ∷ ys) x passes h = by (λ k. kept test ys x passes k) (test y) refl h
  where
    by : (In x ys → In x (filter test ys)) → (b : Bool) → test y ≡ b → (x ≡ y) ⊎ In x ys → In x (cond b (y ∷ filter test ys) (filter test ys))
    by rest true is (inl e) = inl e
    by rest true is (inr k) = inr (rest k)
    by rest false is (inl e) = absurd (both_ways (test y) is (ap test (sym e) ∙ passes))
    by rest false is (inr k) = rest k

-- Answers of comparisons

then-equal : (o : Ordering) → ordering_then o Equal ≡ o
then-equal Less = refl
then-equal Equal = refl
then-equal Greater = refl

less-greater : Less ≡ Greater → ⊥
less-greater e = absurd cc

equal-greater : Equal ≡ Greater → ⊥
equal-greater e = absurd cc

low-or_less : (a : Ordering) → is_le (ordering_then a Greater) ≡ true → is_lt a ≡ true
low-or_less Less h = refl
low-or_less Equal h = absurd cc
low-or_less Greater h = absurd cc

above-not_less : (a c : Ordering) → is_le (ordering_then a c) ≡ false → is_lt a ≡ false
above-not_less Less c h = absurd cc
above-not_less Equal c h = refl
above-not_less Greater c h = refl

-- the high key of a page that has one
key-is : (b : Bool) (s t : Key) → cond b (Some s) None ≡ Some t → (b ≡ true) × (s ≡ t)
key-is true s t e = (refl, inner e)
  where
    inner : ◌≡◌ {A = Option Key} (Some s) (Some t) → s ≡ t
    inner h = cc
key-is false s t e = absurd cc

-- A scan of all entries

abbrev all : Scan Key Item
all = record { goes_right = λ s. false; matches = λ e. true; past_high = λ e. false }

abbrev none-killed : Item → Bool
none-killed e = false

module _ (specs : List KeySpec) (same_key : (s t : Key) → (compare_keys (columns_of specs) tid_order s t ≡ Equal) ↔ (s ≡ t)) where
  abbrev compare : List Value → List Value → Ordering
  compare a b = compare_values (columns_of specs) 0 a b

  abbrev bare : List Value → Key
  bare values = record { kept = values; tid = None }

  values-total : IsTotalOrder compare
  values-total = subst (λ (R : List Value → List Value → Ordering). IsTotalOrder R) (λ i a b. then-equal (compare a b) i) (on_total bare (total specs))

  equal-is : (a b : List Value) → compare a b ≡ Equal → a ≡ b
  equal-is a b e = ap (λ (s : Key). s.kept) ((same_key (bare a) (bare b)).0 (then-equal (compare a b) ∙ e))

  -- the order by values alone
  abbrev by_values : Order Key Item
  by_values = record {
    precedes = λ d e. is_lt (compare d.values e.values);
    within = λ e s. is_lt (compare e.values s.kept);
    under = λ s t. is_lt (compare_keys (columns_of specs) tid_order s t);
  }

  not-above : (s t : Key) → by_values.under s t ≡ true → compare s.kept t.kept ≢ Greater
  not-above s t h greater = elim (then_less (compare s.kept t.kept) (compare_tids tid_order s.tid t.tid) (lt_less _ h)) [
    | inl less ↦ less-greater (sym less ∙ greater)
    | inr both ↦ equal-greater (sym both.0 ∙ greater)
  ]

  at-or_above : (e : Item) (s : Key) → by_values.within e s ≡ false → compare s.kept e.values ≢ Greater
  at-or_above e s h greater = both_ways (is_lt (compare e.values s.kept)) h (ap is_lt (flip_greater compare values-total s.kept e.values greater))

  ordered-so : IsOrder by_values
  ordered-so =
      let t = values-total in
      record {
        across = λ d e s p q. ap is_lt (less_le compare t d.values s.kept e.values (lt_less _ p) (compare s.kept e.values) refl (at-or_above e s q));
        higher = λ e s u p q. ap is_lt (less_le compare t e.values s.kept u.kept (lt_less _ p) (compare s.kept u.kept) refl (not-above s u q));
        lower = λ d e s p q. ap is_lt (t.trans d.values e.values s.kept (lt_less _ p) (lt_less _ q));
        strict = λ e. ap is_lt (tied_itself t e.values);
        chained = λ c d e p q. ap is_lt (t.trans c.values d.values e.values (lt_less _ p) (lt_less _ q));
      }

  scans-all : IsScan by_values all
  scans-all = record {
    none_left = λ e s goes within. absurd (let clash : false ≡ true = goes in cc);
    none_past = λ e past. absurd (let clash : false ≡ true = past in cc);
    stays_past = λ d e past below. absurd (let clash : false ≡ true = past in cc);
  }

  -- From the order of keys to that of values

  below-of : (d e : Item) → (order_of specs).precedes d e ≡ true → d.values ≢ e.values → by_values.precedes d e ≡ true
  below-of d e up differ = elim (then_less (compare d.values e.values) (tid_order d.tid e.tid) (lt_less _ up)) [
    | inl less ↦ ap is_lt less
    | inr both ↦ absurd (differ (equal-is d.values e.values both.0))
  ]

  within-of : (e : Item) (s : Key) → s.tid ≡ None → (order_of specs).within e s ≡ true → by_values.within e s ≡ true
  within-of e s none h =
      low-or_less (compare e.values s.kept)
      (ap (λ (t : Option Tid). is_le (ordering_then (compare e.values s.kept) (compare_tids tid_order (Some e.tid) t))) (sym none) ∙ h)

  key-above : (lower : Option Key) (t : Key) → KeyAbove (order_of specs) lower t → KeyAbove by_values lower t
  key-above None t h = tt
  key-above (Some s) t h = h

  entry-above : (lower : Option Key) (e : Item) → EntryAbove (order_of specs) lower e → EntryAbove by_values lower e
  entry-above None e h = tt
  entry-above (Some s) e h = above-not_less (compare e.values s.kept) (compare_tids tid_order (Some e.tid) s.tid) h

  -- two entries of a list that rises by values
  never-below : (d e : Item) → d.values ≡ e.values → by_values.precedes d e ≡ true → ⊥
  never-below d e same below = both_ways (is_lt (compare d.values e.values)) (ap (λ (v : List Value). is_lt (compare d.values v)) (sym same) ∙ ordered-so.strict d) below

  same-entry : (es : List Item) (d e : Item) → Rising by_values es → In d es → In e es → d.values ≡ e.values → d ≡ e
  same-entry [] d e rises first second same = absurd first
  same-entry (x ∷ xs) d e rises (inl a) (inl b) same = a ∙ sym b
  same-entry (x ∷ xs) d e rises (inl a) (inr k) same =
      absurd (never-below d e same (subst (λ (y : Item). by_values.precedes y e ≡ true) (sym a) (Each-in (λ y. by_values.precedes x y ≡ true) e xs rises.0 k)))
  same-entry (x ∷ xs) d e rises (inr k) (inl b) same =
      absurd (never-below e d (sym same) (subst (λ (y : Item). by_values.precedes y d ≡ true) (sym b) (Each-in (λ y. by_values.precedes x y ≡ true) d xs rises.0 k)))
  same-entry (x ∷ xs) d e rises (inr j) (inr k) same = same-entry xs d e rises.1 j k same

  level-so : (x : TreeIndex) (n : ℕ) → IsSoundLevel (order_of specs) x n → IsSoundLevel by_values x n
  level-so x n so = record {
    no_circle = so.no_circle;
    in_order = so.in_order;
    no_half_dead = so.no_half_dead;
    live_or_dead = so.live_or_dead;
    separators = so.separators;
    key_above =
        All-weaker (λ (r : Row Key). is_live (row_role r) ≡ true → (s : Key) → (x.page (row_page r)).high_key ≡ Some s → KeyAbove (order_of specs) (row_lower r) s)
        (λ (r : Row Key). is_live (row_role r) ≡ true → (s : Key) → (x.page (row_page r)).high_key ≡ Some s → KeyAbove by_values (row_lower r) s)
        (λ r h live s is. key-above (row_lower r) s (h live s is)) (level_rows x n) so.key_above;
    entry_above =
        All-weaker (λ (r : Row Key). is_live (row_role r) ≡ true → IfFirst (x.page (row_page r)).entries (EntryAbove (order_of specs) (row_lower r)))
        (λ (r : Row Key). is_live (row_role r) ≡ true → IfFirst (x.page (row_page r)).entries (EntryAbove by_values (row_lower r)))
        (λ r h live e first. entry-above (row_lower r) e (h live e first)) (level_rows x n) so.entry_above;
    last_live = so.last_live;
  }

module _ (names : Names) (tree : SoundTree) (same_key : (s t : Key) → (compare_keys (columns_of (specs_of tree)) tid_order s t ≡ Equal) ↔ (s ≡ t)) (fits : IsSearchable (order_of (specs_of tree)) (image_of names tree)) (apart : AreApart names tree) where
  abbrev image : TreeIndex
  image = image_of names tree

  abbrev page : ℕ → List ℕ
  page b = held_block names tree b

  abbrev order : Order Key Item
  order = by_values (specs_of tree) same_key

  -- a leaf in use that isn't half-dead is apart
  leaf-apart : (b : ℕ) → IsInUse image b → is_leaf (opaque_of (page b)) ≡ true → is_half_dead (opaque_of (page b)) ≡ false → IsApart (index_columns tree) (page b)
  leaf-apart b used leaf alive =
      let not-meta = used.not_meta in
      apart b (omega (arith, not-meta)) used.inside
      (and_from (is_leaf (opaque_of (page b))) _ leaf (and_from (not (is_idle (page b))) _ (not_from_false _ used.used) (not_from_false _ alive)))

  -- Its entries rise by their values

  entries-are : (b : ℕ) → is_leaf (opaque_of (page b)) ≡ true → is_half_dead (opaque_of (page b)) ≡ false → (image.page b).entries ≡ page_keys (index_columns tree).specs (index_columns tree).more (page b)
  entries-are b leaf alive = cond-true _ _ _ (and_from (is_leaf (opaque_of (page b))) _ leaf (not_from_false _ alive))

  rise-so : (es : List Item) → AllAdjacentBelow (λ d e. (order_of (specs_of tree)).precedes d e ≡ true) es (length es) → AllAdjacentBelow (λ d e. d.values ≢ e.values) es (length es) → AllAdjacentBelow (λ d e. order.precedes d e ≡ true) es (length es)
  rise-so es up differ = λ k d l. below-of (specs_of tree) same_key (slice_index_or es k d) (slice_index_or es (k + 1) d) (up k d l) (differ k d l)

  rising-so : (b : ℕ) → IsInUse image b → (image.page b).leaf ≡ true → AllAdjacentBelow (λ d e. order.precedes d e ≡ true) (image.page b).entries (length (image.page b).entries)
  rising-so b used leaf = elim (cases_Bool (is_half_dead (opaque_of (page b)))) [
    | inl dead ↦
        subst (λ (es : List Item). AllAdjacentBelow (λ d e. order.precedes d e ≡ true) es (length es)) (sym ((fits.pages b used).half_dead_empty dead)) (λ k d l. absurd (omega (arith, l)))
    | inr alive ↦
        rise-so (image.page b).entries ((fits.pages b used).rising leaf)
        (subst (λ (es : List Item). AllAdjacentBelow (λ d e. d.values ≢ e.values) es (length es)) (sym (entries-are b leaf alive)) (leaf-apart b used leaf alive).entries)
  ]

  -- and its high key keeps no TID
  no-tid : (b : ℕ) → IsInUse image b → (image.page b).leaf ≡ true → (s : Key) → (image.page b).high_key ≡ Some s → s.tid ≡ None
  no-tid b used leaf s high =
      let k = key-is (has_high_key (page b) && not (is_half_dead (opaque_of (page b)))) _ s high in
      let both = and_parts (has_high_key (page b)) _ k.0 in
      ap (λ (t : Key). t.tid) (sym k.1) ∙ (leaf-apart b used leaf (not-true _ both.1)).high_key both.0

  page-so : (b : ℕ) → IsInUse image b → IsSoundPage order image b
  page-so b used =
      let so = fits.pages b used in
      record {
        leaf_below = so.leaf_below;
        leaf_if_below = so.leaf_if_below;
        half_dead_leaf = so.half_dead_leaf;
        half_dead_empty = so.half_dead_empty;
        no_high_key = so.no_high_key;
        a_high_key = so.a_high_key;
        has_child = so.has_child;
        rising = rising-so b used;
        last_within = λ leaf s high e last. within-of (specs_of tree) same_key e s (no-tid b used leaf s high) (so.last_within leaf s high e last);
        right_sibling = so.right_sibling;
        left_sibling = so.left_sibling;
        child = so.child;
      }

  searched-so : IsSearchable order image
  searched-so = record {
    root_or_empty = fits.root_or_empty;
    pages = page-so;
    root = fits.root;
    fast = fits.fast;
    fast_below = fits.fast_below;
    levels = λ some n le. level-so (specs_of tree) same_key image n (fits.levels some n le);
    fast_first = fits.fast_first;
    fast_alone = fits.fast_alone;
    reached = fits.reached;
  }

  -- The law

  pub no-equal : (d e : Item) → Contains (entries_of image) d → Contains (entries_of image) e → d.values ≡ e.values → d ≡ e
  no-equal d e first second same =
      let laws = ordered-so (specs_of tree) same_key in
      let found = finds order image laws searched-so none-killed all (scans-all (specs_of tree) same_key) in
      let es : List Item = found.0 in
      let wanted = filter (is_wanted none-killed all) (entries_of image) in
      let among : (x : Item) → Contains (entries_of image) x → In x es =
      λ x has. In-permutation wanted es x (IsPermutation-sym es wanted found.1.all_of_them) (kept (is_wanted none-killed all) (entries_of image) x refl (In-from_Contains (entries_of image) x has)) in
      same-entry (specs_of tree) same_key es d e (rising_from_adjacent order laws es found.1.rising) (among d first) (among e second) same

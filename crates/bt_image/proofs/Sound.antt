-- An index whose blocks break no rule of their own has a sound image.
use Rattle.std.proofs.Common.{◌≡◌, ◌↔◌, ℕ, suc, ◌+◌, ◌-◌, ◌<◌, ◌≤◌, inl, inr, Bool, true, false, cond, List, [], length, refl, ap, sym, subst, ◌∙◌, arith}
use Rattle.std.specs.Prelude.{Option, Some, None, not, ◌&&◌, slice_get}
use Rattle.std.specs.List.{All, AllAdjacentBelow, flat_map}
use Rattle.std.proofs.lemmas.Bool.{and_from, and_parts, not-true, and_left, and_right, both_ways, cases_Bool, cond-false, cond-true, eq-eqb, eqb-true, ltb-true, not-false, not_from_false, not_from_true, or_parts, and_cases, cases_lt}
use Rattle.std.proofs.lemmas.List.Elements.{All-from_recursion}
use Rattle.page_layout.specs.Page.{count_of}
use Rattle.std.specs.Ordering.{ordering_then}
use Rattle.std.specs.declared.cmp.Ordering.{Ordering}
use Rattle.std.specs.declared.cmp.Ordering.TheVariants.{Less, Equal, Greater}
use Rattle.key_orders.specs.Keys.{columns_of, tid_order}
use Rattle.laws_search.specs.Keys.{Entry, Separator, compare_keys, compare_values}
use Rattle.laws_search.specs.Searchable.{IfLast, IsInUse, IsSoundPage}
use Rattle.key_orders.specs.declared.columns.KeySpec.{KeySpec}
use Rattle.key_orders.specs.declared.columns.Value.{Value}
use Rattle.key_orders.specs.declared.more.MoreSpec.{MoreSpec}
use Rattle.key_orders.specs.declared.Tid.{Tid}
use Rattle.key_orders.specs.Scans.{order_of}
use Rattle.bt_meta.specs.Flags.{is_half_dead, is_leaf}
use Rattle.bt_meta.specs.Pages.{has_bad_root, is_just_one_zero, meta_of, opaque_of}
use Rattle.bt_image.specs.Image.{downlink_in, first_data, has_high_key, index_image, item_at, keys_in, numbers_from, page_keys, separator_in}
use Rattle.bt_tuples.specs.Keys.{first_key, last_key}
use Rattle.bt_image.specs.Pages.{KeepsPage, first_compared, is_key_below, is_key_within}
use Rattle.bt_image.proofs.PageFields.{down_good, each_number, first_cases, half_dead_leaf, has_item, high_key_is, leaf_below, leaf_high_key_kept, leaf_if_below, leaf_item_good, leaf_spot, left_good, no_high_key_is, not_none, numbers_none, order_kept, right_good}
use Rattle.bt_image.proofs.Rises.{AreSame, EndsWith, IsGood, RisesFrom, adjacent_from, items_end, items_rise, last_has}

-- ONE LEAF, in use and not half-dead

leaf_good : (specs : List KeySpec) (more : List MoreSpec) (blocks : ℕ) (block : ℕ → List ℕ) (b : ℕ) → KeepsPage specs more blocks block b → is_leaf (opaque_of (block b)) ≡ true → is_half_dead (opaque_of (block b)) ≡ false → (j : ℕ) → first_data (block b) ≤ j → j ≤ count_of (block b) → IsGood (item_at specs more (block b) j)
leaf_good specs more blocks block b kept leaf dead j from to =
    let page = block b in
    let one = first_cases page in
    leaf_item_good specs more page j _ (leaf_spot page j leaf from) (kept.items dead j (omega (arith, one, from)) to).rules

keys_rise : (specs : List KeySpec) (more : List MoreSpec) (blocks : ℕ) (block : ℕ → List ℕ) (b : ℕ) → AreSame specs → KeepsPage specs more blocks block b → is_leaf (opaque_of (block b)) ≡ true → is_half_dead (opaque_of (block b)) ≡ false → RisesFrom specs None (page_keys specs more (block b))
keys_rise specs more blocks block b same kept leaf dead =
    let page = block b in
    let second : first_compared page ≡ first_data page + 1 = cond-true (is_leaf (opaque_of page)) _ _ leaf in
    items_rise specs (item_at specs more page) (first_data page) (count_of page + 1 - first_data page) None same
    (λ j from to. leaf_good specs more blocks block b kept leaf dead j from (omega (arith, from, to)))
    (λ some. tt)
    (λ j from to.
    let back : j + 1 - 1 ≡ j = omega arith in
    let here = order_kept specs more page (j + 1) (kept.order dead (j + 1) (record { from = omega (arith, from); to = omega (arith, from, to) })) (omega (arith, second, from)) in
    subst (λ k. is_key_below specs (last_key (item_at specs more page k)) (first_key (item_at specs more page (j + 1))) ≡ true) back here)

-- the key of the last entry, where there is a data item
keys_end : (specs : List KeySpec) (more : List MoreSpec) (blocks : ℕ) (block : ℕ → List ℕ) (b : ℕ) → KeepsPage specs more blocks block b → is_leaf (opaque_of (block b)) ≡ true → is_half_dead (opaque_of (block b)) ≡ false → first_data (block b) ≤ count_of (block b) → EndsWith (last_key (item_at specs more (block b) (count_of (block b)))) (page_keys specs more (block b))
keys_end specs more blocks block b kept leaf dead some =
    let page = block b in
    let f = first_data page in
    let n = count_of page in
    let to : f + (n - f) ≡ n = omega (arith, some) in
    let count : suc (n - f) ≡ n + 1 - f = omega (arith, some) in
    let end = items_end (item_at specs more page) f (n - f) (subst (λ k. IsGood (item_at specs more page k)) (sym to) (leaf_good specs more blocks block b kept leaf dead n some (omega arith))) in
    subst (λ k. EndsWith (last_key (item_at specs more page n)) (flat_map (λ j. keys_in (item_at specs more page j)) (numbers_from f k))) count
    (subst (λ k. EndsWith (last_key (item_at specs more page k)) (flat_map (λ j. keys_in (item_at specs more page j)) (numbers_from f (suc (n - f))))) to end)

-- the high key of a page that has one
key_is : (b : Bool) (s t : Separator Value Tid) → cond b (Some s) None ≡ Some t → (b ≡ true) × (s ≡ t)
key_is true s t e = (refl, inner e)
  where
    inner : Some s ≡ Some t → s ≡ t
    inner h = cc
key_is false s t e = absurd cc

no_entry : (e : Entry Value Tid) (es : List (Entry Value Tid)) → es ≡ [] → slice_get es (length es - 1) ≡ Some e → ⊥
no_entry e es none last = clash (ap (λ (xs : List (Entry Value Tid)). slice_get xs (length xs - 1)) (sym none) ∙ last)
  where
    clash : ◌≡◌ {A = Option (Entry Value Tid)} None (Some e) → ⊥
    clash h = cc

last_entry_within : (specs : List KeySpec) (more : List MoreSpec) (blocks : ℕ) (block : ℕ → List ℕ) (b : ℕ) → KeepsPage specs more blocks block b → is_leaf (opaque_of (block b)) ≡ true → is_half_dead (opaque_of (block b)) ≡ false → has_high_key (block b) ≡ true → (e : Entry Value Tid) → slice_get (page_keys specs more (block b)) (length (page_keys specs more (block b)) - 1) ≡ Some e → (order_of specs).within e (separator_in (item_at specs more (block b) 1)) ≡ true
last_entry_within specs more blocks block b kept leaf dead high e last =
    let page = block b in
    elim (cases_lt (count_of page) (first_data page)) [
      | inl none ↦ absurd (no_entry e (page_keys specs more page) (ap (flat_map (λ j. keys_in (item_at specs more page j))) (numbers_none (first_data page) (count_of page + 1 - first_data page) (omega (arith, none)))) last)
      | inr some ↦
          let key = last_has _ (page_keys specs more page) e (keys_end specs more blocks block b kept leaf dead some) last in
          subst (λ s. is_key_within specs s (separator_in (item_at specs more page 1)) ≡ true) (sym key) (leaf_high_key_kept specs more page (kept.high_key dead) leaf high some)
    ]

-- ANY PAGE IN USE

pub page_sound : (specs : List KeySpec) (more : List MoreSpec) (blocks : ℕ) (block : ℕ → List ℕ) (b : ℕ) → AreSame specs → KeepsPage specs more blocks block b → IsSoundPage (order_of specs) (index_image specs more blocks block) b
page_sound specs more blocks block b same kept =
    let page = block b in
    let x = index_image specs more blocks block in
    record {
      leaf_below = leaf_below page kept.level;
      leaf_if_below = leaf_if_below page kept.level;
      half_dead_leaf = half_dead_leaf page kept.half_dead;
      half_dead_empty = λ dead. cond-false _ _ _ (and_right (is_leaf (opaque_of page)) _ (not_from_true _ dead));
      no_high_key = λ none. cond-false _ _ _ (and_left (has_high_key page) _ (no_high_key_is page none));
      a_high_key = λ dead some. (separator_in (item_at specs more page 1), cond-true _ _ _ (and_from (has_high_key page) _ (high_key_is page some) (not_from_false _ dead)));
      has_child = λ inner none.
          let some = has_item page kept.some_items inner in
          not_none _ (first_data page) (count_of page + 1 - first_data page) (count_of page - first_data page) (omega (arith, some)) (sym (cond-false (is_leaf (opaque_of page)) _ _ inner) ∙ none);
      rising = λ leaf. elim (cases_Bool (is_half_dead (opaque_of page))) [
        | inl dead ↦ subst (λ (es : List (Entry Value Tid)). AllAdjacentBelow (λ d e. (order_of specs).precedes d e ≡ true) es (length es)) (sym (cond-false _ _ _ (and_right (is_leaf (opaque_of page)) _ (not_from_true _ dead)))) (adjacent_from specs None [] tt)
        | inr alive ↦ subst (λ (es : List (Entry Value Tid)). AllAdjacentBelow (λ d e. (order_of specs).precedes d e ≡ true) es (length es)) (sym (cond-true _ _ _ (and_from (is_leaf (opaque_of page)) _ leaf (not_from_false _ alive)))) (adjacent_from specs None _ (keys_rise specs more blocks block b same kept leaf alive))
      ];
      last_within = λ leaf s high.
          let k = key_is (has_high_key page && not (is_half_dead (opaque_of page))) _ s high in
          let both = and_parts (has_high_key page) _ k.0 in
          let alive = not-true _ both.1 in
          subst (λ (es : List (Entry Value Tid)). IfLast es (λ e. (order_of specs).within e s ≡ true)) (sym (cond-true _ _ _ (and_from (is_leaf (opaque_of page)) _ leaf both.1)))
          (λ e last. subst (λ t. (order_of specs).within e t ≡ true) k.1 (last_entry_within specs more blocks block b kept leaf alive both.0 e last));
      right_sibling = λ some.
          let g = right_good blocks block b kept.siblings some in
          (record { not_meta = some; inside = g.0; used = g.1 }, g.2, g.3);
      left_sibling = λ some.
          let g = left_good blocks block b kept.siblings some in
          (record { not_meta = some; inside = g.0; used = g.1 }, g.2, g.3);
      child = λ inner.
          subst (All (λ c. IsInUse x c.1 × ((x.page c.1).level + 1 ≡ (x.page b).level))) (sym (cond-false (is_leaf (opaque_of page)) _ _ inner))
          (All-from_recursion _ _ (each_number (λ c. IsInUse x c.1 × ((x.page c.1).level + 1 ≡ (x.page b).level)) (λ i. (separator_in (item_at specs more page i), downlink_in (item_at specs more page i))) (first_data page) (count_of page + 1 - first_data page)
          (λ j from to.
          let g = down_good blocks block _ _ (kept.downlinks inner j (record { from = from; to = omega (arith, from, to) })) in
          (record { not_meta = g.0; inside = g.1; used = g.2 }, g.3))));
    }

-- THE INDEX

-- one of two numbers is 0 exactly where the other is
both_zero : (m n : ℕ) → is_just_one_zero m n ≡ false → (m ≡ 0) ↔ (n ≡ 0)
both_zero m n h =
    let parts = or_parts _ _ h in (
      λ e. elim (and_cases _ _ parts.0) [ inl f ↦ absurd (both_ways _ f (eq-eqb m 0 e)) | inr f ↦ eqb-true _ _ (not-false _ f) ],
      λ e. elim (and_cases _ _ parts.1) [ inl f ↦ absurd (both_ways _ f (eq-eqb n 0 e)) | inr f ↦ eqb-true _ _ (not-false _ f) ],
    )

pub roots : (specs : List KeySpec) (blocks : ℕ) (block : ℕ → List ℕ) → has_bad_root blocks (meta_of (block 0)) ≡ false → ((meta_of (block 0)).root < blocks) × ((meta_of (block 0)).fastroot < blocks) × (((meta_of (block 0)).root ≡ 0) ↔ ((meta_of (block 0)).fastroot ≡ 0))
unfolding has_bad_root
roots specs blocks block h =
    let h1 = or_parts _ _ h in
    let h2 = or_parts _ _ h1.0 in
    (ltb-true _ _ (not-false _ h2.0), ltb-true _ _ (not-false _ h2.1), both_zero _ _ h1.1)

-- the values of a key are equal to themselves, since whole keys are
then_equal : (o : Ordering) → ordering_then o Equal ≡ o
then_equal Less = refl
then_equal Equal = refl
then_equal Greater = refl

pub same_values : (specs : List KeySpec) → ((s : Separator Value Tid) → compare_keys (columns_of specs) tid_order s s ≡ Equal) → AreSame specs
same_values specs same values = sym (then_equal (compare_values (columns_of specs) 0 values values)) ∙ same (record { kept = values; tid = None })

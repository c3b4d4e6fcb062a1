-- The items of a page that a search goes right of come before the others, so that the last of them is found by halves.
use Rattle.std.proofs.Common.{◌≡◌, ◌≢◌, ℕ, zero, suc, ◌+◌, ◌-◌, ◌<◌, ◌≤◌, inl, inr, Bool, true, false, List, [], length, map, refl, ap, sym, subst, ◌∙◌, arith}
use Rattle.std.specs.List.{filter}
use Rattle.std.proofs.lemmas.Bool.{cases_Bool, cases_lt, cond-false, cond-true, le-ltb, ne_eqb}
use Rattle.laws_search.specs.Keys.{IsSeparatorOf, Separator}
use Rattle.laws_search.specs.Search.{last_or}
use Rattle.page_layout.specs.Page.{count_of}
use Rattle.key_orders.specs.declared.columns.Value.{Value}
use Rattle.key_orders.specs.declared.Tid.{Tid}
use Rattle.key_orders.specs.Scans.{order_of}
use Rattle.key_attrs.specs.Columns.{TreeColumns}
use Rattle.bt_meta.specs.Flags.{is_half_dead, is_leaf}
use Rattle.bt_meta.specs.Pages.{opaque_of}
use Rattle.bt_tuples.specs.declared.items.Spot3.TheVariants.{Inner, LeafItem}
use Rattle.bt_tuples.specs.Keys.{first_key, last_key}
use Rattle.bt_image.specs.Image.{first_data, item_at, numbers_from, spot_of}
use Rattle.bt_image.specs.Pages.{IsPlainItem, first_compared, is_key_below}
use Rattle.bt_image.proofs.PageFields.{first_cases, order_kept}
use Rattle.bt_steps.specs.Pages.{IsReadable}
use Rattle.bt_steps.specs.Ways.{Goes, GoesLower, is_passed}
use Rattle.bt_steps.proofs.Separators.{first-is, is-separator, last-is}

-- The last of a list that a test passes

module _ {X : Type 0} (g : ℕ → X) (p : X → Bool) where
  none-passes : (i n : ℕ) → ((j : ℕ) → i ≤ j → j < i + n → p (g j) ≡ false) → filter p (map g (numbers_from i n)) ≡ []
  none-passes i zero h = refl
  none-passes i (suc n) h =
      cond-false (p (g i)) _ _ (h i (omega arith) (omega arith)) ∙ none-passes (suc i) n (λ j from to. h j (omega (arith, from)) (omega (arith, to)))

  pub last-passes : (c : X) (i n r : ℕ) → i ≤ r + 1 → r < i + n → (i ≡ r + 1 → c ≡ g r) → ((j : ℕ) → i ≤ j → j ≤ r → p (g j) ≡ true) → ((j : ℕ) → r < j → j < i + n → p (g j) ≡ false)
      → last_or c (filter p (map g (numbers_from i n))) ≡ g r
  last-passes c i zero r from to here yes_ no_ =
      here (omega (arith, from, to))
  last-passes c i (suc n) r from to here yes_ no_ = elim (cases_lt r i) [
    | inl past ↦
        ap (last_or c) (none-passes i (suc n) (λ j low high. no_ j (omega (arith, past, low)) high)) ∙ here (omega (arith, from, past))
    | inr within ↦
        ap (last_or c) (cond-true (p (g i)) _ _ (yes_ i (omega arith) within))
        ∙ last-passes (g i) (suc i) n r (omega (arith, within)) (omega (arith, to))
        (λ e. ap g (omega (arith, e)))
        (λ j low high. yes_ j (omega (arith, low)) high)
        (λ j low high. no_ j low (omega (arith, high)))
  ]

-- The first keys of a page's items

module _ (columns : TreeColumns) (page : List ℕ) where
  abbrev pub key : ℕ → Separator Value Tid
  key j = first_key (item_at columns.specs columns.more page j)

  -- they are keys of the index, and rise, past the first data item
  pub record Rises : Type 0 where
    pub are_keys : (j : ℕ) → first_data page < j → j ≤ count_of page → IsSeparatorOf (length columns.specs) (key j)
    pub rise : (j : ℕ) → first_data page < j → j + 1 ≤ count_of page → (order_of columns.specs).under (key j) (key (j + 1)) ≡ true

  -- so those that a way goes right of come first
  module _ (goes : Goes) (laws : GoesLower columns.specs goes) (rises : Rises) where
    one-down : (j : ℕ) → first_data page < j → j + 1 ≤ count_of page → is_passed columns goes page (j + 1) ≡ true → is_passed columns goes page j ≡ true
    one-down j past to passed =
        laws.lower (key j) (key (j + 1)) (rises.are_keys j past (omega (arith, to))) (rises.are_keys (j + 1) (omega (arith, past)) to) (rises.rise j past to) passed

    down : (d j : ℕ) → first_data page < j → j + d ≤ count_of page → is_passed columns goes page (j + d) ≡ true → is_passed columns goes page j ≡ true
    down zero j past to passed = subst (λ (k : ℕ). is_passed columns goes page k ≡ true) (let e : j + 0 ≡ j = omega arith in e) passed
    down (suc d) j past to passed =
        let e : j + suc d ≡ j + d + 1 = omega arith in
        down d j past (omega (arith, to)) (one-down (j + d) (omega (arith, past)) (omega (arith, to)) (subst (λ (k : ℕ). is_passed columns goes page k ≡ true) e passed))

    pub passed-down : (j k : ℕ) → first_data page < j → j ≤ k → k ≤ count_of page → is_passed columns goes page k ≡ true → is_passed columns goes page j ≡ true
    passed-down j k past le to passed =
        let e : k ≡ j + (k - j) = omega (arith, le) in
        down (k - j) j past (omega (arith, le, to)) (subst (λ (m : ℕ). is_passed columns goes page m ≡ true) e passed)

    pub stopped-up : (j k : ℕ) → first_data page < j → j ≤ k → k ≤ count_of page → is_passed columns goes page j ≡ false → is_passed columns goes page k ≡ false
    stopped-up j k past le to stopped = elim (cases_Bool (is_passed columns goes page k)) [
      | inl e ↦ absurd (let both : true ≡ false = sym (passed-down j k past le to e) ∙ stopped in cc)
      | inr e ↦ e
    ]

-- The items of an internal page

module _ (columns : TreeColumns) (page : List ℕ) (readable : IsReadable columns page) (inner : is_leaf (opaque_of page) ≡ false) (alive : is_half_dead (opaque_of page) ≡ false) where
  inner-spot : (j : ℕ) → first_data page < j → spot_of page j ≡ Inner
  inner-spot j past =
      cond-false _ _ _ (le-ltb j (first_data page) (omega (arith, past))) ∙ (cond-false (is_leaf (opaque_of page)) _ _ inner ∙ cond-false _ _ _ (ne_eqb j (first_data page) (λ e. omega (arith, e, past))))

  other-spot : (j : ℕ) → first_data page < j → spot_of page j ≢ LeafItem
  other-spot j past leaf = clash (sym (inner-spot j past) ∙ leaf)
    where
      clash : Inner ≡ LeafItem → ⊥
      clash h = cc

  plain-there : (j : ℕ) → first_data page < j → j ≤ count_of page → IsPlainItem columns.specs columns.more page j
  plain-there j past to = let one = first_cases page in readable.items alive j (omega (arith, one, past)) to

  inner-rises-at : (j : ℕ) → first_data page < j → j + 1 ≤ count_of page → (order_of columns.specs).under (key columns page j) (key columns page (j + 1)) ≡ true
  inner-rises-at j past to =
      let least : first_compared page ≡ first_data page + 2 = cond-false {A = ℕ} (is_leaf (opaque_of page)) _ _ inner in
      let back : j + 1 - 1 ≡ j = omega arith in
      let here = order_kept columns.specs columns.more page (j + 1) (readable.order alive (j + 1) (record { from = omega (arith, past); to = to })) (omega (arith, least, past)) in
      let plain = plain-there j past (omega (arith, to)) in
      let last = last-is columns page j plain (other-spot j past) ∙ sym (first-is columns page j plain (other-spot j past)) in
      subst (λ (s : Separator Value Tid). is_key_below columns.specs s (key columns page (j + 1)) ≡ true) last
      (subst (λ (k : ℕ). is_key_below columns.specs (last_key (item_at columns.specs columns.more page k)) (key columns page (j + 1)) ≡ true) back here)

  pub inner-rises : Rises columns page
  inner-rises = record {
    are_keys = λ j past to.
        let plain = plain-there j past to in
        subst (IsSeparatorOf (length columns.specs)) (sym (first-is columns page j plain (other-spot j past))) (is-separator columns page j plain (inner-spot j past));
    rise = inner-rises-at;
  }

-- What a visit to a page leads to.
use Rattle.std.proofs.Common.{◌≡◌, ◌≢◌, ℕ, suc, ◌+◌, ◌-◌, ◌<◌, ◌≤◌, inl, inr, Bool, true, false, cond, List, ◌∷◌, map, refl, ap, sym, ◌∙◌, arith}
use Rattle.std.specs.Prelude.{not, nat_lt, ◌&&◌, ◌||◌, ◌==◌, Some, None}
use Rattle.std.specs.List.{filter}
use Rattle.std.proofs.lemmas.Bool.{and_cases, both_ways, eq-eqb, and_from, and_left, cond-false, cond-true, lt-ltb, not_from_false, or_right, or_from, or_parts}
use Rattle.laws_search.specs.Keys.{Separator}
use Rattle.laws_search.specs.Search.{last_or, right_of}
use Rattle.page_layout.specs.Page.{count_of}
use Rattle.key_orders.specs.declared.columns.Value.{Value}
use Rattle.key_orders.specs.declared.Tid.{Tid}
use Rattle.key_attrs.specs.Columns.{TreeColumns}
use Rattle.bt_meta.specs.Flags.{is_half_dead, is_leaf}
use Rattle.bt_meta.specs.Pages.{opaque_of}
use Rattle.bt_tuples.specs.declared.items.Spot3.TheVariants.{FirstInner, HighKey, Inner, LeafItem}
use Rattle.bt_image.specs.Image.{child_in, downlink_in, first_data, has_high_key, item_at, numbers_from, page_image, separator_in, spot_of}
use Rattle.bt_image.specs.Pages.{IsPlainItem, breaks_items}
use Rattle.bt_image.proofs.PageFields.{first_cases}
use Rattle.bt_steps.specs.Pages.{IsReadable}
use Rattle.bt_steps.specs.Ways.{Goes, GoesLower, down_to, is_left_behind, is_passed, next_of}
use Rattle.bt_steps.proofs.Halves.{inner-rises, last-passes, passed-down, stopped-up}
use Rattle.bt_steps.proofs.Separators.{first-is}

abbrev Child : Type 0
Child = Separator Value Tid × ℕ

module _ (columns : TreeColumns) (goes : Goes) (page : List ℕ) where
  abbrev child : ℕ → Child
  child i = child_in (item_at columns.specs columns.more page i)

  pub inner-other : (i : ℕ) → is_leaf (opaque_of page) ≡ false → spot_of page i ≢ LeafItem
  inner-other i inner leaf = no-leaf (nat_lt i (first_data page)) (is_leaf (opaque_of page)) (i == first_data page) inner leaf
    where
      no-leaf : (a b d : Bool) → b ≡ false → cond a HighKey (cond b LeafItem (cond d FirstInner Inner)) ≡ LeafItem → ⊥
      no-leaf true b d e h = cc
      no-leaf false true d e h = absurd cc
      no-leaf false false true e h = cc
      no-leaf false false false e h = cc

  -- what an item of an internal page keeps is its first key
  pub kept-is : (j : ℕ) → IsPlainItem columns.specs columns.more page j → is_leaf (opaque_of page) ≡ false → is_passed columns goes page j ≡ goes (child j).0
  kept-is j plain inner = ap goes (first-is columns page j plain (inner-other j inner))

  -- to the right
  pub leads-right : is_left_behind columns goes page ≡ true → next_of goes (page_image columns.specs columns.more page) ≡ Some (opaque_of page).next
  leads-right behind = cond-true (is_left_behind columns goes page) _ _ behind

  -- and down
  to-child : (r : ℕ) → is_leaf (opaque_of page) ≡ false → first_data page ≤ r → r ≤ count_of page
      → ((j : ℕ) → suc (first_data page) ≤ j → j ≤ r → goes (child j).0 ≡ true)
      → ((j : ℕ) → r < j → j ≤ count_of page → goes (child j).0 ≡ false)
      → down_to goes (page_image columns.specs columns.more page).children ≡ Some (downlink_in (item_at columns.specs columns.more page r))
  to-child r inner from to yes_ no_ =
      let f = first_data page in
      let m = count_of page - f in
      let count : count_of page + 1 - f ≡ suc m = omega (arith, from, to) in
      let children : (page_image columns.specs columns.more page).children ≡ child f ∷ map child (numbers_from (suc f) m) =
      cond-false (is_leaf (opaque_of page)) _ _ inner ∙ ap (λ (n : ℕ). map child (numbers_from f n)) count in
      let last : last_or (child f) (filter (λ (d : Child). goes d.0) (map child (numbers_from (suc f) m))) ≡ child r =
      last-passes child (λ (d : Child). goes d.0) (child f) (suc f) m r (omega (arith, from)) (omega (arith, from, to))
      (λ e. ap child (omega (arith, e)))
      yes_
      (λ j low high. no_ j low (omega (arith, high, from, to))) in
      ap (down_to goes) children ∙ ap (λ (c : Child). Some c.1) last

  pub leads-down : (r : ℕ) → GoesLower columns.specs goes → IsReadable columns page → is_left_behind columns goes page ≡ false → is_leaf (opaque_of page) ≡ false
      → first_data page ≤ r → r ≤ count_of page
      → (first_data page < r → is_passed columns goes page r ≡ true)
      → (r < count_of page → is_passed columns goes page (r + 1) ≡ false)
      → next_of goes (page_image columns.specs columns.more page) ≡ Some (downlink_in (item_at columns.specs columns.more page r))
  leads-down r laws readable stays inner from to here next =
      let alive : is_half_dead (opaque_of page) ≡ false = (or_parts (right_of goes (page_image columns.specs columns.more page).high_key) (is_half_dead (opaque_of page)) stays).1 in
      let rises = inner-rises columns page readable inner alive in
      let one = first_cases page in
      let plain-at : (j : ℕ) → first_data page ≤ j → j ≤ count_of page → IsPlainItem columns.specs columns.more page j = λ j low high. readable.items alive j (omega (arith, one, low)) high in
      cond-false (is_left_behind columns goes page) _ _ stays
      ∙ (cond-false (is_leaf (opaque_of page)) _ _ inner
      ∙ to-child r inner from to
      (λ j low high. sym (kept-is j (plain-at j (omega (arith, low)) (omega (arith, high, to))) inner) ∙ passed-down columns page goes laws rises j r low high to (here (omega (arith, low, high))))
      (λ j low high. sym (kept-is j (plain-at j (omega (arith, low, from)) high) inner) ∙ stopped-up columns page goes laws rises (r + 1) j (omega (arith, from)) (omega (arith, low)) high (next (omega (arith, low, high)))))

  -- The high key

  high_key-spot : has_high_key page ≡ true → spot_of page 1 ≢ LeafItem
  high_key-spot has leaf =
      let two : first_data page ≡ 2 = cond-true {A = ℕ} (has_high_key page) 2 1 has in
      clash (sym (cond-true _ _ _ (lt-ltb 1 (first_data page) (omega (arith, two)))) ∙ leaf)
    where
      clash : HighKey ≡ LeafItem → ⊥
      clash h = cc

  -- the page is half-dead
  pub behind-dead : is_half_dead (opaque_of page) ≡ true → is_left_behind columns goes page ≡ true
  behind-dead dead = or_right (right_of goes (page_image columns.specs columns.more page).high_key) _ dead

  pub behind-last : is_half_dead (opaque_of page) ≡ false → has_high_key page ≡ false → is_left_behind columns goes page ≡ false
  behind-last alive none =
      let no_key : (page_image columns.specs columns.more page).high_key ≡ None = cond-false (has_high_key page && not (is_half_dead (opaque_of page))) _ _ (and_left (has_high_key page) _ none) in
      or_from _ _ (ap (right_of goes) no_key) alive

  pub behind-key : is_half_dead (opaque_of page) ≡ false → has_high_key page ≡ true → IsPlainItem columns.specs columns.more page 1 → is_left_behind columns goes page ≡ is_passed columns goes page 1
  behind-key alive has plain =
      let key : (page_image columns.specs columns.more page).high_key ≡ Some (separator_in (item_at columns.specs columns.more page 1)) =
      cond-true (has_high_key page && not (is_half_dead (opaque_of page))) _ _ (and_from (has_high_key page) _ has (not_from_false _ alive)) in
      (λ k. right_of goes (key k) || alive k) ∙ or_false (goes (separator_in (item_at columns.specs columns.more page 1))) ∙ sym (ap goes (first-is columns page 1 plain (high_key-spot has)))
    where
      or_false : (b : Bool) → (b || false) ≡ b
      or_false true = refl
      or_false false = refl

  -- a page with a high key has it as an item
  pub some-item : IsReadable columns page → has_high_key page ≡ true → count_of page ≡ 0 → ⊥
  unfolding breaks_items
  some-item readable has none = elim (and_cases (has_high_key page) (count_of page == 0) (or_parts _ _ readable.some_items).0) [
    | inl e ↦ both_ways (has_high_key page) e has
    | inr e ↦ both_ways (count_of page == 0) e (eq-eqb (count_of page) 0 none)
  ]

  pub key-spot : has_high_key page ≡ true → spot_of page 1 ≢ LeafItem
  key-spot has = high_key-spot has

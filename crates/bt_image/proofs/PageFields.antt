-- What the sentences on one page leave, field by field.
use Rattle.std.proofs.Common.{◌≡◌, ◌≢◌, ℕ, zero, suc, ◌+◌, ◌-◌, ◌<◌, ◌≤◌, inl, inr, Bool, true, false, List, [], ◌∷◌, length, map, ap, sym, ◌∙◌, arith}
use Rattle.std.specs.Prelude.{not, ◌&&◌, ◌==◌, nat_le, nat_lt}
use Rattle.std.specs.List.{AllByRecursion}
use Rattle.std.proofs.lemmas.Bool.{and_cases, and_from, both_ways, cases_Bool, cond-false, cond-true, eq-eqb, eqb-true, le-leb, le-ltb, leb-false, leb-true, ne_eqb, not-false, not_from_false, not_from_true, or_parts}
use Rattle.key_orders.specs.declared.columns.KeySpec.{KeySpec}
use Rattle.key_orders.specs.declared.columns.Value.{Value}
use Rattle.key_orders.specs.declared.more.MoreSpec.{MoreSpec}
use Rattle.page_layout.specs.Page.{count_of, item_of}
use Rattle.bt_meta.specs.declared.records.HeadKind.{HeadKind}
use Rattle.bt_meta.specs.declared.records.HeadKind.TheVariants as head
use Rattle.bt_meta.specs.Flags.{is_half_dead, is_leaf}
use Rattle.bt_meta.specs.Pages.{is_idle, opaque_of}
use Rattle.bt_tuples.specs.declared.items.Spot3.{Spot3}
use Rattle.bt_tuples.specs.declared.items.Spot3.TheVariants.{LeafItem}
use Rattle.bt_tuples.specs.Items.{is_dead, meaning_by, meaning_of, values_or_none}
use Rattle.bt_tuples.specs.Tuples.{values_in}
use Rattle.bt_meta.specs.Heads.{tree_head_of}
use Rattle.bt_tuples.specs.Rules.{KeepsItemRules, breaks_form, breaks_tids_by, is_pivot, includes_some, tuple_of}
use Rattle.bt_tuples.proofs.TidLists.{length-tids_at}
use Rattle.bt_image.specs.Image.{first_data, has_high_key, item_at, numbers_from, separator_in, spot_of}
use Rattle.bt_tuples.specs.Keys.{first_key, last_key}
use Rattle.bt_image.specs.Pages.{breaks_downlink, breaks_half_dead, breaks_high_key, breaks_items, breaks_level, breaks_order, breaks_siblings, first_compared, is_bad_sibling, is_key_below, is_key_within, is_past, least_for_high_key}
use Rattle.bt_image.proofs.Rises.{IsGood}

-- where one of two holds and the first does, the second doesn't
other : (x y : Bool) → (x && y) ≡ false → x ≡ true → y ≡ false
other x y h t = elim (and_cases x y h) [ inl f ↦ absurd (both_ways x f t) | inr f ↦ f ]

pub leaf_below : (page : List ℕ) → breaks_level page ≡ false → is_leaf (opaque_of page) ≡ true → (opaque_of page).level ≡ 0
unfolding breaks_level
leaf_below page h leaf =
    eqb-true _ _ (not-false _ (other (is_leaf (opaque_of page)) _ (or_parts _ _ (or_parts _ _ h).0).1 leaf))

pub leaf_if_below : (page : List ℕ) → breaks_level page ≡ false → (opaque_of page).level ≡ 0 → is_leaf (opaque_of page) ≡ true
unfolding breaks_level
leaf_if_below page h low =
    elim (and_cases (not (is_leaf (opaque_of page))) _ (or_parts _ _ h).1) [
      | inl f ↦ not-false _ f
      | inr f ↦ absurd (both_ways _ f (eq-eqb _ _ low))
    ]

pub half_dead_leaf : (page : List ℕ) → breaks_half_dead page ≡ false → is_half_dead (opaque_of page) ≡ true → is_leaf (opaque_of page) ≡ true
unfolding breaks_half_dead
half_dead_leaf page h dead = not-false _ (or_parts _ _ (other (is_half_dead (opaque_of page)) _ h dead)).0

-- an internal page has a data item
pub has_item : (page : List ℕ) → breaks_items page ≡ false → is_leaf (opaque_of page) ≡ false → first_data page ≤ count_of page
unfolding breaks_items
has_item page h inner =
    leb-true _ _ (not-false _ (other (not (is_leaf (opaque_of page))) _ (or_parts _ _ h).1 (not_from_false _ inner)))

pub high_key_is : (page : List ℕ) → (opaque_of page).next ≢ 0 → has_high_key page ≡ true
high_key_is page some = not_from_false _ (ne_eqb _ _ some)

pub no_high_key_is : (page : List ℕ) → (opaque_of page).next ≡ 0 → has_high_key page ≡ false
no_high_key_is page none = not_from_true _ (eq-eqb _ _ none)

-- data items are numbered from 1 or 2 on
pub first_cases : (page : List ℕ) → 1 ≤ first_data page
first_cases page = elim (cases_Bool (has_high_key page)) [
  | inl e ↦ let at = cond-true {A = ℕ} (has_high_key page) 2 1 e in omega (arith, at)
  | inr e ↦ let at = cond-false {A = ℕ} (has_high_key page) 2 1 e in omega (arith, at)
]

-- THE SIBLINGS

good_sibling : (blocks : ℕ) (block : ℕ → List ℕ) (b sibling back : ℕ) → is_bad_sibling blocks block b sibling back ≡ false → (sibling < blocks) × (is_idle (block sibling) ≡ false) × ((opaque_of (block sibling)).level ≡ (opaque_of (block b)).level) × (back ≡ b)
good_sibling blocks block b sibling back h =
    let h1 = or_parts _ _ h in
    let h2 = or_parts _ _ h1.0 in
    let h3 = or_parts _ _ h2.0 in
    (leb-false _ _ h3.0, h3.1, eqb-true _ _ (not-false _ h2.1), eqb-true _ _ (not-false _ h1.1))

pub left_good : (blocks : ℕ) (block : ℕ → List ℕ) (b : ℕ) → breaks_siblings blocks block b ≡ false → (opaque_of (block b)).prev ≢ 0 → ((opaque_of (block b)).prev < blocks) × (is_idle (block (opaque_of (block b)).prev) ≡ false) × ((opaque_of (block (opaque_of (block b)).prev)).level ≡ (opaque_of (block b)).level) × ((opaque_of (block (opaque_of (block b)).prev)).next ≡ b)
unfolding breaks_siblings
left_good blocks block b h some =
    good_sibling blocks block b _ _ (other (not ((opaque_of (block b)).prev == 0)) _ (or_parts _ _ h).0 (not_from_false _ (ne_eqb _ _ some)))

pub right_good : (blocks : ℕ) (block : ℕ → List ℕ) (b : ℕ) → breaks_siblings blocks block b ≡ false → (opaque_of (block b)).next ≢ 0 → ((opaque_of (block b)).next < blocks) × (is_idle (block (opaque_of (block b)).next) ≡ false) × ((opaque_of (block (opaque_of (block b)).next)).level ≡ (opaque_of (block b)).level) × ((opaque_of (block (opaque_of (block b)).next)).prev ≡ b)
unfolding breaks_siblings
right_good blocks block b h some =
    good_sibling blocks block b _ _ (other (not ((opaque_of (block b)).next == 0)) _ (or_parts _ _ h).1 (not_from_false _ (ne_eqb _ _ some)))

pub down_good : (blocks : ℕ) (block : ℕ → List ℕ) (level down : ℕ) → breaks_downlink blocks block level down ≡ false → (down ≢ 0) × (down < blocks) × (is_idle (block down) ≡ false) × ((opaque_of (block down)).level + 1 ≡ level)
unfolding breaks_downlink
down_good blocks block level down h =
    let h1 = or_parts _ _ h in
    let h2 = or_parts _ _ h1.0 in
    let h3 = or_parts _ _ h2.0 in
    (λ e. both_ways _ h3.0 (eq-eqb _ _ e), leb-false _ _ h3.1, h2.1, eqb-true _ _ (not-false _ h1.1))

-- THE ITEMS OF A LEAF

pub leaf_spot : (page : List ℕ) (i : ℕ) → is_leaf (opaque_of page) ≡ true → first_data page ≤ i → spot_of page i ≡ LeafItem
leaf_spot page i leaf from = cond-false (nat_lt i (first_data page)) _ _ (le-ltb _ _ from) ∙ cond-true (is_leaf (opaque_of page)) _ _ leaf

good_by : (kind : HeadKind) (tuple : List ℕ) (n : ℕ) (killed : Bool) (values : List Value) → is_pivot kind ≡ false → breaks_tids_by kind tuple ≡ false → IsGood (meaning_by kind n tuple killed values)
good_by head.Pivot tuple n killed values form tids = absurd cc
good_by head.Plain tuple n killed values form tids = tt
good_by head.Posting tuple n killed values form tids =
    let h1 = or_parts _ _ tids in
    let h2 = or_parts _ _ h1.0 in
    (h1.1, λ none. both_ways _ h2.1 (eq-eqb _ _ (sym (length-tids_at tuple _ _) ∙ ap length none)))

pub leaf_item_good : (specs : List KeySpec) (more : List MoreSpec) (page : List ℕ) (i : ℕ) (spot : Spot3) → spot ≡ LeafItem → KeepsItemRules specs more spot page i → IsGood (item_at specs more page i)
unfolding item_at meaning_of
leaf_item_good specs more page i spot at kept =
    let tuple = tuple_of page i in
    let form = ap (λ (s : Spot3). breaks_form s (length specs) (includes_some more) (tree_head_of tuple)) (sym at) ∙ kept.form in
    good_by (tree_head_of tuple).kind tuple (length specs) (is_dead (item_of page i).flag) (values_or_none (values_in specs more tuple)) (or_parts _ _ form).0 kept.tids

-- THE ORDER

pub order_kept : (specs : List KeySpec) (more : List MoreSpec) (page : List ℕ) (i : ℕ) → breaks_order specs more page i ≡ false → first_compared page ≤ i → is_key_below specs (last_key (item_at specs more page (i - 1))) (first_key (item_at specs more page i)) ≡ true
unfolding breaks_order
order_kept specs more page i h from = not-false _ (other (nat_le (first_compared page) i) _ h (le-leb _ _ from))

pub leaf_high_key_kept : (specs : List KeySpec) (more : List MoreSpec) (page : List ℕ) → breaks_high_key specs more page ≡ false → is_leaf (opaque_of page) ≡ true → has_high_key page ≡ true → first_data page ≤ count_of page → is_key_within specs (last_key (item_at specs more page (count_of page))) (separator_in (item_at specs more page 1)) ≡ true
unfolding breaks_high_key
leaf_high_key_kept specs more page h leaf high some =
    let least : least_for_high_key page ≡ first_data page = cond-true (is_leaf (opaque_of page)) _ _ leaf in
    let asked = and_from (has_high_key page) (nat_le (least_for_high_key page) (count_of page)) high (ap (λ n. nat_le n (count_of page)) least ∙ le-leb _ _ some) in
    let past = other _ _ h asked in
    not-false _ (ap (λ (t : Bool). is_past specs t (last_key (item_at specs more page (count_of page))) (separator_in (item_at specs more page 1))) (sym leaf) ∙ past)

-- LISTS OF NUMBERS

pub numbers_none : (i n : ℕ) → n ≡ 0 → numbers_from i n ≡ []
numbers_none i n e = ap (numbers_from i) e

pub not_none : {X : Type 0} (f : ℕ → X) (i n m : ℕ) → n ≡ suc m → map f (numbers_from i n) ≡ [] → ⊥
not_none f i n m e h = clash (ap (λ k. map f (numbers_from i k)) (sym e) ∙ h)
  where
    clash : f i ∷ map f (numbers_from (suc i) m) ≡ [] → ⊥
    clash h = cc

pub each_number : {X : Type 0} (P : X → Type 0) (f : ℕ → X) (i n : ℕ) → ((j : ℕ) → i ≤ j → j < i + n → P (f j)) → AllByRecursion P (map f (numbers_from i n))
each_number P f i zero h = tt
each_number P f i (suc n) h = (h i (omega arith) (omega arith), each_number P f (suc i) n (λ j from to. h j (omega (arith, from)) (omega (arith, to))))

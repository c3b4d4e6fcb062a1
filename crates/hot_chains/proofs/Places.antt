-- The places, one item further, and the table that they make.
use Rattle.std.proofs.Common.{◌≡◌, ◌≢◌, ℕ, ◌+◌, ◌-◌, ◌<◌, ◌≤◌, inl, inr, Bool, true, false, not, ◌==◌, ◌&&◌, List, length, set, Some, None, refl, sym, subst, ap, ◌∙◌, arith, get_or-set_other, get_or-set_same}
use Rattle.std.specs.Prelude.{if◌then◌else◌}
use Rattle.std.proofs.lemmas.List.{length-set, get_or_past}
use Rattle.std.proofs.lemmas.Bool.{cases_Bool, cases_eq, cases_lt, cond-true, cond-false, eq-eqb, ne_eqb}
use Rattle.page_layout.specs.declared.rules.Rule.TheVariants.{H3, H14, H15, H16}
use Rattle.liveness.specs.declared.states.ItemState.{ItemState}
use Rattle.liveness.specs.declared.states.ItemState.TheVariants.{Unused, Dead, Redirect, Tuple}
use Rattle.hot_chains.specs.declared.table.Chains.{Chains}
use Rattle.hot_chains.specs.declared.place.Place.{Place}
use Rattle.hot_chains.specs.Chains.{chain_rule, is_heap_only_tuple, is_live_tuple, is_root, is_root_at, item_at, points_astray, root_number, root_of, shares_step, step_of, steps_to_indexed, is_astray, is_lost}
use Rattle.hot_chains.specs.Marks.{IsGraph, Marked, mark}
use Rattle.hot_chains.specs.Table.{AreChains, AreMarked, ArePlaces, IsPlace, begins_in, count_in, is_redirect, next_in, nowhere, place_or, root_in, rule_at, rule_by, rule_in, step_rule}
use Rattle.hot_chains.proofs.Roots.{mark_is_root_number}
use Rattle.hot_chains.proofs.Stepping.{item_at-past, page_is_graph, redirect_step, stepping_item, is_root-item, Steps_from_step}

-- a redirect is astray exactly where it steps nowhere
astray_by_step : (block : ℕ) (items : List ItemState) (i : ℕ) (item : ItemState) → item_at items i ≡ item → (is_redirect item && (step_of block items i == 0)) ≡ points_astray items item
astray_by_step block items i Unused e = refl
astray_by_step block items i Dead e = refl
astray_by_step block items i (Tuple head judged) e = refl
astray_by_step block items i (Redirect target) e = ap (λ (n : ℕ). n == 0) (redirect_step block items i target e) ∙ elim (cases_Bool (is_heap_only_tuple (item_at items target))) [
  | inl is ↦
      let some : target ≢ 0 = λ z. absurd (let P : ℕ → Type 0 = λ t. is_heap_only_tuple (item_at items t) ≡ true in let Q : ItemState → Type 0 = λ x. is_heap_only_tuple x ≡ true in let f : is_heap_only_tuple Unused ≡ true = subst Q (item_at-past items 0 (inl refl)) (subst P z is) in cc) in
      ap (λ (n : ℕ). n == 0) (cond-true (is_heap_only_tuple (item_at items target)) target 0 is) ∙ ne_eqb target 0 some ∙ sym (ap not is)
  | inr isnt ↦ ap (λ (n : ℕ). n == 0) (cond-false (is_heap_only_tuple (item_at items target)) target 0 isnt) ∙ sym (ap not isnt)
]

-- what is told by an item's state and its step is the first rule that its step breaks
pub rule_by_step : (block : ℕ) (items : List ItemState) (i : ℕ) (item : ItemState) (next : ℕ) (shared : Bool) → item ≡ item_at items i → next ≡ step_of block items i → shared ≡ shares_step block items i → rule_by items item next shared ≡ step_rule block items i
unfolding step_rule
rule_by_step block items i item next shared it steps shares =
    let P : ItemState → Type 0 = λ x. rule_by items x next shared ≡ step_rule block items i in
    let Q : ℕ → Type 0 = λ n. rule_by items (item_at items i) n shared ≡ step_rule block items i in
    let R : Bool → Type 0 = λ b. rule_by items (item_at items i) (step_of block items i) b ≡ step_rule block items i in
    let same : rule_by items (item_at items i) (step_of block items i) (shares_step block items i) ≡ step_rule block items i =
    ap (λ (b : Bool). if b then Some H3 else if steps_to_indexed block items i then Some H14 else if shares_step block items i then Some H15 else None) (astray_by_step block items i (item_at items i) refl) in
    subst P (sym it) (subst Q (sym steps) (subst R (sym shares) same))

-- what is known of an item by its state and its step
pub place_right : (block : ℕ) (items : List ItemState) (i : ℕ) (item : ItemState) (place : Place) (shared : Bool) → item ≡ item_at items i → place.next ≡ step_of block items i → shared ≡ shares_step block items i → place.is_root ≡ is_root item → place.needs_root ≡ (is_live_tuple item && is_heap_only_tuple item) → place.rule ≡ rule_by items item place.next shared → IsPlace block items i place
unfolding is_root_at
place_right block items i item place shared it steps shares begins needs breaks = record {
  next = steps;
  begins = begins ∙ ap is_root it;
  needs = needs ∙ ap (λ (x : ItemState). is_live_tuple x && is_heap_only_tuple x) it;
  breaks = breaks ∙ rule_by_step block items i item place.next shared it steps shares;
}

pub places_none : (block : ℕ) (items : List ItemState) (places : List Place) → length places ≡ length items → ArePlaces block items places 0
places_none block items places long = record {
  long = long;
  right = λ i below. absurd (omega arith);
}

pub places_next : (block : ℕ) (items : List ItemState) (places : List Place) (place : Place) (k : ℕ) → k < length items → ArePlaces block items places k → IsPlace block items (k + 1) place → ArePlaces block items (set places k place) (k + 1)
places_next block items places place k inside h here = record {
  long = length-set places k place ∙ h.long;
  right = λ i below. elim (cases_eq i k) [
    | inl z ↦
        let same : place_or (set places k place) k ≡ place = get_or-set_same places k place nowhere (let a = h.long in omega (arith, a)) in
        let Q : ℕ → Type 0 = λ j. IsPlace block items (j + 1) (place_or (set places k place) j) in
        subst Q (sym z) (subst (IsPlace block items (k + 1)) (sym same) here)
    | inr ne ↦
        let same : place_or (set places k place) i ≡ place_or places i = get_or-set_other places k i place nowhere ne in
        subst (IsPlace block items (i + 1)) (sym same) (h.right i (omega arith))
  ];
}

-- the rule that a place tells of is the first that is broken
rule_at_right : (block : ℕ) (items : List ItemState) (i : ℕ) (place : Place) (root : ℕ) → IsPlace block items i place → root ≡ root_number block items i → rule_at place root place.rule ≡ chain_rule block items i
unfolding step_rule chain_rule
rule_at_right block items i place root h same =
    let lost : (place.needs_root && (root == 0)) ≡ is_lost block items i = ap (λ (b : Bool). b && (root == 0)) h.needs ∙ ap (λ (n : ℕ). (is_live_tuple (item_at items i) && is_heap_only_tuple (item_at items i)) && (n == 0)) same in
    ap (rule_at place root) h.breaks ∙ four (is_astray items i) (steps_to_indexed block items i) (shares_step block items i) (is_lost block items i) lost
  where
    four : (a b c d : Bool) → (place.needs_root && (root == 0)) ≡ d → rule_at place root (if a then Some H3 else if b then Some H14 else if c then Some H15 else None) ≡ (if a then Some H3 else if b then Some H14 else if c then Some H15 else if d then Some H16 else None)
    four true b c d e = refl
    four false true c d e = refl
    four false false true d e = refl
    four false false false d e = ap (λ (x : Bool). if x then Some H16 else None) e

-- the places of all items are right
module _ (block : ℕ) (items : List ItemState) (places : List Place) (h : ArePlaces block items places (length items)) where
  at : (i : ℕ) → i ≢ 0 → i ≤ length items → IsPlace block items i (place_or places (i - 1))
  at i some last =
      let e : i - 1 + 1 ≡ i = omega arith in
      let P : ℕ → Type 0 = λ j. IsPlace block items j (place_or places (i - 1)) in
      subst P e (h.right (i - 1) (omega arith))

  past : (i : ℕ) → length items < i → place_or places (i - 1) ≡ nowhere
  past i far = get_or_past places (i - 1) nowhere (let l = h.long in omega (arith, l))

  same_step : (i : ℕ) → next_in places i ≡ step_of block items i
  same_step i = elim (cases_eq i 0) [
    | inl z ↦ cond-true (i == 0) 0 (place_or places (i - 1)).next (eq-eqb i 0 z) ∙ sym (ap (step_of block items) z ∙ (page_is_graph block items).ends)
    | inr some ↦ cond-false (i == 0) 0 (place_or places (i - 1)).next (ne_eqb i 0 some) ∙ elim (cases_lt (length items) i) [
      | inr near ↦ (at i some near).next
      | inl far ↦ ap (λ (p : Place). p.next) (past i far) ∙ elim (cases_eq (step_of block items i) 0) [
        | inl z ↦ sym z
        | inr ne ↦ absurd (let s = stepping_item block items i (step_of block items i) (Steps_from_step block items i ne) in omega (arith, s.1, far))
      ]
    ]
  ]

  same_root : (i : ℕ) → begins_in places i ≡ is_root_at items i
  same_root i = elim (cases_eq i 0) [
    | inl z ↦ cond-true (i == 0) false (place_or places (i - 1)).is_root (eq-eqb i 0 z) ∙ none i (λ b. absurd (let c = b.0 in omega (arith, c, z)))
    | inr some ↦ cond-false (i == 0) false (place_or places (i - 1)).is_root (ne_eqb i 0 some) ∙ elim (cases_lt (length items) i) [
      | inr near ↦ (at i some near).begins
      | inl far ↦ ap (λ (p : Place). p.is_root) (past i far) ∙ none i (λ b. absurd (let c = b.1 in omega (arith, c, far)))
    ]
  ]
    where
      none : (j : ℕ) → ((1 ≤ j) × (j ≤ length items) → ⊥) → false ≡ is_root_at items j
      none j outside = elim (cases_Bool (is_root_at items j)) [ inl is ↦ absurd (outside (is_root-item items j is)) | inr isnt ↦ sym isnt ]

  pub places_are_graph : IsGraph (next_in places) (begins_in places) (length places)
  places_are_graph = record {
    ends = refl;
    within = λ i. let a = (page_is_graph block items).within i in let e = same_step i in let l = h.long in omega (arith, a, e, l);
    begins = λ r is. let b = is_root-item items r (sym (same_root r) ∙ is) in (b.0, (let c = b.1 in let l = h.long in omega (arith, c, l)));
  }

  marked_by_page : (marks : List ℕ) → AreMarked places marks (length places + 1) → Marked (step_of block items) (is_root_at items) (length items) marks (length items + 1)
  marked_by_page marks full =
      let steps : next_in places ≡ step_of block items = λ x i. same_step i x in
      let roots : begins_in places ≡ is_root_at items = λ x i. same_root i x in
      let P : (ℕ → ℕ) → Type 0 = λ f. Marked f (is_root_at items) (length items) marks (length items + 1) in
      let Q : (ℕ → Bool) → Type 0 = λ f. Marked (next_in places) f (length items) marks (length items + 1) in
      let R : ℕ → Type 0 = λ n. Marked (next_in places) (begins_in places) n marks (n + 1) in
      subst P steps (subst Q roots (subst R h.long full))

  pub chains_are_right : (chains : Chains) → chains.places.items ≡ places → AreMarked places chains.roots.items (length places + 1) → AreChains block items chains
  unfolding count_in rule_in root_in root_of
  chains_are_right chains same full = record {
    count = ap length same ∙ h.long;
    rules = λ i first last.
        let P : List Place → Type 0 = λ l. rule_at (place_or l (i - 1)) (mark chains.roots.items i) (place_or l (i - 1)).rule ≡ chain_rule block items i in
        subst P (sym same) (rule_at_right block items i (place_or places (i - 1)) (mark chains.roots.items i) (at i (λ z. absurd (omega arith)) last) (number i first));
    roots = λ i first last. ap (λ (n : ℕ). if n == 0 then None else Some n) (number i first);
  }
    where
      number : (i : ℕ) → 1 ≤ i → mark chains.roots.items i ≡ root_number block items i
      number i first = mark_is_root_number block items chains.roots.items (marked_by_page chains.roots.items full) i (λ z. absurd (omega arith))

-- what the place of item k + 1 says of it as a root
pub begins_next : (places : List Place) (k : ℕ) (is : Bool) → (place_or places k).is_root ≡ is → begins_in places (k + 1) ≡ is
begins_next places k is e =
    let before : k + 1 - 1 ≡ k = omega arith in
    cond-false (k + 1 == 0) false (place_or places (k + 1 - 1)).is_root (ne_eqb (k + 1) 0 (λ z. absurd (omega (arith, z)))) ∙ ap (λ (n : ℕ). (place_or places n).is_root) before ∙ e

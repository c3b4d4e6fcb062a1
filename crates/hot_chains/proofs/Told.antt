-- Each rule's test is its sentence.
use Rattle.std.proofs.Common.{◌≡◌, ◌≢◌, ◌↔◌, ℕ, zero, suc, ◌-◌, ◌≤◌, inl, inr, Bool, true, false, not, ◌==◌, ◌&&◌, List, Option, Some, None, IfSome, refl, sym, subst, ap, ◌∙◌, arith}
use Rattle.std.proofs.lemmas.Bool.{cases_eq, cond-true, cond-false, eq-eqb, eqb-true, eqb-false, false_from_ne_true, iff_false, ne_eqb, and_parts, and_from, or_cases}
use Rattle.std.specs.List.{AllByRecursion}
use Rattle.page_layout.specs.declared.rules.Rule.{Rule}
use Rattle.page_layout.specs.declared.rules.Rule.TheVariants.{H3, H14, H15, H16}
use Rattle.liveness.specs.declared.states.ItemState.{ItemState}
use Rattle.liveness.specs.declared.states.ItemState.TheVariants.{Unused, Dead, Redirect, Tuple}
use Rattle.tuple_head.proofs.First.{find-none, first_passes, none_passes}
use Rattle.hot_chains.specs.Chains.{item_at, is_heap_only_tuple, is_live_tuple, is_tuple, is_stepped_to, step_of, points_astray, root_number, root_of, is_astray, steps_to_indexed, shares_step, is_lost, breaks_chain_rule, chain_rule, chain_rules, Steps, Reaches, IsRootOf}
use Rattle.hot_chains.specs.Sentences.{IsAstray, IsChainRuleBroken, IsLost, SharesStep, StepsToIndexed}
use Rattle.hot_chains.proofs.Stepping.{stepped_to_item, stepping_item, step_from_Steps, Steps_from_step}
use Rattle.hot_chains.proofs.Law.{stepped_below}
use Rattle.hot_chains.proofs.Whole.{root_is_right}

not_yes : (b : Bool) → not b ≡ true → b ≡ false
not_yes true e = absurd cc
not_yes false e = refl

astray_from : (items : List ItemState) (item : ItemState) → points_astray items item ≡ true → (t : ℕ) × ((item ≡ Redirect t) × (is_heap_only_tuple (item_at items t) ≡ false))
astray_from items (Redirect target) e = (target, (refl, not_yes _ e))
astray_from items Unused e = absurd cc
astray_from items Dead e = absurd cc
astray_from items (Tuple head judged) e = absurd cc

h3_told : (items : List ItemState) (i : ℕ) → (is_astray items i ≡ true) ↔ IsAstray items i
h3_told items i = (
  astray_from items (item_at items i),
  λ told. let P : ItemState → Type 0 = λ item. points_astray items item ≡ true in subst P (sym told.1.0) (ap not told.1.1),
)

h14_told : (block : ℕ) (items : List ItemState) (i : ℕ) → (steps_to_indexed block items i ≡ true) ↔ StepsToIndexed block items i
h14_told block items i = (
  λ e.
      let parts = and_parts (is_tuple (item_at items i) && not (step_of block items i == 0)) (not (is_heap_only_tuple (item_at items (step_of block items i)))) e in
      let first = and_parts (is_tuple (item_at items i)) (not (step_of block items i == 0)) parts.0 in
      (first.0, (step_of block items i, (Steps_from_step block items i (eqb-false (step_of block items i) 0 (not_yes _ first.1)), not_yes _ parts.1))),
  λ told.
      let j = told.1.0 in
      let s : Steps block items i j = told.1.1.0 in
      let e = step_from_Steps block items i j s in
      let b = stepped_to_item block items i j s in
      let some : step_of block items i ≢ 0 = λ z. (let a = b.0 in omega (arith, a, e, z)) in
      let P : ℕ → Type 0 = λ k. is_heap_only_tuple (item_at items k) ≡ false in
      and_from (is_tuple (item_at items i) && not (step_of block items i == 0)) (not (is_heap_only_tuple (item_at items (step_of block items i))))
      (and_from (is_tuple (item_at items i)) (not (step_of block items i == 0)) told.0 (ap not (ne_eqb (step_of block items i) 0 some)))
      (ap not (subst P (sym e) told.1.1.1)),
)

stepped_from : (block : ℕ) (items : List ItemState) (n j : ℕ) → is_stepped_to block items n j ≡ true → (k : ℕ) × ((k ≤ n) × (step_of block items k ≡ j))
unfolding is_stepped_to
stepped_from block items zero j e = absurd cc
stepped_from block items (suc n) j e = elim (or_cases (is_stepped_to block items n j) (step_of block items (suc n) == j) e) [
  | inl sooner ↦ let h = stepped_from block items n j sooner in (h.0, ((let m = h.1.0 in omega (arith, m)), h.1.1))
  | inr now ↦ (suc n, (omega arith, eqb-true (step_of block items (suc n)) j now))
]

h15_told : (block : ℕ) (items : List ItemState) (i : ℕ) → 1 ≤ i → (shares_step block items i ≡ true) ↔ SharesStep block items i
h15_told block items i first = (
  λ e.
      let parts = and_parts (not (step_of block items i == 0)) (is_stepped_to block items (i - 1) (step_of block items i)) e in
      let some = eqb-false (step_of block items i) 0 (not_yes _ parts.0) in
      let h = stepped_from block items (i - 1) (step_of block items i) parts.1 in
      let P : ℕ → Type 0 = λ j. Steps block items h.0 j in
      let other = subst P h.1.1 (Steps_from_step block items h.0 (λ z. some (sym h.1.1 ∙ z))) in
      (step_of block items i, (h.0, ((let m = h.1.0 in omega (arith, m, first)), (Steps_from_step block items i some, other)))),
  λ told.
      let j = told.0 in
      let k = told.1.0 in
      let s : Steps block items i j = told.1.1.1.0 in
      let t : Steps block items k j = told.1.1.1.1 in
      let e = step_from_Steps block items i j s in
      let d = step_from_Steps block items k j t in
      let b = stepped_to_item block items i j s in
      let a = stepping_item block items k j t in
      let some : step_of block items i ≢ 0 = λ z. (let c = b.0 in omega (arith, c, e, z)) in
      and_from (not (step_of block items i == 0)) (is_stepped_to block items (i - 1) (step_of block items i))
      (ap not (ne_eqb (step_of block items i) 0 some))
      (stepped_below block items (i - 1) k (step_of block items i) a.0 (let below = told.1.1.0 in omega (arith, below)) (d ∙ sym e)),
)

-- no root reaches an item exactly where its number of a root is 0
lost_from_none : (block : ℕ) (items : List ItemState) (i : ℕ) → i ≢ 0 → root_number block items i ≡ 0 → (r : ℕ) → Reaches block items r i → ⊥
unfolding root_of
lost_from_none block items i some z =
    let P : Option ℕ → Type 0 = IsRootOf block items i in
    subst P (cond-true (root_number block items i == 0) None (Some (root_number block items i)) (eq-eqb (root_number block items i) 0 z)) (root_is_right block items i some)

none_from_lost : (block : ℕ) (items : List ItemState) (i : ℕ) → i ≢ 0 → ((r : ℕ) → Reaches block items r i → ⊥) → root_number block items i ≡ 0
unfolding root_of
none_from_lost block items i some lost = elim (cases_eq (root_number block items i) 0) [
  | inl z ↦ z
  | inr ne ↦
      let P : Option ℕ → Type 0 = IsRootOf block items i in
      let h = subst P (cond-false (root_number block items i == 0) None (Some (root_number block items i)) (ne_eqb (root_number block items i) 0 ne)) (root_is_right block items i some) in
      absurd (lost (root_number block items i) h.0)
]

h16_told : (block : ℕ) (items : List ItemState) (i : ℕ) → 1 ≤ i → (is_lost block items i ≡ true) ↔ IsLost block items i
h16_told block items i first = (
  λ e.
      let parts = and_parts (is_live_tuple (item_at items i) && is_heap_only_tuple (item_at items i)) (root_number block items i == 0) e in
      let both = and_parts (is_live_tuple (item_at items i)) (is_heap_only_tuple (item_at items i)) parts.0 in
      (both.0, (both.1, lost_from_none block items i (λ z. absurd (omega arith)) (eqb-true (root_number block items i) 0 parts.1))),
  λ told.
      and_from (is_live_tuple (item_at items i) && is_heap_only_tuple (item_at items i)) (root_number block items i == 0)
      (and_from (is_live_tuple (item_at items i)) (is_heap_only_tuple (item_at items i)) told.0 told.1.0)
      (eq-eqb (root_number block items i) 0 (none_from_lost block items i (λ z. absurd (omega arith)) told.1.1)),
)

pub rule_told : (block : ℕ) (items : List ItemState) (i : ℕ) → 1 ≤ i → (rule : Rule) → (breaks_chain_rule block items i rule ≡ true) ↔ IsChainRuleBroken block items i rule
rule_told block items i first H3 = h3_told items i
rule_told block items i first H14 = h14_told block items i
rule_told block items i first H15 = h15_told block items i first
rule_told block items i first H16 = h16_told block items i first
rule_told block items i first _ = (λ e. absurd cc, λ broken. absurd broken)

weaker : (P Q : Rule → Type 0) → ((rule : Rule) → P rule → Q rule) → (o : Option Rule) → IfSome o P → IfSome o Q
weaker P Q step None h = tt
weaker P Q step (Some rule) h = step rule h

module _ (block : ℕ) (items : List ItemState) (i : ℕ) (first : 1 ≤ i) where
  each_fails : AllByRecursion (λ rule. breaks_chain_rule block items i rule ≡ false) chain_rules → (rule : Rule) → breaks_chain_rule block items i rule ≡ false
  each_fails fail H3 = fail.0
  each_fails fail H14 = fail.1.0
  each_fails fail H15 = fail.1.1.0
  each_fails fail H16 = fail.1.1.1.0
  each_fails fail _ = refl

  unbroken : ((rule : Rule) → IsChainRuleBroken block items i rule → ⊥) → (rule : Rule) → breaks_chain_rule block items i rule ≡ false
  unbroken none rule = false_from_ne_true (breaks_chain_rule block items i rule) (λ e. none rule ((rule_told block items i first rule).0 e))

  -- there is no first broken rule exactly where none is broken
  pub none_told : (chain_rule block items i ≡ None) ↔ ((rule : Rule) → IsChainRuleBroken block items i rule → ⊥)
  unfolding chain_rule
  none_told = (
    λ e rule. iff_false (rule_told block items i first rule) (each_fails (none_passes (breaks_chain_rule block items i) chain_rules e) rule),
    λ none. find-none (breaks_chain_rule block items i) chain_rules (unbroken none H3, (unbroken none H14, (unbroken none H15, (unbroken none H16, tt)))),
  )

  pub first_told : IfSome (chain_rule block items i) (λ rule. IsChainRuleBroken block items i rule)
  unfolding chain_rule
  first_told =
      weaker (λ rule. breaks_chain_rule block items i rule ≡ true) (λ rule. IsChainRuleBroken block items i rule)
      (λ rule. (rule_told block items i first rule).0)
      (chain_rule block items i)
      (first_passes (breaks_chain_rule block items i) chain_rules)

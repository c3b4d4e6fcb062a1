-- A page on which no item may step.
use Rattle.std.proofs.Common.{◌≡◌, ℕ, zero, suc, ◌-◌, ◌≤◌, inl, inr, Bool, true, false, not, ◌==◌, ◌&&◌, List, length, get_or, Option, Some, None, refl, sym, subst, ap, ◌∙◌, arith}
use Rattle.std.specs.Prelude.{if◌then◌else◌}
use Rattle.std.proofs.lemmas.Bool.{cases_Bool, cases_eq, cases_lt, cond-true, cond-false, eq-eqb, ne_eqb, and_cases, and_left}
use Rattle.page_layout.specs.declared.rules.Rule.TheVariants.{H3, H14, H15, H16}
use Rattle.tuple_head.specs.Head.{is_hot_updated}
use Rattle.liveness.specs.declared.states.ItemState.{ItemState}
use Rattle.liveness.specs.declared.states.ItemState.TheVariants.{Unused, Dead, Redirect, Tuple}
use Rattle.hot_chains.specs.Chains.{item_at, is_dead, is_heap_only_tuple, is_live_tuple, is_root, is_root_at, is_stepped_to, is_tuple, is_tuple_of, may_step, points_astray, pointer, steps, step_of, root_number, root_of, chain_rule, is_astray, is_lost, shares_step, steps_to_indexed, Comes, IsRoot, IsRootOf}
use Rattle.hot_chains.specs.Quiet.{HasNoChains, IsUnchained}
use Rattle.hot_chains.proofs.Stepping.{item_at-past}
use Rattle.hot_chains.proofs.Whole.{root_is_right}

and_second : (x y : Bool) → y ≡ false → (x && y) ≡ false
and_second true y e = e
and_second false y e = refl

-- what may not step steps nowhere
steps_nowhere : (block i : ℕ) (from : ItemState) (j : ℕ) (to : ItemState) → may_step from ≡ false → steps block i from j to ≡ false
steps_nowhere block i (Redirect target) j to e = absurd cc
steps_nowhere block i Unused j to e = refl
steps_nowhere block i Dead j to e = refl
steps_nowhere block i (Tuple head judged) j to e =
    let start = is_tuple_of judged.update to && not (judged.update == 0) in
    let middle : ((start && is_dead judged.life) && is_hot_updated head) ≡ false = elim (and_cases (is_dead judged.life) (is_hot_updated head) e) [
      | inl d ↦ and_left (start && is_dead judged.life) (is_hot_updated head) (and_second start (is_dead judged.life) d)
      | inr h ↦ and_second (start && is_dead judged.life) (is_hot_updated head) h
    ] in
    and_left _ (not (j == i)) (and_left _ (head.ctid.item == j) (and_left _ (head.ctid.block == block) middle))

step_of-none : (block : ℕ) (items : List ItemState) (i : ℕ) → may_step (item_at items i) ≡ false → step_of block items i ≡ 0
unfolding step_of
step_of-none block items i e = cond-false (steps block i (item_at items i) (pointer (item_at items i)) (item_at items (pointer (item_at items i)))) (pointer (item_at items i)) 0 (steps_nowhere block i (item_at items i) (pointer (item_at items i)) (item_at items (pointer (item_at items i))) e)

not_astray : (items : List ItemState) (item : ItemState) → may_step item ≡ false → points_astray items item ≡ false
not_astray items (Redirect target) e = absurd cc
not_astray items Unused e = refl
not_astray items Dead e = refl
not_astray items (Tuple head judged) e = refl

none_of : (a b c d : Bool) → a ≡ false → b ≡ false → c ≡ false → d ≡ false → (if a then Some H3 else if b then Some H14 else if c then Some H15 else if d then Some H16 else None) ≡ None
none_of a b c d p q r s = cond-false a _ _ p ∙ cond-false b _ _ q ∙ cond-false c _ _ r ∙ cond-false d _ _ s

-- also numbers that name no item
each_item : (items : List ItemState) → HasNoChains items → (i : ℕ) → IsUnchained (item_at items i)
unfolding item_at
each_item items bare i = elim (cases_eq i 0) [
  | inl z ↦ subst IsUnchained (sym (item_at-past items i (inl z))) (refl, refl)
  | inr ne ↦ elim (cases_lt (length items) i) [
    | inl far ↦ subst IsUnchained (sym (item_at-past items i (inr far))) (refl, refl)
    | inr near ↦ subst IsUnchained (sym (cond-false (i == 0) Unused (get_or items (i - 1) Unused) (ne_eqb i 0 ne))) (bare (i - 1) Unused (omega arith))
  ]
]

pub bare_rules : (block : ℕ) (items : List ItemState) → HasNoChains items → (i : ℕ) → chain_rule block items i ≡ None
unfolding chain_rule
bare_rules block items none i =
    let bare = each_item items none i in
    let still : not (step_of block items i == 0) ≡ false = ap not (eq-eqb (step_of block items i) 0 (step_of-none block items i bare.0)) in
    none_of (is_astray items i) (steps_to_indexed block items i) (shares_step block items i) (is_lost block items i)
    (not_astray items (item_at items i) bare.0)
    (and_left (is_tuple (item_at items i) && not (step_of block items i == 0)) (not (is_heap_only_tuple (item_at items (step_of block items i)))) (and_second (is_tuple (item_at items i)) (not (step_of block items i == 0)) still))
    (and_left (not (step_of block items i == 0)) (is_stepped_to block items (i - 1) (step_of block items i)) still)
    (and_left (is_live_tuple (item_at items i) && is_heap_only_tuple (item_at items i)) (root_number block items i == 0) (and_second (is_live_tuple (item_at items i)) (is_heap_only_tuple (item_at items i)) bare.1))

-- only i comes to i
alone : (block : ℕ) (items : List ItemState) → HasNoChains items → (r k i : ℕ) → Comes block items r k i → r ≡ i
alone block items bare r zero i c = c
alone block items bare r (suc k) i (m, (c, s)) = absurd (let f = steps_nowhere block m (item_at items m) i (item_at items i) (each_item items bare m).0 in cc)

root_alone : (block : ℕ) (items : List ItemState) → HasNoChains items → (i : ℕ) (o : Option ℕ) → IsRootOf block items i o → o ≡ (if is_root_at items i then Some i else None)
unfolding is_root_at
root_alone block items bare i None h = elim (cases_Bool (is_root (item_at items i))) [
  | inl is ↦ absurd (h i (is, (0, refl)))
  | inr isnt ↦ sym (cond-false (is_root (item_at items i)) (Some i) None isnt)
]
root_alone block items bare i (Some r) h =
    let same = alone block items bare r h.0.1.0 i h.0.1.1 in
    let P : ℕ → Type 0 = λ q. IsRoot items q in
    ap (λ (q : ℕ). Some q) same ∙ sym (cond-true (is_root (item_at items i)) (Some i) None (subst P same h.0.0))

pub bare_roots : (block : ℕ) (items : List ItemState) → HasNoChains items → (i : ℕ) → 1 ≤ i → root_of block items i ≡ (if is_root_at items i then Some i else None)
bare_roots block items bare i first = root_alone block items bare i (root_of block items i) (root_is_right block items i (λ z. absurd (omega arith)))

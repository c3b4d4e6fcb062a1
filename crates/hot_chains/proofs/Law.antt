-- On a page that breaks no chain rule each live tuple has one root, and no root reaches two live tuples.
use Rattle.std.proofs.Common.{◌≡◌, ◌≢◌, ℕ, zero, suc, ◌-◌, ◌<◌, ◌≤◌, ◌⊎◌, inl, inr, Bool, true, false, not, ◌==◌, ◌&&◌, List, length, Some, None, refl, sym, subst, ap, ◌∙◌, arith}
use Rattle.std.specs.Prelude.{if◌then◌else◌}
use Rattle.std.proofs.lemmas.Bool.{cases_Bool, cases_eq, cases_lt, cases_order, eq-eqb, ne_eqb, and_parts, and_from, or_left, or_right, not_from_true}
use Rattle.page_layout.specs.declared.rules.Rule.TheVariants.{H3, H14, H15, H16}
use Rattle.liveness.specs.declared.states.ItemState.{ItemState}
use Rattle.liveness.specs.declared.states.ItemState.TheVariants.{Unused, Dead, Redirect, Tuple}
use Rattle.liveness.specs.declared.states.Life.{Life}
use Rattle.liveness.specs.declared.states.Life.TheVariants.{Live, Dead as dead_life, Unjudged, Broken}
use Rattle.hot_chains.specs.Chains.{item_at, is_dead, is_live, is_heap_only_tuple, is_live_tuple, is_tuple, is_root, is_root_at, steps, step_of, after, is_stepped_to, root_number, lowest_root, is_astray, steps_to_indexed, shares_step, is_lost, chain_rule, Steps, Comes, IsRoot, Reaches}
use Rattle.hot_chains.specs.Quiet.{KeepsChainRules, IsLiveItem, HasOneRoot}
use Rattle.hot_chains.proofs.Lowest.{near_from_within, lowest_is_root}
use Rattle.hot_chains.proofs.Stepping.{item_at-past, stepped_to_item, stepping_item, step_from_Steps, after_from_Comes, Comes_from_after}

none_broken : (a b c d : Bool) → (if a then Some H3 else if b then Some H14 else if c then Some H15 else if d then Some H16 else None) ≡ None → (b ≡ false) × (c ≡ false) × (d ≡ false)
none_broken true b c d e = absurd cc
none_broken false true c d e = absurd cc
none_broken false false true d e = absurd cc
none_broken false false false true e = absurd cc
none_broken false false false false e = (refl, refl, refl)

-- a live tuple doesn't step
live_steps_nowhere : (block i : ℕ) (from : ItemState) (j : ℕ) (to : ItemState) → is_live_tuple from ≡ true → steps block i from j to ≡ true → ⊥
live_steps_nowhere block i (Tuple head judged) j to live s =
    life_is_one judged.life live (and_parts _ _ (and_parts _ _ (and_parts _ _ (and_parts _ _ (and_parts _ _ s).0).0).0).0).1
  where
    life_is_one : (life : Life) → is_live life ≡ true → is_dead life ≡ true → ⊥
    life_is_one Live a b = absurd cc
    life_is_one dead_life a b = absurd cc
    life_is_one (Unjudged doubt) a b = absurd cc
    life_is_one (Broken rule) a b = absurd cc
live_steps_nowhere block i Unused j to live s = absurd cc
live_steps_nowhere block i Dead j to live s = absurd cc
live_steps_nowhere block i (Redirect target) j to live s = absurd cc

heap_only_is_no_root : (item : ItemState) → is_heap_only_tuple item ≡ true → is_root item ≡ true → ⊥
heap_only_is_no_root (Tuple head judged) a b = let z = not_from_true _ b in absurd cc
heap_only_is_no_root Unused a b = absurd cc
heap_only_is_no_root Dead a b = absurd cc
heap_only_is_no_root (Redirect target) a b = absurd cc

live_is_root_or_heap_only : (item : ItemState) → is_live_tuple item ≡ true → is_heap_only_tuple item ≡ false → is_root item ≡ true
live_is_root_or_heap_only (Tuple head judged) a b = ap not b
live_is_root_or_heap_only Unused a b = absurd cc
live_is_root_or_heap_only Dead a b = absurd cc
live_is_root_or_heap_only (Redirect target) a b = absurd cc

-- an item to which a redirect steps is heap-only
redirect_or_tuple : (block i : ℕ) (from : ItemState) (j : ℕ) (to : ItemState) → steps block i from j to ≡ true → (is_tuple from ≡ true) ⊎ (is_heap_only_tuple to ≡ true)
redirect_or_tuple block i (Redirect target) j to s = inr (and_parts _ _ s).0
redirect_or_tuple block i (Tuple head judged) j to s = inl refl
redirect_or_tuple block i Unused j to s = absurd cc
redirect_or_tuple block i Dead j to s = absurd cc

pub stepped_below : (block : ℕ) (items : List ItemState) (n k j : ℕ) → 1 ≤ k → k ≤ n → step_of block items k ≡ j → is_stepped_to block items n j ≡ true
unfolding is_stepped_to
stepped_below block items zero k j first last e = absurd (omega arith)
stepped_below block items (suc n) k j first last e = elim (cases_eq k (suc n)) [
  | inl z ↦ or_right (is_stepped_to block items n j) (step_of block items (suc n) == j) (eq-eqb (step_of block items (suc n)) j (let P : ℕ → Type 0 = λ m. step_of block items m ≡ j in subst P z e))
  | inr ne ↦ or_left (is_stepped_to block items n j) (step_of block items (suc n) == j) (stepped_below block items n k j first (omega arith) e)
]

module _ (block : ℕ) (items : List ItemState) (quiet : KeepsChainRules block items) where
  kept : (i : ℕ) → 1 ≤ i → i ≤ length items → (steps_to_indexed block items i ≡ false) × (shares_step block items i ≡ false) × (is_lost block items i ≡ false)
  unfolding chain_rule
  kept i first last = none_broken (is_astray items i) (steps_to_indexed block items i) (shares_step block items i) (is_lost block items i) (quiet i first last)

  some_step : (i j : ℕ) → Steps block items i j → step_of block items i ≢ 0
  some_step i j s z = let b = stepped_to_item block items i j s in let e = step_from_Steps block items i j s in omega (arith, b.0, e, z)

  stepped_is_heap_only : (i j : ℕ) → Steps block items i j → is_heap_only_tuple (item_at items j) ≡ true
  stepped_is_heap_only i j s = elim (redirect_or_tuple block i (item_at items i) j (item_at items j) s) [
    | inr done ↦ done
    | inl tuple ↦ elim (cases_Bool (is_heap_only_tuple (item_at items j))) [
      | inl done ↦ done
      | inr other ↦
          let b = stepping_item block items i j s in
          let k = kept i b.0 b.1 in
          let e = step_from_Steps block items i j s in
          let P : ℕ → Type 0 = λ m. is_heap_only_tuple (item_at items m) ≡ false in
          let broken : steps_to_indexed block items i ≡ true =
          and_from (is_tuple (item_at items i) && not (step_of block items i == 0)) (not (is_heap_only_tuple (item_at items (step_of block items i))))
          (and_from (is_tuple (item_at items i)) (not (step_of block items i == 0)) tuple (ap not (ne_eqb (step_of block items i) 0 (some_step i j s))))
          (ap not (subst P (sym e) other)) in
          absurd (let f = k.0 in cc)
    ]
  ]

  no_two : (i k j : ℕ) → k < i → Steps block items i j → Steps block items k j → ⊥
  no_two i k j below s t =
      let b = stepping_item block items i j s in
      let a = stepping_item block items k j t in
      let f = (kept i b.0 b.1).1 in
      let e = step_from_Steps block items i j s in
      let d = step_from_Steps block items k j t in
      let broken : shares_step block items i ≡ true =
      and_from (not (step_of block items i == 0)) (is_stepped_to block items (i - 1) (step_of block items i))
      (ap not (ne_eqb (step_of block items i) 0 (some_step i j s)))
      (stepped_below block items (i - 1) k (step_of block items i) a.0 (omega arith) (d ∙ sym e)) in
      absurd cc

  one_before : (i k j : ℕ) → Steps block items i j → Steps block items k j → i ≡ k
  one_before i k j s t = elim (cases_order i k) [
    | inl e ↦ e
    | inr other ↦ elim other [ inl below ↦ absurd (no_two k i j below t s) | inr below ↦ absurd (no_two i k j below s t) ]
  ]

  one_origin : (q r k n i : ℕ) → IsRoot items q → IsRoot items r → Comes block items q k i → Comes block items r n i → q ≡ r
  one_origin q r zero zero i is_q is_r c d = c ∙ sym d
  one_origin q r zero (suc n) i is_q is_r c (m, (d, s)) = absurd (let P : ℕ → Type 0 = λ j. IsRoot items j in heap_only_is_no_root (item_at items i) (stepped_is_heap_only m i s) (subst P c is_q))
  one_origin q r (suc k) zero i is_q is_r (m, (c, s)) d = absurd (let P : ℕ → Type 0 = λ j. IsRoot items j in heap_only_is_no_root (item_at items i) (stepped_is_heap_only m i s) (subst P d is_r))
  one_origin q r (suc k) (suc n) i is_q is_r (m, (c, s)) (l, (d, t)) =
      let P : ℕ → Type 0 = λ j. Comes block items r n j in
      one_origin q r k n m is_q is_r c (subst P (one_before l m i t s) d)

  live_within : (i : ℕ) → IsLiveItem items i → (1 ≤ i) × (i ≤ length items)
  live_within i live =
      let P : ItemState → Type 0 = λ x. is_live_tuple x ≡ true in
      let nothing : item_at items i ≡ Unused → ⊥ = λ e. (let t : is_live_tuple Unused ≡ true = subst P e live in absurd cc) in (
        elim (cases_eq i 0) [ inl z ↦ absurd (nothing (item_at-past items i (inl z))) | inr ne ↦ omega arith ],
        elim (cases_lt (length items) i) [ inl far ↦ absurd (nothing (item_at-past items i (inr far))) | inr near ↦ near ],
      )

  reached : (i : ℕ) → i ≢ 0 → root_number block items i ≢ 0 → Reaches block items (root_number block items i) i
  unfolding root_number is_root_at
  reached i some found =
      let v = lowest_root (step_of block items) (is_root_at items) (length items) i (length items) in
      let h = lowest_is_root (step_of block items) (is_root_at items) (length items) i (length items) found in
      let near = near_from_within (step_of block items) v (length items) i h.1 in
      (h.0, (near.count, Comes_from_after block items v near.count i some near.ends_there))

  has_root : (i : ℕ) → IsLiveItem items i → (r : ℕ) × Reaches block items r i
  has_root i live =
      let b = live_within i live in
      elim (cases_Bool (is_heap_only_tuple (item_at items i))) [
        | inr other ↦ (i, (live_is_root_or_heap_only (item_at items i) live other, (0, refl)))
        | inl only ↦ elim (cases_eq (root_number block items i) 0) [
          | inl z ↦ absurd (
              let f = (kept i b.0 b.1).2 in
              let broken : is_lost block items i ≡ true =
              and_from (is_live_tuple (item_at items i) && is_heap_only_tuple (item_at items i)) (root_number block items i == 0)
              (and_from (is_live_tuple (item_at items i)) (is_heap_only_tuple (item_at items i)) live only)
              (eq-eqb (root_number block items i) 0 z) in
              cc)
          | inr found ↦ (root_number block items i, reached i (let a = b.0 in omega (arith, a)) found)
        ]
      ]

  pub one_root : (i : ℕ) → IsLiveItem items i → HasOneRoot block items i
  one_root i live =
      let h = has_root i live in
      record {
        root = h.0;
        reaches = h.1;
        only = λ q reach. one_origin q h.0 reach.1.0 h.1.1.0 i reach.0 h.1.0 reach.1.1 h.1.1.1;
      }

-- where r comes further than i, i steps on
steps_on : (block : ℕ) (items : List ItemState) (r k i n j : ℕ) → k < n → Comes block items r k i → Comes block items r n j → (m : ℕ) × Steps block items i m
steps_on block items r k i zero j below c d = absurd (omega arith)
steps_on block items r k i (suc n) j below c (m, (d, s)) = elim (cases_eq k n) [
  | inl e ↦
      let P : ℕ → Type 0 = λ l. after (step_of block items) r l ≡ i in
      let same : i ≡ m = sym (subst P e (after_from_Comes block items r k i c)) ∙ after_from_Comes block items r n m d in
      let Q : ℕ → Type 0 = λ l. Steps block items l j in
      (j, subst Q (sym same) s)
  | inr ne ↦ steps_on block items r k i n m (omega arith) c d
]

pub one_live : (block : ℕ) (items : List ItemState) (r i j : ℕ) → Reaches block items r i → Reaches block items r j → IsLiveItem items i → IsLiveItem items j → i ≡ j
one_live block items r i j a b live_i live_j = elim (cases_order a.1.0 b.1.0) [
  | inl e ↦
      let P : ℕ → Type 0 = λ l. after (step_of block items) r l ≡ i in
      sym (subst P e (after_from_Comes block items r a.1.0 i a.1.1)) ∙ after_from_Comes block items r b.1.0 j b.1.1
  | inr other ↦ elim other [
    | inl below ↦ absurd (let s = steps_on block items r a.1.0 i b.1.0 j below a.1.1 b.1.1 in live_steps_nowhere block i (item_at items i) s.0 (item_at items s.0) live_i s.1)
    | inr below ↦ absurd (let s = steps_on block items r b.1.0 j a.1.0 i below b.1.1 a.1.1 in live_steps_nowhere block j (item_at items j) s.0 (item_at items s.0) live_j s.1)
  ]
]

-- A full table exists, so what is said of the lowest root holds on any page.
use Rattle.std.proofs.Common.{◌≡◌, ◌≢◌, ℕ, zero, suc, ◌+◌, ◌≤◌, inl, inr, Bool, true, List, length, set, refl, subst, arith}
use Rattle.std.proofs.Math.ListN.{replicate}
use Rattle.std.proofs.lemmas.List.Sums.{get_or-le-sum_by}
use Rattle.std.proofs.lemmas.Bool.{cases_Bool, cases_eq}
use Rattle.liveness.specs.declared.states.ItemState.{ItemState}
use Rattle.hot_chains.specs.Chains.{step_of, is_root_at, root_of, Reaches, IsRootOf}
use Rattle.hot_chains.specs.Marks.{IsGraph, Marked, Walking, mark, blank, blanks}
use Rattle.hot_chains.proofs.Marking.{marked_zeros, marked_skip, walk_begins, walk_ends, walk_goes_on, blanks-set, blank-zero}
use Rattle.hot_chains.proofs.Stepping.{page_is_graph, stepped_to_item, is_root-item}
use Rattle.hot_chains.proofs.Roots.{root_of_is_right}

module _ (step : ℕ → ℕ) (root : ℕ → Bool) (n : ℕ) (graph : IsGraph step root n) where
  -- a walk that is under way comes to an end
  walk_out : (fuel : ℕ) (marks : List ℕ) (r here : ℕ) → blanks marks ≤ fuel → root r ≡ true → Walking step root n marks r here → (more : List ℕ) × Marked step root n more (r + 1)
  walk_out zero marks r here few is h = absurd (let a = get_or-le-sum_by blank marks 0 0 (let l = h.long in omega (arith, l)) in let b = blank-zero (mark marks 0) h.free in omega (arith, a, b, few))
  walk_out (suc fuel) marks r here few is h = elim (cases_eq here 0) [
    | inl z ↦ (marks, walk_ends step root n marks r here graph is h (inl z))
    | inr some ↦ elim (cases_eq (mark marks here) 0) [
      | inr marked ↦ (marks, walk_ends step root n marks r here graph is h (inr marked))
      | inl bare ↦
          let r_some : r ≢ 0 = λ z. (let b = graph.begins r is in omega (arith, b.0)) in
          let less = blanks-set marks here r (let l = h.low in let m = h.long in omega (arith, l, m)) bare r_some in
          walk_out fuel (set marks here r) r (step here) (omega (arith, less, few)) is (walk_goes_on step root n marks r here graph is h some bare)
    ]
  ]

  -- a table for the roots up to r
  table_to : (r : ℕ) → (marks : List ℕ) × Marked step root n marks (suc r)
  table_to zero = (replicate (n + 1) 0, marked_zeros step root n (replicate (n + 1) 0) graph refl)
  table_to (suc r) =
      let before = table_to r in
      let e : suc r + 1 ≡ suc (suc r) = omega arith in
      elim (cases_Bool (root (suc r))) [
        | inl is ↦ let h = walk_out (blanks before.0) before.0 (suc r) (suc r) (omega arith) is (walk_begins step root n before.0 (suc r) graph before.1 is) in
            let P : ℕ → Type 0 = λ k. Marked step root n h.0 k in (h.0, subst P e h.1)
        | inr isnt ↦ let P : ℕ → Type 0 = λ k. Marked step root n before.0 k in (before.0, subst P e (marked_skip step root n before.0 (suc r) before.1 isnt))
      ]

  pub table : (marks : List ℕ) × Marked step root n marks (n + 1)
  table = let h = table_to n in let e : suc n ≡ n + 1 = omega arith in let P : ℕ → Type 0 = λ k. Marked step root n h.0 k in (h.0, subst P e h.1)

-- the lowest root, as a function, is the lowest of all that reach the item by any number of steps
pub root_is_right : (block : ℕ) (items : List ItemState) (i : ℕ) → i ≢ 0 → IsRootOf block items i (root_of block items i)
root_is_right block items i some =
    let h = table (step_of block items) (is_root_at items) (length items) (page_is_graph block items) in
    root_of_is_right block items h.0 h.1 i some

pub reached_item : (block : ℕ) (items : List ItemState) (r i : ℕ) → Reaches block items r i → i ≢ 0
unfolding is_root_at
reached_item block items r i (is, (zero, c)) e = let b = is_root-item items r is in omega (arith, b.0, c, e)
reached_item block items r i (is, (suc k, (m, (c, s)))) e = let b = stepped_to_item block items m i s in omega (arith, b.0, e)

use Rattle.std.proofs.Common.{◌≡◌, ◌+◌, ◌-◌, ◌/◌, ◌<◌, ◌≤◌, ◌∙◌, ℕ, List, inl, inr, false, refl, ap, subst, sym, arith}
use Rattle.std.specs.Prelude.{None, Some, slice_get}
use Rattle.std.specs.Cmp.{tied_itself}
use Rattle.std.specs.Ordering.{ordering_reverse}
use Rattle.std.specs.declared.cmp.Ordering.TheVariants.{Less, Equal, Greater}
use Rattle.std.proofs.lemmas.Bool.{cases_lt}
use Rattle.key_orders.specs.declared.Tid.{Tid}
use Rattle.key_orders.specs.Keys.{tid_order}
use Rattle.bt_tuples.specs.Rules.{are_not_rising}
use Rattle.bt_steps.specs.WayLaws.{tids_total}
use Rattle.bt_steps.proofs.TidRises.{some-is, tids-rise}
use Rattle.bt_steps.proofs.leaf.nth_of.Goals as goal

module _ (ts : List Tid) (rises : are_not_rising None ts ≡ false) (sought middle : Tid) (m : ℕ) (at : slice_get ts m ≡ Some middle) where
  same-at : (k : ℕ) (t : Tid) → k ≡ m → slice_get ts k ≡ Some t → middle ≡ t
  same-at k t is here = some-is middle t (sym at ∙ subst (λ (n : ℕ). slice_get ts n ≡ Some t) is here)

  -- what stands before a TID that is below the one that is sought
  all-below : tid_order middle sought ≡ Less → (k : ℕ) (t : Tid) → k < m + 1 → slice_get ts k ≡ Some t → tid_order t sought ≡ Less
  all-below low k t less is = elim (cases_lt k m) [
    | inl before ↦ tids_total.trans t middle sought (tids-rise ts rises k m t middle before is at) low
    | inr from ↦ subst (λ (u : Tid). tid_order u sought ≡ Less) (same-at k t (omega (arith, from, less)) is) low
  ]

  -- and what stands from a TID on that is above it
  all-above : tid_order middle sought ≡ Greater → (k : ℕ) (t : Tid) → m ≤ k → slice_get ts k ≡ Some t → tid_order sought t ≡ Less
  all-above high k t from is =
      let over : tid_order sought middle ≡ Less = tids_total.antisymm sought middle ∙ ap ordering_reverse high in
      elim (cases_lt m k) [
        | inl past ↦ tids_total.trans sought middle t over (tids-rise ts rises m k middle t past at is)
        | inr to ↦ subst (λ (u : Tid). tid_order sought u ≡ Less) (same-at k t (omega (arith, from, to)) is) over
      ]

itself : (t : Tid) → tid_order t t ≡ Less → ⊥
itself t e = clash (sym e ∙ tied_itself tids_total t)
  where
    clash : Less ≡ Equal → ⊥
    clash h = cc

pub loop-low-preserved-in-Less : goal.loop-low-preserved-in-Less
loop-low-preserved-in-Less c =
    let middle = c.loop-low.low + (c.loop-low.high - c.loop-low.low) / 2 in
    record {
      to = c.loop-low.invariant.to;
      below = λ rises k t less is. all-below c.args.tids.now rises c.args.tid c.get.result middle (sym c.get.ensures) (sym c.in-Less.ensures.order) k t less is;
      above = c.loop-low.invariant.above;
    }

pub loop-low-preserved : goal.loop-low-preserved
loop-low-preserved c =
    let middle = c.loop-low.low + (c.loop-low.high - c.loop-low.low) / 2 in
    record {
      to = omega (arith, c.loop-low.invariant.to, c.loop-low-test.true);
      below = c.loop-low.invariant.below;
      above = λ rises k t from is. all-above c.args.tids.now rises c.args.tid c.get.result middle (sym c.get.ensures) (sym c.in-Greater.ensures.order) k t from is;
    }

pub returns-in-Equal-clause-some : goal.returns-in-Equal-clause-some
returns-in-Equal-clause-some c = sym c.get.ensures ∙ ap Some (c.in-Equal.ensures.same.0 refl)

pub returns-clause-none : goal.returns-clause-none
returns-clause-none c none rises k is = elim (cases_lt k c.loop-low.low) [
  | inl before ↦ itself c.args.tid (c.loop-low.invariant.below rises k c.args.tid before is)
  | inr from ↦ itself c.args.tid (c.loop-low.invariant.above rises k c.args.tid (omega (arith, from, c.loop-low-test.false)) is)
]

-- There are no more levels than blocks.
use Rattle.std.proofs.Common.{◌≡◌, ◌≢◌, ℕ, zero, suc, ◌+◌, ◌-◌, ◌<◌, ◌≤◌, inl, inr, false, List, [], ◌∷◌, length, refl, ap, arith}
use Rattle.laws_search.specs.Order.{Order}
use Rattle.laws_search.specs.Searchable.{IsInUse}
use Rattle.laws_search.specs.Tree.{Index}
use Rattle.laws_search.proofs.Lists.{Each, In, NoRepeats, length-no_repeats}
use Rattle.laws_levels.specs.Rules.{entry_at}
use Rattle.laws_levels.specs.Sound.{HasSoundPages}
use Rattle.laws_levels.specs.Tests.{are_roots_misplaced}
use Rattle.laws_levels.proofs.Steps.{entries_used}

module _ {S E : Type 0} (o : Order S E) (x : Index S E) (local : HasSoundPages o x) (ne : x.root ≢ 0) (roots : are_roots_misplaced x ≡ false) where
  -- the entry pages of the first m levels
  abbrev entries : ℕ → List ℕ
  entries zero = []
  entries (suc m) = entry_at x m ∷ entries m

  used : (n : ℕ) → n ≤ x.level → IsInUse x (entry_at x n) × ((x.page (entry_at x n)).level ≡ x.level - n)
  used n le = entries_used o x local ne roots n le

  is_entry : (m q : ℕ) → In q (entries m) → (n : ℕ) × (n < m) × (q ≡ entry_at x n)
  is_entry zero q h = absurd h
  is_entry (suc m) q h = elim h [
    | inl e ↦ (m, omega arith, e)
    | inr k ↦ let r = is_entry m q k in let lt = r.1 in (r.0, omega arith, r.2)
  ]

  apart : (m : ℕ) → m ≤ x.level + 1 → NoRepeats (entries m)
  apart zero le = tt
  apart (suc m) le = (
    λ h.
        let r = is_entry m (entry_at x m) h in
        let lt = r.1 in
        let a = (used m (omega (arith, le))).1 in
        let b = (used r.0 (omega (arith, le, lt))).1 in
        let same : (x.page (entry_at x m)).level ≡ (x.page (entry_at x r.0)).level = ap (λ (q : ℕ). (x.page q).level) r.2 in
        absurd (omega (arith, a, b, same, lt, le)),
    apart m (omega (arith, le)),
  )

  below : (m : ℕ) → m ≤ x.level + 1 → Each (λ q. q < x.blocks) (entries m)
  below zero le = tt
  below (suc m) le = ((used m (omega (arith, le))).0.inside, below m (omega (arith, le)))

  counted : (m : ℕ) → length (entries m) ≡ m
  counted zero = refl
  counted (suc m) = ap suc (counted m)

  pub few_levels : x.blocks ≤ x.level → ⊥
  few_levels le =
      let n = x.level + 1 in
      let most = length-no_repeats x.blocks (entries n) (apart n (omega arith)) (below n (omega arith)) in
      let is = counted n in
      absurd (omega (arith, most, is, le))

-- The pages of a level part its items, and those above others are no more than half of them.
use Rattle.std.proofs.Common.{◌≡◌, ◌≤◌, ◌<◌, ◌+◌, ◌-◌, ℕ, zero, suc, Bool, true, false, cond, List, [], ◌∷◌, length, drop, get_or, refl, sym, ap, subst, arith}
use Rattle.std.specs.Prelude.{Option, Some, nat_le}
use Rattle.std.specs.List.{AllByRecursion}
use Rattle.std.proofs.lemmas.Bool.{le-leb}
use Rattle.std.proofs.Math.Seq.{drop-cons}
use Rattle.bt_build.specs.Levels.{ArePages, at_firsts}
use Rattle.bt_build.specs.Pages.{counts_from, first_size, page_counts}

module _ (f : Option ℕ) (b : ℕ) where
  pages_from : (sizes : List ℕ) (used count : ℕ) → 0 < count → ArePages (counts_from f b sizes used count) (count + length sizes)
  pages_from [] used count some = (some, omega arith, omega arith)
  pages_from (s ∷ sizes) used count some = by_room (nat_le (used + s) b) (pages_from sizes (used + s) (count + 1) (omega arith)) (pages_from sizes (first_size f s) 1 (omega arith))
    where
      by_room : (t : Bool) → ArePages (counts_from f b sizes (used + s) (count + 1)) (count + 1 + length sizes) → ArePages (counts_from f b sizes (first_size f s) 1) (1 + length sizes)
          → ArePages (cond t (counts_from f b sizes (used + s) (count + 1)) (count ∷ counts_from f b sizes (first_size f s) 1)) (count + suc (length sizes))
      by_room true here next =
          let e : count + 1 + length sizes ≡ count + suc (length sizes) = omega arith in
          subst (ArePages (counts_from f b sizes (used + s) (count + 1))) e here
      by_room false here next =
          let e : 1 + length sizes ≡ count + suc (length sizes) - count = omega arith in
          (some, omega arith, subst (ArePages (counts_from f b sizes (first_size f s) 1)) e next)

  pub pages_whole : (sizes : List ℕ) → ArePages (page_counts f b sizes) (length sizes)
  pages_whole [] = refl
  pages_whole (s ∷ sizes) =
      let e : 1 + length sizes ≡ suc (length sizes) = omega arith in
      subst (ArePages (counts_from f b sizes (first_size f s) 1)) e (pages_from sizes (first_size f s) 1 (omega arith))

module _ (first b : ℕ) where
  abbrev twice : List ℕ → ℕ
  twice counts = length counts + length counts

  -- the counts of a page that has some items, and of one that has its first
  abbrev Halves : List ℕ → Type 0
  Halves sizes =
      ((used count : ℕ) → twice (counts_from (Some first) b sizes used count) ≤ length sizes + 3)
      × ((count : ℕ) → twice (counts_from (Some first) b sizes first count) ≤ length sizes + 2)

  halves : (sizes : List ℕ) → AllByRecursion (λ s. first + s ≤ b) sizes → Halves sizes
  halves [] small = (λ used count. omega arith, λ count. omega arith)
  halves (s ∷ sizes) small =
      let rest = halves sizes small.1 in
      (λ used count. by_room used count (nat_le (used + s) b) rest, λ count. has_room count rest)
    where
      by_room : (used count : ℕ) (t : Bool) → Halves sizes → twice (cond t (counts_from (Some first) b sizes (used + s) (count + 1)) (count ∷ counts_from (Some first) b sizes first 1)) ≤ suc (length sizes) + 3
      by_room used count true rest = let h = rest.0 (used + s) (count + 1) in omega (arith, h)
      by_room used count false rest = let h = rest.1 1 in omega (arith, h)

      has_room : (count : ℕ) → Halves sizes → twice (cond (nat_le (first + s) b) (counts_from (Some first) b sizes (first + s) (count + 1)) (count ∷ counts_from (Some first) b sizes first 1)) ≤ suc (length sizes) + 2
      has_room count rest =
          let t : nat_le (first + s) b ≡ true = le-leb (first + s) b small.0 in
          let h = rest.0 (first + s) (count + 1) in
          subst (λ (c : Bool). twice (cond c (counts_from (Some first) b sizes (first + s) (count + 1)) (count ∷ counts_from (Some first) b sizes first 1)) ≤ suc (length sizes) + 2) (sym t) (omega (arith, h))

  pub half_as_many : (sizes : List ℕ) → AllByRecursion (λ s. first + s ≤ b) sizes → twice (page_counts (Some first) b sizes) ≤ suc (length sizes)
  half_as_many [] small = omega arith
  half_as_many (s ∷ sizes) small = let h = (halves sizes small.1).1 1 in omega (arith, h)

pub one_each : (counts xs : List ℕ) → length (at_firsts counts xs) ≡ length counts
one_each [] xs = refl
one_each (c ∷ counts) xs = ap suc (one_each counts (drop c xs))

-- items that are there have a page
pub some_page : (counts : List ℕ) (n : ℕ) → ArePages counts n → 0 < n → 0 < length counts
some_page [] n pages some = absurd (omega (arith, pages, some))
some_page (c ∷ counts) n pages some = omega arith

-- no page is empty
pub pages_few : (counts : List ℕ) (n : ℕ) → ArePages counts n → length counts ≤ n
pages_few [] n pages = omega arith
pages_few (c ∷ counts) n pages = let r = pages_few counts (n - c) pages.2 in omega (arith, r, pages.0, pages.1)

-- a page, and those after it
pub pages_here : (counts : List ℕ) (i d n : ℕ) → i < length counts → ArePages (drop i counts) n
    → (0 < get_or counts i d) × (get_or counts i d ≤ n) × ArePages (drop (suc i) counts) (n - get_or counts i d)
pages_here counts i d n lt pages = subst (λ (w : List ℕ). ArePages w n) (drop-cons counts i d lt) pages

-- what a read past the end would give doesn't matter within it
pub within_list : {X : Type 0} (xs : List X) (i : ℕ) (d e : X) → i < length xs → get_or xs i d ≡ get_or xs i e
within_list [] i d e lt = absurd (omega (arith, lt))
within_list (x ∷ xs) zero d e lt = refl
within_list (x ∷ xs) (suc i) d e lt = within_list xs i d e (omega (arith, lt))

-- How long the way of an entry is, by the numbers of an index.
use Rattle.std.proofs.Common.{◌≡◌, ◌≢◌, ℕ, zero, suc, ◌+◌, ◌-◌, ◌<◌, ◌≤◌, inl, inr, sym, ◌∙◌, subst, arith}
use Rattle.std.specs.Prelude.{◌==◌, cond}
use Rattle.std.proofs.lemmas.Bool.{cases_eq, cond-false, cond-true, eq-eqb, ne_eqb}
use Rattle.laws_search.specs.Levels.{level_rows}
use Rattle.laws_search.specs.Order.{Order}
use Rattle.laws_search.specs.Probe.{halves_down, right_halves}
use Rattle.laws_search.specs.Searchable.{IsSearchable}
use Rattle.laws_search.specs.Tree.{Index}

module _ {S E : Type 0} (x : Index S E) where
  -- the right halves of the levels from one on are among those of all levels above it too
  halves-from : (k m n : ℕ) → halves_down x m (n + k) ≤ halves_down x (k + m) n
  halves-from zero m n =
      let e : n + 0 ≡ n = omega arith in
      let d : 0 + m ≡ m = omega arith in
      subst (λ (j : ℕ). halves_down x m j ≤ halves_down x (0 + m) n) (sym e) (subst (λ (j : ℕ). halves_down x m n ≤ halves_down x j n) (sym d) (omega arith))
  halves-from (suc k) m n =
      let ih = halves-from k m (suc n) in
      let e : suc n + k ≡ n + suc k = omega arith in
      let d : suc k + m ≡ suc (k + m) = omega arith in
      let here = subst (λ (j : ℕ). halves_down x m j ≤ halves_down x (k + m) (suc n)) e ih in
      subst (λ (j : ℕ). halves_down x m (n + suc k) ≤ halves_down x j n) (sym d)
      (more (halves_down x m (n + suc k)) (halves_down x (k + m) (suc n)) (right_halves (level_rows x n)) here)
    where
      more : (a b h : ℕ) → a ≤ b → a ≤ h + b
      more a b h le = omega (arith, le)

  -- so those from the fast root down are among all
  halves-below : (fast level : ℕ) → fast ≤ level → halves_down x fast (level - fast) ≤ halves_down x level 0
  halves-below fast level le =
      let d : (level - fast) + fast ≡ level = omega (arith, le) in
      let e : 0 + (level - fast) ≡ level - fast = omega arith in
      subst (λ (j : ℕ). halves_down x fast (level - fast) ≤ halves_down x j 0) d
      (subst (λ (j : ℕ). halves_down x fast j ≤ halves_down x ((level - fast) + fast) 0) e (halves-from (level - fast) fast 0))

  module _ (o : Order S E) where
    pub way-short : (fastroot fastlevel halves half_dead : ℕ) → IsSearchable o x → fastroot ≡ x.fastroot → fastlevel ≡ x.fastlevel → halves ≡ cond (x.root == 0) 0 (halves_down x x.level 0)
        → cond (fastroot == 0) 0 (x.fastlevel + 1 + halves_down x x.fastlevel (x.level - x.fastlevel)) < fastlevel + 1 + halves + half_dead + 1
    way-short fastroot fastlevel halves half_dead fit root level all =
        let way : ℕ = x.fastlevel + 1 + halves_down x x.fastlevel (x.level - x.fastlevel) in
        let most : ℕ = fastlevel + 1 + halves + half_dead + 1 in
        elim (cases_eq fastroot 0) [
          | inl none ↦ subst (λ (n : ℕ). n < most) (sym (cond-true (fastroot == 0) 0 way (eq-eqb fastroot 0 none))) (omega arith)
          | inr some ↦
              let rooted : x.root ≢ 0 = λ z. some (root ∙ fit.root_or_empty.0 z) in
              let within = halves-below x.fastlevel x.level (fit.fast_below rooted) in
              let are : halves ≡ halves_down x x.level 0 = all ∙ cond-false (x.root == 0) 0 (halves_down x x.level 0) (ne_eqb x.root 0 rooted) in
              subst (λ (n : ℕ). n < most) (sym (cond-false (fastroot == 0) 0 way (ne_eqb fastroot 0 some)))
              (sums x.fastlevel fastlevel (halves_down x x.fastlevel (x.level - x.fastlevel)) (halves_down x x.level 0) halves half_dead level within are)
        ]
      where
        sums : (fast level part all halves half_dead : ℕ) → level ≡ fast → part ≤ all → halves ≡ all → fast + 1 + part < level + 1 + halves + half_dead + 1
        sums fast level part all halves half_dead e le are = omega (arith, e, le, are)

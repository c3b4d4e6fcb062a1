-- Pages that are cut by the sizes of their items are those that are filled by them.
use Rattle.std.proofs.Common.{◌≡◌, ◌+◌, ◌∙◌, ℕ, Bool, true, false, cond, List, [], ◌∷◌, length, map, refl, sym, ap, arith}
use Rattle.std.specs.Prelude.{Option, nat_le}
use Rattle.std.proofs.Math.Seq.{drop-append_seam, take-append_seam}
use Rattle.laws_building.specs.Cuts.{fill, fill_pages, joined}
use Rattle.laws_building.proofs.Fill.{fill_cuts}
use Rattle.bt_build.specs.Pages.{counts_from, cut_by, first_size, page_counts}

module _ {X : Type 0} where
  pub cut_joined : (pages : List (List X)) → cut_by (map length pages) (joined pages) ≡ pages
  cut_joined [] = refl
  cut_joined (p ∷ ps) =
      (λ i. take-append_seam p (joined ps) i ∷ cut_by (map length ps) (drop-append_seam p (joined ps) i)) ∙ ap (λ (w : List (List X)). p ∷ w) (cut_joined ps)

  module _ (f : Option ℕ) (size : X → ℕ) (b : ℕ) where
    abbrev filled : List X → ℕ → List X × List (List X)
    filled xs used = fill (λ x. first_size f (size x)) size b xs used

    counts_by : (x : X) (xs : List X) (used n : ℕ) (t : Bool)
        → ((u m : ℕ) → counts_from f b (map size xs) u m ≡ (m + length (filled xs u).0) ∷ map length (filled xs u).1)
        → cond t (counts_from f b (map size xs) (used + size x) (n + 1)) (n ∷ counts_from f b (map size xs) (first_size f (size x)) 1)
        ≡ (n + length (cond {A = List X × List (List X)} t (x ∷ (filled xs (used + size x)).0, (filled xs (used + size x)).1) ([], (x ∷ (filled xs (first_size f (size x))).0) ∷ (filled xs (first_size f (size x))).1)).0)
        ∷ map length (cond {A = List X × List (List X)} t (x ∷ (filled xs (used + size x)).0, (filled xs (used + size x)).1) ([], (x ∷ (filled xs (first_size f (size x))).0) ∷ (filled xs (first_size f (size x))).1)).1
    counts_by x xs used n true deeper =
        let e : n + 1 + length (filled xs (used + size x)).0 ≡ n + length (x ∷ (filled xs (used + size x)).0) = omega arith in
        deeper (used + size x) (n + 1) ∙ (λ i. e i ∷ map length (filled xs (used + size x)).1)
    counts_by x xs used n false deeper =
        let r = filled xs (first_size f (size x)) in
        let e : 1 + length r.0 ≡ length (x ∷ r.0) = omega arith in
        let z : n ≡ n + 0 = omega arith in
        ap (λ (w : List ℕ). n ∷ w) (deeper (first_size f (size x)) 1) ∙ (λ i. z i ∷ e i ∷ map length r.1)

    counts_are : (xs : List X) (used n : ℕ) → counts_from f b (map size xs) used n ≡ (n + length (filled xs used).0) ∷ map length (filled xs used).1
    counts_are [] used n = let z : n ≡ n + 0 = omega arith in (λ i. z i ∷ [])
    counts_are (x ∷ xs) used n = counts_by x xs used n (nat_le (used + size x) b) (counts_are xs)

    page_counts_are : (xs : List X) → page_counts f b (map size xs) ≡ map length (fill_pages (λ x. first_size f (size x)) size b xs)
    page_counts_are [] = refl
    page_counts_are (x ∷ xs) =
        let r = filled xs (first_size f (size x)) in
        let e : 1 + length r.0 ≡ length (x ∷ r.0) = omega arith in
        counts_are xs (first_size f (size x)) 1 ∙ (λ i. e i ∷ map length r.1)

    -- the pages of a level
    pub pages_are : (xs : List X) → fill_pages (λ x. first_size f (size x)) size b xs ≡ cut_by (page_counts f b (map size xs)) xs
    pages_are xs =
        let pages = fill_pages (λ x. first_size f (size x)) size b xs in
        sym (cut_joined pages)
        ∙ (λ i. cut_by (sym (page_counts_are xs) i) ((fill_cuts (λ x. first_size f (size x)) size b xs).whole i))

-- Data items as lists of downlinks.
use Rattle.std.proofs.Common.{◌≡◌, ℕ, zero, suc, ◌+◌, ◌<◌, ◌≤◌, [], ◌∷◌, drop, map, refl, sym, ap, ◌∙◌, arith}
use Rattle.std.specs.Prelude.{◌==◌, Option, Some, None}
use Rattle.std.proofs.lemmas.Bool.{ne_eqb}
use Rattle.laws_search.specs.Levels.{Downlink, is_single, page_downlinks}
use Rattle.laws_levels.specs.Rules.{second_separator}
use Rattle.bt_image.specs.Image.{numbers_from}

-- how many numbers there are
pub single_is : {X : Type 0} (f : ℕ → X) (i n : ℕ) → is_single (map f (numbers_from i n)) ≡ (n == 1)
single_is f i zero = refl
single_is f i (suc zero) = refl
single_is f i (suc (suc n)) = sym (ne_eqb (suc (suc n)) 1 (λ e. absurd (omega (arith, e))))

-- the second of them
pub second_is : {S : Type 0} (f : ℕ → S × ℕ) (i n : ℕ) → 2 ≤ n → second_separator (map f (numbers_from i n)) ≡ Some (f (i + 1)).0
second_is f i zero le = absurd (omega arith)
second_is f i (suc zero) le = absurd (omega arith)
second_is f i (suc (suc n)) le = let e : suc i ≡ i + 1 = omega arith in ap (λ (k : ℕ). Some (f k).0) e

pub no_second : {S : Type 0} (f : ℕ → S × ℕ) (i n : ℕ) → n ≤ 1 → second_separator (map f (numbers_from i n)) ≡ None
no_second f i zero le = refl
no_second f i (suc zero) le = refl
no_second f i (suc (suc n)) le = absurd (omega arith)

abbrev as_downlink : {S : Type 0} → S × ℕ → Downlink S
as_downlink c = (Some c.0, c.1)

mapped_drop : {X Y : Type 0} (g : X → Y) (f : ℕ → X) (i n k : ℕ) → k < n → drop k (map g (map f (numbers_from i n))) ≡ g (f (i + k)) ∷ drop (suc k) (map g (map f (numbers_from i n)))
mapped_drop g f i zero k lt = absurd (omega arith)
mapped_drop g f i (suc n) zero lt = let e : i ≡ i + 0 = omega arith in ap (λ (j : ℕ). g (f j) ∷ map g (map f (numbers_from (suc i) n))) e
mapped_drop g f i (suc n) (suc k) lt =
    let e : suc i + k ≡ i + suc k = omega arith in
    mapped_drop g f (suc i) n k (omega arith)
    ∙ ap (λ (j : ℕ). g (f j) ∷ drop (suc k) (map g (map f (numbers_from (suc i) n)))) e

none_dropped : {X Y : Type 0} (g : X → Y) (f : ℕ → X) (i n : ℕ) → drop n (map g (map f (numbers_from i n))) ≡ []
none_dropped g f i zero = refl
none_dropped g f i (suc n) = none_dropped g f (suc i) n

-- the downlinks of a page with these data items: the separator of the first is the lower bound
module _ {S : Type 0} (lower : Option S) (f : ℕ → S × ℕ) (i n : ℕ) where
  pub downlinks_first : 0 < n → page_downlinks lower (map f (numbers_from i n)) ≡ (lower, (f i).1) ∷ drop 1 (page_downlinks lower (map f (numbers_from i n)))
  downlinks_first some = go n some
    where
      go : (n : ℕ) → 0 < n → page_downlinks lower (map f (numbers_from i n)) ≡ (lower, (f i).1) ∷ drop 1 (page_downlinks lower (map f (numbers_from i n)))
      go zero some = absurd (omega arith)
      go (suc n) some = refl

  pub downlinks_later : (k : ℕ) → 0 < k → k < n → drop k (page_downlinks lower (map f (numbers_from i n))) ≡ (Some (f (i + k)).0, (f (i + k)).1) ∷ drop (suc k) (page_downlinks lower (map f (numbers_from i n)))
  downlinks_later k some lt = go n k some lt
    where
      go : (n k : ℕ) → 0 < k → k < n → drop k (page_downlinks lower (map f (numbers_from i n))) ≡ (Some (f (i + k)).0, (f (i + k)).1) ∷ drop (suc k) (page_downlinks lower (map f (numbers_from i n)))
      go zero k some lt = absurd (omega arith)
      go (suc n) zero some lt = absurd (omega arith)
      go (suc n) (suc k) some lt =
          let e : suc i + k ≡ i + suc k = omega arith in
          mapped_drop as_downlink f (suc i) n k (omega arith)
          ∙ ap (λ (j : ℕ). as_downlink (f j) ∷ drop (suc k) (map as_downlink (map f (numbers_from (suc i) n)))) e

  pub downlinks_end : drop n (page_downlinks lower (map f (numbers_from i n))) ≡ []
  downlinks_end = go n
    where
      go : (n : ℕ) → drop n (page_downlinks lower (map f (numbers_from i n))) ≡ []
      go zero = refl
      go (suc n) = none_dropped as_downlink f (suc i) n

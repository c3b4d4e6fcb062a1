-- Values by columns: the comparisons are total orders, and how a bound stands to an entry follows from how it stands to a separator.
use Rattle.std.proofs.Common.{◌≡◌, ◌≢◌, ℕ, suc, ◌<◌, ◌≤◌, ◌⊎◌, inl, inr, Bool, true, false, not, ◌||◌, List, [], ◌∷◌, length, refl, sym, ap, ◌∙◌, arith, Ordering, Less, Equal, Greater}
use Rattle.std.specs.Prelude.{nat_lt}
use Rattle.std.specs.Ordering.{ordering_then, ordering_reverse}
use Rattle.std.specs.Cmp.{IsTotalOrder}
use Rattle.std.proofs.lemmas.Bool.{or_parts, ltb-false, not_from_false}
use Rattle.laws_search.specs.Keys.{Columns, compare_values, compare_first, compare_both, is_above, before_bound, is_below, past_bound, reaches_beyond}

reverse_then : (a b : Ordering) → ordering_reverse (ordering_then a b) ≡ ordering_then (ordering_reverse a) (ordering_reverse b)
reverse_then Less b = refl
reverse_then Equal b = refl
reverse_then Greater b = refl

pub then_less : (a b : Ordering) → ordering_then a b ≡ Less → (a ≡ Less) ⊎ ((a ≡ Equal) × (b ≡ Less))
then_less Less b h = inl refl
then_less Equal b h = inr (refl, h)
then_less Greater b h = absurd cc

pub then_equal : (a b : Ordering) → ordering_then a b ≡ Equal → (a ≡ Equal) × (b ≡ Equal)
then_equal Less b h = absurd cc
then_equal Equal b h = (refl, h)
then_equal Greater b h = absurd cc

module _ {K : Type 0} (R : K → K → Ordering) (o : IsTotalOrder R) where
  pub flip_greater : (x y : K) → R x y ≡ Greater → R y x ≡ Less
  flip_greater x y h = o.antisymm y x ∙ ap ordering_reverse h

  pub flip_less : (x y : K) → R x y ≡ Less → R y x ≡ Greater
  flip_less x y h = o.antisymm y x ∙ ap ordering_reverse h

  flip_equal : (x y : K) → R x y ≡ Equal → R y x ≡ Equal
  flip_equal x y h = o.antisymm y x ∙ ap ordering_reverse h

  same_right : (x y z : K) → R y z ≡ Equal → R x y ≡ R x z
  same_right x y z h = o.antisymm x y ∙ (ap ordering_reverse (o.congr y z x h) ∙ sym (o.antisymm x z))

  -- below one that is not above a third
  pub less_le : (x y z : K) → R x y ≡ Less → (b : Ordering) → R y z ≡ b → b ≢ Greater → R x z ≡ Less
  less_le x y z h Less e ne = o.trans x y z h e
  less_le x y z h Equal e ne = sym (same_right x y z e) ∙ h
  less_le x y z h Greater e ne = absurd (ne refl)

  pub le_less : (x y z : K) → (a : Ordering) → R x y ≡ a → a ≢ Greater → R y z ≡ Less → R x z ≡ Less
  le_less x y z Less e ne h = o.trans x y z e h
  le_less x y z Equal e ne h = o.congr x y z e ∙ h
  le_less x y z Greater e ne h = absurd (ne refl)

-- one column of a bound x, an entry v and a kept value k: a = x against k, b = v against k, r = x against v
left_step : (a b r A B C : Ordering) → (a ≡ Greater → b ≢ Greater → r ≡ Greater) → (a ≡ Equal → r ≡ ordering_reverse b) → (B ≢ Greater → A ≢ Less → C ≢ Less) → ordering_then b B ≢ Greater → ordering_then a A ≢ Less → ordering_then r C ≢ Less
left_step Less b r A B C f g ih nb na = absurd (na refl)
left_step Equal Less r A B C f g ih nb na = λ h. absurd (let e : r ≡ Greater = g refl in cc (ap (λ w. ordering_then w C) e, h))
left_step Equal Equal r A B C f g ih nb na = λ h. ih nb na (ap (λ w. ordering_then w C) (sym (g refl)) ∙ h)
left_step Equal Greater r A B C f g ih nb na = absurd (nb refl)
left_step Greater b r A B C f g ih nb na = λ h. absurd (let e : r ≡ Greater = f refl (λ z. nb (ap (λ w. ordering_then w B) z)) in cc (ap (λ w. ordering_then w C) e, h))

above_step : (a b r A B C : Ordering) → (a ≡ Greater → b ≢ Greater → r ≡ Greater) → (a ≡ Equal → r ≡ ordering_reverse b) → (B ≢ Greater → A ≡ Greater → C ≡ Greater) → ordering_then b B ≢ Greater → ordering_then a A ≡ Greater → ordering_then r C ≡ Greater
above_step Less b r A B C f g ih nb na = absurd cc
above_step Equal Less r A B C f g ih nb na = ap (λ w. ordering_then w C) (g refl)
above_step Equal Equal r A B C f g ih nb na = ap (λ w. ordering_then w C) (g refl) ∙ ih nb na
above_step Equal Greater r A B C f g ih nb na = absurd (nb refl)
above_step Greater b r A B C f g ih nb na = ap (λ w. ordering_then w C) (f refl (λ z. nb (ap (λ w. ordering_then w B) z)))

short_step : (a b r A B C : Ordering) → (a ≡ Equal → r ≡ ordering_reverse b) → (B ≡ Less → A ≡ Equal → C ≡ Greater) → ordering_then b B ≡ Less → ordering_then a A ≡ Equal → ordering_then r C ≡ Greater
short_step Less b r A B C g ih nb na = absurd cc
short_step Greater b r A B C g ih nb na = absurd cc
short_step Equal Less r A B C g ih nb na = ap (λ w. ordering_then w C) (g refl)
short_step Equal Equal r A B C g ih nb na = ap (λ w. ordering_then w C) (g refl) ∙ ih nb na
short_step Equal Greater r A B C g ih nb na = absurd cc

past_step : (a b r A B C : Ordering) (tie : Bool) → (a ≡ Less → b ≢ Greater → r ≡ Less) → (a ≡ Equal → r ≡ b) → (B ≢ Greater → is_below A tie ≡ true → is_below C tie ≡ true) → ordering_then b B ≢ Greater → is_below (ordering_then a A) tie ≡ true → is_below (ordering_then r C) tie ≡ true
past_step Less b r A B C tie f g ih nb na = ap (λ w. is_below (ordering_then w C) tie) (f refl (λ z. nb (ap (λ w. ordering_then w B) z)))
past_step Equal Less r A B C tie f g ih nb na = ap (λ w. is_below (ordering_then w C) tie) (g refl)
past_step Equal Equal r A B C tie f g ih nb na = ap (λ w. is_below (ordering_then w C) tie) (g refl) ∙ ih nb na
past_step Equal Greater r A B C tie f g ih nb na = absurd (nb refl)
past_step Greater b r A B C tie f g ih nb na = absurd cc

-- the same from the other side
less_step : (a b r A B C : Ordering) → (a ≡ Less → b ≢ Less → r ≡ Less) → (a ≡ Equal → r ≡ ordering_reverse b) → (B ≢ Less → A ≡ Less → C ≡ Less) → ordering_then b B ≢ Less → ordering_then a A ≡ Less → ordering_then r C ≡ Less
less_step Less b r A B C f g ih nb na = ap (λ w. ordering_then w C) (f refl (λ z. nb (ap (λ w. ordering_then w B) z)))
less_step Equal Less r A B C f g ih nb na = absurd (nb refl)
less_step Equal Equal r A B C f g ih nb na = ap (λ w. ordering_then w C) (g refl) ∙ ih nb na
less_step Equal Greater r A B C f g ih nb na = ap (λ w. ordering_then w C) (g refl)
less_step Greater b r A B C f g ih nb na = absurd cc

tie_step : (a b r A B C : Ordering) → (a ≡ Equal → r ≡ ordering_reverse b) → (B ≢ Less → A ≡ Equal → C ≢ Greater) → ordering_then b B ≢ Less → ordering_then a A ≡ Equal → ordering_then r C ≢ Greater
tie_step Less b r A B C g ih nb na = absurd cc
tie_step Greater b r A B C g ih nb na = absurd cc
tie_step Equal Less r A B C g ih nb na = absurd (nb refl)
tie_step Equal Equal r A B C g ih nb na = λ h. ih nb na (ap (λ w. ordering_then w C) (sym (g refl)) ∙ h)
tie_step Equal Greater r A B C g ih nb na = λ h. absurd (let e : r ≡ Less = g refl in cc (ap (λ w. ordering_then w C) e, h))

before_step : (a b r A B C : Ordering) (tie : Bool) → (a ≡ Greater → b ≢ Greater → r ≡ Greater) → (a ≡ Equal → r ≡ ordering_reverse b) → (B ≢ Greater → is_above A tie ≡ true → is_above C tie ≡ true) → ordering_then b B ≢ Greater → is_above (ordering_then a A) tie ≡ true → is_above (ordering_then r C) tie ≡ true
before_step Less b r A B C tie f g ih nb na = absurd cc
before_step Equal Less r A B C tie f g ih nb na = ap (λ w. is_above (ordering_then w C) tie) (g refl)
before_step Equal Equal r A B C tie f g ih nb na = ap (λ w. is_above (ordering_then w C) tie) (g refl) ∙ ih nb na
before_step Equal Greater r A B C tie f g ih nb na = absurd (nb refl)
before_step Greater b r A B C tie f g ih nb na = ap (λ w. is_above (ordering_then w C) tie) (f refl (λ z. nb (ap (λ w. ordering_then w B) z)))

-- Of two separators: a = the bound against the higher, b = the lower against the higher, r = the bound against the lower.
-- The bound is above the higher one and ties with the lower: they part after the last value of the lower
parted_step : (a b r A B C : Ordering) (P : Type 0) → (a ≡ Greater → b ≢ Greater → r ≡ Greater) → (a ≡ Equal → r ≡ ordering_reverse b) → (B ≢ Greater → A ≡ Greater → C ≡ Equal → P) → ordering_then b B ≢ Greater → ordering_then a A ≡ Greater → ordering_then r C ≡ Equal → P
parted_step Less b r A B C P f g ih nb na nc = absurd cc
parted_step Equal Less r A B C P f g ih nb na nc = absurd (let e : r ≡ Greater = g refl in cc (ap (λ w. ordering_then w C) e, nc))
parted_step Equal Equal r A B C P f g ih nb na nc = ih nb na (ap (λ w. ordering_then w C) (sym (g refl)) ∙ nc)
parted_step Equal Greater r A B C P f g ih nb na nc = absurd (nb refl)
parted_step Greater b r A B C P f g ih nb na nc = absurd (let e : r ≡ Greater = f refl (λ z. nb (ap (λ w. ordering_then w B) z)) in cc (ap (λ w. ordering_then w C) e, nc))

-- the bound ties with both, and the lower is below the higher: the lower is shorter
shorter_step : (a b r A B C : Ordering) (P : Type 0) → (a ≡ Equal → r ≡ ordering_reverse b) → (B ≡ Less → A ≡ Equal → C ≡ Equal → P) → ordering_then b B ≡ Less → ordering_then a A ≡ Equal → ordering_then r C ≡ Equal → P
shorter_step Less b r A B C P g ih nb na nc = absurd cc
shorter_step Equal Less r A B C P g ih nb na nc = absurd (let e : r ≡ Greater = g refl in cc (ap (λ w. ordering_then w C) e, nc))
shorter_step Equal Equal r A B C P g ih nb na nc = ih nb na (ap (λ w. ordering_then w C) (sym (g refl)) ∙ nc)
shorter_step Equal Greater r A B C P g ih nb na nc = absurd cc
shorter_step Greater b r A B C P g ih nb na nc = absurd cc

module _ {V : Type 0} (cs : Columns V) (laws : (i : ℕ) → IsTotalOrder (cs i)) where
  values_antisymm : (i : ℕ) (xs ys : List V) → compare_values cs i xs ys ≡ ordering_reverse (compare_values cs i ys xs)
  values_antisymm i [] [] = refl
  values_antisymm i [] (y ∷ ys) = refl
  values_antisymm i (x ∷ xs) [] = refl
  values_antisymm i (x ∷ xs) (y ∷ ys) =
      ap (λ w. ordering_then w (compare_values cs (suc i) xs ys)) ((laws i).antisymm x y)
      ∙ (ap (λ w. ordering_then (ordering_reverse (cs i y x)) w) (values_antisymm (suc i) xs ys) ∙ sym (reverse_then (cs i y x) (compare_values cs (suc i) ys xs)))

  values_trans : (i : ℕ) (xs ys zs : List V) → compare_values cs i xs ys ≡ Less → compare_values cs i ys zs ≡ Less → compare_values cs i xs zs ≡ Less
  values_trans i [] [] zs p q = absurd cc
  values_trans i [] (y ∷ ys) [] p q = absurd cc
  values_trans i [] (y ∷ ys) (z ∷ zs) p q = refl
  values_trans i (x ∷ xs) [] zs p q = absurd cc
  values_trans i (x ∷ xs) (y ∷ ys) [] p q = absurd cc
  values_trans i (x ∷ xs) (y ∷ ys) (z ∷ zs) p q =
      let C = compare_values cs (suc i) xs zs in
      let by : (w : Ordering) → cs i x z ≡ w → ordering_then w C ≡ Less → ordering_then (cs i x z) C ≡ Less = λ w e h. ap (λ v. ordering_then v C) e ∙ h in
      elim (then_less (cs i x y) (compare_values cs (suc i) xs ys) p) [
        | inl a ↦ elim (then_less (cs i y z) (compare_values cs (suc i) ys zs) q) [
          | inl b ↦ by Less ((laws i).trans x y z a b) refl
          | inr b ↦ by Less (sym (same_right (cs i) (laws i) x y z b.0) ∙ a) refl
        ]
        | inr a ↦ elim (then_less (cs i y z) (compare_values cs (suc i) ys zs) q) [
          | inl b ↦ by Less ((laws i).congr x y z a.0 ∙ b) refl
          | inr b ↦ by Equal ((laws i).congr x y z a.0 ∙ b.0) (values_trans (suc i) xs ys zs a.1 b.1)
        ]
      ]

  values_congr : (i : ℕ) (xs ys zs : List V) → compare_values cs i xs ys ≡ Equal → compare_values cs i xs zs ≡ compare_values cs i ys zs
  values_congr i [] [] zs p = refl
  values_congr i [] (y ∷ ys) zs p = absurd cc
  values_congr i (x ∷ xs) [] zs p = absurd cc
  values_congr i (x ∷ xs) (y ∷ ys) [] p = refl
  values_congr i (x ∷ xs) (y ∷ ys) (z ∷ zs) p =
      let e = then_equal (cs i x y) (compare_values cs (suc i) xs ys) p in
      ap (λ w. ordering_then w (compare_values cs (suc i) xs zs)) ((laws i).congr x y z e.0) ∙ ap (λ w. ordering_then (cs i y z) w) (values_congr (suc i) xs ys zs e.1)

  pub values_total : (i : ℕ) → IsTotalOrder (compare_values cs i)
  values_total i = record { antisymm = values_antisymm i; trans = values_trans i; congr = values_congr i }

  -- above k, and v is not above k: above v
  pub over : (i : ℕ) (x v k : V) → cs i x k ≡ Greater → cs i v k ≢ Greater → cs i x v ≡ Greater
  over i x v k h ne = flip_less (cs i) (laws i) v x (le_less (cs i) (laws i) v k x (cs i v k) refl ne (flip_greater (cs i) (laws i) x k h))

  tied : (i : ℕ) (x v k : V) → cs i x k ≡ Equal → cs i x v ≡ ordering_reverse (cs i v k)
  tied i x v k h = (laws i).congr x k v h ∙ (laws i).antisymm k v

  pub left_of : (i : ℕ) (xs vs ks : List V) → compare_values cs i vs ks ≢ Greater → compare_both cs i xs ks ≢ Less → compare_first cs i xs vs ≢ Less
  left_of i [] vs ks nb na = λ e. absurd cc
  left_of i (x ∷ xs) [] ks nb na = λ e. absurd cc
  left_of i (x ∷ xs) (v ∷ vs) [] nb na = absurd (nb refl)
  left_of i (x ∷ xs) (v ∷ vs) (k ∷ ks) nb na = left_step (cs i x k) (cs i v k) (cs i x v) _ _ _ (over i x v k) (tied i x v k) (left_of (suc i) xs vs ks) nb na

  pub above_of : (i : ℕ) (xs vs ks : List V) → compare_values cs i vs ks ≢ Greater → compare_both cs i xs ks ≡ Greater → compare_first cs i xs vs ≡ Greater
  above_of i [] vs ks nb na = absurd cc
  above_of i (x ∷ xs) [] ks nb na = refl
  above_of i (x ∷ xs) (v ∷ vs) [] nb na = absurd (nb refl)
  above_of i (x ∷ xs) (v ∷ vs) (k ∷ ks) nb na = above_step (cs i x k) (cs i v k) (cs i x v) _ _ _ (over i x v k) (tied i x v k) (above_of (suc i) xs vs ks) nb na

  pub short_of : (i : ℕ) (xs vs ks : List V) → compare_values cs i vs ks ≡ Less → compare_both cs i xs ks ≡ Equal → length ks ≤ length xs → compare_first cs i xs vs ≡ Greater
  short_of i [] [] [] nb na le = absurd cc
  short_of i [] (v ∷ vs) [] nb na le = absurd cc
  short_of i [] vs (k ∷ ks) nb na le = absurd (omega arith)
  short_of i (x ∷ xs) [] ks nb na le = refl
  short_of i (x ∷ xs) (v ∷ vs) [] nb na le = absurd cc
  short_of i (x ∷ xs) (v ∷ vs) (k ∷ ks) nb na le = short_step (cs i x k) (cs i v k) (cs i x v) _ _ _ (tied i x v k) (λ p q. short_of (suc i) xs vs ks p q (omega arith)) nb na

  past_on : (i : ℕ) (xs ds es : List V) (tie : Bool) → compare_values cs i ds es ≢ Greater → is_below (compare_first cs i xs ds) tie ≡ true → is_below (compare_first cs i xs es) tie ≡ true
  past_on i [] ds es tie nb na = na
  past_on i (x ∷ xs) [] es tie nb na = absurd cc
  past_on i (x ∷ xs) (d ∷ ds) [] tie nb na = absurd (nb refl)
  past_on i (x ∷ xs) (d ∷ ds) (e ∷ es) tie nb na =
      past_step (cs i x d) (cs i d e) (cs i x e) _ _ _ tie (λ h ne. less_le (cs i) (laws i) x d e h (cs i d e) refl ne) (λ h. (laws i).congr x d e h) (past_on (suc i) xs ds es tie) nb na

  pub past_stays : (xs : List V) (inclusive : Bool) (ds es : List V) → compare_values cs 0 ds es ≢ Greater → past_bound cs xs inclusive ds ≡ true → past_bound cs xs inclusive es ≡ true
  past_stays [] inclusive ds es ne h = h
  past_stays (x ∷ xs) inclusive ds es ne h = past_on 0 (x ∷ xs) ds es (not inclusive) ne h

  -- below k, and v is not below k: below v
  under_all : (i : ℕ) (x v k : V) → cs i x k ≡ Less → cs i v k ≢ Less → cs i x v ≡ Less
  under_all i x v k h ne = less_le (cs i) (laws i) x k v h (cs i k v) refl (λ z. ne (flip_greater (cs i) (laws i) k v z))

  reach_less : (i : ℕ) (xs vs ks : List V) → compare_values cs i vs ks ≢ Less → compare_both cs i xs ks ≡ Less → compare_first cs i xs vs ≡ Less
  reach_less i [] vs ks nb na = absurd cc
  reach_less i (x ∷ xs) vs [] nb na = absurd cc
  reach_less i (x ∷ xs) [] (k ∷ ks) nb na = absurd (nb refl)
  reach_less i (x ∷ xs) (v ∷ vs) (k ∷ ks) nb na = less_step (cs i x k) (cs i v k) (cs i x v) _ _ _ (under_all i x v k) (tied i x v k) (reach_less (suc i) xs vs ks) nb na

  reach_tie : (i : ℕ) (xs vs ks : List V) → compare_values cs i vs ks ≢ Less → compare_both cs i xs ks ≡ Equal → length xs ≤ length ks → compare_first cs i xs vs ≢ Greater
  reach_tie i [] vs ks nb na le = λ e. absurd cc
  reach_tie i (x ∷ xs) vs [] nb na le = absurd (omega arith)
  reach_tie i (x ∷ xs) [] (k ∷ ks) nb na le = absurd (nb refl)
  reach_tie i (x ∷ xs) (v ∷ vs) (k ∷ ks) nb na le = tie_step (cs i x k) (cs i v k) (cs i x v) _ _ _ (tied i x v k) (λ p q. reach_tie (suc i) xs vs ks p q (omega arith)) nb na

  before_on : (i : ℕ) (xs ds es : List V) (tie : Bool) → compare_values cs i ds es ≢ Greater → is_above (compare_first cs i xs es) tie ≡ true → is_above (compare_first cs i xs ds) tie ≡ true
  before_on i [] ds es tie nb na = na
  before_on i (x ∷ xs) [] es tie nb na = refl
  before_on i (x ∷ xs) (d ∷ ds) [] tie nb na = absurd (nb refl)
  before_on i (x ∷ xs) (d ∷ ds) (e ∷ es) tie nb na = before_step (cs i x e) (cs i d e) (cs i x d) _ _ _ tie (over i x d e) (tied i x d e) (before_on (suc i) xs ds es tie) nb na

  pub before_stays : (xs : List V) (inclusive : Bool) (ds es : List V) → compare_values cs 0 ds es ≢ Greater → before_bound cs xs inclusive es ≡ true → before_bound cs xs inclusive ds ≡ true
  before_stays [] inclusive ds es ne h = h
  before_stays (x ∷ xs) inclusive ds es ne h = before_on 0 (x ∷ xs) ds es (not inclusive) ne h

  pub none_right_at : (xs : List V) (inclusive : Bool) (ks vs : List V) → compare_values cs 0 vs ks ≢ Less → reaches_beyond cs xs inclusive ks ≡ false → past_bound cs xs inclusive vs ≡ true
  none_right_at [] inclusive ks vs ne g = absurd cc
  none_right_at (x ∷ xs) inclusive [] vs ne g = absurd cc
  none_right_at (x ∷ xs) inclusive (k ∷ ks) vs ne g = go (compare_both cs 0 (x ∷ xs) (k ∷ ks)) refl g
    where
      tie : (c : Ordering) → c ≢ Greater → (t : Bool) → t ≡ true → is_below c t ≡ true
      tie Less ne t h = refl
      tie Equal ne t h = h
      tie Greater ne t h = absurd (ne refl)

      go : (a : Ordering) → compare_both cs 0 (x ∷ xs) (k ∷ ks) ≡ a → is_above a (inclusive || nat_lt (length (k ∷ ks)) (length (x ∷ xs))) ≡ false → is_below (compare_first cs 0 (x ∷ xs) vs) (not inclusive) ≡ true
      go Less is h = ap (λ c. is_below c (not inclusive)) (reach_less 0 (x ∷ xs) vs (k ∷ ks) ne is)
      go Greater is h = absurd cc
      go Equal is h =
          let parts = or_parts inclusive (nat_lt (length (k ∷ ks)) (length (x ∷ xs))) h in
          tie (compare_first cs 0 (x ∷ xs) vs) (reach_tie 0 (x ∷ xs) vs (k ∷ ks) ne is (ltb-false (length (k ∷ ks)) (length (x ∷ xs)) parts.1)) (not inclusive) (not_from_false inclusive parts.0)

  -- a bound that isn't below the higher of two separators isn't below the lower
  pub not_less : (i : ℕ) (xs ss ks : List V) → compare_values cs i ss ks ≢ Greater → compare_both cs i xs ks ≢ Less → compare_both cs i xs ss ≢ Less
  not_less i [] ss ks nb na = λ e. absurd cc
  not_less i (x ∷ xs) [] ks nb na = λ e. absurd cc
  not_less i (x ∷ xs) (s ∷ ss) [] nb na = absurd (nb refl)
  not_less i (x ∷ xs) (s ∷ ss) (k ∷ ks) nb na = left_step (cs i x k) (cs i s k) (cs i x s) _ _ _ (over i x s k) (tied i x s k) (not_less (suc i) xs ss ks) nb na

  -- one that is above the higher and ties with the lower: the lower has no more values than the bound, and fewer than the higher
  pub parted : (i : ℕ) (xs ss ks : List V) → compare_values cs i ss ks ≢ Greater → compare_both cs i xs ks ≡ Greater → compare_both cs i xs ss ≡ Equal → (length ss ≤ length xs) × (length ss < length ks)
  parted i [] ss ks nb na nc = absurd cc
  parted i (x ∷ xs) ss [] nb na nc = absurd cc
  parted i (x ∷ xs) [] (k ∷ ks) nb na nc = (omega arith, omega arith)
  parted i (x ∷ xs) (s ∷ ss) (k ∷ ks) nb na nc =
      parted_step (cs i x k) (cs i s k) (cs i x s) _ _ _ _ (over i x s k) (tied i x s k) (λ p q r. let h = parted (suc i) xs ss ks p q r in (omega arith, omega arith)) nb na nc

  -- one that ties with both: the lower has fewer values than the higher, if this has no more than the bound
  pub shorter : (i : ℕ) (xs ss ks : List V) → compare_values cs i ss ks ≡ Less → compare_both cs i xs ks ≡ Equal → length ks ≤ length xs → compare_both cs i xs ss ≡ Equal → length ss < length ks
  shorter i [] [] [] nb na le nc = absurd cc
  shorter i [] (s ∷ ss) [] nb na le nc = absurd cc
  shorter i [] ss (k ∷ ks) nb na le nc = absurd (omega arith)
  shorter i (x ∷ xs) [] [] nb na le nc = absurd cc
  shorter i (x ∷ xs) (s ∷ ss) [] nb na le nc = absurd cc
  shorter i (x ∷ xs) [] (k ∷ ks) nb na le nc = omega arith
  shorter i (x ∷ xs) (s ∷ ss) (k ∷ ks) nb na le nc =
      shorter_step (cs i x k) (cs i s k) (cs i x s) _ _ _ _ (tied i x s k) (λ p q r. let h = shorter (suc i) xs ss ks p q (omega arith) r in omega arith) nb na nc

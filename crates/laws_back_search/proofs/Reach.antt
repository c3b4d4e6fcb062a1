-- How far a high bound reaches: the laws of `reaches_beyond`.
use Rattle.std.proofs.Common.{◌≡◌, ◌≢◌, ℕ, suc, ◌<◌, inl, inr, Bool, true, false, ◌||◌, List, [], ◌∷◌, length, refl, sym, ap, ◌∙◌, arith, Ordering, Less, Equal, Greater}
use Rattle.std.specs.Prelude.{nat_lt}
use Rattle.std.specs.Ordering.{ordering_then, ordering_reverse, is_lt, is_le}
use Rattle.std.specs.Cmp.{IsTotalOrder}
use Rattle.std.proofs.lemmas.Bool.{cases_Bool, ltb-true, lt-ltb, or_left, or_right}
use Rattle.laws_search.specs.Keys.{Entry, Separator, Columns, Bound, compare_values, compare_tids, compare_keys, as_separator, key_order, compare_both, is_above, past_bound, reaches_beyond}
use Rattle.laws_search.proofs.Columns.{over, not_less, none_right_at}

-- one column of a bound x, a lower separator s and a higher one k: a = x against k, b = s against k, r = x against s
fewer_step : (a b r A B C : Ordering) (Q P : Type 0) → (a ≡ Greater → b ≢ Greater → r ≡ Greater) → (a ≡ Equal → r ≡ ordering_reverse b) → (B ≢ Greater → A ≢ Less → (A ≡ Equal → Q) → C ≡ Equal → P) → ordering_then b B ≢ Greater → ordering_then a A ≢ Less → (ordering_then a A ≡ Equal → Q) → ordering_then r C ≡ Equal → P
fewer_step Less b r A B C Q P f g ih nb na le nc = absurd (na refl)
fewer_step Equal Less r A B C Q P f g ih nb na le nc = absurd (let e : r ≡ Greater = g refl in cc (ap (λ w. ordering_then w C) e, nc))
fewer_step Equal Equal r A B C Q P f g ih nb na le nc = ih nb na le (ap (λ w. ordering_then w C) (sym (g refl)) ∙ nc)
fewer_step Equal Greater r A B C Q P f g ih nb na le nc = absurd (nb refl)
fewer_step Greater b r A B C Q P f g ih nb na le nc = absurd (let e : r ≡ Greater = f refl (λ z. nb (ap (λ w. ordering_then w B) z)) in cc (ap (λ w. ordering_then w C) e, nc))

module _ {V : Type 0} (cs : Columns V) (laws : (i : ℕ) → IsTotalOrder (cs i)) where
  -- a bound that reaches beyond the higher of two separators and ties with the lower is longer than that
  fewer : (i : ℕ) (xs ss ks : List V) → compare_values cs i ss ks ≢ Greater → compare_both cs i xs ks ≢ Less → (compare_both cs i xs ks ≡ Equal → length ks < length xs) → compare_both cs i xs ss ≡ Equal → length ss < length xs
  fewer i [] ss ks nb na le nc = absurd (let no : length ks < 0 = le refl in omega (arith, no))
  fewer i (x ∷ xs) [] ks nb na le nc = omega arith
  fewer i (x ∷ xs) (s ∷ ss) [] nb na le nc = absurd (nb refl)
  fewer i (x ∷ xs) (s ∷ ss) (k ∷ ks) nb na le nc =
      fewer_step (cs i x k) (cs i s k) (cs i x s) _ _ _ (length (k ∷ ks) < length (x ∷ xs)) (length (s ∷ ss) < length (x ∷ xs)) (over cs laws i x s k) (λ h. (laws i).congr x k s h ∙ (laws i).antisymm k s)
      (λ p q m n. let h = fewer (suc i) xs ss ks p q (λ e. let lt : length (k ∷ ks) < length (x ∷ xs) = m e in omega (arith, lt)) n in omega (arith, h)) nb na le nc

  pub reaches_lower : (xs : List V) (inclusive : Bool) (ss ks : List V) → compare_values cs 0 ss ks ≢ Greater → reaches_beyond cs xs inclusive ks ≡ true → reaches_beyond cs xs inclusive ss ≡ true
  reaches_lower [] inclusive ss ks ne g = refl
  reaches_lower (x ∷ xs) inclusive [] ks ne g = refl
  reaches_lower (x ∷ xs) inclusive (s ∷ ss) [] ne g = absurd (ne refl)
  reaches_lower (x ∷ xs) inclusive (s ∷ ss) (k ∷ ks) ne g = at (compare_both cs 0 (x ∷ xs) (s ∷ ss)) refl
    where
      high : Ordering
      high = compare_both cs 0 (x ∷ xs) (k ∷ ks)

      not_below : (a : Ordering) (t : Bool) → is_above a t ≡ true → a ≢ Less
      not_below Less t h = absurd cc
      not_below Equal t h = λ e. absurd cc
      not_below Greater t h = λ e. absurd cc

      at_tie : (a : Ordering) (t : Bool) → is_above a t ≡ true → a ≡ Equal → t ≡ true
      at_tie Less t h e = absurd cc
      at_tie Equal t h e = h
      at_tie Greater t h e = absurd cc

      na : compare_both cs 0 (x ∷ xs) (k ∷ ks) ≢ Less
      na = not_below (compare_both cs 0 (x ∷ xs) (k ∷ ks)) _ g

      at : (c : Ordering) → compare_both cs 0 (x ∷ xs) (s ∷ ss) ≡ c → is_above c (inclusive || nat_lt (length (s ∷ ss)) (length (x ∷ xs))) ≡ true
      at Less e = absurd (not_less cs laws 0 (x ∷ xs) (s ∷ ss) (k ∷ ks) ne na e)
      at Greater e = refl
      at Equal e = elim (cases_Bool inclusive) [
        | inl i ↦ or_left inclusive _ i
        | inr i ↦
            let long : compare_both cs 0 (x ∷ xs) (k ∷ ks) ≡ Equal → length (k ∷ ks) < length (x ∷ xs) =
            λ tie. ltb-true (length (k ∷ ks)) (length (x ∷ xs)) (sym (ap (λ w. w || nat_lt (length (k ∷ ks)) (length (x ∷ xs))) i) ∙ at_tie (compare_both cs 0 (x ∷ xs) (k ∷ ks)) _ g tie) in
            or_right inclusive _ (lt-ltb (length (s ∷ ss)) (length (x ∷ xs)) (fewer 0 (x ∷ xs) (s ∷ ss) (k ∷ ks) ne na long e))
      ]

module _ {V T : Type 0} (cs : Columns V) (laws : (i : ℕ) → IsTotalOrder (cs i)) (ts : T → T → Ordering) where
  -- an entry above a separator has values that are not below its
  not_below : (s t : Separator V T) → is_le (compare_keys cs ts s t) ≡ false → compare_values cs 0 s.kept t.kept ≢ Less
  not_below s t h = λ e. absurd (let f : compare_keys cs ts s t ≡ Less = ap (λ w. ordering_then w (compare_tids ts s.tid t.tid)) e in cc (ap is_le f, h))

  not_above : (s t : Separator V T) → is_lt (compare_keys cs ts s t) ≡ true → compare_values cs 0 s.kept t.kept ≢ Greater
  not_above s t h = λ e. absurd (let f : compare_keys cs ts s t ≡ Greater = ap (λ w. ordering_then w (compare_tids ts s.tid t.tid)) e in cc (ap is_lt f, h))

  pub none_right : (high : Bound V) (s : Separator V T) (e : Entry V T) → reaches_beyond cs high.values high.inclusive s.kept ≡ false → (key_order cs ts).within e s ≡ false → past_bound cs high.values high.inclusive e.values ≡ true
  none_right high s e g w = none_right_at cs laws high.values high.inclusive s.kept e.values (not_below (as_separator e) s w) g

  pub reaches_of_lower : (high : Bound V) (s t : Separator V T) → (key_order cs ts).under s t ≡ true → reaches_beyond cs high.values high.inclusive t.kept ≡ true → reaches_beyond cs high.values high.inclusive s.kept ≡ true
  reaches_of_lower high s t below g = reaches_lower cs laws high.values high.inclusive s.kept t.kept (not_above s t below) g

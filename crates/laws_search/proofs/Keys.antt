-- Entries, separators and scans by columns have the laws that the search needs.
use Rattle.std.proofs.Common.{◌≡◌, ◌≢◌, ℕ, ◌<◌, ◌≤◌, ◌⊎◌, inl, inr, Bool, true, false, not, List, [], ◌∷◌, length, refl, ap, arith, Ordering, Less, Equal, Greater}
use Rattle.std.specs.Prelude.{Option, Some, None, nat_le}
use Rattle.std.specs.Ordering.{ordering_then, ordering_reverse, is_lt, is_le}
use Rattle.std.specs.Cmp.{IsTotalOrder}
use Rattle.std.proofs.lemmas.Cmp.{then_total, on_total}
use Rattle.std.proofs.lemmas.Bool.{and_left, and_right, leb-true, le-leb, not_from_true}
use Rattle.laws_search.specs.Order.{IsOrder, IsScan}
use Rattle.laws_search.specs.Back.{IsBack}
use Rattle.laws_search.specs.Keys.{Entry, Separator, Columns, compare_values, compare_tids, compare_keys, as_separator, key_order, IsSeparatorOf, Bound, compare_first, compare_both, is_above, is_without, right_table, right_of_kept, goes_right, before_bound, past_bound, scan_between, back_between}
use Rattle.laws_search.proofs.Columns.{flip_greater, less_le, le_less, values_total, left_of, above_of, short_of, past_stays, before_stays, none_right_at, not_less, parted, shorter}

pub lt_less : (a : Ordering) → is_lt a ≡ true → a ≡ Less
lt_less Less h = refl
lt_less Equal h = absurd cc
lt_less Greater h = absurd cc

pub le_not : (a : Ordering) → is_le a ≡ true → a ≢ Greater
le_not Less h = λ e. absurd cc
le_not Equal h = λ e. absurd cc
le_not Greater h = absurd cc

pub not_le : (a : Ordering) → is_le a ≡ false → a ≡ Greater
not_le Less h = absurd cc
not_le Equal h = absurd cc
not_le Greater h = refl

itself : (a : Ordering) → a ≡ ordering_reverse a → is_lt a ≡ false
itself Less h = absurd cc
itself Equal h = refl
itself Greater h = refl

below_le : (a : Ordering) → is_lt a ≡ true → is_le a ≡ true
below_le Less h = refl
below_le Equal h = absurd cc
below_le Greater h = absurd cc

module _ {T : Type 0} (ts : T → T → Ordering) (laws : IsTotalOrder ts) where
  tids_antisymm : (t u : Option T) → compare_tids ts t u ≡ ordering_reverse (compare_tids ts u t)
  tids_antisymm None None = refl
  tids_antisymm None (Some u) = refl
  tids_antisymm (Some t) None = refl
  tids_antisymm (Some t) (Some u) = laws.antisymm t u

  tids_trans : (t u w : Option T) → compare_tids ts t u ≡ Less → compare_tids ts u w ≡ Less → compare_tids ts t w ≡ Less
  tids_trans None None w p q = absurd cc
  tids_trans None (Some u) None p q = absurd cc
  tids_trans None (Some u) (Some w) p q = refl
  tids_trans (Some t) None w p q = absurd cc
  tids_trans (Some t) (Some u) None p q = absurd cc
  tids_trans (Some t) (Some u) (Some w) p q = laws.trans t u w p q

  tids_congr : (t u w : Option T) → compare_tids ts t u ≡ Equal → compare_tids ts t w ≡ compare_tids ts u w
  tids_congr None None w p = refl
  tids_congr None (Some u) w p = absurd cc
  tids_congr (Some t) None w p = absurd cc
  tids_congr (Some t) (Some u) None p = refl
  tids_congr (Some t) (Some u) (Some w) p = laws.congr t u w p

  pub tids_total : IsTotalOrder (compare_tids ts)
  tids_total = record { antisymm = tids_antisymm; trans = tids_trans; congr = tids_congr }

-- where an equal bound goes right
right_at_tie : (inclusive no_longer without_tid : Bool) → right_table Equal inclusive no_longer without_tid ≡ true → (inclusive ≡ false) ⊎ ((no_longer ≡ true) × (without_tid ≡ true))
right_at_tie false n w h = inl refl
right_at_tie true true w h = inr (refl, h)
right_at_tie true false w h = absurd cc

module _ {V T : Type 0} (cs : Columns V) (laws : (i : ℕ) → IsTotalOrder (cs i)) (ts : T → T → Ordering) (tid_laws : IsTotalOrder ts) where
  pub keys_total : IsTotalOrder (compare_keys cs ts)
  keys_total = then_total (on_total (λ s. s.kept) (values_total cs laws 0)) (on_total (λ s. s.tid) (tids_total ts tid_laws))

  pub key_order_laws : IsOrder (key_order cs ts)
  key_order_laws =
      let R = compare_keys cs ts in
      let t = keys_total in
      record {
        across = λ d e s p q. ap is_lt (le_less R t (as_separator d) s (as_separator e) (R (as_separator d) s) refl (le_not _ p) (flip_greater R t (as_separator e) s (not_le _ q)));
        higher = λ e s u p q. ap is_le (le_less R t (as_separator e) s u (R (as_separator e) s) refl (le_not _ p) (lt_less _ q));
        lower = λ d e s p q. ap is_le (less_le R t (as_separator d) (as_separator e) s (lt_less _ p) (R (as_separator e) s) refl (le_not _ q));
        strict = λ e. itself (R (as_separator e) (as_separator e)) (t.antisymm (as_separator e) (as_separator e));
        chained = λ c d e p q. ap is_lt (t.trans (as_separator c) (as_separator d) (as_separator e) (lt_less _ p) (lt_less _ q));
      }

  -- a key that is not above another has values that are not
  values_not : (s t : Separator V T) → is_le (compare_keys cs ts s t) ≡ true → compare_values cs 0 s.kept t.kept ≢ Greater
  values_not s t h = λ e. absurd (let f : compare_keys cs ts s t ≡ Greater = ap (λ w. ordering_then w (compare_tids ts s.tid t.tid)) e in cc (ap is_le f, h))

  -- and they are below where the other has no TID
  values_below : (e : Entry V T) (kept : List V) (tid : Option T) → is_without tid ≡ true → is_le (compare_keys cs ts (as_separator e) (record { kept = kept; tid = tid })) ≡ true → compare_values cs 0 e.values kept ≡ Less
  values_below e kept (Some t) none h = absurd cc
  values_below e kept None none h = go (compare_values cs 0 e.values kept) h
    where
      go : (a : Ordering) → is_le (ordering_then a Greater) ≡ true → a ≡ Less
      go Less h = refl
      go Equal h = absurd cc
      go Greater h = absurd cc

  none_left_at : (xs : List V) (inclusive : Bool) (kept : List V) (tid : Option T) (e : Entry V T) → right_of_kept cs xs inclusive kept tid ≡ true → is_le (compare_keys cs ts (as_separator e) (record { kept = kept; tid = tid })) ≡ true → before_bound cs xs inclusive e.values ≡ true
  none_left_at [] inclusive kept tid e g w = absurd cc
  none_left_at (x ∷ xs) inclusive [] tid e g w = empty e.values (values_not (as_separator e) (record { kept = []; tid = tid }) w)
    where
      empty : (vs : List V) → compare_values cs 0 vs [] ≢ Greater → is_above (compare_first cs 0 (x ∷ xs) vs) (not inclusive) ≡ true
      empty [] h = refl
      empty (v ∷ vs) h = absurd (h refl)
  none_left_at (x ∷ xs) inclusive (k ∷ ks) tid e g w = go (compare_both cs 0 (x ∷ xs) (k ∷ ks)) refl g
    where
      ne : compare_values cs 0 e.values (k ∷ ks) ≢ Greater
      ne = values_not (as_separator e) (record { kept = k ∷ ks; tid = tid }) w

      at_tie : (c : Ordering) → c ≢ Less → (t : Bool) → t ≡ true → is_above c t ≡ true
      at_tie Less ne t h = absurd (ne refl)
      at_tie Equal ne t h = h
      at_tie Greater ne t h = refl

      go : (a : Ordering) → compare_both cs 0 (x ∷ xs) (k ∷ ks) ≡ a → right_table a inclusive (nat_le (length (k ∷ ks)) (length (x ∷ xs))) (is_without tid) ≡ true → is_above (compare_first cs 0 (x ∷ xs) e.values) (not inclusive) ≡ true
      go Less is h = absurd cc
      go Greater is h = ap (λ c. is_above c (not inclusive)) (above_of cs laws 0 (x ∷ xs) e.values (k ∷ ks) ne is)
      go Equal is h = elim (right_at_tie inclusive (nat_le (length (k ∷ ks)) (length (x ∷ xs))) (is_without tid) h) [
        | inl exclusive ↦ at_tie (compare_first cs 0 (x ∷ xs) e.values) (left_of cs laws 0 (x ∷ xs) e.values (k ∷ ks) ne (λ z. absurd (cc (z, is)))) (not inclusive) (ap not exclusive)
        | inr parts ↦ ap (λ c. is_above c (not inclusive)) (short_of cs laws 0 (x ∷ xs) e.values (k ∷ ks) (values_below e (k ∷ ks) tid parts.1 w) is (leb-true (length (k ∷ ks)) (length (x ∷ xs)) parts.0))
      ]

  -- where the scan goes right of a separator, no entry at or below it meets the low bound
  pub none_left : (low : Bound V) (s : Separator V T) (e : Entry V T) → goes_right cs low s ≡ true → (key_order cs ts).within e s ≡ true → before_bound cs low.values low.inclusive e.values ≡ true
  none_left low s e g w = none_left_at low.values low.inclusive s.kept s.tid e g w

  pub scan_laws : (low high : Bound V) → IsScan (key_order cs ts) (scan_between cs low high)
  scan_laws low high = record {
    none_left = λ e s g w. and_left (not (before_bound cs low.values low.inclusive e.values)) (not (past_bound cs high.values high.inclusive e.values)) (not_from_true (before_bound cs low.values low.inclusive e.values) (none_left_at low.values low.inclusive s.kept s.tid e g w));
    none_past = λ e p. and_right (not (before_bound cs low.values low.inclusive e.values)) (not (past_bound cs high.values high.inclusive e.values)) (not_from_true (past_bound cs high.values high.inclusive e.values) p);
    stays_past = λ d e p q. past_stays cs laws high.values high.inclusive d.values e.values (values_not (as_separator d) (as_separator e) (below_le (compare_keys cs ts (as_separator d) (as_separator e)) q)) p;
  }

  -- an entry above a separator has values that are not below its
  values_above : (s t : Separator V T) → is_le (compare_keys cs ts s t) ≡ false → compare_values cs 0 s.kept t.kept ≢ Less
  values_above s t h = λ e. absurd (let f : compare_keys cs ts s t ≡ Less = ap (λ w. ordering_then w (compare_tids ts s.tid t.tid)) e in cc (ap is_le f, h))

  pub back_laws : (low high : Bound V) → IsBack (key_order cs ts) (scan_between cs low high) (back_between cs low high)
  back_laws low high = record {
    none_right = λ e s g w. and_right (not (before_bound cs low.values low.inclusive e.values)) (not (past_bound cs high.values high.inclusive e.values)) (not_from_true (past_bound cs high.values high.inclusive e.values) (none_right_at cs laws high.values high.inclusive s.kept e.values (values_above (as_separator e) s w) g));
    none_before = λ e p. and_left (not (before_bound cs low.values low.inclusive e.values)) (not (past_bound cs high.values high.inclusive e.values)) (not_from_true (before_bound cs low.values low.inclusive e.values) p);
    stays_before = λ d e p q. before_stays cs laws low.values low.inclusive d.values e.values (values_not (as_separator d) (as_separator e) (below_le (compare_keys cs ts (as_separator d) (as_separator e)) q)) p;
  }

  -- what is below a separator without a TID has lower values
  lower_values : (s t : Separator V T) → is_lt (compare_keys cs ts s t) ≡ true → is_without t.tid ≡ true → compare_values cs 0 s.kept t.kept ≡ Less
  lower_values s t below none = go (compare_values cs 0 s.kept t.kept) s.tid t.tid none below
    where
      go : (a : Ordering) (u w : Option T) → is_without w ≡ true → is_lt (ordering_then a (compare_tids ts u w)) ≡ true → a ≡ Less
      go Less u w n h = refl
      go Greater u w n h = absurd cc
      go Equal u (Some w) n h = absurd cc
      go Equal None None n h = absurd cc
      go Equal (Some u) None n h = absurd cc

  without_tid : (n : ℕ) (s : Separator V T) → IsSeparatorOf n s → length s.kept < n → is_without s.tid ≡ true
  without_tid n s is lt = go (is_without s.tid) refl
    where
      go : (b : Bool) → is_without s.tid ≡ b → is_without s.tid ≡ true
      go true h = h
      go false h = let e = is.whole h in absurd (omega arith)

  right_below : (n : ℕ) (xs : List V) (inclusive : Bool) (ss : List V) (u : Option T) (ks : List V) (w : Option T) → IsSeparatorOf {T = T} n (record { kept = ss; tid = u }) → IsSeparatorOf {T = T} n (record { kept = ks; tid = w }) → is_lt (compare_keys cs ts (record { kept = ss; tid = u }) (record { kept = ks; tid = w })) ≡ true → right_of_kept cs xs inclusive ks w ≡ true → right_of_kept cs xs inclusive ss u ≡ true
  right_below n [] inclusive ss u ks w is it below g = absurd cc
  right_below n (x ∷ xs) inclusive [] u ks w is it below g = refl
  right_below n (x ∷ xs) inclusive (s ∷ ss) u [] w is it below g = absurd cc
  right_below n (x ∷ xs) inclusive (s ∷ ss) u (k ∷ ks) w is it below g =
      at (compare_both cs 0 (x ∷ xs) (s ∷ ss)) refl (not_less cs laws 0 (x ∷ xs) (s ∷ ss) (k ∷ ks) ne (higher (compare_both cs 0 (x ∷ xs) (k ∷ ks)) inclusive (nat_le (length (k ∷ ks)) (length (x ∷ xs))) (is_without w) g))
    where
      ne : compare_values cs 0 (s ∷ ss) (k ∷ ks) ≢ Greater
      ne = values_not (record { kept = s ∷ ss; tid = u }) (record { kept = k ∷ ks; tid = w }) (below_le _ below)

      higher : (a : Ordering) (i l v : Bool) → right_table a i l v ≡ true → a ≢ Less
      higher Less i l v h = absurd cc
      higher Equal i l v h = λ e. absurd cc
      higher Greater i l v h = λ e. absurd cc

      -- where the bound ties with the lower separator
      tie : compare_both cs 0 (x ∷ xs) (s ∷ ss) ≡ Equal → (a : Ordering) → compare_both cs 0 (x ∷ xs) (k ∷ ks) ≡ a → right_table a inclusive (nat_le (length (k ∷ ks)) (length (x ∷ xs))) (is_without w) ≡ true → (inclusive ≡ false) ⊎ ((length (s ∷ ss) ≤ length (x ∷ xs)) × (length (s ∷ ss) < length (k ∷ ks)))
      tie e Less is_a h = absurd cc
      tie e Greater is_a h = inr (parted cs laws 0 (x ∷ xs) (s ∷ ss) (k ∷ ks) ne is_a e)
      tie e Equal is_a h = elim (right_at_tie inclusive (nat_le (length (k ∷ ks)) (length (x ∷ xs))) (is_without w) h) [
        | inl exclusive ↦ inl exclusive
        | inr both ↦
            let le = leb-true (length (k ∷ ks)) (length (x ∷ xs)) both.0 in
            let lt = shorter cs laws 0 (x ∷ xs) (s ∷ ss) (k ∷ ks) (lower_values (record { kept = s ∷ ss; tid = u }) (record { kept = k ∷ ks; tid = w }) below both.1) is_a le e in
            inr (omega arith, lt)
      ]

      short : (i l v : Bool) → l ≡ true → v ≡ true → right_table Equal i l v ≡ true
      short false l v p q = refl
      short true true v p q = q
      short true false v p q = absurd cc

      at : (c : Ordering) → compare_both cs 0 (x ∷ xs) (s ∷ ss) ≡ c → c ≢ Less → right_table c inclusive (nat_le (length (s ∷ ss)) (length (x ∷ xs))) (is_without u) ≡ true
      at Less e nl = absurd (nl refl)
      at Greater e nl = refl
      at Equal e nl = elim (tie e (compare_both cs 0 (x ∷ xs) (k ∷ ks)) refl g) [
        | inl exclusive ↦ ap (λ i. right_table Equal i (nat_le (length (s ∷ ss)) (length (x ∷ xs))) (is_without u)) exclusive
        | inr both ↦
            let few = it.few in
            short inclusive _ _ (le-leb (length (s ∷ ss)) (length (x ∷ xs)) both.0) (without_tid n (record { kept = s ∷ ss; tid = u }) is (omega arith))
      ]

  -- the scan goes right of a separator only where it does of each lower one
  pub right_of_lower : (n : ℕ) (low : Bound V) (s t : Separator V T) → IsSeparatorOf n s → IsSeparatorOf n t → (key_order cs ts).under s t ≡ true → goes_right cs low t ≡ true → goes_right cs low s ≡ true
  right_of_lower n low s t is it below g = right_below n low.values low.inclusive s.kept s.tid t.kept t.tid is it below g

-- The shortened separators stand between their entries.
use Rattle.std.proofs.Common.{◌≡◌, ◌≢◌, ℕ, zero, suc, ◌<◌, true, List, [], ◌∷◌, length, take, refl, sym, ap, ◌∙◌, arith, Ordering, Less, Equal, Greater}
use Rattle.std.specs.Prelude.{Option, Some, None}
use Rattle.std.specs.Ordering.{ordering_then, ordering_reverse, is_lt, is_le}
use Rattle.std.specs.Cmp.{IsTotalOrder}
use Rattle.std.proofs.lemmas.List.{length-take}
use Rattle.laws_search.specs.Keys.{Entry, Columns, compare_values, compare_tids, compare_keys, as_separator, key_order}
use Rattle.laws_search.specs.Order.{IsOrder}
use Rattle.laws_search.proofs.Columns.{flip_greater, less_le}
use Rattle.laws_search.proofs.Keys.{lt_less, le_not, not_le}
use Rattle.laws_building.specs.Splits.{keep_by, split_values, key_splitter, IsShortest, IsPivotShape}
use Rattle.laws_building.specs.Fresh.{IsKeyOrder, IsSplitter}

itself : (a : Ordering) → a ≡ ordering_reverse a → a ≡ Equal
itself Less h = absurd cc
itself Equal h = refl
itself Greater h = absurd cc

from_less : (a : Ordering) → a ≡ Less → is_le a ≡ true
from_less Less h = refl
from_less Equal h = absurd cc
from_less Greater h = absurd cc

not_greater : (a : Ordering) → a ≢ Greater → is_le a ≡ true
not_greater Less h = refl
not_greater Equal h = refl
not_greater Greater h = absurd (h refl)

module _ {V T : Type 0} (cs : Columns V) (ts : T → T → Ordering) where
  tids_of : (d e : Entry V T) → compare_keys cs ts (as_separator d) (as_separator e) ≡ Less → compare_values cs 0 d.values e.values ≡ Equal → ts d.tid e.tid ≡ Less
  tids_of d e h z = sym (ap (λ w. ordering_then w (ts d.tid e.tid)) z) ∙ h

  pub ties : (d e : Entry V T) → (key_order cs ts).precedes d e ≡ true → compare_values cs 0 d.values e.values ≡ Equal → ts d.tid e.tid ≡ Less
  ties d e below equal = tids_of d e (lt_less _ below) equal

module _ {V T : Type 0} (cs : Columns V) (laws : (i : ℕ) → IsTotalOrder (cs i)) (ts : T → T → Ordering) where
  -- a value equals itself
  same_value : (i : ℕ) (v : V) → cs i v v ≡ Equal
  same_value i v = itself (cs i v v) ((laws i).antisymm v v)

  -- the left key against the separator
  left_side : IsTotalOrder ts → (tid : T) (xs ys : List V) (i : ℕ) → compare_values cs i xs ys ≢ Greater → ordering_then (compare_values cs i xs (split_values cs tid xs ys i).kept) (compare_tids ts (Some tid) (split_values cs tid xs ys i).tid) ≢ Greater
  left_side tids tid [] [] i h = λ e. absurd (let same : ts tid tid ≡ Equal = itself (ts tid tid) (tids.antisymm tid tid) in cc (same, e))
  left_side tids tid (x ∷ xs) [] i h = absurd (h refl)
  left_side tids tid [] (y ∷ ys) i h = λ e. absurd cc
  left_side tids tid (x ∷ xs) (y ∷ ys) i h = go (cs i x y) refl (left_side tids tid xs ys (suc i))
    where
      go : (a : Ordering) → cs i x y ≡ a → (compare_values cs (suc i) xs ys ≢ Greater → ordering_then (compare_values cs (suc i) xs (split_values cs tid xs ys (suc i)).kept) (compare_tids ts (Some tid) (split_values cs tid xs ys (suc i)).tid) ≢ Greater) → ordering_then (compare_values cs i (x ∷ xs) (keep_by a y (split_values cs tid xs ys (suc i))).kept) (compare_tids ts (Some tid) (keep_by a y (split_values cs tid xs ys (suc i))).tid) ≢ Greater
      go Less is ih = λ e. absurd (let h = ap (λ w. ordering_then (ordering_then w (compare_values cs (suc i) xs [])) Greater) (sym is) ∙ e in cc)
      go Equal is ih = λ e. ih (λ z. h (ap (λ w. ordering_then w (compare_values cs (suc i) xs ys)) is ∙ z)) (sym (ap (λ w. ordering_then (ordering_then w (compare_values cs (suc i) xs (split_values cs tid xs ys (suc i)).kept)) (compare_tids ts (Some tid) (split_values cs tid xs ys (suc i)).tid)) is) ∙ e)
      go Greater is ih = absurd (h (ap (λ w. ordering_then w (compare_values cs (suc i) xs ys)) is))

  -- more values, or none and a TID: above the separator that keeps these
  longer : (ys : List V) (i : ℕ) → ordering_then (compare_values cs i ys []) Greater ≡ Greater
  longer [] i = refl
  longer (y ∷ ys) i = refl

  right_side : IsTotalOrder ts → (tid u : T) (xs ys : List V) (i : ℕ) → compare_values cs i xs ys ≢ Greater → (compare_values cs i xs ys ≡ Equal → ts tid u ≡ Less) → ordering_then (compare_values cs i ys (split_values cs tid xs ys i).kept) (compare_tids ts (Some u) (split_values cs tid xs ys i).tid) ≡ Greater
  right_side tids tid u [] [] i h t = tids.antisymm u tid ∙ ap ordering_reverse (t refl)
  right_side tids tid u (x ∷ xs) [] i h t = absurd (h refl)
  right_side tids tid u [] (y ∷ ys) i h t = ap (λ w. ordering_then (ordering_then w (compare_values cs (suc i) ys [])) Greater) (same_value i y) ∙ longer ys (suc i)
  right_side tids tid u (x ∷ xs) (y ∷ ys) i h t = go (cs i x y) refl (right_side tids tid u xs ys (suc i))
    where
      go : (a : Ordering) → cs i x y ≡ a → (compare_values cs (suc i) xs ys ≢ Greater → (compare_values cs (suc i) xs ys ≡ Equal → ts tid u ≡ Less) → ordering_then (compare_values cs (suc i) ys (split_values cs tid xs ys (suc i)).kept) (compare_tids ts (Some u) (split_values cs tid xs ys (suc i)).tid) ≡ Greater) → ordering_then (compare_values cs i (y ∷ ys) (keep_by a y (split_values cs tid xs ys (suc i))).kept) (compare_tids ts (Some u) (keep_by a y (split_values cs tid xs ys (suc i))).tid) ≡ Greater
      go Less is ih = ap (λ w. ordering_then (ordering_then w (compare_values cs (suc i) ys [])) Greater) (same_value i y) ∙ longer ys (suc i)
      go Equal is ih =
          ap (λ w. ordering_then (ordering_then w (compare_values cs (suc i) ys (split_values cs tid xs ys (suc i)).kept)) (compare_tids ts (Some u) (split_values cs tid xs ys (suc i)).tid)) (same_value i y)
          ∙ ih (λ z. h (ap (λ w. ordering_then w (compare_values cs (suc i) xs ys)) is ∙ z)) (λ z. t (ap (λ w. ordering_then w (compare_values cs (suc i) xs ys)) is ∙ z))
      go Greater is ih = absurd (h (ap (λ w. ordering_then w (compare_values cs (suc i) xs ys)) is))

  pub key_order_is : IsTotalOrder (compare_keys cs ts) → IsOrder (key_order cs ts) → IsKeyOrder (key_order cs ts)
  key_order_is t order =
      let R = compare_keys cs ts in
      record {
        entries = order;
        parted = λ e s u p q. ap is_lt (less_le R t s (as_separator e) u (flip_greater R t (as_separator e) s (not_le _ p)) (R (as_separator e) u) refl (le_not _ q));
        under_chained = λ r s u p q. ap is_lt (t.trans r s u (lt_less _ p) (lt_less _ q));
      }

  values_of : (d e : Entry V T) → compare_keys cs ts (as_separator d) (as_separator e) ≡ Less → compare_values cs 0 d.values e.values ≢ Greater
  values_of d e h = λ z. absurd (let k = sym (ap (λ w. ordering_then w (ts d.tid e.tid)) z) ∙ h in cc)

  pub splits : IsTotalOrder ts → IsSplitter (key_order cs ts) (key_splitter cs)
  splits tids = record {
    left_within = λ d e p. not_greater _ (left_side tids d.tid d.values e.values 0 (values_of d e (lt_less _ p)));
    right_above = λ d e p. let h = lt_less _ p in ap is_le (right_side tids d.tid e.tid d.values e.values 0 (values_of d e h) (tids_of cs ts d e h));
  }

  -- the kept values are the first of the right ones
  kept_front : (tid : T) (xs ys : List V) (i : ℕ) → (split_values cs tid xs ys i).kept ≡ take (length (split_values cs tid xs ys i).kept) ys
  kept_front tid xs [] i = refl
  kept_front tid [] (y ∷ ys) i = refl
  kept_front tid (x ∷ xs) (y ∷ ys) i = go (cs i x y) (kept_front tid xs ys (suc i))
    where
      go : (a : Ordering) → (split_values cs tid xs ys (suc i)).kept ≡ take (length (split_values cs tid xs ys (suc i)).kept) ys → (keep_by a y (split_values cs tid xs ys (suc i))).kept ≡ take (length (keep_by a y (split_values cs tid xs ys (suc i))).kept) (y ∷ ys)
      go Less ih = refl
      go Equal ih = ap (λ w. y ∷ w) ih
      go Greater ih = refl

  kept_fewest : (tid : T) (xs ys : List V) (i n : ℕ) → n < length (split_values cs tid xs ys i).kept → compare_values cs i (take n xs) (take n ys) ≡ Equal
  kept_fewest tid xs [] i n lt = absurd (omega arith)
  kept_fewest tid [] (y ∷ ys) i zero lt = refl
  kept_fewest tid [] (y ∷ ys) i (suc n) lt = absurd (omega arith)
  kept_fewest tid (x ∷ xs) (y ∷ ys) i zero lt = refl
  kept_fewest tid (x ∷ xs) (y ∷ ys) i (suc n) lt = go (cs i x y) refl lt (λ l. kept_fewest tid xs ys (suc i) n l)
    where
      go : (a : Ordering) → cs i x y ≡ a → suc n < length (keep_by a y (split_values cs tid xs ys (suc i))).kept → (n < length (split_values cs tid xs ys (suc i)).kept → compare_values cs (suc i) (take n xs) (take n ys) ≡ Equal) → ordering_then (cs i x y) (compare_values cs (suc i) (take n xs) (take n ys)) ≡ Equal
      go Less is l ih = absurd (omega arith)
      go Equal is l ih = ap (λ w. ordering_then w (compare_values cs (suc i) (take n xs) (take n ys))) is ∙ ih (omega arith)
      go Greater is l ih = absurd (omega arith)

  kept_differs : (tid : T) (xs ys : List V) (i : ℕ) → (split_values cs tid xs ys i).tid ≡ None → compare_values cs i (take (length (split_values cs tid xs ys i).kept) xs) (split_values cs tid xs ys i).kept ≢ Equal
  kept_differs tid xs [] i none = absurd cc
  kept_differs tid [] (y ∷ ys) i none = λ e. absurd cc
  kept_differs tid (x ∷ xs) (y ∷ ys) i none = go (cs i x y) refl none (λ n. kept_differs tid xs ys (suc i) n)
    where
      go : (a : Ordering) → cs i x y ≡ a → (keep_by a y (split_values cs tid xs ys (suc i))).tid ≡ None → ((split_values cs tid xs ys (suc i)).tid ≡ None → compare_values cs (suc i) (take (length (split_values cs tid xs ys (suc i)).kept) xs) (split_values cs tid xs ys (suc i)).kept ≢ Equal) → compare_values cs i (take (length (keep_by a y (split_values cs tid xs ys (suc i))).kept) (x ∷ xs)) (keep_by a y (split_values cs tid xs ys (suc i))).kept ≢ Equal
      go Less is n ih = λ e. absurd (let h : ordering_then Less Equal ≡ Equal = ap (λ w. ordering_then w Equal) (sym is) ∙ e in cc)
      go Equal is n ih = λ e. ih n (sym (ap (λ w. ordering_then w (compare_values cs (suc i) (take (length (split_values cs tid xs ys (suc i)).kept) xs) (split_values cs tid xs ys (suc i)).kept)) is) ∙ e)
      go Greater is n ih = λ e. absurd (let h : ordering_then Greater Equal ≡ Equal = ap (λ w. ordering_then w Equal) (sym is) ∙ e in cc)

  kept_with_tid : (tid : T) (xs ys : List V) (i : ℕ) (t : T) → compare_values cs i xs ys ≢ Greater → (split_values cs tid xs ys i).tid ≡ Some t → (t ≡ tid) × ((split_values cs tid xs ys i).kept ≡ ys) × (compare_values cs i xs ys ≡ Equal)
  kept_with_tid tid [] [] i t h is = (let e : tid ≡ t = cc in sym e, refl, refl)
  kept_with_tid tid (x ∷ xs) [] i t h is = absurd (h refl)
  kept_with_tid tid [] (y ∷ ys) i t h is = absurd cc
  kept_with_tid tid (x ∷ xs) (y ∷ ys) i t h is = go (cs i x y) refl is (λ g n. kept_with_tid tid xs ys (suc i) t g n)
    where
      go : (a : Ordering) → cs i x y ≡ a → (keep_by a y (split_values cs tid xs ys (suc i))).tid ≡ Some t → (compare_values cs (suc i) xs ys ≢ Greater → (split_values cs tid xs ys (suc i)).tid ≡ Some t → (t ≡ tid) × ((split_values cs tid xs ys (suc i)).kept ≡ ys) × (compare_values cs (suc i) xs ys ≡ Equal)) → (t ≡ tid) × ((keep_by a y (split_values cs tid xs ys (suc i))).kept ≡ y ∷ ys) × (compare_values cs i (x ∷ xs) (y ∷ ys) ≡ Equal)
      go Less e n rec = absurd cc
      go Equal e n rec =
          let step : ordering_then (cs i x y) (compare_values cs (suc i) xs ys) ≡ compare_values cs (suc i) xs ys = ap (λ w. ordering_then w (compare_values cs (suc i) xs ys)) e in
          let ih = rec (λ z. h (step ∙ z)) n in
          (ih.0, ap (λ w. y ∷ w) ih.1, step ∙ ih.2)
      go Greater e n rec = absurd cc

  pub shortest : (d e : Entry V T) → (key_order cs ts).precedes d e ≡ true → IsShortest cs d e ((key_splitter cs).split_key d e)
  shortest d e p = record {
    front = kept_front d.tid d.values e.values 0;
    fewest = λ n lt. kept_fewest d.tid d.values e.values 0 n lt;
    differs = kept_differs d.tid d.values e.values 0;
    with_tid = λ t is. kept_with_tid d.tid d.values e.values 0 t (values_of d e (lt_less _ p)) is;
  }

  shape_of : (columns : ℕ) (d e : Entry V T) (kept : List V) (last : Option T) → IsShortest cs d e (record { kept = kept; tid = last }) → 0 < columns → length e.values ≡ columns → IsPivotShape columns (record { kept = kept; tid = last })
  shape_of columns d e kept last h pos long = record {
    some = some kept last h;
    not_more = let n = length-take (length kept) e.values in let m : length kept ≡ length (take (length kept) e.values) = ap (λ w. length w) h.front in omega arith;
    tid_with_all = all last h.with_tid;
  }
    where
      some : (kept : List V) (last : Option T) → IsShortest cs d e (record { kept = kept; tid = last }) → 0 < length kept
      some [] None h = absurd (h.differs refl refl)
      some [] (Some t) h = let n : 0 ≡ length e.values = ap (λ w. length w) (h.with_tid t refl).1 in omega arith
      some (v ∷ vs) last h = omega arith

      all : (last : Option T) → ((t : T) → last ≡ Some t → (t ≡ d.tid) × (kept ≡ e.values) × (compare_values cs 0 d.values e.values ≡ Equal)) → last ≢ None → length kept ≡ columns
      all None w ne = absurd (ne refl)
      all (Some t) w ne = ap (λ w. length w) (w t refl).1 ∙ long

  pub pivot_shape : (columns : ℕ) (d e : Entry V T) → 0 < columns → length e.values ≡ columns → (key_order cs ts).precedes d e ≡ true → IsPivotShape columns ((key_splitter cs).split_key d e)
  pivot_shape columns d e pos long p = let s = split_values cs d.tid d.values e.values 0 in shape_of columns d e s.kept s.tid (shortest d e p) pos long

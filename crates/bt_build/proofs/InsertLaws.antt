-- Entries in order are the same entries, sorted.
use Rattle.std.proofs.Common.{◌≡◌, ◌∙◌, ◌<◌, ◌+◌, ℕ, zero, suc, Bool, true, false, cond, inl, inr, List, [], ◌∷◌, get_or, length, refl, sym, subst, arith}
use Rattle.std.specs.Prelude.{IsPermutation, IsSortedBy, ⊤}
use Rattle.std.specs.List.{AllAdjacentBelow, AllByRecursion}
use Rattle.std.proofs.lemmas.Bool.{cases_Bool, false≢true}
use Rattle.std.proofs.lemmas.List.Sorted.{IsPermutation-cons, IsPermutation-middle, IsPermutation-refl, IsPermutation-trans}
use Rattle.laws_search.specs.Order.{IsOrder}
use Rattle.key_orders.specs.declared.columns.KeySpec.{KeySpec}
use Rattle.key_orders.specs.Scans.{order_of}
use Rattle.bt_image.specs.Image.{LeafEntry}
use Rattle.bt_build.specs.Listed.{AreApart}
use Rattle.bt_build.specs.Order.{in_order, is_before, put_in_order}
use Rattle.bt_build.proofs.ApartLaws.{KeysSame, KeysTotal, all_differ, at_most_one}
use Rattle.bt_build.proofs.RisingLaws.{Rise, order_rises}

-- The same entries

swapped : (e d : LeafEntry) (ds : List LeafEntry) → IsPermutation (e ∷ d ∷ ds) (d ∷ e ∷ ds)
swapped e d ds = IsPermutation-middle (e ∷ []) d ds

module _ (specs : List KeySpec) where
  moved_by : (e d : LeafEntry) (ds : List LeafEntry) (b : Bool) → IsPermutation (e ∷ ds) (put_in_order specs e ds)
      → IsPermutation (e ∷ d ∷ ds) (cond b (e ∷ d ∷ ds) (d ∷ put_in_order specs e ds))
  moved_by e d ds true deeper = IsPermutation-refl (e ∷ d ∷ ds)
  moved_by e d ds false deeper =
      IsPermutation-trans (e ∷ d ∷ ds) (d ∷ e ∷ ds) (d ∷ put_in_order specs e ds) (swapped e d ds) (IsPermutation-cons d (e ∷ ds) (put_in_order specs e ds) deeper)

  put_moves : (e : LeafEntry) (ds : List LeafEntry) → IsPermutation (e ∷ ds) (put_in_order specs e ds)
  put_moves e [] = IsPermutation-refl (e ∷ [])
  put_moves e (d ∷ ds) = moved_by e d ds (is_before specs e d) (put_moves e ds)

  pub order_moves : (es : List LeafEntry) → IsPermutation es (in_order specs es)
  order_moves [] = IsPermutation-refl []
  order_moves (e ∷ es) =
      IsPermutation-trans (e ∷ es) (e ∷ in_order specs es) (put_in_order specs e (in_order specs es)) (IsPermutation-cons e es (in_order specs es) (order_moves es))
      (put_moves e (in_order specs es))

-- Sorted

-- none of these is below the entry
abbrev NotUnder : List KeySpec → LeafEntry → LeafEntry → Type 0
NotUnder specs e d = is_before specs d e ≡ false

abbrev Sorts : List KeySpec → List LeafEntry → Type 0
Sorts specs [] = ⊤
Sorts specs (e ∷ es) = AllByRecursion (NotUnder specs e) es × Sorts specs es

module _ (specs : List KeySpec) (order : IsOrder (order_of specs)) where
  -- what isn't below an entry isn't below one that is lower
  stays : (e d x : LeafEntry) → is_before specs e d ≡ true → NotUnder specs d x → NotUnder specs e x
  stays e d x lower up = elim (cases_Bool (is_before specs x e)) [
    | inl below ↦ absurd (false≢true (sym up ∙ order.chained x.entry e.entry d.entry below lower))
    | inr not_below ↦ not_below
  ]

  all_stay : (e d : LeafEntry) (ds : List LeafEntry) → is_before specs e d ≡ true → AllByRecursion (NotUnder specs d) ds → AllByRecursion (NotUnder specs e) ds
  all_stay e d [] lower up = tt
  all_stay e d (x ∷ ds) lower up = (stays e d x lower up.0, all_stay e d ds lower up.1)

  -- a lower one isn't above
  not_back : (e d : LeafEntry) → is_before specs e d ≡ true → NotUnder specs e d
  not_back e d lower = stays e d d lower (order.strict d.entry)

  none_by : (P : LeafEntry → Type 0) (e d : LeafEntry) (ds : List LeafEntry) (b : Bool) → P e → AllByRecursion P (d ∷ ds) → AllByRecursion P (put_in_order specs e ds)
      → AllByRecursion P (cond b (e ∷ d ∷ ds) (d ∷ put_in_order specs e ds))
  none_by P e d ds true here all deeper = (here, all)
  none_by P e d ds false here all deeper = (all.0, deeper)

  none_put : (P : LeafEntry → Type 0) (e : LeafEntry) (ds : List LeafEntry) → P e → AllByRecursion P ds → AllByRecursion P (put_in_order specs e ds)
  none_put P e [] here all = (here, tt)
  none_put P e (d ∷ ds) here all = none_by P e d ds (is_before specs e d) here all (none_put P e ds here all.1)

  sorts_by : (e d : LeafEntry) (ds : List LeafEntry) (b : Bool) → is_before specs e d ≡ b → Sorts specs (d ∷ ds) → Sorts specs (put_in_order specs e ds)
      → Sorts specs (cond b (e ∷ d ∷ ds) (d ∷ put_in_order specs e ds))
  sorts_by e d ds true lower up deeper = ((not_back e d lower, all_stay e d ds lower up.0), up)
  sorts_by e d ds false lower up deeper = (none_put (NotUnder specs d) e ds lower up.0, deeper)

  put_sorts : (e : LeafEntry) (ds : List LeafEntry) → Sorts specs ds → Sorts specs (put_in_order specs e ds)
  put_sorts e [] up = (tt, tt)
  put_sorts e (d ∷ ds) up = sorts_by e d ds (is_before specs e d) refl up (put_sorts e ds up.1)

  order_sorts : (es : List LeafEntry) → Sorts specs (in_order specs es)
  order_sorts [] = tt
  order_sorts (e ∷ es) = put_sorts e (in_order specs es) (order_sorts es)

-- Neighbours

-- a list of which each entry stands so to all later ones stands so neighbour by neighbour
neighbours : (R : LeafEntry → LeafEntry → Type 0) (Whole : List LeafEntry → Type 0) (head : (e d : LeafEntry) (es : List LeafEntry) → Whole (e ∷ d ∷ es) → R e d)
    (rest : (e : LeafEntry) (es : List LeafEntry) → Whole (e ∷ es) → Whole es) → (es : List LeafEntry) → Whole es
    → (k : ℕ) (d : LeafEntry) → k + 1 < length es → R (get_or es k d) (get_or es (k + 1) d)
neighbours R Whole head rest [] all k d lt = absurd (omega (arith, lt))
neighbours R Whole head rest (e ∷ []) all k d lt = absurd (omega (arith, lt))
neighbours R Whole head rest (e ∷ f ∷ es) all zero d lt = head e f es all
neighbours R Whole head rest (e ∷ f ∷ es) all (suc k) d lt =
    let to : suc (k + 1) ≡ suc k + 1 = omega arith in
    subst (λ (m : ℕ). R (get_or (e ∷ f ∷ es) (suc k) d) (get_or (e ∷ f ∷ es) m d)) to
    (neighbours R Whole head rest (f ∷ es) (rest e (f ∷ es) all) k d (omega (arith, lt)))

pub order_sorted : (specs : List KeySpec) → IsOrder (order_of specs) → (es : List LeafEntry) → IsSortedBy (is_before specs) (in_order specs es)
order_sorted specs order es = λ k d from lt.
    neighbours (NotUnder specs) (Sorts specs) (λ e d es all. all.0.0) (λ e es all. all.1) (in_order specs es) (order_sorts specs order es) k d lt

pub order_rising : (total : KeysTotal) (same : KeysSame) (specs : List KeySpec) → IsOrder (order_of specs) → (es : List LeafEntry) → AreApart es
    → AllAdjacentBelow (λ d e. is_before specs d e ≡ true) (in_order specs es) (length (in_order specs es))
order_rising total same specs order es apart = λ k d lt.
    neighbours (λ d e. is_before specs d e ≡ true) (Rise specs) (λ e d es all. all.0.0) (λ e es all. all.1) (in_order specs es)
    (order_rises specs order es (all_differ total same specs es (at_most_one es apart))) k d lt

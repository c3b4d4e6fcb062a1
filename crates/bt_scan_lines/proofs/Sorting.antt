-- The entries that a scan wants are one list, in order.
use Rattle.std.proofs.Common.{◌≡◌, ◌⊎◌, inl, inr, Bool, true, false, cond, List, [], ◌∷◌, refl, sym, ◌∙◌, subst}
use Rattle.std.specs.List.{filter}
use Rattle.std.proofs.lemmas.Bool.{both_ways}
use Rattle.std.proofs.lemmas.List.Sorted.{IsPermutation-sym}
use Rattle.laws_search.specs.Order.{Order, IsOrder, Scan}
use Rattle.laws_search.specs.Tree.{Index}
use Rattle.laws_search.specs.Search.{IsWanted, entries_of, is_wanted}
use Rattle.laws_search.proofs.Lists.{In, Each-from_in, Each-in, Each-map}
use Rattle.laws_search.proofs.Rising.{Rising, rising_from_adjacent}
use Rattle.laws_search.proofs.Unique.{In-permutation, same_rising}
use Rattle.bt_scan_lines.specs.Wanted.{put, sorted_by, wanted_entries}

module _ {S E : Type 0} (o : Order S E) (laws : IsOrder o) where
  abbrev pub below : E → E → Bool
  below d e = o.precedes d e

  -- they are one, or one is below the other
  abbrev pub Compared : E → E → Type 0
  Compared a b = (a ≡ b) ⊎ ((o.precedes a b ≡ true) ⊎ (o.precedes b a ≡ true))

  compared : (es : List E) (a b : E) → Rising o es → In a es → In b es → Compared a b
  compared [] a b r i j = absurd i
  compared (e ∷ es) a b r i j = elim i [
    | inl p ↦ elim j [
      | inl q ↦ inl (p ∙ sym q)
      | inr q ↦ inr (inl (subst (λ z. o.precedes z b ≡ true) (sym p) (Each-in (λ d. o.precedes e d ≡ true) b es r.0 q)))
    ]
    | inr p ↦ elim j [
      | inl q ↦ inr (inr (subst (λ z. o.precedes z a ≡ true) (sym q) (Each-in (λ d. o.precedes e d ≡ true) a es r.0 p)))
      | inr q ↦ compared es a b r.1 p q
    ]
  ]

  -- one entry put among others

  back_by : (t u : Bool) (e c d : E) (ds : List E) → (In c (put below e ds) → (c ≡ e) ⊎ In c ds) → In c (cond t (d ∷ put below e ds) (cond u (e ∷ d ∷ ds) (d ∷ ds))) → (c ≡ e) ⊎ ((c ≡ d) ⊎ In c ds)
  back_by true u e c d ds ih h = elim h [
    | inl p ↦ inr (inl p)
    | inr p ↦ elim (ih p) [ inl q ↦ inl q | inr q ↦ inr (inr q) ]
  ]
  back_by false true e c d ds ih h = h
  back_by false false e c d ds ih h = inr h

  put_back : (e c : E) (ds : List E) → In c (put below e ds) → (c ≡ e) ⊎ In c ds
  put_back e c [] h = h
  put_back e c (d ∷ ds) h = back_by (below d e) (below e d) e c d ds (put_back e c ds) h

  keeps_by : (t u : Bool) (e c d : E) (ds : List E) → (In c ds → In c (put below e ds)) → (c ≡ d) ⊎ In c ds → In c (cond t (d ∷ put below e ds) (cond u (e ∷ d ∷ ds) (d ∷ ds)))
  keeps_by true u e c d ds ih h = elim h [ inl p ↦ inl p | inr p ↦ inr (ih p) ]
  keeps_by false true e c d ds ih h = inr h
  keeps_by false false e c d ds ih h = h

  put_keeps : (e c : E) (ds : List E) → In c ds → In c (put below e ds)
  put_keeps e c [] h = absurd h
  put_keeps e c (d ∷ ds) h = keeps_by (below d e) (below e d) e c d ds (put_keeps e c ds) h

  has_by : (t u : Bool) (e d : E) (ds : List E) → below d e ≡ t → below e d ≡ u → In e (put below e ds) → Compared d e → In e (cond t (d ∷ put below e ds) (cond u (e ∷ d ∷ ds) (d ∷ ds)))
  has_by true u e d ds f g ih near = inr ih
  has_by false true e d ds f g ih near = inl refl
  has_by false false e d ds f g ih near = elim near [
    | inl p ↦ inl (sym p)
    | inr q ↦ elim q [
      | inl l ↦ absurd (both_ways (below d e) f l)
      | inr l ↦ absurd (both_ways (below e d) g l)
    ]
  ]

  put_has : (e : E) (ds : List E) → ((d : E) → In d ds → Compared d e) → In e (put below e ds)
  put_has e [] near = inl refl
  put_has e (d ∷ ds) near = has_by (below d e) (below e d) e d ds refl refl (put_has e ds (λ c i. near c (inr i))) (near d (inl refl))

  rises_by : (t u : Bool) (e d : E) (ds : List E) → below d e ≡ t → below e d ≡ u → Rising o (put below e ds) → Rising o (d ∷ ds) → Rising o (cond t (d ∷ put below e ds) (cond u (e ∷ d ∷ ds) (d ∷ ds)))
  rises_by true u e d ds lt g ih r = (
    Each-from_in (λ c. o.precedes d c ≡ true) (put below e ds) (λ c i. elim (put_back e c ds i) [
      | inl p ↦ subst (λ z. o.precedes d z ≡ true) (sym p) lt
      | inr p ↦ Each-in (λ z. o.precedes d z ≡ true) c ds r.0 p
    ]),
    ih,
  )
  rises_by false true e d ds f lt ih r = ((lt, Each-map (λ z. o.precedes d z ≡ true) (λ z. o.precedes e z ≡ true) ds (λ c k. laws.chained e d c lt k) r.0), r)
  rises_by false false e d ds f g ih r = r

  put_rises : (e : E) (ds : List E) → Rising o ds → Rising o (put below e ds)
  put_rises e [] r = (tt, tt)
  put_rises e (d ∷ ds) r = rises_by (below d e) (below e d) e d ds refl refl (put_rises e ds r.1) r

  -- all of them

  pub sorted_rises : (fs : List E) → Rising o (sorted_by below fs)
  sorted_rises [] = tt
  sorted_rises (f ∷ fs) = put_rises f (sorted_by below fs) (sorted_rises fs)

  pub sorted_back : (fs : List E) (c : E) → In c (sorted_by below fs) → In c fs
  sorted_back [] c h = h
  sorted_back (f ∷ fs) c h = elim (put_back f c (sorted_by below fs) h) [ inl p ↦ inl p | inr p ↦ inr (sorted_back fs c p) ]

  pub sorted_has : (fs : List E) → ((a b : E) → In a fs → In b fs → Compared a b) → (c : E) → In c fs → In c (sorted_by below fs)
  sorted_has [] near c h = absurd h
  sorted_has (f ∷ fs) near c h = elim h [
    | inl p ↦
        subst (λ z. In z (put below f (sorted_by below fs))) (sym p)
        (put_has f (sorted_by below fs) (λ d i. near d f (inr (sorted_back fs d i)) (inl refl)))
    | inr p ↦ put_keeps f c (sorted_by below fs) (sorted_has fs (λ a b i j. near a b (inr i) (inr j)) c p)
  ]

  pub wanted_is : (killed : E → Bool) (x : Index S E) (scan : Scan S E) (es : List E) → IsWanted o killed x scan es → wanted_entries o killed x scan ≡ es
  unfolding wanted_entries
  wanted_is killed x scan es w =
      let all = filter (is_wanted killed scan) (entries_of x) in
      let rises = rising_from_adjacent o laws es w.rising in
      let into : (c : E) → In c es → In c (filter (is_wanted killed scan) (entries_of x)) = λ c i. In-permutation es all c w.all_of_them i in
      let back : (c : E) → In c (filter (is_wanted killed scan) (entries_of x)) → In c es = λ c i. In-permutation all es c (IsPermutation-sym es all w.all_of_them) i in
      same_rising o laws (sorted_by below all) es (sorted_rises all) rises
      (λ c h. back c (sorted_back all c h))
      (λ c h. sorted_has all (λ a b i j. compared es a b rises (back a i) (back b j)) c (into c h))

-- Two rising lists of the same members are one.
use Rattle.std.proofs.Common.{◌≡◌, suc, ◌⊎◌, inl, inr, Bool, true, List, [], ◌∷◌, refl, sym, ◌∙◌, subst, arith}
use Rattle.std.specs.List.{filter, Contains}
use Rattle.std.specs.List.Sorted.{IsPermutation}
use Rattle.std.proofs.lemmas.List.Sorted.{Contains-permutation, IsPermutation-sym}
use Rattle.laws_search.specs.Order.{Order, IsOrder, Scan, IsScan}
use Rattle.laws_search.specs.Tree.{Index}
use Rattle.laws_search.specs.Searchable.{IsSearchable}
use Rattle.laws_search.specs.Search.{entries_of, is_wanted, IsWanted, Answers}
use Rattle.laws_search.proofs.Lists.{In, Each-in}
use Rattle.laws_search.proofs.Rising.{Rising, rising_from_adjacent}
use Rattle.laws_search.proofs.Gather.{In-from_Contains}
use Rattle.laws_search.proofs.Whole.{finds}

pub Contains-from_In : {X : Type 0} (xs : List X) (x : X) → In x xs → Contains xs x
Contains-from_In [] x h = absurd h
Contains-from_In (y ∷ ys) x h = elim h [
  | inl e ↦ (0, omega arith, sym e)
  | inr k ↦ let r = Contains-from_In ys x k in let l = r.1 in (suc r.0, omega arith, r.2)
]

pub In-permutation : {X : Type 0} (xs ys : List X) (x : X) → IsPermutation xs ys → In x xs → In x ys
In-permutation xs ys x p h = In-from_Contains ys x (Contains-permutation xs ys x p (Contains-from_In xs x h))

module _ {S E : Type 0} (o : Order S E) (laws : IsOrder o) where
  -- the members behind the first are above it
  behind : (d e : E) (es : List E) → Rising o (e ∷ es) → In d (e ∷ es) → (d ≡ e) ⊎ (o.precedes e d ≡ true)
  behind d e es r h = elim h [ inl k ↦ inl k | inr k ↦ inr (Each-in (λ d. o.precedes e d ≡ true) d es r.0 k) ]

  not_itself : (e : E) → o.precedes e e ≡ true → ⊥
  not_itself e h = let f = laws.strict e in absurd (grind arith)

  same_first : (d e : E) (ds es : List E) → Rising o (d ∷ ds) → Rising o (e ∷ es) → In d (e ∷ es) → In e (d ∷ ds) → d ≡ e
  same_first d e ds es rd re i j = elim (behind d e es re i) [
    | inl k ↦ k
    | inr k ↦ elim (behind e d ds rd j) [ inl l ↦ sym l | inr l ↦ absurd (not_itself d (laws.chained d e d l k)) ]
  ]

  rest_in : (d e : E) (ds es : List E) → d ≡ e → Rising o (d ∷ ds) → ((c : E) → In c (d ∷ ds) → In c (e ∷ es)) → (c : E) → In c ds → In c es
  rest_in d e ds es same r h c i = elim (h c (inr i)) [
    | inl k ↦ absurd (not_itself d (subst (λ z. o.precedes d z ≡ true) (k ∙ sym same) (Each-in (λ z. o.precedes d z ≡ true) c ds r.0 i)))
    | inr k ↦ k
  ]

  pub same_rising : (ds es : List E) → Rising o ds → Rising o es → ((c : E) → In c ds → In c es) → ((c : E) → In c es → In c ds) → ds ≡ es
  same_rising [] [] rd re f g = refl
  same_rising [] (e ∷ es) rd re f g = absurd (g e (inl refl))
  same_rising (d ∷ ds) [] rd re f g = absurd (f d (inl refl))
  same_rising (d ∷ ds) (e ∷ es) rd re f g =
      let first : d ≡ e = same_first d e ds es rd re (f d (inl refl)) (g e (inl refl)) in
      let rest : ds ≡ es = same_rising ds es rd.1 re.1 (rest_in d e ds es first rd f) (rest_in e d es ds (sym first) re g) in
      cc

  -- what the scan wants is one list
  pub same_wanted : (killed : E → Bool) (x : Index S E) (scan : Scan S E) (ds es : List E) → IsWanted o killed x scan ds → IsWanted o killed x scan es → ds ≡ es
  same_wanted killed x scan ds es a b =
      let all = filter (is_wanted killed scan) (entries_of x) in
      same_rising ds es (rising_from_adjacent o laws ds a.rising) (rising_from_adjacent o laws es b.rising)
      (λ c h. In-permutation all es c (IsPermutation-sym es all b.all_of_them) (In-permutation ds all c a.all_of_them h))
      (λ c h. In-permutation all ds c (IsPermutation-sym ds all a.all_of_them) (In-permutation es all c b.all_of_them h))

  pub finds_only : (x : Index S E) → IsSearchable o x → (killed : E → Bool) (scan : Scan S E) → IsScan o scan → (es : List E) → IsWanted o killed x scan es → Answers killed x scan x.blocks es
  finds_only x quiet killed scan fits es wanted =
      let r = finds o x laws quiet killed scan fits in
      subst (Answers killed x scan x.blocks) (same_wanted killed x scan r.0 es r.1 wanted) r.2

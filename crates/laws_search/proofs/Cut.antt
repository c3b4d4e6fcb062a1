-- Cutting a list off where nothing more is wanted loses nothing.
use Rattle.std.proofs.Common.{◌≡◌, suc, inl, inr, Bool, true, false, cond, not, List, [], ◌∷◌, ◌++◌, take, reverse, refl, sym, ap, ◌∙◌, subst, one-add, append-nil}
use Rattle.std.specs.Prelude.{⊤}
use Rattle.std.specs.List.{filter, take_while, prefix_len}
use Rattle.std.proofs.lemmas.Bool.{cases_Bool, cond-true, cond-false, not_from_true, not_from_false}
use Rattle.std.proofs.lemmas.Grind.{reverse_onto}
use Rattle.std.proofs.lemmas.List.Elements.{filter-append}
use Rattle.laws_search.specs.Order.{Order}
use Rattle.laws_search.proofs.Lists.{Each, Each-map, Each-append}
use Rattle.laws_search.proofs.Rising.{Rising}

pub filter_none : {E : Type 0} (p : E → Bool) (es : List E) → Each (λ e. p e ≡ false) es → filter p es ≡ []
filter_none p [] h = refl
filter_none p (e ∷ es) h = cond-false (p e) (e ∷ filter p es) (filter p es) h.0 ∙ filter_none p es h.1

-- from the first that is past on, nothing is wanted
abbrev pub Stops : {E : Type 0} → (past wanted : E → Bool) → List E → Type 0
Stops past wanted [] = ⊤
Stops past wanted (e ∷ es) = (past e ≡ true → Each (λ d. wanted d ≡ false) (e ∷ es)) × Stops past wanted es

pub cut_same : {E : Type 0} (past wanted : E → Bool) (es : List E) → Stops past wanted es → filter wanted (take_while (λ e. not (past e)) es) ≡ filter wanted es
cut_same past wanted [] h = refl
cut_same past wanted (e ∷ es) h = elim (cases_Bool (past e)) [
  | inl t ↦
      let n : prefix_len (λ e. not (past e)) (e ∷ es) ≡ 0 = cond-false (not (past e)) _ _ (not_from_true (past e) t) in
      ap (λ k. filter wanted (take k (e ∷ es))) n ∙ sym (filter_none wanted (e ∷ es) (h.0 t))
  | inr t ↦
      let n : prefix_len (λ e. not (past e)) (e ∷ es) ≡ suc (prefix_len (λ e. not (past e)) es) = cond-true (not (past e)) _ _ (not_from_false (past e) t) ∙ one-add (prefix_len (λ e. not (past e)) es) in
      ap (λ k. filter wanted (take k (e ∷ es))) n ∙ ap (λ w. cond (wanted e) (e ∷ w) w) (cut_same past wanted es h.1)
]

-- a list that falls
abbrev Falling : {S E : Type 0} → Order S E → List E → Type 0
Falling o [] = ⊤
Falling o (e ∷ es) = Each (λ d. o.precedes d e ≡ true) es × Falling o es

Falling-push : {S E : Type 0} (o : Order S E) (es : List E) (e : E) → Falling o es → Each (λ d. o.precedes e d ≡ true) es → Falling o (es ++ e ∷ [])
Falling-push o [] e f h = (tt, tt)
Falling-push o (d ∷ es) e f h = (Each-append (λ c. o.precedes c d ≡ true) es (e ∷ []) f.0 (h.0, tt), Falling-push o es e f.1 h.1)

Each-reverse : {X : Type 0} (P : X → Type 0) (xs : List X) → Each P xs → Each P (reverse xs)
Each-reverse P [] h = tt
Each-reverse P (x ∷ xs) h = subst (Each P) (sym (reverse_onto xs x [])) (Each-append P (reverse xs) (x ∷ []) (Each-reverse P xs h.1) (h.0, tt))

Falling-reverse : {S E : Type 0} (o : Order S E) (es : List E) → Rising o es → Falling o (reverse es)
Falling-reverse o [] r = tt
Falling-reverse o (e ∷ es) r = subst (Falling o) (sym (reverse_onto es e [])) (Falling-push o (reverse es) e (Falling-reverse o es r.1) (Each-reverse (λ d. o.precedes e d ≡ true) es r.0))

pub filter-reverse : {X : Type 0} (p : X → Bool) (xs : List X) → filter p (reverse xs) ≡ reverse (filter p xs)
filter-reverse p [] = refl
filter-reverse p (x ∷ xs) = elim (cases_Bool (p x)) [
  | inl t ↦
      let f : filter p (x ∷ xs) ≡ x ∷ filter p xs = cond-true (p x) _ _ t in
      let one : filter p (x ∷ []) ≡ x ∷ [] = cond-true (p x) _ _ t in
      ap (filter p) (reverse_onto xs x []) ∙ (filter-append p (reverse xs) (x ∷ []) ∙ (ap (λ w. filter p (reverse xs) ++ w) one ∙ (ap (λ w. w ++ x ∷ []) (filter-reverse p xs) ∙ (sym (reverse_onto (filter p xs) x []) ∙ ap reverse (sym f)))))
  | inr t ↦
      let f : filter p (x ∷ xs) ≡ filter p xs = cond-false (p x) _ _ t in
      let one : filter p (x ∷ []) ≡ [] = cond-false (p x) _ _ t in
      ap (filter p) (reverse_onto xs x []) ∙ (filter-append p (reverse xs) (x ∷ []) ∙ (ap (λ w. filter p (reverse xs) ++ w) one ∙ (append-nil (filter p (reverse xs)) ∙ (filter-reverse p xs ∙ ap reverse (sym f)))))
]

-- in a rising list, with a bound that stays passed
pub stops_rising : {S E : Type 0} (o : Order S E) (past wanted : E → Bool) → ((e : E) → past e ≡ true → wanted e ≡ false) → ((d e : E) → past d ≡ true → o.precedes d e ≡ true → past e ≡ true) → (es : List E) → Rising o es → Stops past wanted es
stops_rising o past wanted none stays [] r = tt
stops_rising o past wanted none stays (e ∷ es) r =
    (λ t. (none e t, Each-map (λ d. o.precedes e d ≡ true) (λ d. wanted d ≡ false) es (λ d k. none d (stays e d t k)) r.0), stops_rising o past wanted none stays es r.1)

stops_falling : {S E : Type 0} (o : Order S E) (past wanted : E → Bool) → ((e : E) → past e ≡ true → wanted e ≡ false) → ((d e : E) → past e ≡ true → o.precedes d e ≡ true → past d ≡ true) → (es : List E) → Falling o es → Stops past wanted es
stops_falling o past wanted none stays [] r = tt
stops_falling o past wanted none stays (e ∷ es) r =
    (λ t. (none e t, Each-map (λ d. o.precedes d e ≡ true) (λ d. wanted d ≡ false) es (λ d k. none d (stays d e t k)) r.0), stops_falling o past wanted none stays es r.1)

-- and from its end
pub stops_back : {S E : Type 0} (o : Order S E) (past wanted : E → Bool) → ((e : E) → past e ≡ true → wanted e ≡ false) → ((d e : E) → past e ≡ true → o.precedes d e ≡ true → past d ≡ true) → (es : List E) → Rising o es → Stops past wanted (reverse es)
stops_back o past wanted none stays es r = stops_falling o past wanted none stays (reverse es) (Falling-reverse o es r)

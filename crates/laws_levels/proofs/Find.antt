-- What `find` says of a list, and lists whose members all have a property.
use Rattle.std.proofs.Common.{◌≡◌, inl, inr, Bool, true, false, List, [], ◌∷◌, ◌++◌, reverse, refl, sym, ap, ◌∙◌, subst}
use Rattle.std.specs.Prelude.{Some, None}
use Rattle.std.specs.List.{find, flat_map, list_any}
use Rattle.std.proofs.lemmas.Bool.{cases_Bool, cond-true, cond-false, or_parts}
use Rattle.std.proofs.lemmas.Grind.{reverse_onto}
use Rattle.laws_search.proofs.Lists.{Each, Each-append}

pub record IsFound {X : Type 0} (p : X → Bool) (xs : List X) (y : X) : Type 0 where
  pub before : List X
  pub after : List X
  pub order : xs ≡ before ++ y ∷ after
  pub passes : p y ≡ true
  pub none_before : Each (λ x. p x ≡ false) before

pub some_eq : {X : Type 0} (a b : X) → Some a ≡ Some b → a ≡ b
some_eq a b h = cc

pub found : {X : Type 0} (p : X → Bool) (xs : List X) (y : X) → find p xs ≡ Some y → IsFound p xs y
found p [] y h = absurd cc
found p (x ∷ xs) y h = elim (cases_Bool (p x)) [
  | inl t ↦
      let e : x ≡ y = some_eq x y (sym (cond-true (p x) (Some x) (find p xs) t) ∙ h) in
      record { before = []; after = xs; order = ap (λ z. z ∷ xs) e; passes = subst (λ z. p z ≡ true) e t; none_before = tt }
  | inr f ↦
      let r = found p xs y (sym (cond-false (p x) (Some x) (find p xs) f) ∙ h) in
      record { before = x ∷ r.before; after = r.after; order = ap (λ z. x ∷ z) r.order; passes = r.passes; none_before = (f, r.none_before) }
]

pub none_found : {X : Type 0} (p : X → Bool) (xs : List X) → find p xs ≡ None → Each (λ x. p x ≡ false) xs
none_found p [] h = tt
none_found p (x ∷ xs) h = elim (cases_Bool (p x)) [
  | inl t ↦ absurd (let e = sym (cond-true (p x) (Some x) (find p xs) t) ∙ h in cc)
  | inr f ↦ (f, none_found p xs (sym (cond-false (p x) (Some x) (find p xs) f) ∙ h))
]

pub find_none : {X : Type 0} (p : X → Bool) (xs : List X) → Each (λ x. p x ≡ false) xs → find p xs ≡ None
find_none p [] h = refl
find_none p (x ∷ xs) h = cond-false (p x) (Some x) (find p xs) h.0 ∙ find_none p xs h.1

pub none_any : {X : Type 0} (p : X → Bool) (xs : List X) → list_any p xs ≡ false → Each (λ x. p x ≡ false) xs
none_any p [] h = tt
none_any p (x ∷ xs) h = let r = or_parts (p x) (list_any p xs) h in (r.0, none_any p xs r.1)

pub Each-flat_map : {X Y : Type 0} (P : Y → Type 0) (f : X → List Y) (xs : List X) → Each (λ x. Each P (f x)) xs → Each P (flat_map f xs)
Each-flat_map P f [] h = tt
Each-flat_map P f (x ∷ xs) h = Each-append P (f x) (flat_map f xs) h.0 (Each-flat_map P f xs h.1)

pub flat_map-Each : {X Y : Type 0} (P : Y → Type 0) (f : X → List Y) (xs : List X) → Each P (flat_map f xs) → Each (λ x. Each P (f x)) xs
flat_map-Each P f [] h = tt
flat_map-Each {Y = Y} P f (x ∷ xs) h = (front (f x) (flat_map f xs) h, flat_map-Each P f xs (back (f x) (flat_map f xs) h))
  where
    front : (ys zs : List Y) → Each P (ys ++ zs) → Each P ys
    front [] zs h = tt
    front (y ∷ ys) zs h = (h.0, front ys zs h.1)

    back : (ys zs : List Y) → Each P (ys ++ zs) → Each P zs
    back [] zs h = h
    back (y ∷ ys) zs h = back ys zs h.1

pub Each-reverse : {X : Type 0} (P : X → Type 0) (xs : List X) → Each P xs → Each P (reverse xs)
Each-reverse P [] h = tt
Each-reverse P (x ∷ xs) h = subst (Each P) (sym (reverse_onto xs x [])) (Each-append P (reverse xs) (x ∷ []) (Each-reverse P xs h.1) (h.0, tt))

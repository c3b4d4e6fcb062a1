-- Pieces gathered by block number are those gathered along a chain, in another order.
use Rattle.std.proofs.Common.{◌≡◌, ◌≢◌, ℕ, zero, suc, ◌<◌, inl, inr, Bool, true, List, [], ◌∷◌, ◌++◌, length, refl, sym, ap, ◌∙◌, subst, arith, append_assoc}
use Rattle.std.specs.Prelude.{slice_index_or}
use Rattle.std.specs.List.{filter, flat_map, Contains}
use Rattle.std.specs.List.Sorted.{IsPermutation}
use Rattle.std.proofs.lemmas.Bool.{cases_Bool, cases_eq, cond-true, cond-false}
use Rattle.std.proofs.lemmas.List.Concat.{flat_map-append}
use Rattle.std.proofs.lemmas.List.Elements.{filter-append}
use Rattle.std.proofs.lemmas.List.Sorted.{IsPermutation-refl, IsPermutation-trans, IsPermutation-append_right, IsPermutation-append_left, IsPermutation-append_comm}
use Rattle.laws_search.specs.Order.{Order}
use Rattle.laws_search.specs.Search.{tree_blocks}
use Rattle.laws_search.proofs.Lists.{In, In-left, In-right, In-cases, Each, NoRepeats, NoRepeats-append}
use Rattle.laws_search.proofs.Rising.{Rising}

-- the two sides of a member
record Around {X : Type 0} (x : X) (xs : List X) : Type 0 where
  left : List X
  right : List X
  is : xs ≡ left ++ x ∷ right

around : {X : Type 0} (x : X) (xs : List X) → In x xs → Around x xs
around x [] h = absurd h
around x (y ∷ ys) h = elim h [
  | inl e ↦ record { left = []; right = ys; is = cc }
  | inr k ↦ let r = around x ys k in record { left = y ∷ r.left; right = r.right; is = ap (λ w. y ∷ w) r.is }
]

In-around : {X : Type 0} (y x : X) (a b : List X) → In y (a ++ x ∷ b) → (y ≡ x → ⊥) → In y (a ++ b)
In-around y x a b h ne = elim (In-cases y a (x ∷ b) h) [
  | inl k ↦ In-left y a b k
  | inr k ↦ elim k [ inl e ↦ absurd (ne e) | inr j ↦ In-right y a b j ]
]

In-more : {X : Type 0} (y x : X) (a b : List X) → In y (a ++ b) → In y (a ++ x ∷ b)
In-more y x a b h = elim (In-cases y a b h) [ inl k ↦ In-left y a (x ∷ b) k | inr k ↦ In-right y a (x ∷ b) (inr k) ]

no_repeats_around : {X : Type 0} (x : X) (a b : List X) → NoRepeats (a ++ x ∷ b) → NoRepeats (a ++ b) × (In x (a ++ b) → ⊥)
no_repeats_around x [] b h = (h.1, h.0)
no_repeats_around x (y ∷ a) b h =
    let r = no_repeats_around x a b h.1 in
    ((λ k. h.0 (In-more y x a b k), r.0), λ k. elim k [ inl e ↦ h.0 (In-right y a (x ∷ b) (inl (sym e))) | inr j ↦ r.1 j ])

nothing : {X A : Type 0} (g : X → List A) (xs : List X) → ((x : X) → In x xs → g x ≡ []) → flat_map g xs ≡ []
nothing g [] h = refl
nothing g (x ∷ xs) h = ap (λ w. w ++ flat_map g xs) (h x (inl refl)) ∙ nothing g xs (λ y k. h y (inr k))

-- what stands on neither list gives nothing
pub gather : {X A : Type 0} (g : X → List A) (c r : List X) → NoRepeats c → NoRepeats r → ((x : X) → In x c → In x r) → ((x : X) → In x r → (In x c → ⊥) → g x ≡ []) → IsPermutation (flat_map g c) (flat_map g r)
gather g [] r apart apart' part rest = subst (IsPermutation []) (sym (nothing g r (λ x h. rest x h (λ k. k)))) (IsPermutation-refl [])
gather {X} {A} g (x ∷ c) r apart apart' part rest =
    let at = around x r (part x (inl refl)) in
    let a = at.left in
    let b = at.right in
    let n = no_repeats_around x a b (subst NoRepeats at.is apart') in
    let ih = gather g c (a ++ b) apart.1 n.0
    (λ y h. In-around y x a b (subst (In y) at.is (part y (inr h))) (λ e. apart.0 (subst (λ z. In z c) e h)))
    (λ y h out. rest y (subst (In y) (sym at.is) (In-more y x a b h)) (λ k. elim k [ inl e ↦ n.1 (subst (λ z. In z (a ++ b)) e h) | inr j ↦ out j ])) in
    let one : IsPermutation (g x ++ flat_map g c) (g x ++ flat_map g (a ++ b)) = IsPermutation-append_right (g x) _ _ ih in
    let e1 : g x ++ flat_map g (a ++ b) ≡ (g x ++ flat_map g a) ++ flat_map g b = ap (λ w. g x ++ w) (flat_map-append g a b) ∙ sym (append_assoc (g x) (flat_map g a) (flat_map g b)) in
    let two : IsPermutation ((g x ++ flat_map g a) ++ flat_map g b) ((flat_map g a ++ g x) ++ flat_map g b) = IsPermutation-append_left (flat_map g b) _ _ (IsPermutation-append_comm (g x) (flat_map g a)) in
    let e2 : (flat_map g a ++ g x) ++ flat_map g b ≡ flat_map g r = append_assoc (flat_map g a) (g x) (flat_map g b) ∙ (sym (flat_map-append g a (x ∷ b)) ∙ ap (flat_map g) (sym at.is)) in
    IsPermutation-trans _ _ _ (subst (IsPermutation (g x ++ flat_map g c)) e1 one) (subst (IsPermutation ((g x ++ flat_map g a) ++ flat_map g b)) e2 two)

pub filter-flat_map : {X A : Type 0} (p : A → Bool) (f : X → List A) (xs : List X) → filter p (flat_map f xs) ≡ flat_map (λ x. filter p (f x)) xs
filter-flat_map p f [] = refl
filter-flat_map p f (x ∷ xs) = filter-append p (f x) (flat_map f xs) ∙ ap (λ w. filter p (f x) ++ w) (filter-flat_map p f xs)

-- the block numbers
pub block_in : (n b : ℕ) → b ≢ 0 → b < n → In b (tree_blocks n)
block_in zero b ne lt = absurd (omega arith)
block_in (suc zero) b ne lt = absurd (omega arith)
block_in (suc (suc n)) b ne lt = elim (cases_eq b (suc n)) [
  | inl e ↦ In-right b (tree_blocks (suc n)) (suc n ∷ []) (inl e)
  | inr o ↦ In-left b (tree_blocks (suc n)) (suc n ∷ []) (block_in (suc n) b ne (omega arith))
]

pub block_of : (n b : ℕ) → In b (tree_blocks n) → (b ≢ 0) × (b < n)
block_of zero b h = absurd h
block_of (suc zero) b h = absurd h
block_of (suc (suc n)) b h = elim (In-cases b (tree_blocks (suc n)) (suc n ∷ []) h) [
  | inl k ↦ let r = block_of (suc n) b k in let lt : b < suc n = r.1 in (r.0, omega arith)
  | inr k ↦ elim k [ inl e ↦ (λ z. absurd (omega arith), omega arith) | inr j ↦ absurd j ]
]

pub blocks_apart : (n : ℕ) → NoRepeats (tree_blocks n)
blocks_apart zero = tt
blocks_apart (suc zero) = tt
blocks_apart (suc (suc n)) =
    NoRepeats-append (tree_blocks (suc n)) (suc n ∷ []) (blocks_apart (suc n)) ((λ h. h), tt)
    (λ b h k. elim k [ inl e ↦ let r = block_of (suc n) b h in let lt : b < suc n = r.1 in absurd (omega arith) | inr j ↦ j ])

pub In-from_Contains : {X : Type 0} (xs : List X) (x : X) → Contains xs x → In x xs
In-from_Contains [] x h = absurd (let l = h.1 in omega arith)
In-from_Contains {X} (y ∷ ys) x h = go h.0 h.1 h.2 (λ k l e. In-from_Contains ys x (k, l, e))
  where
    go : (k : ℕ) → k < length (y ∷ ys) → slice_index_or (y ∷ ys) k x ≡ x → ((k : ℕ) → k < length ys → slice_index_or ys k x ≡ x → In x ys) → In x (y ∷ ys)
    go zero l e rest = inl (sym e)
    go (suc k) l e rest = inr (rest k (omega arith) e)

-- a filter keeps the order
Each-filter : {X : Type 0} (P : X → Type 0) (p : X → Bool) (xs : List X) → Each P xs → Each P (filter p xs)
Each-filter P p [] h = tt
Each-filter P p (x ∷ xs) h = elim (cases_Bool (p x)) [
  | inl t ↦ subst (Each P) (sym (cond-true (p x) (x ∷ filter p xs) (filter p xs) t)) (h.0, Each-filter P p xs h.1)
  | inr t ↦ subst (Each P) (sym (cond-false (p x) (x ∷ filter p xs) (filter p xs) t)) (Each-filter P p xs h.1)
]

pub Rising-filter : {S E : Type 0} (o : Order S E) (p : E → Bool) (es : List E) → Rising o es → Rising o (filter p es)
Rising-filter o p [] r = tt
Rising-filter o p (e ∷ es) r = elim (cases_Bool (p e)) [
  | inl t ↦ subst (Rising o) (sym (cond-true (p e) (e ∷ filter p es) (filter p es) t)) (Each-filter (λ d. o.precedes e d ≡ true) p es r.0, Rising-filter o p es r.1)
  | inr t ↦ subst (Rising o) (sym (cond-false (p e) (e ∷ filter p es) (filter p es) t)) (Rising-filter o p es r.1)
]

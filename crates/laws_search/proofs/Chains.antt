-- A chain of links that agree with each other and make no circle is a list without repeats.
use Rattle.std.proofs.Common.{◌≡◌, ◌≢◌, ℕ, zero, suc, ◌+◌, ◌<◌, ◌≤◌, ◌⊎◌, inl, inr, List, [], ◌∷◌, ◌++◌, length, reverse, refl, sym, ap, ◌∙◌, subst, arith, append_assoc}
use Rattle.std.specs.Prelude.{⊤}
use Rattle.std.proofs.lemmas.Bool.{cases_eq}
use Rattle.std.proofs.lemmas.Grind.{reverse_onto}
use Rattle.std.proofs.Common.{add-one}
use Rattle.laws_search.specs.Order.{Order}
use Rattle.laws_search.specs.Tree.{Index, linked_from, after_links, chain_of}
use Rattle.laws_search.specs.Searchable.{IsInUse, IsSoundPage}
use Rattle.laws_search.proofs.Lists.{In, Each, NoRepeats, length-no_repeats}

-- the list is what the links reach from b
abbrev pub Follows : (ℕ → ℕ) → ℕ → List ℕ → Type 0
Follows f b [] = b ≡ 0
Follows f b (q ∷ c) = (b ≡ q) × (q ≢ 0) × Follows f (f q) c

-- each member is what the next one links to: where one has been, the latest first
abbrev Trail : (ℕ → ℕ) → List ℕ → Type 0
Trail f [] = ⊤
Trail f (p ∷ []) = ⊤
Trail f (q ∷ p ∷ v) = (f p ≡ q) × Trail f (p ∷ v)

abbrev IsLast : ℕ → List ℕ → Type 0
IsLast b [] = ⊥
IsLast b (p ∷ []) = b ≡ p
IsLast b (q ∷ p ∷ v) = IsLast b (p ∷ v)

same_last : (a b : ℕ) (v : List ℕ) → IsLast a v → IsLast b v → a ≡ b
same_last a b [] h k = absurd h
same_last a b (p ∷ []) h k = h ∙ sym k
same_last a b (q ∷ p ∷ v) h k = same_last a b (p ∷ v) h k

after_zero : (f : ℕ → ℕ) (k : ℕ) → after_links f k 0 ≡ 0
after_zero f zero = refl
after_zero f (suc k) = refl

after_suc : (f : ℕ → ℕ) (k e c : ℕ) → after_links f k e ≡ suc c → after_links f (suc k) e ≡ f (suc c)
after_suc f zero zero c h = absurd (omega arith)
after_suc f zero (suc e) c h = ap f h
after_suc f (suc k) zero c h = absurd (omega arith)
after_suc f (suc k) (suc e) c h = after_suc f k (f (suc e)) c h

after_more : (f : ℕ → ℕ) (k e c : ℕ) → after_links f k e ≡ c → c ≢ 0 → after_links f (suc k) e ≡ f c
after_more f k e zero h ne = absurd (ne refl)
after_more f k e (suc c) h ne = after_suc f k e c h

module _ (f g : ℕ → ℕ) (n : ℕ) (Ok : ℕ → Type 0) (bound : (b : ℕ) → Ok b → b < n) (some : (b : ℕ) → Ok b → b ≢ 0) (goes : (b : ℕ) → Ok b → f b ≢ 0 → Ok (f b) × (g (f b) ≡ b)) where
  -- where each but the last has come from
  back : (p : ℕ) (v : List ℕ) (b : ℕ) → Trail f (p ∷ v) → Each Ok (p ∷ v) → In b (p ∷ v) → IsLast b (p ∷ v) ⊎ In (g b) v
  back p [] b t all h = elim h [ inl e ↦ inl e | inr k ↦ absurd k ]
  back p (q ∷ v) b t all h = elim h [
    | inl e ↦
        let there : f q ≢ 0 = λ z. some p all.0 (sym t.0 ∙ z) in
        let from : g b ≡ q = ap g (e ∙ sym t.0) ∙ (goes q all.1.0 there).1 in
        inr (inl from)
    | inr k ↦ elim (back q v b t.1 all.1 k) [ inl l ↦ inl l | inr m ↦ inr (inr m) ]
  ]

  -- the next one is new, but for the first of all
  new_or_first : (p : ℕ) (v : List ℕ) (b : ℕ) → Trail f (p ∷ v) → Each Ok (p ∷ v) → NoRepeats (p ∷ v) → f p ≡ b → b ≢ 0 → In b (p ∷ v) → IsLast b (p ∷ v)
  new_or_first p v b t all apart to ne h = elim (back p v b t all h) [
    | inl l ↦ l
    | inr k ↦
        let from : g b ≡ p = ap g (sym to) ∙ (goes p all.0 (λ z. ne (sym to ∙ z))).1 in
        absurd (apart.0 (subst (λ z. In z v) from k))
  ]

  -- the trail is that many links long
  trail_after : (e p : ℕ) (v : List ℕ) → Trail f (p ∷ v) → Each Ok (p ∷ v) → IsLast e (p ∷ v) → after_links f (length v) e ≡ p
  trail_after e p [] t all l = l
  trail_after e p (q ∷ v) t all l = after_more f (length v) e q (trail_after e q v t.1 all.1 l) (some q all.1.0) ∙ t.0

  -- with enough steps the walk comes to its end
  walk_ends : (e : ℕ) → ((k : ℕ) → after_links f (suc k) e ≢ e) → (m p : ℕ) (v : List ℕ) (b : ℕ) → Trail f (p ∷ v) → Each Ok (p ∷ v) → NoRepeats (p ∷ v) → IsLast e (p ∷ v) → n ≤ m + length (p ∷ v) → f p ≡ b → Follows f b (linked_from f m b)
  walk_ends e free zero p v zero t all apart last long to = refl
  walk_ends e free (suc m) p v zero t all apart last long to = refl
  walk_ends e free zero p v (suc b) t all apart last long to =
      let ne : suc b ≢ 0 = omega arith in
      let new : In (suc b) (p ∷ v) → ⊥ = λ h. free (length v) (after_more f (length v) e p (trail_after e p v t all last) (some p all.0) ∙ (to ∙ same_last (suc b) e (p ∷ v) (new_or_first p v (suc b) t all apart to ne h) last)) in
      let next : Ok (suc b) = subst Ok to (goes p all.0 (λ z. ne (sym to ∙ z))).0 in
      let le : length (suc b ∷ p ∷ v) ≤ n = length-no_repeats n (suc b ∷ p ∷ v) (new, apart) (bound (suc b) next, below (p ∷ v) all) in
      absurd (omega arith)
    where
      below : (w : List ℕ) → Each Ok w → Each (λ x. x < n) w
      below [] h = tt
      below (x ∷ w) h = (bound x h.0, below w h.1)
  walk_ends e free (suc m) p v (suc b) t all apart last long to =
      let ne : suc b ≢ 0 = omega arith in
      let new : In (suc b) (p ∷ v) → ⊥ = λ h. free (length v) (after_more f (length v) e p (trail_after e p v t all last) (some p all.0) ∙ (to ∙ same_last (suc b) e (p ∷ v) (new_or_first p v (suc b) t all apart to ne h) last)) in
      let next : Ok (suc b) = subst Ok to (goes p all.0 (λ z. ne (sym to ∙ z))).0 in
      (refl, ne, walk_ends e free m (suc b) (p ∷ v) (f (suc b)) (to, t) (next, all) (new, apart) last (omega arith) refl)

  -- a walk comes to its end or back to where it began, and which of them is found by looking at each page once
  pub walk_or_circle : (e m p : ℕ) (v : List ℕ) (b : ℕ) → Trail f (p ∷ v) → Each Ok (p ∷ v) → NoRepeats (p ∷ v) → IsLast e (p ∷ v) → n ≤ m + length (p ∷ v) → f p ≡ b → Follows f b (linked_from f m b) ⊎ ((k : ℕ) × (k < n) × (after_links f (suc k) e ≡ e))
  walk_or_circle e zero p v zero t all apart last long to = inl refl
  walk_or_circle e (suc m) p v zero t all apart last long to = inl refl
  walk_or_circle e zero p v (suc b) t all apart last long to = elim (cases_eq (suc b) e) [
    | inl same ↦ inr (length v, short v all apart, after_more f (length v) e p (trail_after e p v t all last) (some p all.0) ∙ (to ∙ same))
    | inr other ↦
        let ne : suc b ≢ 0 = omega arith in
        let new : In (suc b) (p ∷ v) → ⊥ = λ h. other (same_last (suc b) e (p ∷ v) (new_or_first p v (suc b) t all apart to ne h) last) in
        let next : Ok (suc b) = subst Ok to (goes p all.0 (λ z. ne (sym to ∙ z))).0 in
        let le : length (suc b ∷ p ∷ v) ≤ n = length-no_repeats n (suc b ∷ p ∷ v) (new, apart) (bound (suc b) next, inside (p ∷ v) all) in
        absurd (omega arith)
  ]
    where
      inside : (w : List ℕ) → Each Ok w → Each (λ x. x < n) w
      inside [] h = tt
      inside (x ∷ w) h = (bound x h.0, inside w h.1)

      short : (v : List ℕ) → Each Ok (p ∷ v) → NoRepeats (p ∷ v) → length v < n
      short v all apart = let le : length (p ∷ v) ≤ n = length-no_repeats n (p ∷ v) apart (inside (p ∷ v) all) in omega arith
  walk_or_circle e (suc m) p v (suc b) t all apart last long to = on (cases_eq (suc b) e) (λ other. walk_or_circle e m (suc b) (p ∷ v) (f (suc b)) (to, t) (next, all) (fresh other, apart) last (omega arith) refl)
    where
      ne : suc b ≢ 0
      ne = omega arith

      next : Ok (suc b)
      next = subst Ok to (goes p all.0 (λ z. ne (sym to ∙ z))).0

      fresh : (suc b ≡ e → ⊥) → In (suc b) (p ∷ v) → ⊥
      fresh other h = other (same_last (suc b) e (p ∷ v) (new_or_first p v (suc b) t all apart to ne h) last)

      inside : (w : List ℕ) → Each Ok w → Each (λ x. x < n) w
      inside [] h = tt
      inside (x ∷ w) h = (bound x h.0, inside w h.1)

      on : (suc b ≡ e) ⊎ (suc b ≡ e → ⊥) → ((suc b ≡ e → ⊥) → Follows f (f (suc b)) (linked_from f m (f (suc b))) ⊎ ((k : ℕ) × (k < n) × (after_links f (suc k) e ≡ e))) → Follows f (suc b) (linked_from f (suc m) (suc b)) ⊎ ((k : ℕ) × (k < n) × (after_links f (suc k) e ≡ e))
      on d rest = elim d [
        | inl same ↦
            let le : length (p ∷ v) ≤ n = length-no_repeats n (p ∷ v) apart (inside (p ∷ v) all) in
            inr (length v, omega arith, after_more f (length v) e p (trail_after e p v t all last) (some p all.0) ∙ (to ∙ same))
        | inr other ↦ elim (rest other) [ inl k ↦ inl (refl, ne, k) | inr c ↦ inr c ]
      ]

  -- a walk whose first page nothing links to has no repeats
  walk_apart : (e : ℕ) → g e ≡ 0 → (c : List ℕ) (p : ℕ) (v : List ℕ) → Trail f (p ∷ v) → Each Ok (p ∷ v) → NoRepeats (p ∷ v) → IsLast e (p ∷ v) → Follows f (f p) c → NoRepeats c × Each Ok c × ((x : ℕ) → In x c → In x (p ∷ v) → ⊥)
  walk_apart e none [] p v t all apart last follows = (tt, tt, λ x h k. h)
  walk_apart e none (q ∷ c) p v t all apart last follows =
      let there : f p ≢ 0 = λ z. follows.1 (sym follows.0 ∙ z) in
      let step = goes p all.0 there in
      let next : Ok q = subst Ok follows.0 step.0 in
      let new : In q (p ∷ v) → ⊥ = λ h. some p all.0 (sym step.1 ∙ (ap g (follows.0 ∙ same_last q e (p ∷ v) (new_or_first p v q t all apart follows.0 follows.1 h) last) ∙ none)) in
      let rest = walk_apart e none c q (p ∷ v) (follows.0, t) (next, all) (new, apart) last follows.2 in
      ((λ h. rest.2 q h (inl refl), rest.0), (next, rest.1), λ x h k. elim h [ inl e ↦ new (subst (λ z. In z (p ∷ v)) e k) | inr j ↦ rest.2 x j (inr k) ])

  -- the links back lead back
  after_back : (k e c : ℕ) → Ok e → after_links f k e ≡ c → c ≢ 0 → after_links g k c ≡ e
  after_back zero e c ok h ne = sym h
  after_back (suc k) zero c ok h ne = absurd (ne (sym h))
  after_back (suc k) (suc e) c ok h ne =
      let there : f (suc e) ≢ 0 = λ z. ne (sym h ∙ (ap (after_links f k) z ∙ after_zero f k)) in
      let step = goes (suc e) ok there in
      after_more g k c (f (suc e)) (after_back k (f (suc e)) c step.0 h ne) there ∙ step.1

-- the two walks from a page are one chain
join : (next prev : ℕ → ℕ) (Ok : ℕ → Type 0) → ((b : ℕ) → Ok b → b ≢ 0) → ((b : ℕ) → Ok b → prev b ≢ 0 → Ok (prev b) × (next (prev b) ≡ b)) → (l : List ℕ) (e : ℕ) (c : List ℕ) → Ok e → Follows prev (prev e) l → Follows next e c → (first : ℕ) × Ok first × (prev first ≡ 0) × Follows next first (reverse l ++ c)
join next prev Ok some goes [] e c ok left right = (e, ok, left, right)
join next prev Ok some goes (q ∷ l) e c ok left right =
    let step = goes e ok (λ z. left.1 (sym left.0 ∙ z)) in
    let okq : Ok q = subst Ok left.0 step.0 in
    let to : next q ≡ e = ap next (sym left.0) ∙ step.1 in
    let all : Follows next q (q ∷ c) = (refl, some q okq, subst (λ z. Follows next z c) (sym to) right) in
    let r = join next prev Ok some goes l q (q ∷ c) okq left.2 all in
    (r.0, r.1, r.2, subst (λ z. Follows next r.0 z) (sym (ap (λ w. w ++ c) (reverse_onto l q []) ∙ append_assoc (reverse l) (q ∷ []) c)) r.3)

-- the whole chain, from its first page
whole_apart : (f g : ℕ → ℕ) (n : ℕ) (Ok : ℕ → Type 0) → ((b : ℕ) → Ok b → b < n) → ((b : ℕ) → Ok b → b ≢ 0) → ((b : ℕ) → Ok b → f b ≢ 0 → Ok (f b) × (g (f b) ≡ b)) → (first : ℕ) → Ok first → g first ≡ 0 → (c : List ℕ) → Follows f first c → NoRepeats c × Each Ok c
whole_apart f g n Ok bound some goes first ok none [] follows = (tt, tt)
whole_apart f g n Ok bound some goes first ok none (q ∷ c) follows =
    let okq : Ok q = subst Ok follows.0 ok in
    let noneq : g q ≡ 0 = ap g (sym follows.0) ∙ none in
    let r = walk_apart f g n Ok bound some goes q noneq c q [] tt (okq, tt) ((λ h. h), tt) refl follows.2 in
    ((λ h. r.2 q h (inl refl), r.0), (okq, r.1))

-- a page in use on this level
abbrev pub OnLevel : {S E : Type 0} → Index S E → ℕ → ℕ → Type 0
OnLevel x level b = IsInUse x b × ((x.page b).level ≡ level)

pub record IsChain {S E : Type 0} (x : Index S E) (level : ℕ) (c : List ℕ) : Type 0 where
  pub first : ℕ
  pub some : first ≢ 0
  pub begins : (x.page first).prev ≡ 0
  pub follows : Follows (λ b. (x.page b).next) first c
  pub apart : NoRepeats c
  pub here : Each (OnLevel x level) c

pub chain_is : {S E : Type 0} (o : Order S E) (x : Index S E) → ((b : ℕ) → IsInUse x b → IsSoundPage o x b) → (level e : ℕ) → OnLevel x level e → ((k : ℕ) → after_links (λ b. (x.page b).next) (k + 1) e ≢ e) → IsChain x level (chain_of x e)
chain_is {S} {E} o x sound level e here free =
    let next : ℕ → ℕ = λ b. (x.page b).next in
    let prev : ℕ → ℕ = λ b. (x.page b).prev in
    let Ok : ℕ → Type 0 = OnLevel x level in
    let bound : (b : ℕ) → Ok b → b < x.blocks = λ b ok. ok.0.inside in
    let some : (b : ℕ) → Ok b → b ≢ 0 = λ b ok. ok.0.not_meta in
    let right : (b : ℕ) → Ok b → next b ≢ 0 → Ok (next b) × (prev (next b) ≡ b) = λ b ok h. let r = (sound b ok.0).right_sibling h in ((r.0, r.1 ∙ ok.1), r.2) in
    let left : (b : ℕ) → Ok b → prev b ≢ 0 → Ok (prev b) × (next (prev b) ≡ b) = λ b ok h. let r = (sound b ok.0).left_sibling h in ((r.0, r.1 ∙ ok.1), r.2) in
    let free_right : (k : ℕ) → after_links next (suc k) e ≢ e = λ k. subst (λ m. after_links next m e ≢ e) (add-one k) (free k) in
    let free_left : (k : ℕ) → after_links prev (suc k) e ≢ e = λ k h. free_right k (after_back prev next x.blocks Ok bound some left (suc k) e e here h (some e here)) in
    let inside : e < x.blocks = bound e here in
    let lefts = walk_ends prev next x.blocks Ok bound some left e free_left x.blocks e [] (prev e) tt (here, tt) ((λ h. h), tt) refl (omega arith) refl in
    let rights : Follows next e (linked_from next x.blocks e) = from_here next prev x.blocks Ok bound some right e here free_right x.blocks e refl (omega arith) in
    let j = join next prev Ok some left (linked_from prev x.blocks (prev e)) e (linked_from next x.blocks e) here lefts rights in
    let w = whole_apart next prev x.blocks Ok bound some right j.0 j.1 j.2 (chain_of x e) j.3 in
    record { first = j.0; some = some j.0 j.1; begins = j.2; follows = j.3; apart = w.0; here = w.1 }
  where
    from_here : (f g : ℕ → ℕ) (n : ℕ) (Ok : ℕ → Type 0) → ((b : ℕ) → Ok b → b < n) → ((b : ℕ) → Ok b → b ≢ 0) → ((b : ℕ) → Ok b → f b ≢ 0 → Ok (f b) × (g (f b) ≡ b)) → (e : ℕ) → Ok e → ((k : ℕ) → after_links f (suc k) e ≢ e) → (m b : ℕ) → e ≡ b → n ≤ m → Follows f b (linked_from f m b)
    from_here f g n Ok bound some goes e ok free m zero is le = absurd (some e ok is)
    from_here f g n Ok bound some goes e ok free zero (suc b) is le = let h : e < n = bound e ok in absurd (omega arith)
    from_here f g n Ok bound some goes e ok free (suc m) (suc b) is le =
        let ok' : Ok (suc b) = subst Ok is ok in
        let free' : (k : ℕ) → after_links f (suc k) (suc b) ≢ suc b = subst (λ z. (k : ℕ) → after_links f (suc k) z ≢ z) is free in
        (refl, some (suc b) ok', walk_ends f g n Ok bound some goes (suc b) free' m (suc b) [] (f (suc b)) tt (ok', tt) ((λ h. h), tt) refl (omega arith) refl)

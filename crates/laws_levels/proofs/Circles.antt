-- Walks along links: whether they come back, and where a chain begins.
use Rattle.std.proofs.Common.{◌≡◌, ◌≢◌, ℕ, zero, suc, ◌<◌, ◌≤◌, inl, inr, true, false, List, [], ◌∷◌, ◌++◌, length}
use Rattle.std.proofs.Common.{reverse, refl, sym, ap, ◌∙◌, subst, arith, append_assoc, add-one}
use Rattle.std.specs.Prelude.{◌==◌, ◌||◌}
use Rattle.std.specs.Bool.{Decides}
use Rattle.std.proofs.lemmas.Bool.{or_cases, or_left, or_right, eqb-true, eq-eqb, false≢true, both_ways}
use Rattle.std.proofs.lemmas.Bool.Decides.{same_from_decides, Decides-like, Decides-eqb, Decides-below_or}
use Rattle.std.proofs.lemmas.Grind.{reverse_onto}
use Rattle.laws_search.specs.Order.{Order}
use Rattle.laws_search.specs.Tree.{Index, chain_of, after_links, linked_from}
use Rattle.laws_search.specs.Searchable.{IsInUse, IsSoundPage}
use Rattle.laws_search.specs.Search.{last_or}
use Rattle.laws_search.proofs.Lists.{Each-map, length-no_repeats}
use Rattle.laws_search.proofs.Chains.{Follows, OnLevel, IsChain, chain_is, walk_or_circle}
use Rattle.laws_levels.specs.Rules.{IsCircle}
use Rattle.laws_levels.specs.Tests.{comes_back}
use Rattle.laws_levels.specs.Links.{first_page, to_left, to_right, walks_to}
use Rattle.laws_levels.proofs.Decide.{after_zero, after_step, never_ends, circle_decides}

walks_decides : (f : ℕ → ℕ) (e : ℕ) → e ≢ 0 → (n b : ℕ) → Decides (walks_to f e n b) ((j : ℕ) × (j < n) × (after_links f j b ≡ e))
walks_decides f e ne zero b = (λ h. absurd (false≢true h), λ h. let lt = h.1 in absurd (omega arith))
walks_decides f e ne (suc n) zero = (λ h. absurd (false≢true h), λ h. absurd (ne (sym h.2 ∙ after_zero f h.0)))
walks_decides f e ne (suc n) (suc b) =
    let ih = walks_decides f e ne n (f (suc b)) in (
      λ h. elim (or_cases (suc b == e) (walks_to f e n (f (suc b))) h) [
        | inl t ↦ (zero, omega arith, eqb-true (suc b) e t)
        | inr t ↦ let r = ih.0 t in let lt = r.1 in (suc r.0, omega arith, r.2)
      ],
      λ h. go h.0 h.1 h.2 ih.1,
    )
  where
    go :
        (j : ℕ) → j < suc n → after_links f j (suc b) ≡ e
        → ((j : ℕ) × (j < n) × (after_links f j (f (suc b)) ≡ e) → walks_to f e n (f (suc b)) ≡ true)
        → ((suc b == e) || walks_to f e n (f (suc b))) ≡ true
    go zero lt h ih = or_left (suc b == e) (walks_to f e n (f (suc b))) (eq-eqb (suc b) e h)
    go (suc j) lt h ih = or_right (suc b == e) (walks_to f e n (f (suc b))) (ih (j, omega arith, h))

comes_decides : (f : ℕ → ℕ) (e n : ℕ) → Decides (comes_back f e n) ((k : ℕ) × (k < n) × (after_links f (suc k) e ≡ e))
comes_decides f e n = Decides-below_or (λ k. after_links f (suc k) e == e) (λ k. after_links f (suc k) e ≡ e) (comes_back f e) (λ k. Decides-eqb (after_links f (suc k) e) e) refl (λ _. refl) n

-- the walk from the next page on
pub walk_back : (f : ℕ → ℕ) (e n : ℕ) → e ≢ 0 → walks_to f e n (f e) ≡ comes_back f e n
walk_back f e n ne =
    same_from_decides (walks_to f e n (f e)) (comes_back f e n) (walks_decides f e ne n (f e))
    (Decides-like (comes_back f e n) (λ h. (h.0, h.1, sym (after_step f h.0 e ne) ∙ h.2)) (λ h. (h.0, h.1, after_step f h.0 e ne ∙ h.2)) (comes_decides f e n))

after_more : (f : ℕ → ℕ) (k e c : ℕ) → after_links f k e ≡ c → c ≢ 0 → after_links f (suc k) e ≡ f c
after_more f zero zero c h ne = absurd (ne (sym h))
after_more f zero (suc e) c h ne = ap f h
after_more f (suc k) zero c h ne = absurd (ne (sym h))
after_more f (suc k) (suc e) c h ne = after_more f k (f (suc e)) c h ne

-- the links back lead back
after_back :
    (f g : ℕ → ℕ) (Ok : ℕ → Type 0) → ((b : ℕ) → Ok b → f b ≢ 0 → Ok (f b) × (g (f b) ≡ b)) → (k e c : ℕ) → Ok e
    → after_links f k e ≡ c → c ≢ 0 → after_links g k c ≡ e
after_back f g Ok goes zero e c ok h ne = sym h
after_back f g Ok goes (suc k) zero c ok h ne = absurd (ne (sym h))
after_back f g Ok goes (suc k) (suc e) c ok h ne =
    let there : f (suc e) ≢ 0 = λ z. ne (sym h ∙ (ap (after_links f k) z ∙ after_zero f k)) in
    let st = goes (suc e) ok there in
    after_more g k c (f (suc e)) (after_back f g Ok goes k (f (suc e)) c st.0 h ne) there ∙ st.1

-- the list is as long as the links go
follows_linked : (f : ℕ → ℕ) (c : List ℕ) (b n : ℕ) → Follows f b c → length c ≤ n → linked_from f n b ≡ c
follows_linked f [] b n follows le = ap (linked_from f n) follows ∙ nothing n
  where
    nothing : (n : ℕ) → linked_from f n 0 ≡ []
    nothing zero = refl
    nothing (suc n) = refl
follows_linked f (q ∷ c) b zero follows le = absurd (omega arith)
follows_linked f (q ∷ c) zero (suc n) follows le = absurd (follows.1 (sym follows.0))
follows_linked f (q ∷ c) (suc b) (suc n) follows le =
    ap (λ z. suc b ∷ linked_from f n (f z)) follows.0 ∙ (ap (λ z. z ∷ linked_from f n (f q)) follows.0 ∙ ap (λ w. q ∷ w) (follows_linked f c (f q) n follows.2 (omega arith)))

head_of : (f : ℕ → ℕ) (b : ℕ) (l : List ℕ) (h : ℕ) (t : List ℕ) → Follows f b (reverse l ++ (h ∷ t)) → b ≡ last_or h l
head_of f b [] h t follows = follows.0
head_of f b (q ∷ l) h t follows = head_of f b l q (h ∷ t) (subst (Follows f b) (ap (λ w. w ++ (h ∷ t)) (reverse_onto l q []) ∙ append_assoc (reverse l) (q ∷ []) (h ∷ t)) follows)

module _ {S E : Type 0} (o : Order S E) (x : Index S E) (sound : (b : ℕ) → IsInUse x b → IsSoundPage o x b) (level e : ℕ) (here : OnLevel x level e) where
  some : (b : ℕ) → OnLevel x level b → b ≢ 0
  some b ok = ok.0.not_meta

  bound : (b : ℕ) → OnLevel x level b → b < x.blocks
  bound b ok = ok.0.inside

  right : (b : ℕ) → OnLevel x level b → to_right x b ≢ 0 → OnLevel x level (to_right x b) × (to_left x (to_right x b) ≡ b)
  right b ok h = let r = (sound b ok.0).right_sibling h in ((r.0, r.1 ∙ ok.1), r.2)

  left : (b : ℕ) → OnLevel x level b → to_left x b ≢ 0 → OnLevel x level (to_left x b) × (to_right x (to_left x b) ≡ b)
  left b ok h = let r = (sound b ok.0).left_sibling h in ((r.0, r.1 ∙ ok.1), r.2)

  -- a circle to the left is one to the right
  left_right : Decides (comes_back (to_left x) e x.blocks) (IsCircle x e)
  left_right =
      let inside : e < x.blocks = bound e here in
      let within = comes_decides (to_left x) e x.blocks in (
        λ h. let r = within.0 h in (r.0, subst (λ m. after_links (to_right x) m e ≡ e) (sym (add-one r.0)) (after_back (to_left x) (to_right x) (OnLevel x level) left (suc r.0) e e here r.2 (some e here))),
        λ h.
            let k : ℕ = h.0 in
            let forth : after_links (to_right x) (suc k) e ≡ e = subst (λ m. after_links (to_right x) m e ≡ e) (add-one k) h.1 in
            let back : after_links (to_left x) (suc k) e ≡ e = after_back (to_right x) (to_left x) (OnLevel x level) right (suc k) e e here forth (some e here) in
            elim (walk_or_circle (to_left x) (to_right x) x.blocks (OnLevel x level) bound some left e x.blocks e [] (to_left x e) tt (here, tt) ((λ h. h), tt) refl (omega arith) refl) [
              | inl stops ↦ absurd (never_ends (to_left x) e k (some e here) back (linked_from (to_left x) x.blocks (to_left x e)) (to_left x e) k stops (sym (after_step (to_left x) k e (some e here)) ∙ back))
              | inr c ↦ within.1 c
            ],
      )

  -- so the walk to the left tells it too
  pub walk_left : walks_to (to_left x) e x.blocks (to_left x e) ≡ comes_back (to_right x) e x.blocks
  walk_left = walk_back (to_left x) e x.blocks (some e here) ∙ same_from_decides (comes_back (to_left x) e x.blocks) (comes_back (to_right x) e x.blocks) left_right (circle_decides o x sound level e here)

  pub a_chain : comes_back (to_right x) e x.blocks ≡ false → IsChain x level (chain_of x e)
  a_chain open_end = chain_is o x sound level e here (λ k h. both_ways (comes_back (to_right x) e x.blocks) open_end ((circle_decides o x sound level e here).1 (k, h)))

  begins :
      (n q : ℕ) → q < n → q ≢ 0 → (b : ℕ)
      → Follows (to_right x) b (reverse (linked_from (to_left x) x.blocks (to_left x e)) ++ linked_from (to_right x) n q)
      → b ≡ last_or q (linked_from (to_left x) x.blocks (to_left x e))
  begins zero q lt ne b follows = absurd (omega arith)
  begins (suc n) zero lt ne b follows = absurd (ne refl)
  begins (suc n) (suc q) lt ne b follows = head_of (to_right x) b (linked_from (to_left x) x.blocks (to_left x e)) (suc q) (linked_from (to_right x) n (to_right x (suc q))) follows

  pub first_is : (b : ℕ) → Follows (to_right x) b (chain_of x e) → b ≡ first_page x e
  first_is b follows = begins x.blocks e (bound e here) (some e here) b follows

  -- a chain that isn't a circle begins where the links to the left end, and goes on by those to the right
  pub chain_from_first : comes_back (to_right x) e x.blocks ≡ false → chain_of x e ≡ linked_from (to_right x) x.blocks (first_page x e)
  chain_from_first open_end =
      let chain = a_chain open_end in
      let le : length (chain_of x e) ≤ x.blocks = length-no_repeats x.blocks (chain_of x e) chain.apart (Each-map (OnLevel x level) (λ b. b < x.blocks) (chain_of x e) (λ b ok. ok.0.inside) chain.here) in
      sym (follows_linked (to_right x) (chain_of x e) (first_page x e) x.blocks (subst (λ z. Follows (to_right x) z (chain_of x e)) (first_is chain.first chain.follows) chain.follows) le)

-- Downlinks that are met one after the other along a chain.
use Rattle.std.proofs.Common.{◌≡◌, ℕ, inl, inr, Bool, true, false, not, cond, ◌&&◌, List, [], ◌∷◌, map, refl, sym, ap}
use Rattle.std.proofs.Common.{◌∙◌, subst}
use Rattle.std.specs.Prelude.{Option, ◌==◌, ◌||◌}
use Rattle.std.specs.List.{filter, list_any}
use Rattle.std.proofs.lemmas.Bool.{cases_Bool, cond-true, cond-false, eq-eqb, eqb-true, ne_eqb, both_ways, or_cases}
use Rattle.std.proofs.lemmas.Bool.{or_left, false_from_ne_true}
use Rattle.std.proofs.Math.Bool.{or-false}
use Rattle.laws_search.specs.Tree.{Index}
use Rattle.laws_search.specs.Levels.{Role, row, is_live, Downlink, lead_to, role_of, lower_after, rows}
use Rattle.laws_search.proofs.Lists.{In, NoRepeats}
use Rattle.laws_levels.specs.Tests.{same_bound}
use Rattle.laws_levels.specs.Meeting.{is_next, rows_met, unmet, unmet_after}

abbrev pub pages : {S : Type 0} → List (Downlink S) → List ℕ
pages ds = map (λ d. d.1) ds

filter_true : {X : Type 0} (p : X → Bool) (b : X) (c : List X) → p b ≡ true → filter p (b ∷ c) ≡ b ∷ filter p c
filter_true p b c h = cond-true (p b) (b ∷ filter p c) (filter p c) h

filter_false : {X : Type 0} (p : X → Bool) (b : X) (c : List X) → p b ≡ false → filter p (b ∷ c) ≡ filter p c
filter_false p b c h = cond-false (p b) (b ∷ filter p c) (filter p c) h

pub In_filter : {X : Type 0} (p : X → Bool) (y : X) (c : List X) → In y (filter p c) → In y c × (p y ≡ true)
In_filter p y [] h = absurd h
In_filter p y (b ∷ c) h = elim (cases_Bool (p b)) [
  | inl t ↦ elim (subst (In y) (filter_true p b c t) h) [
    | inl e ↦ (inl e, subst (λ z. p z ≡ true) (sym e) t)
    | inr k ↦ let r = In_filter p y c k in (inr r.0, r.1)
  ]
  | inr f ↦ let r = In_filter p y c (subst (In y) (filter_false p b c f) h) in (inr r.0, r.1)
]

pub NoRepeats-filter : {X : Type 0} (p : X → Bool) (c : List X) → NoRepeats c → NoRepeats (filter p c)
NoRepeats-filter p [] h = tt
NoRepeats-filter p (b ∷ c) h = elim (cases_Bool (p b)) [
  | inl t ↦ subst NoRepeats (sym (filter_true p b c t)) ((λ k. h.0 (In_filter p b c k).0), NoRepeats-filter p c h.1)
  | inr f ↦ subst NoRepeats (sym (filter_false p b c f)) (NoRepeats-filter p c h.1)
]

head_is : (a b : ℕ) (xs ys : List ℕ) → a ∷ xs ≡ b ∷ ys → a ≡ b
head_is a b xs ys h = cc

tail_is : (a b : ℕ) (xs ys : List ℕ) → a ∷ xs ≡ b ∷ ys → xs ≡ ys
tail_is a b xs ys h = cc

-- the next downlink leads to a page exactly where the page is linked, if the downlinks left are the linked pages left
pub record Met {S : Type 0} (p : ℕ → Bool) (b : ℕ) (c : List ℕ) (ds : List (Downlink S)) : Type 0 where
  pub same : p b ≡ is_next ds b
  pub rest : pages (unmet_after ds b) ≡ filter p c

pub met : {S : Type 0} (p : ℕ → Bool) (b : ℕ) (c : List ℕ) (ds : List (Downlink S)) → pages ds ≡ filter p (b ∷ c) → Met p b c ds
met p b c [] h = elim (cases_Bool (p b)) [
  | inl t ↦ absurd (let e = h ∙ filter_true p b c t in cc)
  | inr f ↦ record { same = f; rest = h ∙ filter_false p b c f }
]
met p b c (d ∷ ds) h = elim (cases_Bool (p b)) [
  | inl t ↦
      let e : d.1 ∷ pages ds ≡ b ∷ filter p c = h ∙ filter_true p b c t in
      let is : (d.1 == b) ≡ true = eq-eqb d.1 b (head_is d.1 b (pages ds) (filter p c) e) in
      record { same = t ∙ sym is; rest = ap (λ z. pages z) (cond-true (d.1 == b) ds (d ∷ ds) is) ∙ tail_is d.1 b (pages ds) (filter p c) e }
  | inr f ↦
      let e : d.1 ∷ pages ds ≡ filter p c = h ∙ filter_false p b c f in
      let here : In d.1 (filter p c) = subst (In d.1) e (inl refl) in
      let is : (d.1 == b) ≡ false = ne_eqb d.1 b (λ z. both_ways (p b) f (subst (λ q. p q ≡ true) z (In_filter p d.1 c here).1)) in
      record { same = f ∙ sym is; rest = ap (λ z. pages z) (cond-false (d.1 == b) ds (d ∷ ds) is) ∙ e }
]

-- all are met where they are the linked pages in chain order
pub all_met : {S : Type 0} (p : ℕ → Bool) (c : List ℕ) (ds : List (Downlink S)) → pages ds ≡ filter p c → unmet c ds ≡ []
all_met p [] [] h = refl
all_met p [] (d ∷ ds) h = absurd cc
all_met p (b ∷ c) ds h = all_met p c (unmet_after ds b) (met p b c ds h).rest

filter_nothing : (S : Type 0) (c : List ℕ) → filter (lead_to {S = S} []) c ≡ []
filter_nothing S [] = refl
filter_nothing S (b ∷ c) = filter_nothing S c

named_in : {S : Type 0} (ds : List (Downlink S)) (b : ℕ) → lead_to ds b ≡ true → In b (pages ds)
named_in [] b h = absurd (both_ways false refl h)
named_in (d ∷ ds) b h = elim (or_cases (d.1 == b) (lead_to ds b) h) [ inl e ↦ inl (sym (eqb-true d.1 b e)) | inr k ↦ inr (named_in ds b k) ]

-- a name that isn't in the chain doesn't matter there
filter_rest :
    {S : Type 0} (d : Downlink S) (ds : List (Downlink S)) (c : List ℕ) → (In d.1 c → ⊥)
    → filter (lead_to (d ∷ ds)) c ≡ filter (lead_to ds) c
filter_rest d ds [] out = refl
filter_rest d ds (b ∷ c) out =
    let ne : (d.1 == b) ≡ false = ne_eqb d.1 b (λ z. out (inl z)) in
    ap (λ (t : Bool). cond (t || lead_to ds b) (b ∷ filter (lead_to (d ∷ ds)) c) (filter (lead_to (d ∷ ds)) c)) ne
    ∙ ap (λ w. cond (lead_to ds b) (b ∷ w) w) (filter_rest d ds c (λ k. out (inr k)))

-- where all are met along a chain without repeats, they are the linked pages in chain order
pub met_in_order : {S : Type 0} (c : List ℕ) (ds : List (Downlink S)) → NoRepeats c → unmet c ds ≡ [] → pages ds ≡ filter (lead_to ds) c
met_in_order [] [] apart h = refl
met_in_order [] (d ∷ ds) apart h = absurd cc
met_in_order {S} (b ∷ c) [] apart h = sym (filter_nothing S c)
met_in_order (b ∷ c) (d ∷ ds) apart h = elim (cases_Bool (d.1 == b)) [
  | inl t ↦
      let e : d.1 ≡ b = eqb-true d.1 b t in
      let ih = met_in_order c ds apart.1 (sym (ap (unmet c) (cond-true (d.1 == b) ds (d ∷ ds) t)) ∙ h) in
      let named : lead_to (d ∷ ds) b ≡ true = or_left (d.1 == b) (lead_to ds b) t in
      let rest : filter (lead_to (d ∷ ds)) c ≡ filter (lead_to ds) c = filter_rest d ds c (λ k. apart.0 (subst (λ z. In z c) e k)) in
      ap (λ z. z ∷ pages ds) e ∙ (ap (λ w. b ∷ w) (ih ∙ sym rest) ∙ sym (filter_true (lead_to (d ∷ ds)) b c named))
  | inr f ↦
      let ih = met_in_order c (d ∷ ds) apart.1 (sym (ap (unmet c) (cond-false (d.1 == b) ds (d ∷ ds) f)) ∙ h) in
      let unnamed : lead_to (d ∷ ds) b ≡ false = false_from_ne_true (lead_to (d ∷ ds) b) (λ t. apart.0 (In_filter (lead_to (d ∷ ds)) b c (subst (In b) ih (named_in (d ∷ ds) b t))).0) in
      ih ∙ sym (filter_false (lead_to (d ∷ ds)) b c unnamed)
]

-- they are the level's rows
pub rows_are_met :
    {S E : Type 0} (x : Index S E) (p : ℕ → Bool) (c : List ℕ) (ds : List (Downlink S)) (split : Bool) (lower : Option S)
    → pages ds ≡ filter p c → rows x p split lower c ≡ rows_met x c ds split lower
rows_are_met x p [] ds split lower h = refl
rows_are_met x p (b ∷ c) ds split lower h =
    let m = met p b c ds h in
    let page = x.page b in
    let r : Role = role_of page (is_next ds b) split in
    ap (λ (t : Bool). let r = role_of page t split in row b r lower ∷ rows x p (is_live r && page.incomplete_split) (lower_after page r lower) c) m.same
    ∙ ap (λ w. row b r lower ∷ w) (rows_are_met x p c (unmet_after ds b) (is_live r && page.incomplete_split) (lower_after page r lower) m.rest)

-- a half-dead page among those met
abbrev pub half_met : {S E : Type 0} → Index S E → List ℕ → List (Downlink S) → Bool
half_met x [] ds = false
half_met x (b ∷ c) ds = (is_next ds b && (x.page b).half_dead) || half_met x c (unmet_after ds b)

half_met_nothing : {S E : Type 0} (x : Index S E) (c : List ℕ) → half_met x c [] ≡ false
half_met_nothing x [] = refl
half_met_nothing x (b ∷ c) = half_met_nothing x c

pub half_met_is :
    {S E : Type 0} (x : Index S E) (c : List ℕ) (ds : List (Downlink S)) → unmet c ds ≡ []
    → half_met x c ds ≡ list_any (λ d. (x.page d.1).half_dead) ds
half_met_is x [] [] h = refl
half_met_is x [] (d ∷ ds) h = absurd cc
half_met_is x (b ∷ c) [] h = half_met_nothing x c
half_met_is x (b ∷ c) (d ∷ ds) h = elim (cases_Bool (d.1 == b)) [
  | inl t ↦
      ap (λ (u : Bool). (u && (x.page b).half_dead) || half_met x c (cond u ds (d ∷ ds))) t
      ∙ (ap (λ z. (x.page z).half_dead || half_met x c ds) (sym (eqb-true d.1 b t))
      ∙ ap (λ w. (x.page d.1).half_dead || w) (half_met_is x c ds (sym (ap (unmet c) (cond-true (d.1 == b) ds (d ∷ ds) t)) ∙ h)))
  | inr f ↦
      ap (λ (u : Bool). (u && (x.page b).half_dead) || half_met x c (cond u ds (d ∷ ds))) f
      ∙ half_met_is x c (d ∷ ds) (sym (ap (unmet c) (cond-false (d.1 == b) ds (d ∷ ds) f)) ∙ h)
]

-- among downlinks to pages apart from each other one alone leads to a page
pub one_separator :
    {S : Type 0} (same : S → S → Bool) (lo : Option S) (d : Downlink S) (ds : List (Downlink S))
    → NoRepeats (pages ds) → In d ds
    → list_any (λ e. (e.1 == d.1) && not (same_bound same e.0 lo)) ds ≡ not (same_bound same d.0 lo)
one_separator same lo d [] apart h = absurd h
one_separator {S} same lo d (e ∷ ds) apart h = elim h [
  | inl is ↦
      let t : (e.1 == d.1) ≡ true = eq-eqb e.1 d.1 (ap (λ (z : Downlink S). z.1) (sym is)) in
      ap (λ (u : Bool). (u && not (same_bound same e.0 lo)) || list_any (λ e. (e.1 == d.1) && not (same_bound same e.0 lo)) ds) t
      ∙ (ap (λ w. not (same_bound same e.0 lo) || w) (none ds (λ k. apart.0 (subst (λ (z : Downlink S). In z.1 (pages ds)) is k)))
      ∙ (or-false (not (same_bound same e.0 lo)) ∙ ap (λ (z : Downlink S). not (same_bound same z.0 lo)) (sym is)))
  | inr k ↦
      let f : (e.1 == d.1) ≡ false = ne_eqb e.1 d.1 (λ z. apart.0 (subst (λ q. In q (pages ds)) (sym z) (In_pages d ds k))) in
      ap (λ (u : Bool). (u && not (same_bound same e.0 lo)) || list_any (λ e. (e.1 == d.1) && not (same_bound same e.0 lo)) ds) f
      ∙ one_separator same lo d ds apart.1 k
]
  where
    In_pages : (d : Downlink S) (ds : List (Downlink S)) → In d ds → In d.1 (pages ds)
    In_pages d [] h = absurd h
    In_pages d (e ∷ ds) h = elim h [ inl is ↦ inl (ap (λ (z : Downlink S). z.1) is) | inr k ↦ inr (In_pages d ds k) ]

    none : (ds : List (Downlink S)) → (In d.1 (pages ds) → ⊥) → list_any (λ e. (e.1 == d.1) && not (same_bound same e.0 lo)) ds ≡ false
    none [] out = refl
    none (e ∷ ds) out =
        ap (λ (u : Bool). (u && not (same_bound same e.0 lo)) || list_any (λ e. (e.1 == d.1) && not (same_bound same e.0 lo)) ds) (ne_eqb e.1 d.1 (λ z. out (inl (sym z)))) ∙ none ds (λ k. out (inr k))

-- How many pages stand below a level.
use Rattle.std.proofs.Common.{◌≡◌, ℕ, suc, ◌+◌, ◌<◌, ◌≤◌, ◌⊎◌, inl, inr, true, false, List, [], ◌∷◌, ◌++◌, length, refl, sym, ap, ◌∙◌, subst, arith}
use Rattle.std.specs.Prelude.{Bool, nat_lt, not}
use Rattle.std.specs.List.{filter}
use Rattle.std.proofs.lemmas.Bool.{and_from, and_parts, cases_Bool, cond-false, cond-true, lt-ltb, ltb-true, not_from_false}
use Rattle.std.proofs.lemmas.List.{length-append}
use Rattle.laws_search.specs.Search.{tree_blocks}
use Rattle.laws_search.specs.Tree.{Index}
use Rattle.laws_search.proofs.Gather.{block_in, block_of, blocks_apart}
use Rattle.laws_search.proofs.Lists.{Each, Each-from_in, Each-in, In, In-cases, NoRepeats, NoRepeats-append, length-no_repeats}
use Rattle.laws_levels.proofs.Meets.{In_filter, NoRepeats-filter}
use Rattle.bt_level_check.specs.Budget.{is_page_below, pages_below}
use Rattle.bt_level_check.specs.Reading.{IsOfLevel}

-- A LIST WITHOUT REPEATS IS NO LONGER THAN ONE THAT HAS ALL ITS MEMBERS

-- all but x
record Without {X : Type 0} (x : X) (ys zs : List X) : Type 0 where
  long : length ys ≡ suc (length zs)
  rest : (y : X) → In y ys → (y ≡ x) ⊎ In y zs

without : {X : Type 0} (x : X) (ys : List X) → In x ys → (zs : List X) × Without x ys zs
without x [] h = absurd h
without x (y ∷ ys) h = elim h [
  | inl e ↦ (ys, record { long = refl; rest = λ z k. elim k [ inl f ↦ inl (f ∙ sym e) | inr j ↦ inr j ] })
  | inr i ↦
      let r = without x ys i in (
        y ∷ r.0,
        record {
          long = ap suc r.1.long;
          rest = λ z k. elim k [
            | inl f ↦ inr (inl f)
            | inr j ↦ elim (r.1.rest z j) [ inl e ↦ inl e | inr m ↦ inr (inr m) ]
          ];
        },
      )
]

length-within : {X : Type 0} (xs ys : List X) → NoRepeats xs → ((x : X) → In x xs → In x ys) → length xs ≤ length ys
length-within [] ys apart all = omega arith
length-within {X} (x ∷ xs) ys apart all =
    let r = without x ys (all x (inl refl)) in
    let others : (y : X) → In y xs → In y r.0 = λ y h. elim (r.1.rest y (all y (inr h))) [
      | inl e ↦ absurd (apart.0 (subst (λ z. In z xs) e h))
      | inr k ↦ k
    ] in
    let ih = length-within xs r.0 apart.1 others in
    let long = r.1.long in
    omega (arith, ih, long)

In-filter : {X : Type 0} (p : X → Bool) (y : X) (c : List X) → In y c → p y ≡ true → In y (filter p c)
In-filter p y [] h t = absurd h
In-filter p y (b ∷ c) h t = elim (cases_Bool (p b)) [
  | inl u ↦ subst (In y) (sym (cond-true (p b) (b ∷ filter p c) (filter p c) u)) (elim h [ inl e ↦ inl e | inr k ↦ inr (In-filter p y c k t) ])
  | inr f ↦ subst (In y) (sym (cond-false (p b) (b ∷ filter p c) (filter p c) f)) (elim h [
    | inl e ↦ absurd (let clash : true ≡ false = sym t ∙ ap p e ∙ f in cc)
    | inr k ↦ In-filter p y c k t
  ])
]

-- PAGES BELOW A LEVEL

module _ {S E : Type 0} (x : Index S E) where
  abbrev below : ℕ → List ℕ
  below level = filter (is_page_below x level) (tree_blocks x.blocks)

  is_below : (level b : ℕ) → IsOfLevel x level b → is_page_below x (suc level) b ≡ true
  is_below level b of_level =
      let at = of_level.1 in
      and_from (not (x.page b).idle) (nat_lt (x.page b).level (suc level)) (not_from_false (x.page b).idle of_level.0.used) (lt-ltb (x.page b).level (suc level) (omega (arith, at)))

  more_below : (level b : ℕ) → is_page_below x level b ≡ true → is_page_below x (suc level) b ≡ true
  more_below level b h =
      let parts = and_parts (not (x.page b).idle) (nat_lt (x.page b).level level) h in
      let lt = ltb-true (x.page b).level level parts.1 in
      and_from (not (x.page b).idle) (nat_lt (x.page b).level (suc level)) parts.0 (lt-ltb (x.page b).level (suc level) (omega (arith, lt)))

  -- those of one level, and all below it
  pub level_and_below : (level : ℕ) (c : List ℕ) → NoRepeats c → Each (IsOfLevel x level) c → length c + pages_below x level ≤ pages_below x (suc level)
  unfolding pages_below
  level_and_below level c apart of_level =
      let apart_all : NoRepeats (c ++ below level) = NoRepeats-append c (below level) apart (NoRepeats-filter (is_page_below x level) (tree_blocks x.blocks) (blocks_apart x.blocks)) other in
      let most = length-within (c ++ below level) (below (suc level)) apart_all all in
      let sum = length-append c (below level) in
      omega (arith, most, sum)
    where
      other : (b : ℕ) → In b c → In b (below level) → ⊥
      other b h k =
          let here = (Each-in (IsOfLevel x level) b c of_level h).1 in
          let parts = and_parts (not (x.page b).idle) (nat_lt (x.page b).level level) (In_filter (is_page_below x level) b (tree_blocks x.blocks) k).1 in
          let lt = ltb-true (x.page b).level level parts.1 in
          absurd (omega (arith, here, lt))

      all : (b : ℕ) → In b (c ++ below level) → In b (below (suc level))
      all b h = elim (In-cases b c (below level) h) [
        | inl k ↦
            let at = Each-in (IsOfLevel x level) b c of_level k in
            In-filter (is_page_below x (suc level)) b (tree_blocks x.blocks) (block_in x.blocks b at.0.not_meta at.0.inside) (is_below level b at)
        | inr k ↦
            let r = In_filter (is_page_below x level) b (tree_blocks x.blocks) k in
            In-filter (is_page_below x (suc level)) b (tree_blocks x.blocks) r.0 (more_below level b r.1)
      ]

  -- they are no more than there are blocks
  pub few_below : (level : ℕ) → pages_below x level ≤ x.blocks
  unfolding pages_below
  few_below level =
      length-no_repeats x.blocks (below level) (NoRepeats-filter (is_page_below x level) (tree_blocks x.blocks) (blocks_apart x.blocks))
      (Each-from_in (λ b. b < x.blocks) (below level) (λ b h. (block_of x.blocks b (In_filter (is_page_below x level) b (tree_blocks x.blocks) h).0).1))

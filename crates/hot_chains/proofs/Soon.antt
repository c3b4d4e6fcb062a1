-- A root reaches an item by no more steps than the page has tuples.
use Rattle.std.proofs.Common.{◌≡◌, ◌≢◌, ℕ, zero, suc, ◌+◌, ◌-◌, ◌<◌, ◌≤◌, ◌⊎◌, inl, inr, Bool, true, List, [], ◌∷◌, length, get_or, refl, sym, subst, ap, ◌∙◌, arith}
use Rattle.std.specs.Prelude.{if◌then◌else◌, nat_lt}
use Rattle.std.specs.List.{count_by}
use Rattle.std.proofs.lemmas.Bool.{and_parts, cases_eq, cases_lt, cases_order, cond-true, cond-false, le-ltb, lt-ltb, ne_eqb}
use Rattle.std.proofs.lemmas.List.Sums.{sum_by-cons}
use Rattle.liveness.specs.declared.states.ItemState.{ItemState}
use Rattle.liveness.specs.declared.states.ItemState.TheVariants.{Unused, Dead, Redirect, Tuple}
use Rattle.hot_chains.specs.Chains.{item_at, after, is_heap_only_tuple, is_tuple, is_tuple_of, step_of, steps, Comes, Reaches}
use Rattle.hot_chains.specs.Sentences.{ComesSoon}
use Rattle.hot_chains.proofs.Stepping.{after_from_Comes, Comes_from_after, item_at-past}
use Rattle.hot_chains.proofs.Whole.{reached_item}

-- AMONG MORE PLACES THAN THERE ARE, TWO ARE ONE

-- a place of a zero below k, or none
zero_below : (f : ℕ → ℕ) (k : ℕ) → ((m : ℕ) × ((m < k) × (f m ≡ 0))) ⊎ ((m : ℕ) → m < k → f m ≢ 0)
zero_below f zero = inr (λ m below. absurd (omega arith))
zero_below f (suc k) = elim (zero_below f k) [
  | inl found ↦ inl (found.0, ((let a = found.1.0 in omega (arith, a)), found.1.1))
  | inr none ↦ elim (cases_eq (f k) 0) [
    | inl z ↦ inl (k, (omega arith, z))
    | inr some ↦ inr (λ m below. elim (cases_eq m k) [
      | inl e ↦ let P : ℕ → Type 0 = λ l. f l ≢ 0 in subst P (sym e) some
      | inr other ↦ none m (omega arith)
    ])
  ]
]

-- the numbers without m, in order
without : ℕ → ℕ → ℕ
without m n = if nat_lt n m then n else n + 1

without-low : (m n : ℕ) → n < m → without m n ≡ n
unfolding without
without-low m n below = cond-true (nat_lt n m) n (n + 1) (lt-ltb n m below)

without-high : (m n : ℕ) → m ≤ n → without m n ≡ n + 1
unfolding without
without-high m n above = cond-false (nat_lt n m) n (n + 1) (le-ltb n m above)

without_other : (m n : ℕ) → without m n ≢ m
without_other m n same = elim (cases_lt n m) [
  | inl below ↦ let e = without-low m n below in omega (arith, below, e, same)
  | inr above ↦ let e = without-high m n above in omega (arith, above, e, same)
]

without_below : (m n k : ℕ) → m < k → n < k - 1 → without m n < k
without_below m n k inside near = elim (cases_lt n m) [
  | inl below ↦ let e = without-low m n below in omega (arith, below, e)
  | inr above ↦ let e = without-high m n above in omega (arith, above, e)
]

without_rises : (m a b : ℕ) → a < b → without m a < without m b
without_rises m a b less = elim (cases_lt a m) [
  | inl low ↦ let e = without-low m a low in elim (cases_lt b m) [
    | inl low_too ↦ let f = without-low m b low_too in omega (arith, e, f, less)
    | inr high ↦ let f = without-high m b high in omega (arith, e, f, less)
  ]
  | inr high ↦ let e = without-high m a high in let f = without-high m b (omega arith) in omega (arith, e, f, less)
]

-- two numbers below k at which f is the same
record Repeat (f : ℕ → ℕ) (k : ℕ) : Type 0 where
  pub earlier : ℕ
  pub later : ℕ
  pub rises : earlier < later
  pub below : later < k
  pub same : f earlier ≡ f later

repeat_of : (f : ℕ → ℕ) (k a b : ℕ) → a ≢ b → a < k → b < k → f a ≡ f b → Repeat f k
repeat_of f k a b differ a_below b_below same = elim (cases_order a b) [
  | inl e ↦ absurd (differ e)
  | inr other ↦ elim other [
    | inl less ↦ record { earlier = a; later = b; rises = less; below = b_below; same = same }
    | inr more ↦ record { earlier = b; later = a; rises = more; below = a_below; same = sym same }
  ]
]

from_lower : (a b : ℕ) → a ≢ 0 → b ≢ 0 → a - 1 ≡ b - 1 → a ≡ b
from_lower a b some_a some_b e = omega arith

get_or-next : {X : Type 0} (x : X) (xs : List X) (d : X) (n : ℕ) → n ≢ 0 → get_or (x ∷ xs) n d ≡ get_or xs (n - 1) d
get_or-next x xs d zero some = absurd (some refl)
get_or-next x xs d (suc n) some = let e : suc n - 1 ≡ n = omega arith in ap (λ k. get_or xs k d) (sym e)

module _ {X : Type 0} (test : X → Bool) (d : X) where
  -- f names only members that pass
  abbrev Hits : List X → (ℕ → ℕ) → ℕ → Type 0
  Hits xs f k = (m : ℕ) → m < k → (f m < length xs) × (test (get_or xs (f m) d) ≡ true)

  hits_rest : (x : X) (xs : List X) (f : ℕ → ℕ) (k : ℕ) → Hits (x ∷ xs) f k → ((m : ℕ) → m < k → f m ≢ 0) → Hits xs (λ m. f m - 1) k
  hits_rest x xs f k hits some m below =
      let h = hits m below in
      let s = some m below in
      let P : X → Type 0 = λ y. test y ≡ true in
      ((let a : f m < length (x ∷ xs) = h.0 in omega (arith, a, s)), subst P (get_or-next x xs d (f m) s) h.1)

  count-yes : (x : X) (xs : List X) → test x ≡ true → count_by test (x ∷ xs) ≡ 1 + count_by test xs
  count-yes x xs e = sum_by-cons (λ y. if test y then 1 else 0) x xs ∙ ap (λ n. n + count_by test xs) (cond-true (test x) 1 0 e)

  count-more : (x : X) (xs : List X) → count_by test xs ≤ count_by test (x ∷ xs)
  count-more x xs = let e = sum_by-cons (λ y. if test y then 1 else 0) x xs in omega (arith, e)

  pigeonhole : (xs : List X) (k : ℕ) (f : ℕ → ℕ) → Hits xs f k → count_by test xs < k → Repeat f k
  pigeonhole [] k f hits few = let h = hits 0 (omega (arith, few)) in absurd (let a = h.0 in omega (arith, a))
  pigeonhole (x ∷ xs) k f hits few = elim (zero_below f k) [
    | inr none ↦
        let r = pigeonhole xs k (λ m. f m - 1) (hits_rest x xs f k hits none) (let a = count-more x xs in omega (arith, a, few)) in
        repeat_of f k r.earlier r.later (let a = r.rises in λ e. absurd (omega (arith, a, e))) (let a = r.rises in let b = r.below in omega (arith, a, b)) r.below
        (from_lower (f r.earlier) (f r.later) (none r.earlier (let a = r.rises in let b = r.below in omega (arith, a, b))) (none r.later r.below) r.same)
    | inl found ↦
        let m = found.0 in
        let inside : m < k = found.1.0 in
        let others : Hits (x ∷ xs) (λ n. f (without m n)) (k - 1) = λ n near. hits (without m n) (without_below m n k inside near) in
        elim (zero_below (λ n. f (without m n)) (k - 1)) [
          | inl again ↦ repeat_of f k m (without m again.0) (λ e. without_other m again.0 (sym e)) inside (without_below m again.0 k inside again.1.0) (found.1.1 ∙ sym again.1.1)
          | inr none ↦
              let P : ℕ → Type 0 = λ n. test (get_or (x ∷ xs) n d) ≡ true in
              let yes : test x ≡ true = subst P found.1.1 (hits m inside).1 in
              let c = count-yes x xs yes in
              let r = pigeonhole xs (k - 1) (λ n. f (without m n) - 1) (hits_rest x xs (λ n. f (without m n)) (k - 1) others none) (omega (arith, c, few)) in
              let near : r.earlier < k - 1 = (let a = r.rises in let b = r.below in omega (arith, a, b)) in
              record {
                earlier = without m r.earlier;
                later = without m r.later;
                rises = without_rises m r.earlier r.later r.rises;
                below = without_below m r.later k inside r.below;
                same = from_lower (f (without m r.earlier)) (f (without m r.later)) (none r.earlier near) (none r.later r.below) r.same;
              }
        ]
  ]

-- EACH STEP LEADS TO A TUPLE

tuple_from_heap_only : (item : ItemState) → is_heap_only_tuple item ≡ true → is_tuple item ≡ true
tuple_from_heap_only (Tuple head judged) e = refl
tuple_from_heap_only Unused e = absurd cc
tuple_from_heap_only Dead e = absurd cc
tuple_from_heap_only (Redirect target) e = absurd cc

tuple_from_inserter : (x : ℕ) (item : ItemState) → is_tuple_of x item ≡ true → is_tuple item ≡ true
tuple_from_inserter x (Tuple head judged) e = refl
tuple_from_inserter x Unused e = absurd cc
tuple_from_inserter x Dead e = absurd cc
tuple_from_inserter x (Redirect target) e = absurd cc

stepped_is_tuple : (block i : ℕ) (from : ItemState) (j : ℕ) (to : ItemState) → steps block i from j to ≡ true → is_tuple to ≡ true
stepped_is_tuple block i (Redirect target) j to s = tuple_from_heap_only to (and_parts _ _ s).0
stepped_is_tuple block i (Tuple head judged) j to s =
    tuple_from_inserter judged.update to (and_parts _ _ (and_parts _ _ (and_parts _ _ (and_parts _ _ (and_parts _ _ (and_parts _ _ s).0).0).0).0).0).0
stepped_is_tuple block i Unused j to s = absurd cc
stepped_is_tuple block i Dead j to s = absurd cc

after-add : (step : ℕ → ℕ) (r m k : ℕ) → after step r (m + k) ≡ after step (after step r m) k
unfolding after
after-add step r m zero = let e : m + 0 ≡ m = omega arith in ap (after step r) e
after-add step r m (suc k) = let e : m + suc k ≡ suc (m + k) = omega arith in ap (after step r) e ∙ ap step (after-add step r m k)

module _ (block : ℕ) (items : List ItemState) (r : ℕ) where
  tuples_after : (k i : ℕ) → Comes block items r k i → (m : ℕ) → m < k → is_tuple (item_at items (after (step_of block items) r (m + 1))) ≡ true
  tuples_after zero i c m below = absurd (omega arith)
  tuples_after (suc k) i (p, (c, s)) m below = elim (cases_eq m k) [
    | inl e ↦
        let last : after (step_of block items) r (suc k) ≡ i = after_from_Comes block items r (suc k) i (p, (c, s)) in
        let at : m + 1 ≡ suc k = omega arith in
        let P : ℕ → Type 0 = λ j. is_tuple (item_at items j) ≡ true in
        subst P (sym (ap (after (step_of block items) r) at ∙ last)) (stepped_is_tuple block p (item_at items p) i (item_at items i) s)
    | inr ne ↦ tuples_after k p c m (omega arith)
  ]

  not_unused : (j : ℕ) → is_tuple (item_at items j) ≡ true → item_at items j ≡ Unused → ⊥
  not_unused j e none = let P : ItemState → Type 0 = λ item. is_tuple item ≡ true in let f : is_tuple Unused ≡ true = subst P none e in absurd cc

  place_of : (j : ℕ) → is_tuple (item_at items j) ≡ true → (j ≢ 0) × ((j - 1 < length items) × (is_tuple (get_or items (j - 1) Unused) ≡ true))
  unfolding item_at
  place_of j e =
      let some : j ≢ 0 = λ z. not_unused j e (item_at-past items j (inl z)) in
      let P : ItemState → Type 0 = λ item. is_tuple item ≡ true in (
        some,
        (
          elim (cases_lt (length items) j) [ inl far ↦ absurd (not_unused j e (item_at-past items j (inr far))) | inr near ↦ omega arith ],
          subst P (cond-false _ _ _ (ne_eqb j 0 some)) e,
        ),
      )

  shorter : (k i : ℕ) → i ≢ 0 → Comes block items r k i → count_by is_tuple items < k → (l : ℕ) × ((l < k) × Comes block items r l i)
  shorter k i some c many =
      let step = step_of block items in
      let tuple = λ (m : ℕ) (below : m < k). place_of (after step r (m + 1)) (tuples_after k i c m below) in
      let rep = pigeonhole is_tuple Unused items k (λ m. after step r (m + 1) - 1) (λ m below. (tuple m below).1) many in
      let a = rep.earlier in
      let b = rep.later in
      let rises : a < b = rep.rises in
      let below : b < k = rep.below in
      let same : after step r (a + 1) ≡ after step r (b + 1) = from_lower (after step r (a + 1)) (after step r (b + 1)) (tuple a (omega arith)).0 (tuple b below).0 rep.same in
      let rest = k - (b + 1) in
      let l = a + 1 + rest in
      let whole : b + 1 + rest ≡ k = omega arith in
      let there : after step r l ≡ i =
      after-add step r (a + 1) rest ∙ ap (λ j. after step j rest) same ∙ sym (after-add step r (b + 1) rest) ∙ ap (after step r) whole ∙ after_from_Comes block items r k i c in
      (l, (omega arith, Comes_from_after block items r l i some there))

  few_steps : (fuel k i : ℕ) → k ≤ fuel → i ≢ 0 → Comes block items r k i → (l : ℕ) × ((l ≤ count_by is_tuple items) × Comes block items r l i)
  few_steps zero k i less some c = (k, (omega arith, c))
  few_steps (suc fuel) k i less some c = elim (cases_lt (count_by is_tuple items) k) [
    | inr few ↦ (k, (few, c))
    | inl many ↦ let s = shorter k i some c many in few_steps fuel s.0 i (let a = s.1.0 in omega (arith, a)) some s.1.1
  ]

pub reaches_soon : (block : ℕ) (items : List ItemState) (r i : ℕ) → Reaches block items r i → ComesSoon block items r i
reaches_soon block items r i reach = few_steps block items r reach.1.0 reach.1.0 i (omega arith) (reached_item block items r i reach) reach.1.1

-- The entries of an index are those of all rows, in order.
use Rattle.std.proofs.Common.{◌≡◌, ◌<◌, ◌+◌, ◌/◌, ◌%◌, ◌==◌, ◌&&◌, ◌||◌, nat_lt, ℕ, zero, suc, List, [], ◌∷◌, ◌++◌, length, Bool, true, false, cond, get_or, refl, ap, sym, ◌∙◌, arith, inl, inr, ◌⊎◌, eq-eqb, lt-ltb, le-ltb, subst, add-one}
use Rattle.std.specs.Prelude.{AllPairs, filter}
use Rattle.std.specs.List.{AllByRecursion}
use Rattle.std.specs.List.Sorted.{IsPermutation}
use Rattle.std.specs.declared.cmp.Ordering.{Ordering}
use Rattle.std.specs.Ordering.{is_lt, nat_cmp, ordering_then}
use Rattle.std.proofs.lemmas.Bool.{cases_order, cond-false, cond-true, eqb-true, ne_eqb}
use Rattle.std.proofs.lemmas.List.Elements.{recursion_from_All}
use Rattle.std.proofs.lemmas.List.Sorted.{IsPermutation-append_left, IsPermutation-cons, IsPermutation-middle, IsPermutation-refl, IsPermutation-sym, IsPermutation-trans}
use Rattle.outside.specs.Adds.{each_below, one_list}
use Rattle.key_orders.specs.Keys.{tid_order}
use Rattle.rel_build.specs.declared.rows.Row.{Row}
use Rattle.rel_build.specs.declared.trees.Key.{Key}
use Rattle.rel_build.specs.declared.trees.Key.TheVariants.{Group, Id}
use Rattle.rel_build.specs.Rows.{row_number, rows_below, tid_of}
use Rattle.rel_build.specs.Trees.{IsBelow, in_order, is_below, rows_of_group}
use Rattle.rel_build.proofs.Groups.{all_under, rows_under}
use Rattle.rel_build.proofs.Parts.{groups_small}

-- Each once

clash : true ≡ false → ⊥
clash e = cc

-- the lowest row is among those under n, among those of n, or among neither
moved : (a b c : Bool) (x : Row) (more under same : List Row) → IsPermutation more (under ++ same)
    → ((a ≡ true) × (b ≡ true) × (c ≡ false)) ⊎ ((a ≡ true) × (b ≡ false) × (c ≡ true)) ⊎ ((a ≡ false) × (b ≡ false) × (c ≡ false))
    → IsPermutation (cond a (x ∷ more) more) (cond b (x ∷ under) under ++ cond c (x ∷ same) same)
moved true true false x more under same h at = IsPermutation-cons x more (under ++ same) h
moved true false true x more under same h at =
    IsPermutation-trans (x ∷ more) (x ∷ (under ++ same)) (under ++ x ∷ same) (IsPermutation-cons x more (under ++ same) h)
    (IsPermutation-sym (under ++ x ∷ same) (x ∷ (under ++ same)) (IsPermutation-middle under x same))
moved false false false x more under same h at = h
moved true true true x more under same h at = absurd (elim at [ inl p ↦ clash p.2 | inr q ↦ elim q [ inl p ↦ clash p.1 | inr p ↦ clash p.0 ] ])
moved true false false x more under same h at = absurd (elim at [ inl p ↦ clash (sym p.1) | inr q ↦ elim q [ inl p ↦ clash (sym p.2) | inr p ↦ clash p.0 ] ])
moved false true c x more under same h at = absurd (elim at [ inl p ↦ clash (sym p.0) | inr q ↦ elim q [ inl p ↦ clash (sym p.0) | inr p ↦ clash p.1 ] ])
moved false false true x more under same h at = absurd (elim at [ inl p ↦ clash (sym p.0) | inr q ↦ elim q [ inl p ↦ clash (sym p.0) | inr p ↦ clash p.2 ] ])

placed : (n k : ℕ) → ((nat_lt k (n + 1) ≡ true) × (nat_lt k n ≡ true) × ((k == n) ≡ false))
    ⊎ ((nat_lt k (n + 1) ≡ true) × (nat_lt k n ≡ false) × ((k == n) ≡ true))
    ⊎ ((nat_lt k (n + 1) ≡ false) × (nat_lt k n ≡ false) × ((k == n) ≡ false))
placed n k = elim (cases_order k n) [
  | inl same ↦ inr (inl (lt-ltb k (n + 1) (omega (arith, same)), le-ltb k n (omega (arith, same)), eq-eqb k n same))
  | inr apart ↦ elim apart [
    | inl below ↦ inl (lt-ltb k (n + 1) (omega (arith, below)), lt-ltb k n below, ne_eqb k n (λ e. omega (arith, below, e)))
    | inr above ↦ inr (inr (le-ltb k (n + 1) (omega (arith, above)), le-ltb k n (omega (arith, above)), ne_eqb k n (λ e. omega (arith, above, e))))
  ]
]

next_under : (n : ℕ) (xs : List Row) → IsPermutation (rows_under xs (n + 1)) (rows_under xs n ++ rows_of_group xs n)
next_under n [] = IsPermutation-refl []
next_under n (x ∷ xs) =
    moved (nat_lt x.group (n + 1)) (nat_lt x.group n) (x.group == n) x (rows_under xs (n + 1)) (rows_under xs n) (rows_of_group xs n)
    (next_under n xs) (placed n x.group)

none_under : (xs : List Row) → rows_under xs 0 ≡ []
none_under [] = refl
none_under (x ∷ xs) = cond-false _ _ _ (le-ltb x.group 0 (omega arith)) ∙ none_under xs

by_groups : (xs : List Row) (n : ℕ) → IsPermutation (rows_under xs n) (each_below one_list (rows_of_group xs) n)
unfolding each_below
by_groups xs zero = subst (λ (ys : List Row). IsPermutation ys []) (sym (none_under xs)) (IsPermutation-refl [])
by_groups xs (suc n) =
    IsPermutation-trans (rows_under xs (suc n)) (rows_under xs n ++ rows_of_group xs n) (each_below one_list (rows_of_group xs) n ++ rows_of_group xs n)
    (subst (λ (k : ℕ). IsPermutation (rows_under xs k) (rows_under xs n ++ rows_of_group xs n)) (add-one n) (next_under n xs))
    (IsPermutation-append_left (rows_of_group xs n) (rows_under xs n) (each_below one_list (rows_of_group xs) n) (by_groups xs n))

pub each_once : (key : Key) (seed count : ℕ) → IsPermutation (rows_below seed count) (in_order key (rows_below seed count))
unfolding in_order
each_once Id seed count = IsPermutation-refl (rows_below seed count)
each_once Group seed count =
    let rows = rows_below seed count in
    let small = recursion_from_All (λ (row : Row). row.group < 100) rows (groups_small seed count) in
    subst (λ (ys : List Row). IsPermutation ys (each_below one_list (rows_of_group rows) 100)) (all_under 100 rows small) (by_groups rows 100)

-- In order

-- each is below all after it
abbrev pub RisesBy : (Row → Row → Type 0) → List Row → Type 0
RisesBy R [] = Unit {0}
RisesBy R (x ∷ xs) = AllByRecursion (R x) xs × RisesBy R xs

module _ (P Q : Row → Type 0) where
  all_weaker : ((x : Row) → P x → Q x) → (xs : List Row) → AllByRecursion P xs → AllByRecursion Q xs
  all_weaker f [] h = tt
  all_weaker f (x ∷ xs) h = (f x h.0, all_weaker f xs h.1)

all_append : (P : Row → Type 0) (xs ys : List Row) → AllByRecursion P xs → AllByRecursion P ys → AllByRecursion P (xs ++ ys)
all_append P [] ys h g = g
all_append P (x ∷ xs) ys h g = (h.0, all_append P xs ys h.1 g)

all_kept : (P : Row → Type 0) (b : Bool) (x : Row) (xs : List Row) → P x → AllByRecursion P xs → AllByRecursion P (cond b (x ∷ xs) xs)
all_kept P true x xs p h = (p, h)
all_kept P false x xs p h = h

all_filter : (P : Row → Type 0) (p : Row → Bool) (xs : List Row) → AllByRecursion P xs → AllByRecursion P (filter p xs)
all_filter P p [] h = tt
all_filter P p (x ∷ xs) h = all_kept P (p x) x (filter p xs) h.0 (all_filter P p xs h.1)

rises_kept : (R : Row → Row → Type 0) (b : Bool) (x : Row) (xs : List Row) → AllByRecursion (R x) xs → RisesBy R xs → RisesBy R (cond b (x ∷ xs) xs)
rises_kept R true x xs p h = (p, h)
rises_kept R false x xs p h = h

rises_filter : (R : Row → Row → Type 0) (p : Row → Bool) (xs : List Row) → RisesBy R xs → RisesBy R (filter p xs)
rises_filter R p [] h = tt
rises_filter R p (x ∷ xs) h = rises_kept R (p x) x (filter p xs) (all_filter (R x) p xs h.0) (rises_filter R p xs h.1)

rises_append : (R : Row → Row → Type 0) (xs ys : List Row) → RisesBy R xs → RisesBy R ys
    → AllByRecursion (λ (x : Row). AllByRecursion (R x) ys) xs → RisesBy R (xs ++ ys)
rises_append R [] ys h g all = g
rises_append R (x ∷ xs) ys h g all = (all_append (R x) xs ys h.0 all.0, rises_append R xs ys h.1 g all.1)

rises_weaker : (R S : Row → Row → Type 0) → ((x y : Row) → R x y → S x y) → (xs : List Row) → RisesBy R xs → RisesBy S xs
rises_weaker R S f [] h = tt
rises_weaker R S f (x ∷ xs) h = (all_weaker (R x) (S x) (f x) xs h.0, rises_weaker R S f xs h.1)

-- by places
all_at : (P : Row → Type 0) (xs : List Row) (k : ℕ) (d : Row) → AllByRecursion P xs → k < length xs → P (get_or xs k d)
all_at P [] k d h lt = absurd (omega (arith, lt))
all_at P (x ∷ xs) zero d h lt = h.0
all_at P (x ∷ xs) (suc k) d h lt = all_at P xs k d h.1 (omega (arith, lt))

pairs_of : (R : Row → Row → Type 0) (xs : List Row) → RisesBy R xs → AllPairs R xs
pairs_of R [] h i j d lt within = absurd (omega (arith, within))
pairs_of R (x ∷ xs) h zero zero d lt within = absurd (omega (arith, lt))
pairs_of R (x ∷ xs) h zero (suc j) d lt within = all_at (R x) xs j d h.0 (omega (arith, within))
pairs_of R (x ∷ xs) h (suc i) zero d lt within = absurd (omega (arith, lt))
pairs_of R (x ∷ xs) h (suc i) (suc j) d lt within = pairs_of R xs h.1 i j d (omega (arith, lt)) (omega (arith, within))

abbrev IdBelow : Row → Row → Type 0
IdBelow a b = a.id < b.id

-- the ids of the first rows
ids_under : (seed n : ℕ) → AllByRecursion (λ (row : Row). row.id < n) (rows_below seed n)
unfolding rows_below row_number
ids_under seed zero = tt
ids_under seed (suc n) =
    all_append (λ (row : Row). row.id < suc n) (rows_below seed n) (row_number seed n ∷ [])
    (all_weaker (λ (row : Row). row.id < n) (λ (row : Row). row.id < suc n) (λ row lt. omega (arith, lt)) (rows_below seed n) (ids_under seed n))
    (omega arith, tt)

ids_rise : (seed n : ℕ) → RisesBy IdBelow (rows_below seed n)
unfolding rows_below row_number
ids_rise seed zero = tt
ids_rise seed (suc n) =
    rises_append IdBelow (rows_below seed n) (row_number seed n ∷ []) (ids_rise seed n) (tt, tt)
    (all_weaker (λ (row : Row). row.id < n) (λ (row : Row). AllByRecursion (IdBelow row) (row_number seed n ∷ [])) (λ row lt. (lt, tt)) (rows_below seed n) (ids_under seed n))

-- the order of two numbers, and then of two others
lower_first : (p q r s : ℕ) → (p < q) ⊎ ((p ≡ q) × (r < s)) → is_lt (ordering_then (nat_cmp p q) (nat_cmp r s)) ≡ true
lower_first p q r s (inl lt) = ap (λ (o : Ordering). is_lt (ordering_then o (nat_cmp r s))) (cond-true _ _ _ (lt-ltb p q lt))
lower_first p q r s (inr (same, lt)) =
    ap (λ (o : Ordering). is_lt (ordering_then o (nat_cmp r s)))
    (cond-false _ _ _ (le-ltb p q (omega (arith, same))) ∙ cond-true _ _ _ (eq-eqb p q same))
    ∙ ap is_lt (cond-true _ _ _ (lt-ltb r s lt))

-- a row of a lower number has a lower TID
tid_rises : (a b : Row) → a.id < b.id → is_lt (tid_order (tid_of a) (tid_of b)) ≡ true
tid_rises a b lt =
    lower_first (a.id / 185) (b.id / 185) (a.id % 185 + 1) (b.id % 185 + 1) (elim (cases_order (a.id / 185) (b.id / 185)) [
      | inl same ↦ inr (same, omega (arith, lt, same))
      | inr apart ↦ elim apart [ inl below ↦ inl below | inr above ↦ absurd (omega (arith, lt, above)) ]
    ])

below_id : (a b : Row) → a.id < b.id → IsBelow Id a b
unfolding is_below
below_id a b lt = ap (λ (x : Bool). x || ((a.id == b.id) && is_lt (tid_order (tid_of a) (tid_of b)))) (lt-ltb a.id b.id lt)

below_group : (a b : Row) → a.group < b.group → IsBelow Group a b
unfolding is_below
below_group a b lt = ap (λ (x : Bool). x || ((a.group == b.group) && is_lt (tid_order (tid_of a) (tid_of b)))) (lt-ltb a.group b.group lt)

below_in_group : (a b : Row) → a.group ≡ b.group → a.id < b.id → IsBelow Group a b
unfolding is_below
below_in_group a b same lt =
    λ i. (le-ltb a.group b.group (omega (arith, same))) i || ((eq-eqb a.group b.group same) i && (tid_rises a b lt) i)

kept_of : (b : Bool) (n : ℕ) (x : Row) (xs : List Row) → (b ≡ true → x.group ≡ n) → AllByRecursion (λ (row : Row). row.group ≡ n) xs
    → AllByRecursion (λ (row : Row). row.group ≡ n) (cond b (x ∷ xs) xs)
kept_of true n x xs is h = (is refl, h)
kept_of false n x xs is h = h

of_group : (n : ℕ) (xs : List Row) → AllByRecursion (λ (row : Row). row.group ≡ n) (rows_of_group xs n)
of_group n [] = tt
of_group n (x ∷ xs) = kept_of (x.group == n) n x (rows_of_group xs n) (λ e. eqb-true x.group n e) (of_group n xs)

both_all : (n : ℕ) (x : Row) (xs : List Row) → x.group ≡ n → AllByRecursion (λ (row : Row). row.group ≡ n) xs → AllByRecursion (IdBelow x) xs
    → AllByRecursion (IsBelow Group x) xs
both_all n x [] e of h = tt
both_all n x (y ∷ ys) e of h = (below_in_group x y (e ∙ sym of.0) h.0, both_all n x ys e of.1 h.1)

-- rows of one group with rising numbers
in_group : (n : ℕ) (xs : List Row) → AllByRecursion (λ (row : Row). row.group ≡ n) xs → RisesBy IdBelow xs → RisesBy (IsBelow Group) xs
in_group n [] of h = tt
in_group n (x ∷ xs) of h =
    (both_all n x xs of.0 of.1 h.0, in_group n xs of.1 h.1)

groups_rise : (xs : List Row) (n : ℕ) → RisesBy IdBelow xs
    → RisesBy (IsBelow Group) (each_below one_list (rows_of_group xs) n) × AllByRecursion (λ (row : Row). row.group < n) (each_below one_list (rows_of_group xs) n)
unfolding each_below
groups_rise xs zero h = (tt, tt)
groups_rise xs (suc n) h =
    let before = groups_rise xs n h in
    let front = each_below one_list (rows_of_group xs) n in
    let part = rows_of_group xs n in
    let of = of_group n xs in (
      rises_append (IsBelow Group) front part before.0 (in_group n part of (rises_filter IdBelow (λ (row : Row). row.group == n) xs h))
          (all_weaker (λ (row : Row). row.group < n) (λ (row : Row). AllByRecursion (IsBelow Group row) part)
          (λ a lt. all_weaker (λ (row : Row). row.group ≡ n) (IsBelow Group a) (λ b e. below_group a b (omega (arith, lt, e))) part of) front before.1),
      all_append (λ (row : Row). row.group < suc n) front part
          (all_weaker (λ (row : Row). row.group < n) (λ (row : Row). row.group < suc n) (λ a lt. omega (arith, lt)) front before.1)
          (all_weaker (λ (row : Row). row.group ≡ n) (λ (row : Row). row.group < suc n) (λ b e. omega (arith, e)) part of),
    )

pub all_rise : (key : Key) (seed count : ℕ) → AllPairs (IsBelow key) (in_order key (rows_below seed count))
unfolding in_order
all_rise Id seed count =
    pairs_of (IsBelow Id) (rows_below seed count) (rises_weaker IdBelow (IsBelow Id) below_id (rows_below seed count) (ids_rise seed count))
all_rise Group seed count =
    pairs_of (IsBelow Group) (each_below one_list (rows_of_group (rows_below seed count)) 100) (groups_rise (rows_below seed count) 100 (ids_rise seed count)).0

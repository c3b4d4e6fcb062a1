-- Rows that rise by their groups are those of each group, group by group.
use Rattle.std.proofs.Common.{◌≡◌, ◌≤◌, ◌<◌, ◌+◌, ℕ, zero, suc, List, [], ◌∷◌, ◌++◌, length, Bool, true, false, not, ◌&&◌, ◌==◌, nat_lt, cond, refl, ap, sym, ◌∙◌, arith, add-one, All, get_or, eq-eqb, le-ltb, lt-ltb, inl, inr, ◌⊎◌, subst}
use Rattle.std.proofs.lemmas.Bool.{cases_order, cond-false, cond-true, ne_eqb}
use Rattle.std.proofs.lemmas.Bool.Decides.{nat_tests}
use Rattle.std.proofs.lemmas.List.Elements.{recursion_from_All}
use Rattle.std.proofs.lemmas.List.Sorted.{All-permutation}
use Rattle.std.specs.Prelude.{filter}
use Rattle.std.specs.Ordering.{is_lt, nat_cmp}
use Rattle.std.specs.List.{AllByRecursion}
use Rattle.std.specs.List.Sorted.{IsNonDecreasingBy, IsPermutation, IsStableByKey, ties}
use Rattle.std.proofs.lemmas.List.Elements.{filter_agree}
use Rattle.outside.specs.Adds.{each_below, one_list}
use Rattle.rel_build.specs.declared.rows.Row.{Row}
use Rattle.rel_build.specs.declared.trees.Key.TheVariants.{Group}
use Rattle.rel_build.specs.Trees.{in_order, rows_of_group}

-- the rows of the groups below n
abbrev pub rows_under : List Row → ℕ → List Row
rows_under rows n = filter (λ (row : Row). nat_lt row.group n) rows

-- each row's group is at most that of any later one
abbrev pub Rises : List Row → Type 0
Rises [] = Unit {0}
Rises (x ∷ xs) = AllByRecursion (λ (y : Row). x.group ≤ y.group) xs × Rises xs

all_from : (n : ℕ) (xs : List Row) → ((k : ℕ) (d : Row) → k < length xs → n ≤ (get_or xs k d).group)
    → AllByRecursion (λ (y : Row). n ≤ y.group) xs
all_from n [] h = tt
all_from n (x ∷ xs) h = (h 0 x (omega arith), all_from n xs (λ k d lt. h (suc k) d (omega arith)))

rises_from : (xs : List Row) → IsNonDecreasingBy (λ (r : Row). r.group) xs → Rises xs
rises_from [] h = tt
rises_from (x ∷ xs) h = (
  all_from x.group xs (λ k d lt. h 0 (suc k) d (omega arith) (omega arith)),
  rises_from xs (λ i j d le lt. h (suc i) (suc j) d (omega arith) (omega arith)),
)

-- a test that is true or false
if_under : (b : Bool) (x : Row) (xs : List Row) → b ≡ false → cond b (x ∷ xs) xs ≡ xs
if_under b x xs e = cond-false _ _ _ e

-- no row is of a group below the lowest
none_under : (n : ℕ) (xs : List Row) → AllByRecursion (λ (y : Row). n ≤ y.group) xs → rows_under xs n ≡ []
none_under n [] h = refl
none_under n (x ∷ xs) h =
    let low : n ≤ x.group = h.0 in
    if_under (nat_lt x.group n) x (rows_under xs n) (le-ltb x.group n low) ∙ none_under n xs h.1

-- the lowest row is before those under n, is the first of those of n, or is among neither
step : (a b c : Bool) (x : Row) (more under same : List Row) → more ≡ under ++ same
    → ((a ≡ true) × (b ≡ true) × (c ≡ false)) ⊎ ((a ≡ true) × (b ≡ false) × (c ≡ true) × (under ≡ []))
    ⊎ ((a ≡ false) × (b ≡ false) × (c ≡ false))
    → cond a (x ∷ more) more ≡ cond b (x ∷ under) under ++ cond c (x ∷ same) same
step a b c x more under same e (inl (p, q, r)) =
    cond-true a (x ∷ more) more p ∙ ap (λ (z : List Row). x ∷ z) e
    ∙ sym (ap (λ (z : List Row). z ++ cond c (x ∷ same) same) (cond-true b (x ∷ under) under q) ∙ ap (λ (z : List Row). x ∷ under ++ z) (cond-false c (x ∷ same) same r))
step a b c x more under same e (inr (inl (p, q, r, none))) =
    cond-true a (x ∷ more) more p ∙ ap (λ (z : List Row). x ∷ z) (e ∙ ap (λ (z : List Row). z ++ same) none)
    ∙ sym (ap (λ (z : List Row). z ++ cond c (x ∷ same) same) (cond-false b (x ∷ under) under q ∙ none) ∙ cond-true c (x ∷ same) same r)
step a b c x more under same e (inr (inr (p, q, r))) =
    cond-false a (x ∷ more) more p ∙ e
    ∙ sym (ap (λ (z : List Row). z ++ cond c (x ∷ same) same) (cond-false b (x ∷ under) under q) ∙ ap (λ (z : List Row). under ++ z) (cond-false c (x ∷ same) same r))

-- a number is below another, it is that one, or it is above
placed : (n : ℕ) (x : Row) (xs : List Row) → AllByRecursion (λ (y : Row). x.group ≤ y.group) xs
    → ((nat_lt x.group (n + 1) ≡ true) × (nat_lt x.group n ≡ true) × ((x.group == n) ≡ false))
    ⊎ ((nat_lt x.group (n + 1) ≡ true) × (nat_lt x.group n ≡ false) × ((x.group == n) ≡ true) × (rows_under xs n ≡ []))
    ⊎ ((nat_lt x.group (n + 1) ≡ false) × (nat_lt x.group n ≡ false) × ((x.group == n) ≡ false))
placed n x xs h =
    elim (cases_order x.group n) [
      | inl same ↦ inr (inl (
        lt-ltb x.group (n + 1) (omega (arith, same)),
        le-ltb x.group n (omega (arith, same)),
        eq-eqb x.group n same,
        none_under n xs (subst (λ (k : ℕ). AllByRecursion (λ (y : Row). k ≤ y.group) xs) same h),
      ))
      | inr apart ↦ elim apart [
        | inl below ↦ inl (lt-ltb x.group (n + 1) (omega (arith, below)), lt-ltb x.group n below, ne_eqb x.group n (λ e. omega (arith, below, e)))
        | inr above ↦ inr (inr (le-ltb x.group (n + 1) (omega (arith, above)), le-ltb x.group n (omega (arith, above)), ne_eqb x.group n (λ e. omega (arith, above, e))))
      ]
    ]

-- the rows under n + 1 are those under n, and then those of n
next_under : (n : ℕ) (xs : List Row) → Rises xs → rows_under xs (n + 1) ≡ rows_under xs n ++ rows_of_group xs n
next_under n [] h = refl
next_under n (x ∷ xs) h = step (nat_lt x.group (n + 1)) (nat_lt x.group n) (x.group == n) x (rows_under xs (n + 1)) (rows_under xs n) (rows_of_group xs n)
    (next_under n xs h.1) (placed n x xs h.0)

groups_are : (xs : List Row) (n : ℕ) → Rises xs → each_below one_list (rows_of_group xs) n ≡ rows_under xs n
unfolding each_below
groups_are xs zero h = sym (none_under 0 xs (all_from 0 xs (λ k d lt. omega arith)))
groups_are xs (suc n) h = ap (λ (z : List Row). z ++ rows_of_group xs n) (groups_are xs n h) ∙ sym (next_under n xs h) ∙ ap (rows_under xs) (add-one n)

-- all rows are of groups below a bound
pub all_under : (n : ℕ) (xs : List Row) → AllByRecursion (λ (y : Row). y.group < n) xs → rows_under xs n ≡ xs
all_under n [] h = refl
all_under n (x ∷ xs) h =
    cond-true (nat_lt x.group n) (x ∷ rows_under xs n) (rows_under xs n) (lt-ltb x.group n h.0) ∙ ap (λ (z : List Row). x ∷ z) (all_under n xs h.1)

-- rows tie with a row of a group where they are of that group
tie_is : (n k : ℕ) → not (is_lt (nat_cmp n k)) && not (is_lt (nat_cmp k n)) ≡ (k == n)
tie_is n k = grind (arith, nat_tests)

same_groups : (xs ys : List Row) → IsStableByKey (λ (row : Row). row.group) nat_cmp xs ys → (n : ℕ) → rows_of_group ys n ≡ rows_of_group xs n
same_groups xs ys stable n =
    let of : Row = record { id = 0; group = n } in
    let tied : Row → Bool = ties (λ (x y : Row). is_lt (nat_cmp x.group y.group)) of in
    sym (filter_agree tied (λ (row : Row). row.group == n) (λ row. tie_is n row.group) ys) ∙ stable of
    ∙ filter_agree tied (λ (row : Row). row.group == n) (λ row. tie_is n row.group) xs

-- what a stable sort by groups gives
pub in_groups : (xs ys : List Row) → IsNonDecreasingBy (λ (row : Row). row.group) ys → IsStableByKey (λ (row : Row). row.group) nat_cmp xs ys
    → IsPermutation xs ys → All (λ (row : Row). row.group < 100) xs → ys ≡ in_order Group xs
unfolding in_order
in_groups xs ys rise stable moved small =
    let few : AllByRecursion (λ (row : Row). row.group < 100) ys =
    recursion_from_All (λ (row : Row). row.group < 100) ys (All-permutation (λ (row : Row). row.group < 100) xs ys moved small) in
    sym (all_under 100 ys few) ∙ sym (groups_are ys 100 (rises_from ys rise))
    ∙ ap (λ (f : ℕ → List Row). each_below one_list f 100) (λ i. λ n. same_groups xs ys stable n i)

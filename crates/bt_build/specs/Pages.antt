-- How many items each page of a level has, by the sizes of the items.
use Rattle.std.specs.Prelude.{◌+◌, ℕ, cond, nat_le, List, [], ◌∷◌, take, drop, Option, Some, None}

-- what an item of some size takes as the first of its page: its size, or what each first item takes
abbrev pub first_size : Option ℕ → ℕ → ℕ
first_size None size = size
first_size (Some first) size = first

-- the counts of the present page, which has so many items that take `used`, and of those after it
abbrev pub counts_from : Option ℕ → (budget : ℕ) → (sizes : List ℕ) → (used count : ℕ) → List ℕ
counts_from first budget [] used count = count ∷ []
counts_from first budget (s ∷ sizes) used count =
    cond (nat_le (used + s) budget) (counts_from first budget sizes (used + s) (count + 1))
    (count ∷ counts_from first budget sizes (first_size first s) 1)

abbrev pub page_counts : Option ℕ → (budget : ℕ) → (sizes : List ℕ) → List ℕ
page_counts first budget [] = []
page_counts first budget (s ∷ sizes) = counts_from first budget sizes (first_size first s) 1

-- a list cut into pages of so many items
abbrev pub cut_by : {X : Type 0} → (counts : List ℕ) → List X → List (List X)
cut_by [] xs = []
cut_by (n ∷ counts) xs = take n xs ∷ cut_by counts (drop n xs)

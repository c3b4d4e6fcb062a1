-- Lists cut into pages.
use Rattle.std.specs.Prelude.{◌≡◌, ◌≢◌, ◌+◌, ◌<◌, ◌≤◌, ℕ, ⊤, cond, nat_le, List, [], ◌∷◌, ◌++◌}
use Rattle.std.specs.List.{flat_map, All}

-- the pages together, from left to right
abbrev pub joined : {X : Type 0} → List (List X) → List X
joined pages = flat_map (λ page. page) pages

-- the list is cut into pages of which none is empty
pub record IsCut {X : Type 0} (xs : List X) (pages : List (List X)) : Type 0 where
  pub whole : joined pages ≡ xs
  pub filled : All (λ page. page ≢ []) pages

-- the page has at least two items
abbrev pub HasTwo : {X : Type 0} → List X → Type 0
HasTwo [] = ⊥
HasTwo (x ∷ []) = ⊥
HasTwo (x ∷ y ∷ xs) = ⊤

-- each page but the last has at least two items
abbrev pub TwoButLast : {X : Type 0} → List (List X) → Type 0
TwoButLast [] = ⊤
TwoButLast (page ∷ []) = ⊤
TwoButLast (page ∷ next ∷ pages) = HasTwo page × TwoButLast (next ∷ pages)

-- What fills pages: the items for the rest of the present page, of which `used` is taken, and the pages after it.
-- An item goes on the present page while the sizes sum to at most the budget. Else it begins the next page, where it
-- takes `first`
abbrev pub fill : {X : Type 0}
    → (first size : X → ℕ) → (budget : ℕ) → (xs : List X) → (used : ℕ) → List X × List (List X)
fill first size budget [] used = ([], [])
fill first size budget (x ∷ xs) used =
    cond (nat_le (used + size x) budget)
    (let r = fill first size budget xs (used + size x) in (x ∷ r.0, r.1))
    (let r = fill first size budget xs (first x) in ([], (x ∷ r.0) ∷ r.1))

-- the pages of a level
abbrev pub fill_pages : {X : Type 0} → (first size : X → ℕ) → (budget : ℕ) → List X → List (List X)
fill_pages first size budget [] = []
fill_pages first size budget (x ∷ xs) = let r = fill first size budget xs (first x) in (x ∷ r.0) ∷ r.1

-- the function cuts each list of such items, and each page but the last has at least two
pub record CutsInTwos {X : Type 0} (P : X → Type 0) (cut : List X → List (List X)) : Type 0 where
  pub cuts : (xs : List X) → All P xs → IsCut xs (cut xs)
  pub twos : (xs : List X) → All P xs → TwoButLast (cut xs)

-- what a page takes
abbrev pub size_sum : {X : Type 0} → (X → ℕ) → List X → ℕ
size_sum size [] = 0
size_sum size (x ∷ xs) = size x + size_sum size xs

abbrev pub page_size : {X : Type 0} → (first size : X → ℕ) → List X → ℕ
page_size first size [] = 0
page_size first size (x ∷ xs) = first x + size_sum size xs

-- with `used` taken, the first item of these pages has no room
abbrev pub NoRoom : {X : Type 0} → (size : X → ℕ) → (budget used : ℕ) → List (List X) → Type 0
NoRoom size budget used [] = ⊤
NoRoom size budget used ([] ∷ pages) = ⊤
NoRoom size budget used ((x ∷ xs) ∷ pages) = budget < used + size x

-- no page begins while its first item has room on the page before
abbrev pub FullButLast : {X : Type 0} → (first size : X → ℕ) → (budget : ℕ) → List (List X) → Type 0
FullButLast first size budget [] = ⊤
FullButLast first size budget (page ∷ pages) =
    NoRoom size budget (page_size first size page) pages × FullButLast first size budget pages

-- these pages are the items, cut by the budget
pub record IsFilled {X : Type 0} (first size : X → ℕ) (budget : ℕ) (xs : List X)
    (pages : List (List X)) : Type 0 where
  pub cut : IsCut xs pages
  pub within : All (λ page. page_size first size page ≤ budget) pages
  pub full : FullButLast first size budget pages

-- One item more: it goes on the last page while the sizes sum to at most the budget. Else it begins the next page
abbrev pub put_item : {X : Type 0} → (first size : X → ℕ) → (budget : ℕ) → List (List X) → X → List (List X)
put_item first size budget [] x = (x ∷ []) ∷ []
put_item first size budget (page ∷ []) x =
    cond (nat_le (page_size first size page + size x) budget) ((page ++ x ∷ []) ∷ []) (page ∷ (x ∷ []) ∷ [])
put_item first size budget (page ∷ next ∷ pages) x = page ∷ put_item first size budget (next ∷ pages) x

-- A tree of seven numbers in three levels, and separators of three columns.
use Rattle.std.proofs.Common.{nat_cmp, ◌≡◌, ℕ, false, List, [], ◌∷◌, map, refl}
use Rattle.std.specs.Prelude.{Option, Some, None, nat_le}
use Rattle.laws_search.specs.Tree.{Page, Index}
use Rattle.laws_search.specs.Keys.{Entry, Separator}
use Rattle.laws_search.specs.Levels.{row, Linked, level_rows}
use Rattle.laws_search.specs.Search.{entries_of}
use Rattle.laws_building.specs.Built.{Splitter, built}
use Rattle.laws_building.specs.Sized.{Sizes, internal_pages, leaf_pages}
use Rattle.laws_building.specs.Splits.{key_splitter}

abbrev numbers : Splitter ℕ ℕ
numbers = record { split_key = λ d e. d; nothing = 0 }

-- an item takes 2, a page may take 4, and the first item of an internal page takes 1
abbrev sizes : Sizes ℕ ℕ
sizes = record { item_size = λ es. 2; pivot_size = λ s. 2; first_size = 1; budget = 4 }

-- nine numbers in seven items
abbrev items : List (List ℕ)
items = (1 ∷ []) ∷ (2 ∷ 3 ∷ []) ∷ (4 ∷ []) ∷ (5 ∷ []) ∷ (6 ∷ 7 ∷ []) ∷ (8 ∷ []) ∷ (9 ∷ []) ∷ []

abbrev tree_of : List (List ℕ) → Index ℕ ℕ
tree_of items = built numbers (internal_pages sizes) (leaf_pages sizes items)

abbrev tree : Index ℕ ℕ
tree = tree_of items

abbrev laid : (prev next level : ℕ) → Option ℕ → List (ℕ × ℕ) → List ℕ → Page ℕ ℕ
laid prev next level high cs es =
    record { idle = false; leaf = nat_le level 0; half_dead = false; incomplete_split = false; prev = prev; next = next; level = level; high_key = high; children = cs; entries = es }

leaves : leaf_pages sizes items ≡ (1 ∷ 2 ∷ 3 ∷ []) ∷ (4 ∷ 5 ∷ []) ∷ (6 ∷ 7 ∷ 8 ∷ []) ∷ (9 ∷ []) ∷ []
leaves = refl

whole : map tree.page (0 ∷ 1 ∷ 2 ∷ 3 ∷ 4 ∷ 5 ∷ 6 ∷ 7 ∷ []) ≡
    tree.page 0
    ∷ laid 0 2 0 (Some 3) [] (1 ∷ 2 ∷ 3 ∷ [])
    ∷ laid 1 3 0 (Some 5) [] (4 ∷ 5 ∷ [])
    ∷ laid 2 4 0 (Some 8) [] (6 ∷ 7 ∷ 8 ∷ [])
    ∷ laid 3 0 0 None [] (9 ∷ [])
    ∷ laid 0 6 1 (Some 5) ((0, 1) ∷ (3, 2) ∷ []) []
    ∷ laid 5 0 1 None ((0, 3) ∷ (8, 4) ∷ []) []
    ∷ laid 0 0 2 None ((0, 5) ∷ (5, 6) ∷ []) []
    ∷ []
whole = refl

metapage : (tree.blocks ≡ 8) × (tree.root ≡ 7) × (tree.level ≡ 2) × (tree.fastroot ≡ 7) × (tree.fastlevel ≡ 2)
metapage = (refl, refl, refl, refl, refl)

middle : level_rows tree 1 ≡ row 5 Linked None ∷ row 6 Linked (Some 5) ∷ []
middle = refl

all_of_them : entries_of tree ≡ 1 ∷ 2 ∷ 3 ∷ 4 ∷ 5 ∷ 6 ∷ 7 ∷ 8 ∷ 9 ∷ []
all_of_them = refl

no_items : ((tree_of []).blocks ≡ 1) × ((tree_of []).root ≡ 0)
no_items = (refl, refl)

one_leaf : ((tree_of ((1 ∷ []) ∷ [])).root ≡ 1) × ((tree_of ((1 ∷ []) ∷ [])).page 1 ≡ laid 0 0 0 None [] (1 ∷ []))
one_leaf = (refl, refl)

abbrev entry : ℕ → ℕ → ℕ → ℕ → Entry ℕ ℕ
entry a b c t = record { values = a ∷ b ∷ c ∷ []; tid = t; killed = false }

abbrev split : Entry ℕ ℕ → Entry ℕ ℕ → Separator ℕ ℕ
split = (key_splitter (λ i. nat_cmp)).split_key

-- one value differs, two are needed, all are equal
first_differs : split (entry 4 7 1 20) (entry 5 2 9 10) ≡ record { kept = 5 ∷ []; tid = None }
first_differs = refl

second_differs : split (entry 5 2 9 20) (entry 5 3 1 10) ≡ record { kept = 5 ∷ 3 ∷ []; tid = None }
second_differs = refl

none_differs : split (entry 5 2 9 10) (entry 5 2 9 20) ≡ record { kept = 5 ∷ 2 ∷ 9 ∷ []; tid = Some 10 }
none_differs = refl

-- The rules on a tree that keeps them, and on trees that each break one.
use Rattle.std.proofs.Common.{◌≡◌, ℕ, zero, suc, Bool, true, false, cond, List, [], ◌∷◌, refl}
use Rattle.std.specs.Prelude.{Option, Some, None, nat_lt, nat_le, ◌==◌}
use Rattle.laws_search.specs.Order.{Order}
use Rattle.laws_search.specs.Tree.{Page, Index}
use Rattle.page_layout.specs.declared.rules.Rule.TheVariants.{L1, L2, L3, L4, L5, L6, L7, L8, L9}
use Rattle.laws_levels.specs.Questions.{Finding}
use Rattle.laws_levels.specs.Tests.{first_broken}
use Rattle.laws_levels.specs.Walk.{walk_finding}
use Rattle.laws_levels.specs.Cursor.{read_finding}

abbrev numbers : Order ℕ ℕ
numbers = record { precedes = nat_lt; within = nat_le; under = nat_lt }

abbrev found : Index ℕ ℕ → Option Finding
found x = first_broken (λ a b. a == b) numbers x

abbrev leaf_page : Bool → Bool → ℕ → ℕ → Option ℕ → List ℕ → Page ℕ ℕ
leaf_page half split prev next high es =
    record { idle = false; leaf = true; half_dead = half; incomplete_split = split; prev = prev; next = next; level = 0; high_key = high; children = []; entries = es }

abbrev inner : ℕ → ℕ → ℕ → Option ℕ → List (ℕ × ℕ) → Page ℕ ℕ
inner level prev next high cs =
    record { idle = false; leaf = false; half_dead = false; incomplete_split = false; prev = prev; next = next; level = level; high_key = high; children = cs; entries = [] }

-- a root over four leaves, of which one is a right half and one is half-dead
abbrev pages : ℕ → Page ℕ ℕ
pages zero = leaf_page false false 0 0 None []
pages (suc zero) = inner 1 0 0 None ((0, 2) ∷ (5, 3) ∷ [])
pages (suc (suc zero)) = leaf_page false true 0 4 (Some 3) (1 ∷ 2 ∷ 3 ∷ [])
pages (suc (suc (suc zero))) = leaf_page false false 5 0 None (6 ∷ 7 ∷ [])
pages (suc (suc (suc (suc zero)))) = leaf_page false false 2 5 (Some 5) (4 ∷ 5 ∷ [])
pages (suc (suc (suc (suc (suc b))))) = leaf_page true false 4 3 (Some 5) []

abbrev tree : Index ℕ ℕ
tree = record { blocks = 6; page = pages; root = 1; level = 1; fastroot = 1; fastlevel = 1 }

abbrev but : ℕ → Page ℕ ℕ → Index ℕ ℕ → Index ℕ ℕ
but b p x = record x { page = λ k. cond (k == b) p (x.page k) }

keeps : found tree ≡ None
unfolding first_broken
keeps = refl

walked_keeps : walk_finding (λ a b. a == b) numbers tree ≡ None
unfolding walk_finding
walked_keeps = refl

read_keeps : read_finding (λ a b. a == b) numbers tree ≡ None
unfolding read_finding
read_keeps = refl

empty : found (record tree { blocks = 1; root = 0; fastroot = 0 }) ≡ None
unfolding first_broken
empty = refl

-- the metapage names another level
l1 : found (record tree { level = 2 }) ≡ Some (L1, 0)
unfolding first_broken
l1 = refl

l2 : found (but 1 (inner 1 1 1 (Some 9) ((0, 2) ∷ (5, 3) ∷ [])) tree) ≡ Some (L2, 1)
unfolding first_broken
l2 = refl

-- no incomplete split: the page to the right of it is neither live nor dead
l3 : found (but 2 (leaf_page false false 0 4 (Some 3) (1 ∷ 2 ∷ 3 ∷ [])) tree) ≡ Some (L3, 4)
unfolding first_broken
l3 = refl

-- downlinks in another order, also where a page would break L3
l4 :
    found (but 1 (inner 1 0 0 None ((0, 3) ∷ (5, 2) ∷ [])) (but 2 (leaf_page false false 0 4 (Some 3) (1 ∷ 2 ∷ 3 ∷ [])) tree)) ≡ Some (L4, 3)
unfolding first_broken
l4 = refl

-- a downlink to a half-dead page
l4_half_dead : found (but 1 (inner 1 0 0 None ((0, 2) ∷ (5, 5) ∷ (5, 3) ∷ [])) tree) ≡ Some (L4, 2)
unfolding first_broken
l4_half_dead = refl

l4_twice : found (but 1 (inner 1 0 0 None ((0, 2) ∷ (4, 2) ∷ (5, 3) ∷ [])) tree) ≡ Some (L4, 2)
unfolding first_broken
l4_twice = refl

l5 : found (but 1 (inner 1 0 0 None ((0, 2) ∷ (6, 3) ∷ [])) tree) ≡ Some (L5, 3)
unfolding first_broken
l5 = refl

l6 : found (but 4 (leaf_page false false 2 5 (Some 5) (3 ∷ 5 ∷ [])) tree) ≡ Some (L6, 4)
unfolding first_broken
l6 = refl

l7 :
    found (but 5 (leaf_page true false 4 0 None []) (but 3 (leaf_page true false 0 0 None []) (but 1 (inner 1 0 0 None ((0, 2) ∷ [])) tree))) ≡ Some (L7, 5)
unfolding first_broken
l7 = refl

l8 : found (record tree { fastroot = 2; fastlevel = 0 }) ≡ Some (L8, 2)
unfolding first_broken
l8 = refl

l9 : found (but 6 (leaf_page false false 0 0 None []) (record tree { blocks = 7 })) ≡ Some (L9, 6)
unfolding first_broken
l9 = refl

-- The first page of a chain may be a half-dead leaf, left of the entry page.
left_dead : found (but 2 (leaf_page true false 0 4 (Some 3) []) (but 1 (inner 1 0 0 None ((0, 4) ∷ (5, 3) ∷ [])) tree)) ≡ None
unfolding first_broken
left_dead = refl

-- two levels of internal pages: the right page's second item isn't above its lower bound
abbrev high_pages : ℕ → Page ℕ ℕ
high_pages zero = leaf_page false false 0 0 None []
high_pages (suc zero) = inner 2 0 0 None ((0, 2) ∷ (5, 3) ∷ [])
high_pages (suc (suc zero)) = inner 1 0 3 (Some 5) ((0, 4) ∷ [])
high_pages (suc (suc (suc zero))) = inner 1 2 0 None ((0, 5) ∷ (5, 6) ∷ [])
high_pages (suc (suc (suc (suc zero)))) = leaf_page false false 0 5 (Some 5) (1 ∷ [])
high_pages (suc (suc (suc (suc (suc zero))))) = leaf_page false false 4 6 (Some 8) (6 ∷ [])
high_pages (suc (suc (suc (suc (suc (suc b)))))) = leaf_page false false 5 0 None (9 ∷ [])

abbrev high_tree : Index ℕ ℕ
high_tree = record { blocks = 7; page = high_pages; root = 1; level = 2; fastroot = 1; fastlevel = 2 }

l6_internal : found high_tree ≡ Some (L6, 3)
unfolding first_broken
l6_internal = refl

high_keeps : found (but 3 (inner 1 2 0 None ((0, 5) ∷ (8, 6) ∷ [])) high_tree) ≡ None
unfolding first_broken
high_keeps = refl

high_walked : walk_finding (λ a b. a == b) numbers (but 3 (inner 1 2 0 None ((0, 5) ∷ (8, 6) ∷ [])) high_tree) ≡ None
unfolding walk_finding
high_walked = refl

high_read : read_finding (λ a b. a == b) numbers (but 3 (inner 1 2 0 None ((0, 5) ∷ (8, 6) ∷ [])) high_tree) ≡ None
unfolding read_finding
high_read = refl

-- Small indexes of numbers: what the backward searcher answers, what is left at places, and how many visits it makes.
use Rattle.std.proofs.Common.{◌≡◌, ℕ, zero, suc, Bool, true, false, List, [], ◌∷◌, refl}
use Rattle.std.specs.Prelude.{◌&&◌, ◌==◌, Option, Some, None, nat_lt, nat_le}
use Rattle.laws_search.specs.Order.{Scan}
use Rattle.laws_search.specs.Tree.{Page, Index}
use Rattle.laws_search.specs.Search.{Ended, found_on, visit_page, visit, after_visits, search_start}
use Rattle.laws_search.specs.Back.{Back, Reads, Over, found_back, read_page, seek_page, after_back, back_start}
use Rattle.laws_back_search.specs.Spots.{from_place_back, rest_back, left_back}

abbrev leaf_page : Bool → Bool → ℕ → ℕ → Option ℕ → List ℕ → Page ℕ ℕ
leaf_page half split prev next high es =
    record { idle = false; leaf = true; half_dead = half; incomplete_split = split; prev = prev; next = next; level = 0; high_key = high; children = []; entries = es }

abbrev root_page : List (ℕ × ℕ) → Page ℕ ℕ
root_page cs =
    record { idle = false; leaf = false; half_dead = false; incomplete_split = false; prev = 0; next = 0; level = 1; high_key = None; children = cs; entries = [] }

-- a scan from a number to a number
abbrev from_to : ℕ → ℕ → Scan ℕ ℕ
from_to a b = record { goes_right = λ s. nat_lt s a; matches = λ e. nat_le a e && nat_le e b; past_high = λ e. nat_lt b e }

abbrev back_from_to : ℕ → ℕ → Back ℕ ℕ
back_from_to a b = record { reaches = λ s. nat_lt s b; before_low = λ e. nat_lt e a }

-- A root over four leaves: 1 2 3, then 4 5, which is a right half, then a half-dead one, then 6 7
abbrev four : ℕ → Page ℕ ℕ
four zero = leaf_page false false 0 0 None []
four (suc zero) = root_page ((0, 2) ∷ (5, 3) ∷ [])
four (suc (suc zero)) = leaf_page false true 0 4 (Some 3) (1 ∷ 2 ∷ 3 ∷ [])
four (suc (suc (suc zero))) = leaf_page false false 5 0 None (6 ∷ 7 ∷ [])
four (suc (suc (suc (suc zero)))) = leaf_page false false 2 5 (Some 5) (4 ∷ 5 ∷ [])
four (suc (suc (suc (suc (suc b))))) = leaf_page true false 4 3 (Some 5) []

abbrev tree : Index ℕ ℕ
tree = record { blocks = 6; page = four; root = 1; level = 1; fastroot = 1; fastlevel = 1 }

abbrev is_five : ℕ → Bool
is_five e = e == 5

-- from 2 to 6, where 5 is killed
forward : after_visits is_five tree (from_to 2 6) 6 (search_start tree) ≡ Ended (2 ∷ 3 ∷ 4 ∷ 6 ∷ [])
unfolding visit visit_page found_on search_start
forward = refl

backward : after_back is_five tree (from_to 2 6) (back_from_to 2 6) 12 (back_start tree) ≡ Over (6 ∷ 4 ∷ 3 ∷ 2 ∷ [])
unfolding found_back read_page seek_page back_start
backward = refl

-- the second phase can't begin on the leaf to which the forward search descends
too_far_left : after_back is_five tree (from_to 2 6) (back_from_to 2 6) 12 (Reads 2 []) ≡ Over (3 ∷ 2 ∷ [])
unfolding found_back read_page
too_far_left = refl

-- what is left behind 6: the killed entry is passed over, and three leaves are still to be visited
behind_six : rest_back is_five tree (from_to 2 6) (back_from_to 2 6) (from_place_back is_five tree (from_to 2 6) (back_from_to 2 6) 3 0) ≡ 4 ∷ 3 ∷ 2 ∷ []
unfolding rest_back from_place_back found_back read_page
behind_six = refl

visits_behind_six : left_back is_five tree (from_to 2 6) (back_from_to 2 6) (from_place_back is_five tree (from_to 2 6) (back_from_to 2 6) 3 0) ≡ 3
unfolding left_back from_place_back found_back read_page
visits_behind_six = refl

-- behind 3 it ends before 1, without another visit
behind_three : rest_back is_five tree (from_to 2 6) (back_from_to 2 6) (from_place_back is_five tree (from_to 2 6) (back_from_to 2 6) 2 2) ≡ 2 ∷ []
unfolding rest_back from_place_back
behind_three = refl

-- A root over one leaf with two right halves: it goes to the last one and comes back, with more visits than there are blocks
abbrev halves : ℕ → Page ℕ ℕ
halves zero = leaf_page false false 0 0 None []
halves (suc zero) = root_page ((0, 2) ∷ [])
halves (suc (suc zero)) = leaf_page false true 0 3 (Some 1) (1 ∷ [])
halves (suc (suc (suc zero))) = leaf_page false true 2 4 (Some 2) (2 ∷ [])
halves (suc (suc (suc (suc b)))) = leaf_page false false 3 0 None (3 ∷ [])

abbrev split_tree : Index ℕ ℕ
split_tree = record { blocks = 5; page = halves; root = 1; level = 1; fastroot = 1; fastlevel = 1 }

more_than_blocks : left_back (λ e. false) split_tree (from_to 0 9) (back_from_to 0 9) (back_start split_tree) ≡ 6
unfolding left_back found_back read_page seek_page back_start
more_than_blocks = refl

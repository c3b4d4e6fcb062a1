-- The rules on levels as tests, and the first rule that is broken. `same` tells whether two separators are the same.
use Rattle.std.specs.Prelude.{◌==◌, ◌-◌, ℕ, zero, suc, Bool, true, false, not, ◌&&◌, ◌||◌, nat_le, List, [], ◌∷◌}
use Rattle.std.specs.Prelude.{Option, Some, None, map, slice_get, option_map}
use Rattle.std.specs.List.{filter, find, list_any}
use Rattle.laws_search.specs.Order.{Order}
use Rattle.laws_search.specs.Tree.{Index, chain_of, after_links}
use Rattle.laws_search.specs.Levels.{Role, Dead, Linked, Right_half, Neither, is_live, Row, row_page, row_role}
use Rattle.laws_search.specs.Levels.{row_lower, Downlink, lead_to, entry_page, downlinks, level_rows}
use Rattle.laws_levels.specs.Rules.{entry_at, second_separator}
use Rattle.laws_levels.specs.Questions.{Finding, Question, Roots, Circle, Downlinks, LiveOrDead, Separator, LowerBound}
use Rattle.laws_levels.specs.Questions.{LastPage, FastRoot, Unreached, finding_of, questions}

abbrev pub is_dead : Role → Bool
is_dead Dead = true
is_dead Linked = false
is_dead Right_half = false
is_dead Neither = false

abbrev pub is_linked : Role → Bool
is_linked Dead = false
is_linked Linked = true
is_linked Right_half = false
is_linked Neither = false

abbrev pub is_right_half : Role → Bool
is_right_half Dead = false
is_right_half Linked = false
is_right_half Right_half = true
is_right_half Neither = false

abbrev pub is_neither : Role → Bool
is_neither Dead = false
is_neither Linked = false
is_neither Right_half = false
is_neither Neither = true

-- of two lower bounds; None is minus infinity
abbrev pub same_bound : {S : Type 0} → (S → S → Bool) → Option S → Option S → Bool
same_bound same None None = true
same_bound same None (Some t) = false
same_bound same (Some s) None = false
same_bound same (Some s) (Some t) = same s t

abbrev pub same_numbers : List ℕ → List ℕ → Bool
same_numbers [] [] = true
same_numbers [] (y ∷ ys) = false
same_numbers (x ∷ xs) [] = false
same_numbers (x ∷ xs) (y ∷ ys) = (x == y) && same_numbers xs ys

-- L1
abbrev pub is_misplaced : {S E : Type 0} → Index S E → (block level : ℕ) → Bool
is_misplaced x block level = (x.page block).idle || not ((x.page block).level == level)

abbrev pub are_roots_misplaced : {S E : Type 0} → Index S E → Bool
are_roots_misplaced x =
    is_misplaced x x.root x.level || (is_misplaced x x.fastroot x.fastlevel || not (nat_le x.fastlevel x.level))

-- L2: some number of links from 1 to n comes back to the block
abbrev pub comes_back : (ℕ → ℕ) → ℕ → ℕ → Bool
comes_back link b zero = false
comes_back link b (suc n) = (after_links link (suc n) b == b) || comes_back link b n

-- L4
abbrev pub are_downlinks_wrong : {S E : Type 0} → Index S E → List (Downlink S) → Bool
are_downlinks_wrong x ds =
    not (same_numbers (map (λ d. d.1) ds) (filter (lead_to ds) (chain_of x (entry_page ds))))
    || list_any (λ d. (x.page d.1).half_dead) ds

-- L5
abbrev pub has_wrong_separator : {S : Type 0} → (S → S → Bool) → List (Downlink S) → Row S → Bool
has_wrong_separator same ds r =
    is_linked (row_role r) && list_any (λ d. (d.1 == row_page r) && not (same_bound same d.0 (row_lower r))) ds

-- L6
abbrev pub is_low_separator : {S E : Type 0} → Order S E → Option S → Option S → Bool
is_low_separator o None separator = false
is_low_separator o (Some s) None = false
is_low_separator o (Some s) (Some t) = not (o.under s t)

abbrev pub is_low_entry : {S E : Type 0} → Order S E → Option S → Option E → Bool
is_low_entry o None entry = false
is_low_entry o (Some s) None = false
is_low_entry o (Some s) (Some e) = o.within e s

abbrev pub has_low_key : {S E : Type 0} → Order S E → Index S E → Row S → Bool
has_low_key o x r =
    let p = x.page (row_page r) in
    is_live (row_role r)
    && (is_low_separator o (row_lower r) p.high_key
    || (p.leaf && is_low_entry o (row_lower r) (slice_get p.entries 0)
    || not p.leaf && is_low_separator o (row_lower r) (second_separator p.children)))

-- L8
abbrev pub is_not_alone : {S : Type 0} → ℕ → List (Row S) → Bool
is_not_alone fastroot [] = true
is_not_alone fastroot (r ∷ rs) = not (row_page r == fastroot) || list_any (λ r. not (is_right_half (row_role r))) rs

-- L9: the block stands in the chain of a level from the top down to the n-th below it
abbrev pub stands_within : {S E : Type 0} → Index S E → ℕ → ℕ → Bool
stands_within x b zero = list_any (λ c. c == b) (chain_of x (entry_at x zero))
stands_within x b (suc n) = list_any (λ c. c == b) (chain_of x (entry_at x (suc n))) || stands_within x b n

-- the test of each question
abbrev pub is_broken : {S E : Type 0} → (S → S → Bool) → Order S E → Index S E → Question S → Bool
is_broken same o x Roots = are_roots_misplaced x
is_broken same o x (Circle n) = comes_back (λ b. (x.page b).next) (entry_at x n) x.blocks
is_broken same o x (Downlinks n) = are_downlinks_wrong x (downlinks x n)
is_broken same o x (LiveOrDead r) = is_neither (row_role r)
is_broken same o x (Separator n r) = has_wrong_separator same (downlinks x n) r
is_broken same o x (LowerBound r) = has_low_key o x r
is_broken same o x (LastPage r) = is_dead (row_role r)
is_broken same o x FastRoot = is_not_alone x.fastroot (level_rows x (x.level - x.fastlevel))
is_broken same o x (Unreached b) = not (x.page b).idle && not (not (x.root == 0) && stands_within x b x.level)

-- what is found at the first question that is answered yes
unfoldable pub first_broken : {S E : Type 0} → (S → S → Bool) → Order S E → Index S E → Option Finding
first_broken same o x = option_map (finding_of x) (find (is_broken same o x) (questions x))

-- The live pages of a level tile the keys.
use Rattle.std.specs.Prelude.{◌≡◌, ℕ, true, List, [], ◌∷◌, Option, Some, None}
use Rattle.std.specs.List.{filter}
use Rattle.laws_search.specs.Order.{Order}
use Rattle.laws_search.specs.Tree.{Index}
use Rattle.laws_search.specs.Levels.{Row, row_page, row_role, row_lower, is_live, level_rows}

abbrev pub live_rows : {S E : Type 0} → Index S E → ℕ → List (Row S)
live_rows x n = filter (λ r. is_live (row_role r)) (level_rows x n)

-- each begins where the one before it ends, above where that one begins, and the last has no end
abbrev pub Tile : {S E : Type 0} → Order S E → Index S E → Option S → List (Row S) → Type 0
Tile o x lower [] = lower ≡ None
Tile {S} o x lower (r ∷ rs) =
    (row_lower r ≡ lower)
    × ((s t : S) → row_lower r ≡ Some s → (x.page (row_page r)).high_key ≡ Some t → o.under s t ≡ true)
    × Tile o x (x.page (row_page r)).high_key rs

-- The downlinks to a level, taken one after the other as a walk along it meets their pages.
use Rattle.std.specs.Prelude.{◌==◌, ℕ, Bool, false, ◌&&◌, cond, List, [], ◌∷◌, Option, None}
use Rattle.laws_search.specs.Tree.{Index}
use Rattle.laws_search.specs.Levels.{is_live, Row, row, Downlink, role_of, lower_after}
use Rattle.laws_levels.specs.Links.{walked_chain}

-- the next downlink leads to this page
abbrev pub is_next : {S : Type 0} → List (Downlink S) → ℕ → Bool
is_next [] b = false
is_next (d ∷ ds) b = d.1 == b

-- its separator
abbrev pub next_separator : {S : Type 0} → List (Downlink S) → Option S
next_separator [] = None
next_separator (d ∷ ds) = d.0

-- what is left of the downlinks behind this page: if the next one leads to it, it is taken
abbrev pub unmet_after : {S : Type 0} → List (Downlink S) → ℕ → List (Downlink S)
unmet_after [] b = []
unmet_after (d ∷ ds) b = cond (d.1 == b) ds (d ∷ ds)

-- what is left of them behind a chain
abbrev pub unmet : {S : Type 0} → List ℕ → List (Downlink S) → List (Downlink S)
unmet [] ds = ds
unmet (b ∷ c) ds = unmet c (unmet_after ds b)

-- the rows of a chain, where a page counts as linked if the next downlink leads to it
abbrev pub rows_met :
    {S E : Type 0} → Index S E → List ℕ → List (Downlink S) → (split : Bool) → (lower : Option S) → List (Row S)
rows_met x [] ds split lower = []
rows_met x (b ∷ c) ds split lower =
    let r = role_of (x.page b) (is_next ds b) split in
    row b r lower
    ∷ rows_met x c (unmet_after ds b) (is_live r && (x.page b).incomplete_split) (lower_after (x.page b) r lower)

-- the rows of the level below these downlinks
abbrev pub walked_rows : {S E : Type 0} → Index S E → List (Downlink S) → List (Row S)
walked_rows x ds = rows_met x (walked_chain x ds) ds false None

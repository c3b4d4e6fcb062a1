-- The walks along all levels, from the top down, where each keeps the downlinks of its live pages for the level below.
use Rattle.std.specs.Prelude.{option_map, ◌==◌, ℕ, zero, suc, Bool, false, not, ◌&&◌, ◌||◌, cond, List, [], ◌∷◌}
use Rattle.std.specs.Prelude.{Option, Some, None}
use Rattle.std.specs.Option.{option_or}
use Rattle.std.specs.List.{find, list_any}
use Rattle.page_layout.specs.declared.rules.Rule.TheVariants.{L1, L9}
use Rattle.laws_search.specs.Order.{Order}
use Rattle.laws_search.specs.Tree.{Index}
use Rattle.laws_search.specs.Levels.{Downlink}
use Rattle.laws_search.specs.Search.{tree_blocks}
use Rattle.laws_levels.specs.Questions.{Finding}
use Rattle.laws_levels.specs.Tests.{are_roots_misplaced}
use Rattle.laws_levels.specs.Links.{walked_chain}
use Rattle.laws_levels.specs.LevelWalk.{level_walk, level_finding}

-- the downlinks to the top level: the root alone, from minus infinity on
abbrev pub root_downlinks : {S E : Type 0} → Index S E → List (Downlink S)
root_downlinks x = (None, x.root) ∷ []

-- what is found on this level and those below it
abbrev pub levels_finding :
    {S E : Type 0} → (S → S → Bool) → Order S E → Index S E → (level : ℕ) → List (Downlink S) → Option Finding
levels_finding same o x zero ds = level_finding same o x zero ds
levels_finding same o x (suc level) ds =
    option_or (level_finding same o x (suc level) ds) (levels_finding same o x level (level_walk same o x ds).below)

-- the set with the blocks of this list added
abbrev pub with_blocks : (ℕ → Bool) → List ℕ → ℕ → Bool
with_blocks blocks c b = blocks b || list_any (λ d. d == b) c

-- the set with the blocks in the chains of this level and those below it added
abbrev pub blocks_walked :
    {S E : Type 0} → (S → S → Bool) → Order S E → Index S E → (level : ℕ) → List (Downlink S) → (ℕ → Bool) → ℕ → Bool
blocks_walked same o x zero ds blocks = with_blocks blocks (walked_chain x ds)
blocks_walked same o x (suc level) ds blocks =
    blocks_walked same o x level (level_walk same o x ds).below (with_blocks blocks (walked_chain x ds))

-- the block stands in the chain of a level
abbrev pub is_block_walked : {S E : Type 0} → (S → S → Bool) → Order S E → Index S E → ℕ → Bool
is_block_walked same o x =
    cond (x.root == 0) (λ b. false) (blocks_walked same o x x.level (root_downlinks x) (λ b. false))

-- the block isn't idle, and isn't in this set of those that stand in a chain
abbrev pub is_outside : {S E : Type 0} → Index S E → (ℕ → Bool) → ℕ → Bool
is_outside x stands b = not (x.page b).idle && not (stands b)

-- the first such block from 1 to n - 1
abbrev pub first_outside : {S E : Type 0} → Index S E → (ℕ → Bool) → ℕ → Option ℕ
first_outside x stands n = find (is_outside x stands) (tree_blocks n)

-- L9, where this is the set
abbrev pub unreached_finding : {S E : Type 0} → Index S E → (ℕ → Bool) → Option Finding
unreached_finding x stands = option_map (λ b. (L9, b)) (first_outside x stands x.blocks)

-- what is found in the order of the work: the roots, each level by its downlinks, then the blocks in no chain. The set
-- of all in a chain is asked for only where nothing was found before
unfoldable pub walk_finding : {S E : Type 0} → (S → S → Bool) → Order S E → Index S E → Option Finding
walk_finding same o x =
    option_or
    (cond (x.root == 0) None
    (option_or (cond (are_roots_misplaced x) (Some (L1, 0)) None)
    (levels_finding same o x x.level (root_downlinks x))))
    (unreached_finding x (is_block_walked same o x))

-- The walks along all levels, where each reads its downlinks along the level above, from the pages themselves: for this
-- it needs to know which of these are dead.
use Rattle.std.specs.Prelude.{◌≡◌, ◌<◌, ◌==◌, ℕ, zero, suc, Bool, true, false, ◌&&◌, ◌||◌, cond, List, [], ◌∷◌, ◌++◌}
use Rattle.std.specs.Prelude.{Option, Some, None}
use Rattle.std.specs.Option.{option_or}
use Rattle.std.specs.List.{list_any}
use Rattle.page_layout.specs.declared.rules.Rule.TheVariants.{L1}
use Rattle.laws_search.specs.Order.{Order}
use Rattle.laws_search.specs.Tree.{Index, linked_from}
use Rattle.laws_search.specs.Levels.{entry_page, Row, row_page, row_role, Downlink, page_downlinks}
use Rattle.laws_levels.specs.Questions.{Finding}
use Rattle.laws_levels.specs.Tests.{are_roots_misplaced, is_dead}
use Rattle.laws_levels.specs.Links.{to_right, first_page, walked_chain}
use Rattle.laws_levels.specs.Meeting.{walked_rows}
use Rattle.laws_levels.specs.LevelWalk.{level_finding}
use Rattle.laws_levels.specs.Walk.{root_downlinks, with_blocks, unreached_finding}

-- the set with the dead pages of these rows added
abbrev pub with_dead : {S : Type 0} → (ℕ → Bool) → List (Row S) → ℕ → Bool
with_dead dead rs b = dead b || list_any (λ r. (row_page r == b) && is_dead (row_role r)) rs

-- the set has pages of higher levels only
abbrev pub AreAbove : {S E : Type 0} → Index S E → (level : ℕ) → (ℕ → Bool) → Type 0
AreAbove x level dead = (b : ℕ) → dead b ≡ true → level < (x.page b).level

-- the downlinks of the pages of a chain that aren't dead. `lower` is the high key of the last such page to the left
abbrev pub downlinks_along : {S E : Type 0} → Index S E → (ℕ → Bool) → List ℕ → (lower : Option S) → List (Downlink S)
downlinks_along x dead [] lower = []
downlinks_along x dead (b ∷ c) lower =
    cond (dead b) (downlinks_along x dead c lower)
    (page_downlinks lower (x.page b).children ++ downlinks_along x dead c (x.page b).high_key)

-- Where one stands among the downlinks of a level: some data items of a page are left, and the pages from `block` on.
pub record Cursor (S : Type 0) : Type 0 where
  pub items : List (Downlink S)
  pub lower : Option S
  pub block : ℕ

-- before the first page of the level below these downlinks
abbrev pub cursor_start : {S E : Type 0} → Index S E → List (Downlink S) → Cursor S
cursor_start x ds = record { items = []; lower = None; block = first_page x (entry_page ds) }

-- the downlinks left, where at most n pages are left
abbrev pub downlinks_left : {S E : Type 0} → Index S E → (ℕ → Bool) → ℕ → Cursor S → List (Downlink S)
downlinks_left x dead n k = k.items ++ downlinks_along x dead (linked_from (to_right x) n k.block) k.lower

-- past the next page
abbrev pub turned_cursor : {S E : Type 0} → Index S E → (ℕ → Bool) → Cursor S → Cursor S
turned_cursor x dead k =
    let p = x.page k.block in
    cond (dead k.block) (record { items = []; lower = k.lower; block = p.next })
    (record { items = page_downlinks k.lower p.children; lower = p.high_key; block = p.next })

-- the set with the dead pages of the level below these downlinks added
abbrev pub dead_below : {S E : Type 0} → Index S E → (ℕ → Bool) → List (Downlink S) → ℕ → Bool
dead_below x dead ds = with_dead dead (walked_rows x ds)

-- the downlinks that are read along the level below these. `dead` has the dead pages of the levels above it
abbrev pub downlinks_read : {S E : Type 0} → Index S E → (ℕ → Bool) → List (Downlink S) → List (Downlink S)
downlinks_read x dead ds = downlinks_along x (dead_below x dead ds) (walked_chain x ds) None

-- what is found on this level and those below it
abbrev pub levels_read_finding :
    {S E : Type 0}
    → (S → S → Bool) → Order S E → Index S E → (level : ℕ) → (ℕ → Bool) → List (Downlink S) → Option Finding
levels_read_finding same o x zero dead ds = level_finding same o x zero ds
levels_read_finding same o x (suc level) dead ds =
    option_or (level_finding same o x (suc level) ds)
    (levels_read_finding same o x level (dead_below x dead ds) (downlinks_read x dead ds))

-- what is found on all levels
abbrev pub all_levels_finding : {S E : Type 0} → (S → S → Bool) → Order S E → Index S E → Option Finding
all_levels_finding same o x = levels_read_finding same o x x.level (λ b. false) (root_downlinks x)

-- the set with the blocks in the chains of this level and those below it added
abbrev pub blocks_read :
    {S E : Type 0} → Index S E → (level : ℕ) → (ℕ → Bool) → List (Downlink S) → (ℕ → Bool) → ℕ → Bool
blocks_read x zero dead ds blocks = with_blocks blocks (walked_chain x ds)
blocks_read x (suc level) dead ds blocks =
    blocks_read x level (dead_below x dead ds) (downlinks_read x dead ds) (with_blocks blocks (walked_chain x ds))

-- the block stands in the chain of a level
abbrev pub is_block_read : {S E : Type 0} → Index S E → ℕ → Bool
is_block_read x =
    cond (x.root == 0) (λ b. false) (blocks_read x x.level (λ b. false) (root_downlinks x) (λ b. false))

-- what is found in the order of the work, without lists of downlinks
unfoldable pub read_finding : {S E : Type 0} → (S → S → Bool) → Order S E → Index S E → Option Finding
read_finding same o x =
    option_or
    (cond (x.root == 0) None
    (option_or (cond (are_roots_misplaced x) (Some (L1, 0)) None) (all_levels_finding same o x)))
    (unreached_finding x (is_block_read x))

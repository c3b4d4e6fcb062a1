-- What is found of the segments and the blocks of an index: the lists of a report, in its order.
use Rattle.std.specs.Prelude.{ℕ, zero, suc, ◌-◌, Bool, true, false, ◌==◌, ◌&&◌, is_none, List, [], ◌∷◌, Option, Some}
use Rattle.std.specs.Prelude.{None}
use Rattle.std.specs.Option.{option_or}
use Rattle.page_layout.specs.Page.{page_rule_of}
use Rattle.page_layout.specs.declared.page.PageKind.TheVariants.{Meta}
use Rattle.page_layout.specs.declared.rules.Rule.{Rule}
use Rattle.page_layout.specs.declared.rules.Rule.TheVariants.{M1, S1}
use Rattle.laws_levels.specs.Questions.{Finding as LevelFinding}
use Rattle.bt_meta.specs.Pages.{meta_of, meta_rule_of}
use Rattle.reports.specs.Added.{doubt_at, each_upto, finding_at, joined, nothing, report_lists}
use Rattle.reports.specs.Lists.{Lists}
use Rattle.reports.specs.declared.places.Place.TheVariants.{Block, Segment}
use Rattle.reports.specs.declared.places.Reason.{Reason}
use Rattle.reports.specs.declared.places.Reason.TheVariants.{U4}
use Rattle.reports.specs.declared.places.Rel.TheVariants.{Index}
use Rattle.bt_pages.specs.Trees.{Tree}
use Rattle.bt_pages.specs.Found.{block_lists, block_place}
use Rattle.bt_level_check.specs.Trees.{first_broken_in}

-- the segment that is too long
abbrev pub segment_lists : (number : ℕ) → (long : Option ℕ) → Lists
segment_lists number None = nothing
segment_lists number (Some k) = finding_at (Segment (Index number) k) (Some S1)

-- Block 0

-- P1 to P4, M1 and M2; without a block 0 it is M1. In a version before 4 M2 isn't asked.
unfoldable pub first_rule : (blocks : ℕ) → (page : List ℕ) → Option Rule
first_rule zero page = Some M1
first_rule (suc n) page = option_or (page_rule_of Meta page) (meta_rule_of page (suc n))

-- U4, where it breaks none of them and the version isn't 4
abbrev pub old_version : (keeps current : Bool) → Option Reason
old_version true false = Some U4
old_version true true = None
old_version false current = None

unfoldable pub first_doubt : (blocks : ℕ) → (page : List ℕ) → Option Reason
first_doubt blocks page = old_version (is_none (first_rule blocks page)) ((meta_of page).version == 4)

abbrev pub first_lists : Tree → Lists
first_lists tree =
    joined (finding_at (block_place tree 0) (first_rule tree.blocks (tree.block 0)))
    (doubt_at (block_place tree 0) (first_doubt tree.blocks (tree.block 0)))

-- The other blocks, which are judged where nothing is found of block 0

abbrev pub is_first_quiet : Tree → Bool
is_first_quiet tree =
    is_none (first_rule tree.blocks (tree.block 0)) && is_none (first_doubt tree.blocks (tree.block 0))

abbrev pub lists_where : (quiet : Bool) → Lists → Lists
lists_where true lists = lists
lists_where false lists = nothing

unfoldable pub other_lists : Tree → Lists
other_lists tree = each_upto report_lists (block_lists tree) (tree.blocks - 1)

-- the segments, block 0, and then the others by their numbers
unfoldable pub blocks_lists : Tree → Lists
blocks_lists tree = joined (first_lists tree) (lists_where (is_first_quiet tree) (other_lists tree))

unfoldable pub pages_lists : Tree → (long : Option ℕ) → Lists
pages_lists tree long = joined (segment_lists tree.number long) (blocks_lists tree)

-- The levels, which are judged where nothing is found of the segments and the blocks

-- a finding of a block
abbrev pub level_finding_lists : (number : ℕ) → Option LevelFinding → Lists
level_finding_lists number None = nothing
level_finding_lists number (Some f) = finding_at (Block (Index number) f.1) (Some f.0)

-- the first rule on levels that is broken
unfoldable pub level_lists : Tree → Lists
level_lists tree = level_finding_lists tree.number (first_broken_in tree)

abbrev pub is_nothing : {X : Type 0} → List X → Bool
is_nothing [] = true
is_nothing (x ∷ xs) = false

abbrev pub is_quiet : Lists → Bool
is_quiet lists = is_nothing lists.findings && is_nothing lists.unjudged

-- an index: its pages, and then its levels
unfoldable pub index_lists : Tree → (long : Option ℕ) → Lists
index_lists tree long =
    joined (pages_lists tree long) (lists_where (is_quiet (pages_lists tree long)) (level_lists tree))

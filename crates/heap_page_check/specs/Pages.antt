-- What is found of a page of a table.
use Rattle.std.specs.Prelude.{ℕ, Bool, List, [], ◌∷◌, length, Option, Some, None}
use Rattle.page_layout.specs.Page.{flags_of, has_bit, page_rule_of}
use Rattle.page_layout.specs.declared.page.PageKind.TheVariants.{Heap}
use Rattle.page_layout.specs.declared.rules.Rule.{Rule}
use Rattle.hot_chains.specs.Chains.{chain_rule}
use Rattle.liveness.specs.declared.states.ItemState.{ItemState}
use Rattle.toast_chunks.specs.declared.map.Chunk.{Chunk}
use Rattle.vis_map.specs.Rules.{map_rule_of}
use Rattle.vis_map.specs.declared.bits.MapBits.{MapBits}
use Rattle.reports.specs.Added.{each_upto, finding_at, joined, nothing, report_lists}
use Rattle.reports.specs.Lists.{Lists}
use Rattle.reports.specs.declared.places.Finding.{Finding}
use Rattle.reports.specs.declared.places.Place.TheVariants.{Block, Item}
use Rattle.reports.specs.declared.places.Rel.{Rel}
use Rattle.reports.specs.declared.places.UnjudgedPlace.{UnjudgedPlace}
use Rattle.heap_page_check.specs.Found.{FoundLists, both_found, items_found, only_listed, states_of}
use Rattle.heap_page_check.specs.Table.{Table, rel_of}

-- PD_ALL_VISIBLE: the page itself says that all its tuples are visible to everyone
unfoldable pub is_flagged_visible : List ℕ → Bool
is_flagged_visible page = has_bit (flags_of page) 0x0004

-- What is asked of all items together, by their states: whether the block is as visible as the map and the page
-- say, and what its chains break

unfoldable pub chain_found : Rel → ℕ → List ItemState → ℕ → Lists
chain_found rel block states i = finding_at (Item rel block i) (chain_rule block states i)

unfoldable pub joint_found : Rel → ℕ → MapBits → Bool → List ItemState → Lists
joint_found rel block bits flagged states =
    joined (finding_at (Block rel block) (map_rule_of bits flagged states))
    (each_upto report_lists (chain_found rel block states) (length states))

-- these lists where nothing was found before, and nothing is in doubt
abbrev pub if_silent : List Finding → List UnjudgedPlace → Lists → Lists
if_silent [] [] lists = lists
if_silent [] (u ∷ unjudged) lists = nothing
if_silent (f ∷ findings) unjudged lists = nothing

-- what the items give, each by itself, and then all together
abbrev pub with_joint : FoundLists → Lists → FoundLists
with_joint found joint = both_found found (only_listed (if_silent found.listed.findings found.listed.unjudged joint))

-- the page's own rule, or else what its items give
abbrev pub found_by_rule : Table → List Chunk → MapBits → ℕ → List ℕ → Option Rule → FoundLists
found_by_rule table chunks bits block page (Some rule) =
    only_listed (finding_at (Block (rel_of table.kind) block) (Some rule))
found_by_rule table chunks bits block page None =
    with_joint (items_found table chunks block page)
    (joint_found (rel_of table.kind) block bits (is_flagged_visible page) (states_of table page))

-- a page of a table in whose TOAST table these chunks stand, and of whose block the visibility map says so much
unfoldable pub page_found : Table → List Chunk → MapBits → ℕ → List ℕ → FoundLists
page_found table chunks bits block page = found_by_rule table chunks bits block page (page_rule_of Heap page)

-- What is found of the pages of a tree: the lists of a report, in its order.
use Rattle.std.specs.Prelude.{ℕ, Bool, true, false, List, Option, Some, None}
use Rattle.page_layout.specs.Page.{count_of}
use Rattle.page_layout.specs.declared.rules.Rule.{Rule}
use Rattle.bt_meta.specs.Pages.{is_idle}
use Rattle.reports.specs.Added.{doubt_at, each_upto, finding_at, joined, nothing, report_lists}
use Rattle.reports.specs.Lists.{Lists}
use Rattle.reports.specs.declared.places.Place.{Place}
use Rattle.reports.specs.declared.places.Place.TheVariants.{Block, Item}
use Rattle.reports.specs.declared.places.Rel.TheVariants.{Index}
use Rattle.bt_pages.specs.Trees.{Tree}
use Rattle.bt_pages.specs.Questions.{item_rule, lone_rule, own_doubt, sibling_rule}

-- where a report finds a block of an index, and an item of it
abbrev pub block_place : Tree → ℕ → Place
block_place tree b = Block (Index tree.number) b

abbrev pub item_place : Tree → ℕ → ℕ → Place
item_place tree b i = Item (Index tree.number) b i

-- an item of a page
unfoldable pub item_lists : Tree → ℕ → List ℕ → ℕ → Lists
item_lists tree b page i =
    joined (finding_at (item_place tree b i) (item_rule tree page i))
    (doubt_at (item_place tree b i) (own_doubt tree.specs tree.more page i))

-- all of them
unfoldable pub items_lists : Tree → ℕ → List ℕ → Lists
items_lists tree b page = each_upto report_lists (item_lists tree b page) (count_of page)

-- a page: a rule of its own, or else, of a page that is part of the tree, what its siblings and its items break
abbrev pub lists_by : Tree → ℕ → List ℕ → Option Rule → (idle : Bool) → Lists
lists_by tree b page (Some rule) idle = finding_at (block_place tree b) (Some rule)
lists_by tree b page None true = nothing
lists_by tree b page None false =
    joined (finding_at (block_place tree b) (sibling_rule tree b)) (items_lists tree b page)

unfoldable pub page_lists : Tree → ℕ → List ℕ → Lists
page_lists tree b page = lists_by tree b page (lone_rule page) (is_idle page)

-- a block of the index
abbrev pub block_lists : Tree → ℕ → Lists
block_lists tree b = page_lists tree b (tree.block b)

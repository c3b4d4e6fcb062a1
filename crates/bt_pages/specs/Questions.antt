-- The rules of the pages of a tree and of their items, in the order in which they are asked. What each says stands in
-- `bt_image` and in `bt_tuples`.
use Rattle.std.specs.Prelude.{ℕ, zero, suc, Bool, true, false, not, ◌==◌, ◌&&◌, nat_le, if◌then◌else◌, List, [], ◌∷◌}
use Rattle.std.specs.Prelude.{◌++◌, find, is_none, Option, Some, None}
use Rattle.page_layout.specs.Page.{breaks_page_rule, count_of}
use Rattle.page_layout.specs.declared.page.PageKind.TheVariants.{Tree as tree_kind}
use Rattle.page_layout.specs.declared.rules.Rule.{Rule}
use Rattle.page_layout.specs.declared.rules.Rule.TheVariants.{P1, P2, P3, P4, B1, B2, B3, B4, B5, B6, B7, B8, B9, B10}
use Rattle.page_layout.specs.declared.rules.Rule.TheVariants.{B11, B12, B13}
use Rattle.key_orders.specs.declared.columns.KeySpec.{KeySpec}
use Rattle.key_orders.specs.declared.more.MoreSpec.{MoreSpec}
use Rattle.bt_meta.specs.Flags.{is_half_dead, is_leaf}
use Rattle.bt_meta.specs.Pages.{is_idle, opaque_of}
use Rattle.bt_tuples.specs.Rules.{breaks_item_rule, has_packed, tuple_of}
use Rattle.bt_image.specs.Image.{downlink_in, first_data, item_at, spot_of}
use Rattle.bt_image.specs.Pages.{breaks_downlink, breaks_flags, breaks_half_dead, breaks_high_key, breaks_items}
use Rattle.bt_image.specs.Pages.{breaks_level, breaks_order, breaks_siblings}
use Rattle.reports.specs.declared.places.Reason.{Reason}
use Rattle.reports.specs.declared.places.Reason.TheVariants.{U5}
use Rattle.bt_pages.specs.Trees.{Tree}

-- The page

-- this rule is one of P1 to P4 and B1 to B4, and the page breaks it
abbrev pub breaks_lone_rule : List ℕ → Rule → Bool
breaks_lone_rule page B1 = breaks_flags page
breaks_lone_rule page B2 = breaks_level page
breaks_lone_rule page B3 = breaks_half_dead page
breaks_lone_rule page B4 = breaks_items page
breaks_lone_rule page rule = breaks_page_rule tree_kind page rule

-- those that are asked: of a page that is no part of the tree no more than its header and its flags
abbrev pub laws_levels : (idle : Bool) → List Rule
laws_levels true = B1 ∷ []
laws_levels false = B1 ∷ B2 ∷ B3 ∷ B4 ∷ []

abbrev pub lone_rules : (idle : Bool) → List Rule
lone_rules idle = P1 ∷ P2 ∷ P3 ∷ P4 ∷ laws_levels idle

-- the first that a page breaks; one that breaks any isn't judged further
unfoldable pub lone_rule : List ℕ → Option Rule
lone_rule page = find (breaks_lone_rule page) (lone_rules (is_idle page))

-- B12 of a block, which its items are judged beside
unfoldable pub sibling_rule : Tree → ℕ → Option Rule
sibling_rule tree b = if breaks_siblings tree.blocks tree.block b then Some B12 else None

-- An item by itself

-- Of a half-dead leaf's item, its high key, only the place and the size are asked.
abbrev pub own_rules : (half_dead : Bool) → List Rule
own_rules true = B5 ∷ B6 ∷ []
own_rules false = B5 ∷ B6 ∷ B7 ∷ B8 ∷ B9 ∷ []

-- the first that item i breaks
unfoldable pub own_rule : List KeySpec → List MoreSpec → List ℕ → ℕ → Option Rule
own_rule specs more page i =
    find (breaks_item_rule specs more (spot_of page i) page i) (own_rules (is_half_dead (opaque_of page)))

-- U5, where it breaks none of them and a value is compressed
abbrev pub doubt_by : (half_dead : Bool) → Option Rule → (packed : Bool) → Option Reason
doubt_by false None true = Some U5
doubt_by false None false = None
doubt_by false (Some rule) packed = None
doubt_by true rule packed = None

unfoldable pub own_doubt : List KeySpec → List MoreSpec → List ℕ → ℕ → Option Reason
own_doubt specs more page i =
    doubt_by (is_half_dead (opaque_of page)) (own_rule specs more page i) (has_packed specs more (tuple_of page i))

-- neither a rule nor that
unfoldable pub is_without_fault : List KeySpec → List MoreSpec → List ℕ → ℕ → Bool
is_without_fault specs more page i = is_none (own_rule specs more page i) && is_none (own_doubt specs more page i)

-- so it is of the items 1 to n
unfoldable pub are_plain : List KeySpec → List MoreSpec → List ℕ → ℕ → Bool
are_plain specs more page zero = true
are_plain specs more page (suc n) = are_plain specs more page n && is_without_fault specs more page (suc n)

-- An item among the others

-- this rule is one of B5 to B11, and item i breaks it; B11 has its place at item 1, the high key
abbrev pub breaks_on_page : List KeySpec → List MoreSpec → List ℕ → ℕ → Rule → Bool
breaks_on_page specs more page i B10 = breaks_order specs more page i
breaks_on_page specs more page i B11 = (i == 1) && breaks_high_key specs more page
breaks_on_page specs more page i rule = breaks_item_rule specs more (spot_of page i) page i rule

-- the order of items is asked where each of them is plain, and of no half-dead leaf
abbrev pub order_rules : (half_dead plain : Bool) → List Rule
order_rules false true = B10 ∷ B11 ∷ []
order_rules false false = []
order_rules true plain = []

abbrev pub rules_by : (half_dead plain : Bool) → List Rule
rules_by half_dead plain = own_rules half_dead ++ order_rules half_dead plain

abbrev pub rules_on_page : List KeySpec → List MoreSpec → List ℕ → List Rule
rules_on_page specs more page = rules_by (is_half_dead (opaque_of page)) (are_plain specs more page (count_of page))

-- the first that it breaks
unfoldable pub rule_on_page : List KeySpec → List MoreSpec → List ℕ → ℕ → Option Rule
rule_on_page specs more page i = find (breaks_on_page specs more page i) (rules_on_page specs more page)

-- All of an item

-- and B13
abbrev pub breaks_item : Tree → List ℕ → ℕ → Rule → Bool
breaks_item tree page i B13 =
    breaks_downlink tree.blocks tree.block (opaque_of page).level (downlink_in (item_at tree.specs tree.more page i))
breaks_item tree page i rule = breaks_on_page tree.specs tree.more page i rule

-- which is asked of the data items of an internal page, last
abbrev pub has_downlink : List ℕ → ℕ → Bool
has_downlink page i = not (is_leaf (opaque_of page)) && nat_le (first_data page) i

abbrev pub downlink_rules : (has_downlink : Bool) → List Rule
downlink_rules true = B13 ∷ []
downlink_rules false = []

abbrev pub item_rules : List KeySpec → List MoreSpec → List ℕ → ℕ → List Rule
item_rules specs more page i = rules_on_page specs more page ++ downlink_rules (has_downlink page i)

-- the first of all rules that it breaks
unfoldable pub item_rule : Tree → List ℕ → ℕ → Option Rule
item_rule tree page i = find (breaks_item tree page i) (item_rules tree.specs tree.more page i)

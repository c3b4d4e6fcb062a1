-- What an item of a tree page means, and the order in which its rules are asked.
use Rattle.std.specs.Prelude.{ℕ, ◌<◌, Bool, true, false, if◌then◌else◌, List, [], ◌∷◌, length, take, drop, find, Option}
use Rattle.std.specs.Prelude.{Some, None, Result, Ok, Err}
use Rattle.page_layout.specs.declared.page.LineFlag.{LineFlag}
use Rattle.page_layout.specs.declared.page.LineFlag.TheVariants.{Unused, Normal, Redirect, Dead}
use Rattle.page_layout.specs.declared.rules.Rule.{Rule}
use Rattle.page_layout.specs.declared.rules.Rule.TheVariants.{B5, B6, B7, B8, B9}
use Rattle.page_layout.specs.Page.{item_of}
use Rattle.laws_search.specs.Keys.{Separator}
use Rattle.key_orders.specs.declared.columns.KeySpec.{KeySpec}
use Rattle.key_orders.specs.declared.columns.Value.{Value}
use Rattle.key_orders.specs.declared.more.MoreSpec.{MoreSpec}
use Rattle.key_orders.specs.declared.Tid.{Tid}
use Rattle.key_orders.specs.Keys.{IsKey, IsKeySeparator}
use Rattle.key_attrs.specs.Keyed.{KeyValues}
use Rattle.bt_meta.specs.declared.records.HeadKind.{HeadKind}
use Rattle.bt_meta.specs.declared.records.HeadKind.TheVariants as head
use Rattle.bt_meta.specs.Heads.{tree_head_of}
use Rattle.bt_tuples.specs.declared.items.ItemFault.{ItemFault}
use Rattle.bt_tuples.specs.declared.items.ItemFault.TheVariants.{Broken, Packed}
use Rattle.bt_tuples.specs.declared.items.Spot3.{Spot3}
use Rattle.bt_tuples.specs.Rules.{begins_past_end, breaks_form, breaks_item_rule, breaks_place, breaks_size}
use Rattle.bt_tuples.specs.Rules.{breaks_tids, includes_some, is_packed, is_unread, tuple_of}
use Rattle.bt_tuples.specs.Tuples.{kept_tid, plain_tid, tids_in, values_in}

-- a separator with its downlink; an entry of a leaf with its TID; entries of a leaf with one key and several TIDs
pub data Item : Type 0 where
  Pivot : (sep : Separator Value Tid) (down : ℕ) → Item
  Plain : (key more : List Value) (tid : Tid) (killed : Bool) → Item
  Posting : (key : List Value) (tids : List Tid) (killed : Bool) → Item

-- the line pointer of a killed item is dead
abbrev pub is_dead : LineFlag → Bool
is_dead Unused = false
is_dead Normal = false
is_dead Redirect = false
is_dead Dead = true

-- the values, where they can be told
abbrev pub values_or_none : KeyValues → List Value
values_or_none (Ok values) = values
values_or_none (Err e) = []

-- what a tuple with these values means in an index of so many key columns
abbrev pub meaning_by : HeadKind → (columns : ℕ) → (tuple : List ℕ) → (killed : Bool) → List Value → Item
meaning_by head.Pivot columns tuple killed values =
    Pivot (record { kept = values; tid = kept_tid tuple }) (tree_head_of tuple).block
meaning_by head.Plain columns tuple killed values =
    Plain (take columns values) (drop columns values) (plain_tid (tree_head_of tuple)) killed
meaning_by head.Posting columns tuple killed values = Posting (take columns values) (tids_in tuple) killed

unfoldable pub meaning_of : List KeySpec → List MoreSpec → List ℕ → (killed : Bool) → Item
meaning_of specs more tuple killed =
    meaning_by (tree_head_of tuple).kind (length specs) tuple killed (values_or_none (values_in specs more tuple))

-- an item, or why it has no meaning
abbrev pub ItemOutcome : Type 0
ItemOutcome = Result Item ItemFault

-- what is asked of a tuple by its values, once its form is right: B8, B9, and whether one is compressed
abbrev pub outcome_by : KeyValues → (breaks_tids : Bool) → Item → ItemOutcome
outcome_by values broken meaning =
    if is_unread values then Err (Broken B8) else if broken then Err (Broken B9)
    else if is_packed values then Err Packed else Ok meaning

-- what is asked of the bytes of a tuple, in this order, and what it means
unfoldable pub tuple_outcome : List KeySpec → List MoreSpec → Spot3 → List ℕ → (killed : Bool) → ItemOutcome
tuple_outcome specs more spot tuple killed =
    if breaks_size tuple then Err (Broken B6)
    else if breaks_form spot (length specs) (includes_some more) (tree_head_of tuple) then Err (Broken B7)
    else if begins_past_end tuple then Err (Broken B8)
    else outcome_by (values_in specs more tuple) (breaks_tids tuple) (meaning_of specs more tuple killed)

-- item i of a page, at a place of this kind
unfoldable pub item_outcome : List KeySpec → List MoreSpec → Spot3 → List ℕ → ℕ → ItemOutcome
item_outcome specs more spot page i =
    if breaks_place page i then Err (Broken B5)
    else tuple_outcome specs more spot (tuple_of page i) (is_dead (item_of page i).flag)

-- the rule that an outcome names
abbrev pub rule_in : ItemOutcome → Option Rule
rule_in (Ok item) = None
rule_in (Err (Broken rule)) = Some rule
rule_in (Err Packed) = None

-- the rules of items, in the order in which they are asked
abbrev pub item_rules : List Rule
item_rules = B5 ∷ B6 ∷ B7 ∷ B8 ∷ B9 ∷ []

-- the first of them that item i breaks
unfoldable pub item_rule_of : List KeySpec → List MoreSpec → Spot3 → List ℕ → ℕ → Option Rule
item_rule_of specs more spot page i = find (breaks_item_rule specs more spot page i) item_rules

-- the values fit the columns of the index, so that they can be compared; a posting tuple has a TID
abbrev pub ItemFits : List KeySpec → Item → Type 0
ItemFits specs (Pivot sep down) = IsKeySeparator specs sep
ItemFits specs (Plain key more tid killed) = IsKey specs key
ItemFits specs (Posting key tids killed) = IsKey specs key × (0 < length tids)

-- What is found of a heap and an index of it together: the lists of a report, in its order.
use Rattle.std.specs.Prelude.{ℕ, ◌-◌, Bool, true, false, if◌then◌else◌, nat_lt, List, [], ◌∷◌, length, map, slice_get}
use Rattle.std.specs.Prelude.{Option, Some, None}
use Rattle.outside.specs.Adds.{Joins, each_below}
use Rattle.outside.specs.Outside.{Names}
use Rattle.page_layout.specs.Page.{count_of}
use Rattle.page_layout.specs.declared.rules.Rule.{Rule}
use Rattle.page_layout.specs.declared.rules.Rule.TheVariants.{X1, X2, X3}
use Rattle.key_attrs.specs.Columns.{TreeColumns}
use Rattle.key_orders.specs.declared.columns.Value.{Value}
use Rattle.key_orders.specs.declared.Tid.{Tid}
use Rattle.case_file.specs.Record.{CaseRecord}
use Rattle.bt_image.specs.Image.{first_data, item_at, keys_in}
use Rattle.bt_steps.specs.Pages.{is_live_leaf}
use Rattle.reports.specs.Added.{doubt_at, each_upto, finding_at, joined, nothing, report_lists}
use Rattle.reports.specs.Lists.{Lists}
use Rattle.reports.specs.declared.places.Finding.{Finding}
use Rattle.reports.specs.declared.places.UnjudgedPlace.{UnjudgedPlace}
use Rattle.reports.specs.declared.places.Place.TheVariants.{Entry, Tuple}
use Rattle.reports.specs.declared.places.Reason.TheVariants.{U6}
use Rattle.bt_levels.specs.Index.{case_columns, tree_of}
use Rattle.heap_rows.specs.Rows.{rows_of}
use Rattle.heap_rows.specs.declared.rows.LiveRow.{LiveRow}
use Rattle.join_rules.specs.Entries.{tree_entries, has_alive, may_be_named}
use Rattle.join_rules.specs.Rows.{key_numbers, more_numbers, values_at}
use Rattle.join_rules.specs.Unique.{is_duplicate}

-- what each of these gives, in their order
abbrev pub of_each : {L X : Type 0} → Joins L → (X → L) → List X → L
of_each lists f [] = lists.none
of_each lists f (x ∷ xs) = lists.join (f x) (of_each lists f xs)

-- Rows

-- X1, where the index hasn't an entry
abbrev pub missing_rule : (has : Bool) → Option Rule
missing_rule true = None
missing_rule false = Some X1

-- whether an index has an entry with a key, included values and a TID
abbrev pub Has : Type 0
Has = (key more : List Value) → Tid → Bool

-- a row with this key and these included values, or without some that can be read
abbrev pub row_lists_by : (number : ℕ) → Has → LiveRow → (key more : Option (List Value)) → Lists
row_lists_by number has row (Some key) (Some more) =
    finding_at (Tuple number row.tid) (missing_rule (has key more row.root))
row_lists_by number has row (Some key) None = doubt_at (Tuple number row.tid) (Some U6)
row_lists_by number has row None more = doubt_at (Tuple number row.tid) (Some U6)

-- a row of an index with these columns, which has such entries
unfoldable pub row_lists : (number : ℕ) → TreeColumns → Has → LiveRow → Lists
row_lists number columns has row =
    row_lists_by number has row (values_at (key_numbers columns) row.cells) (values_at (more_numbers columns) row.cells)

-- Entries

-- X2, where an entry may not name what it names
abbrev pub stray_rule : (may : Bool) → Option Rule
stray_rule true = None
stray_rule false = Some X2

-- an entry with this TID at item i of block b
abbrev pub entry_lists : (number : ℕ) → (Tid → Bool) → (b i : ℕ) → Tid → Lists
entry_lists number may b i tid = finding_at (Entry number b i tid) (stray_rule (may tid))

-- the entry at a number of an item, counted from 0, if it has so many
abbrev pub nth_lists : (number : ℕ) → (Tid → Bool) → (b i : ℕ) → Option Tid → Lists
nth_lists number may b i (Some tid) = entry_lists number may b i tid
nth_lists number may b i None = nothing

-- the TIDs of item i of a leaf, in their order, and what is found of each
abbrev pub tids_at : TreeColumns → List ℕ → ℕ → List Tid
tids_at columns page i = map (λ e. e.tid) (keys_in (item_at columns.specs columns.more page i))

abbrev pub tids_lists : (number : ℕ) → (Tid → Bool) → (b i : ℕ) → List Tid → Lists
tids_lists number may b i tids =
    each_below report_lists (λ k. nth_lists number may b i (slice_get tids k)) (length tids)

-- item i of block b: its entries, if it is a data item
unfoldable pub item_lists : (number : ℕ) → TreeColumns → (Tid → Bool) → (b : ℕ) → List ℕ → ℕ → Lists
item_lists number columns may b page i =
    if nat_lt i (first_data page) then nothing else tids_lists number may b i (tids_at columns page i)

-- the items of a page
unfoldable pub items_lists : (number : ℕ) → TreeColumns → (Tid → Bool) → (b : ℕ) → List ℕ → Lists
items_lists number columns may b page = each_upto report_lists (item_lists number columns may b page) (count_of page)

-- block b: its items, if it is a leaf in use and isn't half-dead
unfoldable pub leaf_lists : (number : ℕ) → TreeColumns → (Tid → Bool) → (b : ℕ) → List ℕ → Lists
leaf_lists number columns may b page =
    if is_live_leaf page then items_lists number columns may b page else nothing

-- all blocks but the metapage, by their numbers
unfoldable pub leaves_lists : (number : ℕ) → TreeColumns → (Tid → Bool) → (blocks : ℕ) → (ℕ → List ℕ) → Lists
leaves_lists number columns may blocks block =
    each_upto report_lists (λ b. leaf_lists number columns may b (block b)) (blocks - 1)

-- Index n of a case

-- the live rows by rising TID: U6 and X1
unfoldable pub rows_lists : CaseRecord → Names → ℕ → Lists
rows_lists case names n =
    of_each report_lists (row_lists n (case_columns case n) (has_alive (tree_entries (tree_of case names n))))
    (rows_of case names)

-- the entries by block, item and place in the item: X2
unfoldable pub entries_lists : CaseRecord → Names → ℕ → Lists
entries_lists case names n =
    leaves_lists n (case_columns case n) (may_be_named case names) (tree_of case names n).blocks
    (tree_of case names n).block

-- both
unfoldable pub joined_lists : CaseRecord → Names → ℕ → Lists
joined_lists case names n = joined (rows_lists case names n) (entries_lists case names n)

-- X3, where a row has the key of an earlier one
abbrev pub duplicate_rule : (duplicate : Bool) → Option Rule
duplicate_rule true = Some X3
duplicate_rule false = None

unfoldable pub duplicate_lists : CaseRecord → Names → ℕ → LiveRow → Lists
duplicate_lists case names n row = finding_at (Tuple n row.tid) (duplicate_rule (is_duplicate case names n row))

-- the live rows by rising TID: X3
unfoldable pub duplicates_lists : CaseRecord → Names → ℕ → Lists
duplicates_lists case names n = of_each report_lists (duplicate_lists case names n) (rows_of case names)

-- these findings and doubts, or others where there are none
abbrev pub or_else : List Finding → List UnjudgedPlace → Lists → Lists
or_else [] [] others = others
or_else [] (u ∷ us) others = record { findings = []; unjudged = u ∷ us }
or_else (f ∷ fs) us others = record { findings = f ∷ fs; unjudged = us }

-- all: keys are compared only where each live row has its entry, and each entry names what it may name
unfoldable pub indexed_lists : CaseRecord → Names → ℕ → Lists
indexed_lists case names n =
    or_else (joined_lists case names n).findings (joined_lists case names n).unjudged (duplicates_lists case names n)

-- What the entries of an index meet of the rows that are kept.
use Rattle.std.specs.Prelude.{◌≡◌, ℕ, Bool, true, not, List, [], ◌++◌, map, filter, if◌then◌else◌}
use Rattle.std.specs.List.{flat_map}
use Rattle.key_orders.specs.declared.Tid.{Tid}
use Rattle.laws_search.specs.Search.{tree_blocks}
use Rattle.key_attrs.specs.Columns.{TreeColumns}
use Rattle.bt_image.specs.Image.{LeafEntry, entries_in, item_at, page_entries}
use Rattle.bt_steps.specs.Pages.{is_live_leaf}
use Rattle.join_slots.specs.Met.{Keyed, keyed, met_after}
use Rattle.join_slots.specs.Slots.{SameRange, Tables, keys_in, met_in}

-- the entries that aren't killed, each by its TID and its values, those of included columns among them
abbrev pub is_alive : LeafEntry → Bool
is_alive e = not e.entry.killed

abbrev pub keyed_entry : LeafEntry → Keyed
keyed_entry e = keyed e.entry.tid (e.entry.values ++ e.more)

abbrev pub alive_in : List LeafEntry → List Keyed
alive_in es = map keyed_entry (filter is_alive es)

-- these entries met the rows that they name, and nothing else has changed
pub record HaveMet (es : List LeafEntry) (old new : Tables) : Type 0 where
  pub met : met_in new ≡ met_after (keys_in old) (alive_in es) (met_in old)
  pub keys : keys_in new ≡ keys_in old
  pub range : SameRange old new

-- some of these entries met the rows that they name, and nothing else has changed: each row that is met now would be
-- after all of them
pub record HaveMetSome (es : List LeafEntry) (old new : Tables) : Type 0 where
  pub sound : (tid : Tid) → met_in new tid ≡ true → met_after (keys_in old) (alive_in es) (met_in old) tid ≡ true
  pub keys : keys_in new ≡ keys_in old
  pub range : SameRange old new

-- the entries of item i of a page, one for each TID
unfoldable pub entries_at : TreeColumns → List ℕ → ℕ → List LeafEntry
entries_at columns page i = entries_in (item_at columns.specs columns.more page i)

-- the entries of a page of an index, if it is a leaf in use that isn't half-dead
unfoldable pub leaf_entries : TreeColumns → List ℕ → List LeafEntry
leaf_entries columns page = if is_live_leaf page then page_entries columns.specs columns.more page else []

-- those of all blocks but the metapage, by their numbers
unfoldable pub all_entries : TreeColumns → (blocks : ℕ) → (ℕ → List ℕ) → List LeafEntry
all_entries columns blocks block = flat_map (λ b. leaf_entries columns (block b)) (tree_blocks blocks)

-- Two entries with one key, as an index of one leaf.
use Rattle.std.proofs.Common.{◌≡◌, ◌≢◌, ◌≤◌, ◌<◌, ℕ, false, List, [], ◌∷◌, length, map, refl, arith}
use Rattle.std.specs.Prelude.{pos}
use Rattle.std.proofs.lemmas.List.Elements.{All-from_recursion}
use Rattle.laws_search.proofs.Rising.{adjacent_from_rising}
use Rattle.page_layout.specs.Writes.{block_bytes, u16_bytes}
use Rattle.key_orders.specs.declared.columns.ColType.TheVariants.{Int4}
use Rattle.key_orders.specs.declared.columns.KeySpec.{KeySpec}
use Rattle.key_orders.specs.declared.columns.Value.TheVariants.{Int}
use Rattle.key_orders.specs.Scans.{order_of}
use Rattle.bt_image.specs.Image.{LeafEntry, leaf_entry}
use Rattle.page_write.specs.Bodies.{body_flags, index_body, null_part, padding_before, stored_value, with_value, with_values}
use Rattle.page_write.specs.Pages.{zeros}
use Rattle.page_write.specs.Posting.{padded_list, posting_tuple}
use Rattle.page_write.specs.Tuples.{index_head_bytes, padded_body, plain_tuple, tid_bytes}
use Rattle.laws_built_index.specs.Items.{MayBeLaid, leaf_item, plain_item}
use Rattle.laws_built_index.specs.Sizes.{AreIndexable, entry_in, index_tree, items_for}

abbrev specs : List KeySpec
specs = record { column = 0; ctype = Int4; desc = false; nulls_first = false } ∷ []

abbrev entry : ℕ → ℕ → LeafEntry
entry key item = leaf_entry (Int (pos key) ∷ []) [] (record { block = 0; item = item }) false

abbrev es : List LeafEntry
es = entry 7 1 ∷ entry 7 2 ∷ []

one_tuple : leaf_item specs [] es
    ≡ 0 ∷ 0 ∷ 16 ∷ 0 ∷ 2 ∷ 32 ∷ 32 ∷ 32 ∷ 7 ∷ 0 ∷ 0 ∷ 0 ∷ 0 ∷ 0 ∷ 0 ∷ 0 ∷ 0 ∷ 0 ∷ 0 ∷ 0 ∷ 1 ∷ 0 ∷ 0 ∷ 0 ∷ 0 ∷ 0 ∷ 2 ∷ 0 ∷ 0 ∷ 0 ∷ 0 ∷ 0 ∷ []
unfolding posting_tuple padded_list padded_body index_head_bytes block_bytes u16_bytes tid_bytes zeros index_body null_part with_values with_value stored_value padding_before body_flags
one_tuple = refl

one_item : items_for specs [] es ≡ es ∷ []
unfolding posting_tuple padded_list padded_body index_head_bytes block_bytes u16_bytes tid_bytes zeros index_body null_part with_values with_value stored_value padding_before body_flags
one_item = refl

one_leaf : ((index_tree specs [] es).blocks ≡ 2) × ((index_tree specs [] es).root ≡ 1) × (((index_tree specs [] es).page 1).entries ≡ es ∷ [])
unfolding posting_tuple padded_list padded_body index_head_bytes block_bytes u16_bytes tid_bytes zeros index_body null_part with_values with_value stored_value padding_before body_flags plain_tuple
one_leaf = (refl, refl, refl)

no_entries : ((index_tree specs [] []).blocks ≡ 1) × ((index_tree specs [] []).root ≡ 0)
no_entries = (refl, refl)

-- such entries may be indexed
laid : (item : ℕ) → item ≢ 0 → item < 65536 → MayBeLaid specs [] (entry 7 item)
laid item some few = record {
  whole = refl;
  stand = (record { aligned = refl; fits = refl; short = tt }, tt);
  few = omega arith;
  tid = record { block = omega arith; item = few };
  some_item = some;
  alive = refl;
}

small : (item : ℕ) → length (plain_item specs [] (entry 7 item).entry []) ≤ 2704
unfolding plain_tuple padded_body index_head_bytes block_bytes u16_bytes zeros index_body null_part with_values with_value stored_value padding_before body_flags
small item = omega arith

pub two_entries : AreIndexable specs [] es
two_entries = record {
  columns = omega arith;
  each = All-from_recursion (MayBeLaid specs []) es (laid 1 (λ z. omega (arith, z)) (omega arith), (laid 2 (λ z. omega (arith, z)) (omega arith), tt));
  small = All-from_recursion (λ e. length (plain_item specs [] e.entry e.more) ≤ 2704) es (small 1, (small 2, tt));
  rising = adjacent_from_rising (order_of specs) (map entry_in es) ((refl, tt), (tt, tt));
}

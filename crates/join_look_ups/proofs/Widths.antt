-- How many values the entries of an index have.
use Rattle.std.proofs.Common.{◌≡◌, ◌≢◌, ◌∙◌, ℕ, ◌+◌, ◌<◌, ◌≤◌, inl, inr, Bool, true, false, List, [], ◌∷◌, ◌++◌, length, drop, refl, sym, ap, subst, arith, length-append, length-take-le}
use Rattle.std.specs.Prelude.{All, Contains, Ok, cond, ◌&&◌, take}
use Rattle.std.specs.List.{flat_map}
use Rattle.std.proofs.Math.ListN.{drop_of_length-le}
use Rattle.std.proofs.lemmas.Bool.{or_parts}
use Rattle.std.proofs.lemmas.List.{length-map}
use Rattle.std.proofs.lemmas.List.Elements.{All-contains_itself, Contains-append_cases}
use Rattle.outside.specs.Outside.{Names}
use Rattle.laws_search.specs.Search.{tree_blocks}
use Rattle.laws_search.proofs.Gather.{In-from_Contains, block_of}
use Rattle.page_layout.specs.Page.{item_of}
use Rattle.key_orders.specs.declared.columns.Value.{Value}
use Rattle.key_orders.specs.declared.Tid.{Tid}
use Rattle.key_attrs.specs.Columns.{TreeColumns}
use Rattle.key_attrs.specs.Keyed.{KeyValues, key_types, key_values, more_types}
use Rattle.bt_meta.specs.Heads.{tree_head_of}
use Rattle.bt_meta.specs.declared.records.HeadKind.{HeadKind}
use Rattle.bt_meta.specs.declared.records.HeadKind.TheVariants as head
use Rattle.bt_meta.specs.declared.records.TreeHead.{TreeHead}
use Rattle.bt_tuples.specs.Items.{is_dead, meaning_by, meaning_of, values_or_none}
use Rattle.bt_tuples.specs.Rules.{includes_some, is_pivot, is_posting, tuple_of}
use Rattle.bt_tuples.specs.Tuples.{body_in, columns_by, null_bits_in, plain_tid, tids_in, values_in}
use Rattle.bt_image.specs.Image.{LeafEntry, data_items, entries_in, item_at, leaf_entries_with_more, leaf_entry, page_entries}
use Rattle.bt_levels.specs.declared.sound.SoundTree.{SoundTree}
use Rattle.bt_levels.specs.Sound.{HoldsTree, block_count, held_block, index_columns, specs_of}
use Rattle.bt_steps.specs.Entries.{IsRead}
use Rattle.bt_steps.specs.Pages.{is_live_leaf}
use Rattle.bt_steps.proofs.Members.{either-in, first-in, from-data_items, from-map, none-in, other-in}
use Rattle.bt_steps.proofs.OnLeaf.{item-read, live-parts, page-readable}
use Rattle.bt_steps.proofs.Separators.{told-values, values-count}
use Rattle.join_look_ups.specs.Looking.{entries_of}

-- a key of so many values
abbrev pub HasKeyOf : ℕ → LeafEntry → Type 0
HasKeyOf n e = length e.entry.values ≡ n

-- a value for each column of the key, and included ones only where columns are included
abbrev pub FitsColumns : TreeColumns → LeafEntry → Type 0
FitsColumns columns e = HasKeyOf (length columns.specs) e × (columns.more ≡ [] → e.more ≡ [])

-- An item of a leaf

types-count : (columns : TreeColumns) (tuple : List ℕ) (kind : HeadKind) (h : TreeHead) (values : List Value) → is_pivot kind ≡ false → key_values (columns_by kind h columns.specs columns.more) (body_in tuple) (null_bits_in tuple) ≡ Ok values → length values ≡ length columns.specs + length columns.more
types-count columns tuple head.Pivot h values form told = absurd cc
types-count columns tuple head.Plain h values form told =
    values-count (key_types columns.specs ++ more_types columns.more) (body_in tuple) (null_bits_in tuple) values told
    ∙ length-append (key_types columns.specs) (more_types columns.more)
    ∙ (λ i. length-map columns.specs (λ k. k.ctype) i + length-map columns.more (λ m. m.ctype) i)
types-count columns tuple head.Posting h values form told =
    values-count (key_types columns.specs ++ more_types columns.more) (body_in tuple) (null_bits_in tuple) values told
    ∙ length-append (key_types columns.specs) (more_types columns.more)
    ∙ (λ i. length-map columns.specs (λ k. k.ctype) i + length-map columns.more (λ m. m.ctype) i)

fits-by : (columns : TreeColumns) (tuple : List ℕ) (killed : Bool) (values : List Value) (kind : HeadKind) → is_pivot kind ≡ false → length values ≡ length columns.specs + length columns.more → (e : LeafEntry) → Contains (entries_in (meaning_by kind (length columns.specs) tuple killed values)) e → FitsColumns columns e
fits-by columns tuple killed values head.Pivot form count e h = absurd cc
fits-by columns tuple killed values head.Plain form count e h =
    let n = length columns.specs in
    let one : LeafEntry = leaf_entry (take n values) (drop n values) (plain_tid (tree_head_of tuple)) killed in
    let behind : columns.more ≡ [] → drop n values ≡ [] = λ none.
    let few : length values ≤ n = omega (arith, count, ap length none) in
    drop_of_length-le values few in
    elim (either-in one e [] h) [
      | inl is ↦ subst (FitsColumns columns) is (length-take-le n values (omega (arith, count)), behind)
      | inr rest ↦ absurd (none-in e [] refl rest)
    ]
fits-by columns tuple killed values head.Posting form count e h =
    let n = length columns.specs in
    let from = from-map (λ (t : Tid). leaf_entry (take n values) [] t killed) (tids_in tuple) e h in
    subst (FitsColumns columns) from.2 (length-take-le n values (omega (arith, count)), λ none. refl)

item-fits : (columns : TreeColumns) (page : List ℕ) (i : ℕ) → IsRead columns page i → (e : LeafEntry) → Contains (entries_in (item_at columns.specs columns.more page i)) e → FitsColumns columns e
unfolding item_at meaning_of values_in
item-fits columns page i read e h =
    let tuple = tuple_of page i in
    let kind = (tree_head_of tuple).kind in
    let form = (or_parts (is_pivot kind) (includes_some columns.more && is_posting kind) read.rules.form).0 in
    let told = told-values (values_in columns.specs columns.more tuple) (or_parts _ _ read.rules.values).1 read.plain in
    let values = values_or_none (values_in columns.specs columns.more tuple) in
    let all : values ≡ told.0 = ap (λ (v : KeyValues). values_or_none v) told.1 in
    let count = ap length all ∙ types-count columns tuple kind (tree_head_of tuple) told.0 form told.1 in
    fits-by columns tuple (is_dead (item_of page i).flag) values kind form count e h

-- All of an index

from-flat_map : {X Y : Type 0} (f : X → List Y) (xs : List X) (y : Y) → Contains (flat_map f xs) y → (x : X) × Contains xs x × Contains (f x) y
from-flat_map f [] y h = absurd (none-in y [] refl h)
from-flat_map f (x ∷ xs) y h = elim (Contains-append_cases (f x) (flat_map f xs) y h) [
  | inl here ↦ (x, first-in x xs, here)
  | inr later ↦ (let rest = from-flat_map f xs y later in (rest.0, other-in x rest.0 xs rest.1, rest.2))
]

page-fits : (columns : TreeColumns) (blocks : ℕ) (block : ℕ → List ℕ) (b : ℕ) (e : LeafEntry) (live : Bool) → is_live_leaf (block b) ≡ live
    → ((i : ℕ) → is_live_leaf (block b) ≡ true → Contains (data_items (block b)) i → IsRead columns (block b) i)
    → Contains (cond live (page_entries columns.specs columns.more (block b)) []) e → FitsColumns columns e
page-fits columns blocks block b e false is read h = absurd (none-in e [] refl h)
page-fits columns blocks block b e true is read h =
    let at = from-flat_map (λ i. entries_in (item_at columns.specs columns.more (block b) i)) (data_items (block b)) e h in
    item-fits columns (block b) at.0 (read at.0 is at.1) e at.2

module _ (names : Names) (tree : SoundTree) (holds : HoldsTree names tree) where
  abbrev columns : TreeColumns
  columns = index_columns tree

  abbrev block : ℕ → List ℕ
  block = held_block names tree

  read-on : (b : ℕ) → b ≢ 0 → b < block_count tree → (i : ℕ) → is_live_leaf (block b) ≡ true → Contains (data_items (block b)) i → IsRead columns (block b) i
  read-on b some inside i live there =
      let parts = live-parts (block b) live in
      let readable = page-readable columns (block_count tree) block b (holds.pages.pages b some inside parts.1) in
      let item = from-data_items (block b) i there in
      item-read columns (block b) readable parts.0 parts.2 i item.from item.to

  pub entry-fits : (e : LeafEntry) → Contains (entries_of names tree) e → FitsColumns columns e
  entry-fits e h =
      let at = from-flat_map (λ b. leaf_entries_with_more columns.specs columns.more (block b)) (tree_blocks (block_count tree)) e h in
      let b : ℕ = at.0 in
      let inside = block_of (block_count tree) b (In-from_Contains (tree_blocks (block_count tree)) b at.1) in
      page-fits columns (block_count tree) block b e (is_live_leaf (block b)) refl (read-on b inside.0 inside.1) at.2

  pub entries-keyed : (n : ℕ) → n ≡ length (specs_of tree) → All (HasKeyOf n) (entries_of names tree)
  entries-keyed n count k d lt =
      let e = All-contains_itself (entries_of names tree) k d lt in
      (entry-fits _ e).0 ∙ sym count

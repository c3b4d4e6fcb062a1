-- The pages of a tree as they are laid: the bytes of their items.
use Rattle.std.specs.Prelude.{◌≡◌, ◌≤◌, ◌<◌, ◌+◌, ◌*◌, ◌==◌, ◌&&◌, ℕ, suc, if◌then◌else◌, List, [], ◌∷◌, ◌++◌}
use Rattle.std.specs.Prelude.{length, map, take, drop, Option, Some, None, is_some}
use Rattle.std.specs.List.{AllByRecursion, flat_map}
use Rattle.key_orders.specs.declared.columns.KeySpec.{KeySpec}
use Rattle.key_orders.specs.declared.more.MoreSpec.{MoreSpec}
use Rattle.bt_image.specs.Image.{LeafEntry}
use Rattle.page_write.specs.Pages.{room_for}
use Rattle.page_write.specs.Writing.{HoldsItems, free_bytes}
use Rattle.page_write.specs.declared.page.PageWriter.{PageWriter}
use Rattle.bt_meta.specs.declared.records.Opaque.{Opaque}
use Rattle.laws_building.specs.Built.{is_bottom, lay_level, lay_levels}
use Rattle.laws_built_index.specs.Items.{leaf_item}
use Rattle.laws_built_index.specs.Pages.{flags_of}
use Rattle.laws_built_index.specs.Trees.{IsPageFit, page_bytes}
use Rattle.bt_build.specs.declared.groups.Item.{Item}
use Rattle.bt_build.specs.declared.levels.Level.{Level}
use Rattle.bt_build.specs.Groups.{entries_in}
use Rattle.bt_build.specs.Levels.{AreAbove, BeginAt, ItemSheet, sheets_above}
use Rattle.bt_build.specs.Separators.{split_item}

-- the items of a leaf
abbrev pub leaf_tuples : List KeySpec → List MoreSpec → List LeafEntry → List Item → List (List ℕ)
leaf_tuples specs more es items = map (λ item. leaf_item specs more (entries_in es item)) items

-- downlinks to pages from block b on, with the separators before these entries
abbrev pub later_tuples : List KeySpec → List LeafEntry → (bounds : List ℕ) → (b : ℕ) → List (List ℕ)
later_tuples specs es [] b = []
later_tuples specs es (j ∷ bounds) b = split_item specs es j b ∷ later_tuples specs es bounds (suc b)

-- the items of a page above the leaves: the first keeps nothing
abbrev pub inner_tuples : List KeySpec → List LeafEntry → (bounds : List ℕ) → (b : ℕ) → List (List ℕ)
inner_tuples specs es [] b = []
inner_tuples specs es (j ∷ bounds) b = split_item specs es 0 b ∷ later_tuples specs es bounds (suc b)

-- the high key, before the first entry of the next page, if there is one
abbrev pub high_bound : List ℕ → Option ℕ
high_bound [] = None
high_bound (j ∷ bounds) = Some j

abbrev pub high_tuples : List KeySpec → List LeafEntry → Option ℕ → List (List ℕ)
high_tuples specs es None = []
high_tuples specs es (Some j) = split_item specs es j 0 ∷ []

-- what items take, with their line pointers
abbrev pub bytes_for : List (List ℕ) → ℕ
bytes_for tuples = 4 * length tuples + room_for tuples

-- of these items the first n were put on a page, behind those that it had, and the others have room
pub record AreBeingPut (old page : PageWriter) (tuples : List (List ℕ)) (n : ℕ) : Type 0 where
  pub holds : (front : List (List ℕ)) → HoldsItems old 8176 front → HoldsItems page 8176 (front ++ take n tuples)
  pub room : bytes_for (drop n tuples) ≤ free_bytes page

-- the bytes of a level's pages, and of all levels
abbrev pub level_bytes : List KeySpec → List MoreSpec → List ItemSheet → (number prev b : ℕ) → List ℕ
level_bytes specs more sheets number prev b = flat_map (page_bytes specs more) (lay_level sheets number prev b)

abbrev pub levels_bytes : List KeySpec → List MoreSpec → List (List ItemSheet) → (number b : ℕ) → List ℕ
levels_bytes specs more levels number b = flat_map (page_bytes specs more) (lay_levels levels number b)

-- what is still to be laid of a level, from a page on: with it the bytes are what they are to be
pub record AreLeftToLay (specs : List KeySpec) (more : List MoreSpec) (es : List LeafEntry) (sheets : List ItemSheet)
    (bounds : List ℕ) (number prev b : ℕ) (out target : List ℕ) : Type 0 where
  pub begin : BeginAt specs es sheets bounds
  pub fit : AllByRecursion (IsPageFit specs more) (lay_level sheets number prev b)
  pub whole : out ++ level_bytes specs more sheets number prev b ≡ target

-- the block of the next page, if there is one
abbrev pub block_behind : (b : ℕ) → (bounds : List ℕ) → ℕ
block_behind b bounds = if is_some (high_bound bounds) then suc b else 0

-- the special space of a page on a level
abbrev pub special_at : (number prev next : ℕ) → Opaque
special_at number prev next = record {
  prev = prev;
  next = next;
  level = number;
  flags = flags_of (is_bottom number) ((prev == 0) && (next == 0));
  cycle = 0;
}

-- what is still to be laid of a tree, from the level above one on: with it the bytes are what they are to be
pub record AreLevelsLeft (specs : List KeySpec) (more : List MoreSpec) (es : List LeafEntry) (below : Level)
    (ups : List Level) (end : ℕ) (out target : List ℕ) : Type 0 where
  pub above : AreAbove specs es below ups end
  pub low : below.number < below.first
  pub few : end ≤ 65536
  pub fit : AllByRecursion (IsPageFit specs more) (lay_levels (sheets_above specs es below ups) (suc below.number)
      (below.first + length below.bounds.items))
  pub whole : out ++ levels_bytes specs more (sheets_above specs es below ups) (suc below.number)
      (below.first + length below.bounds.items) ≡ target

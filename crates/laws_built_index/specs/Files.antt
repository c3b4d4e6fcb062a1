-- What holds of the file of an index with given entries.
use Rattle.std.specs.Prelude.{◌≡◌, ◌<◌, ℕ, List, map}
use Rattle.laws_search.specs.Searchable.{IsSearchable}
use Rattle.laws_levels.specs.Rules.{KeepsLevelRules}
use Rattle.laws_levels.specs.Sound.{HasSoundPages}
use Rattle.key_orders.specs.declared.columns.KeySpec.{KeySpec}
use Rattle.key_orders.specs.declared.more.MoreSpec.{MoreSpec}
use Rattle.key_orders.specs.Scans.{order_of}
use Rattle.bt_image.specs.Image.{LeafEntry, index_entries, index_image}
use Rattle.laws_building.specs.Fresh.{FindsAmong, IsFresh}
use Rattle.laws_built_index.specs.Sizes.{entry_in, splitter_of}
use Rattle.laws_built_index.specs.Trees.{ItemTree, built_block}

-- so many blocks, by their numbers, are those of a tree
pub record AreBlocksOf (specs : List KeySpec) (more : List MoreSpec) (x : ItemTree) (blocks : ℕ)
    (block : ℕ → List ℕ) : Type 0 where
  pub count : blocks ≡ x.blocks
  pub each : (b : ℕ) → b < blocks → block b ≡ built_block specs more x b

-- the blocks have what a search needs, break no rule on levels, and have these entries and no others, by block number
-- in their order; each scan finds those of them that it wants
pub record IsFileOf (specs : List KeySpec) (more : List MoreSpec) (blocks : ℕ) (block : ℕ → List ℕ)
    (es : List LeafEntry) : Type 0 where
  pub searchable : IsSearchable (order_of specs) (index_image specs more blocks block)
  pub sound_pages : HasSoundPages (order_of specs) (index_image specs more blocks block)
  pub rules : KeepsLevelRules (order_of specs) (index_image specs more blocks block)
  pub fresh : IsFresh (order_of specs) (splitter_of specs) (index_image specs more blocks block)
  pub entries : index_entries specs more blocks block ≡ es
  pub found : FindsAmong (order_of specs) (index_image specs more blocks block) (map entry_in es)

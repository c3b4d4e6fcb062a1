-- The bytes of a tree of items, and what its pages need so that they can be laid.
use Rattle.std.specs.Prelude.{◌≡◌, ◌≢◌, ◌<◌, ℕ, not, ◌==◌, ◌&&◌, Bool, true, false, if◌then◌else◌, List, [], ◌∷◌, map}
use Rattle.std.specs.Prelude.{is_some, option_map}
use Rattle.std.specs.List.{AllByRecursion}
use Rattle.std.specs.Option.{ForSome}
use Rattle.laws_search.specs.Keys.{Entry, Separator}
use Rattle.laws_search.specs.Tree.{Index, Page}
use Rattle.key_orders.specs.declared.columns.KeySpec.{KeySpec}
use Rattle.key_orders.specs.declared.columns.Value.{Value}
use Rattle.key_orders.specs.declared.more.MoreSpec.{MoreSpec}
use Rattle.key_orders.specs.declared.Tid.{Tid}
use Rattle.bt_meta.specs.declared.records.Meta.{Meta}
use Rattle.bt_image.specs.Image.{LeafEntry, minus_infinity}
use Rattle.page_write.specs.Fields.{IsMeta, IsOpaque}
use Rattle.page_write.specs.Pages.{FitsBelow, meta_page}
use Rattle.laws_building.specs.Cuts.{joined}
use Rattle.laws_built_index.specs.Items.{MayBeItem, MaySplit, leaf_item, pivot_item}
use Rattle.laws_built_index.specs.Pages.{LaidPage, items_of, laid_bytes, special_of}

-- a tree whose leaves have items, each of one entry or more
abbrev pub ItemPage : Type 0
ItemPage = Page (Separator Value Tid) (List LeafEntry)

abbrev pub ItemTree : Type 0
ItemTree = Index (Separator Value Tid) (List LeafEntry)

-- what a search sees of a leaf's items
abbrev pub keys_of : List (List LeafEntry) → List (Entry Value Tid)
keys_of items = map (λ e. e.entry) (joined items)

-- The bytes

-- what an internal page leads to, and from which separator on
abbrev pub Children : Type 0
Children = List (Separator Value Tid × ℕ)

-- the data items of a leaf, or of an internal page
abbrev pub tuples_in : List KeySpec → List MoreSpec → (leaf : Bool) → List (List LeafEntry) → Children → List (List ℕ)
tuples_in specs more leaf items children =
    if leaf then map (leaf_item specs more) items else map (λ c. pivot_item specs c.1 c.0) children

-- the root stands alone on its level
abbrev pub laid_of : List KeySpec → List MoreSpec → ItemPage → LaidPage
laid_of specs more p = record {
  high = option_map (pivot_item specs 0) p.high_key;
  tuples = tuples_in specs more p.leaf p.entries p.children;
  prev = p.prev;
  next = p.next;
  level = p.level;
  leaf = p.leaf;
  root = (p.prev == 0) && (p.next == 0);
}

abbrev pub page_bytes : List KeySpec → List MoreSpec → ItemPage → List ℕ
page_bytes specs more p = laid_bytes (laid_of specs more p)

abbrev pub meta_in : ItemTree → Meta
meta_in x = record {
  magic = 0x00053162;
  version = 4;
  root = x.root;
  level = x.level;
  fastroot = x.fastroot;
  fastlevel = x.fastlevel;
}

-- the blocks, by their numbers
abbrev pub built_block : List KeySpec → List MoreSpec → ItemTree → ℕ → List ℕ
built_block specs more x b = if b == 0 then meta_page (meta_in x) else page_bytes specs more (x.page b)

-- What may be laid

-- an item of an internal page, but the first
pub record IsDownlink (specs : List KeySpec) (c : Separator Value Tid × ℕ) : Type 0 where
  pub splits : MaySplit specs c.0
  pub block : c.1 < 4294967296

-- the items of an internal page: the first keeps nothing
abbrev pub MayLead : List KeySpec → Children → Type 0
MayLead specs [] = ⊥
MayLead specs (c ∷ cs) =
    (c.0 ≡ minus_infinity) × (c.1 < 4294967296) × AllByRecursion (IsDownlink specs) cs

-- a leaf has items, an internal page downlinks
pub record HasItems (specs : List KeySpec) (more : List MoreSpec) (items : List (List LeafEntry))
    (children : Children) : Type 0 where
  pub none : children ≡ []
  pub some : items ≢ []
  pub each : AllByRecursion (MayBeItem specs more) items

pub record HasDownlinks (specs : List KeySpec) (items : List (List LeafEntry)) (children : Children) : Type 0 where
  pub none : items ≡ []
  pub each : MayLead specs children

pub record IsPageFit (specs : List KeySpec) (more : List MoreSpec) (p : ItemPage) : Type 0 where
  pub used : p.idle ≡ false
  pub alive : p.half_dead ≡ false
  pub unsplit : p.incomplete_split ≡ false
  pub high : ForSome p.high_key (MaySplit specs)
  pub high_with_next : is_some p.high_key ≡ not (p.next == 0)
  pub items : p.leaf ≡ true → HasItems specs more p.entries p.children
  pub downlinks : p.leaf ≡ false → HasDownlinks specs p.entries p.children
  pub room : FitsBelow 8176 (items_of (laid_of specs more p))
  pub fields : IsOpaque (special_of (laid_of specs more p))

-- there is a metapage, its numbers fit their fields, and each page may be laid
pub record IsTreeFit (specs : List KeySpec) (more : List MoreSpec) (x : ItemTree) : Type 0 where
  pub some : 0 < x.blocks
  pub numbers : IsMeta (meta_in x)
  pub pages : (b : ℕ) → b ≢ 0 → b < x.blocks → IsPageFit specs more (x.page b)

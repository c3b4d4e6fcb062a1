-- A page of a tree as it is laid, and what it means.
use Rattle.std.specs.Prelude.{◌≡◌, ◌≢◌, ℕ, not, ◌==◌, Bool, true, false, if◌then◌else◌, List, [], ◌∷◌, ◌++◌, map}
use Rattle.std.specs.Prelude.{Option, Some, None, is_some, option_map}
use Rattle.std.specs.List.{flat_map}
use Rattle.key_orders.specs.declared.columns.KeySpec.{KeySpec}
use Rattle.key_orders.specs.declared.more.MoreSpec.{MoreSpec}
use Rattle.bt_meta.specs.declared.records.Opaque.{Opaque}
use Rattle.bt_tuples.specs.Items.{Item, meaning_of}
use Rattle.bt_image.specs.Image.{LeafEntry, TreePage, child_in, entries_in, keys_in, separator_in}
use Rattle.page_write.specs.Fields.{IsOpaque}
use Rattle.page_write.specs.Pages.{FitsBelow, tree_page}

pub record LaidPage : Type 0 where
  -- the bytes of its high key, if it has one, and of its data items
  pub high : Option (List ℕ)
  pub tuples : List (List ℕ)
  pub prev : ℕ
  pub next : ℕ
  pub level : ℕ
  pub leaf : Bool
  pub root : Bool

-- BTP_LEAF and BTP_ROOT
abbrev pub flags_of : (leaf root : Bool) → ℕ
flags_of true true = 3
flags_of true false = 1
flags_of false true = 2
flags_of false false = 0

abbrev pub special_of : LaidPage → Opaque
special_of p =
    record { prev = p.prev; next = p.next; level = p.level; flags = flags_of p.leaf p.root; cycle = 0 }

-- the high key comes first
abbrev pub high_items : Option (List ℕ) → List (List ℕ)
high_items None = []
high_items (Some h) = h ∷ []

abbrev pub items_of : LaidPage → List (List ℕ)
items_of p = high_items p.high ++ p.tuples

abbrev pub laid_bytes : LaidPage → List ℕ
laid_bytes p = tree_page (items_of p) (special_of p)

-- its items have room, its numbers fit their fields, it has a high key where it has a right sibling, and a data item
pub record IsLaidWell (p : LaidPage) : Type 0 where
  pub room : FitsBelow 8176 (items_of p)
  pub fields : IsOpaque (special_of p)
  pub high_with_next : is_some p.high ≡ not (p.next == 0)
  pub some : p.tuples ≢ []

-- What it means

-- none of its items is killed
abbrev pub means : List KeySpec → List MoreSpec → List ℕ → Item
means specs more tuple = meaning_of specs more tuple false

abbrev pub laid_image : List KeySpec → List MoreSpec → LaidPage → TreePage
laid_image specs more p = record {
  idle = false;
  leaf = p.leaf;
  half_dead = false;
  incomplete_split = false;
  prev = p.prev;
  next = p.next;
  level = p.level;
  high_key = option_map (λ h. separator_in (means specs more h)) p.high;
  children = if p.leaf then [] else map (λ t. child_in (means specs more t)) p.tuples;
  entries = if p.leaf then flat_map (λ t. keys_in (means specs more t)) p.tuples else [];
}

-- the entries of its items, with their included values
abbrev pub laid_entries : List KeySpec → List MoreSpec → LaidPage → List LeafEntry
laid_entries specs more p = flat_map (λ t. entries_in (means specs more t)) p.tuples

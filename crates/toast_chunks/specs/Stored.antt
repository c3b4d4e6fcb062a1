-- What stands at an item of a page of a TOAST table.
use Rattle.std.specs.Prelude.{◌≡◌, ℕ, ◌<◌, false, List, [], ◌∷◌, Option, Some, None, Ok, Err, IsSome, All}
use Rattle.outside.specs.Outside.{Names}
use Rattle.page_layout.specs.Page.{item_of}
use Rattle.rel_files.specs.Blocks.{block_of}
use Rattle.rel_files.specs.Relation.{base_of, count_of, size_of}
use Rattle.rel_files.specs.declared.relation.Relation.{Relation}
use Rattle.tuple_head.specs.Head.{has_misplaced_attributes, has_more_attributes_than_columns, is_old_form}
use Rattle.tuple_head.specs.Head.{tuple_head_of}
use Rattle.varlena_attrs.specs.Forms.{Attribute}
use Rattle.varlena_attrs.specs.Reading.{Outcome}
use Rattle.heap_tuples.specs.Places.{IsTupleAt, tuple_at}
use Rattle.heap_tuples.specs.Tuples.{attributes_in}
use Rattle.toast_chunks.specs.declared.map.Chunk.{Chunk}
use Rattle.toast_chunks.specs.Rows.{content_in, row_of, toast_columns}

-- the bytes of its chunk
abbrev pub content_of : Outcome → Option (List ℕ)
content_of (Ok (id ∷ seq ∷ content ∷ [])) = content_in content
content_of (Ok []) = None
content_of (Ok (id ∷ [])) = None
content_of (Ok (id ∷ seq ∷ [])) = None
content_of (Ok (id ∷ seq ∷ content ∷ a ∷ list)) = None
content_of (Err e) = None

abbrev pub content_at : List ℕ → ℕ → Option (List ℕ)
content_at page item = content_of (attributes_in toast_columns (tuple_at page item))

-- the item is a tuple with attributes where they should be
pub record HasRow (page : List ℕ) (item : ℕ) : Type 0 where
  pub tuple : IsTupleAt page item
  pub form : is_old_form (tuple_head_of (tuple_at page item)) ≡ false
  pub columns : has_more_attributes_than_columns 3 (tuple_head_of (tuple_at page item)) ≡ false
  pub attributes : has_misplaced_attributes (item_of page item).len (tuple_head_of (tuple_at page item)) ≡ false

-- the item is the row of this chunk
pub record IsRowOf (page : List ℕ) (item : ℕ) (c : Chunk) : Type 0 where
  pub row : HasRow page item
  pub list : List Attribute
  pub read : attributes_in toast_columns (tuple_at page item) ≡ Ok list
  pub chunk : row_of list ≡ Some (record { id = c.id; seq = c.seq; size = c.size })

-- the chunk stands at its place in the relation
pub record StandsIn (names : Names) (toast : Relation) (c : Chunk) : Type 0 where
  pub block : c.tid.block < count_of toast
  pub item : IsRowOf (block_of names (base_of toast) (size_of toast) c.tid.block) c.tid.item c

-- each chunk that has a size stands at its place
abbrev pub AllStand : Names → Relation → List Chunk → Type 0
AllStand names toast chunks = All (λ c. IsSome c.size → StandsIn names toast c) chunks

-- The page that a reader has in hand, and the bytes that it takes from it.
use Rattle.std.specs.Prelude.{◌≡◌, ◌<◌, ◌++◌, ℕ, List, [], Option, Some, None, unwrap_or}
use Rattle.outside.specs.Outside.{Names}
use Rattle.rel_files.specs.Blocks.{block_of}
use Rattle.key_orders.specs.declared.Tid.{Tid}
use Rattle.rel_files.specs.Relation.{base_of, count_of, size_of}
use Rattle.rel_files.specs.declared.relation.Relation.{Relation}
use Rattle.toast_chunks.specs.Stored.{HasRow, content_at}

-- the page is this block of the relation, where it is said to be one
abbrev pub IsInHand : Names → Relation → Option ℕ → List ℕ → Type 0
IsInHand names toast None page = Unit {0}
IsInHand names toast (Some b) page = page ≡ block_of names (base_of toast) (size_of toast) b

-- some bytes were added at the end, or none
abbrev pub Grows : List ℕ → List ℕ → Type 0
Grows old new = (more : List ℕ) × (new ≡ old ++ more)

-- where a row stands at a place of the relation, the bytes of its chunk are added
abbrev pub PushesChunk : Names → Relation → Tid → List ℕ → List ℕ → Type 0
PushesChunk names toast tid old new =
    tid.block < count_of toast → HasRow (block_of names (base_of toast) (size_of toast) tid.block) tid.item
    → new ≡ old ++ unwrap_or (content_at (block_of names (base_of toast) (size_of toast) tid.block) tid.item) []

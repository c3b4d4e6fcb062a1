-- How a map finds the chunks of a value.
use Rattle.std.specs.Prelude.{◌≡◌, ℕ, ℤ, ◌<◌, true, List, length, Option, Some, None, unwrap_or}
use Rattle.std.specs.Prelude.{count_by, slice_get}
use Rattle.std.specs.declared.cmp.Ordering.{Ordering}
use Rattle.std.specs.Ordering.{int_cmp, nat_cmp, ordering_then}
use Rattle.std.specs.List.{HoldsAt}
use Rattle.std.specs.BTreeMap.{BTreeMap, get}
use Rattle.toast_chunks.specs.declared.map.Chunk.{Chunk}
use Rattle.toast_chunks.specs.declared.map.ChunkNumber.{ChunkNumber}
use Rattle.toast_chunks.specs.declared.value_chunks.ValueChunks.{ValueChunks}
use Rattle.toast_chunks.specs.declared.value_chunks.ValueChunks.TheVariants.{Empty}
use Rattle.toast_chunks.specs.Chunks.{is_numbered}
use Rattle.toast_chunks.specs.ValueChunks.{Describes}

-- numbers of chunks go by value, then by number
abbrev pub number_cmp : ChunkNumber → ChunkNumber → Ordering
number_cmp a b = ordering_then (nat_cmp a.id b.id) (int_cmp a.seq b.seq)

-- a place of a chunk of this number, or none where there is no such chunk
abbrev pub FindsPlace : List Chunk → ℕ → ℤ → Option ℕ → Type 0
FindsPlace chunks id seq None = count_by (is_numbered id seq) chunks ≡ 0
FindsPlace chunks id seq (Some i) = (i < length chunks) × HoldsAt (λ c. is_numbered id seq c ≡ true) chunks i

-- a chunk of this number, or none where there is no such chunk
abbrev pub FindsChunk : List Chunk → ℕ → ℤ → Option Chunk → Type 0
FindsChunk chunks id seq None = count_by (is_numbered id seq) chunks ≡ 0
FindsChunk chunks id seq (Some c) = (i : ℕ) × (slice_get chunks i ≡ Some c) × (is_numbered id seq c ≡ true)

-- The map knows of each value's chunks whether they are whole, and finds them by their numbers.
pub record IsIndexed (chunks : List Chunk) (values : BTreeMap ℕ ValueChunks) (places : BTreeMap ChunkNumber ℕ) : Type 0
  where
    pub described : (id : ℕ) → Describes chunks id (unwrap_or (get nat_cmp values id) Empty)
    pub found : (id : ℕ) (seq : ℤ) → FindsPlace chunks id seq (get number_cmp places (record { id = id; seq = seq }))

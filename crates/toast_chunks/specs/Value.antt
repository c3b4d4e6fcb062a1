-- The value of a pointer: the bytes of its chunks, joined.
use Rattle.std.specs.Prelude.{◌≡◌, ℕ, zero, suc, pos, true, false, List, [], ◌++◌, find, unwrap_or}
use Rattle.std.specs.Option.{option_map_or}
use Rattle.outside.specs.Outside.{Names}
use Rattle.rel_files.specs.Blocks.{block_of}
use Rattle.rel_files.specs.Relation.{base_of, size_of}
use Rattle.rel_files.specs.declared.relation.Relation.{Relation}
use Rattle.varlena_attrs.specs.declared.places.ToastPointer.{ToastPointer}
use Rattle.toast_chunks.specs.declared.map.Chunk.{Chunk}
use Rattle.toast_chunks.specs.declared.detoast.ToastState.{ToastState}
use Rattle.toast_chunks.specs.declared.detoast.ToastState.TheVariants.{Whole, Packed, Broken}
use Rattle.toast_chunks.specs.Chunks.{is_numbered, is_whole}
use Rattle.toast_chunks.specs.Pointer.{chunk_count, is_compressed, stored_size}
use Rattle.toast_chunks.specs.Stored.{content_at}

-- the bytes of a chunk at its place in a file, whose full segments have so many blocks
abbrev pub chunk_bytes : Names → List ℕ → ℕ → Chunk → List ℕ
chunk_bytes names file size c = unwrap_or (content_at (block_of names file size c.tid.block) c.tid.item) []

-- the bytes of chunk k of a value
abbrev pub numbered_bytes : Names → List ℕ → ℕ → List Chunk → ℕ → ℕ → List ℕ
numbered_bytes names file size chunks id k =
    option_map_or (chunk_bytes names file size) (find (is_numbered id (pos k)) chunks) []

-- the bytes of the chunks 0 to n - 1 of a value
abbrev pub joined_below : Names → List ℕ → ℕ → List Chunk → ℕ → ℕ → List ℕ
joined_below names file size chunks id zero = []
joined_below names file size chunks id (suc n) =
    joined_below names file size chunks id n ++ numbered_bytes names file size chunks id n

-- the bytes of all chunks of a pointer's value, by rising number
unfoldable pub joined_bytes : Names → List ℕ → ℕ → List Chunk → ToastPointer → List ℕ
joined_bytes names file size chunks p = joined_below names file size chunks p.value_id (chunk_count (stored_size p))

-- the same in a relation
abbrev pub value_of_pointer : Names → Relation → List Chunk → ToastPointer → List ℕ
value_of_pointer names toast chunks p = joined_bytes names (base_of toast) (size_of toast) chunks p

-- a value is broken, compressed, or whole
abbrev pub IsState : List Chunk → ToastPointer → ToastState → Type 0
IsState chunks p Broken = is_whole chunks p ≡ false
IsState chunks p Packed = (is_whole chunks p ≡ true) × (is_compressed p ≡ true)
IsState chunks p (Whole bytes) = (is_whole chunks p ≡ true) × (is_compressed p ≡ false)

-- the bytes of a whole value are these
abbrev pub HasBytes : ToastState → List ℕ → Type 0
HasBytes Broken bytes = Unit {0}
HasBytes Packed bytes = Unit {0}
HasBytes (Whole value) bytes = value ≡ bytes

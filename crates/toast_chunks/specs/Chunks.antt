-- The chunks of a TOAST table, and the values that they make.
use Rattle.std.specs.Prelude.{◌≡◌, ℕ, zero, suc, ℤ, pos, ◌<◌, Bool, true, false, ◌==◌, ◌&&◌, List, Option, Some, None}
use Rattle.std.specs.Prelude.{count_by}
use Rattle.std.specs.Ordering.{int_eq}
use Rattle.varlena_attrs.specs.declared.places.ToastPointer.{ToastPointer}
use Rattle.toast_chunks.specs.declared.map.Chunk.{Chunk}
use Rattle.toast_chunks.specs.Pointer.{chunk_count, chunk_size, stored_size}

-- the chunk is of this value
abbrev pub is_of : ℕ → Chunk → Bool
is_of id c = c.id == id

-- it is the value's chunk of this number
abbrev pub is_numbered : ℕ → ℤ → Chunk → Bool
is_numbered id seq c = c.id == id && int_eq c.seq seq

abbrev pub has_size : Option ℕ → ℕ → Bool
has_size None size = false
has_size (Some n) size = n == size

-- it is that chunk, and has this size
abbrev pub is_fit : ℕ → ℕ → ℕ → Chunk → Bool
is_fit id k size c = is_numbered id (pos k) c && has_size c.size size

-- The chunks of a pointer's value are those that it should have, each once: there are as many as there should be, and
-- of each number one with its size.
pub record IsWhole (chunks : List Chunk) (p : ToastPointer) : Type 0 where
  pub count : count_by (is_of p.value_id) chunks ≡ chunk_count (stored_size p)
  pub each : (k : ℕ) → k < chunk_count (stored_size p)
      → count_by (is_fit p.value_id k (chunk_size (stored_size p) k)) chunks ≡ 1

abbrev pub all_below : (ℕ → Bool) → ℕ → Bool
all_below test zero = true
all_below test (suc n) = test n && all_below test n

-- the same as a test; where it is false, the pointer breaks H21
unfoldable pub is_whole : List Chunk → ToastPointer → Bool
is_whole chunks p =
    count_by (is_of p.value_id) chunks == chunk_count (stored_size p)
    && all_below
    (λ k. count_by (is_fit p.value_id k (chunk_size (stored_size p) k)) chunks == 1)
    (chunk_count (stored_size p))

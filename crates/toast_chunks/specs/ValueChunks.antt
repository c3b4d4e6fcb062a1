-- What a map keeps of the chunks of one value.
use Rattle.std.specs.Prelude.{◌≡◌, ℕ, ℤ, pos, negsuc, ◌+◌, ◌<◌, ◌≤◌, ◌^◌, Bool, false, ◌==◌, ◌&&◌, nat_lt}
use Rattle.std.specs.Prelude.{List, ◌++◌, count_by}
use Rattle.varlena_attrs.specs.declared.places.ToastPointer.{ToastPointer}
use Rattle.toast_chunks.specs.declared.map.Chunk.{Chunk}
use Rattle.toast_chunks.specs.declared.value_chunks.ValueChunks.{ValueChunks}
use Rattle.toast_chunks.specs.declared.value_chunks.ValueChunks.TheVariants.{Empty, Fit, Unfit}
use Rattle.toast_chunks.specs.Chunks.{IsWhole, has_size, is_fit, is_numbered, is_of}

-- the number is one of 0 to n - 1
abbrev pub is_below : ℤ → ℕ → Bool
is_below (pos k) n = nat_lt k n
is_below (negsuc k) n = false

-- it is a full chunk of the value, of a number below n
abbrev pub is_full_below : ℕ → ℕ → Chunk → Bool
is_full_below id n c = c.id == id && is_below c.seq n && has_size c.size 1996

-- The value has so many chunks, and each number at most once. One of them is the last, with this size, and the others
-- are full, with lower numbers.
pub record IsFit (chunks : List Chunk) (id count last size : ℕ) : Type 0 where
  pub counted : count_by (is_of id) chunks ≡ count
  pub once : (k : ℕ) → count_by (is_numbered id (pos k)) chunks ≤ 1
  pub ended : count_by (is_fit id last size) chunks ≡ 1
  pub full : count_by (is_full_below id last) chunks + 1 ≡ count
  pub limit : last < 2 ^ 31

-- no pointer's value is whole with these chunks, whatever chunks there are besides
abbrev pub IsNeverWhole : List Chunk → ℕ → Type 0
IsNeverWhole chunks id = (more : List Chunk) (p : ToastPointer) → p.value_id ≡ id → IsWhole (chunks ++ more) p → ⊥

-- what is kept of a value tells this of its chunks
abbrev pub Describes : List Chunk → ℕ → ValueChunks → Type 0
Describes chunks id Empty = count_by (is_of id) chunks ≡ 0
Describes chunks id (Fit count last size) = IsFit chunks id count last size
Describes chunks id Unfit = IsNeverWhole chunks id

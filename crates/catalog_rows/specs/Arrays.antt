-- Arrays as they are stored: five numbers of four bytes, and the elements behind them. An int2vector and an oidvector
-- are such arrays, of one dimension and numbered from 0. Places count from 0 in the content, which has no header.
use Rattle.std.specs.Prelude.{◌≡◌, ℕ, ◌+◌, ◌*◌, ◌≤◌, Bool, ◌==◌, ◌&&◌, nat_le, if◌then◌else◌, ℤ, List, length, map}
use Rattle.std.specs.Prelude.{Option, Some, None}
use Rattle.std.specs.Int.{cast_signed, w16}
use Rattle.std.specs.List.{EachIndex, range_with_len, slice_get}
use Rattle.page_layout.specs.Page.{u16_at, u32_at}

-- the oids of the types int2 and oid
abbrev pub int2_oid : ℕ
int2_oid = 21

abbrev pub oid_oid : ℕ
oid_oid = 26

-- An array of one dimension without nulls: the count of dimensions, 0 where another array would say where its values
-- begin behind null bits, the type of its elements, how many there are, and the number of the first.
pub record IsArray (content : List ℕ) (element_type count first : ℕ) : Type 0 where
  pub room : 20 ≤ length content
  pub dimensions : u32_at content 0 ≡ 1
  pub nulls : u32_at content 4 ≡ 0
  pub type_oid : u32_at content 8 ≡ element_type
  pub elements : u32_at content 12 ≡ count
  pub numbered : u32_at content 16 ≡ first

-- the numbers of an int2vector, which may be below 0
pub record IsInt2Vector (content : List ℕ) (numbers : List ℤ) : Type 0 where
  pub array : IsArray content int2_oid (length numbers) 0
  pub ends : length content ≡ 20 + 2 * length numbers
  pub each : EachIndex numbers (λ k. slice_get numbers k ≡ Some (cast_signed w16 (u16_at content (20 + 2 * k))))

-- the oids of an oidvector
pub record IsOidVector (content : List ℕ) (oids : List ℕ) : Type 0 where
  pub array : IsArray content oid_oid (length oids) 0
  pub ends : length content ≡ 20 + 4 * length oids
  pub each : EachIndex oids (λ k. slice_get oids k ≡ Some (u32_at content (20 + 4 * k)))

-- The same as functions.

-- the head of an array of some count of elements of a type, the first of which has a number
unfoldable pub is_array : List ℕ → ℕ → ℕ → Bool
is_array content element_type first =
    nat_le 20 (length content) && u32_at content 0 == 1 && u32_at content 4 == 0
    && u32_at content 8 == element_type
    && u32_at content 16 == first

-- how many elements it states
unfoldable pub stated_count : List ℕ → ℕ
stated_count content = u32_at content 12

-- a vector of elements of a type, of so many bytes each, and nothing behind them
unfoldable pub is_vector : List ℕ → ℕ → ℕ → Bool
is_vector content element_type size =
    is_array content element_type 0 && length content == 20 + size * stated_count content

-- the element of a number, counted from 0
unfoldable pub int2_in : List ℕ → ℕ → ℤ
int2_in content k = cast_signed w16 (u16_at content (20 + 2 * k))

unfoldable pub oid_in : List ℕ → ℕ → ℕ
oid_in content k = u32_at content (20 + 4 * k)

-- the numbers of an int2vector, if the content is one
unfoldable pub int2s_in : List ℕ → Option (List ℤ)
int2s_in content =
    if is_vector content int2_oid 2 then Some (map (int2_in content) (range_with_len 0 (stated_count content)))
    else None

-- the oids of an oidvector, if the content is one
unfoldable pub oids_in : List ℕ → Option (List ℕ)
oids_in content =
    if is_vector content oid_oid 4 then Some (map (oid_in content) (range_with_len 0 (stated_count content)))
    else None

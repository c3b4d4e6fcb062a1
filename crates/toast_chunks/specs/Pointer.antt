-- What a pointer to a TOAST value says of it.
use Rattle.std.specs.Prelude.{◌≡◌, ℕ, ℤ, pos, negsuc, ◌+◌, ◌-◌, ◌*◌, ◌/◌, ◌%◌, ◌^◌, ◌≤◌, Bool, true, not, ◌&&◌, ◌||◌}
use Rattle.std.specs.Prelude.{nat_le, nat_lt, min}
use Rattle.varlena_attrs.specs.declared.places.ToastPointer.{ToastPointer}

abbrev size_of : ℤ → ℕ
size_of (pos n) = n
size_of (negsuc n) = 0

-- the bytes of the value before compression, with a header of 4; a negative size counts as 0
abbrev pub raw_size : ToastPointer → ℕ
raw_size p = size_of p.raw_size

-- its bytes in the TOAST table, in the low 30 bits
unfoldable pub stored_size : ToastPointer → ℕ
stored_size p = p.ext_info % 2 ^ 30

-- the method of compression, in the other two
unfoldable pub method_of : ToastPointer → ℕ
method_of p = p.ext_info / 2 ^ 30

-- fewer bytes are stored than the value has without its header
abbrev pub is_compressed : ToastPointer → Bool
is_compressed p = nat_lt (stored_size p + 4) (raw_size p)

-- the sizes are in range, no more is stored than there is, and a compressed value has a known method
pub record KeepsPointerRule (p : ToastPointer) : Type 0 where
  pub least : 4 ≤ raw_size p
  pub most : raw_size p ≤ 1073741823
  pub stored : stored_size p + 4 ≤ raw_size p
  pub method : is_compressed p ≡ true → method_of p ≤ 1

-- the same as a test; where it is false, the pointer breaks H20
unfoldable pub keeps_pointer_rule : ToastPointer → Bool
keeps_pointer_rule p =
    nat_le 4 (raw_size p) && nat_le (raw_size p) 1073741823 && nat_le (stored_size p + 4) (raw_size p)
    && (not (is_compressed p) || nat_le (method_of p) 1)

-- A value of so many stored bytes is cut into this many chunks, numbered from 0. Each has 1996 bytes, and the last the
-- rest.
unfoldable pub chunk_count : ℕ → ℕ
chunk_count stored = (stored + 1995) / 1996

unfoldable pub chunk_size : ℕ → ℕ → ℕ
chunk_size stored k = min 1996 (stored - 1996 * k)

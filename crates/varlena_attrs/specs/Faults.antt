-- What can be wrong with a stored attribute, so that its column has no next place.
use Rattle.std.specs.Prelude.{◌≡◌, ◌≢◌, ℕ, ◌+◌, ◌/◌, ◌%◌, ◌<◌, ◌≤◌, List, length, slice_index, Some, None}
use Rattle.key_orders.specs.declared.columns.ColType.{ColType}
use Rattle.key_orders.specs.Types.{alignment_of, fixed_length}
use Rattle.varlena_attrs.specs.declared.forms.Cause.{Cause}
use Rattle.varlena_attrs.specs.declared.forms.Cause.TheVariants.{PastEnd, BadHeader, BadTag}
use Rattle.varlena_attrs.specs.Forms.{BeginsAt, IsAligned, long_length}

-- there is no first byte, no tag behind a first byte of 1, or a length of 4 bytes that is cut off
pub data HeaderPassesEnd (body : List ℕ) (start : ℕ) : Type 0 where
  no_byte : length body ≤ start → HeaderPassesEnd body start
  no_tag : slice_index body start ≡ 1 → length body < start + 2 → HeaderPassesEnd body start
  cut_length : slice_index body start % 2 ≡ 0 → length body < start + 4 → HeaderPassesEnd body start

-- the first byte is 1, and the next isn't the tag of a TOAST pointer
pub record HasUnknownTag (body : List ℕ) (start : ℕ) : Type 0 where
  pub one : slice_index body start ≡ 1
  pub tag : slice_index body (start + 1) ≢ 18

-- the length doesn't reach over the 4 bytes of its own header, or in a compressed value over the size behind it
pub data HasLowLength (body : List ℕ) (start : ℕ) : Type 0 where
  low_long : slice_index body start % 4 ≡ 0 → long_length body start < 4 → HasLowLength body start
  low_packed : slice_index body start % 4 ≡ 2 → long_length body start < 8 → HasLowLength body start

-- a TOAST pointer, or as many bytes as the length says, are not there
pub data ContentPassesEnd (body : List ℕ) (start : ℕ) : Type 0 where
  cut_pointer : slice_index body start ≡ 1 → length body < start + 18 → ContentPassesEnd body start
  cut_short :
      slice_index body start % 2 ≡ 1 → slice_index body start ≢ 1 → length body < start + slice_index body start / 2
      → ContentPassesEnd body start
  cut_long : slice_index body start % 2 ≡ 0 → length body < start + long_length body start → ContentPassesEnd body start

-- the first fault of the varlena that begins at a place: its header, its tag, its length and its content, in this order
pub data IsFirstFault (body : List ℕ) (start : ℕ) (cause : Cause) : Type 0 where
  in_header : HeaderPassesEnd body start → cause ≡ PastEnd → IsFirstFault body start cause
  in_tag : ¬ HeaderPassesEnd body start → HasUnknownTag body start → cause ≡ BadTag → IsFirstFault body start cause
  in_length :
      ¬ HeaderPassesEnd body start → ¬ HasUnknownTag body start → HasLowLength body start → cause ≡ BadHeader
      → IsFirstFault body start cause
  in_content :
      ¬ HeaderPassesEnd body start → ¬ HasUnknownTag body start → ¬ HasLowLength body start
      → ContentPassesEnd body start → cause ≡ PastEnd → IsFirstFault body start cause

-- why a stored attribute of a type has no place after it, from a place on
pub data HasFault (ctype : ColType) (body : List ℕ) (place : ℕ) (cause : Cause) : Type 0 where
  fixed_fault :
      (len start : ℕ) → fixed_length ctype ≡ Some len → IsAligned (alignment_of ctype) place start
      → length body < start + len → cause ≡ PastEnd → HasFault ctype body place cause
  varlena_fault :
      (start : ℕ) → fixed_length ctype ≡ None → BeginsAt (alignment_of ctype) body place start
      → IsFirstFault body start cause → HasFault ctype body place cause

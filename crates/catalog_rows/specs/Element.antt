-- A missing value: an array of one element, numbered 1, which is stored as a value of the column's type is. The element
-- stands behind the five numbers, where a value of any alignment may begin, and is filled up to a multiple of its
-- alignment.
use Rattle.std.specs.Prelude.{ℕ, ◌-◌, ◌==◌, ◌&&◌, if◌then◌else◌, List, length, drop}
use Rattle.std.specs.Prelude.{Option, Some, None, Ok, Err}
use Rattle.key_orders.specs.declared.columns.ColType.{ColType}
use Rattle.key_orders.specs.Types.{alignment_of}
use Rattle.varlena_attrs.specs.Forms.{Attribute, Null, Missing, Plain, Packed, External, IsAligned, IsStored}
use Rattle.varlena_attrs.specs.Reading.{Step, aligned, stored_at}
use Rattle.catalog_rows.specs.Arrays.{IsArray, is_array, stated_count}

-- the array's content, and the bytes of the value: of a varlena those without its header
pub record IsMissing (type_oid : ℕ) (ctype : ColType) (content value : List ℕ) : Type 0 where
  pub array : IsArray content type_oid 1 1
  pub next : ℕ
  pub stored : IsStored ctype (drop 20 content) 0 (Plain value) next
  pub filled : IsAligned (alignment_of ctype) next (length content - 20)

-- The same as a function.

-- the bytes of an attribute that has them where it stands
abbrev pub plain_bytes : Attribute → Option (List ℕ)
plain_bytes (Plain value) = Some value
plain_bytes Null = None
plain_bytes Missing = None
plain_bytes (Packed piece) = None
plain_bytes (External pointer) = None

-- the bytes of a value that was read, if what is filled up behind it ends at a place
abbrev pub ending_at : ℕ → ℕ → Step → Option (List ℕ)
ending_at alignment end (Ok step) = if aligned alignment step.1 == end then plain_bytes step.0 else None
ending_at alignment end (Err cause) = None

-- the value of a type, by its oid and its storage, that is the one element of an array, if the content is one
unfoldable pub missing_in : ℕ → ColType → List ℕ → Option (List ℕ)
missing_in type_oid ctype content =
    if is_array content type_oid 1 && stated_count content == 1 then
    ending_at (alignment_of ctype) (length content - 20) (stored_at ctype (drop 20 content) 0)
    else None

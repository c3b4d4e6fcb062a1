-- The types of columns, a line each: what the values are besides null, their bytes and alignment, and whether a key may
-- have them.
use Rattle.std.specs.Prelude.{◌≡◌, ℕ, pos, negsuc, Bool, true, false, ◌==◌, ◌||◌, Option, Some, None}
use Rattle.key_orders.specs.declared.columns.ColType.{ColType}
use Rattle.key_orders.specs.declared.columns.ColType.TheVariants.{Bool as BoolType, Int2, Int4, Int8, Uuid, Text, Bytea}
use Rattle.key_orders.specs.declared.columns.ColType.TheVariants.{Oid, Date, Timestamp, Timestamptz, Fixed, Varlena}
use Rattle.key_orders.specs.declared.types.ValueKind.{ValueKind}
use Rattle.key_orders.specs.declared.types.ValueKind.TheVariants.{Flag, Number, Octets}
use Rattle.key_orders.specs.declared.types.TypeRow.{TypeRow}

-- whole numbers with a sign in 2, 4 and 8 bytes, and without one in 4
abbrev pub int2 : ValueKind
int2 = Number true (negsuc 32767) (pos 32767)

abbrev pub int4 : ValueKind
int4 = Number true (negsuc 2147483647) (pos 2147483647)

abbrev pub int8 : ValueKind
int8 = Number true (negsuc 9223372036854775807) (pos 9223372036854775807)

abbrev pub uint4 : ValueKind
uint4 = Number false (pos 0) (pos 4294967295)

abbrev pub row : ValueKind → (len : Option ℕ) → (alignment : ℕ) → (may_be_key : Bool) → TypeRow
row kind len alignment may_be_key = record { kind = kind; len = len; alignment = alignment; may_be_key = may_be_key }

abbrev pub type_of : ColType → TypeRow
type_of BoolType = row Flag (Some 1) 1 true
type_of Int2 = row int2 (Some 2) 2 true
type_of Int4 = row int4 (Some 4) 4 true
type_of Int8 = row int8 (Some 8) 8 true
type_of Uuid = row Octets (Some 16) 1 true
type_of Text = row Octets None 4 true
type_of Bytea = row Octets None 4 true
type_of Oid = row uint4 (Some 4) 4 true
type_of Date = row int4 (Some 4) 4 true
type_of Timestamp = row int8 (Some 8) 8 true
type_of Timestamptz = row int8 (Some 8) 8 true
type_of (Fixed len align) = row Octets (Some len) align false
type_of (Varlena align) = row Octets None align false

-- the bytes of a value of fixed length; a varlena has a length of its own
abbrev pub fixed_length : ColType → Option ℕ
fixed_length ctype = (type_of ctype).len

-- the number of which an aligned value's place is a multiple
abbrev pub alignment_of : ColType → ℕ
alignment_of ctype = (type_of ctype).alignment

abbrev pub may_be_key : ColType → Bool
may_be_key ctype = (type_of ctype).may_be_key

-- values are aligned at 1, 2, 4 or 8 bytes
abbrev pub is_alignment : ℕ → Bool
is_alignment n = n == 1 || n == 2 || n == 4 || n == 8

abbrev pub HasAlignment : ColType → Type 0
HasAlignment ctype = is_alignment (alignment_of ctype) ≡ true

abbrev pub IsLength : Option ℕ → ℕ → Type 0
IsLength (Some len) n = n ≡ len
IsLength None n = Unit {0}

-- a value of a type of fixed length has that length
abbrev pub HasLength : ColType → ℕ → Type 0
HasLength ctype n = IsLength (fixed_length ctype) n

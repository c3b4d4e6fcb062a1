-- The body of an index tuple: null bits, where a value is null, and the values, each at its alignment.
use Rattle.std.specs.Prelude.{◌≡◌, ℕ, ℤ, ◌<◌, ◌+◌, ◌-◌, ◌*◌, Bool, true, false, nat_le, if◌then◌else◌, List, []}
use Rattle.std.specs.Prelude.{◌∷◌, ◌++◌}
use Rattle.std.specs.Prelude.{length, take, Option, Some, None}
use Rattle.std.specs.Int.{cast_unsigned, to_le_bytes, w64}
use Rattle.std.specs.List.{list_any}
use Rattle.page_layout.specs.Writes.{u32_bytes}
use Rattle.key_orders.specs.declared.columns.ColType.{ColType}
use Rattle.key_orders.specs.declared.columns.Value.{Value}
use Rattle.key_orders.specs.declared.columns.Value.TheVariants.{Null, Bool as BoolValue, Int, Bytes}
use Rattle.key_orders.specs.Orders.{fits_type}
use Rattle.key_orders.specs.Types.{HasAlignment, alignment_of, fixed_length}
use Rattle.varlena_attrs.specs.Reading.{aligned}
use Rattle.page_write.specs.declared.index_tuples.BodyFlags.{BodyFlags}
use Rattle.page_write.specs.Pages.{zeros}

-- The bytes of a value

-- a varlena of up to 126 bytes has a header of one byte, which states its length and is odd; a longer one has a header
-- of 4 bytes, whose lowest two bits are 0. Lengths count the header.
abbrev pub has_short_header : List ℕ → Bool
has_short_header bytes = nat_le (length bytes) 126

unfoldable pub varlena_bytes : List ℕ → List ℕ
varlena_bytes bytes =
    if has_short_header bytes then (2 * length bytes + 3) ∷ bytes else u32_bytes (4 * length bytes + 16) ++ bytes

abbrev pub octet_bytes : Option ℕ → List ℕ → List ℕ
octet_bytes (Some len) bytes = bytes
octet_bytes None bytes = varlena_bytes bytes

-- so many lowest bytes of a number, the lowest first, where it is below 0 in two's complement
abbrev pub number_bytes : Option ℕ → ℤ → List ℕ
number_bytes (Some len) z = take len (to_le_bytes w64 (cast_unsigned w64 z))
number_bytes None z = []

abbrev pub flag_byte : Bool → ℕ
flag_byte true = 1
flag_byte false = 0

-- a null takes no bytes
unfoldable pub stored_value : ColType → Value → List ℕ
stored_value ctype Null = []
stored_value ctype (BoolValue b) = flag_byte b ∷ []
stored_value ctype (Int z) = number_bytes (fixed_length ctype) z
stored_value ctype (Bytes bytes) = octet_bytes (fixed_length ctype) bytes

-- Where values stand

-- a value begins at a multiple of its type's alignment, but for nulls and varlenas with a header of one byte
abbrev pub octets_are_aligned : Option ℕ → List ℕ → Bool
octets_are_aligned (Some len) bytes = true
octets_are_aligned None bytes = if has_short_header bytes then false else true

abbrev pub is_aligned_value : ColType → Value → Bool
is_aligned_value ctype Null = false
is_aligned_value ctype (BoolValue b) = true
is_aligned_value ctype (Int z) = true
is_aligned_value ctype (Bytes bytes) = octets_are_aligned (fixed_length ctype) bytes

unfoldable pub padding_before : ColType → Value → (place : ℕ) → ℕ
padding_before ctype value place =
    if is_aligned_value ctype value then aligned (alignment_of ctype) place - place else 0

-- a body with one more value
unfoldable pub with_value : ColType → Value → List ℕ → List ℕ
with_value ctype value body = body ++ zeros (padding_before ctype value (length body)) ++ stored_value ctype value

-- a body with the values of these columns after it
unfoldable pub with_values : List ColType → List Value → List ℕ → List ℕ
with_values [] values body = body
with_values (c ∷ cs) [] body = body
with_values (c ∷ cs) (v ∷ vs) body = with_values cs vs (with_value c v body)

-- Null bits

abbrev pub is_null : Value → Bool
is_null Null = true
is_null (BoolValue b) = false
is_null (Int z) = false
is_null (Bytes bytes) = false

abbrev pub has_null : List Value → Bool
has_null values = list_any is_null values

-- the number whose bits, from the lowest on, say of each value whether it is there
unfoldable pub presence_bits : List Value → ℕ
presence_bits [] = 0
presence_bits (v ∷ vs) = (if is_null v then 0 else 1) + 2 * presence_bits vs

-- 4 bytes of bits, and 4 of padding
unfoldable pub null_part : List Value → List ℕ
null_part values = if has_null values then u32_bytes (presence_bits values) ++ zeros 4 else []

-- The body

unfoldable pub index_body : List ColType → List Value → List ℕ
index_body types values = with_values types values (null_part values)

-- a value of variable width is there
abbrev pub varwidth_by : Option ℕ → Value → Bool
varwidth_by (Some len) value = false
varwidth_by None value = if is_null value then false else true

abbrev pub is_varwidth : ColType → Value → Bool
is_varwidth ctype value = varwidth_by (fixed_length ctype) value

abbrev pub has_varwidth : List ColType → List Value → Bool
has_varwidth [] values = false
has_varwidth (c ∷ cs) [] = false
has_varwidth (c ∷ cs) (v ∷ vs) = if is_varwidth c v then true else has_varwidth cs vs

unfoldable pub body_flags : List ColType → List Value → BodyFlags
body_flags types values = record { nulls = has_null values; varwidth = has_varwidth types values }

-- a value has fewer bytes than a header can state
abbrev pub IsShortEnough : Value → Type 0
IsShortEnough Null = Unit {0}
IsShortEnough (BoolValue b) = Unit {0}
IsShortEnough (Int z) = Unit {0}
IsShortEnough (Bytes bytes) = length bytes < 1073741820

-- a value may stand in a column
pub record MayStand (ctype : ColType) (value : Value) : Type 0 where
  pub aligned : HasAlignment ctype
  pub fits : fits_type ctype value ≡ true
  pub short : IsShortEnough value

-- there is such a value for each column
abbrev pub MayAllStand : List ColType → List Value → Type 0
MayAllStand [] [] = Unit {0}
MayAllStand [] (v ∷ vs) = ⊥
MayAllStand (c ∷ cs) [] = ⊥
MayAllStand (c ∷ cs) (v ∷ vs) = MayStand c v × MayAllStand cs vs

-- Bytes of the right length are a value that a column of a type may have.
use Rattle.std.proofs.Common.{◌≡◌, ℕ, ◌<◌, ◌≤◌, List, length, true, pos, negsuc, Some, None, refl, arith}
use Rattle.std.proofs.lemmas.Bool.Decides.{nat_tests}
use Rattle.std.specs.Int.{cast_signed, from_le_bytes, w16, w32, w64}
use Rattle.hex.specs.Hex.{IsBytes}
use Rattle.key_orders.specs.declared.columns.ColType.{ColType}
use Rattle.key_orders.specs.declared.columns.ColType.TheVariants.{Bool as BoolType, Int2, Int4, Int8, Uuid, Text, Bytea, Oid, Date, Timestamp, Timestamptz, Fixed, Varlena}
use Rattle.key_orders.specs.declared.columns.Value.TheVariants.{Null}
use Rattle.key_orders.specs.Orders.{fits_type, is_between}
use Rattle.key_orders.specs.Types.{fixed_length}
use Rattle.key_orders.specs.Values.{value_in}
use Rattle.case_rules.specs.Rules.{is_len}
use Rattle.case_file.specs.Sound.{is_sound_type, octet_count}

-- the number in 2, 4 or 8 bytes
le_2 : (bytes : List ℕ) → IsBytes bytes → from_le_bytes w16 bytes < 65536
le_2 bytes small = omega (arith, small 0, small 1)

le_4 : (bytes : List ℕ) → IsBytes bytes → from_le_bytes w32 bytes < 4294967296
le_4 bytes small = omega (arith, small 0, small 1, small 2, small 3)

le_8 : (bytes : List ℕ) → IsBytes bytes → from_le_bytes w64 bytes < 18446744073709551616
le_8 bytes small = omega (arith, small 0, small 1, small 2, small 3, small 4, small 5, small 6, small 7)

-- read with a sign it is in the range of its width
signed_2 : (n : ℕ) → n < 65536 → is_between (negsuc 32767) (pos 32767) (cast_signed w16 n) ≡ true
signed_2 n lt = grind (arith, nat_tests)

signed_4 : (n : ℕ) → n < 4294967296 → is_between (negsuc 2147483647) (pos 2147483647) (cast_signed w32 n) ≡ true
signed_4 n lt = grind (arith, nat_tests)

signed_8 : (n : ℕ) → n < 18446744073709551616 → is_between (negsuc 9223372036854775807) (pos 9223372036854775807) (cast_signed w64 n) ≡ true
signed_8 n lt = grind (arith, nat_tests)

unsigned_4 : (n : ℕ) → n < 4294967296 → is_between (pos 0) (pos 4294967295) (pos n) ≡ true
unsigned_4 n lt = grind (arith, nat_tests)

-- null may stand in each column
pub null_fits : (ctype : ColType) → fits_type ctype Null ≡ true
null_fits BoolType = refl
null_fits Int2 = refl
null_fits Int4 = refl
null_fits Int8 = refl
null_fits Uuid = refl
null_fits Text = refl
null_fits Bytea = refl
null_fits Oid = refl
null_fits Date = refl
null_fits Timestamp = refl
null_fits Timestamptz = refl
null_fits (Fixed len align) = refl
null_fits (Varlena align) = refl

-- and so the value that so many bytes are as a stored value of the type has
pub value_fits : (ctype : ColType) (bytes : List ℕ) → IsBytes bytes → is_len (fixed_length ctype) (length bytes) ≡ true → fits_type ctype (value_in ctype bytes) ≡ true
unfolding value_in
value_fits BoolType bytes small fit = refl
value_fits Int2 bytes small fit = signed_2 (from_le_bytes w16 bytes) (le_2 bytes small)
value_fits Int4 bytes small fit = signed_4 (from_le_bytes w32 bytes) (le_4 bytes small)
value_fits Int8 bytes small fit = signed_8 (from_le_bytes w64 bytes) (le_8 bytes small)
value_fits Uuid bytes small fit = fit
value_fits Text bytes small fit = refl
value_fits Bytea bytes small fit = refl
value_fits Oid bytes small fit = unsigned_4 (from_le_bytes w32 bytes) (le_4 bytes small)
value_fits Date bytes small fit = signed_4 (from_le_bytes w32 bytes) (le_4 bytes small)
value_fits Timestamp bytes small fit = signed_8 (from_le_bytes w64 bytes) (le_8 bytes small)
value_fits Timestamptz bytes small fit = signed_8 (from_le_bytes w64 bytes) (le_8 bytes small)
value_fits (Fixed len align) bytes small fit = fit
value_fits (Varlena align) bytes small fit = refl

-- which has 8000 bytes at most
few_bytes : (len align n : ℕ) → is_sound_type (Fixed len align) ≡ true → is_len (Some len) n ≡ true → n ≤ 8000
few_bytes len align n sound fit = grind (arith, nat_tests)

most_bytes : (n : ℕ) → is_len None n ≡ true → n ≤ 8000
most_bytes n fit = grind (arith, nat_tests)

same_bytes : (n : ℕ) → is_len (Some 16) n ≡ true → n ≤ 8000
same_bytes n fit = grind (arith, nat_tests)

pub value_is_small : (ctype : ColType) (bytes : List ℕ) → is_sound_type ctype ≡ true → is_len (fixed_length ctype) (length bytes) ≡ true → octet_count (value_in ctype bytes) ≤ 8000
unfolding value_in
value_is_small BoolType bytes sound fit = omega arith
value_is_small Int2 bytes sound fit = omega arith
value_is_small Int4 bytes sound fit = omega arith
value_is_small Int8 bytes sound fit = omega arith
value_is_small Uuid bytes sound fit = same_bytes (length bytes) fit
value_is_small Text bytes sound fit = most_bytes (length bytes) fit
value_is_small Bytea bytes sound fit = most_bytes (length bytes) fit
value_is_small Oid bytes sound fit = omega arith
value_is_small Date bytes sound fit = omega arith
value_is_small Timestamp bytes sound fit = omega arith
value_is_small Timestamptz bytes sound fit = omega arith
value_is_small (Fixed len align) bytes sound fit = few_bytes len align (length bytes) sound fit
value_is_small (Varlena align) bytes sound fit = most_bytes (length bytes) fit

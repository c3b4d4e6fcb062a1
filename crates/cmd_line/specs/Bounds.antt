-- The words of a scan: its bounds, value by value, and its direction.
use Rattle.std.specs.Prelude.{ℕ, suc, zero, ◌+◌, ◌^◌, ◌%◌, ◌==◌, ℤ, pos, negsuc, Bool, true, false, ◌&&◌, ◌||◌, nat_le}
use Rattle.std.specs.Prelude.{if◌then◌else◌, length, List, [], map, codes, Option, Some, None, Result, Ok, Err}
use Rattle.std.specs.Prelude.{drop, slice_index, unwrap_or}
use Rattle.std.specs.List.{after_first, before_first, list_all, slice_split}
use Rattle.std.specs.Option.{is_some, option_map, option_or}
use Rattle.std.specs.Str.{bytes_eq}
use Rattle.hex.specs.Hex.{decode_of}
use Rattle.hex.specs.declared.error.FromHexError.{FromHexError}
use Rattle.laws_search.specs.Keys.{Bound}
use Rattle.key_orders.specs.Scans.{Bounds}
use Rattle.key_orders.specs.declared.columns.Value.{Value}
use Rattle.key_orders.specs.declared.columns.Value.TheVariants.{Null, Bool as bool_value, Int, Bytes}
use Rattle.key_orders.specs.declared.scans.ScanDirection.{ScanDirection}
use Rattle.key_orders.specs.declared.scans.ScanDirection.TheVariants.{Forward, Backward}
use Rattle.cmd_line.specs.Numbers.{number_written}
use Rattle.cmd_line.specs.declared.bounds.Side.{Side}
use Rattle.cmd_line.specs.declared.bounds.Side.TheVariants.{Low, High}

-- Values

-- a number of 64 bits with its sign: in decimal, a minus before negative ones, without a leading zero
abbrev pub below_zero : Option ℕ → Option ℤ
below_zero None = None
below_zero (Some zero) = None
below_zero (Some (suc n)) = Some (negsuc n)

unfoldable pub integer_written : List ℕ → Option ℤ
integer_written word =
    if slice_index word 0 == 45 then below_zero (number_written (2 ^ 63 + 1) (drop 1 word))
    else option_map pos (number_written (2 ^ 63) word)

-- bytes: x, and two lower-case hexadecimal digits for each
abbrev pub is_lower_digit : ℕ → Bool
is_lower_digit c = (nat_le 48 c && nat_le c 57) || (nat_le 97 c && nat_le c 102)

abbrev pub are_pairs : List ℕ → Bool
are_pairs digits = (length digits % 2 == 0) && list_all is_lower_digit digits

abbrev pub bytes_or_none : Result (List ℕ) FromHexError → List ℕ
bytes_or_none (Ok bytes) = bytes
bytes_or_none (Err e) = []

unfoldable pub octets_written : List ℕ → Option (List ℕ)
octets_written word =
    if (slice_index word 0 == 120) && are_pairs (drop 1 word) then Some (bytes_or_none (decode_of (drop 1 word)))
    else None

-- the value that a word writes
unfoldable pub value_written : List ℕ → Option Value
value_written word =
    if bytes_eq word (codes "null") then Some Null
    else if bytes_eq word (codes "false") then Some (bool_value false)
    else if bytes_eq word (codes "true") then Some (bool_value true)
    else option_or (option_map Int (integer_written word)) (option_map Bytes (octets_written word))

-- one or more values, with commas between them
abbrev pub parts_of : List ℕ → List (List ℕ)
parts_of word = slice_split (λ b. b == 44) word

abbrev pub value_in : List ℕ → Value
value_in part = unwrap_or (value_written part) Null

unfoldable pub values_in : List ℕ → List Value
values_in word = map value_in (parts_of word)

unfoldable pub are_values : List ℕ → Bool
are_values word = list_all (λ part. is_some (value_written part)) (parts_of word)

-- Bounds

abbrev pub no_bound : Bound Value
no_bound = record { values = []; inclusive = true }

-- the two letters before a bound's values: whether an entry equal to these is within
unfoldable pub inclusion_of : Side → List ℕ → Option Bool
inclusion_of Low name =
    if bytes_eq name (codes "ge") then Some true else if bytes_eq name (codes "gt") then Some false else None
inclusion_of High name =
    if bytes_eq name (codes "le") then Some true else if bytes_eq name (codes "lt") then Some false else None

-- two letters, a colon and values: whether the bound is inclusive, and the word of its values
abbrev pub parts_by : Option Bool → List ℕ → Option (Bool × List ℕ)
parts_by None word = None
parts_by (Some inclusive) word = if are_values word then Some (inclusive, word) else None

unfoldable pub parts_written : Side → List ℕ → Option (Bool × List ℕ)
parts_written side word =
    parts_by (inclusion_of side (before_first (λ b. b == 58) word)) (after_first (λ b. b == 58) word)

abbrev pub bound_of : Bool × List ℕ → Bound Value
bound_of parts = record { values = values_in parts.1; inclusive = parts.0 }

-- or a minus alone, for none
unfoldable pub bound_written : Side → List ℕ → Option (Bound Value)
bound_written side word =
    if bytes_eq word (codes "-") then Some no_bound else option_map bound_of (parts_written side word)

abbrev pub bound_in : Side → List ℕ → Bound Value
bound_in side word = unwrap_or (bound_written side word) no_bound

-- the bounds of two words that write some
abbrev pub bounds_in : (low high : List ℕ) → Bounds
bounds_in low high = record { low = bound_in Low low; high = bound_in High high }

-- Directions

unfoldable pub direction_written : List ℕ → Option ScanDirection
direction_written word =
    if bytes_eq word (codes "forward") then Some Forward
    else if bytes_eq word (codes "backward") then Some Backward
    else None

-- The file pg_filenode.map: which file a relation has that pg_class gives none.
use Rattle.std.specs.Prelude.{◌≡◌, ◌≢◌, ℕ, zero, suc, ◌+◌, ◌*◌, ◌<◌, ◌≤◌, ◌==◌, Bool, not, nat_lt}
use Rattle.std.specs.Prelude.{if◌then◌else◌, List, [], ◌∷◌, ◌++◌, All, find, length, take, Option, Some, None, Result, Ok, Err}
use Rattle.std.specs.Option.{option_map}
use Rattle.page_layout.specs.Page.{u32_at}
use Rattle.cluster_control.specs.Crc.{IsCrc, crc_of}
use Rattle.cluster_map.specs.declared.entry.MapEntry.{MapEntry}
use Rattle.cluster_map.specs.declared.fault.MapFault.{MapFault}
use Rattle.cluster_map.specs.declared.fault.MapFault.TheVariants.{NotThere, WrongLength, WrongMagic, WrongCount}
use Rattle.cluster_map.specs.declared.fault.MapFault.TheVariants.{WrongCrc, NamedTwice}
use Rattle.cluster_map.specs.declared.entry.FileMap.{FileMap}

-- how many places for entries a map of this length has: 62 up to version 15, and 64 from 16 on
abbrev pub places_by : ℕ → Option ℕ
places_by long = if long == 512 then Some 62 else if long == 524 then Some 64 else None

-- the number with which a map begins
abbrev pub magic : ℕ
magic = 0x0059_2717

-- how many entries a map has
abbrev pub count_of : List ℕ → ℕ
count_of bytes = u32_at bytes 4

-- entry k of a map, counted from 0
abbrev pub entry_at : List ℕ → ℕ → MapEntry
entry_at bytes k = record { oid = u32_at bytes (8 + 8 * k); file = u32_at bytes (12 + 8 * k) }

-- its first n entries
unfoldable pub first_entries : List ℕ → ℕ → List MapEntry
first_entries bytes zero = []
first_entries bytes (suc n) = first_entries bytes n ++ entry_at bytes n ∷ []

-- all of them
abbrev pub entries_in : List ℕ → List MapEntry
entries_in bytes = first_entries bytes (count_of bytes)

-- behind the places for entries stands the CRC-32C of all bytes before
abbrev pub crc_place : ℕ → ℕ
crc_place places = 8 + 8 * places

abbrev pub HasItsCrc : List ℕ → ℕ → Type 0
HasItsCrc bytes places = IsCrc (take (crc_place places) bytes) (u32_at bytes (crc_place places))

-- the file of an oid, if the entries have one
abbrev pub is_of : ℕ → MapEntry → Bool
is_of oid entry = entry.oid == oid

abbrev pub file_in : List MapEntry → ℕ → Option ℕ
file_in entries oid = option_map (λ entry. entry.file) (find (is_of oid) entries)

-- none of the entries is of this oid
abbrev pub NamesNone : List MapEntry → ℕ → Type 0
NamesNone entries oid = All (λ entry. entry.oid ≢ oid) entries

-- each of the entries that come has an oid that none has before it, these ones included
abbrev pub AreNew : List MapEntry → List MapEntry → Type 0
AreNew before [] = Unit {0}
AreNew before (entry ∷ entries) = NamesNone before entry.oid × AreNew (before ++ entry ∷ []) entries

-- no oid is named twice
abbrev pub AreDistinct : List MapEntry → Type 0
AreDistinct entries = AreNew [] entries

-- this oid is the first that is named once more: an entry has it, and so has one before, of which no oid is named twice
pub record IsNamedTwice (entries : List MapEntry) (oid : ℕ) : Type 0 where
  pub before : List MapEntry
  pub again : MapEntry
  pub after : List MapEntry
  pub whole : entries ≡ before ++ again ∷ after
  pub here : again.oid ≡ oid
  pub there : NamesNone before oid → ⊥
  pub distinct : AreDistinct before

-- a map of this length has so many places
abbrev pub HasLength : List ℕ → ℕ → Type 0
HasLength bytes places = places_by (length bytes) ≡ Some places

-- these bytes are a map with these entries
pub record IsMap (bytes : List ℕ) (entries : List MapEntry) : Type 0 where
  pub places : ℕ
  pub sized : HasLength bytes places
  pub begins : u32_at bytes 0 ≡ magic
  pub few : count_of bytes ≤ places
  pub crc : HasItsCrc bytes places
  pub says : entries ≡ entries_in bytes
  pub distinct : AreDistinct entries

-- these bytes are refused so: each refusal where none before it comes
abbrev pub IsRefusedFor : List ℕ → MapFault → Type 0
IsRefusedFor bytes NotThere = ⊥
IsRefusedFor bytes WrongLength = places_by (length bytes) ≡ None
IsRefusedFor bytes WrongMagic = (places : ℕ) × HasLength bytes places × (u32_at bytes 0 ≢ magic)
IsRefusedFor bytes (WrongCount count) =
    (places : ℕ) × HasLength bytes places × (u32_at bytes 0 ≡ magic) × (count ≡ count_of bytes) × (places < count)
IsRefusedFor bytes WrongCrc =
    (places : ℕ) × HasLength bytes places × (u32_at bytes 0 ≡ magic) × (count_of bytes ≤ places)
    × (HasItsCrc bytes places → ⊥)
IsRefusedFor bytes (NamedTwice oid) =
    (places : ℕ) × HasLength bytes places × (u32_at bytes 0 ≡ magic) × (count_of bytes ≤ places)
    × HasItsCrc bytes places × IsNamedTwice (entries_in bytes) oid

-- these bytes are a map with these entries, or are refused so
abbrev pub SaysTrue : List ℕ → Result (List MapEntry) MapFault → Type 0
SaysTrue bytes (Ok entries) = IsMap bytes entries
SaysTrue bytes (Err fault) = IsRefusedFor bytes fault

-- the oid of the first of the entries that one before it has, these ones included
abbrev pub or_then : Option ℕ → ℕ → Option ℕ → Option ℕ
or_then None oid rest = rest
or_then (Some file) oid rest = Some oid

unfoldable pub repeated_after : List MapEntry → List MapEntry → Option ℕ
repeated_after before [] = None
repeated_after before (entry ∷ entries) =
    or_then (file_in before entry.oid) entry.oid (repeated_after (before ++ entry ∷ []) entries)

abbrev pub said_unless : Option ℕ → List MapEntry → Result (List MapEntry) MapFault
said_unless None entries = Ok entries
said_unless (Some oid) entries = Err (NamedTwice oid)

-- what a map of so many places says
abbrev pub said_by : Option ℕ → List ℕ → Result (List MapEntry) MapFault
said_by None bytes = Err WrongLength
said_by (Some places) bytes =
    if not (u32_at bytes 0 == magic) then Err WrongMagic
    else if nat_lt places (count_of bytes) then Err (WrongCount (count_of bytes))
    else if not (u32_at bytes (crc_place places) == crc_of (take (crc_place places) bytes)) then Err WrongCrc
    else said_unless (repeated_after [] (entries_in bytes)) (entries_in bytes)

-- what bytes say
unfoldable pub map_said : List ℕ → Result (List MapEntry) MapFault
map_said bytes = said_by (places_by (length bytes)) bytes

-- what a file says that is held or not
abbrev pub map_held : Option (List ℕ) → Result (List MapEntry) MapFault
map_held None = Err NotThere
map_held (Some bytes) = map_said bytes

-- the entries of a map that was read
abbrev pub entries_of : FileMap → List MapEntry
entries_of map = take map.count map.entries

-- what was read, as a list
abbrev pub as_list : Result FileMap MapFault → Result (List MapEntry) MapFault
as_list (Ok map) = Ok (entries_of map)
as_list (Err fault) = Err fault

-- the number of a relation's file: its own, or where that is 0 that of the map
abbrev pub file_number : ℕ → List MapEntry → ℕ → Option ℕ
file_number own entries oid = if own == 0 then file_in entries oid else Some own

-- What files in memory hold, by their entries.
use Rattle.std.specs.Prelude.{ℕ, Bool, false, ◌==◌, ◌&&◌, if◌then◌else◌, List, Option, Some, None, string_bytes, find}
use Rattle.std.specs.Prelude.{take}
use Rattle.std.specs.Option.{option_map}
use Rattle.std.specs.Str.{bytes_eq}
use Rattle.outside.specs.declared.files.Part.{Part}
use Rattle.outside.specs.declared.files.Part.TheVariants.{Segment, Slru}
use Rattle.memory_files.specs.declared.held.Entry.{Entry}
use Rattle.memory_files.specs.declared.held.HeldFiles.{HeldFiles}
use Rattle.outside.specs.Outside.{Names}

-- two parts are one
abbrev pub part_eq : Part → Part → Bool
part_eq (Segment m) (Segment n) = m == n
part_eq (Slru m) (Slru n) = m == n
part_eq _ _ = false

-- two names are one
abbrev pub name_eq : List ℕ → Part → List ℕ → Part → Bool
name_eq base part base' part' = bytes_eq base base' && part_eq part part'

-- no names
abbrev pub no_names : Names
no_names base part = None

-- these names, but for one, which holds these bytes
abbrev pub with_file : Names → List ℕ → Part → List ℕ → Names
with_file names base part bytes = λ base' part'.
    if name_eq base part base' part' then Some bytes else names base' part'

-- these names, but for one, which holds no more than its first n bytes
abbrev pub with_front : Names → List ℕ → Part → ℕ → Names
with_front names base part n = λ base' part'.
    if name_eq base part base' part' then option_map (take n) (names base' part') else names base' part'

-- these names without one
abbrev pub without_file : Names → List ℕ → Part → Names
without_file names base part = λ base' part'.
    if name_eq base part base' part' then None else names base' part'

-- an entry has this name
abbrev pub is_named : List ℕ → Part → Entry → Bool
is_named base part e = name_eq (string_bytes e.base) e.part base part

-- the bytes of the first entry of this name
abbrev pub look_up : List Entry → List ℕ → Part → Option (List ℕ)
look_up es base part = option_map (λ e. e.bytes.items) (find (is_named base part) es)

-- the bytes under each name
abbrev pub held_names : HeldFiles → Names
held_names files = look_up files.entries.items

-- What the code's types show of an index tuple.
use Rattle.std.specs.Prelude.{ℕ, Bool, List, ◌++◌, if◌then◌else◌, Option, Some, None, Result, Ok, Err}
use Rattle.std.specs.Option.{option_copied, option_or}
use Rattle.key_orders.specs.declared.columns.ColType.{ColType}
use Rattle.key_orders.specs.declared.columns.Value.{Value}
use Rattle.key_orders.specs.Types.{HasLength}
use Rattle.varlena_attrs.specs.declared.forms.Found.{Found}
use Rattle.key_attrs.specs.declared.keyed.IndexTuple.{IndexTuple}
use Rattle.key_attrs.specs.declared.keyed.KeyFault.{KeyFault}
use Rattle.varlena_attrs.specs.declared.places.AttrPlace.{AttrPlace}
use Rattle.varlena_attrs.specs.declared.places.AttrPlace.TheVariants as place
use Rattle.key_attrs.specs.Keyed.{InlineStep, Inlines, KeyValues, attribute_values, first_packed, read_inline}
use Rattle.key_attrs.specs.Keyed.{unless_packed}
use Rattle.varlena_attrs.specs.Shown.{shown_at}

-- an attribute that was found in a tuple, with the place after it, or why it can't be read there
abbrev pub inline_shown : List ℕ → Result Found KeyFault → InlineStep
inline_shown body (Ok found) = Ok (shown_at body found.place, found.next)
inline_shown body (Err e) = Err e

-- the bytes of a value are as many as its type asks for
abbrev pub HasPlainLength : ColType → AttrPlace → Type 0
HasPlainLength ctype place.Null = Unit {0}
HasPlainLength ctype place.Missing = Unit {0}
HasPlainLength ctype (place.Plain start len) = HasLength ctype len
HasPlainLength ctype (place.Packed start len) = Unit {0}
HasPlainLength ctype (place.External start) = Unit {0}

-- the column, where it is compressed
abbrev pub packed_here : Bool → (column : ℕ) → Option ℕ
packed_here packed column = if packed then Some column else None

-- what is told of a tuple by its first values, the first of them that is compressed, and the attributes after k columns
abbrev pub told_after : List Value → Option ℕ → ℕ → List ColType → Inlines → KeyValues
told_after values packed k types (Ok list) =
    unless_packed (option_or packed (first_packed k list)) (values ++ attribute_values types list)
told_after values packed k types (Err e) = Err e

-- the same, where the columns were read so far, and columns of these types are left
abbrev pub told_by : IndexTuple → List Value → List ColType → KeyValues
told_by c values types =
    told_after values c.packed c.column types
    (read_inline types (option_copied c.nulls) c.natts c.body.now c.column c.place)

-- the values of a key and those beside it, as one list
abbrev pub entry_shown : Result (List Value × List Value) KeyFault → KeyValues
entry_shown (Ok both) = Ok (both.0 ++ both.1)
entry_shown (Err e) = Err e

-- The columns of an index tuple: their values, or the first that can't be read in the tuple itself.
use Rattle.std.specs.Prelude.{ℕ, suc, Bool, true, false, ◌&&◌, if◌then◌else◌, List, [], ◌∷◌, length}
use Rattle.std.specs.Prelude.{map, Option, Some, None, Result, Ok, Err}
use Rattle.key_orders.specs.declared.columns.ColType.{ColType}
use Rattle.key_orders.specs.declared.columns.KeySpec.{KeySpec}
use Rattle.key_orders.specs.declared.columns.Value.{Value}
use Rattle.key_orders.specs.declared.columns.Value.TheVariants as value
use Rattle.key_orders.specs.declared.more.MoreSpec.{MoreSpec}
use Rattle.key_orders.specs.Orders.{fits_type}
use Rattle.key_orders.specs.Values.{value_in}
use Rattle.varlena_attrs.specs.declared.forms.Cause.TheVariants.{PastEnd, BadHeader, BadTag}
use Rattle.key_attrs.specs.declared.keyed.KeyFault.{KeyFault}
use Rattle.key_attrs.specs.declared.keyed.KeyFault.TheVariants as fault
use Rattle.varlena_attrs.specs.Attributes.{presence_of}
use Rattle.varlena_attrs.specs.Forms.{Attribute, Null, Missing, Plain, Packed, External}
use Rattle.varlena_attrs.specs.Reading.{Step, attribute_at}

-- the types of the columns of a key, and of those that an index includes
abbrev pub key_types : List KeySpec → List ColType
key_types specs = map (λ k. k.ctype) specs

abbrev pub more_types : List MoreSpec → List ColType
more_types more = map (λ m. m.ctype) more

-- there are no more values than included columns, and each fits its column
abbrev pub fits_more : List MoreSpec → List Value → Bool
fits_more ms [] = true
fits_more [] (v ∷ vs) = false
fits_more (m ∷ ms) (v ∷ vs) = fits_type m.ctype v && fits_more ms vs

-- the value of an attribute that stands in the tuple; a compressed one isn't read
abbrev pub attribute_value : ColType → Attribute → Value
attribute_value ctype Null = value.Null
attribute_value ctype Missing = value.Null
attribute_value ctype (Plain content) = value_in ctype content
attribute_value ctype (Packed piece) = value.Null
attribute_value ctype (External pointer) = value.Null

-- the values of attributes, each in its column
abbrev pub attribute_values : List ColType → List Attribute → List Value
attribute_values [] list = []
attribute_values (c ∷ cs) [] = []
attribute_values (c ∷ cs) (a ∷ list) = attribute_value c a ∷ attribute_values cs list

-- the attribute is compressed
abbrev pub is_packed : Attribute → Bool
is_packed Null = false
is_packed Missing = false
is_packed (Plain content) = false
is_packed (Packed piece) = true
is_packed (External pointer) = false

-- the first of the attributes that is compressed, where k columns stand before them; columns count from 1
abbrev pub first_packed : ℕ → List Attribute → Option ℕ
first_packed k [] = None
first_packed k (a ∷ list) = if is_packed a then Some (suc k) else first_packed (suc k) list

-- an attribute of an index tuple and the place after it, or why it can't be read there
abbrev pub InlineStep : Type 0
InlineStep = Result (Attribute × ℕ) KeyFault

abbrev pub unless_external : (column : ℕ) → Attribute → (next : ℕ) → InlineStep
unless_external column Null next = Ok (Null, next)
unless_external column Missing next = Ok (Missing, next)
unless_external column (Plain content) next = Ok (Plain content, next)
unless_external column (Packed piece) next = Ok (Packed piece, next)
unless_external column (External pointer) next = Err (fault.External column)

-- A value that stands elsewhere has no place in an index tuple, whatever its tag is.
abbrev pub inline_step : (column : ℕ) → Step → InlineStep
inline_step column (Ok step) = unless_external column step.0 step.1
inline_step column (Err PastEnd) = Err (fault.PastEnd column)
inline_step column (Err BadHeader) = Err (fault.BadHeader column)
inline_step column (Err BadTag) = Err (fault.External column)

-- the attributes of an index tuple, all of which stand in it, or the first column that doesn't
abbrev pub Inlines : Type 0
Inlines = Result (List Attribute) KeyFault

abbrev pub put_before : Attribute → Inlines → Inlines
put_before a (Ok list) = Ok (a ∷ list)
put_before a (Err e) = Err e

abbrev pub then_inline : InlineStep → (ℕ → Inlines) → Inlines
then_inline (Ok step) rest = put_before step.0 (rest step.1)
then_inline (Err e) rest = Err e

-- the attributes of the columns from number k on, counted from 0, which begin at a place
unfoldable pub read_inline : List ColType → Option (List ℕ) → ℕ → List ℕ → ℕ → ℕ → Inlines
read_inline [] nulls natts body k place = Ok []
read_inline (c ∷ cs) nulls natts body k place =
    then_inline (inline_step (suc k) (attribute_at (presence_of nulls natts k) c body place))
    (λ next. read_inline cs nulls natts body (suc k) next)

-- the values of an index tuple, or why they can't be told
abbrev pub KeyValues : Type 0
KeyValues = Result (List Value) KeyFault

abbrev pub unless_packed : Option ℕ → List Value → KeyValues
unless_packed (Some column) values = Err (fault.Packed column)
unless_packed None values = Ok values

-- a compressed column counts only where all columns can be read
abbrev pub values_by : List ColType → Inlines → KeyValues
values_by types (Ok list) = unless_packed (first_packed 0 list) (attribute_values types list)
values_by types (Err e) = Err e

-- the values of an index tuple that has all of these columns
unfoldable pub key_values : List ColType → List ℕ → Option (List ℕ) → KeyValues
key_values types body nulls = values_by types (read_inline types nulls (length types) body 0 0)

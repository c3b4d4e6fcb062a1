-- What the values of an index tuple have to do with the attributes of a tuple.
use Rattle.std.specs.Prelude.{◌≡◌, ℕ, false, true, List, length, Option, Some, None, Ok, Err}
use Rattle.key_orders.specs.declared.columns.ColType.{ColType}
use Rattle.varlena_attrs.specs.declared.fault.AttrFault.TheVariants as attr_fault
use Rattle.key_attrs.specs.declared.keyed.KeyFault.TheVariants as fault
use Rattle.varlena_attrs.specs.Attributes.{Attributes}
use Rattle.varlena_attrs.specs.Forms.{Attribute}
use Rattle.varlena_attrs.specs.Inline.{all_inline, are_inline}
use Rattle.key_attrs.specs.Keyed.{KeyValues, attribute_values, first_packed}
use Rattle.varlena_attrs.specs.Reading.{attributes_of, first_failure}

-- the tuple has attributes, all of which stand in it
abbrev pub HasInline : List ColType → List ℕ → Option (List ℕ) → (List Attribute → Type 0) → Type 0
HasInline types body nulls P =
    (list : List Attribute) × Attributes types body nulls (length types) list × (all_inline list ≡ true) × P list

-- What an answer on the values of an index tuple says of its attributes: they are there and all stand in the tuple, or
-- they can't be read, or one stands elsewhere.
abbrev pub SaysOfAttributes : List ColType → List ℕ → Option (List ℕ) → KeyValues → Type 0
SaysOfAttributes types body nulls (Ok values) =
    HasInline types body nulls (λ list. (values ≡ attribute_values types list) × (first_packed 0 list ≡ None))
SaysOfAttributes types body nulls (Err (fault.Packed column)) =
    HasInline types body nulls (λ list. first_packed 0 list ≡ Some column)
SaysOfAttributes types body nulls (Err (fault.PastEnd column)) =
    first_failure types body nulls (length types) ≡ Some (attr_fault.PastEnd column)
SaysOfAttributes types body nulls (Err (fault.BadHeader column)) =
    first_failure types body nulls (length types) ≡ Some (attr_fault.BadHeader column)
SaysOfAttributes types body nulls (Err (fault.External column)) =
    are_inline (attributes_of types body nulls (length types)) ≡ false

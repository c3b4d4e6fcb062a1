-- What is asked of the values of a live tuple.
use Rattle.std.specs.Prelude.{ℕ, Bool, true, not, ◌==◌, ◌||◌, if◌then◌else◌, List, [], ◌∷◌, Option, Some, None, Ok, Err}
use Rattle.std.specs.Option.{option_or}
use Rattle.page_layout.specs.Page.{has_bit}
use Rattle.page_layout.specs.declared.rules.Rule.{Rule}
use Rattle.page_layout.specs.declared.rules.Rule.TheVariants.{H17, H18, H19, H20}
use Rattle.tuple_head.specs.declared.HeapHead.{HeapHead}
use Rattle.varlena_attrs.specs.Forms.{Attribute, Null, Missing, Plain, Packed, External}
use Rattle.varlena_attrs.specs.Reading.{Outcome}
use Rattle.varlena_attrs.specs.declared.fault.AttrFault.TheVariants.{PastEnd, BadHeader, BadTag, NoMemory}
use Rattle.varlena_attrs.specs.declared.places.ToastPointer.{ToastPointer}
use Rattle.toast_chunks.specs.Pointer.{keeps_pointer_rule}

-- HASEXTERNAL: the header tells that a value of the tuple stands in a TOAST table
unfoldable pub has_externals : HeapHead → Bool
has_externals head = has_bit head.infomask 0x0004

-- a relation isn't the TOAST table of this oid, or there is no TOAST table
abbrev pub is_other_relation : Option ℕ → ℕ → Bool
is_other_relation None relation = true
is_other_relation (Some oid) relation = not (relation == oid)

-- H19: the header tells of no such value, there is no TOAST table, or the pointer names another one
abbrev pub is_stray_pointer : Option ℕ → HeapHead → ToastPointer → Bool
is_stray_pointer toast head pointer = not (has_externals head) || is_other_relation toast pointer.relation

-- the first of H19 and H20 that a pointer breaks
unfoldable pub pointer_rule_of : Option ℕ → HeapHead → ToastPointer → Option Rule
pointer_rule_of toast head pointer =
    if is_stray_pointer toast head pointer then Some H19 else if keeps_pointer_rule pointer then None else Some H20

abbrev pub value_rule : Option ℕ → HeapHead → Attribute → Option Rule
value_rule toast head Null = None
value_rule toast head Missing = None
value_rule toast head (Plain content) = None
value_rule toast head (Packed piece) = None
value_rule toast head (External pointer) = pointer_rule_of toast head pointer

-- the first rule that one of a tuple's attributes breaks, column by column
unfoldable pub first_value_rule : Option ℕ → HeapHead → List Attribute → Option Rule
first_value_rule toast head [] = None
first_value_rule toast head (a ∷ list) = option_or (value_rule toast head a) (first_value_rule toast head list)

-- H17 and H18 where the attributes can't be read, and else what their values break
abbrev pub values_rule : Option ℕ → HeapHead → Outcome → Option Rule
values_rule toast head (Ok list) = first_value_rule toast head list
values_rule toast head (Err (PastEnd column)) = Some H17
values_rule toast head (Err (BadHeader column)) = Some H18
values_rule toast head (Err (BadTag column)) = Some H18
values_rule toast head (Err NoMemory) = None

-- The values of an index tuple are those of its attributes.
use Rattle.std.proofs.Common.{◌≡◌, ℕ, suc, Bool, true, false, List, [], ◌∷◌, length, refl, ap, sym, subst, ◌∙◌}
use Rattle.std.specs.Prelude.{Option, Some, None, Ok, Err, All, ◌&&◌}
use Rattle.std.proofs.lemmas.List.Elements.{recursion_from_All}
use Rattle.key_orders.specs.Types.{HasAlignment}
use Rattle.key_orders.specs.declared.columns.ColType.{ColType}
use Rattle.varlena_attrs.specs.declared.forms.Cause.TheVariants.{PastEnd, BadHeader, BadTag}
use Rattle.varlena_attrs.specs.declared.fault.AttrFault.TheVariants as attr_fault
use Rattle.key_attrs.specs.declared.keyed.KeyFault.TheVariants as fault
use Rattle.varlena_attrs.specs.Attributes.{Attributes, presence_of}
use Rattle.varlena_attrs.specs.Forms.{Attribute, Null, Missing, Plain, Packed, External}
use Rattle.varlena_attrs.specs.Inline.{all_inline, are_inline, is_inline}
use Rattle.key_attrs.specs.Keyed.{Inlines, attribute_values, first_packed, inline_step, key_values, put_before, read_inline, then_inline, unless_external, unless_packed, values_by}
use Rattle.key_attrs.specs.KeyLaws.{SaysOfAttributes}
use Rattle.varlena_attrs.specs.Reading.{Outcome, Step, attribute_at, before, failure_in, read_from, then_from}
use Rattle.key_attrs.proofs.Keying.{read_inline-cons, read_inline-nil}
use Rattle.varlena_attrs.proofs.Law.{read_sound}
use Rattle.varlena_attrs.proofs.ReadFrom.{read_from-cons, read_from-nil}

-- how the attributes that stand in an index tuple are related to a reading of all its attributes
abbrev IsOf : Outcome → Inlines → Type 0
IsOf o (Ok list) = (o ≡ Ok list) × (all_inline list ≡ true)
IsOf o (Err (fault.PastEnd column)) = o ≡ Err (attr_fault.PastEnd column)
IsOf o (Err (fault.BadHeader column)) = o ≡ Err (attr_fault.BadHeader column)
IsOf o (Err (fault.External column)) = are_inline o ≡ false
IsOf o (Err (fault.Packed column)) = ⊥

none_inline : (a : Attribute) (o : Outcome) → are_inline o ≡ false → are_inline (before a o) ≡ false
unfolding all_inline
none_inline a (Ok list) h = go (is_inline a)
  where
    go : (b : Bool) → (b && all_inline list) ≡ false
    go true = h
    go false = refl
none_inline a (Err e) h = refl

external_first : (a : Attribute) (o : Outcome) → is_inline a ≡ false → are_inline (before a o) ≡ false
unfolding all_inline
external_first a (Ok list) h = ap (λ (b : Bool). b && all_inline list) h
external_first a (Err e) h = refl

then_inline_too : (a : Attribute) (list : List Attribute) → is_inline a ≡ true → all_inline list ≡ true → all_inline (a ∷ list) ≡ true
unfolding all_inline
then_inline_too a list h all = ap (λ (b : Bool). b && all_inline list) h ∙ all

-- one attribute that stands in the tuple, and those after it
one_more : (a : Attribute) (o : Outcome) (r : Inlines) → is_inline a ≡ true → IsOf o r → IsOf (before a o) (put_before a r)
one_more a o (Ok list) here h = (ap (before a) h.0, then_inline_too a list here h.1)
one_more a o (Err (fault.PastEnd column)) here h = ap (before a) h
one_more a o (Err (fault.BadHeader column)) here h = ap (before a) h
one_more a o (Err (fault.External column)) here h = none_inline a o h
one_more a o (Err (fault.Packed column)) here h = h

by_attribute : (k : ℕ) (a : Attribute) (next : ℕ) (o : ℕ → Outcome) (r : ℕ → Inlines) → IsOf (o next) (r next) → IsOf (before a (o next)) (then_inline (unless_external (suc k) a next) r)
by_attribute k Null next o r h = one_more Null (o next) (r next) refl h
by_attribute k Missing next o r h = one_more Missing (o next) (r next) refl h
by_attribute k (Plain content) next o r h = one_more (Plain content) (o next) (r next) refl h
by_attribute k (Packed piece) next o r h = one_more (Packed piece) (o next) (r next) refl h
by_attribute k (External pointer) next o r h = external_first (External pointer) (o next) refl

by_step : (k : ℕ) (s : Step) (o : ℕ → Outcome) (r : ℕ → Inlines) → ((next : ℕ) → IsOf (o next) (r next)) → IsOf (then_from (suc k) s o) (then_inline (inline_step (suc k) s) r)
by_step k (Ok step) o r h = by_attribute k step.0 step.1 o r (h step.1)
by_step k (Err PastEnd) o r h = refl
by_step k (Err BadHeader) o r h = refl
by_step k (Err BadTag) o r h = refl

none_external : all_inline [] ≡ true
unfolding all_inline
none_external = refl

inline_is_of : (cs : List ColType) (nulls : Option (List ℕ)) (natts : ℕ) (body : List ℕ) (k place : ℕ) → IsOf (read_from cs nulls natts body k place) (read_inline cs nulls natts body k place)
inline_is_of [] nulls natts body k place =
    subst (IsOf (read_from [] nulls natts body k place)) (sym (read_inline-nil nulls natts body k place)) (read_from-nil nulls natts body k place, none_external)
inline_is_of (c ∷ cs) nulls natts body k place =
    subst (IsOf (read_from (c ∷ cs) nulls natts body k place)) (sym (read_inline-cons c cs nulls natts body k place))
    (subst (λ (o : Outcome). IsOf o (then_inline (inline_step (suc k) (attribute_at (presence_of nulls natts k) c body place)) (λ next. read_inline cs nulls natts body (suc k) next))) (sym (read_from-cons c cs nulls natts body k place))
    (by_step k (attribute_at (presence_of nulls natts k) c body place) (λ next. read_from cs nulls natts body (suc k) next) (λ next. read_inline cs nulls natts body (suc k) next) (λ next. inline_is_of cs nulls natts body (suc k) next)))

-- the answer on a whole tuple
says_list : (types : List ColType) (body : List ℕ) (nulls : Option (List ℕ)) (list : List Attribute) (packed : Option ℕ) → Attributes types body nulls (length types) list → all_inline list ≡ true → first_packed 0 list ≡ packed → SaysOfAttributes types body nulls (unless_packed packed (attribute_values types list))
says_list types body nulls list None a inline p = (list, a, inline, (refl, p))
says_list types body nulls list (Some column) a inline p = (list, a, inline, p)

says : (types : List ColType) (body : List ℕ) (nulls : Option (List ℕ)) (r : Inlines) → All HasAlignment types → IsOf (read_from types nulls (length types) body 0 0) r → SaysOfAttributes types body nulls (values_by types r)
says types body nulls (Ok list) known h = says_list types body nulls list (first_packed 0 list) (read_sound types nulls (length types) body 0 0 list (recursion_from_All HasAlignment types known) h.0) h.1 refl
says types body nulls (Err (fault.PastEnd column)) known h = ap failure_in h
says types body nulls (Err (fault.BadHeader column)) known h = ap failure_in h
says types body nulls (Err (fault.External column)) known h = h
says types body nulls (Err (fault.Packed column)) known h = absurd h

pub key_values_say : (types : List ColType) (body : List ℕ) (nulls : Option (List ℕ)) → All HasAlignment types → SaysOfAttributes types body nulls (key_values types body nulls)
unfolding key_values
key_values_say types body nulls known = says types body nulls _ known (inline_is_of types nulls (length types) body 0 0)

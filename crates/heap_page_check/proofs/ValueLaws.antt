-- What is found of the values of a live tuple is what they break.
use Rattle.std.proofs.Common.{◌≡◌, ℕ, Bool, true, false, List, [], ◌∷◌, refl, subst}
use Rattle.std.specs.Prelude.{Option, Some, None, Ok, Err, Contains, if◌then◌else◌}
use Rattle.std.specs.List.{All}
use Rattle.std.specs.Option.{option_or}
use Rattle.std.proofs.lemmas.Bool.{both_ways}
use Rattle.std.proofs.lemmas.List.Elements.{All-nil, All-cons, All-contains, All-contains_itself, All-head, All-tail}
use Rattle.page_layout.specs.declared.rules.Rule.{Rule}
use Rattle.page_layout.specs.declared.rules.Rule.TheVariants.{H17, H18, H19, H20}
use Rattle.tuple_head.specs.declared.HeapHead.{HeapHead}
use Rattle.varlena_attrs.specs.Forms.{Attribute, Null, Missing, Plain, Packed, External}
use Rattle.varlena_attrs.specs.Reading.{Outcome}
use Rattle.heap_tuples.specs.Tuples.{attributes_in}
use Rattle.varlena_attrs.specs.declared.fault.AttrFault.TheVariants.{PastEnd, BadHeader, BadTag, NoMemory}
use Rattle.varlena_attrs.specs.declared.places.ToastPointer.{ToastPointer}
use Rattle.toast_chunks.specs.Pointer.{KeepsPointerRule, keeps_pointer_rule}
use Rattle.heap_tuples.specs.Places.{tuple_at}
use Rattle.toast_chunks.proofs.Pointers.{pointer-sentence}
use Rattle.heap_page_check.specs.Broken.{BreaksAt, HasExternal, HoldsLiveTuple, past_end, bad_length, bad_tag, stray_pointer, bad_pointer}
use Rattle.heap_page_check.specs.Table.{Table}
use Rattle.heap_page_check.specs.Values.{first_value_rule, is_stray_pointer, pointer_rule_of, value_rule, values_rule}
use Rattle.heap_page_check.specs.Verdicts.{head_at}

-- A pointer

-- which rule a pointer breaks, by its two tests
data BreaksPointer (toast : Option ℕ) (head : HeapHead) (p : ToastPointer) : Rule → Type 0 where
  stray : is_stray_pointer toast head p ≡ true → BreaksPointer toast head p H19
  bad : keeps_pointer_rule p ≡ false → BreaksPointer toast head p H20

pointer_by : (toast : Option ℕ) (head : HeapHead) (p : ToastPointer) (s k : Bool) (rule : Rule) → is_stray_pointer toast head p ≡ s → keeps_pointer_rule p ≡ k → (if s then Some H19 else if k then None else Some H20) ≡ Some rule → BreaksPointer toast head p rule
pointer_by toast head p true k rule is keeps e = let same : H19 ≡ rule = cc in subst (λ (q : Rule). BreaksPointer toast head p q) same (stray is)
pointer_by toast head p false true rule is keeps e = cc
pointer_by toast head p false false rule is keeps e = let same : H20 ≡ rule = cc in subst (λ (q : Rule). BreaksPointer toast head p q) same (bad keeps)

pointer_breaks : (toast : Option ℕ) (head : HeapHead) (p : ToastPointer) (rule : Rule) → pointer_rule_of toast head p ≡ Some rule → BreaksPointer toast head p rule
unfolding pointer_rule_of
pointer_breaks toast head p rule e = pointer_by toast head p _ _ rule refl refl e

kept_by : (s k : Bool) → (if s then Some H19 else if k then None else Some H20) ≡ None → (s ≡ false) × (k ≡ true)
kept_by true k e = cc
kept_by false true e = (refl, refl)
kept_by false false e = cc

pointer_keeps : (toast : Option ℕ) (head : HeapHead) (p : ToastPointer) → pointer_rule_of toast head p ≡ None → (is_stray_pointer toast head p ≡ false) × (keeps_pointer_rule p ≡ true)
unfolding pointer_rule_of
pointer_keeps toast head p e = kept_by (is_stray_pointer toast head p) (keeps_pointer_rule p) e

-- The values of a list of attributes

-- a pointer of the list breaks the rule
record HasBroken (toast : Option ℕ) (head : HeapHead) (list : List Attribute) (rule : Rule) : Type 0 where
  pointer : ToastPointer
  among : Contains list (External pointer)
  breaks : BreaksPointer toast head pointer rule

value_breaks : (toast : Option ℕ) (head : HeapHead) (list : List Attribute) (a : Attribute) (rule : Rule) → Contains list a → value_rule toast head a ≡ Some rule → HasBroken toast head list rule
value_breaks toast head list (External p) rule among e = record { pointer = p; among = among; breaks = pointer_breaks toast head p rule e }
value_breaks toast head list Null rule among e = cc
value_breaks toast head list Missing rule among e = cc
value_breaks toast head list (Plain content) rule among e = cc
value_breaks toast head list (Packed piece) rule among e = cc

-- the first rule that attributes of a list break is broken by one of them
first_breaks : (toast : Option ℕ) (head : HeapHead) (list rest : List Attribute) (rule : Rule) → All (Contains list) rest → first_value_rule toast head rest ≡ Some rule → HasBroken toast head list rule
unfolding first_value_rule
first_breaks toast head list [] rule inside e = cc
first_breaks toast head list (a ∷ rest) rule inside e =
    by_first (value_rule toast head a) (first_value_rule toast head rest)
    (value_breaks toast head list a rule (All-head (Contains list) a rest inside))
    (first_breaks toast head list rest rule (All-tail (Contains list) a rest inside))
    e
  where
    by_first : (first later : Option Rule) → (first ≡ Some rule → HasBroken toast head list rule) → (later ≡ Some rule → HasBroken toast head list rule) → option_or first later ≡ Some rule → HasBroken toast head list rule
    by_first None later now after e = after e
    by_first (Some r) later now after e = now e

none_of_both : (first later : Option Rule) → option_or first later ≡ None → (first ≡ None) × (later ≡ None)
none_of_both None later e = (refl, e)
none_of_both (Some r) later e = cc

-- and where there is none, no attribute breaks one
no_value_breaks : (toast : Option ℕ) (head : HeapHead) (list : List Attribute) → first_value_rule toast head list ≡ None → All (λ a. value_rule toast head a ≡ None) list
unfolding first_value_rule
no_value_breaks toast head [] e = All-nil (λ a. value_rule toast head a ≡ None)
no_value_breaks toast head (a ∷ list) e =
    let both = none_of_both (value_rule toast head a) (first_value_rule toast head list) e in
    All-cons (λ a. value_rule toast head a ≡ None) a list both.0 (no_value_breaks toast head list both.1)

-- The values of an item

module _ (table : Table) (page : List ℕ) (i : ℕ) where
  has_broken : (list : List Attribute) (rule : Rule) → HoldsLiveTuple table page i → attributes_in table.columns (tuple_at page i) ≡ Ok list → (p : ToastPointer) → Contains list (External p) → BreaksPointer table.toast (head_at page i) p rule → BreaksAt table page i rule
  has_broken list _ live read p among (stray is) =
      stray_pointer p (record { live = live; list = list; read = read; among = among }) is
  has_broken list _ live read p among (bad is) =
      bad_pointer p (record { live = live; list = list; read = read; among = among })
      (λ keeps. both_ways (keeps_pointer_rule p) is ((pointer-sentence p).1 keeps))

  -- the rule that the values of a live tuple break is broken
  pub values_break : (outcome : Outcome) (rule : Rule) → HoldsLiveTuple table page i → attributes_in table.columns (tuple_at page i) ≡ outcome → values_rule table.toast (head_at page i) outcome ≡ Some rule → BreaksAt table page i rule
  values_break (Ok list) rule live read e =
      let found = first_breaks table.toast (head_at page i) list list rule (All-contains_itself list) e in
      has_broken list rule live read found.pointer found.among found.breaks
  values_break (Err (PastEnd column)) rule live read e =
      let same : H17 ≡ rule = cc in subst (BreaksAt table page i) same (past_end column live read)
  values_break (Err (BadHeader column)) rule live read e =
      let same : H18 ≡ rule = cc in subst (BreaksAt table page i) same (bad_length column live read)
  values_break (Err (BadTag column)) rule live read e =
      let same : H18 ≡ rule = cc in subst (BreaksAt table page i) same (bad_tag column live read)
  values_break (Err NoMemory) rule live read e = cc

  -- the values of a tuple break no rule
  abbrev pub KeepsValues : Type 0
  KeepsValues = values_rule table.toast (head_at page i) (attributes_in table.columns (tuple_at page i)) ≡ None

  -- then its attributes can be read
  pub read_is_kept : (outcome : Outcome) → KeepsValues → attributes_in table.columns (tuple_at page i) ≡ outcome → values_rule table.toast (head_at page i) outcome ≡ None
  read_is_kept outcome keeps e = subst (λ (o : Outcome). values_rule table.toast (head_at page i) o ≡ None) e keeps

  -- and each of its pointers keeps H19 and H20
  pub external_keeps : (p : ToastPointer) → KeepsValues → HasExternal table page i p → (is_stray_pointer table.toast (head_at page i) p ≡ false) × KeepsPointerRule p
  external_keeps p keeps has =
      let each = no_value_breaks table.toast (head_at page i) has.list (read_is_kept (Ok has.list) keeps has.read) in
      let both = pointer_keeps table.toast (head_at page i) p (All-contains (λ a. value_rule table.toast (head_at page i) a ≡ None) has.list (External p) each has.among) in
      (both.0, (pointer-sentence p).0 both.1)

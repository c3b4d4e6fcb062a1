-- What the reader answers in place of an attribute is the column's first fault.
use Rattle.std.proofs.Common.{◌≡◌, ℕ, ◌+◌, ◌<◌, ◌≤◌, Bool, true, false, cond, List, length, refl, ap, sym, inl, inr, arith}
use Rattle.std.specs.Prelude.{◌⊎◌, not, nat_lt, slice_index, Option, Some, None, Ok, Err}
use Rattle.std.proofs.lemmas.Bool.{and_parts, eq-eqb, eqb-true, ltb-true, ltb-false}
use Rattle.key_orders.specs.declared.columns.ColType.{ColType}
use Rattle.key_orders.specs.Types.{HasAlignment, alignment_of, fixed_length}
use Rattle.varlena_attrs.specs.declared.forms.Cause.{Cause}
use Rattle.varlena_attrs.specs.declared.forms.Cause.TheVariants.{PastEnd}
use Rattle.varlena_attrs.specs.Attributes.{Absent, As_null, Presence, Stored}
use Rattle.varlena_attrs.specs.Faults.{ContentPassesEnd, HasFault, HasLowLength, HasUnknownTag, HeaderPassesEnd, IsFirstFault}
use Rattle.varlena_attrs.specs.Faults.{cut_length, cut_long, cut_pointer, cut_short, fixed_fault, in_content, in_header, in_length, in_tag}
use Rattle.varlena_attrs.specs.Faults.{low_long, low_packed, no_byte, no_tag, varlena_fault}
use Rattle.varlena_attrs.specs.Forms.{Attribute}
use Rattle.varlena_attrs.specs.Reading.{Step, aligned, attribute_at, content_at, content_passes_end, fixed_at, has_low_length, has_other_tag}
use Rattle.varlena_attrs.specs.Reading.{header_length, header_passes_end, least_length, start_of, stored_at, stored_by, varlena_at}
use Rattle.varlena_attrs.proofs.Stored.{aligned_is, alignments, start_of_is}
use Rattle.varlena_attrs.proofs.Varlena.{even_first, first_cases, header_length-even, header_length-short, least_length-long, least_length-odd}
use Rattle.varlena_attrs.proofs.Varlena.{least_length-packed}
use Rattle.varlena_attrs.proofs.Varlena.{length_at-even, length_at-external, length_at-short, tag_from}

err_cause : (c d : Cause) → ◌≡◌ {A = Step} (Err c) (Err d) → c ≡ d
err_cause c d h = cc

not_fault : (x : Attribute × ℕ) (cause : Cause) → ◌≡◌ {A = Step} (Ok x) (Err cause) → ⊥
not_fault x cause h = cc

-- a test that leads to a fault either holds, and this is the fault, or the fault is a later one
err_if : (b : Bool) (c cause : Cause) (s : Step) → ◌≡◌ {A = Step} (cond b (Err c) s) (Err cause)
    → ((b ≡ true) × (cause ≡ c)) ⊎ ((b ≡ false) × (◌≡◌ {A = Step} s (Err cause)))
err_if true c cause s h = inl (refl, sym (err_cause c cause h))
err_if false c cause s h = inr (refl, h)

-- the header
one_or_more : (f : ℕ) → 1 ≤ header_length f
one_or_more f =
    elim (first_cases f) [
      | inl e ↦ omega (arith, ap header_length e)
      | inr (inl h) ↦ omega (arith, header_length-short f h.0 h.1)
      | inr (inr h) ↦ let even = even_first f h in omega (arith, header_length-even f even.0 even.1)
    ]

header_fault : (body : List ℕ) (start : ℕ) → header_passes_end body start ≡ true → HeaderPassesEnd body start
header_fault body start h =
    let lt = ltb-true _ _ h in
    elim (first_cases (slice_index body start)) [
      | inl e ↦ no_tag e (omega (arith, lt, ap header_length e))
      | inr (inl odd) ↦ no_byte (omega (arith, lt, header_length-short _ odd.0 odd.1))
      | inr (inr (inl long)) ↦
          let even = even_first _ (inl long) in cut_length (omega (arith, long)) (omega (arith, lt, header_length-even _ even.0 even.1))
      | inr (inr (inr packed)) ↦
          let even = even_first _ (inr packed) in cut_length (omega (arith, packed)) (omega (arith, lt, header_length-even _ even.0 even.1))
    ]

no_header_fault : (body : List ℕ) (start : ℕ) → header_passes_end body start ≡ false → ¬ HeaderPassesEnd body start
no_header_fault body start h (no_byte le) = omega (arith, ltb-false _ _ h, one_or_more (slice_index body start), le)
no_header_fault body start h (no_tag e lt) = omega (arith, ltb-false _ _ h, ap header_length e, lt)
no_header_fault body start h (cut_length even lt) =
    omega (arith, ltb-false _ _ h, header_length-even (slice_index body start) (λ e. omega (arith, even, e)) (λ e. omega (arith, even, e)), lt)

-- the tag
tag_fault : (body : List ℕ) (start : ℕ) → has_other_tag body start ≡ true → HasUnknownTag body start
tag_fault body start h =
    let both = and_parts _ _ h in
    record { one = eqb-true _ _ both.0; tag = λ e. other _ (eq-eqb _ _ e) both.1 }
  where
    other : (b : Bool) → b ≡ true → not b ≡ true → ⊥
    other true e h = cc
    other false e h = cc

no_tag_fault : (body : List ℕ) (start : ℕ) → has_other_tag body start ≡ false → ¬ HasUnknownTag body start
no_tag_fault body start h x = x.tag (tag_from body start h x.one)

-- the length
low_fault : (body : List ℕ) (start : ℕ) → has_low_length body start ≡ true → HasLowLength body start
low_fault body start h =
    let lt = ltb-true _ _ h in
    elim (first_cases (slice_index body start)) [
      | inl e ↦ absurd (omega (arith, lt, ap least_length e))
      | inr (inl odd) ↦ absurd (omega (arith, lt, least_length-odd _ odd.0))
      | inr (inr (inl long)) ↦ low_long long (omega (arith, lt, least_length-long _ long, length_at-even body start (even_first _ (inl long))))
      | inr (inr (inr packed)) ↦ low_packed packed (omega (arith, lt, least_length-packed _ packed, length_at-even body start (even_first _ (inr packed))))
    ]

no_low_fault : (body : List ℕ) (start : ℕ) → has_low_length body start ≡ false → ¬ HasLowLength body start
no_low_fault body start h (low_long long lt) =
    omega (arith, ltb-false _ _ h, least_length-long _ long, length_at-even body start (even_first _ (inl long)), lt)
no_low_fault body start h (low_packed packed lt) =
    omega (arith, ltb-false _ _ h, least_length-packed _ packed, length_at-even body start (even_first _ (inr packed)), lt)

-- the content
content_fault : (body : List ℕ) (start : ℕ) → content_passes_end body start ≡ true → ContentPassesEnd body start
content_fault body start h =
    let lt = ltb-true _ _ h in
    elim (first_cases (slice_index body start)) [
      | inl e ↦ cut_pointer e (omega (arith, lt, length_at-external body start e))
      | inr (inl odd) ↦ cut_short odd.0 odd.1 (omega (arith, lt, length_at-short body start odd.0 odd.1))
      | inr (inr (inl long)) ↦ cut_long (omega (arith, long)) (omega (arith, lt, length_at-even body start (even_first _ (inl long))))
      | inr (inr (inr packed)) ↦ cut_long (omega (arith, packed)) (omega (arith, lt, length_at-even body start (even_first _ (inr packed))))
    ]

-- the varlena
content_failed : (body : List ℕ) (start : ℕ) (cause : Cause) → ¬ HeaderPassesEnd body start → ¬ HasUnknownTag body start → content_at body start ≡ Err cause
    → IsFirstFault body start cause
unfolding content_at
content_failed body start cause header tag h =
    elim (err_if (has_low_length body start) _ _ _ h) [
      | inl low ↦ in_length header tag (low_fault body start low.0) low.1
      | inr a ↦ elim (err_if (content_passes_end body start) _ _ _ a.1) [
        | inl cut ↦ in_content header tag (no_low_fault body start a.0) (content_fault body start cut.0) cut.1
        | inr b ↦ absurd (not_fault _ _ b.1)
      ]
    ]

varlena_failed : (body : List ℕ) (start : ℕ) (cause : Cause) → varlena_at body start ≡ Err cause → IsFirstFault body start cause
unfolding varlena_at
varlena_failed body start cause h =
    elim (err_if (header_passes_end body start) _ _ _ h) [
      | inl cut ↦ in_header (header_fault body start cut.0) cut.1
      | inr a ↦ elim (err_if (has_other_tag body start) _ _ _ a.1) [
        | inl tag ↦ in_tag (no_header_fault body start a.0) (tag_fault body start tag.0) tag.1
        | inr b ↦ content_failed body start cause (no_header_fault body start a.0) (no_tag_fault body start b.0) b.1
      ]
    ]

-- the attribute of a type
fixed_failed : (len : ℕ) (body : List ℕ) (start : ℕ) (cause : Cause) → fixed_at len body start ≡ Err cause → (length body < start + len) × (cause ≡ PastEnd)
unfolding fixed_at
fixed_failed len body start cause h =
    elim (err_if (nat_lt (length body) (start + len)) _ _ _ h) [
      | inl cut ↦ (ltb-true _ _ cut.0, cut.1)
      | inr a ↦ absurd (not_fault _ _ a.1)
    ]

by_failed : (o : Option ℕ) (ctype : ColType) (body : List ℕ) (place : ℕ) (cause : Cause) → HasAlignment ctype → fixed_length ctype ≡ o
    → stored_by o (alignment_of ctype) body place ≡ Err cause → HasFault ctype body place cause
by_failed (Some len) ctype body place cause known e h =
    let f = fixed_failed len body _ cause h in
    fixed_fault len (aligned (alignment_of ctype) place) e (aligned_is _ place (alignments _ known)) f.0 f.1
by_failed None ctype body place cause known e h =
    varlena_fault (start_of (alignment_of ctype) body place) e (start_of_is _ body place known) (varlena_failed body _ cause h)

stored_failed : (ctype : ColType) (body : List ℕ) (place : ℕ) (cause : Cause) → HasAlignment ctype → stored_at ctype body place ≡ Err cause
    → HasFault ctype body place cause
unfolding stored_at
stored_failed ctype body place cause known h = by_failed (fixed_length ctype) ctype body place cause known refl h

-- only a stored column has a fault
pub attribute_failed : (p : Presence) (ctype : ColType) (body : List ℕ) (place : ℕ) (cause : Cause) → HasAlignment ctype
    → attribute_at p ctype body place ≡ Err cause
    → (p ≡ Stored) × HasFault ctype body place cause
attribute_failed Absent ctype body place cause known h = absurd (not_fault _ _ h)
attribute_failed As_null ctype body place cause known h = absurd (not_fault _ _ h)
attribute_failed Stored ctype body place cause known h = (refl, stored_failed ctype body place cause known h)

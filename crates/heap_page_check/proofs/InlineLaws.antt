-- Values that are all stored in line break no rule of values, and leave nothing.
use Rattle.std.proofs.Common.{◌≡◌, ℕ, zero, suc, ◌+◌, Bool, true, false, List, [], ◌∷◌, refl, sym, ap, ◌∙◌, length}
use Rattle.std.specs.Prelude.{◌&&◌, slice_get, Option, Some, None, Ok, Err}
use Rattle.std.specs.Option.{option_or}
use Rattle.outside.specs.Adds.{each_below}
use Rattle.page_layout.specs.declared.rules.Rule.{Rule}
use Rattle.tuple_head.specs.declared.HeapHead.{HeapHead}
use Rattle.varlena_attrs.specs.Forms.{Attribute, Null, Missing, Plain, Packed, External}
use Rattle.varlena_attrs.specs.Inline.{all_inline, are_inline, is_inline}
use Rattle.varlena_attrs.specs.Reading.{Outcome}
use Rattle.toast_chunks.specs.declared.map.Chunk.{Chunk}
use Rattle.reports.specs.Added.{nothing, report_lists}
use Rattle.reports.specs.Lists.{Lists}
use Rattle.reports.specs.declared.places.Place.{Place}
use Rattle.reports.specs.declared.places.Place.TheVariants.{Column}
use Rattle.heap_page_check.specs.Found.{FoundLists, attributes_read, both_found, found_parts, kept_by_values, late_at, late_in, late_of}
use Rattle.heap_page_check.specs.Found.{leaves_nothing, left_by, nothing_found}
use Rattle.heap_page_check.specs.Values.{first_value_rule, value_rule, values_rule}
use Rattle.heap_page_check.specs.declared.table.TableKind.{TableKind}
use Rattle.heap_page_check.specs.declared.table.TableKind.TheVariants as kind

both : (a b : Bool) → (a && b) ≡ true → (a ≡ true) × (b ≡ true)
both true true e = (refl, refl)
both true false e = absurd cc
both false b e = absurd cc

-- No rule

inline_breaks_none : (oid : Option ℕ) (head : HeapHead) (a : Attribute) → is_inline a ≡ true → value_rule oid head a ≡ None
inline_breaks_none oid head Null e = refl
inline_breaks_none oid head Missing e = refl
inline_breaks_none oid head (Plain content) e = refl
inline_breaks_none oid head (Packed piece) e = refl
inline_breaks_none oid head (External pointer) e = absurd cc

list_breaks_none : (oid : Option ℕ) (head : HeapHead) (list : List Attribute) → all_inline list ≡ true → first_value_rule oid head list ≡ None
unfolding first_value_rule all_inline
list_breaks_none oid head [] e = refl
list_breaks_none oid head (a ∷ list) e =
    let parts = both (is_inline a) (all_inline list) e in
    ap (λ (r : Option Rule). option_or r (first_value_rule oid head list)) (inline_breaks_none oid head a parts.0) ∙ list_breaks_none oid head list parts.1

outcome_breaks_none : (oid : Option ℕ) (head : HeapHead) (outcome : Outcome) → are_inline outcome ≡ true → values_rule oid head outcome ≡ None
outcome_breaks_none oid head (Ok list) e = list_breaks_none oid head list e
outcome_breaks_none oid head (Err fault) e = absurd cc

-- Nothing left

inline_is_nothing : (toast : Option ℕ) (chunks : List Chunk) (place : Place) (a : Attribute) → is_inline a ≡ true → late_in toast chunks place (Some a) ≡ nothing
inline_is_nothing toast chunks place Null e = refl
inline_is_nothing toast chunks place Missing e = refl
inline_is_nothing toast chunks place (Plain content) e = refl
inline_is_nothing toast chunks place (Packed piece) e = refl
inline_is_nothing toast chunks place (External pointer) e = absurd cc

nothing_at : (toast : Option ℕ) (chunks : List Chunk) (place : Place) (list : List Attribute) (k : ℕ) → all_inline list ≡ true → late_in toast chunks place (slice_get list k) ≡ nothing
unfolding all_inline
nothing_at toast chunks place [] k e = refl
nothing_at toast chunks place (a ∷ list) zero e = inline_is_nothing toast chunks place a (both (is_inline a) (all_inline list) e).0
nothing_at toast chunks place (a ∷ list) (suc k) e = nothing_at toast chunks place list k (both (is_inline a) (all_inline list) e).1

nothing_of_each : (f : ℕ → Lists) (n : ℕ) → ((k : ℕ) → f k ≡ nothing) → each_below report_lists f n ≡ nothing
unfolding each_below
nothing_of_each f zero none = refl
nothing_of_each f (suc n) none = rw (nothing_of_each f n none, none n) refl

nothing_in : (toast : Option ℕ) (chunks : List Chunk) (block item : ℕ) (list : List Attribute) → all_inline list ≡ true → late_of toast chunks block item list ≡ nothing
unfolding late_of late_at
nothing_in toast chunks block item list e =
    nothing_of_each (late_at toast chunks block item list) (length list) (λ k. nothing_at toast chunks (Column block item (k + 1)) list k e)

nothing_read : (toast : Option ℕ) (chunks : List Chunk) (block item : ℕ) (outcome : Outcome) → are_inline outcome ≡ true → late_of toast chunks block item (attributes_read outcome) ≡ nothing
nothing_read toast chunks block item (Ok list) e = nothing_in toast chunks block item list e
nothing_read toast chunks block item (Err fault) e = absurd cc

pub left_is_nothing : (kind : TableKind) (toast : Option ℕ) (chunks : List Chunk) (block item : ℕ) (outcome : Outcome) → leaves_nothing kind outcome ≡ true → left_by kind toast chunks block item (kept_by_values None outcome) ≡ nothing_found
left_is_nothing kind.Heap toast chunks block item outcome e = ap (λ (lists : Lists). record { listed = nothing; late = lists; chunks = [] }) (nothing_read toast chunks block item outcome e)
left_is_nothing kind.Toast toast chunks block item outcome e = absurd cc

-- Where a tuple leaves nothing

pub leaves_no_rule : (kind : TableKind) (oid : Option ℕ) (head : HeapHead) (outcome : Outcome) → leaves_nothing kind outcome ≡ true → values_rule oid head outcome ≡ None
leaves_no_rule kind.Heap oid head outcome e = outcome_breaks_none oid head outcome e
leaves_no_rule kind.Toast oid head outcome e = absurd cc

pub leaves_none : (kind : TableKind) (toast : Option ℕ) (chunks : List Chunk) (block item : ℕ) (outcome : Outcome) (old : FoundLists) → leaves_nothing kind outcome ≡ true → old ≡ both_found old (left_by kind toast chunks block item (kept_by_values None outcome))
leaves_none kind toast chunks block item outcome old e =
    sym (ap (both_found old) (left_is_nothing kind toast chunks block item outcome e) ∙ found_parts.with_none old)

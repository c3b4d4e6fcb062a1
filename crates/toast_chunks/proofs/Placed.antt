-- A tuple whose attributes are where they should be, and what the row that it is tells of its chunk.
use Rattle.std.proofs.Common.{◌≡◌, ℕ, ◌≤◌, Bool, true, false, Bor, cond, List, length, refl, ap, sym, subst, ◌∙◌, ◌+◌, ◌*◌, ◌/◌, arith}
use Rattle.std.specs.Prelude.{Option, Some, None, Result, Ok, Err, IfOk}
use Rattle.std.specs.Option.{option_copied}
use Rattle.page_layout.specs.Page.{item_of}
use Rattle.heap_tuples.specs.Places.{IsTupleAt, tuple_at}
use Rattle.toast_chunks.specs.Stored.{HasRow, content_at, content_of}
use Rattle.toast_chunks.specs.Rows.{toast_columns}
use Rattle.heap_tuples.specs.Tuples.{IsReadAs, attributes_in}
use Rattle.tuple_head.specs.Head.{has_misplaced_attributes, tuple_head_of}
use Rattle.varlena_attrs.specs.Forms.{Attribute}
use Rattle.varlena_attrs.specs.Reading.{Outcome}

some_same : (xs ys : List ℕ) → ◌≡◌ {A = Option (List ℕ)} (Some xs) (Some ys) → xs ≡ ys
some_same xs ys e = cc

-- the bytes of the tuple that stands at an item
pub content_here : {E : Type 0} (r : Result (Option (Bor (List ℕ))) E) (page : List ℕ) (item : ℕ) (tuple : List ℕ) → (IsTupleAt page item → ◌≡◌ {A = Option (List ℕ)} (Some tuple) (Some (tuple_at page item))) → length tuple ≡ (item_of page item).len → IfOk r (λ content. has_misplaced_attributes (length tuple) (tuple_head_of tuple) ≡ false → option_copied content ≡ content_of (attributes_in toast_columns tuple)) → IfOk r (λ content. HasRow page item → option_copied content ≡ content_at page item)
content_here (Ok content) page item tuple is len h = λ row.
    let same = some_same tuple (tuple_at page item) (is row.tuple) in
    let P : List ℕ → Type 0 = λ t. has_misplaced_attributes (item_of page item).len (tuple_head_of t) ≡ false in
    let Q : ℕ → Type 0 = λ n. has_misplaced_attributes n (tuple_head_of tuple) ≡ false in
    h (subst Q (sym len) (subst P (sym same) row.attributes)) ∙ ap (λ t. content_of (attributes_in toast_columns t)) same
content_here (Err e) page item tuple is len h = tt

-- a row whose attributes can't be read has no chunk
pub nothing_read : (outcome : Outcome) → ((list : List Attribute) → IsReadAs outcome list → ⊥) → ◌≡◌ {A = Option (List ℕ)} None (content_of outcome)
nothing_read (Ok list) h = absurd (h list refl)
nothing_read (Err e) h = refl

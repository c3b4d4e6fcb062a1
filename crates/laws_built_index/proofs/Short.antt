-- A separator is little longer than the entry on its right.
use Rattle.std.proofs.Common.{◌≡◌, ◌≤◌, ◌<◌, ◌+◌, ℕ, zero, suc, true, List, [], ◌∷◌, ◌++◌, length, take, refl, sym, ap, ◌∙◌, arith}
use Rattle.std.specs.Prelude.{Option, Some, None}
use Rattle.std.specs.List.{All}
use Rattle.std.specs.Cmp.{IsTotalOrder}
use Rattle.std.proofs.lemmas.List.{length-append}
use Rattle.page_layout.specs.Writes.{block_bytes, u16_bytes}
use Rattle.laws_search.specs.Keys.{Entry, Separator}
use Rattle.key_orders.specs.declared.columns.ColType.{ColType}
use Rattle.key_orders.specs.declared.columns.KeySpec.{KeySpec}
use Rattle.key_orders.specs.declared.columns.Value.{Value}
use Rattle.key_orders.specs.declared.more.MoreSpec.{MoreSpec}
use Rattle.key_orders.specs.declared.Tid.{Tid}
use Rattle.key_orders.specs.Keys.{columns_of, tid_order}
use Rattle.key_orders.specs.Scans.{order_of}
use Rattle.key_orders.specs.Types.{HasAlignment}
use Rattle.key_attrs.specs.Keyed.{key_types, more_types}
use Rattle.page_write.specs.declared.index_tuples.BodyFlags.{BodyFlags}
use Rattle.page_write.specs.Bodies.{body_flags, index_body}
use Rattle.page_write.specs.Pages.{zeros}
use Rattle.page_write.specs.Tuples.{index_head_bytes, index_size, kept_tid_bytes, masks_of, padded_body, pivot_tuple, tid_bytes, tid_mask, tid_room}
use Rattle.page_write.proofs.Zeros.{length_zeros}
use Rattle.page_write.proofs.TupleReading.{length_padded, length_plain}
use Rattle.laws_building.specs.Layout.{end_of}
use Rattle.laws_building.specs.Splits.{key_splitter}
use Rattle.laws_building.proofs.Ends.{front_ends, kept_ends}
use Rattle.laws_building.proofs.Splits.{pivot_shape}
use Rattle.laws_built_index.specs.Layouts.{body_layout}
use Rattle.laws_built_index.specs.Items.{entry_types, kept_types, pivot_item, plain_item}
use Rattle.laws_built_index.proofs.Bodies.{body_ends, front_body, laid_out}

-- The bytes of a pivot

length_head : (block item info : ℕ) → length (index_head_bytes block item info) ≡ 8
unfolding index_head_bytes block_bytes u16_bytes
length_head block item info = refl

length_tid : (tid : Tid) → length (tid_bytes tid) ≡ 6
unfolding tid_bytes block_bytes u16_bytes
length_tid tid = refl

length_kept : (tid : Option Tid) → length (kept_tid_bytes tid) ≡ tid_room tid
unfolding kept_tid_bytes
length_kept None = refl
length_kept (Some tid) =
    let a = length-append (zeros 2) (tid_bytes tid) in
    let b = length_zeros 2 in
    let c = length_tid tid in
    omega (arith, a, b, c)

little_room : (tid : Option Tid) → tid_room tid ≤ 8
little_room None = omega arith
little_room (Some tid) = omega arith

pub length_pivot : (down kept : ℕ) (tid : Option Tid) (flags : BodyFlags) (body : List ℕ) → length (pivot_tuple down kept tid flags body) ≡ index_size (length body) + tid_room tid
unfolding pivot_tuple
length_pivot down kept tid flags body =
    let info = 0x2000 + masks_of flags + index_size (length body) + tid_room tid in
    let head : List ℕ = index_head_bytes down (kept + tid_mask tid) info in
    let a = length-append (head ++ padded_body body) (kept_tid_bytes tid) in
    let b = length-append head (padded_body body) in
    let c = length_head down (kept + tid_mask tid) info in
    let d = length_padded body in
    let e = length_kept tid in
    omega (arith, a, b, c, d, e)

-- Types

pub length_types : (specs : List KeySpec) → length (key_types specs) ≡ length specs
length_types [] = refl
length_types (k ∷ specs) = ap suc (length_types specs)

pub length_more : (more : List MoreSpec) → length (more_types more) ≡ length more
length_more [] = refl
length_more (m ∷ more) = ap suc (length_more more)

pub types_front : (n : ℕ) (specs : List KeySpec) → key_types (take n specs) ≡ take n (key_types specs)
types_front zero specs = refl
types_front (suc n) [] = refl
types_front (suc n) (k ∷ specs) = ap (λ (w : List ColType). k.ctype ∷ w) (types_front n specs)

module _ (specs : List KeySpec) (more : List MoreSpec) (d e : Entry Value Tid) (included : List Value) (down : ℕ) (some : 0 < length specs) (total : (i : ℕ) → IsTotalOrder (columns_of specs i)) (known : All HasAlignment (entry_types specs more)) (whole : length e.values ≡ length specs) (all : length included ≡ length more) (below : (order_of specs).precedes d e ≡ true) where
  abbrev sep : Separator Value Tid
  sep = (key_splitter (columns_of specs)).split_key d e

  few_kept : length sep.kept ≤ length specs
  few_kept = (pivot_shape (columns_of specs) total tid_order (length specs) d e some whole below).not_more

  -- the body of what is kept ends no later than that of all values
  body_short : length (index_body (kept_types specs sep) sep.kept) ≤ length (index_body (entry_types specs more) (e.values ++ included))
  body_short =
      let types : List ColType = entry_types specs more in
      let lay = body_layout types in
      let fits = laid_out types known in
      let columns = length_types specs in
      let all_columns : length types ≡ length specs + length more = let a = length-append (key_types specs) (more_types more) in let b = length_more more in omega (arith, a, b, columns) in
      let all_values = length-append e.values included in
      let few = few_kept in
      let kept : end_of lay sep.kept ≡ length (index_body (kept_types specs sep) sep.kept) =
      body_ends types sep.kept (omega (arith, few, all_columns))
      ∙ ap (λ (w : List ℕ). length w) (sym (front_body (key_types specs) (more_types more) sep.kept (omega (arith, few, columns))))
      ∙ ap (λ (ts : List ColType). length (index_body ts sep.kept)) (sym (types_front (length sep.kept) specs)) in
      let entry : end_of lay (e.values ++ included) ≡ length (index_body types (e.values ++ included)) =
      body_ends types (e.values ++ included) (omega (arith, all_values, whole, all, all_columns)) in
      let first = kept_ends lay fits (columns_of specs) tid_order total d e below in
      let then = front_ends lay fits e.values included in
      omega (arith, kept, entry, first, then)

  pub short : length (pivot_item specs down sep) ≤ length (plain_item specs more e included) + 8
  short =
      let types : List ColType = entry_types specs more in
      let a = length_pivot down (length sep.kept) sep.tid (body_flags (kept_types specs sep) sep.kept) (index_body (kept_types specs sep) sep.kept) in
      let b = length_plain e.tid (body_flags types (e.values ++ included)) (index_body types (e.values ++ included)) in
      let c = body_short in
      let room = little_room sep.tid in
      omega (arith, a, b, c, room)

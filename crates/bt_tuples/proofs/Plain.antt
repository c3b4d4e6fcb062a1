-- A plain tuple of a leaf without null bits, whose values are told.
use Rattle.std.proofs.Common.{◌≡◌, ◌≢◌, ℕ, ◌≤◌, Bool, false, List, ◌++◌, length, take, drop, refl, ap, sym, subst, ◌∙◌, true}
use Rattle.std.specs.Prelude.{not, nat_lt, ◌&&◌, ◌||◌, None, Ok, Some}
use Rattle.std.proofs.Math.Seq.{drop-append_seam, take-append_seam}
use Rattle.std.proofs.lemmas.Bool.{cond-false, eq-eqb, le-ltb, ne_eqb}
use Rattle.key_orders.specs.declared.columns.KeySpec.{KeySpec}
use Rattle.key_orders.specs.declared.columns.Value.{Value}
use Rattle.key_orders.specs.declared.more.MoreSpec.{MoreSpec}
use Rattle.key_orders.specs.declared.Tid.{Tid}
use Rattle.key_attrs.specs.Keyed.{key_types, key_values, more_types}
use Rattle.bt_meta.specs.declared.records.HeadKind.{HeadKind}
use Rattle.bt_meta.specs.declared.records.HeadKind.TheVariants as kind
use Rattle.bt_meta.specs.declared.records.TreeHead.{TreeHead}
use Rattle.bt_meta.specs.Heads.{tree_head_of}
use Rattle.bt_tuples.specs.declared.items.ItemFault.TheVariants.{Broken}
use Rattle.bt_tuples.specs.declared.items.Spot3.TheVariants.{LeafItem}
use Rattle.page_layout.specs.declared.rules.Rule.TheVariants.{B6, B7, B8}
use Rattle.std.specs.Prelude.{Err}
use Rattle.bt_tuples.specs.Items.{Plain, meaning_by, meaning_of, tuple_outcome}
use Rattle.bt_tuples.specs.Plain.{IsPlainHead}
use Rattle.bt_tuples.specs.Rules.{begins_past_end, breaks_form, breaks_size, breaks_tids, breaks_tids_by, includes_some, is_pivot, is_posting}
use Rattle.bt_tuples.specs.Tuples.{body_begin, body_end, body_in, columns_by, end_by, has_null_bits, null_bits_in, plain_tid, size_of, values_in}
use Rattle.bt_tuples.proofs.Reading.{meaning-is, outcome-read}

module _ (specs : List KeySpec) (more : List MoreSpec) (tuple : List ℕ) (head : TreeHead) (h : IsPlainHead tuple head) (long : 8 ≤ length tuple) where
  plain_kind : (tree_head_of tuple).kind ≡ kind.Plain
  plain_kind = ap (λ (t : TreeHead). t.kind) (sym h.is) ∙ h.kind

  none : has_null_bits (tree_head_of tuple) ≡ false
  none = ap has_null_bits (sym h.is) ∙ h.no_nulls

  same_size : breaks_size tuple ≡ false
  same_size = ap not (eq-eqb (size_of (tree_head_of tuple)) (length tuple) (ap size_of (sym h.is) ∙ h.size))

  right_form : breaks_form LeafItem (length specs) (includes_some more) (tree_head_of tuple) ≡ false
  right_form = ap (λ (k : HeadKind). is_pivot k || (includes_some more && is_posting k)) plain_kind ∙ none-else (includes_some more)
    where
      none-else : (b : Bool) → (b && false) ≡ false
      none-else true = refl
      none-else false = refl

  begins : begins_past_end tuple ≡ false
  begins =
      let to : body_end (tree_head_of tuple) (length tuple) ≡ length tuple = ap (λ (k : HeadKind). end_by k (tree_head_of tuple) (length tuple)) plain_kind in
      let from : body_begin (tree_head_of tuple) ≡ 8 = cond-false (has_null_bits (tree_head_of tuple)) 16 8 none in
      (λ i. nat_lt (to i) (from i)) ∙ le-ltb (length tuple) 8 long

  right_tid : breaks_tids tuple ≡ false
  right_tid =
      let some : (tree_head_of tuple).item ≢ 0 = subst (λ (t : TreeHead). t.item ≢ 0) h.is h.some in
      ap (λ (k : HeadKind). breaks_tids_by k tuple) plain_kind ∙ ne_eqb (tree_head_of tuple).item 0 some

  -- its values are those of its body
  pub values-are : values_in specs more tuple ≡ key_values (key_types specs ++ more_types more) (body_in tuple) None
  unfolding values_in
  values-are =
      let nulls : null_bits_in tuple ≡ None = cond-false (has_null_bits (tree_head_of tuple)) (Some (take 4 (drop 8 tuple))) None none in
      λ i. key_values (columns_by (plain_kind i) (tree_head_of tuple) specs more) (body_in tuple) (nulls i)

  module _ (key rest : List Value) (told : key_values (key_types specs ++ more_types more) (body_in tuple) None ≡ Ok (key ++ rest)) where
    values : values_in specs more tuple ≡ Ok (key ++ rest)
    values = values-are ∙ told

    meaning : (killed : Bool) (tid : Tid) → length key ≡ length specs → plain_tid (tree_head_of tuple) ≡ tid → meaning_of specs more tuple killed ≡ Plain key rest tid killed
    meaning killed tid count is =
        let first : take (length specs) (key ++ rest) ≡ key = ap (λ (n : ℕ). take n (key ++ rest)) (sym count) ∙ take-append_seam key rest in
        let others : drop (length specs) (key ++ rest) ≡ rest = ap (λ (n : ℕ). drop n (key ++ rest)) (sym count) ∙ drop-append_seam key rest in
        meaning-is specs more tuple killed (key ++ rest) values
        ∙ ap (λ (k : HeadKind). meaning_by k (length specs) tuple killed (key ++ rest)) plain_kind
        ∙ (λ i. Plain (first i) (others i) (is i) killed)

    -- it is one entry, with its key, its included values and its TID
    pub outcome : (killed : Bool) (tid : Tid) → length key ≡ length specs → plain_tid (tree_head_of tuple) ≡ tid → tuple_outcome specs more LeafItem tuple killed ≡ Ok (Plain key rest tid killed)
    unfolding tuple_outcome
    outcome killed tid count is =
        cond-false (breaks_size tuple) (Err (Broken B6)) _ same_size
        ∙ cond-false (breaks_form LeafItem (length specs) (includes_some more) (tree_head_of tuple)) (Err (Broken B7)) _ right_form
        ∙ cond-false (begins_past_end tuple) (Err (Broken B8)) _ begins
        ∙ sym (outcome-read (values_in specs more tuple) (key ++ rest) (breaks_tids tuple) (meaning_of specs more tuple killed) values right_tid)
        ∙ ap Ok (meaning killed tid count is)

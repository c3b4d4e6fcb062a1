-- What a plain item of an internal page keeps is a separator of the key, and where its downlink leads.
use Rattle.std.proofs.Common.{◌≡◌, ◌≢◌, ℕ, suc, ◌-◌, ◌≤◌, Bool, true, false, cond, List, [], ◌∷◌, length, take, refl, ap, sym, ◌∙◌, arith}
use Rattle.std.specs.Prelude.{Option, Some, None, Ok, Err, not, ◌&&◌, ◌||◌, ◌==◌, nat_lt}
use Rattle.std.proofs.lemmas.Bool.{ltb-false, not-false, or_parts}
use Rattle.laws_search.specs.Keys.{IsSeparatorOf, Separator, is_without}
use Rattle.page_layout.specs.Page.{item_of}
use Rattle.key_orders.specs.declared.columns.ColType.{ColType}
use Rattle.key_orders.specs.declared.columns.Value.{Value}
use Rattle.key_orders.specs.declared.Tid.{Tid}
use Rattle.key_attrs.specs.Columns.{TreeColumns}
use Rattle.key_attrs.specs.declared.keyed.KeyFault.TheVariants as fault
use Rattle.varlena_attrs.specs.Attributes.{presence_of}
use Rattle.varlena_attrs.specs.Forms.{Attribute}
use Rattle.key_attrs.specs.Keyed.{InlineStep, Inlines, KeyValues, attribute_values, first_packed, inline_step, key_types, key_values, put_before, read_inline, then_inline, unless_packed, values_by}
use Rattle.varlena_attrs.specs.Reading.{attribute_at}
use Rattle.key_attrs.proofs.Keying.{count_of_first}
use Rattle.bt_meta.specs.declared.records.HeadKind.{HeadKind}
use Rattle.bt_meta.specs.declared.records.HeadKind.TheVariants as head
use Rattle.bt_meta.specs.declared.records.TreeHead.{TreeHead}
use Rattle.bt_meta.specs.Heads.{tree_head_of}
use Rattle.bt_tuples.specs.declared.items.Spot3.{Spot3}
use Rattle.bt_tuples.specs.declared.items.Spot3.TheVariants.{HighKey, FirstInner, Inner, LeafItem}
use Rattle.bt_tuples.specs.Items.{is_dead, meaning_by, meaning_of, values_or_none}
use Rattle.bt_tuples.specs.Keys.{first_key, last_key}
use Rattle.bt_tuples.specs.Rules.{breaks_form, includes_some, is_packed, is_pivot, is_unread, keeps_wrong, tuple_of}
use Rattle.bt_tuples.specs.Tuples.{body_in, columns_by, keeps_tid, kept_tid, null_bits_in, number_of, tid_at, values_in}
use Rattle.bt_image.specs.Image.{downlink_in, item_at, separator_in, spot_of}
use Rattle.bt_image.specs.Pages.{IsPlainItem}

-- How many values there are

pub attributes-count : (types : List ColType) (list : List Attribute) → length list ≡ length types → length (attribute_values types list) ≡ length types
attributes-count [] list e = refl
attributes-count (c ∷ cs) [] e = absurd (omega (arith, e))
attributes-count (c ∷ cs) (a ∷ list) e = let rest = attributes-count cs list (omega (arith, e)) in omega (arith, rest)

pub put-parts : (a : Attribute) (o : Inlines) (list : List Attribute) → put_before a o ≡ Ok list → (tail : List Attribute) × (o ≡ Ok tail) × (list ≡ a ∷ tail)
put-parts a (Ok tail) list e = (tail, refl, inner e)
  where
    inner : ◌≡◌ {A = Inlines} (Ok (a ∷ tail)) (Ok list) → list ≡ a ∷ tail
    inner h = cc
put-parts a (Err f) list e = absurd cc

then-parts : (step : InlineStep) (rest : ℕ → Inlines) (list : List Attribute) → then_inline step rest ≡ Ok list → (a : Attribute) × (next : ℕ) × (tail : List Attribute) × (rest next ≡ Ok tail) × (list ≡ a ∷ tail)
then-parts (Ok step) rest list e = let p = put-parts step.0 (rest step.1) list e in (step.0, step.1, p.0, p.1, p.2)
then-parts (Err f) rest list e = absurd cc

inlines-count : (cs : List ColType) (nulls : Option (List ℕ)) (natts : ℕ) (body : List ℕ) (k place : ℕ) (list : List Attribute) → read_inline cs nulls natts body k place ≡ Ok list → length list ≡ length cs
unfolding read_inline
inlines-count [] nulls natts body k place list e = ap length (inner e)
  where
    inner : ◌≡◌ {A = Inlines} (Ok []) (Ok list) → list ≡ []
    inner h = cc
inlines-count (c ∷ cs) nulls natts body k place list e =
    let p = then-parts (inline_step (suc k) (attribute_at (presence_of nulls natts k) c body place)) (λ next. read_inline cs nulls natts body (suc k) next) list e in
    let rest = inlines-count cs nulls natts body (suc k) p.1 p.2 p.3 in
    ap length p.4 ∙ ap suc rest

pub unpacked : (packed : Option ℕ) (values told : List Value) → unless_packed packed values ≡ Ok told → told ≡ values
unpacked (Some column) values told e = absurd cc
unpacked None values told e = inner e
  where
    inner : ◌≡◌ {A = KeyValues} (Ok values) (Ok told) → told ≡ values
    inner h = cc

values-parts : (types : List ColType) (o : Inlines) (values : List Value) → values_by types o ≡ Ok values → (list : List Attribute) × (o ≡ Ok list) × (values ≡ attribute_values types list)
values-parts types (Ok list) values e = (list, refl, unpacked (first_packed 0 list) (attribute_values types list) values e)
values-parts types (Err f) values e = absurd cc

pub values-count : (types : List ColType) (body : List ℕ) (nulls : Option (List ℕ)) (values : List Value) → key_values types body nulls ≡ Ok values → length values ≡ length types
unfolding key_values
values-count types body nulls values e =
    let p = values-parts types (read_inline types nulls (length types) body 0 0) values e in
    ap length p.2 ∙ attributes-count types p.0 (inlines-count types nulls (length types) body 0 0 p.0 p.1)

pub told-values : (v : KeyValues) → is_unread v ≡ false → is_packed v ≡ false → (values : List Value) × (v ≡ Ok values)
told-values (Ok values) e f = (values, refl)
told-values (Err (fault.PastEnd column)) e f = absurd cc
told-values (Err (fault.BadHeader column)) e f = absurd cc
told-values (Err (fault.External column)) e f = absurd cc
told-values (Err (fault.Packed column)) e f = absurd cc

-- The form of an item

pivot-is : (kind : HeadKind) → is_pivot kind ≡ true → kind ≡ head.Pivot
pivot-is head.Pivot e = refl
pivot-is head.Plain e = absurd cc
pivot-is head.Posting e = absurd cc

form-pivot : (spot : Spot3) (n : ℕ) (includes : Bool) (h : TreeHead) → spot ≢ LeafItem → breaks_form spot n includes h ≡ false → is_pivot h.kind ≡ true
form-pivot HighKey n includes h other e = not-false _ (or_parts (not (is_pivot h.kind)) (keeps_wrong n h) e).0
form-pivot FirstInner n includes h other e = not-false _ (or_parts (not (is_pivot h.kind)) _ (or_parts (not (is_pivot h.kind) || not (number_of h == 0)) (keeps_tid h) e).0).0
form-pivot Inner n includes h other e = not-false _ (or_parts (not (is_pivot h.kind)) (keeps_wrong n h) e).0
form-pivot LeafItem n includes h other e = absurd (other refl)

without-tid : (b : Bool) (t : Tid) → is_without (cond b (Some t) None) ≡ false → b ≡ true
without-tid true t e = refl
without-tid false t e = absurd cc

-- where a second condition is false beside a true one
second : (a b : Bool) → (a && b) ≡ false → a ≡ true → b ≡ false
second true b e t = e
second false b e t = absurd cc

module _ (columns : TreeColumns) (page : List ℕ) (i : ℕ) (plain : IsPlainItem columns.specs columns.more page i) where
  abbrev tuple : List ℕ
  tuple = tuple_of page i

  abbrev killed : Bool
  killed = is_dead (item_of page i).flag

  pub kind-is : spot_of page i ≢ LeafItem → (tree_head_of tuple).kind ≡ head.Pivot
  kind-is other = pivot-is _ (form-pivot (spot_of page i) (length columns.specs) (includes_some columns.more) (tree_head_of tuple) other plain.rules.form)

  pub separator-is : spot_of page i ≢ LeafItem → separator_in (item_at columns.specs columns.more page i) ≡ record { kept = values_or_none (values_in columns.specs columns.more tuple); tid = kept_tid tuple }
  unfolding item_at meaning_of
  separator-is other =
      ap (λ (k : HeadKind). separator_in (meaning_by k (length columns.specs) tuple killed (values_or_none (values_in columns.specs columns.more tuple)))) (kind-is other)

  pub first-is : spot_of page i ≢ LeafItem → first_key (item_at columns.specs columns.more page i) ≡ separator_in (item_at columns.specs columns.more page i)
  unfolding item_at meaning_of
  first-is other =
      let values = values_or_none (values_in columns.specs columns.more tuple) in
      ap (λ (k : HeadKind). first_key (meaning_by k (length columns.specs) tuple killed values)) (kind-is other)
      ∙ sym (ap (λ (k : HeadKind). separator_in (meaning_by k (length columns.specs) tuple killed values)) (kind-is other))

  pub last-is : spot_of page i ≢ LeafItem → last_key (item_at columns.specs columns.more page i) ≡ separator_in (item_at columns.specs columns.more page i)
  unfolding item_at meaning_of
  last-is other =
      let values = values_or_none (values_in columns.specs columns.more tuple) in
      ap (λ (k : HeadKind). last_key (meaning_by k (length columns.specs) tuple killed values)) (kind-is other)
      ∙ sym (ap (λ (k : HeadKind). separator_in (meaning_by k (length columns.specs) tuple killed values)) (kind-is other))

  pub downlink-is : spot_of page i ≢ LeafItem → (tree_head_of tuple).block ≡ downlink_in (item_at columns.specs columns.more page i)
  unfolding item_at meaning_of
  downlink-is other =
      sym (ap (λ (k : HeadKind). downlink_in (meaning_by k (length columns.specs) tuple killed (values_or_none (values_in columns.specs columns.more tuple)))) (kind-is other))

  -- its values
  told : (values : List Value) × (values_in columns.specs columns.more tuple ≡ Ok values)
  told = told-values (values_in columns.specs columns.more tuple) (or_parts _ _ plain.rules.values).1 plain.read

  form-inner : spot_of page i ≡ Inner → keeps_wrong (length columns.specs) (tree_head_of tuple) ≡ false
  form-inner inner =
      (or_parts (not (is_pivot (tree_head_of tuple).kind)) _ (ap (λ (s : Spot3). breaks_form s (length columns.specs) (includes_some columns.more) (tree_head_of tuple)) (sym inner) ∙ plain.rules.form)).1

  few : spot_of page i ≡ Inner → number_of (tree_head_of tuple) ≤ length columns.specs
  few inner = ltb-false _ _ (or_parts _ _ (or_parts _ _ (form-inner inner)).0).1

  count : spot_of page i ≡ Inner → (tree_head_of tuple).kind ≡ head.Pivot → length (values_or_none (values_in columns.specs columns.more tuple)) ≡ number_of (tree_head_of tuple)
  unfolding values_in
  count inner kind =
      let h = tree_head_of tuple in
      let read : key_values (key_types (take (number_of h) columns.specs)) (body_in tuple) (null_bits_in tuple) ≡ Ok told.0 =
      ap (λ (k : HeadKind). key_values (columns_by k h columns.specs columns.more) (body_in tuple) (null_bits_in tuple)) (sym kind) ∙ told.1 in
      ap (λ (v : KeyValues). length (values_or_none v)) told.1
      ∙ values-count (key_types (take (number_of h) columns.specs)) (body_in tuple) (null_bits_in tuple) told.0 read ∙ count_of_first (number_of h) columns.specs (few inner)

  all-kept : spot_of page i ≡ Inner → keeps_tid (tree_head_of tuple) ≡ true → number_of (tree_head_of tuple) ≡ length columns.specs
  all-kept inner keeps =
      let not_fewer : nat_lt (number_of (tree_head_of tuple)) (length columns.specs) ≡ false = second (keeps_tid (tree_head_of tuple)) (nat_lt (number_of (tree_head_of tuple)) (length columns.specs)) (or_parts (number_of (tree_head_of tuple) == 0 || nat_lt (length columns.specs) (number_of (tree_head_of tuple))) _ (form-inner inner)).1 keeps in
      let most = few inner in
      let least : length columns.specs ≤ number_of (tree_head_of tuple) = ltb-false (number_of (tree_head_of tuple)) (length columns.specs) not_fewer in
      omega (arith, most, least)

  pub is-separator : spot_of page i ≡ Inner → IsSeparatorOf (length columns.specs) (separator_in (item_at columns.specs columns.more page i))
  is-separator inner =
      let other : spot_of page i ≢ LeafItem = λ leaf. clash (sym inner ∙ leaf) in
      let kind = kind-is other in
      let kept : length (separator_in (item_at columns.specs columns.more page i)).kept ≡ number_of (tree_head_of tuple) = ap (λ (s : Separator Value Tid). length s.kept) (separator-is other) ∙ count inner kind in
      let most = few inner in
      record {
        few = omega (arith, kept, most);
        whole = λ with.
            kept
            ∙ all-kept inner (without-tid (keeps_tid (tree_head_of tuple)) (tid_at tuple (length tuple - 6)) (sym (ap (λ (s : Separator Value Tid). is_without s.tid) (separator-is other)) ∙ with));
      }
    where
      clash : Inner ≡ LeafItem → ⊥
      clash h = cc

-- What is read of an item that was laid.
use Rattle.std.proofs.Common.{◌≡◌, ◌≤◌, ◌+◌, ℕ, Bool, true, false, cond, List, [], ◌∷◌, ◌++◌, length, take, drop, map, None, Ok, Err, refl, sym, ap, ◌∙◌, arith}
use Rattle.std.specs.List.{AllByRecursion}
use Rattle.std.proofs.Math.Seq.{drop-append_seam, take-append_seam}
use Rattle.key_orders.specs.declared.columns.ColType.{ColType}
use Rattle.key_orders.specs.declared.columns.KeySpec.{KeySpec}
use Rattle.key_orders.specs.declared.columns.Value.{Value}
use Rattle.key_orders.specs.declared.more.MoreSpec.{MoreSpec}
use Rattle.bt_tuples.specs.declared.items.ItemFault.{ItemFault}
use Rattle.page_layout.specs.declared.rules.Rule.TheVariants.{B6, B7, B8, B9}
use Rattle.bt_meta.specs.Heads.{tree_head_of}
use Rattle.bt_tuples.specs.declared.items.ItemFault.TheVariants.{Broken, Packed}
use Rattle.bt_tuples.specs.Rules.{begins_past_end, breaks_form, breaks_size, breaks_tids, includes_some, is_packed, is_unread}
use Rattle.bt_tuples.specs.Tuples.{values_in}
use Rattle.bt_tuples.specs.declared.items.Spot3.{Spot3}
use Rattle.bt_tuples.specs.Items.{Item, ItemOutcome, meaning_of, tuple_outcome}
use Rattle.bt_image.specs.Image.{LeafEntry, leaf_entry}
use Rattle.page_write.specs.Bodies.{body_flags, has_null, index_body, null_part, with_value, with_values}
use Rattle.page_write.specs.Fields.{IsBody}
use Rattle.page_write.specs.Tuples.{fixed_width, pivot_tuple}
use Rattle.bt_image.specs.Image.{minus_infinity}
use Rattle.laws_built_index.specs.Items.{IsLike, pivot_item, tids_of}
use Rattle.laws_built_index.proofs.Bodies.{length_nulls, length_value}

-- An answer is what the tuple means

answered : (a b c u t p : Bool) (x1 x2 x3 x4 x5 x6 : ItemFault) (m item : Item)
    → ◌≡◌ {A = ItemOutcome} (cond a (Err x1) (cond b (Err x2) (cond c (Err x3) (cond u (Err x4) (cond t (Err x5) (cond p (Err x6) (Ok m))))))) (Ok item) → m ≡ item
answered true b c u t p x1 x2 x3 x4 x5 x6 m item h = absurd cc
answered false true c u t p x1 x2 x3 x4 x5 x6 m item h = absurd cc
answered false false true u t p x1 x2 x3 x4 x5 x6 m item h = absurd cc
answered false false false true t p x1 x2 x3 x4 x5 x6 m item h = absurd cc
answered false false false false true p x1 x2 x3 x4 x5 x6 m item h = absurd cc
answered false false false false false true x1 x2 x3 x4 x5 x6 m item h = absurd cc
answered false false false false false false x1 x2 x3 x4 x5 x6 m item h = cc

pub ok_means : (specs : List KeySpec) (more : List MoreSpec) (spot : Spot3) (tuple : List ℕ) (killed : Bool) (item : Item) → tuple_outcome specs more spot tuple killed ≡ Ok item → meaning_of specs more tuple killed ≡ item
unfolding tuple_outcome
ok_means specs more spot tuple killed item h =
    answered (breaks_size tuple) (breaks_form spot (length specs) (includes_some more) (tree_head_of tuple)) (begins_past_end tuple)
    (is_unread (values_in specs more tuple)) (breaks_tids tuple) (is_packed (values_in specs more tuple))
    (Broken B6) (Broken B7) (Broken B8) (Broken B8) (Broken B9) Packed (meaning_of specs more tuple killed) item h

-- A body has its null bits

longer : (cs : List ColType) (vs : List Value) (body : List ℕ) → length body ≤ length (with_values cs vs body)
unfolding with_values
longer [] vs body = omega arith
longer (c ∷ cs) [] body = omega arith
longer (c ∷ cs) (v ∷ vs) body =
    let a = length_value c v body in
    let b = longer cs vs (with_value c v body) in
    omega (arith, a, b)

bits_by : (b : Bool) (nulls len : ℕ) → nulls ≡ cond b 8 0 → nulls ≤ len → cond b 16 8 ≤ 8 + len
bits_by true nulls len e le = omega (arith, e, le)
bits_by false nulls len e le = omega (arith, e, le)

pub is_body : (cs : List ColType) (vs : List Value) → length (index_body cs vs) ≤ 8160 → IsBody (body_flags cs vs) (index_body cs vs)
unfolding index_body body_flags
is_body cs vs short = record {
  short = short;
  bits = bits_by (has_null vs) (length (null_part vs)) (length (with_values cs vs (null_part vs))) (length_nulls vs) (longer cs vs (null_part vs));
}

-- The values of the key come first

pub first_values : (n : ℕ) (vs ws : List Value) → length vs ≡ n → take n (vs ++ ws) ≡ vs
first_values n vs ws e = ap (λ (k : ℕ). take k (vs ++ ws)) (sym e) ∙ take-append_seam vs ws

pub last_values : (n : ℕ) (vs ws : List Value) → length vs ≡ n → drop n (vs ++ ws) ≡ ws
last_values n vs ws e = ap (λ (k : ℕ). drop k (vs ++ ws)) (sym e) ∙ drop-append_seam vs ws

-- The entries of a run

pub run_entries : (e : LeafEntry) (es : List LeafEntry) → AllByRecursion (IsLike e) es → map (λ t. leaf_entry e.entry.values [] t false) (tids_of es) ≡ es
run_entries e [] like = refl
run_entries e (d ∷ es) like =
    let here : leaf_entry e.entry.values [] d.entry.tid false ≡ d =
    λ i. record { entry = record { values = like.0.values i; tid = d.entry.tid; killed = sym like.0.alive i }; more = sym like.0.alone i } in
    λ i. here i ∷ run_entries e es like.1 i

pub plain_entry : (e : LeafEntry) → e.entry.killed ≡ false → leaf_entry e.entry.values e.more e.entry.tid false ≡ e
plain_entry e alive = λ i. record { entry = record { values = e.entry.values; tid = e.entry.tid; killed = sym alive i }; more = e.more }

-- The first item of an internal page

pub first_is : (specs : List KeySpec) (down : ℕ) → pivot_item specs down minus_infinity ≡ pivot_tuple down 0 None fixed_width []
unfolding body_flags index_body null_part with_values
first_is specs down = refl

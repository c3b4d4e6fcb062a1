-- Where the values of a body end.
use Rattle.std.proofs.Common.{◌≡◌, ◌≤◌, ◌+◌, ◌-◌, ◌⊎◌, inl, inr, ℕ, zero, suc, Bool, true, false, ◌||◌, cond, List, [], ◌∷◌, ◌++◌, length, take, refl, sym, ap, ◌∙◌, subst, arith}
use Rattle.std.specs.List.{All, AllByRecursion}
use Rattle.std.proofs.lemmas.List.{length-append}
use Rattle.std.proofs.lemmas.List.Folds.{list_any-append}
use Rattle.std.proofs.lemmas.List.Elements.{recursion_from_All}
use Rattle.page_layout.specs.Writes.{u32_bytes}
use Rattle.key_orders.specs.declared.columns.ColType.{ColType}
use Rattle.key_orders.specs.declared.columns.Value.{Value}
use Rattle.key_orders.specs.Types.{HasAlignment, alignment_of}
use Rattle.varlena_attrs.specs.Reading.{aligned}
use Rattle.varlena_attrs.proofs.Stored.{alignments}
use Rattle.page_write.specs.Bodies.{has_null, index_body, is_aligned_value, is_null, null_part, padding_before, presence_bits, stored_value, with_value, with_values}
use Rattle.page_write.specs.Pages.{zeros}
use Rattle.page_write.proofs.Zeros.{length_zeros}
use Rattle.laws_building.specs.Layout.{end_from, end_of, IsLayout}
use Rattle.laws_built_index.specs.Layouts.{body_layout, type_at}

pub length_value : (c : ColType) (v : Value) (body : List ℕ) → length (with_value c v body) ≡ length body + padding_before c v (length body) + length (stored_value c v)
unfolding with_value
length_value c v body =
    let gap : List ℕ = zeros (padding_before c v (length body)) in
    let a = length-append (body ++ gap) (stored_value c v) in
    let b = length-append body gap in
    let d = length_zeros (padding_before c v (length body)) in
    omega (arith, a, b, d)

-- the columns after the first
shifted : (c : ColType) (cs : List ColType) (vs : List Value) (i place : ℕ) → end_from (body_layout (c ∷ cs)) vs (suc i) place ≡ end_from (body_layout cs) vs i place
shifted c cs [] i place = refl
shifted c cs (v ∷ vs) i place = shifted c cs vs (suc i) (place + padding_before (type_at cs i) v place + length (stored_value (type_at cs i) v))

ends_after : (cs : List ColType) (vs : List Value) (body : List ℕ) → length vs ≤ length cs → end_from (body_layout cs) vs 0 (length body) ≡ length (with_values cs vs body)
unfolding with_values
ends_after [] [] body le = refl
ends_after [] (v ∷ vs) body le = absurd (omega (arith, le))
ends_after (c ∷ cs) [] body le = refl
ends_after (c ∷ cs) (v ∷ vs) body le =
    let place : ℕ = length body + padding_before c v (length body) + length (stored_value c v) in
    shifted c cs vs 0 place
    ∙ ap (end_from (body_layout cs) vs 0) (sym (length_value c v body))
    ∙ ends_after cs vs (with_value c v body) (omega (arith, le))

pub body_ends : (cs : List ColType) (vs : List Value) → length vs ≤ length cs → end_of (body_layout cs) vs ≡ length (index_body cs vs)
unfolding index_body
body_ends cs vs le = ends_after cs vs (null_part vs) le

-- The laws of a layout

pad_by : (b : Bool) (n p q : ℕ) → (n ≡ 1) ⊎ ((n ≡ 2) ⊎ ((n ≡ 4) ⊎ (n ≡ 8))) → p ≤ q → p + cond b (aligned n p - p) 0 ≤ q + cond b (aligned n q - q) 0
pad_by false n p q known le = omega (arith, le)
pad_by true n p q (inl e) le = subst (λ (m : ℕ). p + (aligned m p - p) ≤ q + (aligned m q - q)) (sym e) (omega (arith, le))
pad_by true n p q (inr (inl e)) le = subst (λ (m : ℕ). p + (aligned m p - p) ≤ q + (aligned m q - q)) (sym e) (omega (arith, le))
pad_by true n p q (inr (inr (inl e))) le = subst (λ (m : ℕ). p + (aligned m p - p) ≤ q + (aligned m q - q)) (sym e) (omega (arith, le))
pad_by true n p q (inr (inr (inr e))) le = subst (λ (m : ℕ). p + (aligned m p - p) ≤ q + (aligned m q - q)) (sym e) (omega (arith, le))

pad_ordered : (c : ColType) (v : Value) (p q : ℕ) → HasAlignment c → p ≤ q → p + padding_before c v p ≤ q + padding_before c v q
unfolding padding_before
pad_ordered c v p q known le = pad_by (is_aligned_value c v) (alignment_of c) p q (alignments (alignment_of c) known) le

aligned_at : (cs : List ColType) (i : ℕ) → AllByRecursion HasAlignment cs → HasAlignment (type_at cs i)
aligned_at [] i known = refl
aligned_at (c ∷ cs) zero known = known.0
aligned_at (c ∷ cs) (suc i) known = aligned_at cs i known.1

length_u32 : (n : ℕ) → length (u32_bytes n) ≡ 4
unfolding u32_bytes
length_u32 n = refl

nulls_by : (b : Bool) (n : ℕ) → length (cond b (u32_bytes n ++ zeros 4) []) ≡ cond b 8 0
nulls_by false n = refl
nulls_by true n =
    let a = length-append (u32_bytes n) (zeros 4) in
    let b = length_u32 n in
    let d = length_zeros 4 in
    omega (arith, a, b, d)

pub length_nulls : (vs : List Value) → length (null_part vs) ≡ cond (has_null vs) 8 0
unfolding null_part
length_nulls vs = nulls_by (has_null vs) (presence_bits vs)

no_fewer : (a b : Bool) → cond a 8 0 ≤ cond (a || b) 8 0
no_fewer true b = omega arith
no_fewer false b = omega arith

nulls_in_front : (vs ws : List Value) → length (null_part vs) ≤ length (null_part (vs ++ ws))
nulls_in_front vs ws =
    let a = length_nulls vs in
    let b = length_nulls (vs ++ ws) ∙ ap (λ (t : Bool). cond t 8 0) (list_any-append is_null vs ws) in
    let c = no_fewer (has_null vs) (has_null ws) in
    omega (arith, a, b, c)

pub laid_out : (cs : List ColType) → All HasAlignment cs → IsLayout (body_layout cs)
laid_out cs known =
    let each = recursion_from_All HasAlignment cs known in
    record {
      grows = λ i p v. omega arith;
      ordered = λ i p q v le. let h = pad_ordered (type_at cs i) v p q (aligned_at cs i each) le in omega (arith, h);
      front_begins = nulls_in_front;
    }

-- A body of first values needs the first types alone

no_values : (ds : List ColType) (body : List ℕ) → with_values ds [] body ≡ body
unfolding with_values
no_values [] body = refl
no_values (d ∷ ds) body = refl

with_front : (cs ds : List ColType) (vs : List Value) (body : List ℕ) → length vs ≤ length cs → with_values (take (length vs) cs) vs body ≡ with_values (cs ++ ds) vs body
unfolding with_values
with_front [] ds [] body le = sym (no_values ds body)
with_front [] ds (v ∷ vs) body le = absurd (omega (arith, le))
with_front (c ∷ cs) ds [] body le = refl
with_front (c ∷ cs) ds (v ∷ vs) body le = with_front cs ds vs (with_value c v body) (omega (arith, le))

pub front_body : (cs ds : List ColType) (vs : List Value) → length vs ≤ length cs → index_body (take (length vs) cs) vs ≡ index_body (cs ++ ds) vs
unfolding index_body
front_body cs ds vs le = with_front cs ds vs (null_part vs) le

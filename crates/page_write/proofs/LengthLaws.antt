-- How long bodies are.
use Rattle.std.proofs.Common.{◌≡◌, ◌≤◌, ◌+◌, ◌*◌, ◌∙◌, ℕ, ℤ, min, List, [], ◌∷◌, ◌++◌, length, take, drop, Bool, true, false, ◌||◌, cond, Some, refl, ap, arith}
use Rattle.std.specs.Int.{cast_unsigned, to_le_bytes, w64}
use Rattle.std.proofs.lemmas.List.{length-append, length-take}
use Rattle.page_layout.specs.Writes.{u32_bytes}
use Rattle.page_layout.proofs.Writing.{length_u32}
use Rattle.key_orders.specs.declared.columns.ColType.{ColType}
use Rattle.key_orders.specs.declared.columns.Value.{Value}
use Rattle.page_write.specs.Bodies.{has_null, has_short_header, index_body, is_null, null_part, number_bytes, padding_before, presence_bits, stored_value, varlena_bytes, with_value, with_values}
use Rattle.page_write.specs.Pages.{zeros}
use Rattle.page_write.proofs.Zeros.{length_zeros}

pub number_long : (len : ℕ) (z : ℤ) → length (number_bytes (Some len) z) ≡ min len 8
number_long len z = length-take len (to_le_bytes w64 (cast_unsigned w64 z))

varlena_by : (b : Bool) (bytes : List ℕ)
    → length (cond b ((2 * length bytes + 3) ∷ bytes) (u32_bytes (4 * length bytes + 16) ++ bytes)) ≡ length bytes + cond b 1 4
varlena_by true bytes = omega arith
varlena_by false bytes =
    let a = length-append (u32_bytes (4 * length bytes + 16)) bytes in
    let n = length_u32 (4 * length bytes + 16) in
    omega (arith, a, n)

pub varlena_long : (bytes : List ℕ) (b : Bool) → has_short_header bytes ≡ b → length (varlena_bytes bytes) ≡ length bytes + cond b 1 4
unfolding varlena_bytes
varlena_long bytes b is = varlena_by (has_short_header bytes) bytes ∙ ap (λ (t : Bool). length bytes + cond t 1 4) is

one_more : (c : ColType) (v : Value) (body : List ℕ) → with_value c v body ≡ body ++ zeros (padding_before c v (length body)) ++ stored_value c v
unfolding with_value
one_more c v body = refl

pub value_long : (c : ColType) (v : Value) (body : List ℕ) (place : ℕ) → length body ≡ place
    → length (with_value c v body) ≡ place + padding_before c v place + length (stored_value c v)
value_long c v body place is =
    let a = length-append (body ++ zeros (padding_before c v (length body))) (stored_value c v) in
    let b = length-append body (zeros (padding_before c v (length body))) in
    let z = length_zeros (padding_before c v (length body)) in
    let p : padding_before c v (length body) ≡ padding_before c v place = ap (padding_before c v) is in
    ap length (one_more c v body) ∙ a ∙ omega (arith, b, z, p, is)

-- values in two parts
pub values_after : (cs : List ColType) (vs ws : List Value) (body : List ℕ) → length vs ≤ length cs
    → with_values cs (vs ++ ws) body ≡ with_values (drop (length vs) cs) ws (with_values (take (length vs) cs) vs body)
unfolding with_values
values_after cs [] ws body le = refl
values_after [] (v ∷ vs) ws body le = absurd (omega (arith, le))
values_after (c ∷ cs) (v ∷ vs) ws body le = values_after cs vs ws (with_value c v body) (omega (arith, le))

null_either : (vs ws : List Value) → has_null (vs ++ ws) ≡ (has_null vs || has_null ws)
null_either [] ws = refl
null_either (v ∷ vs) ws = either (is_null v) (has_null vs) (has_null ws) (has_null (vs ++ ws)) (null_either vs ws)
  where
    either : (a b d e : Bool) → e ≡ (b || d) → (a || e) ≡ ((a || b) || d)
    either true b d e is = refl
    either false b d e is = is

part_by : (b : Bool) (bits : ℕ) → length (cond b (u32_bytes bits ++ zeros 4) []) ≡ cond b 8 0
part_by true bits =
    let a = length-append (u32_bytes bits) (zeros 4) in
    let n = length_u32 bits in
    let z = length_zeros 4 in
    omega (arith, a, n, z)
part_by false bits = refl

-- a null in the first list, in the second, or in none
pub null_either_is : (vs ws : List Value) (a b : Bool) → has_null vs ≡ a → has_null ws ≡ b → has_null (vs ++ ws) ≡ (a || b)
null_either_is vs ws a b p q = null_either vs ws ∙ (λ i. p i || q i)

pub null_long : (vs : List Value) (b : Bool) → has_null vs ≡ b → length (null_part vs) ≡ cond b 8 0
unfolding null_part
null_long vs b is = part_by (has_null vs) (presence_bits vs) ∙ ap (λ (t : Bool). cond t 8 0) is

pub body_is : (cs : List ColType) (vs : List Value) → index_body cs vs ≡ with_values cs vs (null_part vs)
unfolding index_body
body_is cs vs = refl

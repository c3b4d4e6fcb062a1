-- What is stored is read back, whatever stands behind it.
use Rattle.std.proofs.Common.{◌≡◌, ℕ, zero, suc, ◌+◌, ◌-◌, ◌<◌, ◌^◌, true, false, List, [], ◌∷◌, ◌++◌, length, map, take, drop, refl, sym, ap, ◌∙◌, subst, arith, append_assoc, length-append}
use Rattle.std.specs.Prelude.{All, Bool as BoolType, cond, nat_lt, ℤ}
use Rattle.std.specs.List.{flat_map}
use Rattle.std.specs.Int.{cast_signed, cast_unsigned, from_le_bytes, to_le_bytes}
use Rattle.std.proofs.lemmas.Bool.{cond-false, le-ltb, ltb-true}
use Rattle.std.proofs.lemmas.List.Elements.{All-head, All-map, All-tail}
use Rattle.std.proofs.lemmas.Int.{to_z-of_z}
use Rattle.std.proofs.lemmas.Nat.{from_le_bytes-to_le_bytes_4, from_le_bytes-to_le_bytes_8}
use Rattle.std.proofs.Math.Seq.{take-append_seam, drop-append_seam}
use mir.Syntax.{w32, w64}
use mir.Facts.{Fits-of_z}
use Rattle.key_orders.specs.declared.columns.Value.{Value}
use Rattle.key_orders.specs.declared.columns.ValueRef.{ValueRef}
use Rattle.key_orders.specs.Values.{value_shown}
use Rattle.key_orders.specs.declared.columns.Value.TheVariants.{Null, Bool as BoolValue, Int, Bytes}
use Rattle.key_storage.specs.Stored.{stored_int, stored_value, IsStorable, int_read, sized_read, small_read, bytes_read, value_read, values_left, values_read, key_read}

front_back : (n : ℕ) (xs rest : List ℕ) → length xs ≡ n → take n (xs ++ rest) ≡ xs
front_back n xs rest e = subst (λ (m : ℕ). take m (xs ++ rest) ≡ xs) e (take-append_seam xs rest)

rest_back : (n : ℕ) (xs rest : List ℕ) → length xs ≡ n → drop n (xs ++ rest) ≡ rest
rest_back n xs rest e = subst (λ (m : ℕ). drop m (xs ++ rest) ≡ rest) e (drop-append_seam xs rest)

is_enough : (n : ℕ) (xs rest : List ℕ) → length xs ≡ n → nat_lt (length (xs ++ rest)) n ≡ false
is_enough n xs rest e = le-ltb (length (xs ++ rest)) n (omega (arith, length-append xs rest))

int_back : (xs rest : List ℕ) → length xs ≡ 8 → int_read (xs ++ rest) ≡ (Int (cast_signed w64 (from_le_bytes w64 xs)), rest)
int_back xs rest e =
    cond-false _ _ _ (is_enough 8 xs rest e)
    ∙ (λ i. (Int (cast_signed w64 (from_le_bytes w64 (front_back 8 xs rest e i))), rest_back 8 xs rest e i))

small_back : (xs rest : List ℕ) → length xs ≡ 4 → small_read (xs ++ rest) ≡ (Int (cast_signed w64 (from_le_bytes w32 xs)), rest)
small_back xs rest e =
    cond-false _ _ _ (is_enough 4 xs rest e)
    ∙ (λ i. (Int (cast_signed w64 (from_le_bytes w32 (front_back 4 xs rest e i))), rest_back 4 xs rest e i))

-- the 64 bits of a number
bits_back : (n : ℕ) (rest : List ℕ) → n < 2 ^ 64 → value_read (stored_int n ++ rest) ≡ (Int (cast_signed w64 n), rest)
unfolding value_read
bits_back n rest h = by (nat_lt n (2 ^ 32)) refl
  where
    by : (is_small : BoolType) → nat_lt n (2 ^ 32) ≡ is_small → value_read (cond is_small (6 ∷ to_le_bytes w32 n) (3 ∷ to_le_bytes w64 n) ++ rest) ≡ (Int (cast_signed w64 n), rest)
    by true is =
        small_back (to_le_bytes w32 n) rest refl
        ∙ ap (λ (m : ℕ). (Int (cast_signed w64 m), rest)) (from_le_bytes-to_le_bytes_4 n (ltb-true n (2 ^ 32) is))
    by false is =
        int_back (to_le_bytes w64 n) rest refl
        ∙ ap (λ (m : ℕ). (Int (cast_signed w64 m), rest)) (from_le_bytes-to_le_bytes_8 n h)

sized_back : (n : ℕ) (xs rest : List ℕ) → length xs ≡ n → sized_read n (xs ++ rest) ≡ (Bytes xs, rest)
sized_back n xs rest e = cond-false _ _ _ (is_enough n xs rest e) ∙ (λ i. (Bytes (front_back n xs rest e i), rest_back n xs rest e i))

bytes_back : (xs bytes rest : List ℕ) → length xs ≡ 4 → from_le_bytes w32 xs ≡ length bytes → bytes_read (xs ++ (bytes ++ rest)) ≡ (Bytes bytes, rest)
bytes_back xs bytes rest e len =
    cond-false _ _ _ (is_enough 4 xs (bytes ++ rest) e)
    ∙ ((λ i. sized_read (from_le_bytes w32 (front_back 4 xs (bytes ++ rest) e i)) (rest_back 4 xs (bytes ++ rest) e i))
    ∙ sized_back (from_le_bytes w32 xs) bytes rest (sym len))

pub value_back : (v : Value) (rest : List ℕ) → IsStorable v → value_read (stored_value v ++ rest) ≡ (v, rest)
unfolding value_read
value_back Null rest h = refl
value_back (BoolValue true) rest h = refl
value_back (BoolValue false) rest h = refl
value_back (Int z) rest h =
    bits_back (cast_unsigned w64 z) rest (Fits-of_z h).fits
    ∙ ap (λ (x : ℤ). (Int x, rest)) (to_z-of_z w64 z h)
value_back (Bytes bytes) rest h = by (nat_lt (length bytes) 256)
  where
    by : (is_short : BoolType) → value_read (cond is_short (5 ∷ length bytes ∷ bytes) (4 ∷ (to_le_bytes w32 (length bytes) ++ bytes)) ++ rest) ≡ (Bytes bytes, rest)
    by true = sized_back (length bytes) bytes rest refl
    by false = bytes_back (to_le_bytes w32 (length bytes)) bytes rest refl (from_le_bytes-to_le_bytes_4 (length bytes) h)

pub values_back : (vs : List Value) (rest : List ℕ) → All IsStorable vs → values_read (length vs) (flat_map stored_value vs ++ rest) ≡ vs
values_back [] rest h = refl
values_back (v ∷ vs) rest h =
    let behind : List ℕ = flat_map stored_value vs ++ rest in
    let here : value_read ((stored_value v ++ flat_map stored_value vs) ++ rest) ≡ (v, behind) = rw append_assoc (value_back v behind (All-head IsStorable v vs h)) in
    (λ i. (here i).0 ∷ values_read (length vs) (here i).1) ∙ ap (λ w. v ∷ w) (values_back vs rest (All-tail IsStorable v vs h))

pub next_read : (n i : ℕ) (bytes : List ℕ) → i < n → values_read (n - i) bytes ≡ (value_read bytes).0 ∷ values_read (n - (i + 1)) (value_read bytes).1
next_read n i bytes lt =
    let is : n - i ≡ suc (n - (i + 1)) = omega arith in ap (λ k. values_read k bytes) is

pub read_count : (n : ℕ) (bytes : List ℕ) → length (values_read n bytes) ≡ n
read_count zero bytes = refl
read_count (suc n) bytes = ap suc (read_count n (value_read bytes).1)

-- values that are read in two parts
pub read_two : (m n : ℕ) (bytes : List ℕ) → values_read (m + n) bytes ≡ values_read m bytes ++ values_read n (values_left m bytes)
read_two zero n bytes = let e : zero + n ≡ n = omega arith in ap (λ k. values_read k bytes) e
read_two (suc m) n bytes =
    let e : suc m + n ≡ suc (m + n) = omega arith in
    ap (λ k. values_read k bytes) e ∙ ap (λ vs. (value_read bytes).0 ∷ vs) (read_two m n (value_read bytes).1)

pub key_back : (vs : List Value) (rest : List ℕ) → All IsStorable vs → key_read (length vs ∷ (flat_map stored_value vs ++ rest)) ≡ vs
unfolding key_read
key_back vs rest h = values_back vs rest h

-- a key whose values are storable, as they show
pub storable_key : (values : List ValueRef) (key : List Value) → map value_shown values ≡ key → All (λ v. IsStorable (value_shown v)) values → All IsStorable key
storable_key values key same h = subst (All IsStorable) same (All-map IsStorable value_shown values h)

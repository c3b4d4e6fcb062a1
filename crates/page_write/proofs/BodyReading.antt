-- The values of a body are read again, where none is null.
use Rattle.std.proofs.Common.{◌≡◌, ◌≤◌, ◌<◌, ◌+◌, ◌-◌, ◌*◌, ◌/◌, ◌%◌, ◌^◌, ℕ, ℤ, pos, zero, suc, List, [], ◌∷◌, ◌++◌, length, take, drop, Bool, true, false, ◌==◌, nat_le, cond, Option, Some, None, Ok, refl, ap, sym, ◌∙◌, arith, lt-ltb, le-ltb, inl, inr, ◌⊎◌, append_assoc, add-zero}
use mir.Val.{sel}
use lib.IntN.{negsuc}
use Rattle.std.specs.Prelude.{slice_index}
use Rattle.std.specs.Int.{cast_signed, cast_unsigned, from_le_bytes, to_le_bytes, w16, w32, w64}
use Rattle.std.proofs.Math.Seq.{drop-append_seam, take-append_seam}
use Rattle.std.proofs.lemmas.Bool.{cases_Bool, cases_order, cond-false, eqb-false, eqb-true, leb-true, lt-leb, or_parts}
use Rattle.std.proofs.lemmas.Bool.Decides.{nat_tests}
use Rattle.std.proofs.Math.Seq.{get_or-append_seam}
use Rattle.std.proofs.lemmas.List.{append-nil, get_or-append-add, get_or-replicate, get_or_append_left, length-append}
use Rattle.std.proofs.lemmas.Nat.{from_le_bytes-to_le_bytes_2, from_le_bytes-to_le_bytes_4, from_le_bytes-to_le_bytes_8}
use Rattle.key_orders.specs.declared.columns.ColType.{ColType}
use Rattle.key_orders.specs.declared.columns.ColType.TheVariants.{Bool as BoolType, Int2, Int4, Int8, Uuid, Text, Bytea, Oid, Date, Timestamp, Timestamptz, Fixed, Varlena}
use Rattle.key_orders.specs.declared.columns.Value.{Value}
use Rattle.key_orders.specs.declared.columns.Value.TheVariants.{Null, Bool as BoolValue, Int, Bytes}
use Rattle.key_orders.specs.Orders.{fits_type, is_between}
use Rattle.key_orders.specs.Types.{HasAlignment, alignment_of, fixed_length}
use Rattle.key_orders.specs.Values.{value_in}
use Rattle.byteorder.specs.Endian.{little_number}
use Rattle.byteorder.specs.Numbers.{little_number-reads_back}
use Rattle.page_layout.specs.Page.{u32_at}
use Rattle.page_layout.specs.Writes.{u32_bytes}
use Rattle.page_layout.proofs.Writing.{length_u32}
use Rattle.varlena_attrs.specs.Forms.{BeginsAt, IsStored, Plain, bytes_between, fixed, here, long, long_length, padded, short, varlena}
use Rattle.varlena_attrs.specs.Reading.{aligned}
use Rattle.varlena_attrs.proofs.Stored.{aligned_is, alignments, stored_complete}
use Rattle.std.proofs.Math.Nat.{div-div-eq-div-mul, pow-suc}
use Rattle.std.proofs.lemmas.Nat.{pow-add}
use Rattle.varlena_attrs.specs.Attributes.{As_null, Presence, Stored, presence_of}
use Rattle.varlena_attrs.specs.Forms as form
use Rattle.varlena_attrs.specs.Attributes.{is_null as absent}
use Rattle.varlena_attrs.specs.Forms.{Attribute}
use Rattle.key_attrs.specs.Keyed.{InlineStep, attribute_value, attribute_values, first_packed, inline_step, key_values, put_before, read_inline, then_inline, unless_packed, values_by}
use Rattle.varlena_attrs.specs.Reading.{Step, attribute_at}
use Rattle.varlena_attrs.proofs.Ends.{stored_there}
use Rattle.key_attrs.proofs.Keying.{read_inline-cons, read_inline-nil}
use Rattle.page_write.specs.Bodies.{MayAllStand, MayStand, body_flags, flag_byte, has_null, index_body, is_null, null_part, number_bytes, octet_bytes, is_aligned_value, octets_are_aligned, padding_before, presence_bits, stored_value, varlena_bytes, with_value, with_values}
use Rattle.key_orders.specs.declared.Tid.{Tid}
use Rattle.page_write.specs.Tuples.{before_tid, index_size, nulls_part, padded_body, values_part}
use Rattle.page_write.specs.Pages.{zeros}
use Rattle.page_write.proofs.Zeros.{length_zeros}

clash : false ≡ true → ⊥
clash e = cc

some_is : {m n : ℕ} → ◌≡◌ {A = Option ℕ} (Some m) (Some n) → m ≡ n
some_is e = cc

none_is : {n : ℕ} → ◌≡◌ {A = Option ℕ} None (Some n) → ⊥
none_is e = cc

-- Numbers

signed_2 : (n : ℕ) → n < 32768 → cast_signed w16 n ≡ pos n
signed_2 n small = ap (λ (b : Bool). sel b (pos n) (negsuc (65536 - suc n))) (lt-ltb n 32768 small)

below_2 : (r m : ℕ) → r ≡ 65536 - suc m → m < 32768 → cast_signed w16 r ≡ negsuc m
below_2 r m e small =
    ap (λ (b : Bool). sel b (pos r) (negsuc (65536 - suc r))) (le-ltb r 32768 (omega (arith, e, small)))
    ∙ ap negsuc (omega (arith, e, small))

bound_2 : (n : ℕ) → is_between (negsuc 32767) (pos 32767) (pos n) ≡ true → n < 32768
bound_2 n h = grind (arith, nat_tests)

least_2 : (m : ℕ) → is_between (negsuc 32767) (pos 32767) (negsuc m) ≡ true → m < 32768
least_2 m h = grind (arith, nat_tests)

number_2 : (z : ℤ) → is_between (negsuc 32767) (pos 32767) z ≡ true
    → cast_signed w16 (from_le_bytes w16 (take 2 (to_le_bytes w64 (cast_unsigned w64 z)))) ≡ z
number_2 (pos n) h =
    let small = bound_2 n h in
    ap (cast_signed w16) (from_le_bytes-to_le_bytes_2 n (omega (arith, small))) ∙ signed_2 n small
number_2 (negsuc m) h =
    let small = least_2 m h in
    below_2 (from_le_bytes w16 (take 2 (to_le_bytes w64 (cast_unsigned w64 (negsuc m))))) m (omega (arith, small)) small

signed_4 : (n : ℕ) → n < 2147483648 → cast_signed w32 n ≡ pos n
signed_4 n small = ap (λ (b : Bool). sel b (pos n) (negsuc (4294967296 - suc n))) (lt-ltb n 2147483648 small)

below_4 : (r m : ℕ) → r ≡ 4294967296 - suc m → m < 2147483648 → cast_signed w32 r ≡ negsuc m
below_4 r m e small =
    ap (λ (b : Bool). sel b (pos r) (negsuc (4294967296 - suc r))) (le-ltb r 2147483648 (omega (arith, e, small)))
    ∙ ap negsuc (omega (arith, e, small))

bound_4 : (n : ℕ) → is_between (negsuc 2147483647) (pos 2147483647) (pos n) ≡ true → n < 2147483648
bound_4 n h = grind (arith, nat_tests)

least_4 : (m : ℕ) → is_between (negsuc 2147483647) (pos 2147483647) (negsuc m) ≡ true → m < 2147483648
least_4 m h = grind (arith, nat_tests)

-- the lowest 4 bytes of a number below 0
low_4 : (m : ℕ) → m < 2147483648 → from_le_bytes w32 (take 4 (to_le_bytes w64 (cast_unsigned w64 (negsuc m)))) ≡ 4294967296 - suc m
low_4 m small =
    let back = from_le_bytes-to_le_bytes_4 (4294967296 - suc m) (omega arith) in
    let a : (18446744073709551616 - suc m) % 256 ≡ (4294967296 - suc m) % 256 = omega (arith, small) in
    let b : (18446744073709551616 - suc m) / 256 % 256 ≡ (4294967296 - suc m) / 256 % 256 = omega (arith, small) in
    let d : (18446744073709551616 - suc m) / 65536 % 256 ≡ (4294967296 - suc m) / 65536 % 256 = omega (arith, small) in
    let e : (18446744073709551616 - suc m) / 16777216 % 256 ≡ (4294967296 - suc m) / 16777216 % 256 = omega (arith, small) in
    (λ i. a i + b i * 256 + d i * 65536 + e i * 16777216) ∙ back

number_4 : (z : ℤ) → is_between (negsuc 2147483647) (pos 2147483647) z ≡ true
    → cast_signed w32 (from_le_bytes w32 (take 4 (to_le_bytes w64 (cast_unsigned w64 z)))) ≡ z
number_4 (pos n) h =
    let small = bound_4 n h in
    ap (cast_signed w32) (from_le_bytes-to_le_bytes_4 n (omega (arith, small))) ∙ signed_4 n small
number_4 (negsuc m) h =
    let small = least_4 m h in
    below_4 (from_le_bytes w32 (take 4 (to_le_bytes w64 (cast_unsigned w64 (negsuc m))))) m (low_4 m small) small

signed_8 : (n : ℕ) → n < 9223372036854775808 → cast_signed w64 n ≡ pos n
signed_8 n small = ap (λ (b : Bool). sel b (pos n) (negsuc (18446744073709551616 - suc n))) (lt-ltb n 9223372036854775808 small)

below_8 : (r m : ℕ) → r ≡ 18446744073709551616 - suc m → m < 9223372036854775808 → cast_signed w64 r ≡ negsuc m
below_8 r m e small =
    ap (λ (b : Bool). sel b (pos r) (negsuc (18446744073709551616 - suc r))) (le-ltb r 9223372036854775808 (omega (arith, e, small)))
    ∙ ap negsuc (omega (arith, e, small))

bound_8 : (n : ℕ) → is_between (negsuc 9223372036854775807) (pos 9223372036854775807) (pos n) ≡ true → n < 9223372036854775808
bound_8 n h = grind (arith, nat_tests)

least_8 : (m : ℕ) → is_between (negsuc 9223372036854775807) (pos 9223372036854775807) (negsuc m) ≡ true → m < 9223372036854775808
least_8 m h = grind (arith, nat_tests)

number_8 : (z : ℤ) → is_between (negsuc 9223372036854775807) (pos 9223372036854775807) z ≡ true
    → cast_signed w64 (from_le_bytes w64 (take 8 (to_le_bytes w64 (cast_unsigned w64 z)))) ≡ z
number_8 (pos n) h =
    let small = bound_8 n h in
    ap (cast_signed w64) (from_le_bytes-to_le_bytes_8 n (omega (arith, small))) ∙ signed_8 n small
number_8 (negsuc m) h =
    let small = least_8 m h in
    below_8 (from_le_bytes w64 (take 8 (to_le_bytes w64 (cast_unsigned w64 (negsuc m))))) m
    (from_le_bytes-to_le_bytes_8 (18446744073709551616 - suc m) (omega arith)) small

bound_oid : (n : ℕ) → is_between (pos 0) (pos 4294967295) (pos n) ≡ true → n < 4294967296
bound_oid n h = grind (arith, nat_tests)

number_oid : (z : ℤ) → is_between (pos 0) (pos 4294967295) z ≡ true → pos (from_le_bytes w32 (take 4 (to_le_bytes w64 (cast_unsigned w64 z)))) ≡ z
number_oid (pos n) h = ap pos (from_le_bytes-to_le_bytes_4 n (bound_oid n h))
number_oid (negsuc m) h = absurd (clash h)

-- Contents of values

-- the bytes of a value besides its header
abbrev pub content_of : ColType → Value → List ℕ
content_of c Null = []
content_of c (BoolValue b) = flag_byte b ∷ []
content_of c (Int z) = number_bytes (fixed_length c) z
content_of c (Bytes bytes) = bytes

-- the length of a value of fixed length
flag_length : (c : ColType) (b : Bool) → fits_type c (BoolValue b) ≡ true → (fixed_length c ≡ Some 1) × (value_in c (flag_byte b ∷ []) ≡ BoolValue b)
unfolding value_in
flag_length BoolType true h = (refl, refl)
flag_length BoolType false h = (refl, refl)
flag_length Int2 b h = absurd (clash h)
flag_length Int4 b h = absurd (clash h)
flag_length Int8 b h = absurd (clash h)
flag_length Uuid b h = absurd (clash h)
flag_length Text b h = absurd (clash h)
flag_length Bytea b h = absurd (clash h)
flag_length Oid b h = absurd (clash h)
flag_length Date b h = absurd (clash h)
flag_length Timestamp b h = absurd (clash h)
flag_length Timestamptz b h = absurd (clash h)
flag_length (Fixed len align) b h = absurd (clash h)
flag_length (Varlena align) b h = absurd (clash h)

pub record IsNumber (c : ColType) (z : ℤ) : Type 0 where
  pub len : ℕ
  pub fixed : fixed_length c ≡ Some len
  pub long : length (number_bytes (fixed_length c) z) ≡ len
  pub reads : value_in c (number_bytes (fixed_length c) z) ≡ Int z

number_length : (c : ColType) (z : ℤ) → fits_type c (Int z) ≡ true → IsNumber c z
unfolding value_in
number_length Int2 z h = record { len = 2; fixed = refl; long = refl; reads = ap Int (number_2 z h) }
number_length Int4 z h = record { len = 4; fixed = refl; long = refl; reads = ap Int (number_4 z h) }
number_length Int8 z h = record { len = 8; fixed = refl; long = refl; reads = ap Int (number_8 z h) }
number_length Oid z h = record { len = 4; fixed = refl; long = refl; reads = ap Int (number_oid z h) }
number_length Date z h = record { len = 4; fixed = refl; long = refl; reads = ap Int (number_4 z h) }
number_length Timestamp z h = record { len = 8; fixed = refl; long = refl; reads = ap Int (number_8 z h) }
number_length Timestamptz z h = record { len = 8; fixed = refl; long = refl; reads = ap Int (number_8 z h) }
number_length BoolType z h = absurd (clash h)
number_length Uuid z h = absurd (clash h)
number_length Text z h = absurd (clash h)
number_length Bytea z h = absurd (clash h)
number_length (Fixed len align) z h = absurd (clash h)
number_length (Varlena align) z h = absurd (clash h)

-- bytes are read as they are
octets_read : (c : ColType) (bytes : List ℕ) → fits_type c (Bytes bytes) ≡ true → value_in c bytes ≡ Bytes bytes
unfolding value_in
octets_read Uuid bytes h = refl
octets_read Text bytes h = refl
octets_read Bytea bytes h = refl
octets_read (Fixed len align) bytes h = refl
octets_read (Varlena align) bytes h = refl
octets_read BoolType bytes h = absurd (clash h)
octets_read Int2 bytes h = absurd (clash h)
octets_read Int4 bytes h = absurd (clash h)
octets_read Int8 bytes h = absurd (clash h)
octets_read Oid bytes h = absurd (clash h)
octets_read Date bytes h = absurd (clash h)
octets_read Timestamp bytes h = absurd (clash h)
octets_read Timestamptz bytes h = absurd (clash h)

-- bytes of a fixed length have it
octets_length : (c : ColType) (bytes : List ℕ) (len : ℕ) → fits_type c (Bytes bytes) ≡ true → fixed_length c ≡ Some len → length bytes ≡ len
octets_length Uuid bytes len h e = eqb-true (length bytes) 16 h ∙ some_is e
octets_length (Fixed n align) bytes len h e = eqb-true (length bytes) n h ∙ some_is e
octets_length Text bytes len h e = absurd (none_is e)
octets_length Bytea bytes len h e = absurd (none_is e)
octets_length (Varlena align) bytes len h e = absurd (none_is e)
octets_length BoolType bytes len h e = absurd (clash h)
octets_length Int2 bytes len h e = absurd (clash h)
octets_length Int4 bytes len h e = absurd (clash h)
octets_length Int8 bytes len h e = absurd (clash h)
octets_length Oid bytes len h e = absurd (clash h)
octets_length Date bytes len h e = absurd (clash h)
octets_length Timestamp bytes len h e = absurd (clash h)
octets_length Timestamptz bytes len h e = absurd (clash h)

-- Where values stand

-- bytes after others
piece_there : (front bytes rest : List ℕ) (start next : ℕ) → start ≡ length front → next ≡ start + length bytes
    → bytes_between (front ++ bytes ++ rest) start next ≡ bytes
piece_there front bytes rest start next e f =
    let count : next - start ≡ length bytes = omega (arith, e, f) in
    (λ i. take (count i) (drop (e i) (append_assoc front bytes rest i)))
    ∙ ap (take (length bytes)) (drop-append_seam front (bytes ++ rest)) ∙ take-append_seam bytes rest

next_there : (front bytes rest : List ℕ) → length (front ++ bytes) ≤ length (front ++ bytes ++ rest)
next_there front bytes rest = let a = length-append (front ++ bytes) rest in omega (arith, a)

-- the place of an aligned value
front_long : (c : ColType) (acc : List ℕ) → HasAlignment c
    → length (acc ++ zeros (aligned (alignment_of c) (length acc) - length acc)) ≡ aligned (alignment_of c) (length acc)
front_long c acc known =
    let al = aligned_is (alignment_of c) (length acc) (alignments (alignment_of c) known) in
    let low = al.at_least in
    let a = length-append acc (zeros (aligned (alignment_of c) (length acc) - length acc)) in
    let z = length_zeros (aligned (alignment_of c) (length acc) - length acc) in
    omega (arith, a, z, low)

fixed_there : (c : ColType) (len : ℕ) (acc bytes rest : List ℕ) → HasAlignment c → fixed_length c ≡ Some len → length bytes ≡ len
    → IsStored c (acc ++ zeros (aligned (alignment_of c) (length acc) - length acc) ++ bytes ++ rest) (length acc) (Plain bytes)
    (length (acc ++ zeros (aligned (alignment_of c) (length acc) - length acc) ++ bytes))
fixed_there c len acc bytes rest known e size =
    let start = aligned (alignment_of c) (length acc) in
    let front : List ℕ = acc ++ zeros (start - length acc) in
    let al = aligned_is (alignment_of c) (length acc) (alignments (alignment_of c) known) in
    let at : length front ≡ start = front_long c acc known in
    let end : length (front ++ bytes) ≡ start + len = let a = length-append front bytes in omega (arith, a, at, size) in
    fixed len start e al end (next_there front bytes rest)
    (ap Plain (sym (piece_there front bytes rest start (length (front ++ bytes)) (sym at) (end ∙ ap (λ (n : ℕ). start + n) (sym size)))))

-- the first byte after others
first_there : (front ys rest : List ℕ) (y place : ℕ) → place ≡ length front → slice_index (front ++ (y ∷ ys) ++ rest) place ≡ y
first_there front ys rest y place e =
    (λ i. slice_index (append_assoc front (y ∷ ys) rest i) (e i)) ∙ get_or-append_seam front y (ys ++ rest) 0

short_there : (c : ColType) (front bytes rest : List ℕ) (place : ℕ) → place ≡ length front → fixed_length c ≡ None → length bytes ≤ 126
    → IsStored c (front ++ ((2 * length bytes + 3) ∷ bytes) ++ rest) place (Plain bytes) (length (front ++ ((2 * length bytes + 3) ∷ bytes)))
short_there c front bytes rest place at e few =
    let h = 2 * length bytes + 3 in
    let body : List ℕ = front ++ (h ∷ bytes) ++ rest in
    let first : slice_index body place ≡ h = first_there front bytes rest h place at in
    let end : length (front ++ (h ∷ bytes)) ≡ place + 1 + length bytes = let a = length-append front (h ∷ bytes) in omega (arith, a, at) in
    let after : length (front ++ h ∷ []) ≡ place + 1 = let a = length-append front (h ∷ []) in omega (arith, a, at) in
    let split : body ≡ (front ++ h ∷ []) ++ bytes ++ rest = ap (λ (z : List ℕ). z ++ rest) (sym (append_assoc front (h ∷ []) bytes)) in
    varlena place e (here (λ none. omega (arith, none, first)) refl) (short (record {
      odd = ap (λ (n : ℕ). n % 2) first ∙ omega arith;
      other = λ one. omega (arith, one, first);
      ends = end ∙ omega arith ∙ ap (λ (n : ℕ). place + n / 2) (sym first);
      within = next_there front (h ∷ bytes) rest;
      content = ap Plain (sym (ap (λ (z : List ℕ). bytes_between z (place + 1) (length (front ++ (h ∷ bytes)))) split
          ∙ piece_there (front ++ h ∷ []) bytes rest (place + 1) (length (front ++ (h ∷ bytes))) (sym after) end));
    }))

-- the first of zeros after other bytes
in_line : (a b c d : List ℕ) → a ++ b ++ c ++ d ≡ a ++ (b ++ (c ++ d))
in_line a b c d = simp append_assoc

zero_there : (acc bytes rest : List ℕ) (gap : ℕ) → 0 < gap → slice_index (acc ++ zeros gap ++ bytes ++ rest) (length acc) ≡ 0
unfolding zeros
zero_there acc bytes rest gap some =
    ap (λ (z : List ℕ). slice_index z (length acc)) (in_line acc (zeros gap) bytes rest)
    ∙ ap (slice_index (acc ++ (zeros gap ++ (bytes ++ rest)))) (sym (add-zero (length acc)))
    ∙ get_or-append-add acc (zeros gap ++ (bytes ++ rest)) 0 0
    ∙ get_or_append_left (zeros gap) (bytes ++ rest) 0 0 (let z = length_zeros gap in omega (arith, z, some))
    ∙ get_or-replicate gap 0 0 0 some

-- the byte at a place before which zeros stand, or none
begins_there : (c : ColType) (acc bytes rest : List ℕ) → HasAlignment c
    → BeginsAt (alignment_of c) (acc ++ zeros (aligned (alignment_of c) (length acc) - length acc) ++ bytes ++ rest) (length acc)
    (aligned (alignment_of c) (length acc))
begins_there c acc bytes rest known =
    let start = aligned (alignment_of c) (length acc) in
    let gap = start - length acc in
    let al = aligned_is (alignment_of c) (length acc) (alignments (alignment_of c) known) in
    let low = al.at_least in
    let body : List ℕ = acc ++ zeros gap ++ bytes ++ rest in
    elim (cases_Bool (slice_index body (length acc) == 0)) [
      | inl e ↦ padded (eqb-true (slice_index body (length acc)) 0 e) al
      | inr e ↦ here (λ none. eqb-false (slice_index body (length acc)) 0 e none)
          (elim (cases_order gap 0) [
            | inl none ↦ omega (arith, none, low)
            | inr apart ↦ elim apart [
              | inl under ↦ absurd (omega (arith, under))
              | inr some ↦ absurd (eqb-false (slice_index body (length acc)) 0 e (zero_there acc bytes rest gap some))
            ]
          ])
    ]

long_there : (c : ColType) (acc bytes rest : List ℕ) → HasAlignment c → fixed_length c ≡ None → length bytes < 1073741820
    → IsStored c (acc ++ zeros (aligned (alignment_of c) (length acc) - length acc) ++ (u32_bytes (4 * length bytes + 16) ++ bytes) ++ rest) (length acc)
    (Plain bytes) (length (acc ++ zeros (aligned (alignment_of c) (length acc) - length acc) ++ (u32_bytes (4 * length bytes + 16) ++ bytes)))
unfolding long_length u32_at u32_bytes
long_there c acc bytes rest known e few =
    let start = aligned (alignment_of c) (length acc) in
    let front : List ℕ = acc ++ zeros (start - length acc) in
    let n = 4 * length bytes + 16 in
    let head : List ℕ = u32_bytes n in
    let body : List ℕ = front ++ (head ++ bytes) ++ rest in
    let at : length front ≡ start = front_long c acc known in
    let end : length (front ++ (head ++ bytes)) ≡ start + 4 + length bytes =
    let a = length-append front (head ++ bytes) in let b = length-append head bytes in let d = length_u32 n in omega (arith, a, b, d, at) in
    let after : length (front ++ head) ≡ start + 4 = let a = length-append front head in let d = length_u32 n in omega (arith, a, d, at) in
    let split : body ≡ (front ++ head) ++ bytes ++ rest = ap (λ (z : List ℕ). z ++ rest) (sym (append_assoc front head bytes)) in
    let there : drop start body ≡ (head ++ bytes) ++ rest =
    (λ i. drop (sym at i) (append_assoc front (head ++ bytes) rest i)) ∙ drop-append_seam front ((head ++ bytes) ++ rest) in
    let number : little_number 4 (drop start body) ≡ n = ap (little_number 4) there ∙ little_number-reads_back 4 n (bytes ++ rest) (omega (arith, few)) in
    let long_is : little_number 4 (drop start body) / 4 ≡ length bytes + 4 = ap (λ (k : ℕ). k / 4) number ∙ omega arith in
    let first : slice_index body start ≡ n % 256 = first_there front _ rest (n % 256) start (sym at) in
    varlena start e (begins_there c acc (head ++ bytes) rest known) (long (record {
      bits = ap (λ (k : ℕ). k % 4) first ∙ omega arith;
      header = omega (arith, long_is);
      ends = end ∙ omega arith ∙ ap (λ (k : ℕ). start + k) (sym long_is);
      within = next_there front (head ++ bytes) rest;
      content = ap Plain (sym (ap (λ (z : List ℕ). bytes_between z (start + 4) (length (front ++ (head ++ bytes)))) split
          ∙ piece_there (front ++ head) bytes rest (start + 4) (length (front ++ (head ++ bytes))) (sym after) end));
    }))

-- Values

varlena_there : (b : Bool) (c : ColType) (bytes acc rest : List ℕ) → nat_le (length bytes) 126 ≡ b → HasAlignment c → fixed_length c ≡ None
    → length bytes < 1073741820
    → IsStored c (acc ++ zeros (cond (cond b false true) (aligned (alignment_of c) (length acc) - length acc) 0)
    ++ cond b ((2 * length bytes + 3) ∷ bytes) (u32_bytes (4 * length bytes + 16) ++ bytes) ++ rest) (length acc) (Plain bytes)
    (length (acc ++ zeros (cond (cond b false true) (aligned (alignment_of c) (length acc) - length acc) 0)
    ++ cond b ((2 * length bytes + 3) ∷ bytes) (u32_bytes (4 * length bytes + 16) ++ bytes)))
varlena_there true c bytes acc rest few known e small =
    let a = length-append acc (zeros 0) in
    let z = length_zeros 0 in
    short_there c (acc ++ zeros 0) bytes rest (length acc) (omega (arith, a, z)) e (leb-true (length bytes) 126 few)
varlena_there false c bytes acc rest few known e small = long_there c acc bytes rest known e small

octets_there : (fl : Option ℕ) (c : ColType) (bytes acc rest : List ℕ) → fixed_length c ≡ fl → fits_type c (Bytes bytes) ≡ true → HasAlignment c
    → length bytes < 1073741820
    → IsStored c (acc ++ zeros (cond (octets_are_aligned fl bytes) (aligned (alignment_of c) (length acc) - length acc) 0) ++ octet_bytes fl bytes ++ rest)
    (length acc) (Plain bytes)
    (length (acc ++ zeros (cond (octets_are_aligned fl bytes) (aligned (alignment_of c) (length acc) - length acc) 0) ++ octet_bytes fl bytes))
unfolding varlena_bytes
octets_there (Some len) c bytes acc rest e fits known small = fixed_there c len acc bytes rest known e (octets_length c bytes len fits e)
octets_there None c bytes acc rest e fits known small = varlena_there (nat_le (length bytes) 126) c bytes acc rest refl known e small

-- a value that is there in its column
value_there : (c : ColType) (v : Value) (acc rest : List ℕ) → MayStand c v → is_null v ≡ false
    → IsStored c (with_value c v acc ++ rest) (length acc) (Plain (content_of c v)) (length (with_value c v acc))
unfolding with_value padding_before stored_value
value_there c Null acc rest may some = absurd (clash (sym some))
value_there c (BoolValue b) acc rest may some =
    fixed_there c 1 acc (flag_byte b ∷ []) rest may.aligned (flag_length c b may.fits).0 refl
value_there c (Int z) acc rest may some =
    let is = number_length c z may.fits in
    fixed_there c is.len acc (number_bytes (fixed_length c) z) rest may.aligned is.fixed is.long
value_there c (Bytes bytes) acc rest may some = octets_there (fixed_length c) c bytes acc rest refl may.fits may.aligned may.short

-- the attribute of a value
abbrev attribute_of : ColType → Value → Attribute
attribute_of c Null = form.Null
attribute_of c (BoolValue b) = Plain (content_of c (BoolValue b))
attribute_of c (Int z) = Plain (content_of c (Int z))
attribute_of c (Bytes bytes) = Plain (content_of c (Bytes bytes))

attribute_reads : (c : ColType) (v : Value) → MayStand c v → attribute_value c (attribute_of c v) ≡ v
attribute_reads c Null may = refl
attribute_reads c (BoolValue b) may = (flag_length c b may.fits).1
attribute_reads c (Int z) may = (number_length c z may.fits).reads
attribute_reads c (Bytes bytes) may = octets_read c bytes may.fits

-- a null takes no bytes
null_there : (c : ColType) (acc : List ℕ) → length (with_value c Null acc) ≡ length acc
unfolding with_value padding_before stored_value
null_there c acc =
    let a = length-append (acc ++ zeros 0) [] in
    let b = length-append acc (zeros 0) in
    let z = length_zeros 0 in
    omega (arith, a, b, z)

-- how a tuple has a value
abbrev presence : Value → Presence
presence v = cond (is_null v) As_null Stored

value_step : (c : ColType) (v : Value) (acc rest : List ℕ) → MayStand c v
    → attribute_at (presence v) c (with_value c v acc ++ rest) (length acc) ≡ Ok (attribute_of c v, length (with_value c v acc))
value_step c Null acc rest may = ap (λ (n : ℕ). let r : Step = Ok (form.Null, n) in r) (sym (null_there c acc))
value_step c (BoolValue b) acc rest may = stored_complete c _ _ _ _ may.aligned (value_there c (BoolValue b) acc rest may refl)
value_step c (Int z) acc rest may = stored_complete c _ _ _ _ may.aligned (value_there c (Int z) acc rest may refl)
value_step c (Bytes bytes) acc rest may = stored_complete c _ _ _ _ may.aligned (value_there c (Bytes bytes) acc rest may refl)

-- Bodies

-- what is laid goes on from what there was
longer : (cs : List ColType) (vs : List Value) (acc : List ℕ) → (rest : List ℕ) × (with_values cs vs acc ≡ acc ++ rest)
unfolding with_values with_value
longer [] vs acc = ([], sym (append-nil acc))
longer (c ∷ cs) [] acc = ([], sym (append-nil acc))
longer (c ∷ cs) (v ∷ vs) acc =
    let gap : List ℕ = zeros (padding_before c v (length acc)) in
    let bytes : List ℕ = stored_value c v in
    let more = longer cs vs (acc ++ gap ++ bytes) in
    (gap ++ (bytes ++ more.0), more.1 ∙ in_line acc gap bytes more.0)

-- the attributes of values
attribute_list : List ColType → List Value → List Attribute
attribute_list [] vs = []
attribute_list (c ∷ cs) [] = []
attribute_list (c ∷ cs) (v ∷ vs) = attribute_of c v ∷ attribute_list cs vs

-- null bits say which values are there
abbrev SaysPresence : Option (List ℕ) → ℕ → ℕ → List Value → Type 0
SaysPresence nulls natts k [] = Unit {0}
SaysPresence nulls natts k (v ∷ vs) = (presence_of nulls natts k ≡ presence v) × SaysPresence nulls natts (suc k) vs

-- an attribute of a value stands in the tuple
inline_there : (column : ℕ) (c : ColType) (v : Value) (next : ℕ) → inline_step column (Ok (attribute_of c v, next)) ≡ Ok (attribute_of c v, next)
inline_there column c Null next = refl
inline_there column c (BoolValue b) next = refl
inline_there column c (Int z) next = refl
inline_there column c (Bytes bytes) next = refl

reads_from : (cs : List ColType) (vs : List Value) (nulls : Option (List ℕ)) (acc tail : List ℕ) (k natts : ℕ) → MayAllStand cs vs → SaysPresence nulls natts k vs
    → read_inline cs nulls natts (with_values cs vs acc ++ tail) k (length acc) ≡ Ok (attribute_list cs vs)
unfolding with_values attribute_list
reads_from [] vs nulls acc tail k natts may says = read_inline-nil nulls natts (acc ++ tail) k (length acc)
reads_from (c ∷ cs) [] nulls acc tail k natts may says = absurd may
reads_from (c ∷ cs) (v ∷ vs) nulls acc tail k natts may says =
    let next : List ℕ = with_value c v acc in
    let body : List ℕ = with_values cs vs next ++ tail in
    let more = longer cs vs next in
    let body_is : body ≡ next ++ (more.0 ++ tail) = ap (λ (z : List ℕ). z ++ tail) more.1 ∙ append_assoc next more.0 tail in
    let step : attribute_at (presence_of nulls natts k) c body (length acc) ≡ Ok (attribute_of c v, length next) =
    (λ i. attribute_at (says.0 i) c (body_is i) (length acc)) ∙ value_step c v acc (more.0 ++ tail) may.0 in
    read_inline-cons c cs nulls natts body k (length acc)
    ∙ ap (λ (s : Step). then_inline (inline_step (suc k) s) (λ place. read_inline cs nulls natts body (suc k) place)) step
    ∙ ap (λ (s : InlineStep). then_inline s (λ place. read_inline cs nulls natts body (suc k) place)) (inline_there (suc k) c v (length next))
    ∙ ap (put_before (attribute_of c v)) (reads_from cs vs nulls next tail (suc k) natts may.1 says.1)

none_packed : (k : ℕ) (cs : List ColType) (vs : List Value) → first_packed k (attribute_list cs vs) ≡ None
unfolding attribute_list
none_packed k [] vs = refl
none_packed k (c ∷ cs) [] = refl
none_packed k (c ∷ cs) (Null ∷ vs) = none_packed (suc k) cs vs
none_packed k (c ∷ cs) (BoolValue b ∷ vs) = none_packed (suc k) cs vs
none_packed k (c ∷ cs) (Int z ∷ vs) = none_packed (suc k) cs vs
none_packed k (c ∷ cs) (Bytes bytes ∷ vs) = none_packed (suc k) cs vs

values_are : (cs : List ColType) (vs : List Value) → MayAllStand cs vs → attribute_values cs (attribute_list cs vs) ≡ vs
unfolding attribute_list
values_are [] [] may = refl
values_are [] (v ∷ vs) may = absurd may
values_are (c ∷ cs) [] may = absurd may
values_are (c ∷ cs) (v ∷ vs) may = λ i. attribute_reads c v may.0 i ∷ values_are cs vs may.1 i

laid_values : (cs : List ColType) (vs : List Value) (nulls : Option (List ℕ)) (tail : List ℕ) → MayAllStand cs vs → SaysPresence nulls (length cs) 0 vs
    → key_values cs (with_values cs vs [] ++ tail) nulls ≡ Ok vs
unfolding key_values
laid_values cs vs nulls tail may says =
    ap (values_by cs) (reads_from cs vs nulls [] tail 0 (length cs) may says)
    ∙ (λ i. unless_packed (none_packed 0 cs vs i) (values_are cs vs may i))

-- Without null bits

same_count : (cs : List ColType) (vs : List Value) → MayAllStand cs vs → length vs ≡ length cs
same_count [] [] may = refl
same_count [] (v ∷ vs) may = absurd may
same_count (c ∷ cs) [] may = absurd may
same_count (c ∷ cs) (v ∷ vs) may = let e = same_count cs vs may.1 in omega (arith, e)

all_there : (vs : List Value) (natts k : ℕ) → has_null vs ≡ false → k + length vs ≤ natts → SaysPresence None natts k vs
unfolding absent
all_there [] natts k none few = tt
all_there (v ∷ vs) natts k none few =
    let parts = or_parts (is_null v) (has_null vs) none in (
      stored_there None natts k (omega (arith, few)) refl ∙ sym (cond-false _ _ _ parts.0),
      all_there vs natts (suc k) parts.1 (omega (arith, few)),
    )

-- Null bits

-- bits below the eighth are those of the lowest byte
low_bit : (m r : ℕ) → r < 8 → m % 256 / 2 ^ r % 2 ≡ m / 2 ^ r % 2
low_bit m zero lt = omega arith
low_bit m (suc zero) lt = omega arith
low_bit m (suc (suc zero)) lt = omega arith
low_bit m (suc (suc (suc zero))) lt = omega arith
low_bit m (suc (suc (suc (suc zero)))) lt = omega arith
low_bit m (suc (suc (suc (suc (suc zero))))) lt = omega arith
low_bit m (suc (suc (suc (suc (suc (suc zero)))))) lt = omega arith
low_bit m (suc (suc (suc (suc (suc (suc (suc zero))))))) lt = omega arith
low_bit m (suc (suc (suc (suc (suc (suc (suc (suc r)))))))) lt = absurd (omega (arith, lt))

one_over : (n : ℕ) → n / 2 ^ 0 ≡ n
one_over n = omega arith

-- the bit in a byte
byte_bit : (n j r k : ℕ) → r < 8 → k ≡ 8 * j + r → n / 2 ^ (8 * j) % 256 / 2 ^ r % 2 ≡ n / 2 ^ k % 2
byte_bit n j r k lt e =
    low_bit (n / 2 ^ (8 * j)) r lt
    ∙ ap (λ (m : ℕ). m % 2) (div-div-eq-div-mul n (2 ^ (8 * j)) (2 ^ r))
    ∙ ap (λ (m : ℕ). n / m % 2) (sym (pow-add 2 (8 * j) r) ∙ ap (λ (m : ℕ). 2 ^ m) (sym e))

in_byte : (n j r k : ℕ) → j < 4 → r < 8 → k ≡ 8 * j + r → slice_index (u32_bytes n) j / 2 ^ r % 2 ≡ n / 2 ^ k % 2
unfolding u32_bytes
in_byte n zero r k a b e = ap (λ (m : ℕ). m % 256 / 2 ^ r % 2) (sym (one_over n)) ∙ byte_bit n 0 r k b e
in_byte n (suc zero) r k a b e = byte_bit n 1 r k b e
in_byte n (suc (suc zero)) r k a b e = byte_bit n 2 r k b e
in_byte n (suc (suc (suc zero))) r k a b e = byte_bit n 3 r k b e
in_byte n (suc (suc (suc (suc j)))) r k a b e = absurd (omega (arith, a))

-- the bits in the bytes of a number
bit_in : (n k : ℕ) → k < 32 → slice_index (u32_bytes n) (k / 8) / 2 ^ (k % 8) % 2 ≡ n / 2 ^ k % 2
bit_in n k lt = in_byte n (k / 8) (k % 8) k (omega (arith, lt)) (omega arith) (omega arith)

lowest : (b : Bool) (rest : ℕ) → (cond b 0 1 + 2 * rest) % 2 ≡ cond b 0 1
lowest true rest = omega arith
lowest false rest = omega arith

halved : (b : Bool) (rest : ℕ) → (cond b 0 1 + 2 * rest) / 2 ≡ rest
halved true rest = omega arith
halved false rest = omega arith

by_bit : (b : Bool) → cond (cond b 0 1 == 0) As_null Stored ≡ cond b As_null Stored
by_bit true = refl
by_bit false = refl

bits_there : (n natts k : ℕ) (vs : List Value) → n / 2 ^ k ≡ presence_bits vs → k + length vs ≤ 32 → k + length vs ≤ natts
    → SaysPresence (Some (u32_bytes n)) natts k vs
unfolding presence_of absent presence_bits
bits_there n natts k [] e few most = tt
bits_there n natts k (v ∷ vs) e few most =
    let bit : slice_index (u32_bytes n) (k / 8) / 2 ^ (k % 8) % 2 ≡ cond (is_null v) 0 1 =
    bit_in n k (omega (arith, few)) ∙ ap (λ (m : ℕ). m % 2) e ∙ lowest (is_null v) (presence_bits vs) in
    let next : n / 2 ^ suc k ≡ presence_bits vs =
    ap (λ (m : ℕ). n / m) (pow-suc 2 k) ∙ sym (div-div-eq-div-mul n (2 ^ k) 2) ∙ ap (λ (m : ℕ). m / 2) e ∙ halved (is_null v) (presence_bits vs) in (
      cond-false _ _ _ (lt-leb natts k (omega (arith, most))) ∙ ap (λ (m : ℕ). cond (m == 0) As_null Stored) bit ∙ by_bit (is_null v),
      bits_there n natts (suc k) vs next (omega (arith, few)) (omega (arith, most)),
    )

-- With null bits

-- alignment counts from any multiple of 8
same_gap : (n place : ℕ) → (n ≡ 1) ⊎ ((n ≡ 2) ⊎ ((n ≡ 4) ⊎ (n ≡ 8))) → aligned n (8 + place) - (8 + place) ≡ aligned n place - place
same_gap n place (inl e) = ap (λ (m : ℕ). aligned m (8 + place) - (8 + place)) e ∙ omega arith ∙ ap (λ (m : ℕ). aligned m place - place) (sym e)
same_gap n place (inr (inl e)) = ap (λ (m : ℕ). aligned m (8 + place) - (8 + place)) e ∙ omega arith ∙ ap (λ (m : ℕ). aligned m place - place) (sym e)
same_gap n place (inr (inr (inl e))) = ap (λ (m : ℕ). aligned m (8 + place) - (8 + place)) e ∙ omega arith ∙ ap (λ (m : ℕ). aligned m place - place) (sym e)
same_gap n place (inr (inr (inr e))) = ap (λ (m : ℕ). aligned m (8 + place) - (8 + place)) e ∙ omega arith ∙ ap (λ (m : ℕ). aligned m place - place) (sym e)

same_padding : (c : ColType) (v : Value) (place : ℕ) → HasAlignment c → padding_before c v (8 + place) ≡ padding_before c v place
unfolding padding_before
same_padding c v place known =
    ap (λ (n : ℕ). cond (is_aligned_value c v) n 0) (same_gap (alignment_of c) place (alignments (alignment_of c) known))

in_line2 : (a b c d : List ℕ) → a ++ b ++ c ++ d ≡ a ++ (b ++ c ++ d)
in_line2 a b c d = simp append_assoc

later_value : (c : ColType) (v : Value) (front acc : List ℕ) → HasAlignment c → length front ≡ 8 → with_value c v (front ++ acc) ≡ front ++ with_value c v acc
unfolding with_value
later_value c v front acc known e =
    let place : length (front ++ acc) ≡ 8 + length acc = let a = length-append front acc in omega (arith, a, e) in
    ap (λ (n : ℕ). front ++ acc ++ zeros n ++ stored_value c v) (ap (padding_before c v) place ∙ same_padding c v (length acc) known)
    ∙ in_line2 front acc (zeros (padding_before c v (length acc))) (stored_value c v)

later : (cs : List ColType) (vs : List Value) (front acc : List ℕ) → MayAllStand cs vs → length front ≡ 8
    → with_values cs vs (front ++ acc) ≡ front ++ with_values cs vs acc
unfolding with_values
later [] vs front acc may e = refl
later (c ∷ cs) [] front acc may e = absurd may
later (c ∷ cs) (v ∷ vs) front acc may e =
    ap (with_values cs vs) (later_value c v front acc may.0.aligned e) ∙ later cs vs front (with_value c v acc) may.1 e

-- null bits and padding before a body
nulled : (cs : List ColType) (vs : List Value) (tail : List ℕ) → MayAllStand cs vs → length vs ≤ 32
    → key_values cs (drop 8 (with_values cs vs (u32_bytes (presence_bits vs) ++ zeros 4) ++ tail))
    (Some (take 4 (with_values cs vs (u32_bytes (presence_bits vs) ++ zeros 4) ++ tail))) ≡ Ok vs
nulled cs vs tail may few =
    let bits : List ℕ = u32_bytes (presence_bits vs) in
    let front : List ℕ = bits ++ zeros 4 in
    let four = length_u32 (presence_bits vs) in
    let size : length front ≡ 8 = let a = length-append bits (zeros 4) in let z = length_zeros 4 in omega (arith, a, z, four) in
    let body : List ℕ = with_values cs vs [] ++ tail in
    let is : with_values cs vs front ++ tail ≡ front ++ body =
    ap (λ (z : List ℕ). with_values cs vs z ++ tail) (sym (append-nil front)) ∙ ap (λ (z : List ℕ). z ++ tail) (later cs vs front [] may size)
    ∙ append_assoc front (with_values cs vs []) tail in
    let dropped : drop 8 (with_values cs vs front ++ tail) ≡ body =
    ap (drop 8) is ∙ ap (λ (n : ℕ). drop n (front ++ body)) (sym size) ∙ drop-append_seam front body in
    let taken : take 4 (with_values cs vs front ++ tail) ≡ bits =
    ap (take 4) (is ∙ append_assoc bits (zeros 4) body) ∙ ap (λ (n : ℕ). take n (bits ++ (zeros 4 ++ body))) (sym four) ∙ take-append_seam bits (zeros 4 ++ body) in
    let count = same_count cs vs may in
    (λ i. key_values cs (dropped i) (Some (taken i)))
    ∙ laid_values cs vs (Some bits) tail may
    (bits_there (presence_bits vs) (length cs) 0 vs (one_over (presence_bits vs)) (omega (arith, few)) (omega (arith, count)))

body_reads : (cs : List ColType) (vs : List Value) (tail : List ℕ) → MayAllStand cs vs → length vs ≤ 32
    → key_values cs (values_part (body_flags cs vs) (index_body cs vs ++ tail)) (nulls_part (body_flags cs vs) (index_body cs vs ++ tail)) ≡ Ok vs
unfolding body_flags index_body null_part
body_reads cs vs tail may few =
    elim (cases_Bool (has_null vs)) [
      | inl some ↦
          (λ i. key_values cs (cond (some i) (drop 8 (with_values cs vs (cond (some i) (u32_bytes (presence_bits vs) ++ zeros 4) []) ++ tail)) (with_values cs vs (cond (some i) (u32_bytes (presence_bits vs) ++ zeros 4) []) ++ tail))
          (cond (some i) (Some (take 4 (with_values cs vs (cond (some i) (u32_bytes (presence_bits vs) ++ zeros 4) []) ++ tail))) None))
          ∙ nulled cs vs tail may few
      | inr none ↦
          (λ i. key_values cs (cond (none i) (drop 8 (with_values cs vs (cond (none i) (u32_bytes (presence_bits vs) ++ zeros 4) []) ++ tail)) (with_values cs vs (cond (none i) (u32_bytes (presence_bits vs) ++ zeros 4) []) ++ tail))
          (cond (none i) (Some (take 4 (with_values cs vs (cond (none i) (u32_bytes (presence_bits vs) ++ zeros 4) []) ++ tail))) None))
          ∙ laid_values cs vs None tail may (let count = same_count cs vs may in all_there vs (length cs) 0 none (omega (arith, count)))
    ]

-- the body and its padding, and the same before a TID
pub entry_reads : (cs : List ColType) (vs : List Value) → MayAllStand cs vs → length vs ≤ 32
    → key_values cs (values_part (body_flags cs vs) (padded_body (index_body cs vs))) (nulls_part (body_flags cs vs) (padded_body (index_body cs vs))) ≡ Ok vs
unfolding padded_body
entry_reads cs vs may few = body_reads cs vs (zeros (index_size (length (index_body cs vs)) - (8 + length (index_body cs vs)))) may few

pub separator_reads : (cs : List ColType) (vs : List Value) (tid : Option Tid) → MayAllStand cs vs → length vs ≤ 32
    → key_values cs (values_part (body_flags cs vs) (before_tid tid (index_body cs vs))) (nulls_part (body_flags cs vs) (before_tid tid (index_body cs vs))) ≡ Ok vs
unfolding before_tid padded_body
separator_reads cs vs None may few = entry_reads cs vs may few
separator_reads cs vs (Some tid) may few =
    let pad : List ℕ = zeros (index_size (length (index_body cs vs)) - (8 + length (index_body cs vs))) in
    ap (λ (z : List ℕ). key_values cs (values_part (body_flags cs vs) z) (nulls_part (body_flags cs vs) z)) (append_assoc (index_body cs vs) pad (zeros 2))
    ∙ body_reads cs vs (pad ++ zeros 2) may few

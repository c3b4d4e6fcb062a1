-- The flag of a heap-only tuple, in a tuple that has the word for it and in one that ends before.
use Rattle.std.proofs.Common.{◌≡◌, ◌∙◌, ℕ, ◌*◌, ◌/◌, ◌%◌, ◌^◌, ◌<◌, false, List, length, get_or, drop, refl, ap, arith}
use Rattle.std.specs.Prelude.{not, ◌==◌}
use Rattle.std.proofs.lemmas.List.{get_or-drop, get_or_past, length-drop}
use Rattle.std.proofs.lemmas.Nat.Bits.{and_pow}
use Rattle.page_layout.specs.Page.{has_bit, u16_at}
use Rattle.tuple_head.specs.Head.{is_heap_only, tuple_head_of}

-- the flag is the highest bit of the word at byte 18
pub in_word : (tuple : List ℕ) → is_heap_only (tuple_head_of tuple) ≡ has_bit (u16_at tuple 18) 0x8000
unfolding is_heap_only tuple_head_of
in_word tuple = refl

-- a word below the flag
no_flag : (word : ℕ) → word < 32768 → has_bit word 0x8000 ≡ false
unfolding has_bit
no_flag word small =
    let none : word / 2 ^ 15 % 2 ≡ 0 = omega arith in
    ap (λ n. not (n == 0)) (and_pow word 15 ∙ ap (λ n. n * 2 ^ 15) none)

-- the word of a tuple that ends before its second byte
short_word : (tuple : List ℕ) → get_or tuple 18 0 < 256 → length tuple < 20 → u16_at tuple 18 < 32768
unfolding u16_at
short_word tuple small short =
    let low : get_or (drop 18 tuple) 0 0 ≡ get_or tuple 18 0 = get_or-drop 18 tuple 0 0 in
    let high : get_or (drop 18 tuple) 1 0 ≡ 0 = get_or_past (drop 18 tuple) 1 0 (omega (arith, length-drop 18 tuple)) in
    omega (arith, low, high)

pub no_flag_in_short : (tuple : List ℕ) → get_or tuple 18 0 < 256 → length tuple < 20
    → is_heap_only (tuple_head_of tuple) ≡ false
no_flag_in_short tuple small short = in_word tuple ∙ no_flag (u16_at tuple 18) (short_word tuple small short)

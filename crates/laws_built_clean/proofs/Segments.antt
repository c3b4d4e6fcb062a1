-- The blocks of a file that holds bytes in segments.
use Rattle.std.proofs.Common.{◌≡◌, ◌≤◌, ◌<◌, ◌+◌, ◌-◌, ◌*◌, ◌/◌, ◌%◌, ◌∙◌, ℕ, min, inl, inr, List, length, take, drop, ap, arith, length-drop, length-take, drop-drop, take-take, suc-mul}
use Rattle.std.specs.Prelude.{if◌then◌else◌, nat_lt, Option, Some, None}
use Rattle.std.proofs.Math.Nat.{mul-le-mul_right, le-div_iff_mul-le}
use Rattle.std.proofs.lemmas.Bool.{cases_lt, cond-false, le-ltb}
use Rattle.std.proofs.lemmas.List.{drop-take}
use Rattle.std.proofs.lemmas.Nat.{div-add-mod', div-mul-add, mod_below}
use Rattle.outside.specs.Outside.{Names}
use Rattle.rel_files.specs.Blocks.{block_in, block_of, blocks_in, blocks_of, last_segment, long_at, long_segment_of, segment_length}
use Rattle.rel_files.proofs.Counting.{below-last, last_unique}
use Rattle.laws_built_clean.specs.Written.{HoldsFile}

quotient : (n m : ℕ) → m ≡ n * 8192 + 0 → m / 8192 ≡ n
quotient n m is = ap (λ (k : ℕ). k / 8192) is ∙ div-mul-add n 8192 0 (omega arith)

module _ (names : Names) (base : List ℕ) (size blocks : ℕ) (bytes : List ℕ) (some : 1 ≤ size) (holds : HoldsFile names base size blocks bytes) where
  -- The segments

  abbrev len : ℕ → ℕ
  len = segment_length names base

  abbrev part : ℕ → List ℕ
  part k = take (8192 * size) (drop (8192 * (k * size)) bytes)

  part_length : (k : ℕ) → length (part k) ≡ min (8192 * size) (8192 * blocks - 8192 * (k * size))
  part_length k =
      length-take (8192 * size) (drop (8192 * (k * size)) bytes)
      ∙ ap (min (8192 * size)) (length-drop (8192 * (k * size)) bytes ∙ ap (λ (n : ℕ). n - 8192 * (k * size)) holds.whole)

  there : (k : ℕ) → k * size < blocks → len k ≡ length (part k) / 8192
  there k lt = ap blocks_in (holds.each k lt)

  full : (k : ℕ) → k * size + size ≤ blocks → len k ≡ size
  full k le = let l = part_length k in there k (omega (arith, le, some)) ∙ quotient size (length (part k)) (omega (arith, l, le))

  short : (k : ℕ) → k * size < blocks → blocks ≤ k * size + size → len k ≡ blocks - k * size
  short k lt le = let l = part_length k in there k lt ∙ quotient (blocks - k * size) (length (part k)) (omega (arith, l, lt, le))

  -- the last is that of the last block, or the one behind it
  abbrev last : ℕ
  last = blocks / size

  split : last * size + blocks % size ≡ blocks
  split = div-add-mod' blocks size

  rest : blocks % size < size
  rest = mod_below blocks size some

  len_last : len last ≡ blocks % size
  len_last = let s = split in let r = rest in elim (cases_lt (last * size) blocks) [
    | inl before ↦ short last before (omega (arith, s, r)) ∙ omega (arith, s)
    | inr at ↦ holds.behind last at ∙ omega (arith, s, at)
  ]

  before_last : (j : ℕ) → j < last → len j ≡ size
  before_last j lt =
      let le = mul-le-mul_right size lt in
      let s = split in
      full j (omega (arith, le, suc-mul j size, s))

  is_last : (limit : ℕ) → blocks ≤ limit → last_segment len size (limit / size) ≡ last
  is_last limit le =
      let s = split in
      let reach : last ≤ limit / size = (le-div_iff_mul-le {k = size} some).1 (omega (arith, s, le)) in
      last_unique len size (limit / size) last (record {
        above = omega arith;
        below = omega (arith, reach);
        full = λ j above below. before_last j below;
        ends = λ before same. let l = len_last in let r = rest in absurd (omega (arith, l, r, same));
      })

  -- The blocks

  pub count_held : (limit : ℕ) → blocks ≤ limit → blocks_of names base size limit ≡ blocks
  unfolding blocks_of
  count_held limit le =
      let l = len_last in
      let r = rest in
      let s = split in
      below-last len size (limit / size) ∙ ap (λ (j : ℕ). j * size + min (len j) size) (is_last limit le) ∙ omega (arith, l, r, s)

  pub none_long : (limit : ℕ) → blocks ≤ limit → long_segment_of names base size limit ≡ None
  unfolding long_segment_of long_at
  none_long limit le =
      let l = len_last in
      let r = rest in
      ap (λ (j : ℕ). if nat_lt size (len j) then Some j else None) (is_last limit le) ∙ cond-false _ _ _ (le-ltb size (len last) (omega (arith, l, r)))

  pub held_block : (b : ℕ) → b < blocks → block_of names base size b ≡ take 8192 (drop (8192 * b) bytes)
  unfolding block_of
  held_block b lt =
      let k = b / size in
      let p = b % size in
      let at = div-add-mod' b size in
      let within = mod_below b size some in
      let from = drop (8192 * (k * size)) bytes in
      let parts : 8192 * size ≡ 8192 * p + 8192 * (size - p) = omega (arith, within) in
      let place : 8192 * p + 8192 * (k * size) ≡ 8192 * b = omega (arith, at) in
      ap (λ (file : Option (List ℕ)). block_in file p) (holds.each k (omega (arith, at, lt)))
      ∙ ap (λ (n : ℕ). take 8192 (drop (8192 * p) (take n from))) parts
      ∙ ap (take 8192) (drop-take (8192 * p) (8192 * (size - p)) from)
      ∙ take-take 8192 (8192 * (size - p)) (drop (8192 * p) from) (omega (arith, within))
      ∙ ap (take 8192) (drop-drop (8192 * p) (8192 * (k * size)) bytes ∙ ap (λ (n : ℕ). drop n bytes) (omega (arith, at)))

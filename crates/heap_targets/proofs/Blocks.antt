-- The values of blocks, kept as bits: a value that is looked up, and a block that is added.
use Rattle.std.proofs.Common.{◌≡◌, ◌∙◌, ℕ, ◌+◌, ◌-◌, ◌*◌, ◌%◌, ◌^◌, ◌<◌, ◌≤◌, Bool, true, false, List, [], ◌∷◌, ◌++◌, length, get_or, map, refl, ap, sym, arith, inl, inr, zero, suc}
use Rattle.std.specs.Prelude.{◌&&◌, ◌==◌, nat_le, nat_lt}
use Rattle.std.specs.List.{range_with_len}
use Rattle.std.proofs.lemmas.Bool.{and_left, and_right, cases_lt, le-leb, le-ltb, lt-leb, lt-ltb}
use Rattle.std.proofs.lemmas.List.{get_or_append_left, length-append}
use Rattle.std.proofs.lemmas.List.FromFn.{get_or-map-range_with_len, length-map-range_with_len, map-range_with_len_more}
use Rattle.std.proofs.lemmas.Nat.Bits.{bit_at-zero}
use Rattle.std.proofs.Math.Seq.{get_or-append_seam}
use Rattle.key_orders.specs.declared.Tid.{Tid}
use Rattle.page_layout.specs.Page.{count_of}
use Rattle.page_layout.specs.Bits.{is_set}
use Rattle.heap_targets.specs.Packed.{AreSameStarts, IsPacked, blocks_of, count_in, end_of, values_between, values_in}
use Rattle.heap_targets.specs.Targets.{is_in, is_target, targets_on, values_of}

-- lists by functions that agree place by place
maps_agree : {X : Type 0} (f g : ℕ → X) (a b n : ℕ) → ((j : ℕ) → j < n → f (a + j) ≡ g (b + j))
    → map f (range_with_len a n) ≡ map g (range_with_len b n)
maps_agree f g a b zero agree = refl
maps_agree f g a b (suc n) agree =
    let a0 : a ≡ a + 0 = omega arith in
    let b0 : b + 0 ≡ b = omega arith in
    let first : f a ≡ g b = ap f a0 ∙ agree 0 (omega arith) ∙ ap g b0 in
    let rest : map f (range_with_len (a + 1) n) ≡ map g (range_with_len (b + 1) n) =
    maps_agree f g (a + 1) (b + 1) n (λ j h.
    let a1 : a + 1 + j ≡ a + (j + 1) = omega arith in
    let b1 : b + (j + 1) ≡ b + 1 + j = omega arith in
    ap f a1 ∙ agree (j + 1) (omega arith) ∙ ap g b1) in
    ap (λ x. x ∷ map f (range_with_len (a + 1) n)) first ∙ ap (λ xs. g b ∷ xs) rest

-- the same from place 0 on
below_agree : {X : Type 0} (f g : ℕ → X) (n : ℕ) → ((j : ℕ) → j < n → f j ≡ g j)
    → map f (range_with_len 0 n) ≡ map g (range_with_len 0 n)
below_agree f g n agree =
    maps_agree f g 0 0 n (λ j below. let e : 0 + j ≡ j = omega arith in ap f e ∙ agree j below ∙ ap g (sym e))

-- Looked up

all_hold : (a b c d e : Bool) → a ≡ true → b ≡ true → c ≡ true → d ≡ e → (a && b && c && d) ≡ e
all_hold a b c d e p q r s = rw (p, q, r) s

pub no_item : (set : List (List Bool)) (tid : Tid) → tid.item ≡ 0 → is_in set tid ≡ false
unfolding is_in
no_item set tid none =
    let first : nat_le 1 tid.item ≡ false = lt-leb 1 tid.item (omega arith) in
    and_left _ _ (and_left _ _ (and_right (nat_lt tid.block (length set)) (nat_le 1 tid.item) first))

pub length_blocks : (starts bits : List ℕ) → length (blocks_of starts bits) ≡ count_in starts
unfolding blocks_of
length_blocks starts bits = length-map-range_with_len (values_in starts bits) 0 (count_in starts)

pub no_block : (starts bits : List ℕ) (tid : Tid) → length starts ≤ tid.block + 1 → is_in (blocks_of starts bits) tid ≡ false
unfolding is_in
no_block starts bits tid past =
    let none : nat_lt tid.block (length (blocks_of starts bits)) ≡ false =
    le-ltb tid.block (length (blocks_of starts bits)) (omega (arith, length_blocks starts bits)) in
    and_left _ _ (and_left _ _ (and_left _ _ none))

values_at : (starts bits : List ℕ) (block : ℕ) → block + 1 < length starts
    → values_of (blocks_of starts bits) block ≡ values_in starts bits block
unfolding blocks_of
values_at starts bits block within =
    get_or-map-range_with_len (values_in starts bits) 0 (count_in starts) block block [] (omega arith) (omega arith)

length_at : (starts bits : List ℕ) (block : ℕ) → block + 1 < length starts
    → length (values_of (blocks_of starts bits) block) ≡ get_or starts (block + 1) 0 - get_or starts block 0
length_at starts bits block within =
    ap length (values_at starts bits block within) ∙ length-map-range_with_len (is_set bits) (get_or starts block 0) _

pub no_such_item : (starts bits : List ℕ) (tid : Tid) → tid.block + 1 < length starts → 1 ≤ tid.item
    → get_or starts (tid.block + 1) 0 < get_or starts tid.block 0 + tid.item → is_in (blocks_of starts bits) tid ≡ false
unfolding is_in
no_such_item starts bits tid within first past =
    let few : nat_le tid.item (length (values_of (blocks_of starts bits) tid.block)) ≡ false =
    lt-leb tid.item _ (omega (arith, length_at starts bits tid.block within, first, past)) in
    and_left _ _ (and_right _ _ few)

pub value_found : (starts bits : List ℕ) (tid : Tid) → tid.block + 1 < length starts → 1 ≤ tid.item
    → get_or starts tid.block 0 + tid.item ≤ get_or starts (tid.block + 1) 0
    → is_in (blocks_of starts bits) tid ≡ is_set bits (get_or starts tid.block 0 + tid.item - 1)
unfolding is_in
value_found starts bits tid within first last =
    let start = get_or starts tid.block 0 in
    let end = get_or starts (tid.block + 1) 0 in
    all_hold _ _ _ _ _
    (lt-ltb tid.block (length (blocks_of starts bits)) (omega (arith, length_blocks starts bits)))
    (le-leb 1 tid.item first)
    (le-leb tid.item _ (omega (arith, length_at starts bits tid.block within, last)))
    (ap (λ values. get_or values (tid.item - 1) false) (values_at starts bits tid.block within)
    ∙ get_or-map-range_with_len (is_set bits) start (end - start) (tid.item - 1) (start + tid.item - 1) false
    (omega arith) (omega arith))

-- A block is added

length_more : (starts : List ℕ) (e : ℕ) → length (starts ++ e ∷ []) ≡ length starts + 1
length_more starts e = length-append starts (e ∷ [])

new_end : (starts : List ℕ) (e : ℕ) → end_of (starts ++ e ∷ []) ≡ e
unfolding end_of
new_end starts e =
    let more = length_more starts e in
    let place : length (starts ++ e ∷ []) - 1 ≡ length starts = omega arith in
    ap (λ k. get_or (starts ++ e ∷ []) k 0) place ∙ get_or-append_seam starts e [] 0

-- each start is at most the end
abbrev AreOrdered : List ℕ → Type 0
AreOrdered starts = (k : ℕ) → k < length starts → get_or starts k 0 ≤ end_of starts

-- bits that agree up to the end of the last block
pub same_blocks : (starts bits new : List ℕ) → AreOrdered starts
    → ((p : ℕ) → p < end_of starts → is_set new p ≡ is_set bits p) → blocks_of starts new ≡ blocks_of starts bits
unfolding blocks_of
same_blocks starts bits new ordered agree =
    below_agree (values_in starts new) (values_in starts bits) (count_in starts) (λ block within.
    let start = get_or starts block 0 in
    maps_agree (is_set new) (is_set bits) start start (get_or starts (block + 1) 0 - start)
    (λ j below. agree (start + j) (omega (arith, ordered (block + 1) (omega arith), below))))

-- one start more is one block more
one_block_more : (starts bits : List ℕ) (e : ℕ) → 1 ≤ length starts
    → blocks_of (starts ++ e ∷ []) bits ≡ blocks_of starts bits ++ values_between bits (end_of starts) e ∷ []
unfolding blocks_of end_of
one_block_more starts bits e begun =
    let more = starts ++ e ∷ [] in
    let n = count_in starts in
    let start : (k : ℕ) → k < length starts → get_or more k 0 ≡ get_or starts k 0 =
    λ k within. get_or_append_left starts (e ∷ []) 0 k within in
    let before : (block : ℕ) → block < n → values_in more bits block ≡ values_in starts bits block = λ block within.
    ap (λ s. values_between bits s (get_or more (block + 1) 0)) (start block (omega arith))
    ∙ ap (values_between bits (get_or starts block 0)) (start (block + 1) (omega arith)) in
    let place : n + 1 ≡ length starts = omega arith in
    let last : values_in more bits n ≡ values_between bits (get_or starts n 0) e =
    ap (λ s. values_between bits s (get_or more (n + 1) 0)) (start n (omega arith))
    ∙ ap (λ k. values_between bits (get_or starts n 0) (get_or more k 0)) place
    ∙ ap (values_between bits (get_or starts n 0)) (get_or-append_seam starts e [] 0) in
    let count : count_in more ≡ n + 1 = omega (arith, length_more starts e) in
    ap (λ m. map (values_in more bits) (range_with_len 0 m)) count
    ∙ map-range_with_len_more (values_in more bits) 0 n n (omega arith)
    ∙ ap (λ blocks. blocks ++ values_in more bits n ∷ []) (below_agree (values_in more bits) (values_in starts bits) n before)
    ∙ ap (λ values. map (values_in starts bits) (range_with_len 0 n) ++ values ∷ []) last

-- the values of a page
page_values : (page bits : List ℕ) (start : ℕ)
    → ((j : ℕ) → j < count_of page → is_set bits (start + j) ≡ is_target page (1 + j))
    → values_between bits start (start + count_of page) ≡ targets_on page
page_values page bits start told =
    let count : start + count_of page - start ≡ count_of page = omega arith in
    ap (λ n. map (is_set bits) (range_with_len start n)) count
    ∙ maps_agree (is_set bits) (is_target page) start 1 (count_of page) told

-- What is true of each set stays true

packed_more : (starts bits new : List ℕ) (e : ℕ) → 1 ≤ length starts → count_in starts < 2 ^ 32 → IsPacked starts bits
    → end_of starts ≤ e
    → e ≤ end_of starts + 2042 → e ≤ 8 * length new → ((p : ℕ) → e ≤ p → is_set new p ≡ false)
    → IsPacked (starts ++ e ∷ []) new
packed_more starts bits new e begun short packed low high within clear =
    let last = new_end starts e in
    let one = length_more starts e in
    record {
      ordered = λ k below. elim (cases_lt k (length starts)) [
        | inl before ↦ omega (arith, last, packed.ordered k before, get_or_append_left starts (e ∷ []) 0 k before)
        | inr after ↦
            let there : k ≡ length starts = omega arith in
            omega (arith, last, ap (λ b. get_or (starts ++ e ∷ []) b 0) there, get_or-append_seam starts e [] 0)
      ];
      few = omega (arith, last, one, packed.few);
      short = omega (arith, one, short, begun);
      within = omega (arith, last);
      clear = λ p past. clear p (omega (arith, last));
    }

-- the bits of a page's targets, behind those of the blocks before
pub record HasTargets (start : ℕ) (bits new page : List ℕ) : Type 0 where
  pub room : start + count_of page ≤ 8 * length new
  pub before : (p : ℕ) → p < start → is_set new p ≡ is_set bits p
  pub items : (j : ℕ) → j < count_of page → is_set new (start + j) ≡ is_target page (1 + j)
  pub behind : (p : ℕ) → start + count_of page ≤ p → is_set new p ≡ false

pub packed_by_page : (starts bits new page : List ℕ) → 1 ≤ length starts → count_in starts < 2 ^ 32
    → IsPacked starts bits → count_of page ≤ 2042
    → HasTargets (end_of starts) bits new page → IsPacked (starts ++ (end_of starts + count_of page) ∷ []) new
packed_by_page starts bits new page begun short packed few has =
    packed_more starts bits new (end_of starts + count_of page) begun short packed (omega arith) (omega (arith, few)) has.room has.behind

pub block_by_page : (starts bits new page : List ℕ) → 1 ≤ length starts → IsPacked starts bits
    → HasTargets (end_of starts) bits new page
    → blocks_of (starts ++ (end_of starts + count_of page) ∷ []) new ≡ blocks_of starts bits ++ targets_on page ∷ []
block_by_page starts bits new page begun packed has =
    one_block_more starts new (end_of starts + count_of page) begun
    ∙ ap (λ blocks. blocks ++ values_between new (end_of starts) (end_of starts + count_of page) ∷ [])
    (same_blocks starts bits new packed.ordered has.before)
    ∙ ap (λ values. blocks_of starts bits ++ values ∷ []) (page_values page new (end_of starts) has.items)

-- The first set

-- no bit is set where there are none
no_bits : (p : ℕ) → is_set [] p ≡ false
unfolding is_set
no_bits p = ap (λ b. b == 1) (bit_at-zero (p % 8))

no_end : end_of [] ≡ 0
unfolding end_of
no_end = refl

pub packed_empty : (starts bits : List ℕ) → starts ≡ [] → bits ≡ [] → IsPacked starts bits
packed_empty starts bits none empty = rw (none, empty) record {
  ordered = λ block below. absurd (omega arith);
  few = omega (arith, no_end);
  short = omega arith;
  within = omega (arith, no_end);
  clear = λ p past. no_bits p;
}

pub no_blocks : (starts bits : List ℕ) → starts ≡ [] → blocks_of starts bits ≡ []
unfolding blocks_of
no_blocks starts bits none = rw none refl

-- a start of block 0 that no block follows
one_start : AreSameStarts [] (0 ∷ [])
unfolding blocks_of end_of
one_start = record {
  count = refl;
  blocks = λ bits. refl;
  packed = λ bits packed. record {
    ordered = λ k below. let first : k ≡ 0 = omega arith in rw first (omega arith);
    few = packed.few;
    short = omega arith;
    within = packed.within;
    clear = packed.clear;
  };
}

pub begun_starts : (starts new : List ℕ) → length starts ≡ 0 → new ≡ starts ++ 0 ∷ [] → AreSameStarts starts new
begun_starts [] new none one = rw one one_start
begun_starts (x ∷ xs) new none one = absurd (omega arith)

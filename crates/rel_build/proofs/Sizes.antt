-- How long tuples are.
use Rattle.std.proofs.Common.{◌≡◌, ◌≤◌, ◌+◌, ◌-◌, ◌*◌, ℕ, zero, suc, List, [], ◌∷◌, length, Option, Some, None, true, false, refl, arith}
use Rattle.std.proofs.lemmas.Bool.{cond-false, cond-true}
use Rattle.page_layout.specs.Page.{max_align}
use Rattle.page_layout.specs.Writes.{block_bytes, u16_bytes, u32_bytes}
use Rattle.key_orders.specs.declared.Tid.{Tid}
use Rattle.rel_build.specs.declared.rows.Row.{Row}
use Rattle.rel_build.specs.declared.trees.Key.{Key}
use Rattle.rel_build.specs.declared.trees.Key.TheVariants.{Id, Group}
use Rattle.page_write.specs.Pages.{zeros}
use Rattle.rel_build.specs.Rows.{row_body, row_head, row_tuple}
use Rattle.rel_build.specs.Trees.{high_keys, is_last, key_bytes, leaf_item, root_item, row_at, separator_before, separator_item, tid_between}
use Rattle.page_write.specs.Tuples.{fixed_width, heap_head_bytes, heap_tuple, index_head_bytes, kept_tid_bytes, padded_body, pivot_tuple, plain_tuple, tid_bytes, tid_room}

pub length_row : (row : Row) → length (row_tuple row) ≡ 36
unfolding row_tuple heap_tuple row_head row_body heap_head_bytes block_bytes u16_bytes u32_bytes zeros
length_row row = refl

pub length_leaf_item : (key : Key) (row : Row) → length (leaf_item key row) ≡ 16
unfolding leaf_item plain_tuple index_head_bytes block_bytes u16_bytes padded_body key_bytes zeros
length_leaf_item Id row = refl
length_leaf_item Group row = refl

-- a pivot with one value, of 8 or of 4 bytes
length_pivot : (key : Key) (row : Row) (down : ℕ) (tid : Option Tid)
    → length (pivot_tuple down 1 tid fixed_width (key_bytes key row)) ≡ 16 + tid_room tid
unfolding pivot_tuple index_head_bytes block_bytes u16_bytes padded_body kept_tid_bytes tid_bytes key_bytes zeros
length_pivot Id row down None = refl
length_pivot Id row down (Some tid) = refl
length_pivot Group row down None = refl
length_pivot Group row down (Some tid) = refl

few_bytes : (tid : Option Tid) → tid_room tid ≤ 8
few_bytes None = omega arith
few_bytes (Some tid) = omega arith

pub length_separator : (key : Key) (down : ℕ) (left right : Row) → length (separator_item key down left right) ≤ 24
unfolding separator_item
length_separator key down left right =
    let a = length_pivot key right down (tid_between key left right) in
    let b = few_bytes (tid_between key left right) in
    omega (arith, a, b)

length_first : length (pivot_tuple 1 0 None fixed_width []) ≡ 8
unfolding pivot_tuple index_head_bytes block_bytes u16_bytes padded_body kept_tid_bytes zeros
length_first = refl

pub length_root_item : (key : Key) (rows : List Row) (k : ℕ) → length (root_item key rows k) ≤ 24
unfolding root_item
length_root_item key rows zero = let a = length_first in omega (arith, a)
length_root_item key rows (suc k) =
    length_separator key (suc k + 1) (row_at rows (300 * suc k - 1)) (row_at rows (300 * suc k))

-- the item of the first leaf, and that of any other
pub root_first : (key : Key) (rows : List Row) (k : ℕ) → k ≡ 0 → root_item key rows k ≡ pivot_tuple 1 0 None fixed_width []
unfolding root_item
root_first key rows zero e = refl
root_first key rows (suc k) e = absurd (omega (arith, e))

pub root_later : (key : Key) (rows : List Row) (k : ℕ) → 1 ≤ k → root_item key rows k ≡ separator_before key rows (k + 1) k
unfolding root_item
root_later key rows zero low = absurd (omega (arith, low))
root_later key rows (suc k) low = refl

-- what an item takes on a page
pub room_within : (len most : ℕ) → len ≤ 8 * most → max_align len ≤ 8 * most
room_within len most few = omega (arith, few)

pub high_none : (key : Key) (rows : List Row) (k : ℕ) → is_last rows k ≡ true → high_keys key rows k ≡ []
unfolding high_keys
high_none key rows k e = cond-true _ _ _ e

pub high_some : (key : Key) (rows : List Row) (k : ℕ) → is_last rows k ≡ false → high_keys key rows k ≡ separator_before key rows 0 (k + 1) ∷ []
unfolding high_keys
high_some key rows k e = cond-false _ _ _ e

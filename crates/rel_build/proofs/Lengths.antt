-- How long the built files are.
use Rattle.std.proofs.Common.{◌≡◌, ◌≤◌, ◌<◌, ◌+◌, ◌-◌, ◌*◌, ℕ, zero, suc, List, [], ◌∷◌, ◌++◌, length, map, drop, Bool, true, false, nat_le, cond, refl, ap, ◌∙◌, arith}
use Rattle.std.proofs.Math.Nat.{mul-suc}
use Rattle.std.proofs.lemmas.List.Sorted.{length_permutation}
use Rattle.rel_build.proofs.Entries.{each_once}
use Rattle.std.proofs.lemmas.List.Sums.{sum_by-append}
use Rattle.std.proofs.lemmas.List.{length-append, length-map, length-take}
use Rattle.outside.specs.Adds.{each_below, one_list}
use Rattle.rel_build.specs.declared.rows.Row.{Row}
use Rattle.rel_build.specs.declared.trees.Key.{Key}
use Rattle.page_write.specs.Pages.{meta_page, opaque_bytes, room_for, room_of, tree_page}
use Rattle.rel_build.specs.Rows.{pages_for, part_of, row_tuple, rows_below, table_file, table_page}
use Rattle.rel_build.specs.Trees.{has_upper_root, high_keys, in_order, index_file, is_last, leaf_item, leaf_items, leaf_page, leaf_pages, leaf_special, leaves_for, root_item, root_items, root_items_below, root_pages, root_special, row_at, separator_before, tree_blocks, tree_meta, tree_with}
use Rattle.page_write.proofs.Laying.{length_opaque, room-cons, room-none}
use Rattle.rel_build.proofs.Parts.{length_rows}
use Rattle.page_write.proofs.Reading.{length_meta_page, length_page}
use Rattle.rel_build.proofs.Sizes.{length_leaf_item, length_root_item, length_row, length_separator}

mul_step : (all one rest most n : ℕ) → all ≡ one + rest → rest ≤ most * n → one ≤ most → all ≤ most * suc n
mul_step all one rest most n a b c = let m = mul-suc most n in omega (arith, a, b, c, m)

-- what items of at most so many bytes take
room_most : {X : Type 0} (f : X → List ℕ) (most : ℕ) (xs : List X) → ((x : X) → room_of (f x) ≤ most) → room_for (map f xs) ≤ most * length xs
room_most f most [] each = let a = room-none in omega (arith, a)
room_most f most (x ∷ xs) each =
    let a = room-cons (f x) (map f xs) in
    let b = room_most f most xs each in
    let c = each x in
    mul_step (room_for (f x ∷ map f xs)) (room_of (f x)) (room_for (map f xs)) most (length xs) a b c

-- pages of 8192 bytes
length_pages : (f : ℕ → List ℕ) (n : ℕ) → ((k : ℕ) → k < n → length (f k) ≡ 8192) → length (each_below one_list f n) ≡ 8192 * n
unfolding each_below
length_pages f zero each = refl
length_pages f (suc n) each =
    let a = length-append (each_below one_list f n) (f n) in
    let b = length_pages f n (λ k lt. each k (omega arith)) in
    let c = each n (omega arith) in
    omega (arith, a, b, c)

length_part : (each : ℕ) (rows : List Row) (k : ℕ) → length (part_of each rows k) ≤ each
length_part each rows k = let a = length-take each (drop (each * k) rows) in omega (arith, a)

length_table_page : (rows : List Row) (k : ℕ) → length (table_page rows k) ≡ 8192
length_table_page rows k =
    let part = part_of 185 rows k in
    let few = length_part 185 rows k in
    let room = room_most row_tuple 40 part (λ row. let a = length_row row in omega (arith, a)) in
    let count = length-map part row_tuple in
    length_page 8192 (map row_tuple part) [] (omega (arith, few, room, count))

pub length_table : (seed count : ℕ) → count ≤ 20000 → length (table_file (rows_below seed count)) ≡ 8192 * pages_for 185 count
unfolding table_file
length_table seed count few =
    let n = length_rows seed count in
    length_pages (table_page (rows_below seed count)) (pages_for 185 (length (rows_below seed count))) (λ k lt. length_table_page (rows_below seed count) k)
    ∙ ap (λ (n : ℕ). 8192 * pages_for 185 n) n

-- what the items of a leaf take
room-append : (xs ys : List (List ℕ)) → room_for (xs ++ ys) ≡ room_for xs + room_for ys
unfolding room_for
room-append xs ys = sum_by-append room_of xs ys

-- a leaf has at most one high key, of at most 24 bytes
few_of : (last : Bool) (item : List ℕ) → length item ≤ 24
    → (length (cond last [] (item ∷ [])) ≤ 1) × (room_for (cond last [] (item ∷ [])) ≤ 24)
few_of true item few = (omega arith, let a = room-none in omega (arith, a))
few_of false item few = (omega arith, let a = room-cons item [] in let b = room-none in omega (arith, a, b, few))

few_high : (key : Key) (rows : List Row) (k : ℕ) → (length (high_keys key rows k) ≤ 1) × (room_for (high_keys key rows k) ≤ 24)
unfolding high_keys
few_high key rows k = few_of (is_last rows k) (separator_before key rows 0 (k + 1))
    (length_separator key 0 (row_at rows (300 * (k + 1) - 1)) (row_at rows (300 * (k + 1))))

length_leaf : (key : Key) (rows : List Row) (k : ℕ) → length (leaf_page key rows k) ≡ 8192
length_leaf key rows k =
    let part = part_of 300 rows k in
    let few = length_part 300 rows k in
    let room = room_most (leaf_item key) 16 part (λ row. let a = length_leaf_item key row in omega (arith, a)) in
    let count = length-map part (leaf_item key) in
    let high = few_high key rows k in
    let all = room-append (high_keys key rows k) (map (leaf_item key) part) in
    let both = length-append (high_keys key rows k) (map (leaf_item key) part) in
    let tail = length_opaque (leaf_special rows k) in
    length_page 8176 (leaf_items key rows k) (opaque_bytes (leaf_special rows k)) (omega (arith, few, room, count, high.0, high.1, all, both))
    ∙ omega (arith, tail)

length_leaves : (key : Key) (rows : List Row) → length (leaf_pages key rows) ≡ 8192 * leaves_for rows
unfolding leaf_pages
length_leaves key rows = length_pages (leaf_page key rows) (leaves_for rows) (λ k lt. length_leaf key rows k)

root_room : (key : Key) (rows : List Row) (n : ℕ) → (length (root_items_below key rows n) ≡ n) × (room_for (root_items_below key rows n) ≤ 24 * n)
unfolding each_below
root_room key rows zero = (refl, let a = room-none in omega (arith, a))
root_room key rows (suc n) =
    let before = root_room key rows n in
    let item : List ℕ = root_item key rows n in
    let a = length-append (root_items_below key rows n) (item ∷ []) in
    let b = room-append (root_items_below key rows n) (item ∷ []) in
    let c = room-cons item [] in
    let d = room-none in
    let e = length_root_item key rows n in
    (omega (arith, a, before.0), omega (arith, b, c, d, e, before.1))

root_of : (upper : Bool) (page : List ℕ) → length page ≡ 8192 → length (cond upper page []) ≡ cond upper 8192 0
root_of true page e = e
root_of false page e = refl

length_root : (key : Key) (rows : List Row) → length rows ≤ 20000 → length (root_pages key rows) ≡ cond (has_upper_root rows) 8192 0
unfolding root_pages root_items
length_root key rows few = root_of (has_upper_root rows) (tree_page (root_items_below key rows (leaves_for rows)) root_special)
    (let room = root_room key rows (leaves_for rows) in
    let tail = length_opaque root_special in
    length_page 8176 (root_items_below key rows (leaves_for rows)) (opaque_bytes root_special) (omega (arith, few, room.0, room.1)) ∙ omega (arith, tail))

-- the blocks of so many leaves
abbrev blocks_for : ℕ → ℕ
blocks_for leaves = cond (nat_le 2 leaves) (leaves + 1) leaves + 1

of_root : (upper : Bool) (leaves : ℕ) → 8192 * (cond upper (leaves + 1) leaves + 1) ≡ 8192 + 8192 * leaves + cond upper 8192 0
of_root true leaves = omega arith
of_root false leaves = omega arith

root_is : (rows : List Row) → 8192 * tree_blocks rows ≡ 8192 + 8192 * leaves_for rows + cond (has_upper_root rows) 8192 0
root_is rows = of_root (has_upper_root rows) (leaves_for rows)

pub length_index : (key : Key) (seed count : ℕ) → count ≤ 20000 → length (index_file key (rows_below seed count)) ≡ 8192 * tree_blocks (rows_below seed count)
unfolding tree_with
length_index key seed count few =
    let rows = rows_below seed count in
    let all = in_order key rows in
    let n = length_rows seed count in
    let same : length all ≡ length rows = length_permutation rows all (each_once key seed count) in
    let a = length-append (meta_page (tree_meta all) ++ leaf_pages key all) (root_pages key all) in
    let b = length-append (meta_page (tree_meta all)) (leaf_pages key all) in
    let c = length_meta_page (tree_meta all) in
    let d = length_leaves key all in
    let e = length_root key all (omega (arith, same, n, few)) in
    let blocks : tree_blocks all ≡ tree_blocks rows = ap (λ (k : ℕ). blocks_for (pages_for 300 k)) same in
    let whole : length (meta_page (tree_meta all) ++ leaf_pages key all ++ root_pages key all) ≡ 8192 * tree_blocks all =
    let f = root_is all in omega (arith, a, b, c, d, e, f) in
    whole ∙ ap (λ (k : ℕ). 8192 * k) blocks

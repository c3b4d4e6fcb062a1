-- How often files are read, in numbers: for one range more, for more blocks, and for all indexes.
use Rattle.std.proofs.Common.{◌≡◌, ◌∙◌, ◌+◌, ◌-◌, ◌*◌, ◌≤◌, ◌<◌, ℕ, List, [], ◌∷◌, get_or, length, map, refl, sym, ap, arith, mul-add, mul-one, add-mul, mul-le-mul_left, mul-le-mul_right}
use Rattle.std.specs.Prelude.{All, sum_by, take}
use Rattle.std.proofs.lemmas.List.{length-append, length-map}
use Rattle.std.proofs.Math.ListN.{get_or-map}
use Rattle.std.proofs.lemmas.List.Sums.{sum_by-cons, sum_by-le-sum_by, sum_by_more}
use Rattle.outside.specs.Outside.{Names}
use Rattle.bt_levels.specs.declared.sound.SoundTree.{SoundTree}
use Rattle.bt_levels.specs.Sound.{block_count}
use Rattle.case_file.specs.Record.{CaseRecord}
use Rattle.heap_table_check.specs.declared.files.SoundHeap.{SoundHeap}
use Rattle.heap_rows.specs.Reads.{page_reads}
use Rattle.join_look_ups.specs.Looking.{look_length}
use Rattle.join_look_ups.specs.Rows.{rows_from}
use Rattle.join_look_ups.proofs.Owed.{rows-more}
use Rattle.join_row_keys.specs.declared.keys.KeyedHeap.{KeyedHeap}
use Rattle.heap_indexed.specs.declared.work.IndexWork.{IndexWork}
use Rattle.heap_indexed.specs.Reads.{all_rounds, rounds_reads}
use Rattle.heap_indexed.specs.Works.{indexes_of, tree_of, IsOf}
use Rattle.std.proofs.lemmas.List.Elements.{All-head, All-tail}

-- Rows of blocks

rows-sum : (case : CaseRecord) (names : Names) (first n m : ℕ) → length (rows_from case names first (n + m)) ≡ length (rows_from case names first n) + length (rows_from case names (first + n) m)
rows-sum case names first n m = ap length (rows-more case names first n m) ∙ length-append (rows_from case names first n) (rows_from case names (first + n) m)

rows-all-more : (case : CaseRecord) (names : Names) (first n m : ℕ) → n ≤ m → length (rows_from case names first n) ≤ length (rows_from case names first m)
rows-all-more case names first n m le =
    let is : n + (m - n) ≡ m = omega (arith, le) in
    let sum = rows-sum case names first n (m - n) in
    let whole = ap (λ (k : ℕ). length (rows_from case names first k)) is in
    omega (arith, sum, whole)

-- For one index

pub rounds-more : (names : Names) (case : CaseRecord) (heap : SoundHeap) (columns r s first n m : ℕ) (tree : SoundTree) → r ≤ s → n ≤ m → rounds_reads names case heap columns r first n tree ≤ rounds_reads names case heap columns s first m tree
unfolding rounds_reads
rounds-more names case heap columns r s first n m tree ranges blocks =
    let a = mul-le-mul_left (block_count tree * 2) ranges in
    let b = mul-le-mul_left (page_reads heap columns) blocks in
    let d : length (rows_from case names first n) * look_length names tree ≤ length (rows_from case names first m) * look_length names tree =
    mul-le-mul_right (look_length names tree) (rows-all-more case names first n m blocks) in
    omega (arith, a, b, d)

-- the blocks before one in some ranges, and one range more
pub rounds-next : (names : Names) (case : CaseRecord) (heap : SoundHeap) (columns r n m : ℕ) (tree : SoundTree) → n ≤ m
    → rounds_reads names case heap columns r 0 n tree + rounds_reads names case heap columns 1 n (m - n) tree ≡ rounds_reads names case heap columns (r + 1) 0 m tree
unfolding rounds_reads
rounds-next names case heap columns r n m tree le =
    let is : n + (m - n) ≡ m = omega (arith, le) in
    let i = block_count tree * 2 in
    let p = page_reads heap columns in
    let l = look_length names tree in
    let a = length (rows_from case names 0 n) in
    let b = length (rows_from case names n (m - n)) in
    let ranges : i * (r + 1) ≡ i * r + i * 1 = mul-add i r 1 in
    let blocks : p * m ≡ p * n + p * (m - n) = sym (ap (λ (k : ℕ). p * k) is) ∙ mul-add p n (m - n) in
    let rows : length (rows_from case names 0 m) ≡ a + b = sym (ap (λ (k : ℕ). length (rows_from case names 0 k)) is) ∙ rows-sum case names 0 n (m - n) ∙ ap (λ (k : ℕ). a + length (rows_from case names k (m - n))) (zero-first n) in
    let looks : length (rows_from case names 0 m) * l ≡ a * l + b * l = ap (λ (k : ℕ). k * l) rows ∙ add-mul a b l in
    omega (arith, ranges, blocks, looks)
  where
    zero-first : (n : ℕ) → 0 + n ≡ n
    zero-first n = omega arith

-- For all

sum-both : {X : Type 0} (f g : X → ℕ) (xs : List X) → sum_by f xs + sum_by g xs ≡ sum_by (λ x. f x + g x) xs
sum-both f g [] = refl
sum-both f g (x ∷ xs) =
    let a = sum_by-cons f x xs in
    let b = sum_by-cons g x xs in
    let d = sum_by-cons (λ x. f x + g x) x xs in
    let rest = sum-both f g xs in
    omega (arith, a, b, d, rest)

pub sum-mapped : {X Y : Type 0} (f : Y → ℕ) (h : X → Y) (xs : List X) → sum_by f (map h xs) ≡ sum_by (λ x. f (h x)) xs
sum-mapped f h [] = refl
sum-mapped f h (x ∷ xs) =
    let a = sum_by-cons f (h x) (map h xs) in
    let b = sum_by-cons (λ x. f (h x)) x xs in
    let rest = sum-mapped f h xs in
    omega (arith, a, b, rest)

pub all-more : (names : Names) (case : CaseRecord) (heap : SoundHeap) (columns r s first n m : ℕ) (indexes : List KeyedHeap) → r ≤ s → n ≤ m
    → all_rounds names case heap columns r first n indexes ≤ all_rounds names case heap columns s first m indexes
all-more names case heap columns r s first n m indexes ranges blocks =
    sum_by-le-sum_by (λ (i : KeyedHeap). rounds_reads names case heap columns r first n i.at.tree.now) (λ (i : KeyedHeap). rounds_reads names case heap columns s first m i.at.tree.now) indexes
    (λ (i : KeyedHeap). rounds-more names case heap columns r s first n m i.at.tree.now ranges blocks)

pub all-next : (names : Names) (case : CaseRecord) (heap : SoundHeap) (columns r n m : ℕ) (indexes : List KeyedHeap) → n ≤ m
    → all_rounds names case heap columns r 0 n indexes + all_rounds names case heap columns 1 n (m - n) indexes ≡ all_rounds names case heap columns (r + 1) 0 m indexes
all-next names case heap columns r n m indexes le =
    sum-both (λ (i : KeyedHeap). rounds_reads names case heap columns r 0 n i.at.tree.now) (λ (i : KeyedHeap). rounds_reads names case heap columns 1 n (m - n) i.at.tree.now) indexes
    ∙ (λ i. sum_by (λ (x : KeyedHeap). rounds-next names case heap columns r n m x.at.tree.now le i) indexes)

-- those before an index, and that index
pub one-index : (f : SoundTree → ℕ) (start works : List IndexWork) (j : ℕ) (d : IndexWork) → indexes_of works ≡ indexes_of start → j < length works
    → sum_by (λ (i : KeyedHeap). f i.at.tree.now) (take (j + 1) (indexes_of start)) ≡ sum_by (λ (i : KeyedHeap). f i.at.tree.now) (take j (indexes_of start)) + f (tree_of (get_or works j d))
one-index f start works j d same lt =
    let own : IndexWork → KeyedHeap = λ (w : IndexWork). w.index in
    let g : KeyedHeap → ℕ = λ (i : KeyedHeap). f i.at.tree.now in
    let within : j < length (indexes_of works) = omega (arith, lt, length-map works own) in
    ap (λ (is : List KeyedHeap). sum_by g (take (j + 1) is)) (sym same)
    ∙ sum_by_more g (indexes_of works) j d.index within
    ∙ (λ i. sum_by g (take j (same i)) + g (get_or-map own works j d i))

-- one range, in numbers
pub rounds-one : (names : Names) (case : CaseRecord) (heap : SoundHeap) (columns first n : ℕ) (tree : SoundTree)
    → rounds_reads names case heap columns 1 first n tree ≡ block_count tree * 2 + page_reads heap columns * n + length (rows_from case names first n) * look_length names tree
unfolding rounds_reads
rounds-one names case heap columns first n tree = omega arith

pub times-next : (p k : ℕ) → p * k + p ≡ p * (k + 1)
times-next p k =
    let all = mul-add p k 1 in
    let one = mul-one p in
    omega (arith, all, one)

pub pages-next : (p n m : ℕ) → n ≤ m → p * n + p * (m - n) ≡ p * m
pages-next p n m le =
    let is : n + (m - n) ≡ m = omega (arith, le) in
    sym (mul-add p n (m - n)) ∙ ap (λ (k : ℕ). p * k) is

-- indexes of one heap
pub heaps-are : (f : SoundHeap → SoundTree → ℕ) (case : CaseRecord) (heap : SoundHeap) (works : List IndexWork) → All (λ (w : IndexWork). IsOf case heap w.index) works
    → sum_by (λ (w : IndexWork). f w.index.at.heap.now (tree_of w)) works ≡ sum_by (λ (w : IndexWork). f heap (tree_of w)) works
heaps-are f case heap [] each = refl
heaps-are f case heap (w ∷ works) each =
    let a = sum_by-cons (λ (w : IndexWork). f w.index.at.heap.now (tree_of w)) w works in
    let b = sum_by-cons (λ (w : IndexWork). f heap (tree_of w)) w works in
    let here = ap (λ (h : SoundHeap). f h (tree_of w)) (All-head (λ (w : IndexWork). IsOf case heap w.index) w works each).heap_is in
    let rest = heaps-are f case heap works (All-tail (λ (w : IndexWork). IsOf case heap w.index) w works each) in
    omega (arith, a, b, here, rest)

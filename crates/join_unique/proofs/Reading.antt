-- How often files are read: a cursor of the same heap reads as often, and calls one after another.
use Rattle.std.proofs.lemmas.Grind.{common_steps}
use Rattle.std.proofs.Common.{◌≡◌, ◌∙◌, ◌+◌, ◌*◌, ◌≤◌, ◌<◌, ℕ, List, [], length, sym, subst, ap, ◌-◌, arith, add-zero, zero-add, mul-zero, mul-one, mul-add, mul_assoc, mul-le-mul_left}
use Rattle.std.specs.Prelude.{Option, Some, Result, Ok, IsErrOf}
use Rattle.outside.specs.Outside.{AskedWithin, Names, Rose, Seen, failed}
use Rattle.outside.specs.declared.files.Failed.{Failed}
use Rattle.laws_search.specs.Keys.{Entry}
use Rattle.laws_search.specs.Search.{Answers, search_start}
use Rattle.laws_search.specs.Spots.{rest_of, yielded_of}
use Rattle.key_orders.specs.declared.columns.Value.{Value}
use Rattle.key_orders.specs.declared.Tid.{Tid}
use Rattle.key_orders.specs.Scans.{Bounds}
use Rattle.bt_levels.specs.declared.sound.SoundTree.{SoundTree}
use Rattle.bt_levels.specs.Sound.{block_count, image_of, index_columns}
use Rattle.bt_steps.specs.Pages.{is_killed}
use Rattle.bt_search.specs.Spots.{rest_from, scan_on}
use Rattle.heap_rows.specs.declared.row_cursor.RowCursor.{RowCursor}
use Rattle.join_row_keys.specs.Rows.{columns_in}
use Rattle.join_row_keys.specs.declared.joined.IndexedHeap.{IndexedHeap}
use Rattle.join_unique.specs.Reads.{key_page_reads}
use Rattle.heap_rows.specs.Reads.{block_reads, chunk_reads, columns_at, most_block_reads, next_reads, page_reads, value_reads, way_reads}
use Rattle.heap_rows.specs.RowValues.{count_asked}
use Rattle.heap_rows.specs.declared.row_values.AskedColumns.{AskedColumns}
use Rattle.heap_rows.specs.declared.row_values.AskedColumns.TheVariants as asked
use Rattle.heap_table_check.specs.Files.{heap_in, toast_in}
use Rattle.rel_files.specs.Relation.{count_of}
use Rattle.join_row_keys.proofs.Places.{same-then}
use Rattle.heap_rows.proofs.ReadLaws.{block-most, most-same, value-same}
use Rattle.heap_rows.specs.RowCursor.{AreAsked, IsSameCursor, asked_at, case_at, heap_at}

-- as many reads, said otherwise
pub as-many : {T E : Type 0} {m n : ℕ} {a b : Seen} {r : Result T E} {f : E} → m ≡ n → AskedWithin (Some m) a b r f → AskedWithin (Some n) a b r f
as-many {a = a} {b = b} {r = r} {f = f} is h = subst (λ (k : ℕ). AskedWithin (Some k) a b r f) is h

-- no read yet
pub none-read : (n : ℕ) {a : Seen} → AskedWithin {T = Failed} {E = Failed} (Some (n * 0)) a a (Ok failed) failed
none-read n {a} = let zero = mul-zero n in grind (arith, common_steps)

-- calls that went well, and whatever ends them without another
pub passed-as : {T E : Type 0} {n : ℕ} {a b : Seen} {r : Result T E} {f : E} → (IsErrOf r f → Rose a.faults b.faults) → AskedWithin {T = Failed} {E = Failed} (Some n) a b (Ok failed) failed → AskedWithin (Some n) a b r f
passed-as caused h = record { same = h.same; later = h.later; onward = h.onward; caused = caused; through = h.through; most = h.most }

pub passed-of : {T E : Type 0} {n : ℕ} {a b : Seen} {x : T} {f : E} → AskedWithin (Some n) a b (Ok x) f → AskedWithin {T = Failed} {E = Failed} (Some n) a b (Ok failed) failed
passed-of h = grind (arith, common_steps)

-- calls, and how often they read
pub read-asked : {T E : Type 0} {m : Option ℕ} {n : ℕ} {a b : Seen} {r : Result T E} {f : E} → b.reads ≤ a.reads + n → AskedWithin m a b r f → AskedWithin (Some n) a b r f
read-asked le h = record { same = h.same; later = h.later; onward = h.onward; caused = h.caused; through = h.through; most = le }

-- two for each of so many
pub doubled : (p n : ℕ) → p * 2 * n ≡ p * (2 * n)
doubled p n = mul_assoc p 2 n

pub taken-most : (p n m : ℕ) → n ≤ m → p * 2 * n ≤ p * (2 * m)
taken-most p n m le =
    let same = doubled p n in
    let more : p * (2 * n) ≤ p * (2 * m) = mul-le-mul_left p (mul-le-mul_left 2 le) in
    omega (arith, same, more)

pub one-more : (p n : ℕ) → p * 2 * n + p * 2 ≡ p * (2 * (n + 1))
one-more p n =
    let all = mul_assoc p 2 (n + 1) in
    let next = mul-add (p * 2) n 1 in
    let one = mul-one (p * 2) in
    omega (arith, all, next, one)

pub walk-twice : (p n m : ℕ) → p * (2 * (n + m)) ≡ p * (2 * n) + p * (2 * m)
walk-twice p n m = ap (λ (k : ℕ). p * k) (mul-add 2 n m) ∙ mul-add p (2 * n) (2 * m)

-- of a whole walk: reads of the index so far, and two pages for each of the entries that were taken before and now
pub walk-most : (v b p n m y : ℕ) → v ≤ b → n + m ≤ y → v + p * (2 * n) + p * (2 * m) ≤ b + p * (2 * y)
walk-most v b p n m y le few =
    let all = walk-twice p n m in
    let more : p * (2 * (n + m)) ≤ p * (2 * y) = mul-le-mul_left p (mul-le-mul_left 2 few) in
    omega (arith, le, all, more)

-- what is left where a search begins is what it answers
pub yields-all : (names : Names) (tree : SoundTree) (bounds : Bounds) (es : List (Entry Value Tid)) → Answers is_killed (image_of names tree) (scan_on tree bounds) (block_count tree) es
    → rest_from names tree bounds (search_start (image_of names tree)) ≡ es
unfolding rest_of
yields-all names tree bounds es h = ap yielded_of h

-- The roots of all rows

-- for the next row, where no column is asked for
pub way-none : (old new : RowCursor) (n : ℕ) → IsSameCursor old new → value_reads old ≡ 0 → way_reads new n ≡ most_block_reads (heap_at old) * n
unfolding way_reads
way-none old new n same none =
    let values = value-same old new same ∙ none in
    (λ i. values i + (most_block_reads (same.heap i) + values i) * n) ∙ (zero-add _ ∙ ap (λ (k : ℕ). k * n) (add-zero (most_block_reads (heap_at old))))

pub way-next : (p m n : ℕ) → m ≤ n → p * m + p * (n - m) ≡ p * n
way-next p m n le =
    let all : p * (m + (n - m)) ≡ p * m + p * (n - m) = mul-add p m (n - m) in
    let is : m + (n - m) ≡ n = omega (arith, le) in
    sym all ∙ ap (λ (k : ℕ). p * k) is

pub way-last : (p m n k : ℕ) → m ≤ n → n ≤ k → p * m + p * (n - m + 1) ≤ p * (k + 1)
way-last p m n k le few =
    let all : p * (m + (n - m + 1)) ≡ p * m + p * (n - m + 1) = mul-add p m (n - m + 1) in
    let more : p * (m + (n - m + 1)) ≤ p * (k + 1) = mul-le-mul_left p (omega (arith, le, few)) in
    omega (arith, all, more)

-- columns that are asked for by their numbers
pub columns-asked : (k : ℕ) (numbers : List ℕ) (asked : AskedColumns) → AreAsked numbers asked → count_asked k asked ≡ length numbers
columns-asked k numbers asked.All none = absurd none
columns-asked k numbers (asked.Only held) are = ap length are

-- where none is, no value is read
pub no-values : (cursor : RowCursor) (numbers : List ℕ) → AreAsked numbers (asked_at cursor) → numbers ≡ [] → value_reads cursor ≡ 0
unfolding next_reads
no-values cursor numbers are none =
    let columns : columns_at cursor ≡ 0 = columns-asked (length (case_at cursor).columns) numbers (asked_at cursor) are ∙ ap length none in
    let zero = mul-zero (chunk_reads (toast_in (heap_at cursor))) in
    ap (λ (n : ℕ). chunk_reads (toast_in (heap_at cursor)) * n * 2042) columns ∙ ap (λ (n : ℕ). n * 2042) zero

-- one page more, behind those of a walk
pub group-sum : (blocks p n : ℕ) → blocks + p * (2 * n) + p ≡ blocks + p * (2 * n + 1)
group-sum blocks p n =
    let all = mul-add p (2 * n) 1 in
    let one = mul-one p in
    omega (arith, all, one)

-- a cursor over the heap of an index that is asked for its columns
pub key-page : (at : IndexedHeap) (cursor : RowCursor) (numbers : List ℕ) → heap_at cursor ≡ at.heap.now → AreAsked numbers (asked_at cursor) → numbers ≡ columns_in (index_columns at.tree.now)
    → page_reads (heap_at cursor) (columns_at cursor) ≡ key_page_reads at.heap.now at.tree.now
key-page at cursor numbers heap are columns =
    let count = columns-asked (length (case_at cursor).columns) numbers (asked_at cursor) are ∙ ap length columns in
    λ i. page_reads (heap i) (count i)

-- pages by another name, for as many entries
pub pages-for : {p q m n : ℕ} → p ≡ q → m ≡ n → p * (2 * m) ≡ q * (2 * n)
pages-for page count = λ i. page i * (2 * count i)

-- a block that is taken in hand, and the values of its rows
pub page-sum : (cursor now next : RowCursor) (b : ℕ) → IsSameCursor cursor now → IsSameCursor now next → b < count_of (heap_in (heap_at now))
    → block_reads (heap_at now) b + value_reads next * 2042 ≤ page_reads (heap_at cursor) (columns_at cursor)
unfolding page_reads
page-sum cursor now next b same then inside =
    let most = block-most (heap_at now) b inside in
    let heap = most-same cursor now same in
    let value = value-same cursor next (same-then cursor now next same then) in
    omega (arith, most, heap, value)

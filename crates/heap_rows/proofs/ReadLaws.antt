-- How often files are read for blocks and values, in numbers.
use Rattle.std.proofs.Common.{◌≡◌, ℕ, ◌+◌, ◌*◌, ◌<◌, ◌≤◌, ◌%◌, Bool, true, false, List, length, refl, sym, ap, subst, arith}
use Rattle.std.specs.Prelude.{Option, Some, Result, Ok, Err}
use Rattle.std.specs.Borrow.{Bor}
use Rattle.std.specs.Option.{option_copied}
use Rattle.std.proofs.Math.Nat.{mod-lt, mul-le-mul_left}
use Rattle.std.proofs.lemmas.Bool.Decides.{Decides-below_and}
use Rattle.std.proofs.lemmas.Grind.{common_steps}
use Rattle.outside.specs.Outside.{AskedWithin, Seen}
use Rattle.rel_files.specs.Relation.{count_of}
use Rattle.rel_files.specs.declared.relation.Relation.{Relation}
use Rattle.varlena_attrs.specs.declared.places.ToastPointer.{ToastPointer}
use Rattle.case_file.specs.declared.case.Column.{Column}
use Rattle.toast_chunks.specs.Chunks.{all_below}
use Rattle.toast_chunks.specs.Pointer.{chunk_count, stored_size}
use Rattle.heap_table_check.specs.declared.files.SoundHeap.{SoundHeap}
use Rattle.heap_table_check.specs.Files.{heap_in, is_plain_in, toast_in}
use Rattle.heap_rows.specs.declared.row_cursor.RowCursor.{RowCursor}
use Rattle.heap_rows.specs.RowCursor.{IsSameCursor, case_at, heap_at}
use Rattle.heap_rows.specs.RowValues.{count_asked}
use Rattle.heap_rows.specs.Reads.{block_reads, chunk_reads, columns_at, most_block_reads, next_reads, page_reads, row_reads, state_reads, value_reads, way_reads}

-- Blocks

each-below : (test : ℕ → Bool) (n : ℕ) → all_below test n ≡ true → (k : ℕ) → k < n → test k ≡ true
each-below test n h k lt = (Decides-below_and test (λ k. test k ≡ true) (all_below test) (λ k. ((λ e. e), (λ e. e))) refl (λ _. refl) n).0 h k lt

-- a page of which all like it are plain is plain
state-most : (all one : Bool) → (all ≡ true → one ≡ true) → state_reads one ≤ state_reads all
state-most true true h = omega arith
state-most true false h = absurd (let clash : false ≡ true = h refl in cc)
state-most false true h = omega arith
state-most false false h = omega arith

-- no block has more than the most
pub block-most : (heap : SoundHeap) (b : ℕ) → b < count_of (heap_in heap) → block_reads heap b ≤ most_block_reads heap
unfolding most_block_reads
block-most heap b inside =
    let all = all_below (is_plain_in heap) (count_of (heap_in heap)) in
    let le = state-most all (is_plain_in heap b) (λ h. each-below (is_plain_in heap) (count_of (heap_in heap)) h b inside) in
    omega (arith, le)

-- The same cursor

pub columns-same : (old new : RowCursor) → IsSameCursor old new → columns_at new ≡ columns_at old
columns-same old new same = λ i. count_asked (length (same.case i).columns) (same.asked i)

pub value-same : (old new : RowCursor) → IsSameCursor old new → value_reads new ≡ value_reads old
value-same old new same = λ i. next_reads (same.heap i) (columns-same old new same i)

pub most-same : (old new : RowCursor) → IsSameCursor old new → most_block_reads (heap_at new) ≡ most_block_reads (heap_at old)
most-same old new same = ap most_block_reads same.heap

pub page-same : (old new : RowCursor) → IsSameCursor old new → page_reads (heap_at new) (columns_at new) ≡ page_reads (heap_at old) (columns_at old)
page-same old new same = λ i. page_reads (same.heap i) (columns-same old new same i)

-- The way to the next row

-- none, where it is in the page in hand
pub way-here : (cursor : RowCursor) (n : ℕ) → value_reads cursor ≤ way_reads cursor n
unfolding way_reads
way-here cursor n = omega arith

-- over so many blocks
pub way-all : (cursor : RowCursor) (n : ℕ) → value_reads cursor + (most_block_reads (heap_at cursor) + value_reads cursor) * n ≤ way_reads cursor n
unfolding way_reads
way-all cursor n = omega arith

-- and over more
pub way-more : (cursor : RowCursor) (m n : ℕ) → m ≤ n → way_reads cursor m ≤ way_reads cursor n
unfolding way_reads
way-more cursor m n le =
    let more = mul-le-mul_left (most_block_reads (heap_at cursor) + value_reads cursor) le in
    omega (arith, more)

-- a block, with the values of its first row
pub turn-most : (cursor now : RowCursor) (b : ℕ) → IsSameCursor cursor now → b < count_of (heap_in (heap_at now)) → block_reads (heap_at now) b + value_reads now ≤ most_block_reads (heap_at cursor) + value_reads cursor
turn-most cursor now b same inside =
    let most = block-most (heap_at now) b inside in
    let value = value-same cursor now same in
    let heap = most-same cursor now same in
    omega (arith, most, value, heap)

-- one more
pub way-next : (cursor now : RowCursor) (b n m : ℕ) → IsSameCursor cursor now → b < count_of (heap_in (heap_at now)) → n + 1 ≤ m
    → value_reads cursor + (most_block_reads (heap_at cursor) + value_reads cursor) * n + (block_reads (heap_at now) b + value_reads now) ≤ way_reads cursor m
way-next cursor now b n m same inside le =
    let turn = turn-most cursor now b same inside in
    let all = way-all cursor (n + 1) in
    let more = way-more cursor (n + 1) m le in
    let M = most_block_reads (heap_at cursor) in
    let V = value_reads cursor in
    let next : (M + V) * (n + 1) ≡ (M + V) * n + (M + V) = omega arith in
    omega (arith, all, more, turn, next)

-- Values

-- the chunks of a value are at most those of the longest
pub chunks-most : (p : ToastPointer) → chunk_count (stored_size p) ≤ 537947
unfolding stored_size chunk_count
chunks-most p =
    let size : p.ext_info % 1073741824 < 1073741824 = mod-lt p.ext_info (omega arith) in
    omega (arith, size)

-- where there is a TOAST table
pub chunks-in : (toast : Option (Bor Relation)) (t : Bor Relation) (p : ToastPointer) → toast ≡ Some t → chunk_count (stored_size p) ≤ chunk_reads (option_copied toast)
chunks-in toast t p is = subst (λ (o : Option (Bor Relation)). chunk_count (stored_size p) ≤ chunk_reads (option_copied o)) (sym is) (chunks-most p)

-- those that a cursor is asked for
pub value-from : (cursor : RowCursor) (toast : Option Relation) (columns : List Column) → toast ≡ toast_in (heap_at cursor) → columns ≡ (case_at cursor).columns → row_reads toast (count_asked (length columns) cursor.asked) * 2042 ≤ value_reads cursor
unfolding next_reads
value-from cursor toast columns same are =
    let e : row_reads toast (count_asked (length columns) cursor.asked) * 2042 ≡ row_reads (toast_in (heap_at cursor)) (count_asked (length (case_at cursor).columns) cursor.asked) * 2042 =
    (λ i. row_reads (same i) (count_asked (length (are i)) cursor.asked) * 2042) in
    omega (arith, e)

-- so much in each of so many turns, of which there are 2042 at most
pub turns-most : (n k : ℕ) → k ≤ 2042 → n * k ≤ n * 2042
turns-most n k le = mul-le-mul_left n le

pub turn-after : (n k : ℕ) → k < 2042 → n * k + n ≤ n * 2042
turn-after n k lt =
    let next : n * (k + 1) ≡ n * k + n = omega arith in
    let most : n * (k + 1) ≤ n * 2042 = mul-le-mul_left n (omega (arith, lt)) in
    omega (arith, next, most)

-- Answers

-- a failure of another call, with no other cause
pub asked-err : {T U D E : Type 0} {m n : ℕ} {a b : Seen} (x e : D) (y f : E) → m ≤ n → (y ≡ f → x ≡ e) → AskedWithin {T = T} {E = D} (Some m) a b (Err x) e → AskedWithin {T = U} {E = E} (Some n) a b (Err y) f
asked-err {U = U} {D = D} {E = E} {m = m} {n = n} {a = a} {b = b} x e y f le same h =
    let most : b.reads ≤ a.reads + m = h.most in
    let one : ◌≡◌ {A = Result U E} (Err y) (Err f) → y ≡ f = λ is. cc in
    record { same = h.same; later = h.later; onward = h.onward; caused = λ is. h.caused (ap (λ (z : D). Err z) (same (one is))); through = h.through; most = omega (arith, le, most) }

-- the reads alone
pub read-most : {T E : Type 0} {m n : ℕ} {a b : Seen} {r : Result T E} {f : E} → m ≤ n → AskedWithin (Some m) a b r f → b.reads ≤ a.reads + n
read-most {m = m} {a = a} {b = b} le h =
    let most : b.reads ≤ a.reads + m = h.most in
    omega (arith, le, most)

-- one that asked no more
pub asked-ok : {T U D E : Type 0} {m n : ℕ} {a b : Seen} {x : T} {y : U} {e : D} {f : E} → m ≤ n → AskedWithin {T = T} {E = D} (Some m) a b (Ok x) e → AskedWithin {T = U} {E = E} (Some n) a b (Ok y) f
asked-ok le h = grind (arith, common_steps)

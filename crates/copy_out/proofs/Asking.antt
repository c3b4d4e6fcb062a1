-- A cursor that is asked for all columns, by their numbers.
use Rattle.std.proofs.Common.{◌≡◌, ℕ, zero, suc, ◌+◌, ◌<◌, List, [], ◌∷◌, ◌++◌, All, get_or, length, refl, sym, ap, subst, ◌∙◌, arith}
use Rattle.std.proofs.lemmas.List.Elements.{All-from_get_or}
use Rattle.case_file.specs.Record.{CaseRecord}
use Rattle.case_file.specs.declared.case.Column.{Column}
use Rattle.heap_rows.specs.declared.row_cursor.RowCursor.{RowCursor}
use Rattle.heap_rows.specs.declared.row_values.AskedColumns.{AskedColumns}
use Rattle.heap_rows.specs.declared.row_values.AskedColumns.TheVariants as asked
use Rattle.heap_rows.specs.RowCursor.{AreAsked, IsSameCursor, case_at}
use Rattle.heap_rows.specs.RowValues.{column_asked, count_asked}
use Rattle.copy_out.specs.Live.{IsOver, numbers_from}

-- The numbers

pub numbers_next : (first n : ℕ) → numbers_from first (n + 1) ≡ numbers_from first n ++ (first + n) ∷ []
numbers_next first zero = ap (λ (m : ℕ). m ∷ []) (omega arith)
numbers_next first (suc n) =
    let more : suc n + 1 ≡ suc (n + 1) = omega arith in
    let last : suc first + n ≡ first + suc n = omega arith in
    ap (numbers_from first) more ∙ ap (λ (ns : List ℕ). first ∷ ns) (numbers_next (suc first) n)
    ∙ ap (λ (m : ℕ). first ∷ (numbers_from (suc first) n ++ m ∷ [])) last

length-numbers : (first n : ℕ) → length (numbers_from first n) ≡ n
length-numbers first zero = refl
length-numbers first (suc n) = ap suc (length-numbers (suc first) n)

number_at : (first n k : ℕ) → k < n → get_or (numbers_from first n) k 0 ≡ first + k
number_at first zero k lt = absurd (omega arith)
number_at first (suc n) zero lt = omega arith
number_at first (suc n) (suc k) lt =
    let same : suc first + k ≡ first + suc k = omega arith in
    number_at (suc first) n k (omega arith) ∙ same

-- each of them is below their count
pub numbers_inside : (n : ℕ) → All (λ k. k < n) (numbers_from 0 n)
numbers_inside n =
    All-from_get_or (λ (k : ℕ). k < n) (numbers_from 0 n) 0 (λ i lt.
    let inside : i < n = omega (arith, lt, length-numbers 0 n) in
    let is = number_at 0 n i inside in
    omega (arith, inside, is))

-- The cursor

count_of_all : (n m : ℕ) (a : AskedColumns) → AreAsked (numbers_from 0 n) a → count_asked m a ≡ n
count_of_all n m asked.All are = absurd are
count_of_all n m (asked.Only numbers) are = ap length are ∙ length-numbers 0 n

number_of_all : (n k : ℕ) (a : AskedColumns) → AreAsked (numbers_from 0 n) a → k < n → column_asked a k ≡ k
number_of_all n k asked.All are lt = absurd are
number_of_all n k (asked.Only numbers) are lt =
    let is = number_at 0 n k lt in
    ap (λ (ns : List ℕ). get_or ns k 0) are ∙ omega (arith, is)

-- it is asked for as many columns as there are, each by its number
pub asked_count : (columns : List Column) (cursor : RowCursor) → IsOver columns cursor → count_asked (length (case_at cursor).columns) cursor.asked ≡ length columns
asked_count columns cursor over = count_of_all (length columns) (length (case_at cursor).columns) cursor.asked over.asked

pub asked_number : (columns : List Column) (cursor : RowCursor) (k : ℕ) → IsOver columns cursor → k < length columns → column_asked cursor.asked k ≡ k
asked_number columns cursor k over lt = number_of_all (length columns) k cursor.asked over.asked lt

-- a cursor of the same heap that is asked for the same
pub same_over : (columns : List Column) (old new : RowCursor) → IsSameCursor old new → IsOver columns old → IsOver columns new
same_over columns old new same over = record {
  table = ap (λ (case : CaseRecord). case.columns) same.case ∙ over.table;
  asked = subst (AreAsked (numbers_from 0 (length columns))) (sym same.asked) over.asked;
}

pub same_then : (a b d : RowCursor) → IsSameCursor a b → IsSameCursor b d → IsSameCursor a d
same_then a b d one two = record { case = two.case ∙ one.case; heap = two.heap ∙ one.heap; asked = two.asked ∙ one.asked }

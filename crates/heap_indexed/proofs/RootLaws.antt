-- The roots of the rows of a heap, which entries may name.
use Rattle.std.proofs.Common.{◌≡◌, ◌∙◌, ◌+◌, ◌-◌, ◌≤◌, ℕ, Bool, List, ◌++◌, ap, sym, subst, arith}
use Rattle.std.specs.Prelude.{Contains, None, Option, Some}
use Rattle.std.proofs.lemmas.List.Elements.{Contains-append_left, Contains-append_right}
use Rattle.outside.specs.Outside.{Names}
use Rattle.case_file.specs.Record.{CaseRecord}
use Rattle.heap_targets.specs.Targets.{is_in}
use Rattle.heap_targets.proofs.Filled.{tells}
use Rattle.heap_table_check.specs.declared.files.SoundHeap.{SoundHeap}
use Rattle.heap_table_check.specs.Case.{heap_blocks, heap_page}
use Rattle.heap_table_check.specs.Files.{IsSoundHeapOf, targets_in}
use Rattle.heap_table_check.specs.Found.{IsQuiet}
use Rattle.heap_rows.specs.declared.rows.LiveRow.{LiveRow}
use Rattle.heap_rows.specs.RowLaws.{AreLiveTuples}
use Rattle.heap_rows.specs.Rows.{rows_of}
use Rattle.join_row_keys.proofs.HeapRoots.{root-named}
use Rattle.heap_indexed.specs.Meetings.{HasRoots}
use Rattle.join_look_ups.specs.Rows.{rows_from}
use Rattle.join_look_ups.proofs.Owed.{rows-all, rows-more}

-- the rows of some blocks are among all
part-of-all : (case : CaseRecord) (names : Names) (first count : ℕ) (row : LiveRow) → first + count ≤ heap_blocks case names → Contains (rows_from case names first count) row → Contains (rows_of case names) row
part-of-all case names first count row le among =
    let rest : ℕ = heap_blocks case names - (first + count) in
    let whole : first + (count + rest) ≡ heap_blocks case names = omega (arith, le) in
    let from : 0 + first ≡ first = omega arith in
    let all : rows_of case names ≡ rows_from case names 0 first ++ (rows_from case names first count ++ rows_from case names (first + count) rest) =
    sym (rows-all case names) ∙ ap (rows_from case names 0) (sym whole) ∙ rows-more case names 0 first (count + rest)
    ∙ ap (λ (xs : List LiveRow). rows_from case names 0 first ++ xs) (ap (λ (b : ℕ). rows_from case names b (count + rest)) from ∙ rows-more case names first count rest) in
    subst (λ (xs : List LiveRow). Contains xs row) (sym all)
    (Contains-append_right (rows_from case names 0 first) (rows_from case names first count ++ rows_from case names (first + count) rest) row
    (Contains-append_left (rows_from case names first count) (rows_from case names (first + count) rest) row among))

pub roots-part : (targets : Option (List (List Bool))) (case : CaseRecord) (names : Names) (first count : ℕ) → first + count ≤ heap_blocks case names → HasRoots targets (rows_of case names) → HasRoots targets (rows_from case names first count)
roots-part None case names first count le has = tt
roots-part (Some set) case names first count le has = λ row among. has row (part-of-all case names first count row le among)

-- the set of a heap has the roots of all its rows
pub heap-roots : (case : CaseRecord) (names : Names) (heap : SoundHeap) → IsSoundHeapOf case names heap → IsQuiet case names → AreLiveTuples case names (rows_of case names) → HasRoots (Some (targets_in heap)) (rows_of case names)
heap-roots case names heap is quiet whole row among =
    ap (λ (set : List (List Bool)). is_in set row.root) is.targets
    ∙ tells (heap_page case names) (heap_blocks case names) row.root
    ∙ root-named case names quiet whole row among

-- A refusal to attach a file is the refusal of the case: the heap's, or else the TOAST table's.
use Rattle.std.proofs.Common.{◌≡◌, ℕ, List, subst}
use Rattle.std.specs.Prelude.{Option, None, Err}
use Rattle.rel_files.proofs.Refusals.{first_tells, second_tells}
use Rattle.rel_files.specs.Refusals.{TellsRefusal, file_refusal}
use Rattle.outside.specs.Outside.{Names}
use Rattle.rel_files.specs.declared.relation.Relation.{Relation}
use Rattle.rel_files.specs.declared.check_fault.CheckFault.{CheckFault}
use Rattle.rel_files.specs.declared.check_fault.Which.TheVariants.{Heap}
use Rattle.case_file.specs.Record.{CaseRecord}
use Rattle.heap_table_check.specs.Files.{refusal_of, toast_refusal}
use Rattle.heap_table_check.specs.declared.files.HeapFiles.{HeapFiles}

-- the heap's refusal is that of the case
pub heap_tells : (case : CaseRecord) (names : Names) (base : List ℕ) (size : ℕ) (fault : CheckFault) → base ≡ case.heap_file → size ≡ case.segment_blocks → TellsRefusal {T = Relation} (file_refusal Heap names base size) (Err fault) → TellsRefusal {T = HeapFiles} (refusal_of case names) (Err fault)
unfolding refusal_of
heap_tells case names base size fault called sized tells =
    let by_name = subst (λ (b : List ℕ). TellsRefusal {T = Relation} (file_refusal Heap names b size) (Err fault)) called tells in
    first_tells Relation HeapFiles _ (toast_refusal names case.segment_blocks case.toast) fault
    (subst (λ (n : ℕ). TellsRefusal {T = Relation} (file_refusal Heap names case.heap_file n) (Err fault)) sized by_name)

-- where the heap isn't refused, the TOAST table's refusal is that of the case
pub toast_tells : (case : CaseRecord) (names : Names) (base : List ℕ) (size : ℕ) (fault : CheckFault) → base ≡ case.heap_file → size ≡ case.segment_blocks → file_refusal Heap names base size ≡ None → TellsRefusal {T = Option Relation} (toast_refusal names case.segment_blocks case.toast) (Err fault) → TellsRefusal {T = HeapFiles} (refusal_of case names) (Err fault)
unfolding refusal_of
toast_tells case names base size fault called sized none tells =
    second_tells (Option Relation) HeapFiles (file_refusal Heap names case.heap_file case.segment_blocks) (toast_refusal names case.segment_blocks case.toast) fault (rw (called, sized) at none) tells

pub none_tells : (case : CaseRecord) (names : Names) (base : List ℕ) (size : ℕ) → base ≡ case.heap_file → size ≡ case.segment_blocks → file_refusal Heap names base size ≡ None → toast_refusal names case.segment_blocks case.toast ≡ None → refusal_of case names ≡ None
unfolding refusal_of
none_tells case names base size called sized none also = rw (rw (called, sized) at none) also

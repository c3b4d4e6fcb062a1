-- What files in memory show, and which of their calls fail.
use Rattle.std.specs.Prelude.{ℕ, ◌++◌, [], ◌∷◌, false, List, Some, Result}
use Rattle.outside.specs.declared.files.Part.{Part}
use Rattle.memory_files.specs.declared.memory.MemFiles.{MemFiles}
use Rattle.memory_files.specs.declared.sure.SureFiles.{SureFiles}
use Rattle.memory_files.specs.Calls.{after_call, faults_after}
use Rattle.outside.specs.Counting.{one_more}
use Rattle.memory_files.specs.Held.{held_names, no_names, with_file, with_front, without_file}
use Rattle.outside.specs.Outside.{Names, Seen}

-- what there is to say of files in memory: what they hold, which later calls fail (1 is the next
-- call of that method), how often a call has failed, and how often they were read
pub record FilesState : Type 0 where
  pub held : Names
  pub failing_lengths : List ℕ
  pub failing_reads : List ℕ
  pub faults : ℕ
  pub reads : ℕ

abbrev pub files_state : MemFiles → FilesState
files_state m = record {
  held = held_names m.held;
  failing_lengths = m.failing_lengths;
  failing_reads = m.failing_reads;
  faults = m.faults;
  reads = m.reads;
}

-- what they show of themselves: no failure of theirs is a refused allocation
abbrev pub mem_seen : MemFiles → Seen
mem_seen m = record {
  held = Some (files_state m).held;
  faults = (files_state m).faults;
  refused = false;
  reads = (files_state m).reads;
  lenders = [];
}

-- files that hold nothing, with no failure planned, and with nothing counted
abbrev pub no_files : FilesState
no_files = record { held = no_names; failing_lengths = []; failing_reads = []; faults = 0; reads = 0 }

-- the same files and one more, in place of an earlier one of its name
abbrev pub after_add : FilesState → List ℕ → Part → List ℕ → FilesState
after_add s base part bytes = record s { held = with_file s.held base part bytes }

-- the same files, but of one only the first n bytes
abbrev pub after_cut : FilesState → List ℕ → Part → ℕ → FilesState
after_cut s base part n = record s { held = with_front s.held base part n }

-- the same files without one
abbrev pub after_forget : FilesState → List ℕ → Part → FilesState
after_forget s base part = record s { held = without_file s.held base part }

-- the n-th later call of length is to fail too
abbrev pub after_fail_length : FilesState → ℕ → FilesState
after_fail_length s n = record s { failing_lengths = s.failing_lengths ++ n ∷ [] }

-- the n-th later call of read_at is to fail too
abbrev pub after_fail_read : FilesState → ℕ → FilesState
after_fail_read s n = record s { failing_reads = s.failing_reads ++ n ∷ [] }

-- a call of length was made, and gave this
abbrev pub after_length : {T E : Type 0} → FilesState → Result T E → FilesState
after_length s result =
    record s { failing_lengths = after_call s.failing_lengths; faults = faults_after s.faults result }

-- a call of read_at was made, and gave this
abbrev pub after_read : {T E : Type 0} → FilesState → Result T E → FilesState
after_read s result =
    record s {
      failing_reads = after_call s.failing_reads;
      faults = faults_after s.faults result;
      reads = one_more s.reads;
    }

-- what there is to say of files in memory that never fail: what they hold, and how often they were read
pub record SureState : Type 0 where
  pub held : Names
  pub reads : ℕ

abbrev pub sure_state : SureFiles → SureState
sure_state s = record { held = held_names s.held; reads = s.reads }

-- what they show of themselves
abbrev pub sure_seen : SureFiles → Seen
sure_seen s = record {
  held = Some (sure_state s).held;
  faults = 0;
  refused = false;
  reads = (sure_state s).reads;
  lenders = [];
}

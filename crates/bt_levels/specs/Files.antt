-- The files of an index.
use Rattle.std.specs.Prelude.{ℕ, ◌≤◌, length, Option}
use Rattle.outside.specs.Outside.{Names}
use Rattle.rel_files.specs.Relation.{IsRelationOf}
use Rattle.rel_files.specs.declared.relation.Relation.{Relation}
use Rattle.case_file.specs.Record.{CaseRecord}
use Rattle.rel_files.specs.Refusals.{IsNamed, file_refusal, index_limit}
use Rattle.rel_files.specs.declared.check_fault.CheckFault.{CheckFault}
use Rattle.rel_files.specs.declared.check_fault.Which.TheVariants.{Index}
use Rattle.bt_levels.specs.declared.files.TreeFile.{TreeFile}
use Rattle.bt_levels.specs.Index.{index_of}

-- the number of the index, from 1, and its file
abbrev pub number_of : TreeFile → ℕ
number_of at = at.index

abbrev pub relation_of : TreeFile → Relation
relation_of at = at.relation

-- why the file of an index can't be judged
abbrev pub refusal_of : CaseRecord → Names → ℕ → Option CheckFault
refusal_of case names n = file_refusal (Index n) names (index_of case n).file case.segment_blocks

-- it is the file of an index of this case, over these names
abbrev pub IsFileOf : CaseRecord → Names → TreeFile → Type 0
IsFileOf case names at = IsRelationOf names (index_of case at.index).file case.segment_blocks index_limit at.relation

-- the same, whatever the names hold
pub record BelongsTo (case : CaseRecord) (at : TreeFile) : Type 0 where
  pub first : 1 ≤ at.index
  pub last : at.index ≤ length case.indexes
  pub named : IsNamed (index_of case at.index).file case.segment_blocks at.relation

-- An index that is made anew of the live rows of a table.
use Rattle.std.specs.Prelude.{◌≡◌, ℕ, true, [], All}
use Rattle.outside.specs.Outside.{Names}
use Rattle.page_layout.specs.declared.rules.Rule.TheVariants.{X3}
use Rattle.case_file.specs.Record.{CaseRecord}
use Rattle.case_file.specs.Sound.{IsSound}
use Rattle.heap_table_check.specs.Found.{IsQuiet}
use Rattle.heap_rows.specs.Rows.{rows_of}
use Rattle.bt_pages.specs.Broken.{AreEmpty}
use Rattle.bt_levels.specs.Index.{tree_lists}
use Rattle.bt_levels.specs.Lists.{is_quiet}
use Rattle.join_rules.specs.Broken.{AreJoined}
use Rattle.join_rules.specs.Lists.{indexed_lists}
use Rattle.join_rules.specs.Unique.{AreUnique}
use Rattle.join_row_entries.specs.Entries.{doubts_of, entries_of_rows}
use Rattle.laws_built_clean.specs.Written.{IsWritten}

-- nothing is found of the table, no value of a live row in the columns of index n is compressed, and the files of the
-- index hold the bytes that are built of the rows' entries
pub record IsRemade (case : CaseRecord) (names : Names) (n : ℕ) : Type 0 where
  pub sound : IsSound case
  pub quiet : IsQuiet case names
  pub read : is_quiet (doubts_of case names n) ≡ true
  pub written : IsWritten case names n (entries_of_rows case n (rows_of case names))

-- what is found of it
pub record IsClean (case : CaseRecord) (names : Names) (n : ℕ) : Type 0 where
  -- nothing by itself
  pub alone : AreEmpty (tree_lists case names n)
  -- beside the table each live row has its entry, and each entry names what it may
  pub joined : AreJoined case names n
  -- so that nothing is in doubt, and nothing is found but equal keys, where a unique index has them
  pub certain : (indexed_lists case names n).unjudged ≡ []
  pub equal : All (λ f. f.rule ≡ X3) (indexed_lists case names n).findings
  pub clean : AreUnique case names n → AreEmpty (indexed_lists case names n)

-- What was gathered of the first rows, and what is left of the others.
use Rattle.std.specs.Prelude.{◌≡◌, ◌≢◌, ℕ, ◌≤◌, true, List, [], ◌++◌, All, AllPairs, length, map, Some}
use Rattle.case_file.specs.Record.{CaseRecord}
use Rattle.reports.specs.Added.{joined}
use Rattle.bt_levels.specs.Index.{index_of}
use Rattle.heap_rows.specs.declared.rows.LiveRow.{LiveRow}
use Rattle.join_row_entries.specs.declared.gather.Gathered.{Gathered}
use Rattle.join_row_entries.specs.Entries.{doubts_in, entry_of}
use Rattle.join_row_entries.specs.Roots.{Taken, is_taken, may_take}

-- the root of each entry is taken
abbrev pub AreTaken : Gathered → Type 0
AreTaken g = All (λ e. is_taken g.roots e.entry.tid ≡ true) g.list.entries

-- the entries are those of index n of a case, and their roots are taken
pub record IsListOf (case : CaseRecord) (n : ℕ) (g : Gathered) : Type 0 where
  pub specs : g.list.specs ≡ (index_of case n).keys
  pub more : g.list.more ≡ (index_of case n).more
  pub taken : AreTaken g

-- there is nothing
pub record IsEmpty (g : Gathered) : Type 0 where
  pub entries : g.list.entries ≡ []
  pub findings : g.report.findings ≡ []
  pub unjudged : g.report.unjudged ≡ []

-- the columns and the report are the same
pub record IsSameList (old new : Gathered) : Type 0 where
  pub specs : new.list.specs ≡ old.list.specs
  pub more : new.list.more ≡ old.list.more
  pub report : new.report ≡ old.report

-- the root of a row doesn't lie in a block before that of an earlier row's, and is another
pub record IsRootAfter (row later : LiveRow) : Type 0 where
  pub block : row.root.block ≤ later.root.block
  pub other : later.root ≢ row.root

-- the roots of these rows may all be taken, one after another
pub record AreFree (taken : Taken) (rows : List LiveRow) : Type 0 where
  pub each : All (λ row. may_take taken row.root ≡ true) rows
  pub after : AllPairs IsRootAfter rows

-- what was gathered and what is left to be gathered are what all rows give: of their entries, as long as no row is in
-- doubt, and of the rows in doubt
pub record AreLeft (case : CaseRecord) (n : ℕ) (all left : List LiveRow) (g : Gathered) : Type 0 where
  pub doubts : joined g.report (doubts_in case n left) ≡ doubts_in case n all
  pub entries : length g.report.unjudged ≡ 0
      → map Some g.list.entries ++ map (entry_of case n) left ≡ map (entry_of case n) all
  pub free : AreFree g.roots left

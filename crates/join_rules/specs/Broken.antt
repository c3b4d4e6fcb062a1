-- The rules that join a heap and an index of it, each by its sentence, with the place where it is broken; what can't be
-- judged; and what is true where nothing is listed. The rows are those of `heap_rows`: exactly the live tuples of the
-- heap, each with the root that reaches it and the values of its columns.
use Rattle.std.specs.Prelude.{◌≡◌, ℕ, true, false, List, All, Contains, Some, None}
use Rattle.outside.specs.Outside.{Names}
use Rattle.page_layout.specs.declared.rules.Rule.{Rule}
use Rattle.page_layout.specs.declared.rules.Rule.TheVariants.{X1, X2, X3}
use Rattle.laws_search.specs.Keys.{Entry as Given}
use Rattle.key_orders.specs.declared.columns.Value.{Value}
use Rattle.key_orders.specs.declared.Tid.{Tid}
use Rattle.case_file.specs.Record.{CaseRecord}
use Rattle.reports.specs.declared.places.Place.{Place}
use Rattle.reports.specs.declared.places.Place.TheVariants.{Entry, Tuple}
use Rattle.reports.specs.declared.places.Reason.{Reason}
use Rattle.reports.specs.declared.places.Reason.TheVariants.{U6}
use Rattle.bt_pages.specs.Broken.{AreEmpty, IsDoubtedAt, IsFoundAt}
use Rattle.bt_levels.specs.Index.{case_columns, tree_of}
use Rattle.heap_rows.specs.Rows.{rows_of}
use Rattle.heap_rows.specs.declared.rows.LiveRow.{LiveRow}
use Rattle.join_rules.specs.Entries.{HasAlive, IsEntryAt, tree_entries, may_be_named}
use Rattle.join_rules.specs.Lists.{indexed_lists, joined_lists}
use Rattle.join_rules.specs.Rows.{key_of, more_of}
use Rattle.join_rules.specs.Unique.{AreDuplicates, AreUnique}

-- index n of a case has an unkilled entry with this key, these included values and this TID
abbrev pub HasEntry : CaseRecord → Names → ℕ → (key more : List Value) → Tid → Type 0
HasEntry case names n = HasAlive (tree_entries (tree_of case names n))

-- the entry stands in it at item i of block b
abbrev pub IsAt : CaseRecord → Names → ℕ → (b i : ℕ) → Given Value Tid → Type 0
IsAt case names n =
    IsEntryAt (case_columns case n) (tree_of case names n).blocks (tree_of case names n).block

-- a row has a key and included values, and the index an unkilled entry with these and the TID of the row's root
pub record IsIndexed (case : CaseRecord) (names : Names) (n : ℕ) (row : LiveRow) : Type 0 where
  pub key : List Value
  pub more : List Value
  pub values : key_of case n row ≡ Some key
  pub included : more_of case n row ≡ Some more
  pub entry : HasEntry case names n key more row.root

-- each live tuple is indexed, and each entry names what it may name
pub record AreJoined (case : CaseRecord) (names : Names) (n : ℕ) : Type 0 where
  pub rows : (row : LiveRow) → Contains (rows_of case names) row → IsIndexed case names n row
  pub entries : (b i : ℕ) (e : Given Value Tid) → IsAt case names n b i e → may_be_named case names e.tid ≡ true

-- X1: a live tuple has no unkilled entry with its key, its included values and its root's TID. X2: an entry names what
-- no entry may name. X3: a live tuple has a key that one with a lower TID has too, and the index may have it once
-- alone; it is asked of an index that has an entry for each live tuple, and whose entries name what they may name
pub data Breaks (case : CaseRecord) (names : Names) (n : ℕ) : Rule → Place → Type 0 where
  no_entry : (row : LiveRow) (key more : List Value) → Contains (rows_of case names) row
      → key_of case n row ≡ Some key → more_of case n row ≡ Some more
      → ¬ HasEntry case names n key more row.root → Breaks case names n X1 (Tuple n row.tid)
  stray : (b i : ℕ) (e : Given Value Tid) → IsAt case names n b i e → may_be_named case names e.tid ≡ false
      → Breaks case names n X2 (Entry n b i e.tid)
  duplicate : (earlier row : LiveRow) → AreJoined case names n → AreDuplicates case names n earlier row
      → Breaks case names n X3 (Tuple n row.tid)

-- U6: a value of a live tuple's key, or of a column that the index includes, is compressed
pub data Doubts (case : CaseRecord) (names : Names) (n : ℕ) : Reason → Place → Type 0 where
  packed_key : (row : LiveRow) → Contains (rows_of case names) row → key_of case n row ≡ None
      → Doubts case names n U6 (Tuple n row.tid)
  packed_more : (row : LiveRow) → Contains (rows_of case names) row → more_of case n row ≡ None
      → Doubts case names n U6 (Tuple n row.tid)

-- what the lists say of a heap and index n of it
pub record IsJudged (case : CaseRecord) (names : Names) (n : ℕ) : Type 0 where
  -- what is found is broken, and what can't be judged is in doubt
  pub sound : All (λ f. Breaks case names n f.rule f.place) (indexed_lists case names n).findings
  pub doubts : All (λ u. Doubts case names n u.reason u.place) (indexed_lists case names n).unjudged
  -- what is broken or in doubt is listed
  pub listed : (rule : Rule) (place : Place) → Breaks case names n rule place
      → IsFoundAt (indexed_lists case names n) place
  pub doubted : (reason : Reason) (place : Place) → Doubts case names n reason place
      → IsDoubtedAt (indexed_lists case names n) place
  -- where nothing is listed of the rows and the entries, so that keys are asked
  pub joined : AreEmpty (joined_lists case names n) → AreJoined case names n
  -- where nothing is listed
  pub kept : AreEmpty (indexed_lists case names n) → AreJoined case names n
  pub unique : AreEmpty (indexed_lists case names n) → AreUnique case names n

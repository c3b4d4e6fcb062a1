-- Rows that are judged for an index, of which it is known of some whether an entry met them.
use Rattle.std.specs.Prelude.{◌≡◌, ◌++◌, List, [], Some, length, true}
use Rattle.outside.specs.Outside.{Names}
use Rattle.key_orders.specs.declared.columns.Value.{Value}
use Rattle.key_orders.specs.declared.Tid.{Tid}
use Rattle.bt_levels.specs.declared.sound.SoundTree.{SoundTree}
use Rattle.bt_levels.specs.Sound.{HoldsTree, specs_of}
use Rattle.join_slots.specs.Slots.{Tables, keys_in, met_in}
use Rattle.heap_rows.specs.declared.row_cursor.RowCursor.{RowCursor}
use Rattle.heap_rows.specs.RowCursor.{IsCursorOf, rows_here}
use Rattle.join_look_ups.specs.declared.joined.LookUps.{LookUps}
use Rattle.join_look_ups.specs.declared.row_judge.RowJudge.{RowJudge}
use Rattle.join_look_ups.specs.Looking.{AreOf, has_entry}

-- each row that is kept, with its key and its included values behind it, was met exactly if the index has an unkilled
-- entry with these and its root's TID
abbrev pub TellsOf : Names → SoundTree → Tables → Type 0
TellsOf names tree slots = (tid : Tid) (key more : List Value) → length key ≡ length (specs_of tree)
    → keys_in slots tid ≡ Some (key ++ more) → met_in slots tid ≡ has_entry names tree key more tid

-- each of them that was met has such an entry
abbrev pub MetHave : Names → SoundTree → Tables → Type 0
MetHave names tree slots = (tid : Tid) (key more : List Value) → length key ≡ length (specs_of tree)
    → keys_in slots tid ≡ Some (key ++ more) → met_in slots tid ≡ true → has_entry names tree key more tid ≡ true

-- the names hold the index, and what is kept of rows and of pages tells of it
pub record IsReady (names : Names) (judge : RowJudge) (look_ups : LookUps) : Type 0 where
  pub tree : HoldsTree names judge.index.at.tree.now
  pub kept : TellsOf names judge.index.at.tree.now judge.slots.now
  pub pages : AreOf names judge.index.at.tree.now look_ups

-- and a cursor over the heap is among the rows of a block
pub record IsWithin (names : Names) (judge : RowJudge) (look_ups : LookUps) (cursor : RowCursor) : Type 0 where
  pub ready : IsReady names judge look_ups
  pub cursor_of : IsCursorOf names cursor

-- or behind them
pub record IsBehind (names : Names) (cursor : RowCursor) : Type 0 where
  pub cursor_of : IsCursorOf names cursor
  pub none : rows_here names cursor ≡ []

pub record IsBetween (names : Names) (judge : RowJudge) (look_ups : LookUps) (cursor : RowCursor) : Type 0 where
  pub ready : IsReady names judge look_ups
  pub behind : IsBehind names cursor

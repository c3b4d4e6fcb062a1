use Rattle.std.proofs.Common.{◌≡◌, ℕ}
use Rattle.key_storage.specs.RowLists.{keys_read}
use Rattle.join_slots.specs.BlockRows.{key_at, rows_at}
use Rattle.join_slots.specs.Slots.{AreKept}
use Rattle.join_slots.proofs.block_rows.keep_in.Given as goal

-- the rows so far are kept
abbrev pub invariant-loop-i : goal.invariant-loop-i
invariant-loop-i l = record {
  kept : AreKept l.records l.arena.items;
  keys : (k : ℕ) → key_at l.records l.arena.items k ≡ rows_at l.initial.records l.fn.arena.items l.slot (keys_read l.rows.starts.now l.rows.bytes.now) l.i k;
}

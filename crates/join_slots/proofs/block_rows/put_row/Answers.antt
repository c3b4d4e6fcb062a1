use Rattle.std.proofs.Common.{◌≡◌, ◌+◌, ◌-◌, ℕ, arith, subst}
use Rattle.std.specs.Prelude.{Some, cond, slice_set, ◌==◌}
use Rattle.key_storage.specs.RowLists.{NUMBERS, number_bytes}
use Rattle.key_storage.specs.Stored.{key_read}
use Rattle.join_slots.specs.BlockRows.{key_at}
use Rattle.join_slots.specs.Slots.{AreKept}
use Rattle.join_slots.proofs.BlockRowLaws.{number_kept, number_put, row_kept, row_put}
use Rattle.join_slots.proofs.block_rows.put_row.Goals as goal

pub returns-then-start-ge-NUMBERS-clause-kept : goal.returns-then-start-ge-NUMBERS-clause-kept
returns-then-start-ge-NUMBERS-clause-kept c =
    let is : NUMBERS + (c.args.start - NUMBERS) ≡ c.args.start = omega (arith, c.if-start-ge-NUMBERS.true) in
    subst (λ (r : ℕ). AreKept (slice_set c.args.records.now c.args.slot r) c.args.arena.now) is
    (number_kept c.args.records.now c.args.arena.now c.args.slot (c.args.start - NUMBERS) c.requires.slot c.requires.kept)

pub returns-then-start-ge-NUMBERS-clause-place : goal.returns-then-start-ge-NUMBERS-clause-place
returns-then-start-ge-NUMBERS-clause-place c = λ low k. absurd (omega (arith, low, c.if-start-ge-NUMBERS.true))

pub returns-then-start-ge-NUMBERS-clause-number : goal.returns-then-start-ge-NUMBERS-clause-number
returns-then-start-ge-NUMBERS-clause-number c = λ high k.
    let n : ℕ = c.args.start - NUMBERS in
    let is : NUMBERS + n ≡ c.args.start = omega (arith, high) in
    subst (λ (r : ℕ). key_at (slice_set c.args.records.now c.args.slot r) c.args.arena.now k
    ≡ cond (k == c.args.slot) (Some (key_read (number_bytes n))) (key_at c.args.records.now c.args.arena.now k)) is
    (number_put c.args.records.now c.args.arena.now c.args.slot n c.requires.slot k)

pub returns-clause-kept : goal.returns-clause-kept
returns-clause-kept c = row_kept c.args.records.now c.args.arena.now c.args.slot (c.args.base + c.args.start) c.requires.slot (c.requires.lies c.if-start-ge-NUMBERS.false) c.requires.kept

pub returns-clause-place : goal.returns-clause-place
returns-clause-place c = λ low k. row_put c.args.records.now c.args.arena.now c.args.slot (c.args.base + c.args.start) c.requires.slot (c.requires.low low) (c.requires.lies low) k

pub returns-clause-number : goal.returns-clause-number
returns-clause-number c = λ high k. absurd (omega (arith, high, c.if-start-ge-NUMBERS.false))

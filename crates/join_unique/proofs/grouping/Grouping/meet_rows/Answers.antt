use Rattle.std.proofs.Common.{◌≡◌, ◌∙◌, [], refl, sym, arith}
use Rattle.outside.proofs.Asking.{PassedAtMost-next}
use Rattle.heap_rows.specs.Reads.{value_reads}
use Rattle.heap_rows.specs.RowCursor.{rows_here}
use Rattle.join_row_keys.proofs.Places.{same-index, same-then}
use Rattle.join_unique.specs.Tables.{table_seen}
use Rattle.heap_rows.proofs.ReadLaws.{value-same}
use Rattle.join_unique.proofs.Reading.{as-many, none-read}
use Rattle.join_unique.proofs.Steps.{after-none, none-left}
use Rattle.join_unique.proofs.grouping.Grouping.meet_rows.Goals as goal

pub meet_next-requires-clause-index : goal.meet_next-requires-clause-index
meet_next-requires-clause-index g c = c.loop-k.invariant.index

pub meet_next-requires-clause-told : goal.meet_next-requires-clause-told
meet_next-requires-clause-told g c = λ names told. c.loop-k.invariant.told names (sym c.loop-k.invariant.asked.same ∙ told)

pub loop-k-init : goal.loop-k-init
loop-k-init g c = record {
  index = c.requires.index;
  told = c.requires.told;
  met = λ names told. refl;
  few = λ names told. omega arith;
  same = record { case = refl; heap = refl; asked = refl };
  asked = none-read (value_reads c.args.cursor.now);
}

pub loop-k-preserved : goal.loop-k-preserved
loop-k-preserved g c =
    let inv = c.loop-k.invariant in
    let next = c.in_ok-meet_next.ensures in
    record {
      index = same-index c.args.self.index c.loop-k.cursor c.meet_next.new.cursor next.same inv.index;
      told = λ names told. next.told names (inv.asked.same ∙ told);
      met = λ names told. next.met names (inv.asked.same ∙ told) ∙ inv.met names told;
      few = λ names told.
          let one = next.next names (inv.asked.same ∙ told) c.if-not-branch.false in
          let before = inv.few names told in
          omega arith;
      same = same-then c.args.cursor.now c.loop-k.cursor c.meet_next.new.cursor inv.same next.same;
      asked = PassedAtMost-next (value_reads c.args.cursor.now) c.loop-k.k inv.asked (as-many (value-same _ _ inv.same) next.asked);
    }

pub returns-in_err-meet_next-clause-told : goal.returns-in_err-meet_next-clause-told
returns-in_err-meet_next-clause-told g c = λ names told. c.meet_next.ensures.told names (c.loop-k.invariant.asked.same ∙ told)

pub returns-then-not-branch-clause-told : goal.returns-then-not-branch-clause-told
returns-then-not-branch-clause-told g c = λ names told. c.meet_next.ensures.told names (c.loop-k.invariant.asked.same ∙ told)

pub returns-then-not-branch-clause-met : goal.returns-then-not-branch-clause-met
returns-then-not-branch-clause-met g c = λ names told.
    let same = c.loop-k.invariant.asked.same ∙ told in
    let none : rows_here names c.meet_next.new.cursor ≡ [] = c.in_ok-meet_next.ensures.end names same c.if-not-branch.true in
    after-none (table_seen names c.args.self) c.meet_next.new.group _ none ∙ c.in_ok-meet_next.ensures.met names same ∙ c.loop-k.invariant.met names told

pub returns-clause-met : goal.returns-clause-met
returns-clause-met g c = λ names told.
    let few = c.requires.few names told in
    let left = c.loop-k.invariant.few names told in
    let none : rows_here names c.loop-k.cursor ≡ [] = none-left (rows_here names c.loop-k.cursor) (omega arith) in
    after-none (table_seen names c.args.self) c.loop-k.group _ none ∙ c.loop-k.invariant.met names told

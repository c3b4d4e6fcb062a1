use Rattle.std.proofs.Common.{◌∙◌, List, refl, sym, subst, arith}
use Rattle.outside.proofs.Asking.{Passed-next, Passed-none}
use Rattle.heap_rows.specs.declared.rows.LiveRow.{LiveRow}
use Rattle.heap_rows.specs.RowCursor.{rows_ahead}
use Rattle.copy_out.specs.Live.{AreLeft}
use Rattle.copy_out.proofs.Asking.{same_over, same_then}
use Rattle.copy_out.proofs.Copying.{none_there}
use Rattle.copy_out.proofs.live.CopyWriter.add_rows.Goals as goal

pub add_next-requires-clause-over : goal.add_next-requires-clause-over
add_next-requires-clause-over g c = same_over c.args.columns.now c.args.cursor.now c.loop-k.cursor c.loop-k.invariant.same c.requires.over

pub add_next-requires-clause-told : goal.add_next-requires-clause-told
add_next-requires-clause-told g c = λ names told. c.loop-k.invariant.told names (sym c.loop-k.invariant.asked.same ∙ told)

pub loop-k-init : goal.loop-k-init
loop-k-init g c = record {
  told = c.requires.told;
  left = λ names told all left. left;
  few = λ names told. omega arith;
  counted = c.requires.counted;
  same = record { case = refl; heap = refl; asked = refl };
  asked = Passed-none;
}

pub loop-k-preserved : goal.loop-k-preserved
loop-k-preserved g c =
    let inv = c.loop-k.invariant in
    let next = c.in_ok-add_next.ensures in
    record {
      told = λ names told. next.told names (inv.asked.same ∙ told);
      left = λ names told all left. next.left names (inv.asked.same ∙ told) all (inv.left names told all left);
      few = λ names told.
          let one = next.next names (inv.asked.same ∙ told) c.if-not-branch.false in
          let before = inv.few names told in
          omega arith;
      counted = next.counted;
      same = same_then c.args.cursor.now c.loop-k.cursor c.add_next.new.cursor inv.same next.cursor;
      asked = Passed-next inv.asked next.asked;
    }

pub returns-then-not-branch-clause-left : goal.returns-then-not-branch-clause-left
returns-then-not-branch-clause-left g c = λ names told all left.
    let same = c.loop-k.invariant.asked.same ∙ told in
    subst (λ (rows : List LiveRow). AreLeft c.args.columns.now all rows c.add_next.new.self) (c.in_ok-add_next.ensures.end names same c.if-not-branch.true)
    (c.in_ok-add_next.ensures.left names same all (c.loop-k.invariant.left names told all left))

pub returns-clause-left : goal.returns-clause-left
returns-clause-left g c = λ names told all left.
    let most = c.requires.most names told in
    let few = c.loop-k.invariant.few names told in
    subst (λ (rows : List LiveRow). AreLeft c.args.columns.now all rows c.loop-k.self) (none_there (rows_ahead names c.loop-k.cursor) (omega arith))
    (c.loop-k.invariant.left names told all left)

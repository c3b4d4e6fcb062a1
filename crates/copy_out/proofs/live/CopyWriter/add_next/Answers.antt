use Rattle.std.proofs.Common.{◌≡◌, ◌∙◌, ◌∷◌, List, drop, length, ap, sym, subst, arith}
use Rattle.std.specs.Prelude.{Option}
use Rattle.heap_rows.specs.declared.row_cursor.RowPlace.{RowPlace}
use Rattle.heap_rows.specs.declared.rows.LiveRow.{LiveRow}
use Rattle.heap_rows.specs.RowCursor.{IsPlaceOfFirst, rows_ahead}
use Rattle.copy_out.proofs.Asking.{same_over}
use Rattle.copy_out.proofs.Copying.{left_next, row_there}
use Rattle.copy_out.specs.Live.{AreLeft}
use Rattle.copy_out.proofs.live.CopyWriter.add_next.Goals as goal

pub add_row-requires-clause-over : goal.add_row-requires-clause-over
add_row-requires-clause-over g c = same_over c.args.columns.now c.args.cursor.now c.find.new.self c.find.ensures.same c.requires.over

pub returns-in_default-clause-left : goal.returns-in_default-clause-left
returns-in_default-clause-left g c = λ names told all left.
    subst (λ (rows : List LiveRow). AreLeft c.args.columns.now all rows c.args.self.now) (sym (c.find.ensures.left names told)) left

pub returns-clause-left : goal.returns-clause-left
returns-clause-left g c = λ names told all left.
    let cursor = c.find.new.self in
    let are = c.find.ensures.told names told in
    let there = row_there c.in-Some._place (rows_ahead names cursor) (subst (λ (o : Option RowPlace). IsPlaceOfFirst o (rows_ahead names cursor)) c.in-Some.is (c.in_ok-_place.ensures.first names told)) in
    let was : rows_ahead names c.args.cursor.now ≡ there.0 ∷ there.1 = sym (c.find.ensures.left names told) ∙ there.2 in
    let now : rows_ahead names c.pass.new.self ≡ there.1 = c.pass.ensures.left names are ∙ ap (λ (rs : List LiveRow). drop 1 rs) there.2 in
    subst (λ (rows : List LiveRow). AreLeft c.args.columns.now all rows c.add_row.new.self) (sym now)
    (left_next c.args.columns.now all (rows_ahead names c.args.cursor.now) there.1 there.0 c.args.self.now c.add_row.new.self was
    (c.in_ok-add_row.ensures.added names there.0 there.1 are there.2) left)

pub returns-clause-next : goal.returns-clause-next
returns-clause-next g c = λ names told more.
    let cursor = c.find.new.self in
    let are = c.find.ensures.told names told in
    let there = row_there c.in-Some._place (rows_ahead names cursor) (subst (λ (o : Option RowPlace). IsPlaceOfFirst o (rows_ahead names cursor)) c.in-Some.is (c.in_ok-_place.ensures.first names told)) in
    let was : rows_ahead names c.args.cursor.now ≡ there.0 ∷ there.1 = sym (c.find.ensures.left names told) ∙ there.2 in
    let now : rows_ahead names c.pass.new.self ≡ there.1 = c.pass.ensures.left names are ∙ ap (λ (rs : List LiveRow). drop 1 rs) there.2 in
    ap length was ∙ omega (arith, ap length now)

pub returns-clause-told : goal.returns-clause-told
returns-clause-told g c = λ names told. c.pass.ensures.told names (c.find.ensures.told names told)

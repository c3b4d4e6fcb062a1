use Rattle.std.proofs.Common.{subst, ◌∙◌}
use Rattle.std.specs.Prelude.{Option}
use Rattle.heap_rows.specs.declared.row_cursor.RowPlace.{RowPlace}
use Rattle.heap_rows.specs.LiveRows.{AreRowsOf}
use Rattle.heap_rows.specs.RowCursor.{IsPlaceOfFirst, rows_ahead}
use Rattle.heap_rows.proofs.RowCopies.{cells_there}
use Rattle.heap_rows.proofs.rows.LiveRows.next_row.Goals as goal

pub find-requires : goal.find-requires
find-requires g c = record { told = λ names told. (c.requires.told names told).cursor }

pub returns-in_err-tid-clause-told : goal.returns-in_err-tid-clause-told
returns-in_err-tid-clause-told g c = λ names told. record { cursor = c.find.ensures.told names told; all = c.find.ensures.same.asked ∙ (c.requires.told names told).all }

pub returns-in_default-clause-told : goal.returns-in_default-clause-told
returns-in_default-clause-told g c = λ names told. record { cursor = c.find.ensures.told names told; all = c.find.ensures.same.asked ∙ (c.requires.told names told).all }

pub returns-in_err-cells-clause-told : goal.returns-in_err-cells-clause-told
returns-in_err-cells-clause-told g c = λ names told. record { cursor = c.find.ensures.told names told; all = c.find.ensures.same.asked ∙ (c.requires.told names told).all }

pub returns-in_default-2-clause-told : goal.returns-in_default-2-clause-told
returns-in_default-2-clause-told g c = λ names told. record { cursor = c.find.ensures.told names told; all = c.find.ensures.same.asked ∙ (c.requires.told names told).all }

pub returns-in_default-2-clause-first : goal.returns-in_default-2-clause-first
returns-in_default-2-clause-first g c = λ names told.
    let are : AreRowsOf names (record { cursor = c.find.new.self }) = record { cursor = c.find.ensures.told names told; all = c.find.ensures.same.asked ∙ (c.requires.told names told).all } in
    let first = subst (λ (o : Option RowPlace). IsPlaceOfFirst o (rows_ahead names c.find.new.self)) c.in-Some.is (c.in_ok-tid.ensures.first names told) in
    absurd (cells_there _ _ (rows_ahead names c.find.new.self) first (λ row rest is. c.in_ok-cells.ensures.cells names row rest are is) (λ cells is. c.in_default-2.not-Some cells is))

pub returns-clause-told : goal.returns-clause-told
returns-clause-told g c = λ names told. record { cursor = c.pass.ensures.told names (c.find.ensures.told names told); all = c.pass.ensures.same.asked ∙ c.find.ensures.same.asked ∙ (c.requires.told names told).all }

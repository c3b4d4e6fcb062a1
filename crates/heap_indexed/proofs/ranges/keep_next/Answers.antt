use Rattle.std.proofs.Common.{◌≡◌, ◌∙◌, ◌∷◌, ◌++◌, [], List, append_assoc, drop, length, ap, sym, subst, arith}
use Rattle.std.specs.Prelude.{Option}
use Rattle.heap_rows.specs.declared.row_cursor.RowPlace.{RowPlace}
use Rattle.heap_rows.specs.declared.rows.LiveRow.{LiveRow}
use Rattle.heap_rows.specs.RowCursor.{IsPlaceOfFirst, rows_here}
use Rattle.join_look_ups.proofs.Owed.{found-row}
use Rattle.heap_indexed.proofs.Places.{same-cursor}
use Rattle.heap_indexed.proofs.ranges.keep_next.Goals as goal

pub keep_row-requires-clause-indexes : goal.keep_row-requires-clause-indexes
keep_row-requires-clause-indexes g c = same-cursor c.args.works.now c.args.cursor.now c.find_in_block.new.self c.find_in_block.ensures.same c.requires.at

pub returns-in_default-clause-kept : goal.returns-in_default-clause-kept
returns-in_default-clause-kept g c = λ names told done strays all kept. record {
  range = kept.range;
  is = kept.is ∙ ap (λ (rows : List LiveRow). kept.range ++ rows) (sym (c.find_in_block.ensures.here names told));
  each = kept.each;
}

pub returns-clause-kept : goal.returns-clause-kept
returns-clause-kept g c = λ names told done strays all kept.
    let cursor = c.find_in_block.new.self in
    let found = found-row names cursor c.in-Some.place (c.find_in_block.ensures.told names told) (subst (λ (o : Option RowPlace). IsPlaceOfFirst o (rows_here names cursor)) c.in-Some.is (c.in_ok-place.ensures.first names told)) in
    let was : rows_here names c.args.cursor.now ≡ found.0 ∷ found.1.rows = sym (c.find_in_block.ensures.here names told) ∙ found.1.here in
    let now : rows_here names c.pass.new.self ≡ found.1.rows = c.pass.ensures.here names (c.find_in_block.ensures.told names told) ∙ ap (λ (rs : List LiveRow). drop 1 rs) found.1.here in
    record {
      range = kept.range ++ found.0 ∷ [];
      is =
          kept.is ∙ ap (λ (rows : List LiveRow). kept.range ++ rows) was
          ∙ sym (append_assoc kept.range (found.0 ∷ []) found.1.rows)
          ∙ ap (λ (rows : List LiveRow). (kept.range ++ found.0 ∷ []) ++ rows) (sym now);
      each = c.in_ok-keep_row.ensures.work names done strays all kept.range found.0 found.1 kept.each;
    }

pub returns-clause-next : goal.returns-clause-next
returns-clause-next g c = λ names told more.
    let cursor = c.find_in_block.new.self in
    let found = found-row names cursor c.in-Some.place (c.find_in_block.ensures.told names told) (subst (λ (o : Option RowPlace). IsPlaceOfFirst o (rows_here names cursor)) c.in-Some.is (c.in_ok-place.ensures.first names told)) in
    let was : rows_here names c.args.cursor.now ≡ found.0 ∷ found.1.rows = sym (c.find_in_block.ensures.here names told) ∙ found.1.here in
    let now : rows_here names c.pass.new.self ≡ found.1.rows = c.pass.ensures.here names (c.find_in_block.ensures.told names told) ∙ ap (λ (rs : List LiveRow). drop 1 rs) found.1.here in
    ap length was ∙ omega (arith, ap length now)

pub returns-clause-told : goal.returns-clause-told
returns-clause-told g c = λ names told. c.pass.ensures.told names (c.find_in_block.ensures.told names told)

use Rattle.std.proofs.Common.{sym, ◌∙◌}
use Rattle.heap_rows.proofs.row_cursor.RowCursor.find_in_next.Goals as goal

pub find_in_hand-requires : goal.find_in_hand-requires
find_in_hand-requires g c = record { told = λ names told. c.take_next.ensures.told names (sym c.take_next.ensures.asked.same ∙ told) }

pub returns-clause-told : goal.returns-clause-told
returns-clause-told g c = λ names told. c.find_in_hand.ensures.told names (c.take_next.ensures.asked.same ∙ told)

pub returns-clause-left : goal.returns-clause-left
returns-clause-left g c = λ names told. c.find_in_hand.ensures.left names (c.take_next.ensures.asked.same ∙ told) ∙ c.take_next.ensures.left names told

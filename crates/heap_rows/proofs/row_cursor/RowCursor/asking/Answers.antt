use Rattle.std.proofs.Common.{List, refl, sym, subst, ◌∙◌, arith}
use Rattle.std.proofs.lemmas.Bool.{false≢true}
use Rattle.key_orders.specs.declared.columns.ColType.{ColType}
use Rattle.heap_table_check.specs.Files.{chunks_in, toast_in}
use Rattle.heap_rows.specs.RowValues.{AreStarts}
use Rattle.heap_rows.proofs.QuietHeap.{nothing_in_hand}
use Rattle.heap_rows.proofs.RowSources.{columns_readable}
use Rattle.heap_rows.proofs.RowSteps.{first_rows, in_hand_done}
use Rattle.heap_rows.proofs.row_cursor.RowCursor.asking.Goals as goal

pub returns-clause-all : goal.returns-clause-all
returns-clause-all c = λ names. first_rows names _ c.new-page.ensures.count refl

pub starts_of-requires : goal.starts_of-requires
starts_of-requires c = record { aligned = (columns_readable c.args.case.now c.column_types.result.now c.sound.ensures c.column_types.ensures).aligned }

pub returns-clause-told : goal.returns-clause-told
returns-clause-told c = λ names sound quiet. record {
  heap = sound;
  belong = c.requires.belong;
  quiet = quiet;
  logs = c.in_ok-logs.ensures;
  asked = c.requires.asked;
  starts = subst (λ (ts : List ColType). AreStarts ts c.args.asked c.in_ok-starts.starts.items) c.column_types.ensures c.in_ok-starts.ensures;
  few = omega (arith, c.new-page.ensures.count);
  hand = nothing_in_hand c.args.case.now names (toast_in c.args.heap.now) (chunks_in c.args.heap.now) c.new-page.result c.new-page.ensures.count;
  next = λ found. absurd (false≢true (sym c.new-page.ensures.found ∙ found));
}

pub returns-clause-none : goal.returns-clause-none
returns-clause-none c = λ names. in_hand_done c.args.case.now names c.new-page.result (omega (arith, c.new-page.ensures.count))

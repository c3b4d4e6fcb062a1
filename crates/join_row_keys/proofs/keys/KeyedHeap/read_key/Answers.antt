use Rattle.std.proofs.Common.{◌∙◌, ap, subst}
use Rattle.std.specs.Bool.{OnTrue}
use Rattle.key_orders.specs.Keys.{IsKey}
use Rattle.key_attrs.specs.Columns.{TreeColumns}
use Rattle.join_rules.specs.Rows.{key_numbers, values_at}
use Rattle.join_row_keys.proofs.Ahead.{ahead}
use Rattle.join_row_keys.proofs.KeyLaws.{reader-of}
use Rattle.join_row_keys.proofs.keys.KeyedHeap.read_key.Goals as goal

pub read_key-requires-clause-reader : goal.read_key-requires-clause-reader
read_key-requires-clause-reader c =
    reader-of c.args.self c.args.cursor.now c.reader.result c.sound.ensures c.requires.index c.reader.ensures.columns c.reader.ensures.first

pub returns-clause-key : goal.returns-clause-key
returns-clause-key c = λ names row rows are is.
    c.read_key.ensures.key names row _ are (ahead names c.args.cursor.now row rows is)
    ∙ ap (λ (t : TreeColumns). values_at (key_numbers t) row.cells) c.reader.ensures.columns

pub returns-clause-fits : goal.returns-clause-fits
returns-clause-fits c = subst (λ (t : TreeColumns). OnTrue c.read_key.result (IsKey t.specs c.read_key.new.key)) c.reader.ensures.columns c.read_key.ensures.fits

use Rattle.std.proofs.Common.{◌≡◌, ◌∙◌, ap, length, subst}
use Rattle.std.specs.Bool.{OnTrue}
use Rattle.key_attrs.specs.Columns.{TreeColumns}
use Rattle.join_rules.specs.Rows.{more_numbers, values_at}
use Rattle.join_row_keys.proofs.Ahead.{ahead}
use Rattle.join_row_keys.proofs.KeyLaws.{reader-of}
use Rattle.join_row_keys.proofs.keys.KeyedHeap.read_more.Goals as goal

pub read_more-requires-clause-reader : goal.read_more-requires-clause-reader
read_more-requires-clause-reader c =
    reader-of c.args.self c.args.cursor.now c.reader.result c.sound.ensures c.requires.index c.reader.ensures.columns c.reader.ensures.first

pub returns-clause-more : goal.returns-clause-more
returns-clause-more c = λ names row rows are is.
    c.read_more.ensures.more names row _ are (ahead names c.args.cursor.now row rows is)
    ∙ ap (λ (t : TreeColumns). values_at (more_numbers t) row.cells) c.reader.ensures.columns

pub returns-clause-count : goal.returns-clause-count
returns-clause-count c = subst (λ (t : TreeColumns). OnTrue c.read_more.result (length c.read_more.new.more ≡ length t.more)) c.reader.ensures.columns c.read_more.ensures.whole

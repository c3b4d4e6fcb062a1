use Rattle.join_row_entries.proofs.ColumnLaws.{reader-of}
use Rattle.join_row_entries.proofs.index.IndexReader.read.Goals as goal

pub read_key-requires-clause-reader : goal.read_key-requires-clause-reader
read_key-requires-clause-reader c = reader-of c.args.self c.args.cursor.now c.sound.ensures c.requires.reader c.requires.asked

pub read_more-requires-clause-reader : goal.read_more-requires-clause-reader
read_more-requires-clause-reader c = reader-of c.args.self c.args.cursor.now c.sound.ensures c.requires.reader c.requires.asked

use Rattle.std.proofs.Common.{◌∙◌, ap, sym}
use Rattle.std.specs.Prelude.{slice_get}
use Rattle.bt_levels.specs.Sound.{index_columns}
use Rattle.join_row_keys.specs.Rows.{columns_in}
use Rattle.join_row_keys.proofs.Ahead.{ahead}
use Rattle.join_row_keys.proofs.KeyLaws.{asked-column}
use Rattle.join_row_keys.proofs.keys.KeyedHeap.value.Goals as goal

pub returns : goal.returns
returns c = λ names row rows are is.
    let at = asked-column c.args.self.first (columns_in (index_columns c.args.self.at.tree.now)) _ c.args.k c.requires.index.asked c.requires.inside in
    ap (slice_get row.cells) (sym at) ∙ c.value.ensures.cell names row _ are (ahead names c.args.cursor.now row rows is)

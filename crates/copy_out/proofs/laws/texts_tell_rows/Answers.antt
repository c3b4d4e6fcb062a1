use Rattle.copy_out.proofs.LineLaws.{text_tells}
use Rattle.copy_out.proofs.laws.texts_tell_rows.Goals as goal

pub returns : goal.returns
returns c = text_tells

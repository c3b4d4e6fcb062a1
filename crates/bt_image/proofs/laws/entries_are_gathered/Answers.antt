use Rattle.bt_image.proofs.Gathered.{gathered}
use Rattle.bt_image.proofs.laws.entries_are_gathered.Goals as goal

pub returns : goal.returns
returns c specs more blocks block = gathered specs more blocks block

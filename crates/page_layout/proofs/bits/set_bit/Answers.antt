use Rattle.page_layout.proofs.OneBit.{set_one}
use Rattle.page_layout.proofs.bits.set_bit.Goals as goal

pub returns : goal.returns
returns c = λ p. set_one c.args.bits.now c.args.place p c.requires

use Rattle.std.proofs.Common.{◌≡◌, ◌∙◌}
use Rattle.std.proofs.Math.Nat.{zero-div}
use Rattle.vis_map.proofs.Unwritten.{map_byte_of-new}
use Rattle.vis_map.proofs.bits.bits_in.Goals as goal

pub returns-clause-new : goal.returns-clause-new
returns-clause-new c = λ new. let z : c.map_byte_of-byte.result ≡ 0 = c.map_byte_of-byte.ensures ∙ map_byte_of-new _ _ c.requires new in rw z (simp zero-div)

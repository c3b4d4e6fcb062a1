use Rattle.std.proofs.Common.{◌≡◌, drop}
use Rattle.cluster_control.specs.Crc.{rest_of}
use Rattle.cluster_control.proofs.crc.crc32c.Given as goal

abbrev pub invariant-loop-byte : goal.invariant-loop-byte
invariant-loop-byte l = rest_of l.register (drop l.byte-index l.bytes) ≡ rest_of 4294967295 l.bytes

use Rattle.std.proofs.Common.{◌≡◌, map}
use Rattle.std.specs.List.{range_with_len}
use Rattle.catalog_rows.specs.Arrays.{oid_in}
use Rattle.catalog_rows.proofs.arrays.oids_upto.Given as goal

abbrev pub invariant-loop-k : goal.invariant-loop-k
invariant-loop-k l = l.oids.items ≡ map (oid_in l.content) (range_with_len 0 l.k)

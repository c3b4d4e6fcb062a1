use Rattle.std.proofs.Common.{◌≡◌, map}
use Rattle.std.specs.List.{range_with_len}
use Rattle.catalog_rows.specs.Arrays.{int2_in}
use Rattle.catalog_rows.proofs.arrays.int2s_upto.Given as goal

abbrev pub invariant-loop-k : goal.invariant-loop-k
invariant-loop-k l = l.numbers.items ≡ map (int2_in l.content) (range_with_len 0 l.k)

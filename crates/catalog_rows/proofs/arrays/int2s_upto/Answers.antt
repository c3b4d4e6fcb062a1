use Rattle.std.proofs.Common.{sym, arith, w16, to_z-of_z}
use Rattle.std.proofs.lemmas.List.FromFn.{map-range_with_len_more}
use Rattle.catalog_rows.specs.Arrays.{int2_in}
use Rattle.catalog_rows.proofs.arrays.int2s_upto.Goals as goal

pub loop-k-preserved : goal.loop-k-preserved
loop-k-preserved c =
    rw (c.in_ok-push.ensures.items, c.loop-k.invariant, to_z-of_z {w = w16} {z = c.int2_in.result} (grind arith), c.int2_in.ensures)
    (sym (map-range_with_len_more (int2_in c.args.content.now) 0 c.loop-k.k c.loop-k.k (omega arith)))

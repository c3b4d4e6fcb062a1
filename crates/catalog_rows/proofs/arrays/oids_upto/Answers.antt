use Rattle.std.proofs.Common.{sym, arith}
use Rattle.std.proofs.lemmas.List.FromFn.{map-range_with_len_more}
use Rattle.catalog_rows.specs.Arrays.{oid_in}
use Rattle.catalog_rows.proofs.arrays.oids_upto.Goals as goal

pub loop-k-preserved : goal.loop-k-preserved
loop-k-preserved c =
    rw (c.in_ok-push.ensures.items, c.oid_in.ensures, c.loop-k.invariant)
    (sym (map-range_with_len_more (oid_in c.args.content.now) 0 c.loop-k.k c.loop-k.k (omega arith)))

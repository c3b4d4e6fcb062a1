use Rattle.std.proofs.Common.{◌∙◌, refl, arith}
use Rattle.std.proofs.Math.ListN.{length-set}
use Rattle.cluster_map.specs.Map.{first_entries}
use Rattle.cluster_map.proofs.Entries.{next_first}
use Rattle.cluster_map.proofs.entry.FileMap.of_first.Goals as goal

pub loop-k-init : goal.loop-k-init
unfolding first_entries
loop-k-init c = record { places = refl; first = refl }

pub loop-k-preserved : goal.loop-k-preserved
loop-k-preserved c =
    let xs = c.loop-k.entries in
    let k = c.loop-k.k in
    let all = c.loop-k.invariant.places in
    record {
      places = length-set xs k c.entry_at.result ∙ all;
      first = next_first xs c.args.bytes.now k c.entry_at.result (omega arith) c.loop-k.invariant.first c.entry_at.ensures;
    }

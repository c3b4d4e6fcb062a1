use Rattle.std.proofs.Common.{◌∙◌, sym, take}
use Rattle.cluster_map.proofs.Entries.{at_last, at_new, at_twice}
use Rattle.cluster_map.proofs.entry.FileMap.repeated.Goals as goal

pub returns-in-Some : goal.returns-in-Some
returns-in-Some c =
    let self = c.args.self.now in
    at_twice (take self.count self.entries) c.loop-k.k (record { oid = 0; file = 0 }) c.in-Some.field-0 c.loop-k-test.true
    c.loop-k.invariant (sym c.file_in.ensures ∙ c.in-Some.is)

pub loop-k-preserved : goal.loop-k-preserved
loop-k-preserved c =
    let self = c.args.self.now in
    at_new (take self.count self.entries) c.loop-k.k (record { oid = 0; file = 0 }) c.loop-k-test.true
    c.loop-k.invariant (sym c.file_in.ensures ∙ c.in-None.is)

pub returns : goal.returns
returns c =
    let self = c.args.self.now in
    at_last (take self.count self.entries) c.loop-k.k c.loop-k-test.false c.loop-k.invariant

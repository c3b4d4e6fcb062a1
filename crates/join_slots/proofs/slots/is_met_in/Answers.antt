use Rattle.std.proofs.Common.{◌∙◌, arith}
use Rattle.join_slots.proofs.SlotLaws.{found_below, met_nowhere, met_there}
use Rattle.join_slots.proofs.slots.is_met_in.Goals as goal

pub is_set-requires : goal.is_set-requires
is_set-requires c =
    let low = found_below c.args.kept.first c.args.kept.starts.now c.args.kept.records.now c.args.tid c.in-Some.slot c.requires.starts c.in-Some.ensures in
    omega (arith, c.requires.bits.room, low)

pub returns-in-Some : goal.returns-in-Some
returns-in-Some c = c.is_set.ensures ∙ met_there c.args.kept.first c.args.kept.starts.now c.args.bits.now c.args.tid c.in-Some.slot c.in-Some.ensures

pub returns-in-None : goal.returns-in-None
returns-in-None c = met_nowhere c.args.kept.first c.args.kept.starts.now c.args.bits.now c.args.tid c.in-None.ensures

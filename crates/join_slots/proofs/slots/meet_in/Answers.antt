use Rattle.std.proofs.Common.{◌∙◌, arith, ap, sym}
use Rattle.key_storage.specs.Rows.{row_values}
use Rattle.join_slots.specs.Met.{is_key}
use Rattle.join_slots.proofs.SlotLaws.{bits_still, found_below, key_there, no_slot_no_key, not_met, now_met}
use Rattle.join_slots.proofs.slots.meet_in.Goals as goal

pub bounds-kept-slot : goal.bounds-kept-slot
bounds-kept-slot c = found_below c.args.kept.first c.args.kept.starts.now c.args.kept.records.now c.args.tid c.in-Some.slot c.requires.starts c.in-Some.ensures

pub set_bit-requires : goal.set_bit-requires
set_bit-requires c =
    let low = found_below c.args.kept.first c.args.kept.starts.now c.args.kept.records.now c.args.tid c.in-Some.slot c.requires.starts c.in-Some.ensures in
    omega (arith, c.requires.bits.room, low)

pub returns-then-holds-clause-met : goal.returns-then-holds-clause-met
returns-then-holds-clause-met c =
    let there = key_there c.args.kept.first c.args.kept.starts.now c.args.kept.records.now c.args.kept.arena.now c.args.tid c.in-Some.slot c.in-Some.ensures in
    now_met c.args.kept.first c.args.kept.starts.now c.args.kept.records.now c.args.kept.arena.now c.args.bits.now c.set_bit.new.bits c.args.tid (row_values c.args.values) c.in-Some.slot c.requires.starts c.in-Some.ensures
    (ap (is_key (row_values c.args.values)) there ∙ (sym c.holds.ensures ∙ c.if-holds.true))
    c.set_bit.ensures

pub returns-then-holds-clause-bits : goal.returns-then-holds-clause-bits
returns-then-holds-clause-bits c =
    let low = found_below c.args.kept.first c.args.kept.starts.now c.args.kept.records.now c.args.tid c.in-Some.slot c.requires.starts c.in-Some.ensures in
    bits_still c.args.kept.records.now c.args.bits.now c.set_bit.new.bits c.in-Some.slot c.requires.bits low (omega (arith, c.set_bit.auto.bits)) c.set_bit.ensures

pub returns-else-holds-clause-met : goal.returns-else-holds-clause-met
returns-else-holds-clause-met c =
    let there = key_there c.args.kept.first c.args.kept.starts.now c.args.kept.records.now c.args.kept.arena.now c.args.tid c.in-Some.slot c.in-Some.ensures in
    not_met _ _ c.args.tid (row_values c.args.values) (ap (is_key (row_values c.args.values)) there ∙ (sym c.holds.ensures ∙ c.if-holds.false))

pub returns-in-None-clause-met : goal.returns-in-None-clause-met
returns-in-None-clause-met c =
    not_met _ _ c.args.tid (row_values c.args.values) (no_slot_no_key c.args.kept.first c.args.kept.starts.now c.args.kept.records.now c.args.kept.arena.now c.args.tid (row_values c.args.values) c.in-None.ensures)

use Rattle.std.proofs.Common.{◌∙◌, ap, arith}
use Rattle.std.proofs.lemmas.Bool.{OnTrue_at}
use Rattle.join_slots.specs.Met.{is_key}
use Rattle.join_slots.proofs.SlotLaws.{bits_still, found_below, key_there, no_slot_no_key, not_met, now_met}
use Rattle.join_slots.proofs.WholeLaws.{none_there}
use Rattle.join_slots.proofs.slots.meet_plain_in.Goals as goal

pub returns-in_default-clause-met : goal.returns-in_default-clause-met
returns-in_default-clause-met c = λ key told.
    not_met _ _ c.args.tid key (no_slot_no_key c.args.kept.first c.args.kept.starts.now c.args.kept.records.now c.args.kept.arena.now c.args.tid key c.in_default.ensures)

pub bounds-kept-slot : goal.bounds-kept-slot
bounds-kept-slot c = found_below c.args.kept.first c.args.kept.starts.now c.args.kept.records.now c.args.tid c.in-Some.slot c.requires.starts c.in-Some.ensures

pub returns-then-place-eq0-clause-met : goal.returns-then-place-eq0-clause-met
returns-then-place-eq0-clause-met c = λ key told.
    let there = key_there c.args.kept.first c.args.kept.starts.now c.args.kept.records.now c.args.kept.arena.now c.args.tid c.in-Some.slot c.in-Some.ensures in
    not_met _ _ c.args.tid key (ap (is_key key) there ∙ none_there c.args.kept.arena.now _ key c.if-place-eq0.true)

pub set_bit-requires : goal.set_bit-requires
set_bit-requires c =
    let low = found_below c.args.kept.first c.args.kept.starts.now c.args.kept.records.now c.args.tid c.in-Some.slot c.requires.starts c.in-Some.ensures in
    omega (arith, c.requires.bits.room, low)

pub returns-clause-met : goal.returns-clause-met
returns-clause-met c = λ key told.
    let there = key_there c.args.kept.first c.args.kept.starts.now c.args.kept.records.now c.args.kept.arena.now c.args.tid c.in-Some.slot c.in-Some.ensures in
    now_met c.args.kept.first c.args.kept.starts.now c.args.kept.records.now c.args.kept.arena.now c.args.bits.now c.set_bit.new.bits c.args.tid key c.in-Some.slot c.requires.starts c.in-Some.ensures
    (ap (is_key key) there ∙ OnTrue_at c.if-not-holds_plain.false c.holds_plain.ensures key told)
    c.set_bit.ensures

pub returns-clause-bits : goal.returns-clause-bits
returns-clause-bits c =
    let low = found_below c.args.kept.first c.args.kept.starts.now c.args.kept.records.now c.args.tid c.in-Some.slot c.requires.starts c.in-Some.ensures in
    bits_still c.args.kept.records.now c.args.bits.now c.set_bit.new.bits c.in-Some.slot c.requires.bits low (omega (arith, c.set_bit.auto.bits)) c.set_bit.ensures

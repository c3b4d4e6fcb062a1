use Rattle.std.proofs.Common.{◌∙◌, ap, sym}
use Rattle.key_storage.specs.Rows.{row_values}
use Rattle.join_slots.specs.Met.{is_key}
use Rattle.join_slots.proofs.SlotLaws.{found_below, key_there, no_slot_no_key}
use Rattle.join_slots.proofs.slots.is_kept_in.Goals as goal

pub bounds-kept-slot : goal.bounds-kept-slot
bounds-kept-slot c = found_below c.args.kept.first c.args.kept.starts.now c.args.kept.records.now c.args.tid c.in-Some.slot c.requires.starts c.in-Some.ensures

pub returns-in-Some : goal.returns-in-Some
returns-in-Some c =
    c.holds.ensures
    ∙ ap (is_key (row_values c.args.values)) (sym (key_there c.args.kept.first c.args.kept.starts.now c.args.kept.records.now c.args.kept.arena.now c.args.tid c.in-Some.slot c.in-Some.ensures))

pub returns-in-None : goal.returns-in-None
returns-in-None c = sym (no_slot_no_key c.args.kept.first c.args.kept.starts.now c.args.kept.records.now c.args.kept.arena.now c.args.tid (row_values c.args.values) c.in-None.ensures)

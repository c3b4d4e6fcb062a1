use Rattle.std.proofs.Common.{◌∙◌, ap, arith, length, subst, sym}
use Rattle.join_slots.specs.Slots.{IsBegunRow, Tables, keys_in, keys_with}
use Rattle.join_slots.proofs.SlotLaws.{found_below}
use Rattle.join_slots.proofs.PutLaws.{bits_set, kept_set, keys_set, lies_written, starts_set}
use Rattle.join_slots.proofs.rows.RowSlots.keep_row.Goals as goal

pub index_mut-requires : goal.index_mut-requires
index_mut-requires c =
    let s = c.self.inside in
    let begun = subst (λ (t : Tables). IsBegunRow t c.args.row c.requires.tid (length c.requires.values) c.requires.values) (sym c.self.view_is) c.requires.is in
    omega (arith, found_below s.first s.starts.items s.records.items c.requires.tid c.args.row.slot c.self.invariant.0 begun.slot_is, s.records.ok.0)

pub invariant_of-self : goal.invariant_of-self
invariant_of-self c =
    let s = c.self.inside in
    let begun = subst (λ (t : Tables). IsBegunRow t c.args.row c.requires.tid (length c.requires.values) c.requires.values) (sym c.self.view_is) c.requires.is in
    let low = found_below s.first s.starts.items s.records.items c.requires.tid c.args.row.slot c.self.invariant.0 begun.slot_is in (
      starts_set s.starts.items s.records.items c.args.row.slot c.args.row.place c.self.invariant.0,
      bits_set s.records.items s.bits.items c.args.row.slot c.args.row.place c.self.invariant.1,
      kept_set s.records.items s.arena.items c.args.row.slot c.args.row.place (length begun.before) low begun.place_is (lies_written _ c.args.row c.requires.tid c.requires.values begun) c.self.invariant.2,
    )

pub returns-clause-kept : goal.returns-clause-kept
returns-clause-kept c = λ tid values is.
    let s = c.self.inside in
    let begun = subst (λ (t : Tables). IsBegunRow t c.args.row tid (length values) values) (sym c.self.view_is) is in
    keys_set s.first s.starts.items s.records.items s.arena.items tid c.args.row.slot c.args.row.place (length begun.before) c.self.invariant.0 begun.slot_is begun.place_is begun.low (lies_written _ c.args.row tid values begun)
    ∙ ap (λ (t : Tables). keys_with (keys_in t) tid values) c.self.view_is

use Rattle.std.proofs.Common.{◌≡◌, ◌∙◌, ◌∷◌, [], List, ap, arith, of_z, refl, rules, to_z, w64}
use Rattle.key_storage.proofs.RowLaws.{one}
use Rattle.std.specs.Prelude.{Some, ℤ}
use Rattle.std.proofs.lemmas.Bool.{OnTrue_at}
use Rattle.key_orders.specs.declared.columns.Value.{Value}
use Rattle.key_orders.specs.declared.columns.Value.TheVariants.{Int}
use Rattle.key_storage.proofs.SameLaws.{keys_decide}
use Rattle.join_slots.specs.Met.{is_key}
use Rattle.join_slots.proofs.SlotLaws.{bits_still, found_below, key_there, now_met}
use Rattle.join_slots.proofs.slots.meet_number_in.Goals as goal

pub bounds-kept-slot : goal.bounds-kept-slot
bounds-kept-slot c = found_below c.args.kept.first c.args.kept.starts.now c.args.kept.records.now c.args.tid c.in-Some.slot c.requires.starts c.in-Some.ensures

pub set_bit-requires : goal.set_bit-requires
set_bit-requires c =
    let low = found_below c.args.kept.first c.args.kept.starts.now c.args.kept.records.now c.args.tid c.in-Some.slot c.requires.starts c.in-Some.ensures in
    omega (arith, c.requires.bits.room, low)

pub returns-clause-is : goal.returns-clause-is
returns-clause-is c =
    let same : to_z w64 (of_z w64 c.args.number) ≡ c.args.number = search rules in
    key_there c.args.kept.first c.args.kept.starts.now c.args.kept.records.now c.args.kept.arena.now c.args.tid c.in-Some.slot c.in-Some.ensures
    ∙ OnTrue_at c.if-not-holds_number.false c.holds_number.ensures
    ∙ ap (λ (z : ℤ). Some (one z)) same

pub returns-clause-met : goal.returns-clause-met
returns-clause-met c =
    let same : to_z w64 (of_z w64 c.args.number) ≡ c.args.number = search rules in
    let key : List Value = Int c.args.number ∷ [] in
    let there = key_there c.args.kept.first c.args.kept.starts.now c.args.kept.records.now c.args.kept.arena.now c.args.tid c.in-Some.slot c.in-Some.ensures in
    now_met c.args.kept.first c.args.kept.starts.now c.args.kept.records.now c.args.kept.arena.now c.args.bits.now c.set_bit.new.bits c.args.tid key c.in-Some.slot c.requires.starts c.in-Some.ensures
    (ap (is_key key) (there ∙ OnTrue_at c.if-not-holds_number.false c.holds_number.ensures ∙ ap (λ (z : ℤ). Some (one z)) same) ∙ (keys_decide key key).1 refl)
    c.set_bit.ensures

pub returns-clause-bits : goal.returns-clause-bits
returns-clause-bits c =
    let low = found_below c.args.kept.first c.args.kept.starts.now c.args.kept.records.now c.args.tid c.in-Some.slot c.requires.starts c.in-Some.ensures in
    bits_still c.args.kept.records.now c.args.bits.now c.set_bit.new.bits c.in-Some.slot c.requires.bits low (omega (arith, c.set_bit.auto.bits)) c.set_bit.ensures

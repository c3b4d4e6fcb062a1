use Rattle.std.proofs.Common.{◌≡◌, ◌∙◌, ◌+◌, ◌-◌, ◌^◌, ◌<◌, ℕ, ℤ, ap, arith, of_z, rules, sym, to_z, w64}
use Rattle.std.specs.Prelude.{Some}
use Rattle.std.proofs.lemmas.Bool.{OnTrue_at, OnTrue_from, eqb-true}
use Rattle.key_storage.specs.Stored.{key_read}
use Rattle.key_storage.proofs.RowLaws.{number_read, one}
use Rattle.key_storage.specs.RowLists.{NUMBERS}
use Rattle.join_slots.specs.Slots.{key_of}
use Rattle.join_slots.proofs.PutLaws.{in_arena, key_of_number, key_some}
use Rattle.join_slots.proofs.slots.holds_number.Goals as goal

pub returns-then-place-ge-NUMBERS : goal.returns-then-place-ge-NUMBERS
returns-then-place-ge-NUMBERS c = OnTrue_from _ _ (λ e.
    let n : ℕ = c.args.place - NUMBERS in
    let place : c.args.place ≡ NUMBERS + n = omega (arith, c.if-place-ge-NUMBERS.true) in
    let low : n < 2 ^ 32 = omega (arith, c.ranges.place.fits) in
    let same : to_z w64 (of_z w64 c.args.number) ≡ c.args.number = search rules in
    let bits : of_z w64 c.from.result ≡ n = search rules in
    let is : of_z w64 c.from.result ≡ of_z w64 c.args.number = eqb-true _ _ e in
    ap (key_of c.args.arena.now) place
    ∙ key_of_number c.args.arena.now n
    ∙ ap Some (number_read n low)
    ∙ ap (λ (z : ℤ). Some (one z)) (ap (to_z w64) (sym bits ∙ is) ∙ same))

pub returns-then-place-ne0 : goal.returns-then-place-ne0
returns-then-place-ne0 c = OnTrue_from c.is_number.result _ (λ e.
    let same : to_z w64 (of_z w64 c.args.number) ≡ c.args.number = search rules in
    let arena = c.args.arena.now in
    key_some arena c.args.place c.if-place-ne0.true
    ∙ ap (λ k. Some (key_read k)) (in_arena arena c.args.place c.if-place-ge-NUMBERS.false)
    ∙ ap Some (ap key_read (sym c.bytes_from.ensures) ∙ OnTrue_at e c.is_number.ensures ∙ ap one same))

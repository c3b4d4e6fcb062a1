use Rattle.std.proofs.Common.{◌≡◌, ◌∙◌, ◌+◌, ℕ, subst, sym, arith, length}
use Rattle.std.specs.Prelude.{None, Ok}
use Rattle.std.proofs.lemmas.Bool.{OnTrue_at, OnTrue_from}
use Rattle.key_storage.specs.Stored.{values_read}
use Rattle.key_attrs.specs.Columns.{all_types}
use Rattle.key_attrs.specs.Keyed.{key_values}
use Rattle.key_attrs.proofs.Keying.{count_of_types}
use Rattle.key_attrs.proofs.StoredKeys.{held_count}
use Rattle.join_slots.proofs.WholeLaws.{plain_key}
use Rattle.join_slots.proofs.slots.holds_plain.Goals as goal

pub returns-then-count-columns_count : goal.returns-then-count-columns_count
returns-then-count-columns_count c = OnTrue_from c.has_stored_key.result _ (λ e key told.
    let n = length c.args.columns.now.specs.now + length c.args.columns.now.more.now in
    let values = c.in-Some.values.now in
    plain_key c.args.arena.now values c.in-Some.count.now n c.args.place key c.if-place-eq0.false c.if-place-ge-NUMBERS.false (omega (arith, c.if-count-columns_count.true))
    (sym c.bytes_from.ensures ∙ c.in-Some.ensures.cases.0)
    (told (values_read n values) (subst (λ (m : ℕ). key_values (all_types c.args.columns.now) c.args.body.now None ≡ Ok (values_read m values)) (count_of_types c.args.columns.now.specs.now c.args.columns.now.more.now) (OnTrue_at e c.has_stored_key.ensures)) (held_count n values)))

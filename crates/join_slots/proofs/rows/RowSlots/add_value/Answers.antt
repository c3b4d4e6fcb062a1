use Rattle.std.proofs.Common.{◌∙◌, ◌++◌, [], ap, subst, sym}
use Rattle.std.specs.Prelude.{if◌then◌else◌}
use Rattle.key_storage.specs.Stored.{shown_bytes}
use Rattle.join_slots.specs.Slots.{AreKept, IsBegunRow, Tables, keys_in, keys_of}
use Rattle.join_slots.proofs.PutLaws.{kept_grow, keys_grow, one_value}
use Rattle.join_slots.proofs.rows.RowSlots.add_value.Goals as goal

pub invariant_of-self-2 : goal.invariant_of-self-2
invariant_of-self-2 c =
    let s = c.self.inside in (
      c.self.invariant.0,
      c.self.invariant.1,
      subst (AreKept s.records.items) (sym c.in_ok-added.ensures.pushed) (kept_grow s.records.items s.arena.items _ c.self.invariant.2),
    )

pub returns-clause-added : goal.returns-clause-added
returns-clause-added c = λ yes row tid count values begun.
    let s = c.self.inside in
    let old = subst (λ (t : Tables). IsBegunRow t row tid count values) (sym c.self.view_is) begun in
    one_value _ c.push_value.new.arena.items row tid count values _ (c.in_ok-added.ensures.storable yes)
    (c.in_ok-added.ensures.pushed ∙ (λ i. s.arena.items ++ (if yes i then shown_bytes c.args.value else []))) old

pub returns-clause-keys : goal.returns-clause-keys
returns-clause-keys c =
    let s = c.self.inside in
    (λ i. keys_of s.first s.starts.items s.records.items (c.in_ok-added.ensures.pushed i))
    ∙ keys_grow s.first s.starts.items s.records.items s.arena.items _ c.self.invariant.2
    ∙ ap keys_in c.self.view_is

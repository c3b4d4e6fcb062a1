use Rattle.std.proofs.Common.{◌≡◌, ◌∙◌, ◌∷◌, [], ap}
use Rattle.std.specs.Prelude.{slice_set}
use Rattle.join_slots.proofs.StartLaws.{begun_is, begun_tables, first_start}
use Rattle.join_slots.proofs.rows.RowSlots.begin.Goals as goal

pub invariant_of-self : goal.invariant_of-self
invariant_of-self c =
    let one : slice_set c.truncate.new.self.items 0 0 ≡ 0 ∷ [] =
    ap (λ xs. slice_set xs 0 0) c.truncate.ensures.items ∙ first_start c.self.inside.starts.items c.self.invariant.0.begun in
    begun_tables (slice_set c.truncate.new.self.items 0 0) c.clear.new.self.items c.clear-2.new.self.items c.clear-3.new.self.items one c.clear.ensures.items c.clear-3.ensures.items

pub returns : goal.returns
returns c =
    let one : slice_set c.truncate.new.self.items 0 0 ≡ 0 ∷ [] =
    ap (λ xs. slice_set xs 0 0) c.truncate.ensures.items ∙ first_start c.self.inside.starts.items c.self.invariant.0.begun in
    begun_is c.args.first (slice_set c.truncate.new.self.items 0 0) c.clear.new.self.items c.clear-2.new.self.items c.clear-3.new.self.items one

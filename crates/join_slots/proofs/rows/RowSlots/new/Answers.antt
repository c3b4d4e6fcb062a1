use Rattle.std.proofs.Common.{◌≡◌, ◌∙◌, ◌∷◌, ◌++◌, [], ap}
use Rattle.join_slots.proofs.StartLaws.{begun_is, begun_tables}
use Rattle.join_slots.proofs.rows.RowSlots.new.Goals as goal

pub invariant_of-result : goal.invariant_of-result
invariant_of-result c =
    let one : c.push.new.self.items ≡ 0 ∷ [] = c.in_ok-push.ensures.items ∙ ap (λ xs. xs ++ 0 ∷ []) c.new-starts.ensures.items in
    begun_tables c.push.new.self.items c.new.result.items c.new-2.result.items c.new-3.result.items one c.new.ensures.items c.new-3.ensures.items

pub returns : goal.returns
returns c =
    let one : c.push.new.self.items ≡ 0 ∷ [] = c.in_ok-push.ensures.items ∙ ap (λ xs. xs ++ 0 ∷ []) c.new-starts.ensures.items in
    begun_is c.args.first c.push.new.self.items c.new.result.items c.new-2.result.items c.new-3.result.items one

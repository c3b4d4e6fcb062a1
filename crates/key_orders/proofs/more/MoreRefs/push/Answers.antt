use Rattle.std.proofs.Common.{◌≡◌, ◌<◌, ◌≤◌, ℕ, ◌++◌, [], ◌∷◌, ◌∙◌, ap, length, take, map, arith, List}
use Rattle.std.proofs.lemmas.List.{length-map, length-take-le, take_more_set, map_push, length-set}
use Rattle.key_orders.specs.declared.columns.ValueRef.{ValueRef}
use Rattle.key_orders.specs.Values.{value_shown}
use Rattle.key_orders.proofs.more.MoreRefs.push.Goals as goal

-- the array has a place for one value more
room : (values : List ValueRef) (n : ℕ) → n ≤ 24 → length values ≡ 24 → length (map value_shown (take n values)) < 24 → n < 24
room values n le long h =
    let e : length (map value_shown (take n values)) ≡ n = length-map (take n values) value_shown ∙ length-take-le n values (omega arith) in
    omega arith

room_at : (c : goal.After-self) → c.self.inside.len < 24
room_at c =
    let k = c.self.inside in
    room k.values k.len c.self.invariant.0 c.self.invariant.1 (omega (arith, ap length c.self.view_is, c.requires))

pub bounds-self-inside-self-inside : goal.bounds-self-inside-self-inside
bounds-self-inside-self-inside c = room_at c

pub invariant_of-self : goal.invariant_of-self
invariant_of-self c =
    let k = c.self.inside in
    let h = room k.values k.len c.self.invariant.0 c.self.invariant.1 (omega (arith, ap length c.self.view_is, c.requires)) in
    (omega arith, length-set k.values k.len c.args.v ∙ c.self.invariant.1)

pub returns : goal.returns
returns c =
    let k = c.self.inside in
    let h = room k.values k.len c.self.invariant.0 c.self.invariant.1 (omega (arith, ap length c.self.view_is, c.requires)) in
    let e : length k.values ≡ 24 = c.self.invariant.1 in
    ap (map value_shown) (take_more_set k.values k.len c.args.v (omega arith))
    ∙ (map_push value_shown (take k.len k.values) c.args.v ∙ ap (λ xs. xs ++ value_shown c.args.v ∷ []) c.self.view_is)

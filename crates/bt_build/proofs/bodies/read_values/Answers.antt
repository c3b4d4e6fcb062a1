use Rattle.std.proofs.Common.{◌≡◌, ◌∙◌, ◌+◌, ◌-◌, ◌++◌, ◌∷◌, [], ap, arith, append-nil, append_assoc, map, sym, ℕ}
use Rattle.std.proofs.lemmas.List.{map-append}
use Rattle.key_orders.specs.Values.{value_shown}
use Rattle.key_storage.specs.Stored.{value_read, values_read}
use Rattle.key_storage.proofs.StoredLaws.{next_read}
use Rattle.bt_build.proofs.bodies.read_values.Goals as goal

pub loop-init : goal.loop-init
loop-init c =
    let count = c.args.count in
    let bytes = c.args.bytes.now in
    let all : count - 0 ≡ count = omega arith in
    (λ i. map value_shown (c.clear.ensures.items i) ++ values_read (count - 0) bytes) ∙ ap (λ (n : ℕ). values_read n bytes) all

pub loop-preserved : goal.loop-preserved
loop-preserved c =
    let left = c.loop.left.now in
    let k = c.loop.counter in
    let old = map value_shown c.loop.values.items in
    let rest = values_read (c.args.count - (k + 1)) (value_read left).1 in
    (λ i. map value_shown (c.in_ok-push.ensures.items i) ++ values_read (c.args.count - (k + 1)) (c.read_value.ensures.rest i))
    ∙ ap (λ w. w ++ rest) (map-append value_shown c.loop.values.items (c.read_value.result.0 ∷ []))
    ∙ append_assoc old (value_shown c.read_value.result.0 ∷ []) rest
    ∙ (λ i. old ++ (c.read_value.ensures.value i ∷ rest))
    ∙ ap (λ w. old ++ w) (sym (next_read c.args.count k left c.loop-test.true))
    ∙ c.loop.invariant

pub returns : goal.returns
returns c =
    let old = map value_shown c.loop.values.items in
    let none : c.args.count - c.loop.counter ≡ 0 = omega arith in
    sym (append-nil old) ∙ ap (λ (n : ℕ). old ++ values_read n c.loop.left.now) (sym none) ∙ c.loop.invariant

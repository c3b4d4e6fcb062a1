use Rattle.std.proofs.Common.{◌≡◌, ◌+◌, ◌*◌, ◌^◌, ◌∙◌, ℕ, cond, get_or, ap, sym, arith, add-one, map}
use Rattle.key_orders.specs.declared.columns.Value.TheVariants.{Null}
use Rattle.key_orders.specs.Values.{value_shown}
use Rattle.page_write.specs.Bodies.{is_null, presence_bits}
use Rattle.page_write.proofs.BodyLaws.{bit_most, bits_next, pow_next, shown_at, shown_below}
use Rattle.page_write.proofs.bodies.presence_bits.Goals as goal

pub loop-value-init : goal.loop-value-init
unfolding presence_bits
loop-value-init c = (λ i. 0, λ i. 1, omega arith)

pub loop-value-preserved : goal.loop-value-preserved
loop-value-preserved c =
    let refs = c.args.values.now in
    let k = c.loop-value.value-index in
    let is = shown_at refs k c.loop-value-test.true in
    let so_far = c.loop-value.invariant.0 in
    let weight = c.loop-value.invariant.1 in
    let small = c.loop-value.invariant.2 in
    let double : 2 ^ (k + 1) ≡ 2 * 2 ^ k = ap (λ (n : ℕ). 2 ^ n) (add-one k) ∙ pow_next k in
    let v = get_or (map value_shown refs) k Null in
    let bit : c.presence_bit-bits.result ≡ cond (is_null v) 0 (2 ^ k) =
    c.presence_bit-bits.ensures ∙ (λ i. cond (is_null (is i)) 0 (weight i)) in
    let most = bit_most (is_null v) (2 ^ k) in (
      (λ i. so_far i + bit i) ∙ sym (bits_next (map value_shown refs) k Null (shown_below refs k c.loop-value-test.true)),
      omega (arith, weight, double),
      omega (arith, bit, most, small, double),
    )

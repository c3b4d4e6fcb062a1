use Rattle.std.proofs.Common.{◌∙◌, ◌==◌, ◌||◌, ap}
use Rattle.join_unique.specs.Roots.{may_be, place_of}
use Rattle.join_unique.proofs.Steps.{root-past, root-set}
use Rattle.join_unique.proofs.roots.set_root.Goals as goal

pub returns-then-place-bits : goal.returns-then-place-bits
returns-then-place-bits c = λ t.
    root-set c.args.bits.now c.set_bit.new.bits c.place_of-place.result c.set_bit.auto.bits c.set_bit.ensures t
    ∙ ap (λ n. (place_of t == n) || may_be c.args.bits.now t) c.place_of-place.ensures

pub returns-else-place-bits : goal.returns-else-place-bits
returns-else-place-bits c = λ t.
    root-past c.args.bits.now c.place_of-place.result c.if-place-bits.false t
    ∙ ap (λ n. (place_of t == n) || may_be c.args.bits.now t) c.place_of-place.ensures

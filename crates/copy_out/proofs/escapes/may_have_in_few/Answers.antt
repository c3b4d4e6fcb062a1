use Rattle.std.proofs.Common.{◌≡◌, Bool, true, false, refl}
use Rattle.std.specs.Prelude.{◌||◌}
use Rattle.copy_out.specs.Escapes.{escaped}
use Rattle.copy_out.proofs.Runs.{stays_more}
use Rattle.copy_out.proofs.escapes.may_have_in_few.Goals as goal

neither : (a b : Bool) → (a || b) ≡ false → (a ≡ false) × (b ≡ false)
neither false false e = (refl, refl)
neither false true e = absurd cc
neither true b e = absurd cc

pub loop-b-init : goal.loop-b-init
unfolding escaped
loop-b-init c e = refl

pub loop-b-preserved : goal.loop-b-preserved
loop-b-preserved c e =
    let none = neither c.loop-b.found c.may_have_letter-found.result e in
    stays_more c.args.bytes.now c.loop-b.b-index c.loop-b-test.true (c.may_have_letter-found.ensures none.1) (c.loop-b.invariant none.0)

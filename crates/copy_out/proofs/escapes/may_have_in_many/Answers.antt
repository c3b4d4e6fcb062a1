use Rattle.std.proofs.Common.{◌≡◌, ◌+◌, ◌-◌, ℕ, length, arith}
use Rattle.copy_out.proofs.Runs.{none_before, none_in_all}
use Rattle.copy_out.proofs.escapes.may_have_in_many.Goals as goal

pub loop-at-preserved : goal.loop-at-preserved
loop-at-preserved c =
    none_before c.args.bytes.now c.loop-at.at c.loop-at.invariant (c.may_have_letters.ensures c.if-may_have_letters.false)

pub returns : goal.returns
returns c e =
    let bytes = c.args.bytes.now in
    let last : ℕ = length bytes - 32 in
    let long : length bytes ≡ last + 32 = omega (arith, c.requires) in
    none_in_all bytes c.loop-at.at last c.loop-at-test.false long c.loop-at.invariant (c.may_have_letters-2.ensures e)

use Rattle.std.proofs.Common.{◌≡◌, ◌<◌, ◌≤◌, ◌+◌, ◌-◌, ◌^◌, ℕ, zero, suc, ap, arith, refl, sym, ◌∙◌}
use Rattle.std.specs.Prelude.{Some, ℤ, negsuc, pos}
use Rattle.std.specs.Int.{w64}
use lib.IntN.{◌-ℤ◌}
use Rattle.std.proofs.lemmas.Int.{to_z-of_z, to_z_pos}
use mir.Val.{of_z, to_z}
use Rattle.cmd_line.specs.Bounds.{below_zero}
use Rattle.cmd_line.proofs.BoundLaws.{below-is}
use Rattle.cmd_line.proofs.NumberLaws.{large_narrowed, narrowed, none_narrowed}
use Rattle.cmd_line.proofs.bounds.below_zero.Goals as goal
use Rattle.cmd_line.proofs.bounds.below_zero.Goals.{then-number-eq0-via-then-number-eq0, then-number-eq0-via-else-number-eq0+then-number}

few : 2 ^ 63 + 1 ≤ 2 ^ 64
few = omega arith

pub returns-in_err-number : goal.returns-in_err-number
returns-in_err-number c = c.from_residual.ensures ∙ ap below_zero (none_narrowed (2 ^ 63 + 1) few c.args.digits.now (sym c.u64_written.ensures.written ∙ c.in_err-number.was))

pub returns-then-number-eq0 : goal.returns-then-number-eq0
returns-then-number-eq0 c =
    let n = c.in_ok-number.number in
    let is = sym c.u64_written.ensures.written ∙ c.in_ok-number.was in
    elim c.then-number-eq0.branch [
      | then-number-eq0-via-then-number-eq0 w ↦ ap (λ (k : ℕ). below_zero (Some k)) (sym w.if-number-eq0.true) ∙ ap below_zero (narrowed (2 ^ 63 + 1) few c.args.digits.now n is (omega (arith, w.if-number-eq0.true)))
      | then-number-eq0-via-else-number-eq0+then-number w ↦ ap below_zero (large_narrowed (2 ^ 63 + 1) few c.args.digits.now n is (omega (arith, w.if-number.true)))
    ]

minus : (m : ℕ) → negsuc 0 -ℤ pos m ≡ negsuc m
minus zero = refl
minus (suc m) = ap negsuc (omega arith)

negative : (m : ℕ) → m < 2 ^ 63 → to_z w64 (of_z w64 (negsuc 0 -ℤ to_z w64 m)) ≡ negsuc m
negative m small =
    ap (λ (y : ℤ). to_z w64 (of_z w64 (negsuc 0 -ℤ y))) (to_z_pos w64 m small)
    ∙ (ap (λ (y : ℤ). to_z w64 (of_z w64 y)) (minus m) ∙ to_z-of_z w64 (negsuc m) (omega (arith, small)))

pub returns : goal.returns
returns c =
    let n = c.in_ok-number.number in
    let is = sym c.u64_written.ensures.written ∙ c.in_ok-number.was in
    ap Some (negative (n - 1) (omega (arith, c.if-number.false, c.if-number-eq0.false)))
    ∙ (sym (below-is n c.if-number-eq0.false) ∙ ap below_zero (narrowed (2 ^ 63 + 1) few c.args.digits.now n is (omega (arith, c.if-number.false))))

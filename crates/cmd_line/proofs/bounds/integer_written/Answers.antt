use Rattle.std.proofs.Common.{◌≡◌, ◌<◌, ◌≤◌, ◌^◌, ℕ, ap, arith, sym, ◌∙◌}
use Rattle.std.specs.Prelude.{Some, pos}
use Rattle.std.specs.Option.{option_map}
use Rattle.std.specs.Int.{w64}
use Rattle.std.proofs.lemmas.Int.{to_z_pos}
use mir.Val.{to_z}
use Rattle.std.proofs.lemmas.Str.Pattern.{strip_prefix_char}
use Rattle.cmd_line.proofs.BoundLaws.{minus-first, no-minus}
use Rattle.cmd_line.proofs.NumberLaws.{large_narrowed, narrowed, none_narrowed}
use Rattle.cmd_line.proofs.bounds.integer_written.Goals as goal

few : 2 ^ 63 ≤ 2 ^ 64
few = omega arith

pub returns-in-Some : goal.returns-in-Some
returns-in-Some c =
    let cut = rw c.in-Some.is at (strip_prefix_char 45 c.args.word.now c.strip_prefix.result c.strip_prefix.ensures.cases (omega arith)) in
    c.below_zero.ensures ∙ sym (minus-first c.args.word.now c.in-Some.digits.now cut)

pub returns-in_err-number : goal.returns-in_err-number
returns-in_err-number c =
    let word = c.args.word.now in
    let other = rw c.in_default.is at (strip_prefix_char 45 word c.strip_prefix.result c.strip_prefix.ensures.cases (omega arith)) in
    c.from_residual.ensures ∙ (ap (option_map pos) (none_narrowed (2 ^ 63) few word (sym c.u64_written.ensures.written ∙ c.in_err-number.was)) ∙ sym (no-minus word other))

pub returns-then-number : goal.returns-then-number
returns-then-number c =
    let word = c.args.word.now in
    let other = rw c.in_default.is at (strip_prefix_char 45 word c.strip_prefix.result c.strip_prefix.ensures.cases (omega arith)) in
    let is = sym c.u64_written.ensures.written ∙ c.in_ok-number.was in
    ap (option_map pos) (large_narrowed (2 ^ 63) few word c.in_ok-number.number is (omega (arith, c.if-number.true))) ∙ sym (no-minus word other)

positive : (n : ℕ) → n < 2 ^ 63 → to_z w64 n ≡ pos n
positive n small = to_z_pos w64 n small

pub returns : goal.returns
returns c =
    let word = c.args.word.now in
    let n = c.in_ok-number.number in
    let other = rw c.in_default.is at (strip_prefix_char 45 word c.strip_prefix.result c.strip_prefix.ensures.cases (omega arith)) in
    let is = sym c.u64_written.ensures.written ∙ c.in_ok-number.was in
    ap Some (positive n (omega (arith, c.if-number.false))) ∙ (ap (option_map pos) (narrowed (2 ^ 63) few word n is (omega (arith, c.if-number.false))) ∙ sym (no-minus word other))

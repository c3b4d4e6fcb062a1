use Rattle.std.proofs.Common.{◌∙◌, ◌≤◌, ◌^◌, sym, arith}
use Rattle.cmd_line.proofs.NumberLaws.{means, narrowed_is, none_narrowed}
use Rattle.cmd_line.proofs.numbers.u32_written.Goals as goal

few : 2 ^ 32 ≤ 2 ^ 64
few = omega arith

pub returns-in_err-u64_written-clause-written : goal.returns-in_err-u64_written-clause-written
returns-in_err-u64_written-clause-written c =
    c.from_residual.ensures ∙ none_narrowed (2 ^ 32) few c.args.word.now (sym c.u64_written.ensures.written ∙ c.in_err-u64_written.was)

pub returns-clause-written : goal.returns-clause-written
returns-clause-written c =
    c.of_32_bits.ensures
    ∙ narrowed_is (2 ^ 32) few c.args.word.now c.in_ok-u64_written.field-0 (sym c.u64_written.ensures.written ∙ c.in_ok-u64_written.was)

pub returns-in_err-u64_written-clause-means : goal.returns-in_err-u64_written-clause-means
returns-in_err-u64_written-clause-means c = means (2 ^ 32) few c.args.word.now _ (returns-in_err-u64_written-clause-written c)

pub returns-clause-means : goal.returns-clause-means
returns-clause-means c = means (2 ^ 32) few c.args.word.now _ (returns-clause-written c)

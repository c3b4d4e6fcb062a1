use Rattle.std.proofs.Common.{◌∙◌, ◌≤◌, ◌^◌, refl, sym, arith}
use Rattle.std.proofs.lemmas.Slice.Eq.{bytes_eq-Decides}
use Rattle.cmd_line.proofs.NumberLaws.{means, none_written, not_parsed, other_text, text_is_written, written_is_parsed}
use Rattle.cmd_line.specs.Numbers.{u64_written}
use Rattle.cmd_line.proofs.numbers.u64_written.Goals as goal

all : 2 ^ 64 ≤ 2 ^ 64
all = omega arith

pub returns-in_err-number-clause-written : goal.returns-in_err-number-clause-written
returns-in_err-number-clause-written c =
    c.from_residual.ensures
    ∙ none_written (2 ^ 64) all c.args.word.now
    (λ n writes. not_parsed n _ (c.ok.ensures.value ∙ written_is_parsed c.args.word.now c.parse.result n c.parse.ensures.value.0 writes) c.in_err-number.was)
    (u64_written c.args.word.now) refl

pub returns-then-eq-clause-written : goal.returns-then-eq-clause-written
returns-then-eq-clause-written c =
    let same = (bytes_eq-Decides c.format.result.now c.args.word.now).0 (sym c.eq.ensures ∙ c.if-eq.true) in
    sym (text_is_written (2 ^ 64) all c.args.word.now c.in_ok-number.number (sym same ∙ c.format.ensures.text, omega arith))

pub returns-else-eq-clause-written : goal.returns-else-eq-clause-written
returns-else-eq-clause-written c =
    none_written (2 ^ 64) all c.args.word.now
    (λ n writes. other_text c.args.word.now c.format.result.now n c.in_ok-number.number _ writes
    (c.ok.ensures.value ∙ written_is_parsed c.args.word.now c.parse.result n c.parse.ensures.value.0 writes)
    c.in_ok-number.was c.format.ensures.text (sym c.eq.ensures ∙ c.if-eq.false))
    (u64_written c.args.word.now) refl

pub returns-in_err-number-clause-means : goal.returns-in_err-number-clause-means
returns-in_err-number-clause-means c = means (2 ^ 64) all c.args.word.now _ (returns-in_err-number-clause-written c)

pub returns-then-eq-clause-means : goal.returns-then-eq-clause-means
returns-then-eq-clause-means c = means (2 ^ 64) all c.args.word.now _ (returns-then-eq-clause-written c)

pub returns-else-eq-clause-means : goal.returns-else-eq-clause-means
returns-else-eq-clause-means c = means (2 ^ 64) all c.args.word.now _ (returns-else-eq-clause-written c)

use Rattle.std.proofs.Common.{sym, ap, ◌∙◌, arith}
use Rattle.std.specs.Option.{option_map}
use Rattle.std.proofs.lemmas.Str.Pattern.{split_once_first}
use Rattle.cmd_line.proofs.BoundLaws.{no-colon, no-letters, no-values, with-values}
use Rattle.cmd_line.specs.Read.{parts_shown}
use Rattle.cmd_line.proofs.bounds.bound_parts.Goals as goal

pub returns-in_err-name : goal.returns-in_err-name
returns-in_err-name c =
    let none = rw c.in_err-name.was at (split_once_first 58 c.args.word.now c.split_once.result c.split_once.ensures.cases (omega arith)) in
    ap (option_map parts_shown) c.from_residual.ensures ∙ sym (no-colon c.args.side c.args.word.now none)

pub returns-in_err-inclusive : goal.returns-in_err-inclusive
returns-in_err-inclusive c =
    let cut = rw c.in_ok-name.was at (split_once_first 58 c.args.word.now c.split_once.result c.split_once.ensures.cases (omega arith)) in
    ap (option_map parts_shown) c.from_residual-in_err-inclusive.ensures ∙ sym (no-letters c.args.side c.args.word.now c.in_ok-name.name.now c.in_ok-name.values.now cut.1 (sym c.in_err-inclusive.ensures))

pub returns-then-are_values : goal.returns-then-are_values
returns-then-are_values c =
    let cut = rw c.in_ok-name.was at (split_once_first 58 c.args.word.now c.split_once.result c.split_once.ensures.cases (omega arith)) in
    sym (with-values c.args.side c.args.word.now c.in_ok-name.name.now c.in_ok-name.values.now cut.1 c.in_ok-inclusive.inclusive cut.2 (sym c.in_ok-inclusive.ensures) (sym c.if-are_values.ensures))

pub returns-else-are_values : goal.returns-else-are_values
returns-else-are_values c =
    let cut = rw c.in_ok-name.was at (split_once_first 58 c.args.word.now c.split_once.result c.split_once.ensures.cases (omega arith)) in
    sym (no-values c.args.side c.args.word.now c.in_ok-name.name.now c.in_ok-name.values.now cut.1 c.in_ok-inclusive.inclusive cut.2 (sym c.in_ok-inclusive.ensures) (sym c.if-are_values.ensures))

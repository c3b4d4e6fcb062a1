use Rattle.std.proofs.Common.{ap, arith, sym, ◌∙◌}
use Rattle.std.specs.Option.{option_map}
use Rattle.std.proofs.lemmas.Str.Pattern.{strip_prefix_char}
use Rattle.key_orders.specs.declared.columns.Value.TheVariants.{Bytes}
use Rattle.cmd_line.specs.Bounds.{are_pairs}
use Rattle.cmd_line.specs.Read.{value_told}
use Rattle.cmd_line.proofs.BoundLaws.{octets-none, octets-odd, octets-some, value-else}
use Rattle.cmd_line.proofs.bounds.value_written.Goals as goal

pub returns-in_err-digits : goal.returns-in_err-digits
returns-in_err-digits c =
    let word = c.args.word.now in
    let none = sym c.integer_written.ensures ∙ c.in_default.is in
    let other = rw c.in_err-digits.was at (strip_prefix_char 120 word c.strip_prefix.result c.strip_prefix.ensures.cases (omega arith)) in
    ap (option_map value_told) c.from_residual.ensures
    ∙ sym (value-else word (sym c.eq.ensures ∙ c.if-eq.false) (sym c.eq-2.ensures ∙ c.if-eq-2.false) (sym c.eq-3.ensures ∙ c.if-eq-3.false) none ∙ ap (option_map Bytes) (octets-none word other))

pub returns-then-are_pairs : goal.returns-then-are_pairs
returns-then-are_pairs c =
    let word = c.args.word.now in
    let digits = c.in_ok-digits.digits.now in
    let none = sym c.integer_written.ensures ∙ c.in_default.is in
    let cut = rw c.in_ok-digits.was at (strip_prefix_char 120 word c.strip_prefix.result c.strip_prefix.ensures.cases (omega arith)) in
    let pairs = ap are_pairs (sym c.as_bytes.ensures.value) ∙ (sym c.are_pairs.ensures ∙ c.if-are_pairs.true) in
    sym (value-else word (sym c.eq.ensures ∙ c.if-eq.false) (sym c.eq-2.ensures ∙ c.if-eq-2.false) (sym c.eq-3.ensures ∙ c.if-eq-3.false) none ∙ ap (option_map Bytes) (octets-some word digits cut pairs))

pub returns-else-are_pairs : goal.returns-else-are_pairs
returns-else-are_pairs c =
    let word = c.args.word.now in
    let digits = c.in_ok-digits.digits.now in
    let none = sym c.integer_written.ensures ∙ c.in_default.is in
    let cut = rw c.in_ok-digits.was at (strip_prefix_char 120 word c.strip_prefix.result c.strip_prefix.ensures.cases (omega arith)) in
    let odd = ap are_pairs (sym c.as_bytes.ensures.value) ∙ (sym c.are_pairs.ensures ∙ c.if-are_pairs.false) in
    sym (value-else word (sym c.eq.ensures ∙ c.if-eq.false) (sym c.eq-2.ensures ∙ c.if-eq-2.false) (sym c.eq-3.ensures ∙ c.if-eq-3.false) none ∙ ap (option_map Bytes) (octets-odd word digits cut odd))

use Rattle.std.proofs.Common.{◌∙◌, Err, ap, rules}
use Rattle.laws_search.specs.Keys.{Bound}
use Rattle.key_orders.specs.declared.columns.Value.{Value}
use Rattle.cmd_line.specs.Bounds.{bounds_in}
use Rattle.cmd_run.proofs.ScanLaws.{too_long}
use Rattle.cmd_run.proofs.scan.bounded_output.Goals as goal

pub returns-in-Err-TooLong : goal.returns-in-Err-TooLong
returns-in-Err-TooLong g c = record {
  output = λ names told.
      let bounds = bounds_in c.args.words.low.now c.args.words.high.now in
      let low = c.deref.ensures.value ∙ ap (λ (b : Bound Value). b.values) c.in_ok-low.ensures in
      let high = c.deref-2.ensures.value ∙ ap (λ (b : Bound Value). b.values) c.in_ok-high.ensures in
      c.in_ok-bad_bound_output-in-Err-TooLong.ensures
      ∙ too_long c.args.case.now names c.args.index bounds c.args.words.direction c.index_keys-keys.result.now c.deref.result.now c.deref-2.result.now c.index_keys-keys.ensures low high (c.new.ensures.too_long.0 (c.in-Err-TooLong.is ∙ ap Err c.in-Err-TooLong.field-0-is));
  asked = search rules;
}

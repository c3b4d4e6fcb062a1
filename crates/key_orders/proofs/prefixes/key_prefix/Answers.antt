use Rattle.std.proofs.Common.{map, arith}
use Rattle.std.proofs.lemmas.Grind.{common_steps}
use Rattle.key_orders.specs.Prefixes.{IsPrefix}
use Rattle.key_orders.specs.Values.{value_shown}
use Rattle.key_orders.proofs.PrefixLaws.{prefixes_rise}
use Rattle.key_orders.proofs.prefixes.key_prefix.Goals as goal

pub returns-clause-below : goal.returns-clause-below
returns-clause-below c =
    let this : IsPrefix c.args.specs.now (map value_shown c.args.values.now) c.value_prefix.result = grind (arith, common_steps) in
    λ other number is lt fits fit. prefixes_rise c.args.specs.now (map value_shown c.args.values.now) other c.value_prefix.result number this is lt fits fit

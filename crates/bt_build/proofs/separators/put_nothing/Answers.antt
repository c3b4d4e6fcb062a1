use Rattle.std.proofs.Common.{◌∙◌, refl}
use Rattle.std.proofs.lemmas.Result.{on_ok_weaker}
use Rattle.bt_build.proofs.SeparatorLaws.{nothing_laid}
use Rattle.bt_build.proofs.separators.put_nothing.Goals as goal

pub returns : goal.returns
returns c = on_ok_weaker c.put_pivot_tuple.result (λ is. λ specs. is ∙ nothing_laid specs c.args.down _ refl) c.put_pivot_tuple.ensures

use Rattle.std.proofs.Common.{◌∙◌, sym}
use Rattle.std.proofs.lemmas.Bool.{eqb-true, not-false}
use Rattle.std.proofs.lemmas.List.{nil_from_length}
use Rattle.join_row_keys.proofs.keys.KeyedHeap.includes.Goals as goal

pub returns : goal.returns
returns c = λ none. sym c.more.ensures ∙ nil_from_length c.more.result.now (eqb-true _ _ (sym c.is_empty.ensures ∙ not-false c.is_empty.result none))

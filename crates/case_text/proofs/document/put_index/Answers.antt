use Rattle.std.proofs.Common.{rules}
use Rattle.case_text.specs.Written.{index_pairs, with_member}
use Rattle.case_text.proofs.document.put_index.Goals as goal

pub returns : goal.returns
unfolding index_pairs with_member
returns c = search rules

use Rattle.copy_out.proofs.Refusals.{refused_is_no_text, refused_once}
use Rattle.copy_out.proofs.laws.refusals_are_right.Goals as goal

pub returns : goal.returns
returns c = record { no_text = refused_is_no_text; once = refused_once }

use Rattle.std.proofs.Common.{ℕ, List, ◌∙◌, ap}
use Rattle.cmd_answers.specs.Outcome.{Outcome}
use Rattle.cmd_answers.specs.Show.{shown_text}
use Rattle.cmd_answers.proofs.show.block_output.Goals as goal

-- the page in hand is the block
pub returns-clause-output : goal.returns-clause-output
returns-clause-output g c names bytes told there =
    ap {B = Outcome} (λ (text : List ℕ). record { bytes = text; code = 0 })
    (c.in_ok-text.ensures ∙ ap (shown_text c.args.of c.args.block) (c.new.ensures ∙ c.in_ok-read_block.ensures.bytes names bytes told there))

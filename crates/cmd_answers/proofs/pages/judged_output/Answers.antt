use Rattle.std.proofs.Common.{◌≡◌, ℕ, List, Some, ◌/◌, ◌∙◌, length, refl, ap}
use Rattle.outside.specs.Adds.{each_below}
use Rattle.reports.specs.Added.{joined, nothing, report_lists}
use Rattle.reports.specs.Lists.{Lists}
use Rattle.cmd_answers.specs.Pages.{block_found, file_found}
use Rattle.cmd_answers.specs.Outcome.{reported}
use Rattle.cmd_answers.proofs.pages.judged_output.Goals as goal

-- a report that began empty, and then got what is found of all blocks
of_all_blocks : (now start : Lists) (bytes : List ℕ) (blocks : ℕ) → now ≡ joined start (each_below report_lists (block_found (Some bytes)) blocks) → start ≡ nothing → length bytes / 8192 ≡ blocks → reported now ≡ reported (file_found (Some bytes))
unfolding file_found
of_all_blocks now start bytes blocks judged none count =
    ap reported (judged ∙ (ap (λ (l : Lists). joined l (each_below report_lists (block_found (Some bytes)) blocks)) none ∙ rw count refl))

pub returns-clause-output : goal.returns-clause-output
returns-clause-output g c names bytes told there =
    let count : length bytes / 8192 ≡ c.args.blocks = rw there at (c.requires names told) in
    c.in_ok-report_output.ensures
    ∙ of_all_blocks _ _ bytes _ (c.in_ok-judge_blocks.ensures.found names bytes told there) c.new-report.ensures count

use Rattle.std.proofs.Common.{ℕ, List, ◌∙◌, ap}
use Rattle.heap_page_check.specs.Alone.{lone_page_found}
use Rattle.reports.specs.Added.{joined}
use Rattle.cmd_answers.specs.Pages.{block_found}
use Rattle.cmd_answers.proofs.pages.judge_block.Goals as goal

pub returns-clause-found : goal.returns-clause-found
unfolding block_found
returns-clause-found g c names bytes told there =
    c.in_ok-judge_page.ensures
    ∙ ap (λ (page : List ℕ). joined c.args.report.now (lone_page_found c.args.block page)) (c.in_ok-read_block.ensures.bytes names bytes told there)

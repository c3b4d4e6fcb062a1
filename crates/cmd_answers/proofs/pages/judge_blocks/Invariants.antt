use Rattle.std.proofs.Common.{◌≡◌, Some}
use Rattle.outside.specs.Adds.{each_below}
use Rattle.outside.specs.Outside.{IfHeld, Passed}
use Rattle.outside.specs.declared.files.Part.TheVariants.{Segment}
use Rattle.reports.specs.Added.{joined, report_lists}
use Rattle.cmd_answers.specs.Pages.{block_found}
use Rattle.cmd_answers.proofs.pages.judge_blocks.Given as goal

-- what is found of the blocks so far is added
abbrev pub invariant-loop-block : goal.invariant-loop-block
invariant-loop-block g l = record {
  found : IfHeld g.F.Files.seen l.initial.files l.file (Segment 0) (λ bytes. l.report ≡ joined l.initial.report (each_below report_lists (block_found (Some bytes)) l.block));
  asked : Passed g.F.Files.seen l.initial.files l.files;
}

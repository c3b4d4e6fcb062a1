use Rattle.std.proofs.Common.{◌≡◌, List, length}
use Rattle.outside.specs.Outside.{Names}
use Rattle.case_file.specs.Record.{CaseRecord}
use Rattle.bt_levels.specs.declared.files.TreeFile.{TreeFile}
use Rattle.cmd_run.specs.Together.{AreAlone, WerePut, joint_lists, quiet_numbers}
use Rattle.cmd_run.proofs.together.Alone.append_to.Given as goal

-- the reports of those that aren't left were added
abbrev pub invariant-loop-own : goal.invariant-loop-own
invariant-loop-own l = (case : CaseRecord) (names : Names) (files : List TreeFile) → AreAlone case names files l.fn.self → l.fn.joint.items ≡ joint_lists case names l.are_joined (quiet_numbers case names files)
    → WerePut case names l.are_joined files l.alone l.joint.items l.fn.report l.report

abbrev pub decreases-loop-own : goal.decreases-loop-own
decreases-loop-own l = length l.alone.own.items

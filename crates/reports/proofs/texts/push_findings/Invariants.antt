use Rattle.std.proofs.Common.{◌≡◌, ◌++◌, take}
use Rattle.std.specs.List.{flat_map}
use Rattle.reports.specs.Texts.{finding_line}
use Rattle.reports.proofs.texts.push_findings.Given as goal

-- the lines of the findings so far stand after what was there
abbrev pub invariant-loop-finding : goal.invariant-loop-finding
invariant-loop-finding l = l.text ≡ l.initial.text ++ flat_map finding_line (take l.finding-index l.findings)

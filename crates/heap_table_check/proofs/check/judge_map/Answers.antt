use Rattle.std.proofs.Common.{◌≤◌, arith}
use Rattle.std.proofs.lemmas.Result.{on_ok_weaker}
use Rattle.heap_table_check.proofs.CaseRules.{map_added, no_map}
use Rattle.heap_table_check.proofs.check.judge_map.Goals as goal

pub judge_pages-requires-clause-attached : goal.judge_pages-requires-clause-attached
judge_pages-requires-clause-attached g c names told = (rw c.in-Some.is at (c.requires.told names told).map).attached

pub judge_pages-requires-clause-hand : goal.judge_pages-requires-clause-hand
judge_pages-requires-clause-hand g c names told = rw c.in-Some.is at (c.requires.hand names told)

pub returns-in-None-clause-found : goal.returns-in-None-clause-found
returns-in-None-clause-found g c names told =
    let some : 1 ≤ c.args.case.now.segment_blocks = omega (arith, c.sound.ensures.segment_blocks) in
    no_map c.args.case.now names c.args.report.now some (rw c.in-None.is at (c.requires.told names told).map)

pub returns-in_ok-add_segment-in-Some-clause-found : goal.returns-in_ok-add_segment-in-Some-clause-found
returns-in_ok-add_segment-in-Some-clause-found g c =
    on_ok_weaker c.judge_pages.result (λ now names told.
    map_added c.args.case.now names c.in-Some.map c.args.report.now _ _ (rw c.in-Some.is at c.requires.belong.map) (rw c.in-Some.is at (c.requires.told names told).map)
    (rw c.long_segment.ensures at c.in_ok-add_segment-in-Some.ensures) (now names told)) c.judge_pages.ensures.found

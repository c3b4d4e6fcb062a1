use Rattle.std.proofs.Common.{◌∙◌, Bool, List, ap, subst}
use Rattle.outside.specs.Adds.{Begins}
use Rattle.outside.proofs.Adding.{Adds-exit, Begins-none}
use Rattle.reports.specs.Added.{joined, report_lists}
use Rattle.reports.specs.Lists.{Lists}
use Rattle.bt_levels.specs.Files.{number_of}
use Rattle.bt_levels.specs.Sound.{file_of}
use Rattle.heap_table_check.specs.Case.{heap_blocks, heap_page}
use Rattle.join_rules.specs.Lists.{entries_lists}
use Rattle.heap_indexed.proofs.Cases.{strays-are}
use Rattle.join_row_keys.proofs.Pages.{set-says}
use Rattle.heap_indexed.proofs.check.check_strays.Goals as goal

pub check_entries-requires : goal.check_entries-requires
check_entries-requires g c = record { holds = λ names told. (c.requires.hold names told).tree }

pub returns-in_err-slots-clause-lists : goal.returns-in_err-slots-clause-lists
returns-in_err-slots-clause-lists g c = λ names told.
    let owed = entries_lists c.args.at.case.now names (number_of (file_of c.args.at.tree.now)) in
    Adds-exit report_lists c.from_residual.result _ c.args.report.now c.args.report.now owed c.from_residual.ensures.1 (Begins-none report_lists c.args.report.now owed)

pub returns-in_err-check_entries-clause-lists : goal.returns-in_err-check_entries-clause-lists
returns-in_err-check_entries-clause-lists g c = λ names told.
    let case = c.args.at.case.now in
    let heap = c.args.at.heap.now in
    let hold = c.requires.hold names told in
    let set : List (List Bool) = c.targets.result.now in
    let says = set-says case names heap c.requires.belong.heap hold.heap set c.targets.ensures (c.set_tells_of_pages.ensures.tells (heap_page case names) (heap_blocks case names)) in
    Adds-exit report_lists c.from_residual-in_err-check_entries.result _ c.args.report.now c.check_entries.new.report (entries_lists case names (number_of (file_of c.args.at.tree.now))) c.from_residual-in_err-check_entries.ensures.1
    (subst (λ (l : Lists). Begins report_lists c.args.report.now c.check_entries.new.report l) (strays-are case names c.args.at.tree.now c.requires.belong.index hold.file set says)
    (c.in_err-check_entries.ensures.lists names told (λ tid some. absurd (some (c.in_ok-slots.ensures.keys tid)))))

pub returns-clause-lists : goal.returns-clause-lists
returns-clause-lists g c = λ names told.
    let case = c.args.at.case.now in
    let heap = c.args.at.heap.now in
    let hold = c.requires.hold names told in
    let set : List (List Bool) = c.targets.result.now in
    let says = set-says case names heap c.requires.belong.heap hold.heap set c.targets.ensures (c.set_tells_of_pages.ensures.tells (heap_page case names) (heap_blocks case names)) in
    c.in_ok-check_entries.ensures.lists names told (λ tid some. absurd (some (c.in_ok-slots.ensures.keys tid)))
    ∙ ap (joined c.args.report.now) (strays-are case names c.args.at.tree.now c.requires.belong.index hold.file set says)

use Rattle.std.proofs.Common.{◌≡◌, ◌∙◌, false, true, ap, sym}
use Rattle.reports.specs.Added.{joined}
use Rattle.reports.specs.Lists.{Lists}
use Rattle.bt_levels.specs.Files.{number_of}
use Rattle.bt_levels.specs.Sound.{file_of}
use Rattle.join_rules.specs.Lists.{entries_lists, joined_lists, rows_lists}
use Rattle.heap_indexed.proofs.Cases.{both-are}
use Rattle.join_look_ups.proofs.Owed.{settled-more}
use Rattle.heap_indexed.proofs.check.index_report.Goals as goal

pub probe_rows-requires-clause-of : goal.probe_rows-requires-clause-of
probe_rows-requires-clause-of g c = λ names told. c.in_ok-look_ups.ensures.of names c.args.at.tree.now

pub check_strays-requires-clause-hold : goal.check_strays-requires-clause-hold
check_strays-requires-clause-hold g c = λ names told. c.requires.hold names (sym c.probe_rows.ensures.asked.same ∙ told)

pub add_duplicates-requires-clause-hold : goal.add_duplicates-requires-clause-hold
add_duplicates-requires-clause-hold g c = λ names told. c.requires.hold names (sym c.probe_rows.ensures.asked.same ∙ sym c.check_strays.ensures.asked.same ∙ told)

pub add_duplicates-requires-clause-apart : goal.add_duplicates-requires-clause-apart
add_duplicates-requires-clause-apart g c = λ names told known. absurd (let clash : false ≡ true = known in cc)

pub add_duplicates-requires-clause-joined : goal.add_duplicates-requires-clause-joined
add_duplicates-requires-clause-joined g c = λ names told.
    let case = c.args.at.case.now in
    let n = number_of (file_of c.args.at.tree.now) in
    let later = sym c.check_strays.ensures.asked.same ∙ told in
    let begin = sym c.probe_rows.ensures.asked.same ∙ later in
    c.in_ok-check_strays.ensures.lists names later
    ∙ settled-more c.new-report.result c.probe_rows.new.report (rows_lists case names n) (entries_lists case names n) (c.in_ok-probe_rows.ensures.lists names begin)
    ∙ ap (joined c.new-report.result) (sym (both-are case names n))
    ∙ ap (λ (l : Lists). joined l (joined_lists case names n)) c.new-report.ensures

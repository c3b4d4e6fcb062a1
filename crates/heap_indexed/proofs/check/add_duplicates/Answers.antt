use Rattle.std.proofs.Common.{◌≡◌, ◌∙◌, ◌≤◌, ◌⊎◌, length, ap, sym, subst}
use Rattle.reports.specs.Lists.{Lists}
use Rattle.bt_levels.specs.Files.{number_of}
use Rattle.bt_levels.specs.Sound.{file_of}
use Rattle.bt_pages.specs.Broken.{AreEmpty}
use Rattle.join_rules.specs.Lists.{duplicates_lists, indexed_lists}
use Rattle.heap_indexed.proofs.Asked.{asked, joined-nothing, not-asked, nothing-there, some-of}
use Rattle.heap_indexed.proofs.check.add_duplicates.Goals as goal

pub returns-then-not-is_empty-clause-lists : goal.returns-then-not-is_empty-clause-lists
returns-then-not-is_empty-clause-lists g c = λ names told.
    let case = c.args.at.case.now in
    let n = number_of (file_of c.args.at.tree.now) in
    let was = c.requires.joined names told in
    let some = some-of (length c.args.report.now.findings) (length c.args.report.now.unjudged) c.is_empty.result c.if-not-is_empty.true c.is_empty.ensures in
    was ∙ not-asked case names n (subst (λ (l : Lists). 1 ≤ length l.findings ⊎ 1 ≤ length l.unjudged) was some)

pub check_duplicates-requires-clause-joined : goal.check_duplicates-requires-clause-joined
check_duplicates-requires-clause-joined g c = λ names told.
    let case = c.args.at.case.now in
    let n = number_of (file_of c.args.at.tree.now) in
    let counts = c.is_empty.ensures.0 c.if-not-is_empty.false in
    (c.heaps_and_indexes_are_judged.ensures case names n).joined
    (subst AreEmpty (c.requires.joined names told) (nothing-there c.args.report.now counts.0 counts.1))

pub returns-clause-lists : goal.returns-clause-lists
returns-clause-lists g c = λ names told.
    let case = c.args.at.case.now in
    let n = number_of (file_of c.args.at.tree.now) in
    let was = c.requires.joined names told in
    let counts = c.is_empty.ensures.0 c.if-not-is_empty.false in
    let owed : duplicates_lists case names n ≡ indexed_lists case names n =
    sym (asked case names n (ap (λ (l : Lists). length l.findings) (sym was) ∙ counts.0) (ap (λ (l : Lists). length l.unjudged) (sym was) ∙ counts.1)) in
    c.in_ok-_looks.ensures.lists names told ∙ joined-nothing c.args.report.now (duplicates_lists case names n) counts.0 counts.1 ∙ owed

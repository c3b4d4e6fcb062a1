use Rattle.std.proofs.Common.{◌≡◌, ◌∙◌, false, true, ap, subst, sym, refl}
use Rattle.outside.specs.Adds.{Begins}
use Rattle.outside.proofs.Adding.{Adds-exit, Begins-none}
use Rattle.reports.specs.Added.{joined, report_lists}
use Rattle.reports.specs.Lists.{Lists}
use Rattle.heap_page_check.specs.Found.{FoundLists}
use Rattle.heap_table_check.specs.Found.{case_found}
use Rattle.heap_table_check.proofs.CaseLists.{nothing_added, nothing_is_quiet, owed_of, quiet_is_nothing}
use Rattle.heap_table_check.proofs.KnownLaws.{quiet_keeps}
use Rattle.heap_table_check.proofs.check.check_heap.Goals as goal

some_is_none : false ≡ true → ⊥
some_is_none e = cc

pub returns-in_err-found-clause-found : goal.returns-in_err-found-clause-found
returns-in_err-found-clause-found g c names told =
    Adds-exit report_lists c.from_residual.result _ c.args.report.now c.args.report.now (case_found c.args.case.now names) c.from_residual.ensures.1
    (Begins-none report_lists c.args.report.now (case_found c.args.case.now names))

pub returns-in_err-add_found-clause-found : goal.returns-in_err-add_found-clause-found
returns-in_err-add_found-clause-found g c names told =
    Adds-exit report_lists c.from_residual-in_err-add_found.result _ c.args.report.now c.add_found.new.report (case_found c.args.case.now names) c.from_residual-in_err-add_found.ensures.1
    (subst (λ (l : Lists). Begins report_lists c.args.report.now c.add_found.new.report l) (owed_of c.args.case.now names _ (c.in_ok-found.ensures.found names told)) c.in_err-add_found.ensures.added)

pub returns-in-None-clause-found : goal.returns-in-None-clause-found
returns-in-None-clause-found g c names told = c.in_ok-add_found.ensures.added ∙ ap (joined c.args.report.now) (owed_of c.args.case.now names _ (c.in_ok-found.ensures.found names told))

pub returns-in-None-clause-grown : goal.returns-in-None-clause-grown
returns-in-None-clause-grown g c =
    let none = rw c.in-None.is at c.in_ok-add_found.ensures.none in
    ((λ some. absurd (some_is_none some)), λ same. none.1 (nothing_added _ _ _ c.in_ok-add_found.ensures.added same))

pub returns-in-None-clause-quiet : goal.returns-in-None-clause-quiet
returns-in-None-clause-quiet g c names told =
    let none = rw c.in-None.is at c.in_ok-add_found.ensures.none in
    ((λ some. absurd (some_is_none some)), λ quiet. none.1 (owed_of c.args.case.now names _ (c.in_ok-found.ensures.found names told) ∙ quiet_is_nothing c.args.case.now names quiet))

pub returns-in-Some-clause-found : goal.returns-in-Some-clause-found
returns-in-Some-clause-found g c names told = c.in_ok-add_found.ensures.added ∙ ap (joined c.args.report.now) (owed_of c.args.case.now names _ (c.in_ok-found.ensures.found names told))

pub returns-in-Some-clause-quiet : goal.returns-in-Some-clause-quiet
returns-in-Some-clause-quiet g c names told =
    let some = rw c.in-Some.is at c.in_ok-add_found.ensures.none in
    ((λ is. nothing_is_quiet c.args.case.now names (sym (owed_of c.args.case.now names _ (c.in_ok-found.ensures.found names told)) ∙ some.0 refl)), λ quiet. refl)

pub returns-in-Some-clause-sound : goal.returns-in-Some-clause-sound
returns-in-Some-clause-sound g c names told =
    let chunks = rw c.in-Some.is at c.in_ok-add_found.ensures.chunks in
    let some = rw c.in-Some.is at c.in_ok-add_found.ensures.none in
    let quiet = nothing_is_quiet c.args.case.now names (sym (owed_of c.args.case.now names _ (c.in_ok-found.ensures.found names told)) ∙ some.0 refl) in
    record {
      files = c.requires.told names told;
      chunks = chunks ∙ ap (λ (f : FoundLists). f.chunks) (c.in_ok-found.ensures.found names told);
      targets = (c.in_ok-found.ensures.known names told).targets (quiet_keeps c.args.case.now names quiet);
      plain = (c.in_ok-found.ensures.known names told).plain;
    }

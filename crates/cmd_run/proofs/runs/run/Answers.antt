use Rattle.std.proofs.Common.{◌≡◌, ◌≢◌, ◌⊎◌, ℕ, inl, inr, ◌∙◌, sym, ap, arith}
use Rattle.cmd_line.specs.Seen.{form_asked, form_seen}
use Rattle.cmd_answers.specs.Seen.{outcome_seen}
use Rattle.cmd_run.proofs.CopyLaws.{copy_worth, given_up_copy}
use Rattle.cmd_run.proofs.ReindexLaws.{given_up_reindex, reindex_worth}
use Rattle.cmd_run.proofs.ScannedLaws.{given_up_scan, scan_worth}
use Rattle.cmd_run.proofs.Worth.{gave_up_generated, given_up_worth, worth_by, worth_generated}
use Rattle.cmd_answers.specs.Answers.{IsOutcomeCode}
use Rattle.cmd_run.proofs.runs.run.Goals as goal

pub returns-in-Ok-clause-report : goal.returns-in-Ok-clause-report
returns-in-Ok-clause-report g c names told check lists asked e =
    let form = ap form_asked (sym c.in-Some.is) ∙ c.command_of.ensures ∙ asked in
    worth_by c.reports_have_worth.ensures (form_seen c.in-Some.command) check names lists (outcome_seen c.in-Ok.output) form e (c.in-Ok.ensures.output names told) _ _ _
    (rw c.as_slice.ensures at c.write_text-in-Ok.ensures.meets) c.write_text-in-Ok.ensures.codes

pub returns-in-Err-NoMemory-clause-report : goal.returns-in-Err-NoMemory-clause-report
returns-in-Err-NoMemory-clause-report g c names told check lists asked e = given_up_worth c.reports_have_worth.ensures check names lists e _ _ _ (inr c.status.ensures)

pub returns-then-refused_memory-clause-report : goal.returns-then-refused_memory-clause-report
returns-then-refused_memory-clause-report g c names told check lists asked e =
    given_up_worth c.reports_have_worth.ensures check names lists e _ _ _ (inr c.status-then-refused_memory.ensures)

pub returns-else-refused_memory-clause-report : goal.returns-else-refused_memory-clause-report
returns-else-refused_memory-clause-report g c names told check lists asked e =
    given_up_worth c.reports_have_worth.ensures check names lists e _ _ _ (inl c.status-else-refused_memory.ensures)

not_seven : (code : ℕ) → IsOutcomeCode code ⊎ (code ≡ 8) → code ≢ 7
not_seven code (inl (inl small)) seven = absurd (omega (arith, small, seven))
not_seven code (inl (inr (inl ten))) seven = absurd (omega (arith, ten, seven))
not_seven code (inl (inr (inr (inl eleven)))) seven = absurd (omega (arith, eleven, seven))
not_seven code (inl (inr (inr (inr twelve)))) seven = absurd (omega (arith, twelve, seven))
not_seven code (inr eight) seven = absurd (omega (arith, eight, seven))

pub returns-in-Ok-clause-generated : goal.returns-in-Ok-clause-generated
returns-in-Ok-clause-generated g c seed rows asked names =
    let form = ap form_asked (sym c.in-Some.is) ∙ c.command_of.ensures ∙ asked in
    worth_generated c.reports_have_worth.ensures seed rows names (outcome_seen c.in-Ok.output) (c.in-Ok.ensures.generated seed rows form) _ _ _
    (rw c.as_slice.ensures at c.write_text-in-Ok.ensures.meets) c.write_text-in-Ok.ensures.codes (not_seven _ c.write_text-in-Ok.ensures.known)

pub returns-in-Err-NoMemory-clause-generated : goal.returns-in-Err-NoMemory-clause-generated
returns-in-Err-NoMemory-clause-generated g c seed rows asked names = gave_up_generated c.reports_have_worth.ensures seed rows names _ _ _ c.status.ensures

pub returns-then-refused_memory-clause-generated : goal.returns-then-refused_memory-clause-generated
returns-then-refused_memory-clause-generated g c seed rows asked names =
    gave_up_generated c.reports_have_worth.ensures seed rows names _ _ _ c.status-then-refused_memory.ensures

pub returns-in-Ok-clause-copied : goal.returns-in-Ok-clause-copied
returns-in-Ok-clause-copied g c names told file case lists asked meant e =
    let form = ap form_asked (sym c.in-Some.is) ∙ c.command_of.ensures ∙ asked in
    copy_worth c.reports_have_worth.ensures file case names lists meant e (form_seen c.in-Some.command) (outcome_seen c.in-Ok.output) form (c.in-Ok.ensures.output names told) _ _ _
    (rw c.as_slice.ensures at c.write_text-in-Ok.ensures.meets)

pub returns-in-Err-NoMemory-clause-copied : goal.returns-in-Err-NoMemory-clause-copied
returns-in-Err-NoMemory-clause-copied g c names told file case lists asked meant e =
    given_up_copy c.reports_have_worth.ensures file case names lists meant e _ _ _ (inr c.status.ensures)

pub returns-then-refused_memory-clause-copied : goal.returns-then-refused_memory-clause-copied
returns-then-refused_memory-clause-copied g c names told file case lists asked meant e =
    given_up_copy c.reports_have_worth.ensures file case names lists meant e _ _ _ (inr c.status-then-refused_memory.ensures)

pub returns-else-refused_memory-clause-copied : goal.returns-else-refused_memory-clause-copied
returns-else-refused_memory-clause-copied g c names told file case lists asked meant e =
    given_up_copy c.reports_have_worth.ensures file case names lists meant e _ _ _ (inl c.status-else-refused_memory.ensures)

pub returns-in-Ok-clause-reindexed : goal.returns-in-Ok-clause-reindexed
returns-in-Ok-clause-reindexed g c names told file name case n lists asked meant numbered e =
    let form = ap form_asked (sym c.in-Some.is) ∙ c.command_of.ensures ∙ asked in
    reindex_worth c.reports_have_worth.ensures file name case names n lists meant numbered e (form_seen c.in-Some.command) (outcome_seen c.in-Ok.output) form (c.in-Ok.ensures.output names told)
    (c.in-Ok.ensures.made names told file name form) _ _ _ (rw c.as_slice.ensures at c.write_text-in-Ok.ensures.meets)

pub returns-in-Err-NoMemory-clause-reindexed : goal.returns-in-Err-NoMemory-clause-reindexed
returns-in-Err-NoMemory-clause-reindexed g c names told file name case n lists asked meant numbered e =
    given_up_reindex c.reports_have_worth.ensures file name case names n lists meant numbered e _ _ _ (inr c.status.ensures)

pub returns-then-refused_memory-clause-reindexed : goal.returns-then-refused_memory-clause-reindexed
returns-then-refused_memory-clause-reindexed g c names told file name case n lists asked meant numbered e =
    given_up_reindex c.reports_have_worth.ensures file name case names n lists meant numbered e _ _ _ (inr c.status-then-refused_memory.ensures)

pub returns-else-refused_memory-clause-reindexed : goal.returns-else-refused_memory-clause-reindexed
returns-else-refused_memory-clause-reindexed g c names told file name case n lists asked meant numbered e =
    given_up_reindex c.reports_have_worth.ensures file name case names n lists meant numbered e _ _ _ (inl c.status-else-refused_memory.ensures)

pub returns-in-Ok-clause-scanned : goal.returns-in-Ok-clause-scanned
returns-in-Ok-clause-scanned g c names told file name bounds direction case n lists asked meant numbered fits judged =
    let form = ap form_asked (sym c.in-Some.is) ∙ c.command_of.ensures ∙ asked in
    scan_worth c.reports_have_worth.ensures case names n bounds direction lists judged file name meant numbered fits (form_seen c.in-Some.command) (outcome_seen c.in-Ok.output) form
    (c.in-Ok.ensures.output names told) _ _ _ (rw c.as_slice.ensures at c.write_text-in-Ok.ensures.meets)

pub returns-in-Err-NoMemory-clause-scanned : goal.returns-in-Err-NoMemory-clause-scanned
returns-in-Err-NoMemory-clause-scanned g c names told file name bounds direction case n lists asked meant numbered fits judged =
    given_up_scan c.reports_have_worth.ensures case names n bounds direction lists judged _ _ _ (inr c.status.ensures)

pub returns-then-refused_memory-clause-scanned : goal.returns-then-refused_memory-clause-scanned
returns-then-refused_memory-clause-scanned g c names told file name bounds direction case n lists asked meant numbered fits judged =
    given_up_scan c.reports_have_worth.ensures case names n bounds direction lists judged _ _ _ (inr c.status-then-refused_memory.ensures)

pub returns-else-refused_memory-clause-scanned : goal.returns-else-refused_memory-clause-scanned
returns-else-refused_memory-clause-scanned g c names told file name bounds direction case n lists asked meant numbered fits judged =
    given_up_scan c.reports_have_worth.ensures case names n bounds direction lists judged _ _ _ (inl c.status-else-refused_memory.ensures)

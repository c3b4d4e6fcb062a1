-- What is added to a report of a case, and when it is nothing.
use Rattle.std.proofs.Common.{◌≡◌, List, [], ◌∷◌, ◌++◌, refl, sym, ap, ◌∙◌}
use Rattle.outside.specs.Outside.{Names}
use Rattle.case_file.specs.Record.{CaseRecord}
use Rattle.reports.specs.Added.{joined, nothing, report_lists}
use Rattle.reports.specs.Lists.{Lists}
use Rattle.reports.specs.declared.places.Finding.{Finding}
use Rattle.reports.specs.declared.places.UnjudgedPlace.{UnjudgedPlace}
use Rattle.heap_page_check.specs.Found.{FoundLists}
use Rattle.heap_table_check.specs.Found.{IsQuiet, case_found, lists_in, parts_found}

nothing_after : {X : Type 0} (xs ys : List X) → xs ++ ys ≡ xs → ys ≡ []
nothing_after [] ys e = e
nothing_after (x ∷ xs) ys e = nothing_after xs ys cc

lists_are_nothing : (l : Lists) → l.findings ≡ [] → l.unjudged ≡ [] → l ≡ nothing
lists_are_nothing l none sure = by_lists l.findings l.unjudged none sure
  where
    by_lists : (fs : List Finding) (us : List UnjudgedPlace) → fs ≡ [] → us ≡ [] → record { findings = fs; unjudged = us } ≡ nothing
    by_lists fs us e f = rw (e, f) refl

-- a report that is as it was got nothing
pub nothing_added : (old new l : Lists) → new ≡ joined old l → new ≡ old → l ≡ nothing
nothing_added old new l added same =
    let is : joined old l ≡ old = sym added ∙ same in
    lists_are_nothing l
    (nothing_after old.findings l.findings (ap (λ (x : Lists). x.findings) is))
    (nothing_after old.unjudged l.unjudged (ap (λ (x : Lists). x.unjudged) is))

pub nothing_joined : (old new l : Lists) → new ≡ joined old l → l ≡ nothing → new ≡ old
nothing_joined old new l added none = added ∙ (ap (joined old) none ∙ report_lists.with_none old)

pub owed_of : (case : CaseRecord) (names : Names) (found : FoundLists) → found ≡ parts_found case names → lists_in found ≡ case_found case names
unfolding case_found
owed_of case names found is = ap lists_in is

pub quiet_is_nothing : (case : CaseRecord) (names : Names) → IsQuiet case names → case_found case names ≡ nothing
quiet_is_nothing case names quiet = lists_are_nothing (case_found case names) quiet.findings quiet.doubts

pub nothing_is_quiet : (case : CaseRecord) (names : Names) → case_found case names ≡ nothing → IsQuiet case names
nothing_is_quiet case names none = record {
  findings = ap (λ (l : Lists). l.findings) none;
  doubts = ap (λ (l : Lists). l.unjudged) none;
}

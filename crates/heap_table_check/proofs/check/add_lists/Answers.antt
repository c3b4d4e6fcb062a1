use Rattle.std.proofs.Common.{rules, ◌≡◌, ◌∙◌, List, [], ◌∷◌, length, refl, sym, ap, arith}
use Rattle.outside.proofs.Adding.{Adds-exit, Begins-same}
use Rattle.reports.specs.Added.{nothing, report_lists}
use Rattle.reports.specs.Lists.{Lists}
use Rattle.heap_table_check.specs.Found.{lists_with}
use Rattle.heap_table_check.proofs.check.add_lists.Goals as goal

no_members : {X : Type 0} (xs : List X) → length xs ≡ 0 → xs ≡ []
no_members [] none = refl
no_members (x ∷ xs) none = absurd (omega (arith, none))

-- what comes late is all where nothing is listed
late_alone : (listed late : Lists) → length listed.findings ≡ 0 → length listed.unjudged ≡ 0 → lists_with listed late ≡ late
late_alone listed late a b = rw (no_members listed.findings a, no_members listed.unjudged b) refl

is_nothing : (lists : Lists) → length lists.findings ≡ 0 → length lists.unjudged ≡ 0 → lists ≡ nothing
is_nothing lists a b = rw (no_members lists.findings a, no_members lists.unjudged b) refl

pub returns-in_err-append-clause-added : goal.returns-in_err-append-clause-added
returns-in_err-append-clause-added c =
    let owed = lists_with c.args.listed c.args.late in
    Adds-exit report_lists c.from_residual.result _ c.args.report.now c.append.new.self owed c.from_residual.ensures.1
    (Begins-same report_lists c.args.report.now c.append.new.self owed c.in_err-append.ensures.err)

pub returns-clause-none : goal.returns-clause-none
returns-clause-none c =
    let is = late_alone c.args.listed c.args.late (search rules) (search rules) in (
      λ whole. is ∙ is_nothing c.args.late (search rules) (search rules),
      λ none.
          let findings : length c.args.late.findings ≡ 0 = ap (λ (l : Lists). length l.findings) (sym is ∙ none) in
          let unjudged : length c.args.late.unjudged ≡ 0 = ap (λ (l : Lists). length l.unjudged) (sym is ∙ none) in
          search rules,
    )

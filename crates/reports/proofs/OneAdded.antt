-- A single finding, or a single place that can't be judged, as what is added to a report.
use Rattle.std.proofs.Common.{◌≡◌, [], ◌∷◌, ◌++◌, ◌∙◌, sym, append-nil}
use Rattle.std.specs.Prelude.{Result, Ok, Err, OnErr, OnOk}
use Rattle.outside.specs.Adds.{AddsIn}
use Rattle.outside.proofs.Adding.{Begins-same}
use Rattle.reports.specs.Added.{report_lists}
use Rattle.reports.specs.Lists.{Lists}
use Rattle.reports.specs.declared.places.Finding.{Finding}
use Rattle.reports.specs.declared.places.UnjudgedPlace.{UnjudgedPlace}

pub finding_added : {T E : Type 0} (r : Result T E) (old new : Lists) (f : Finding)
    → OnOk r (new ≡ record { findings = old.findings ++ f ∷ []; unjudged = old.unjudged }) → OnErr r (new ≡ old)
    → AddsIn report_lists r old new (record { findings = f ∷ []; unjudged = [] })
finding_added (Ok x) old new f ok err =
    ok ∙ (λ i. record { findings = old.findings ++ f ∷ []; unjudged = sym (append-nil old.unjudged) i })
finding_added (Err e) old new f ok err = Begins-same report_lists old new (record { findings = f ∷ []; unjudged = [] }) err

pub doubt_added : {T E : Type 0} (r : Result T E) (old new : Lists) (u : UnjudgedPlace)
    → OnOk r (new ≡ record { findings = old.findings; unjudged = old.unjudged ++ u ∷ [] }) → OnErr r (new ≡ old)
    → AddsIn report_lists r old new (record { findings = []; unjudged = u ∷ [] })
doubt_added (Ok x) old new u ok err =
    ok ∙ (λ i. record { findings = sym (append-nil old.findings) i; unjudged = old.unjudged ++ u ∷ [] })
doubt_added (Err e) old new u ok err = Begins-same report_lists old new (record { findings = []; unjudged = u ∷ [] }) err

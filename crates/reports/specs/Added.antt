-- What is found at one place, and what is found at places one after the other.
use Rattle.std.specs.Prelude.{ℕ, zero, suc, [], ◌∷◌, ◌++◌, Option, Some, None, Contains}
use Rattle.std.proofs.Common.{refl, append-nil, append_assoc}
use Rattle.outside.specs.Adds.{Joins}
use Rattle.page_layout.specs.declared.rules.Rule.{Rule}
use Rattle.reports.specs.Lists.{Lists}
use Rattle.reports.specs.declared.places.Place.{Place}
use Rattle.reports.specs.declared.places.Reason.{Reason}

-- nothing is found
abbrev pub nothing : Lists
nothing = record { findings = []; unjudged = [] }

-- the lists of one part, and then those of another
abbrev pub joined : Lists → Lists → Lists
joined a b = record { findings = a.findings ++ b.findings; unjudged = a.unjudged ++ b.unjudged }

-- reports are joined list by list
abbrev pub report_lists : Joins Lists
report_lists = record {
  none = nothing;
  join = joined;
  with_none = λ a i. record { findings = append-nil a.findings i; unjudged = append-nil a.unjudged i };
  none_with = λ a. refl;
  in_turn = λ a b c i. record {
    findings = append_assoc a.findings b.findings c.findings i;
    unjudged = append_assoc a.unjudged b.unjudged c.unjudged i;
  };
}

-- the finding at a place where a rule is broken
abbrev pub finding_at : Place → Option Rule → Lists
finding_at place (Some rule) = record { findings = record { rule = rule; place = place } ∷ []; unjudged = [] }
finding_at place None = nothing

-- the place that can't be judged, where there is a reason
abbrev pub doubt_at : Place → Option Reason → Lists
doubt_at place (Some reason) = record { findings = []; unjudged = record { reason = reason; place = place } ∷ [] }
doubt_at place None = nothing

-- what the items 1, .., n of a page give, in their order
unfoldable pub each_upto : {L : Type 0} → Joins L → (ℕ → L) → ℕ → L
each_upto lists f zero = lists.none
each_upto lists f (suc n) = lists.join (each_upto lists f n) (f (suc n))

-- the place is among those of the findings, or among those that can't be judged
pub data IsListed (lists : Lists) (place : Place) : Type 0 where
  found : (rule : Rule) → Contains lists.findings (record { rule = rule; place = place }) → IsListed lists place
  in_doubt : (reason : Reason) → Contains lists.unjudged (record { reason = reason; place = place })
      → IsListed lists place

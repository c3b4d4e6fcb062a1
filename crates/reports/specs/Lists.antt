-- What a report holds.
use Rattle.std.specs.Prelude.{List}
use Rattle.reports.specs.declared.places.Finding.{Finding}
use Rattle.reports.specs.declared.places.UnjudgedPlace.{UnjudgedPlace}

-- the findings, and the places that can't be judged, each in the order in which they came
pub record Lists : Type 0 where
  pub findings : List Finding
  pub unjudged : List UnjudgedPlace

use Rattle.std.proofs.Common.{◌≡◌, ◌++◌, take}
use Rattle.std.specs.List.{flat_map}
use Rattle.reports.specs.Texts.{unjudged_line}
use Rattle.reports.proofs.texts.push_unjudged_places.Given as goal

-- the lines of the places so far stand after what was there
abbrev pub invariant-loop-place : goal.invariant-loop-place
invariant-loop-place l = l.text ≡ l.initial.text ++ flat_map unjudged_line (take l.place-index l.places)

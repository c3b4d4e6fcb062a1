use Rattle.std.proofs.Common.{◌≡◌, drop}
use Rattle.varlena_attrs.specs.Shown.{shown_in}
use Rattle.heap_page_check.specs.Values.{first_value_rule}
use Rattle.heap_page_check.proofs.values.first_value_rule.Given as goal

-- the values so far break no rule
abbrev pub invariant-loop-place : goal.invariant-loop-place
invariant-loop-place l =
    first_value_rule l.oid l.head (shown_in l.body (drop l.place-index l.places)) ≡ first_value_rule l.oid l.head (shown_in l.body l.places)

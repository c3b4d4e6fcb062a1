use Rattle.std.proofs.Common.{◌+◌, ◌≤◌, length}
use Rattle.key_orders.specs.Values.{value_shown}
use Rattle.key_attrs.specs.Columns.{all_types}
use Rattle.key_attrs.specs.FirstValues.{BeginsSoFar}
use Rattle.key_attrs.proofs.same.plain_first_value.Given as goal

-- the value is the first of those so far
abbrev pub invariant-loop-k : goal.invariant-loop-k
invariant-loop-k l = record {
  begins : BeginsSoFar (all_types l.columns) l.body l.k l.place (value_shown l.value);
  within : l.place ≤ length l.body;
}

abbrev pub invariant-loop-included : goal.invariant-loop-included
invariant-loop-included l = record {
  begins : BeginsSoFar (all_types l.columns) l.body (length l.columns.specs.now + l.included-index) l.place (value_shown l.value);
  within : l.place ≤ length l.body;
}

use Rattle.std.proofs.Common.{◌≡◌, ◌≤◌, ◌+◌, ◌++◌, List, length, drop}
use Rattle.std.specs.Prelude.{true}
use Rattle.key_orders.specs.declared.columns.Value.{Value}
use Rattle.key_attrs.specs.Keyed.{fits_more, more_types}
use Rattle.key_attrs.specs.KeyedShown.{told_by}
use Rattle.key_attrs.proofs.keyed.IndexTuple.read_more.Given as goal

-- the values so far and the columns that are left tell what all columns do
abbrev pub invariant-loop-m : goal.invariant-loop-m
invariant-loop-m l = record {
  told : (values : List Value) → told_by l.fn.self values (more_types l.more) ≡ told_by l.self (values ++ l.list) (more_types (drop l.m-index l.more));
  count : length l.list ≡ l.m-index;
  column : l.self.column ≡ l.fn.self.column + l.m-index;
  fits : fits_more l.more l.list ≡ true;
  within : l.self.place ≤ length l.self.body.now;
}

use Rattle.std.proofs.Common.{◌≡◌, ◌≤◌, ◌++◌, List, [], length, drop}
use Rattle.std.specs.Prelude.{true}
use Rattle.key_orders.specs.Keys.{fits_columns}
use Rattle.key_orders.specs.declared.columns.ColType.{ColType as Column}
use Rattle.key_attrs.specs.Keyed.{key_types}
use Rattle.key_attrs.specs.KeyedShown.{told_by}
use Rattle.key_attrs.proofs.keyed.IndexTuple.read_key.Given as goal

-- the values so far and the columns that are left tell what all columns do
abbrev pub invariant-loop-spec : goal.invariant-loop-spec
invariant-loop-spec l = record {
  told : (types : List Column) → told_by l.fn.self [] (key_types l.specs ++ types) ≡ told_by l.self l.key (key_types (drop l.spec-index l.specs) ++ types);
  count : length l.key ≡ l.spec-index;
  column : l.self.column ≡ l.spec-index;
  fits : fits_columns l.specs l.key ≡ true;
  within : l.self.place ≤ length l.self.body.now;
}

-- Where the values of a body end, value by value.
use Rattle.std.specs.Prelude.{ℕ, zero, suc, ◌+◌, List, [], ◌∷◌, length}
use Rattle.key_orders.specs.declared.columns.ColType.{ColType}
use Rattle.key_orders.specs.declared.columns.ColType.TheVariants.{Bool as BoolType}
use Rattle.key_orders.specs.declared.columns.Value.{Value}
use Rattle.page_write.specs.Bodies.{null_part, padding_before, stored_value}
use Rattle.laws_building.specs.Layout.{Layout}

-- the type of column i, counted from 0
abbrev pub type_at : List ColType → ℕ → ColType
type_at [] i = BoolType
type_at (c ∷ cs) zero = c
type_at (c ∷ cs) (suc i) = type_at cs i

-- values begin after the null bits, if there are any, and each after its padding
abbrev pub body_layout : List ColType → Layout Value
body_layout types =
    record {
      ends = λ i v place. place + padding_before (type_at types i) v place + length (stored_value (type_at types i) v);
      begins = λ vs. length (null_part vs);
    }

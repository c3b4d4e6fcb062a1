-- Lower bounds, which are separators that were kept from a page.
use Rattle.std.specs.Prelude.{List, Option, IfSome}
use Rattle.laws_search.specs.Keys.{Separator}
use Rattle.key_orders.specs.declared.columns.KeySpec.{KeySpec}
use Rattle.key_orders.specs.declared.columns.Value.{Value}
use Rattle.key_orders.specs.declared.Tid.{Tid}
use Rattle.key_orders.specs.Keys.{IsKeySeparator}

-- a lower bound of keys of these columns; None is minus infinity
abbrev pub Bound : Type 0
Bound = Option (Separator Value Tid)

abbrev pub IsBound : List KeySpec → Bound → Type 0
IsBound specs lower = IfSome lower (IsKeySeparator specs)

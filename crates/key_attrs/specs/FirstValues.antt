-- The first value of a key in an index tuple whose values are all told.
use Rattle.std.specs.Prelude.{◌≡◌, ℕ, true, List, [], ◌∷◌, ◌++◌, length, drop, None, Ok}
use Rattle.key_orders.specs.declared.columns.ColType.{ColType}
use Rattle.key_orders.specs.declared.columns.KeySpec.{KeySpec}
use Rattle.key_orders.specs.declared.columns.Value.{Value}
use Rattle.key_orders.specs.declared.more.MoreSpec.{MoreSpec}
use Rattle.key_orders.specs.Keys.{fits_columns}
use Rattle.key_attrs.specs.Keyed.{key_types, key_values, more_types, read_inline}
use Rattle.key_attrs.specs.KeyedShown.{told_after}

-- the tuple has no null bits, and a value for each column, those of the key first: this one begins the key, and it fits
-- its column
pub record BeginsPlainKey (specs : List KeySpec) (more : List MoreSpec) (body : List ℕ) (first : Value) : Type 0 where
  pub rest : List Value
  pub included : List Value
  pub told : key_values (key_types specs ++ more_types more) body None ≡ Ok ((first ∷ rest) ++ included)
  pub key_count : length (first ∷ rest) ≡ length specs
  pub included_count : length included ≡ length more
  pub fits : fits_columns specs (first ∷ []) ≡ true

-- of columns of these types the first k have values, of which this is the first, and the others begin at a place
pub record BeginsSoFar (types : List ColType) (body : List ℕ) (k place : ℕ) (first : Value) : Type 0 where
  pub rest : List Value
  pub told : key_values types body None
      ≡ told_after (first ∷ rest) None k (drop k types) (read_inline (drop k types) None (length types) body k place)
  pub count : length (first ∷ rest) ≡ k

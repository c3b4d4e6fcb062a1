-- The entries of an index in the order of its keys, and of its TIDs where keys are equal.
use Rattle.std.specs.Prelude.{Bool, cond, List, [], ◌∷◌}
use Rattle.key_orders.specs.declared.columns.KeySpec.{KeySpec}
use Rattle.key_orders.specs.Scans.{order_of}
use Rattle.bt_image.specs.Image.{LeafEntry}

abbrev pub is_before : List KeySpec → LeafEntry → LeafEntry → Bool
is_before specs d e = (order_of specs).precedes d.entry e.entry

-- an entry more: it stands before the first that is above it
abbrev pub put_in_order : List KeySpec → LeafEntry → List LeafEntry → List LeafEntry
put_in_order specs e [] = e ∷ []
put_in_order specs e (d ∷ ds) = cond (is_before specs e d) (e ∷ d ∷ ds) (d ∷ put_in_order specs e ds)

-- sorted by insertion
abbrev pub in_order : List KeySpec → List LeafEntry → List LeafEntry
in_order specs [] = []
in_order specs (e ∷ es) = put_in_order specs e (in_order specs es)

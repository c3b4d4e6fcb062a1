-- The entries that a scan wants, as one list.
use Rattle.std.specs.Prelude.{◌≡◌, Bool, true, false, Contains, cond, List, [], ◌∷◌}
use Rattle.std.specs.List.{filter}
use Rattle.outside.specs.Outside.{Names}
use Rattle.laws_search.specs.Keys.{Entry}
use Rattle.laws_search.specs.Order.{Order, Scan}
use Rattle.laws_search.specs.Search.{entries_of, is_wanted}
use Rattle.laws_search.specs.Tree.{Index}
use Rattle.key_orders.specs.declared.columns.Value.{Value}
use Rattle.key_orders.specs.declared.Tid.{Tid}
use Rattle.key_orders.specs.Scans.{Bounds, order_of}
use Rattle.bt_levels.specs.declared.sound.SoundTree.{SoundTree}
use Rattle.bt_levels.specs.Sound.{image_of, specs_of}
use Rattle.bt_steps.specs.Pages.{is_killed}
use Rattle.bt_search.specs.Spots.{scan_on}

-- an entry among rising ones: before the first that it is below. One of the same place in the order stands there once
abbrev pub put : {E : Type 0} → (E → E → Bool) → E → List E → List E
put below e [] = e ∷ []
put below e (d ∷ ds) = cond (below d e) (d ∷ put below e ds) (cond (below e d) (e ∷ d ∷ ds) (d ∷ ds))

-- entries in order
abbrev pub sorted_by : {E : Type 0} → (E → E → Bool) → List E → List E
sorted_by below [] = []
sorted_by below (e ∷ es) = put below e (sorted_by below es)

-- the matching unkilled entries of the leaves, linked or not, in order
unfoldable pub wanted_entries : {S E : Type 0} → Order S E → (E → Bool) → Index S E → Scan S E → List E
wanted_entries o killed x scan = sorted_by o.precedes (filter (is_wanted killed scan) (entries_of x))

-- the entry stands on a leaf, linked or not, the scan matches it, and it isn't killed
pub record IsOneWanted {S E : Type 0} (killed : E → Bool) (x : Index S E) (scan : Scan S E) (e : E) : Type 0 where
  pub among : Contains (entries_of x) e
  pub matches : scan.matches e ≡ true
  pub alive : killed e ≡ false

-- those of an index that the names hold
abbrev pub wanted_on : Names → SoundTree → Bounds → List (Entry Value Tid)
wanted_on names sound bounds =
    wanted_entries (order_of (specs_of sound)) is_killed (image_of names sound) (scan_on sound bounds)

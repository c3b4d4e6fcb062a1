-- The spots of a document, where its rules are asked: each of its tables as a whole, each listed key of each table, and
-- each element of an array of names, in the order of the key table.
use Rattle.std.specs.Prelude.{ℕ, ◌+◌, List, [], ◌∷◌, ◌++◌, map, Option, Some, None, codes}
use Rattle.toml.specs.Data.{Data, Members, as_table}
use Rattle.toml.specs.View.{table_view, view}
use Rattle.case_rules.specs.declared.keys.Place.{Place}
use Rattle.case_rules.specs.declared.keys.Place.TheVariants.{Top, Cluster, Heap, Column, Index, IndexKey}
use Rattle.case_rules.specs.declared.keys.Key.{Key}
use Rattle.case_rules.specs.declared.keys.Key.TheVariants.{SegmentBlocks, ClusterTable, HeapTable, Columns, Indexes}
use Rattle.case_rules.specs.declared.keys.Key.TheVariants.{IndexInclude, IndexUnique, IndexNullsNotDistinct}
use Rattle.case_rules.specs.declared.spots.Spot.{Spot as CodeSpot}
use Rattle.case_rules.specs.declared.spots.Spot.TheVariants.{Whole, Listed, Element}
use Rattle.case_rules.specs.Keys.{element_text, keys_of, key_text, place_text}
use Rattle.case_rules.specs.Tables.{table_at, tables_at, values_at}

-- a table as a whole, a listed key of a table, whether it is there or not, or an element of the array at a key, with
-- its number
pub data Spot : Type 0 where
  whole : Place → Members → Spot
  listed : Place → Key → Members → Spot
  element : Place → Key → ℕ → Data → Spot

abbrev pub listed_all : Place → Members → List Key → List Spot
listed_all p t [] = []
listed_all p t (key ∷ keys) = listed p key t ∷ listed_all p t keys

-- a table, if it is there, and its keys
unfoldable pub in_table : Place → Option Members → List Spot
in_table p (Some t) = whole p t ∷ listed_all p t (keys_of p)
in_table p None = []

-- what f gives of each value and its number, from k on
abbrev pub flat_map_from : (ℕ → Data → List Spot) → ℕ → List Data → List Spot
flat_map_from f k [] = []
flat_map_from f k (d ∷ ds) = f k d ++ flat_map_from f (k + 1) ds

abbrev pub column_spots : ℕ → Data → List Spot
column_spots k d = in_table (Column k) (as_table d)

abbrev pub key_spots : ℕ → ℕ → Data → List Spot
key_spots k j d = in_table (IndexKey k j) (as_table d)

abbrev pub index_keys_spots : ℕ → Option Members → List Spot
index_keys_spots k (Some t) = flat_map_from (key_spots k) 0 (tables_at (codes "key") t)
index_keys_spots k None = []

abbrev pub element_spots : Place → Key → ℕ → Data → List Spot
element_spots p key j d = element p key j d ∷ []

abbrev pub include_spots : ℕ → Option Members → List Spot
include_spots k (Some t) =
    listed (Index k) IndexInclude t
    ∷ flat_map_from (element_spots (Index k) IndexInclude) 0 (values_at (codes "include") t)
include_spots k None = []

abbrev pub unique_spots : ℕ → Option Members → List Spot
unique_spots k (Some t) = listed (Index k) IndexUnique t ∷ listed (Index k) IndexNullsNotDistinct t ∷ []
unique_spots k None = []

-- an index: the keys that are asked before its key columns, these columns, and the keys that are asked behind them
abbrev pub index_spots : ℕ → Data → List Spot
index_spots k d =
    in_table (Index k) (as_table d)
    ++ index_keys_spots k (as_table d)
    ++ include_spots k (as_table d)
    ++ unique_spots k (as_table d)

-- the parts of the key table
abbrev pub top_part : Members → List Spot
top_part top = whole Top top ∷ listed Top SegmentBlocks top ∷ []

abbrev pub cluster_part : Members → List Spot
cluster_part top = listed Top ClusterTable top ∷ in_table Cluster (table_at (codes "cluster") top)

abbrev pub heap_part : Members → List Spot
heap_part top = listed Top HeapTable top ∷ in_table Heap (table_at (codes "heap") top)

abbrev pub column_part : Members → List Spot
column_part top = listed Top Columns top ∷ flat_map_from column_spots 0 (tables_at (codes "column") top)

abbrev pub index_part : Members → List Spot
index_part top = listed Top Indexes top ∷ flat_map_from index_spots 0 (tables_at (codes "index") top)

-- the spots of a document
unfoldable pub spots : Members → List Spot
spots top = top_part top ++ cluster_part top ++ heap_part top ++ column_part top ++ index_part top

-- how a refusal names a spot
unfoldable pub spot_text : Spot → List ℕ
spot_text (whole p t) = place_text p
spot_text (listed p key t) = key_text p key
spot_text (element p key j d) = element_text p key j

-- what the code's spot stands for
abbrev pub spot_view : CodeSpot → Spot
spot_view (Whole p t) = whole p (table_view t.now)
spot_view (Listed p key t) = listed p key (table_view t.now)
spot_view (Element p key j v) = element p key j (view v.now)

unfoldable pub spots_view : List CodeSpot → List Spot
spots_view ss = map spot_view ss

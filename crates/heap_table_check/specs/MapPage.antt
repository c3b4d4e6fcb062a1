-- The page of the visibility map that is in hand.
use Rattle.std.specs.Prelude.{◌≡◌, ℕ, List, Option, Some, None}
use Rattle.outside.specs.Outside.{Names}
use Rattle.rel_files.specs.Blocks.{block_of}
use Rattle.rel_files.specs.Relation.{IsAttached, base_of, size_of}
use Rattle.rel_files.specs.declared.relation.Relation.{Relation}
use Rattle.heap_table_check.specs.declared.map.MapPage.{MapPage}

abbrev pub IsPageBy : Names → Relation → List ℕ → Option ℕ → Type 0
IsPageBy names map bytes None = Unit {0}
IsPageBy names map bytes (Some block) = bytes ≡ block_of names (base_of map) (size_of map) block

-- it is the block that it says, if it says one
abbrev pub IsMapInHand : Names → Relation → MapPage → Type 0
IsMapInHand names map hand = IsPageBy names map hand.bytes hand.block

-- a map that may not be there is attached, and its page is in hand
abbrev pub IsMapAttached : Names → Option Relation → Type 0
IsMapAttached names None = Unit {0}
IsMapAttached names (Some r) = IsAttached names r

abbrev pub IsOptionalMapInHand : Names → Option Relation → MapPage → Type 0
IsOptionalMapInHand names None hand = Unit {0}
IsOptionalMapInHand names (Some r) hand = IsMapInHand names r hand

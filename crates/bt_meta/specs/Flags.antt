-- Flags in the numbers of a tree page.
use Rattle.std.specs.Prelude.{Bool}
use Rattle.page_layout.specs.Page.{has_bit}
use Rattle.bt_meta.specs.declared.records.Opaque.{Opaque}

-- the flag BTP_LEAF
unfoldable pub is_leaf : Opaque → Bool
is_leaf special = has_bit special.flags 0x0001

-- the flag BTP_DELETED
unfoldable pub is_deleted : Opaque → Bool
is_deleted special = has_bit special.flags 0x0004

-- the flag BTP_META
unfoldable pub is_meta : Opaque → Bool
is_meta special = has_bit special.flags 0x0008

-- the flag BTP_HALF_DEAD
unfoldable pub is_half_dead : Opaque → Bool
is_half_dead special = has_bit special.flags 0x0010

-- the flag BTP_INCOMPLETE_SPLIT
unfoldable pub is_split_unfinished : Opaque → Bool
is_split_unfinished special = has_bit special.flags 0x0080

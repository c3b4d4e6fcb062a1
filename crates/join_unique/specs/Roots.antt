-- Which line pointers of a heap may be the root of a live row: a bit for each, 320 a block.
use Rattle.std.specs.Prelude.{ℕ, ◌+◌, ◌*◌, ◌/◌, ◌%◌, Bool, ◌||◌, nat_le, List, length}
use Rattle.key_orders.specs.declared.Tid.{Tid}
use Rattle.page_layout.specs.Bits.{is_set}
use Rattle.join_unique.specs.declared.roots.Roots.{Roots}

-- the place of a line pointer's bit. Those of a page with more than 320 share bits
abbrev pub place_of : Tid → ℕ
place_of tid = tid.block * 320 + tid.item % 320

-- past the bits all may be
unfoldable pub may_be : List ℕ → Tid → Bool
may_be bits tid = nat_le (length bits) (place_of tid / 8) || is_set bits (place_of tid)

abbrev pub is_root_in : Roots → Tid → Bool
is_root_in roots tid = may_be roots.bits.items tid

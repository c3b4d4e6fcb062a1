-- Which line pointers of a heap an index entry may name, and the set of them. Blocks count from 0, items from 1.
use Rattle.std.specs.Prelude.{◌≡◌, ℕ, ◌+◌, ◌-◌, Bool, true, false, not, ◌&&◌, nat_le, nat_lt, List, [], ◌∷◌, ◌++◌}
use Rattle.std.specs.Prelude.{get_or, length, map}
use Rattle.std.specs.List.{range_with_len}
use Rattle.key_orders.specs.declared.Tid.{Tid}
use Rattle.page_layout.specs.declared.page.LineFlag.{LineFlag}
use Rattle.page_layout.specs.declared.page.LineFlag.TheVariants.{Unused, Normal, Redirect, Dead}
use Rattle.page_layout.specs.declared.page.LinePtr.{LinePtr}
use Rattle.page_layout.specs.Items.{is_normal}
use Rattle.page_layout.specs.Page.{count_of, item_of, piece_of}
use Rattle.tuple_head.specs.Head.{is_heap_only, tuple_head_of}

abbrev pub is_unused : LineFlag → Bool
is_unused Normal = false
is_unused Unused = true
is_unused Redirect = false
is_unused Dead = false

-- the line pointer is that of a tuple on the page, and the tuple is heap-only: it is found along its chain alone
unfoldable pub is_heap_only_item : List ℕ → LinePtr → Bool
is_heap_only_item page p =
    is_normal p.flag && nat_le (p.off + p.len) 8192 && is_heap_only (tuple_head_of (piece_of page p.off p.len))

-- an index entry may name item i of a heap page: the page has such an item, and it is neither unused nor a heap-only
-- tuple
unfoldable pub is_target : List ℕ → ℕ → Bool
is_target page i =
    nat_le 1 i && nat_le i (count_of page) && not (is_unused (item_of page i).flag)
    && not (is_heap_only_item page (item_of page i))

-- for each item of a heap page, from item 1 on, whether an index entry may name it
abbrev pub targets_on : List ℕ → List Bool
targets_on page = map (is_target page) (range_with_len 1 (count_of page))

-- the same for each block of a heap of n blocks
abbrev pub targets_of : (ℕ → List ℕ) → ℕ → List (List Bool)
targets_of pages n = map (λ block. targets_on (pages block)) (range_with_len 0 n)

-- what a set has of a block, and nothing past its last block
abbrev pub values_of : List (List Bool) → ℕ → List Bool
values_of set block = get_or set block []

-- the set has such a block, the block such an item, and the item's value is true
unfoldable pub is_in : List (List Bool) → Tid → Bool
is_in set tid =
    nat_lt tid.block (length set) && nat_le 1 tid.item && nat_le tid.item (length (values_of set tid.block))
    && get_or (values_of set tid.block) (tid.item - 1) false

-- the set of a heap of n blocks holds of a TID what the page of its block says of the item
abbrev pub TellsOfPages : (ℕ → List ℕ) → ℕ → Tid → Type 0
TellsOfPages pages n tid = is_in (targets_of pages n) tid ≡ (nat_lt tid.block n && is_target (pages tid.block) tid.item)

-- and it grows by the page of the next block
abbrev pub GrowsByPage : (ℕ → List ℕ) → ℕ → Type 0
GrowsByPage pages n = targets_of pages (n + 1) ≡ targets_of pages n ++ targets_on (pages n) ∷ []

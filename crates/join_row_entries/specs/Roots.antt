-- Which roots have an entry, as far as it is kept.
use Rattle.std.specs.Prelude.{◌≡◌, ◌≤◌, ◌⊎◌, ℕ, Bool, true, false, not, ◌==◌, ◌&&◌, ◌||◌, nat_lt, List, get_or}
use Rattle.key_orders.specs.declared.Tid.{Tid}

-- a block, and for each item of it whether it is taken
pub record Taken : Type 0 where
  pub block : ℕ
  pub items : List Bool

-- a root of a block before it, or a taken item of it
unfoldable pub is_taken : Taken → Tid → Bool
is_taken taken t =
    nat_lt t.block taken.block || ((t.block == taken.block) && get_or taken.items t.item false)

-- no root is taken
abbrev pub IsNoneTaken : Taken → Type 0
IsNoneTaken taken = (t : Tid) → is_taken taken t ≡ false

-- a line pointer's number is from 1 to 2047
abbrev pub is_item : Tid → Bool
is_item t = nat_lt 0 t.item && nat_lt t.item 2048

-- a root that isn't taken
abbrev pub may_take : Taken → Tid → Bool
may_take taken root = is_item root && not (is_taken taken root)

-- of the block of a root and of those behind it no other is taken by a step
abbrev pub IsOnlyTaken : (root : Tid) → (old new : Taken) → Type 0
IsOnlyTaken root old new =
    (t : Tid) → root.block ≤ t.block → is_taken new t ≡ true → (is_taken old t ≡ true) ⊎ (t ≡ root)

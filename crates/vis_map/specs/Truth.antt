-- What the bits of a heap block mean, and when they are true.
use Rattle.std.specs.Prelude.{◌≡◌, Bool, true, false, List, All}
use Rattle.tuple_head.specs.Head.{needs_freezing}
use Rattle.liveness.specs.declared.states.ItemState.{ItemState}
use Rattle.liveness.specs.declared.states.ItemState.TheVariants.{Unused, Dead, Redirect, Tuple}
use Rattle.liveness.specs.declared.states.Life.TheVariants.{Live}
use Rattle.vis_map.specs.declared.bits.MapBits.{MapBits}

-- the item isn't a dead line pointer, and if it is a tuple, it is live
abbrev pub IsVisible : ItemState → Type 0
IsVisible Unused = Unit {0}
IsVisible Dead = ⊥
IsVisible (Redirect target) = Unit {0}
IsVisible (Tuple head judged) = judged.life ≡ Live

-- no item of the block is dead, and every tuple is live
abbrev pub IsAllVisible : List ItemState → Type 0
IsAllVisible items = All IsVisible items

-- if the item is a tuple, it doesn't need freezing
abbrev pub IsSettled : ItemState → Type 0
IsSettled Unused = Unit {0}
IsSettled Dead = Unit {0}
IsSettled (Redirect target) = Unit {0}
IsSettled (Tuple head judged) = needs_freezing head ≡ false

-- no tuple of the block needs freezing
abbrev pub IsAllFrozen : List ItemState → Type 0
IsAllFrozen items = All IsSettled items

-- what is set is true: the page's flag and the all-visible bit of a block that is all-visible, the bit only beside
-- the flag, and the all-frozen bit of a block that is all-frozen, only beside the all-visible bit
pub record AreTrue (bits : MapBits) (page_flag : Bool) (items : List ItemState) : Type 0 where
  pub flag : page_flag ≡ true → IsAllVisible items
  pub visible : bits.all_visible ≡ true → (page_flag ≡ true) × IsAllVisible items
  pub frozen : bits.all_frozen ≡ true → (bits.all_visible ≡ true) × IsAllFrozen items

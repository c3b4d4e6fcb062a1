-- The rules of a heap block's bits: each by its sentence and as a test.
use Rattle.std.specs.Prelude.{◌≡◌, Bool, true, false, not, ◌&&◌, ◌||◌, ◌⊎◌, List, [], ◌∷◌, Option, find}
use Rattle.std.specs.List.{list_all}
use Rattle.page_layout.specs.declared.rules.Rule.{Rule}
use Rattle.page_layout.specs.declared.rules.Rule.TheVariants.{V1, V2, V3, V4}
use Rattle.tuple_head.specs.Head.{needs_freezing}
use Rattle.liveness.specs.declared.states.ItemState.{ItemState}
use Rattle.liveness.specs.declared.states.ItemState.TheVariants.{Unused, Dead, Redirect, Tuple}
use Rattle.liveness.specs.declared.states.Life.{Life}
use Rattle.liveness.specs.declared.states.Life.TheVariants.{Live, Dead as dead_life, Unjudged, Broken}
use Rattle.vis_map.specs.declared.bits.MapBits.{MapBits}
use Rattle.vis_map.specs.Truth.{IsAllFrozen, IsAllVisible}

-- The sentences

-- V1
abbrev pub IsFrozenButNotVisible : MapBits → Type 0
IsFrozenButNotVisible bits = (bits.all_frozen ≡ true) × (bits.all_visible ≡ false)

-- V2: a bit of the map is set, and the page's flag isn't
abbrev pub HasBitWithoutFlag : MapBits → Bool → Type 0
HasBitWithoutFlag bits page_flag = ((bits.all_visible ≡ true) ⊎ (bits.all_frozen ≡ true)) × (page_flag ≡ false)

-- V3: the bit or the flag calls the block all-visible, and it isn't
abbrev pub IsFalselyVisible : MapBits → Bool → List ItemState → Type 0
IsFalselyVisible bits page_flag items = ((bits.all_visible ≡ true) ⊎ (page_flag ≡ true)) × (IsAllVisible items → ⊥)

-- V4: the bit calls the block all-frozen, and it isn't
abbrev pub IsFalselyFrozen : MapBits → List ItemState → Type 0
IsFalselyFrozen bits items = (bits.all_frozen ≡ true) × (IsAllFrozen items → ⊥)

abbrev pub IsMapRuleBroken : MapBits → Bool → List ItemState → Rule → Type 0
IsMapRuleBroken bits page_flag items V1 = IsFrozenButNotVisible bits
IsMapRuleBroken bits page_flag items V2 = HasBitWithoutFlag bits page_flag
IsMapRuleBroken bits page_flag items V3 = IsFalselyVisible bits page_flag items
IsMapRuleBroken bits page_flag items V4 = IsFalselyFrozen bits items
IsMapRuleBroken bits page_flag items _ = ⊥

-- The tests

abbrev pub is_live : Life → Bool
is_live Live = true
is_live dead_life = false
is_live (Unjudged doubt) = false
is_live (Broken rule) = false

abbrev pub is_visible : ItemState → Bool
is_visible Unused = true
is_visible Dead = false
is_visible (Redirect target) = true
is_visible (Tuple head judged) = is_live judged.life

abbrev pub is_settled : ItemState → Bool
is_settled Unused = true
is_settled Dead = true
is_settled (Redirect target) = true
is_settled (Tuple head judged) = not (needs_freezing head)

abbrev pub is_frozen_but_not_visible : MapBits → Bool
is_frozen_but_not_visible bits = bits.all_frozen && not bits.all_visible

abbrev pub has_bit_without_flag : MapBits → Bool → Bool
has_bit_without_flag bits page_flag = (bits.all_visible || bits.all_frozen) && not page_flag

abbrev pub is_falsely_visible : MapBits → Bool → List ItemState → Bool
is_falsely_visible bits page_flag items = (bits.all_visible || page_flag) && not (list_all is_visible items)

abbrev pub is_falsely_frozen : MapBits → List ItemState → Bool
is_falsely_frozen bits items = bits.all_frozen && not (list_all is_settled items)

abbrev pub breaks_map_rule : MapBits → Bool → List ItemState → Rule → Bool
breaks_map_rule bits page_flag items V1 = is_frozen_but_not_visible bits
breaks_map_rule bits page_flag items V2 = has_bit_without_flag bits page_flag
breaks_map_rule bits page_flag items V3 = is_falsely_visible bits page_flag items
breaks_map_rule bits page_flag items V4 = is_falsely_frozen bits items
breaks_map_rule bits page_flag items _ = false

-- the rules in the order in which they are asked
abbrev pub map_rules : List Rule
map_rules = V1 ∷ V2 ∷ V3 ∷ V4 ∷ []

-- the first of them that is broken
unfoldable pub map_rule_of : MapBits → Bool → List ItemState → Option Rule
map_rule_of bits page_flag items = find (breaks_map_rule bits page_flag items) map_rules

-- What holds of a tree that was just built.
use Rattle.std.specs.Prelude.{◌≡◌, ◌≢◌, ◌≤◌, ◌<◌, ◌+◌, ℕ, zero, suc, Bool, true, false, List, [], ◌∷◌, ◌++◌, map}
use Rattle.std.specs.Prelude.{Option, Some, None, length}
use Rattle.std.specs.List.{filter, All, AllAdjacentBelow, Contains}
use Rattle.laws_search.specs.Order.{Order, IsOrder, Scan, IsScan}
use Rattle.laws_search.specs.Tree.{Index}
use Rattle.laws_search.specs.Levels.{Downlink, Linked, Row, row_page, row_role, row_lower, level_rows}
use Rattle.laws_search.specs.Searchable.{KeyAbove}
use Rattle.laws_search.specs.Search.{tree_blocks, is_wanted, Answers}
use Rattle.laws_building.specs.Cuts.{CutsInTwos, IsCut}
use Rattle.laws_building.specs.Built.{Splitter, Sheet, Cutting, leaf_sheets, built_levels, AreLevels}

-- the comparisons of separators are those of the same order
pub record IsKeyOrder {S E : Type 0} (o : Order S E) : Type 0 where
  pub entries : IsOrder o
  -- where an entry is above one separator and not above another, the first is below the other
  pub parted : (e : E) (s t : S) → o.within e s ≡ false → o.within e t ≡ true → o.under s t ≡ true
  pub under_chained : (s t u : S) → o.under s t ≡ true → o.under t u ≡ true → o.under s u ≡ true

-- the separator of two entries stands between them
pub record IsSplitter {S E : Type 0} (o : Order S E) (k : Splitter S E) : Type 0 where
  pub left_within : (d e : E) → o.precedes d e ≡ true → o.within d (k.split_key d e) ≡ true
  pub right_above : (d e : E) → o.precedes d e ≡ true → o.within e (k.split_key d e) ≡ false

-- the separator of two of these entries
pub record IsBetween {S E : Type 0} (o : Order S E) (k : Splitter S E) (es : List E) (s : S) : Type 0 where
  pub left : E
  pub right : E
  pub left_in : Contains es left
  pub right_in : Contains es right
  pub apart : o.precedes left right ≡ true
  pub is : s ≡ k.split_key left right

-- an item of an internal level over these entries: its separator, if it has one, stands between two of them
abbrev pub IsItemOver : {S E : Type 0} → Order S E → Splitter S E → List E → Downlink S → Type 0
IsItemOver {S} o k es d = (s : S) → d.0 ≡ Some s → IsBetween o k es s

-- what a tree is built from: rising entries, cut into leaves, and the means
pub record IsGiven {S E : Type 0} (o : Order S E) (k : Splitter S E) (cut : Cutting S) (leaves : List (List E))
    (es : List E) : Type 0 where
  pub order : IsKeyOrder o
  pub splits : IsSplitter o k
  pub cuts : CutsInTwos (IsItemOver o k es) cut
  pub leaves_cut : IsCut es leaves
  pub rising : AllAdjacentBelow (λ d e. o.precedes d e ≡ true) es (length es)

-- from the lower bound on each separator is above the one before it, and the high key is above the last
abbrev pub Climbs : {S E : Type 0} → Order S E → (cs : List (S × ℕ)) → (lower high : Option S) → Type 0
Climbs {S} o [] lower high = (t : S) → high ≡ Some t → KeyAbove o lower t
Climbs o (c ∷ cs) lower high = KeyAbove o lower c.0 × Climbs o cs (Some c.0) high

-- the items of an internal page: the first keeps nothing, the others climb
abbrev pub ItemsClimb : {S E : Type 0}
    → Order S E → Splitter S E → (cs : List (S × ℕ)) → (lower high : Option S) → Type 0
ItemsClimb o k [] lower high = ⊥
ItemsClimb o k (c ∷ cs) lower high = (c.0 ≡ k.nothing) × Climbs o cs lower high

-- those of a page on a level, if it is internal
abbrev pub DoItemsClimb : {S E : Type 0} → Order S E → Splitter S E → Index S E → Row S → Type 0
DoItemsClimb o k x r =
    (x.page (row_page r)).leaf ≡ false
    → ItemsClimb o k (x.page (row_page r)).children (row_lower r) (x.page (row_page r)).high_key

-- a page that no split or deletion has touched
pub record IsWhole {S E : Type 0} (x : Index S E) (b : ℕ) : Type 0 where
  pub used : (x.page b).idle ≡ false
  pub alive : (x.page b).half_dead ≡ false
  pub unsplit : (x.page b).incomplete_split ≡ false

-- the pages of the levels from the n-th below the top upward, each level from left to right
abbrev pub pages_upward : {S E : Type 0} → Index S E → ℕ → List ℕ
pages_upward x zero = map row_page (level_rows x 0)
pages_upward x (suc n) = map row_page (level_rows x (suc n)) ++ pages_upward x n

-- no page is idle, half-dead, dead or a right half, and separators rise in each internal page
pub record IsFresh {S E : Type 0} (o : Order S E) (k : Splitter S E) (x : Index S E) : Type 0 where
  pub untouched : (b : ℕ) → b ≢ 0 → b < x.blocks → IsWhole x b
  pub all_linked : x.root ≢ 0 → (n : ℕ) → n ≤ x.level → All (λ r. row_role r ≡ Linked) (level_rows x n)
  pub climb : x.root ≢ 0 → (n : ℕ) → n ≤ x.level → All (DoItemsClimb o k x) (level_rows x n)
  -- the blocks from 1 on are the leaves from left to right, then each level upward
  pub in_order : x.root ≢ 0 → pages_upward x x.level ≡ tree_blocks x.blocks
  -- the root stands alone, and each level has fewer pages than the one below
  pub alone : x.root ≢ 0 → length (level_rows x 0) ≡ 1
  pub narrower : x.root ≢ 0 → (n : ℕ) → n < x.level → length (level_rows x n) < length (level_rows x (n + 1))
  pub fast_is_root : (x.fastroot ≡ x.root) × (x.fastlevel ≡ x.level)

-- whatever the scan, the searcher ends within as many visits as there are blocks, and has yielded those of the entries
-- that the scan wants
abbrev pub FindsAmong : {S E : Type 0} → Order S E → Index S E → List E → Type 0
FindsAmong {S} {E} o x es =
    (killed : E → Bool) (scan : Scan S E)
    → IsScan o scan → Answers killed x scan x.blocks (filter (is_wanted killed scan) es)

-- the levels of the tree are those that are made from the leaves upward
pub record HasLevels {S E : Type 0} (k : Splitter S E) (cut : Cutting S) (leaves : List (List E)) : Type 0 where
  pub none : leaves ≡ [] → built_levels k cut leaves ≡ []
  pub some : leaves ≢ []
      → (ups : List (List (Sheet S E))) × AreLevels k cut ups (leaf_sheets k leaves None) 1
      × (built_levels k cut leaves ≡ leaf_sheets k leaves None ∷ ups)
  pub only : leaves ≢ []
      → (ups : List (List (Sheet S E)))
      → AreLevels k cut ups (leaf_sheets k leaves None) 1 → built_levels k cut leaves ≡ leaf_sheets k leaves None ∷ ups

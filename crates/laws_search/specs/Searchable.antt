-- What a search needs of an index: of the rules by which a tree is judged, the parts that its theorem is proved from.
-- Each field has the code of the rule that it is a part of. The exact rules, with the places where they are broken,
-- belong to the crates that judge the pages and the levels of a tree, and an index that breaks none of them is
-- searchable. What a search doesn't need is left out, as the order of the separators inside an internal page.
use Rattle.std.specs.Prelude.{◌≡◌, ◌≢◌, ◌≤◌, ◌<◌, ◌+◌, ◌-◌, ◌↔◌, ℕ, true, false, List, []}
use Rattle.std.specs.Prelude.{Option, Some, None, length, map, slice_get}
use Rattle.std.specs.List.{filter, All, AllAdjacentBelow, Contains}
use Rattle.laws_search.specs.Order.{Order}
use Rattle.laws_search.specs.Tree.{Index, chain_of, after_links}
use Rattle.laws_search.specs.Levels.{Dead, Linked, Right_half, Neither, is_live, Row, row_page, row_role, row_lower}
use Rattle.laws_search.specs.Levels.{lead_to, entry_page, downlinks, level_rows}

-- a block of a tree page that is in use
pub record IsInUse {S E : Type 0} (x : Index S E) (b : ℕ) : Type 0 where
  pub not_meta : b ≢ 0
  pub inside : b < x.blocks
  pub used : (x.page b).idle ≡ false

-- the last entry, if there is one, has the property
abbrev pub IfLast : {E : Type 0} → List E → (E → Type 0) → Type 0
IfLast {E} es P = (e : E) → slice_get es (length es - 1) ≡ Some e → P e

-- the first one
abbrev pub IfFirst : {E : Type 0} → List E → (E → Type 0) → Type 0
IfFirst {E} es P = (e : E) → slice_get es 0 ≡ Some e → P e

-- what each page in use has by itself and with its neighbours
pub record IsSoundPage {S E : Type 0} (o : Order S E) (x : Index S E) (b : ℕ) : Type 0 where
  -- B2: leaves stand on level 0, and only they
  pub leaf_below : (x.page b).leaf ≡ true → (x.page b).level ≡ 0
  pub leaf_if_below : (x.page b).level ≡ 0 → (x.page b).leaf ≡ true
  -- B3: a half-dead page is a leaf without data items
  pub half_dead_leaf : (x.page b).half_dead ≡ true → (x.page b).leaf ≡ true
  pub half_dead_empty : (x.page b).half_dead ≡ true → (x.page b).entries ≡ []
  -- B4: a page has a high key exactly where it has a right sibling. A half-dead page's needn't be readable
  pub no_high_key : (x.page b).next ≡ 0 → (x.page b).high_key ≡ None
  pub a_high_key : (x.page b).half_dead ≡ false → (x.page b).next ≢ 0 → (s : S) × ((x.page b).high_key ≡ Some s)
  -- B4: an internal page has a data item
  pub has_child : (x.page b).leaf ≡ false → (x.page b).children ≢ []
  -- B10: the entries of a leaf rise. Those of one item rise by B9
  pub rising : (x.page b).leaf ≡ true
      → AllAdjacentBelow (λ d e. o.precedes d e ≡ true) (x.page b).entries (length (x.page b).entries)
  -- B11: the last entry of a leaf is not above the high key
  pub last_within : (x.page b).leaf ≡ true → (s : S) → (x.page b).high_key ≡ Some s
      → IfLast (x.page b).entries (λ e. o.within e s ≡ true)
  -- B12: the siblings are in use, on the same level, and link back
  pub right_sibling : (x.page b).next ≢ 0
      → IsInUse x (x.page b).next
      × ((x.page (x.page b).next).level ≡ (x.page b).level)
      × ((x.page (x.page b).next).prev ≡ b)
  pub left_sibling : (x.page b).prev ≢ 0
      → IsInUse x (x.page b).prev
      × ((x.page (x.page b).prev).level ≡ (x.page b).level)
      × ((x.page (x.page b).prev).next ≡ b)
  -- B13: the children are in use, one level down
  pub child : (x.page b).leaf ≡ false
      → All (λ c. IsInUse x c.1 × ((x.page c.1).level + 1 ≡ (x.page b).level)) (x.page b).children

-- the entry is above the lower bound
abbrev pub EntryAbove : {S E : Type 0} → Order S E → Option S → E → Type 0
EntryAbove o None e = Unit {0}
EntryAbove o (Some s) e = o.within e s ≡ false

-- the separator is above the lower bound
abbrev pub KeyAbove : {S E : Type 0} → Order S E → Option S → S → Type 0
KeyAbove o None t = Unit {0}
KeyAbove o (Some s) t = o.under s t ≡ true

-- what holds of the level n levels below the top
pub record IsSoundLevel {S E : Type 0} (o : Order S E) (x : Index S E) (n : ℕ) : Type 0 where
  -- L2: the chain isn't a circle
  pub no_circle : (k : ℕ)
      → after_links (λ b. (x.page b).next) (k + 1) (entry_page (downlinks x n)) ≢ entry_page (downlinks x n)
  -- L4: the downlinks are the linked pages in chain order, and none of these is half-dead
  pub in_order : map (λ d. d.1) (downlinks x n)
      ≡ filter (lead_to (downlinks x n)) (chain_of x (entry_page (downlinks x n)))
  pub no_half_dead : All (λ d. (x.page d.1).half_dead ≡ false) (downlinks x n)
  -- L3: each page is live or dead
  pub live_or_dead : All (λ r. row_role r ≢ Neither) (level_rows x n)
  -- L5: a linked page's separator is its lower bound
  pub separators :
      All (λ r. row_role r ≡ Linked → All (λ d. d.1 ≡ row_page r → d.0 ≡ row_lower r) (downlinks x n)) (level_rows x n)
  -- L6: a live page's high key is above its lower bound, and so is its first entry
  pub key_above :
      All (λ r. is_live (row_role r) ≡ true →
      (s : S) → (x.page (row_page r)).high_key ≡ Some s → KeyAbove o (row_lower r) s) (level_rows x n)
  pub entry_above :
      All (λ r. is_live (row_role r) ≡ true →
      IfFirst (x.page (row_page r)).entries (EntryAbove o (row_lower r))) (level_rows x n)
  -- L7: the last page is live
  pub last_live : IfLast (level_rows x n) (λ r. row_role r ≢ Dead)

-- the index has what a search needs
pub record IsSearchable {S E : Type 0} (o : Order S E) (x : Index S E) : Type 0 where
  -- M2: none of the root and the fast root is 0, or both are
  pub root_or_empty : (x.root ≡ 0) ↔ (x.fastroot ≡ 0)
  -- B2 to B4 and B9 to B13, of each page in use
  pub pages : (b : ℕ) → IsInUse x b → IsSoundPage o x b
  -- L1: the root and the fast root stand where the metapage says, and the fast root not above the root
  pub root : x.root ≢ 0 → IsInUse x x.root × ((x.page x.root).level ≡ x.level)
  pub fast : x.root ≢ 0 → IsInUse x x.fastroot × ((x.page x.fastroot).level ≡ x.fastlevel)
  pub fast_below : x.root ≢ 0 → x.fastlevel ≤ x.level
  -- L2 to L7, of each level
  pub levels : x.root ≢ 0 → (n : ℕ) → n ≤ x.level → IsSoundLevel o x n
  -- L8: the fast root begins its level, and each later page of it is a right half
  pub fast_first : x.root ≢ 0 → IfFirst (level_rows x (x.level - x.fastlevel)) (λ r. row_page r ≡ x.fastroot)
  pub fast_alone : x.root ≢ 0 → (k : ℕ) (r : Row S) → slice_get (level_rows x (x.level - x.fastlevel)) (k + 1) ≡ Some r
      → row_role r ≡ Right_half
  -- L9: each page in use stands in the chain of a level
  pub reached : (b : ℕ) → IsInUse x b
      → (x.root ≢ 0) × (n : ℕ) × (n ≤ x.level) × Contains (chain_of x (entry_page (downlinks x n))) b

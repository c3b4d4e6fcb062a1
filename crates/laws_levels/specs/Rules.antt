-- The rules on the levels of a tree, L1 to L9: each is one definition, and BreaksLevelRule says where it is broken.
-- Levels, downlinks, the roles of pages and their lower bounds are those of laws_search (its specs/Levels). A level is
-- counted by its distance from the top, n: 0 is the root's. In which order the rules are asked stands in Questions.
use Rattle.std.specs.Prelude.{◌≡◌, ◌≢◌, ◌<◌, ◌≤◌, ◌+◌, ◌-◌, ◌⊎◌, ℕ, true, false, List, [], ◌∷◌, Option, Some}
use Rattle.std.specs.Prelude.{length, map, slice_get, option_map}
use Rattle.std.specs.List.{filter, Any, Contains}
use Rattle.page_layout.specs.declared.rules.Rule.{Rule}
use Rattle.page_layout.specs.declared.rules.Rule.TheVariants.{L1, L2, L3, L4, L5, L6, L7, L8, L9}
use Rattle.laws_search.specs.Order.{Order}
use Rattle.laws_search.specs.Tree.{Index, Page, chain_of, after_links}
use Rattle.laws_search.specs.Levels.{Dead, Linked, Right_half, Neither, is_live, Row, row_page, row_role, row_lower}
use Rattle.laws_search.specs.Levels.{Downlink, lead_to, entry_page, downlinks, level_rows}
use Rattle.laws_search.specs.Searchable.{EntryAbove, KeyAbove}

-- Where rules are asked

-- there are pages n levels below the top
abbrev pub IsLevel : {S E : Type 0} → Index S E → ℕ → Type 0
IsLevel x n = (x.root ≢ 0) × (n ≤ x.level)

-- the entry page of that level: the first page that its downlinks lead to
abbrev pub entry_at : {S E : Type 0} → Index S E → ℕ → ℕ
entry_at x n = entry_page (downlinks x n)

-- this is a page of that level, with its role and its lower bound
abbrev pub IsOnLevel : {S E : Type 0} → Index S E → ℕ → Row S → Type 0
IsOnLevel x n r = IsLevel x n × Contains (level_rows x n) r

-- and there is none to the right of it
abbrev pub IsLastOnLevel : {S E : Type 0} → Index S E → ℕ → Row S → Type 0
IsLastOnLevel x n r = IsLevel x n × (slice_get (level_rows x n) (length (level_rows x n) - 1) ≡ Some r)

-- L1: the roots

-- the block is idle, or its page isn't of this level
abbrev pub IsMisplaced : {S E : Type 0} → Index S E → (block level : ℕ) → Type 0
IsMisplaced x block level = ((x.page block).idle ≡ true) ⊎ ((x.page block).level ≢ level)

-- the root or the fast root isn't a page of the level that the metapage gives it, or the fast root's level is above the
-- root's
abbrev pub AreRootsMisplaced : {S E : Type 0} → Index S E → Type 0
AreRootsMisplaced x =
    IsMisplaced x x.root x.level ⊎ (IsMisplaced x x.fastroot x.fastlevel ⊎ (x.level < x.fastlevel))

-- L2: the chain of a level

-- the chain is a circle: its links to the right lead from this page back to it
abbrev pub IsCircle : {S E : Type 0} → Index S E → ℕ → Type 0
IsCircle x b = (k : ℕ) × (after_links (λ c. (x.page c).next) (k + 1) b ≡ b)

-- L3: the role of a page

abbrev pub IsNeitherLiveNorDead : {S : Type 0} → Row S → Type 0
IsNeitherLiveNorDead r = row_role r ≡ Neither

-- L4: the downlinks to a level

-- the pages that they lead to aren't the linked pages of the chain, in its order
abbrev pub AreOutOfOrder : {S E : Type 0} → Index S E → List (Downlink S) → Type 0
AreOutOfOrder x ds = map (λ d. d.1) ds ≢ filter (lead_to ds) (chain_of x (entry_page ds))

-- one of them leads to a half-dead page
abbrev pub LeadToHalfDead : {S E : Type 0} → Index S E → List (Downlink S) → Type 0
LeadToHalfDead x ds = Any (λ d. (x.page d.1).half_dead ≡ true) ds

abbrev pub AreDownlinksWrong : {S E : Type 0} → Index S E → List (Downlink S) → Type 0
AreDownlinksWrong x ds = AreOutOfOrder x ds ⊎ LeadToHalfDead x ds

-- L5: the separator of a page

-- a downlink leads to the page with another separator than the page's lower bound
abbrev pub HasWrongSeparator : {S : Type 0} → List (Downlink S) → Row S → Type 0
HasWrongSeparator ds r = (row_role r ≡ Linked) × Any (λ d. (d.1 ≡ row_page r) × (d.0 ≢ row_lower r)) ds

-- L6: the lower bound of a page

-- there is such a separator, and it isn't above the lower bound
abbrev pub IsLowSeparator : {S E : Type 0} → Order S E → Option S → Option S → Type 0
IsLowSeparator {S} o lower separator = (s : S) × (separator ≡ Some s) × ¬ KeyAbove o lower s

-- the page is a leaf, and its first entry isn't above the lower bound
abbrev pub HasLowEntry : {S E : Type 0} → Order S E → Option S → Page S E → Type 0
HasLowEntry {S} {E} o lower p = (p.leaf ≡ true) × (e : E) × (slice_get p.entries 0 ≡ Some e) × ¬ EntryAbove o lower e

-- the separator of the second of these data items. That of the first is never read
abbrev pub second_separator : {S : Type 0} → List (S × ℕ) → Option S
second_separator children = option_map (λ c. c.0) (slice_get children 1)

-- the page is internal, and its second data item's separator isn't above the lower bound
abbrev pub HasLowItem : {S E : Type 0} → Order S E → Option S → Page S E → Type 0
HasLowItem o lower p = (p.leaf ≡ false) × IsLowSeparator o lower (second_separator p.children)

-- the page is live, and its high key, its first entry or its second data item isn't above its lower bound
abbrev pub HasLowKey : {S E : Type 0} → Order S E → Index S E → Row S → Type 0
HasLowKey o x r =
    let p = x.page (row_page r) in
    (is_live (row_role r) ≡ true)
    × (IsLowSeparator o (row_lower r) p.high_key ⊎ (HasLowEntry o (row_lower r) p ⊎ HasLowItem o (row_lower r) p))

-- L7: the last page of a level

abbrev pub IsDead : {S : Type 0} → Row S → Type 0
IsDead r = row_role r ≡ Dead

-- L8: the level of the fast root

-- the level doesn't begin with the fast root, or a later page of it isn't a right half
abbrev pub IsNotAlone : {S : Type 0} → (fastroot : ℕ) → List (Row S) → Type 0
IsNotAlone fastroot [] = Unit {0}
IsNotAlone fastroot (r ∷ rs) = (row_page r ≢ fastroot) ⊎ Any (λ r. row_role r ≢ Right_half) rs

-- L9: a block

-- it stands in the chain of a level
abbrev pub StandsInChain : {S E : Type 0} → Index S E → ℕ → Type 0
StandsInChain x b = (x.root ≢ 0) × (n : ℕ) × (n ≤ x.level) × Contains (chain_of x (entry_at x n)) b

-- it isn't idle, and stands in the chain of no level
abbrev pub IsUnreached : {S E : Type 0} → Index S E → ℕ → Type 0
IsUnreached x b = ((x.page b).idle ≡ false) × ¬ StandsInChain x b

-- All of them

-- the index breaks this rule, and the block is the one that is named for it
pub data BreaksLevelRule {S E : Type 0} (o : Order S E) (x : Index S E) : Rule → ℕ → Type 0 where
  roots : x.root ≢ 0 → AreRootsMisplaced x → BreaksLevelRule o x L1 0
  circle : (n : ℕ) → IsLevel x n → IsCircle x (entry_at x n) → BreaksLevelRule o x L2 (entry_at x n)
  role : (n : ℕ) (r : Row S) → IsOnLevel x n r → IsNeitherLiveNorDead r → BreaksLevelRule o x L3 (row_page r)
  downlink : (n : ℕ) → IsLevel x n → AreDownlinksWrong x (downlinks x n) → BreaksLevelRule o x L4 (entry_at x n)
  separator : (n : ℕ) (r : Row S)
      → IsOnLevel x n r → HasWrongSeparator (downlinks x n) r → BreaksLevelRule o x L5 (row_page r)
  low_key : (n : ℕ) (r : Row S) → IsOnLevel x n r → HasLowKey o x r → BreaksLevelRule o x L6 (row_page r)
  dead_end : (n : ℕ) (r : Row S) → IsLastOnLevel x n r → IsDead r → BreaksLevelRule o x L7 (row_page r)
  not_alone : x.root ≢ 0 → x.fastlevel ≤ x.level → IsNotAlone x.fastroot (level_rows x (x.level - x.fastlevel))
      → BreaksLevelRule o x L8 x.fastroot
  unreached : (b : ℕ) → b ≢ 0 → b < x.blocks → IsUnreached x b → BreaksLevelRule o x L9 b

-- the index breaks none of them
abbrev pub KeepsLevelRules : {S E : Type 0} → Order S E → Index S E → Type 0
KeepsLevelRules o x = (rule : Rule) (block : ℕ) → ¬ BreaksLevelRule o x rule block

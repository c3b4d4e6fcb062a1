-- The order in which the rules on levels are asked: L1; on each level, from the top down, L2, L4, then of each page,
-- from left to right, L3, L5 and L6, then L7 of the last page, and on the level of the fast root L8; at the end L9 of
-- each block. What each rule says stands in Rules.
use Rattle.std.specs.Prelude.{◌≡◌, ◌==◌, ◌-◌, ℕ, zero, suc, cond, List, [], ◌∷◌, ◌++◌, map}
use Rattle.std.specs.List.{flat_map, All}
use Rattle.page_layout.specs.declared.rules.Rule.{Rule}
use Rattle.page_layout.specs.declared.rules.Rule.TheVariants.{L1, L2, L3, L4, L5, L6, L7, L8, L9}
use Rattle.laws_search.specs.Order.{Order}
use Rattle.laws_search.specs.Tree.{Index}
use Rattle.laws_search.specs.Levels.{Row, row_page, downlinks, level_rows}
use Rattle.laws_search.specs.Search.{tree_blocks}
use Rattle.laws_levels.specs.Rules.{entry_at, AreRootsMisplaced, IsCircle, IsNeitherLiveNorDead, AreDownlinksWrong}
use Rattle.laws_levels.specs.Rules.{HasWrongSeparator, HasLowKey, IsDead, IsNotAlone, IsUnreached}

-- a rule that is broken, and the block that is named for it
abbrev pub Finding : Type 0
Finding = Rule × ℕ

-- A rule, asked at its place: of the level n levels below the top, of a page, of a block.
pub data Question (S : Type 0) : Type 0 where
  Roots : Question S
  Circle : (n : ℕ) → Question S
  Downlinks : (n : ℕ) → Question S
  LiveOrDead : (r : Row S) → Question S
  Separator : (n : ℕ) (r : Row S) → Question S
  LowerBound : (r : Row S) → Question S
  LastPage : (r : Row S) → Question S
  FastRoot : Question S
  Unreached : (b : ℕ) → Question S

-- the rule that is asked is broken at its place
abbrev pub IsBroken : {S E : Type 0} → Order S E → Index S E → Question S → Type 0
IsBroken o x Roots = AreRootsMisplaced x
IsBroken o x (Circle n) = IsCircle x (entry_at x n)
IsBroken o x (Downlinks n) = AreDownlinksWrong x (downlinks x n)
IsBroken o x (LiveOrDead r) = IsNeitherLiveNorDead r
IsBroken o x (Separator n r) = HasWrongSeparator (downlinks x n) r
IsBroken o x (LowerBound r) = HasLowKey o x r
IsBroken o x (LastPage r) = IsDead r
IsBroken o x FastRoot = IsNotAlone x.fastroot (level_rows x (x.level - x.fastlevel))
IsBroken o x (Unreached b) = IsUnreached x b

-- what is found where it is
abbrev pub finding_of : {S E : Type 0} → Index S E → Question S → Finding
finding_of x Roots = (L1, 0)
finding_of x (Circle n) = (L2, entry_at x n)
finding_of x (Downlinks n) = (L4, entry_at x n)
finding_of x (LiveOrDead r) = (L3, row_page r)
finding_of x (Separator n r) = (L5, row_page r)
finding_of x (LowerBound r) = (L6, row_page r)
finding_of x (LastPage r) = (L7, row_page r)
finding_of x FastRoot = (L8, x.fastroot)
finding_of x (Unreached b) = (L9, b)

-- what is asked of a page
abbrev pub row_questions : {S : Type 0} → ℕ → Row S → List (Question S)
row_questions n r = LiveOrDead r ∷ Separator n r ∷ LowerBound r ∷ []

-- of the last page
abbrev pub last_questions : {S : Type 0} → List (Row S) → List (Question S)
last_questions [] = []
last_questions (r ∷ []) = LastPage r ∷ []
last_questions (r ∷ s ∷ rs) = last_questions (s ∷ rs)

-- of the level with this number, counted from the leaves, which stands n levels below the top
abbrev pub level_questions : {S E : Type 0} → Index S E → (level n : ℕ) → List (Question S)
level_questions x level n =
    Circle n ∷ Downlinks n ∷ flat_map (row_questions n) (level_rows x n)
    ++ (last_questions (level_rows x n) ++ cond (level == x.fastlevel) (FastRoot ∷ []) [])

-- of this level and all below it
abbrev pub levels_down : {S E : Type 0} → Index S E → (level n : ℕ) → List (Question S)
levels_down x zero n = level_questions x zero n
levels_down x (suc level) n = level_questions x (suc level) n ++ levels_down x level (suc n)

-- of the index: without a root only the blocks are asked
abbrev pub questions : {S E : Type 0} → Index S E → List (Question S)
questions x = cond (x.root == 0) [] (Roots ∷ levels_down x x.level 0) ++ map Unreached (tree_blocks x.blocks)

-- this is found at a question whose rule is broken, and none that is asked before it is
pub record IsFirst {S E : Type 0} (o : Order S E) (x : Index S E) (f : Finding) : Type 0 where
  pub before : List (Question S)
  pub question : Question S
  pub after : List (Question S)
  pub order : questions x ≡ before ++ question ∷ after
  pub found : finding_of x question ≡ f
  pub broken : IsBroken o x question
  pub none_before : All (λ q. ¬ IsBroken o x q) before

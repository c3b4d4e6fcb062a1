-- A walk along a level that is under way.
use Rattle.std.specs.Prelude.{⊤, ◌⊎◌, ◌≡◌, ◌≢◌, ◌+◌, ◌-◌, ◌<◌, ◌≤◌, ℕ}
use Rattle.std.specs.Prelude.{suc, false, List, None, Option, Some, fold, length}
use Rattle.std.specs.List.{AllByRecursion}
use Rattle.laws_search.specs.Levels.{downlinks, entry_page}
use Rattle.laws_search.specs.Probe.{halves_down, right_halves}
use Rattle.laws_search.specs.Tree.{linked_from}
use Rattle.laws_levels.specs.Cursor.{with_dead}
use Rattle.laws_levels.specs.Descent.{IsBefore}
use Rattle.laws_levels.specs.LevelWalk.{walk_start, walk_step}
use Rattle.laws_levels.specs.Links.{Leads, to_right}
use Rattle.laws_levels.specs.Meeting.{rows_met}
use Rattle.laws_levels.specs.Tests.{are_roots_misplaced}
use Rattle.laws_levels.specs.Walk.{with_blocks}
use Rattle.bt_pages.specs.Trees.{Tree}
use Rattle.bt_pages.specs.declared.tree.TreeRules.{TreeRules}
use Rattle.bt_level_check.specs.declared.course.Course.{Course}
use Rattle.bt_level_check.specs.declared.course.InHand.{InHand}
use Rattle.bt_level_check.specs.declared.judge.Entered.{Entered}
use Rattle.bt_level_check.specs.declared.judge.Entered.TheVariants.{Before, Ended}
use Rattle.bt_level_check.specs.declared.leaf_walk.LeafWalk.{LeafWalk}
use Rattle.bt_level_check.specs.declared.leaf_walk.Stage.{Stage}
use Rattle.bt_level_check.specs.declared.leaf_walk.Stage.TheVariants.{Leaves, Over}
use Rattle.bt_level_check.specs.declared.levels.Levels.{Levels}
use Rattle.bt_meta.specs.Pages.{meta_of}
use Rattle.bt_level_check.specs.Budget.{pages_below}
use Rattle.bt_level_check.specs.Counts.{half_dead_among}
use Rattle.bt_level_step.specs.Pages.{TreeDownlink}
use Rattle.bt_level_check.specs.Reading.{IsOfLevel}
use Rattle.bt_level_check.specs.Sets.{is_in}
use Rattle.bt_level_check.specs.Trees.{image_of, order_in, same_in}
use Rattle.bt_level_check.specs.Walked.{HasEnough, HasWalked, IsFirstPage, IsLevelJudged, IsReady, IsTreeJudged, IsWalking}
use Rattle.bt_level_check.specs.Walked.{StandsBefore, TreeWalk, budget_of, chain_from, lefts_of, tree_of}

-- the page in hand, if there is one, is that of its block
abbrev pub IsHeld : Tree → Option InHand → Type 0
IsHeld tree (Some hand) = hand.page.now ≡ tree.block hand.block
IsHeld tree None = ⊤

-- it comes to this page no more: there is none, or with a page in hand it stands in the file behind that one
abbrev pub IsPast : Option InHand → (next : ℕ) → Type 0
IsPast (Some hand) next = (next ≡ 0) ⊎ (hand.block < next)
IsPast None next = next ≡ 0

-- it goes along the same level
pub record IsSameCourse (old new : Course) : Type 0 where
  pub entered : new.entered ≡ old.entered
  pub first : new.first ≡ old.first

-- the pages of a chain from this one on, where so many are behind
abbrev pub pages_from : Tree → (made next : ℕ) → List ℕ
pages_from tree made next = linked_from (to_right (image_of tree)) (tree.blocks - made) next

-- the walk of laws_levels along a level with these downlinks has come to the page that is next, and carries the same;
-- what is left of it makes the whole, and so with what the sets and the counts gain; and enough is left for that and
-- all below
pub record IsUnderWay (tree : Tree) (level : ℕ) (ds : List TreeDownlink) (old levels : Levels) (course : Course)
    : Type 0 where
  pub made : ℕ
  pub walk : TreeWalk
  pub goes : fold (walk_step (same_in tree) (order_in tree) (image_of tree)) walk (pages_from tree made course.next)
      ≡ fold (walk_step (same_in tree) (order_in tree) (image_of tree)) (walk_start ds) (chain_from tree course.first)
  pub leads : Leads (to_right (image_of tree)) course.next (pages_from tree made course.next)
  pub of_level : AllByRecursion (IsOfLevel (image_of tree) level) (pages_from tree made course.next)
  pub walking : IsWalking tree level levels course.carried walk
  pub dead_pages : (q : ℕ)
      → with_dead (is_in levels.dead)
      (rows_met (image_of tree) (pages_from tree made course.next) walk.ahead walk.split walk.lower) q
      ≡ with_dead (is_in old.dead) (rows_met (image_of tree) (chain_from tree course.first) ds false None) q
  pub pages : (q : ℕ) → with_blocks (is_in levels.stands) (pages_from tree made course.next) q
      ≡ with_blocks (is_in old.stands) (chain_from tree course.first) q
  pub right_halves : levels.right_halves
      + right_halves (rows_met (image_of tree) (pages_from tree made course.next) walk.ahead walk.split walk.lower)
      ≡ old.right_halves + right_halves (rows_met (image_of tree) (chain_from tree course.first) ds false None)
  pub half_dead : levels.half_dead + half_dead_among (image_of tree) (pages_from tree made course.next)
      ≡ old.half_dead + half_dead_among (image_of tree) (chain_from tree course.first)
  pub enough : length (pages_from tree made course.next) + pages_below (image_of tree) level ≤ levels.walks_left

-- a level with these downlinks was entered by the first of them, and a walk along it is under way from its first page
pub record IsOnLevel (tree : Tree) (level : ℕ) (ds : List TreeDownlink) (old new : Levels) (course : Course)
    : Type 0 where
  pub entered : course.entered ≡ entry_page ds
  pub first : IsFirstPage (image_of tree) course.entered (Some course.first)
  pub steps : new.steps_left + length (lefts_of (image_of tree) course.entered) ≡ old.steps_left
  pub way : IsUnderWay tree level ds old new course

-- it was entered so, and a walk along it is past all of its pages
pub record HasPassedAll (tree : Tree) (level : ℕ) (ds : List TreeDownlink) (old new : Levels) (course : Course)
    : Type 0 where
  pub entered : course.entered ≡ entry_page ds
  pub first : IsFirstPage (image_of tree) course.entered (Some course.first)
  pub steps : new.steps_left + length (lefts_of (image_of tree) course.entered) ≡ old.steps_left
  pub walked : HasWalked tree level ds course.first old new course.carried

-- so it was, or what is found on it is known
abbrev pub IsEntered : Tree → (level : ℕ) → List TreeDownlink → (old new : Levels) → Entered → Type 0
IsEntered tree level ds old new (Ended judged) = IsLevelJudged tree level ds old new judged
IsEntered tree level ds old new (Before course) = IsOnLevel tree level ds old new course

-- one stands before a level, which has this number and is n levels below the top
pub record AtLevel (tree : Tree) (levels : Levels) (level n : ℕ) : Type 0 where
  pub stands : StandsBefore tree level levels (downlinks (image_of tree) n)
  pub before : IsBefore (same_in tree) (order_in tree) (image_of tree) (is_in levels.dead) (is_in levels.stands) level n
  pub enough : HasEnough tree (suc level) levels
  -- the right halves that were counted and those that are left are all, and no half-dead page stands above the leaves
  pub right_halves : levels.right_halves + halves_down (image_of tree) level n
      ≡ halves_down (image_of tree) (image_of tree).level 0
  pub half_dead : levels.half_dead ≡ 0

-- nothing is found above the leaves, and a walk along these is under way
pub record AreLeavesEntered (tree : Tree) (levels : Levels) (course : Course) : Type 0 where
  pub old : Levels
  pub depth : ℕ
  pub rooted : (image_of tree).root ≢ 0
  pub roots : are_roots_misplaced (image_of tree) ≡ false
  pub at : AtLevel tree old 0 depth
  pub on : IsOnLevel tree 0 (downlinks (image_of tree) depth) old levels course

-- so it is, or what is found on all levels is known
abbrev pub IsAtStage : Tree → Levels → Stage → Type 0
IsAtStage tree levels (Over finding) = IsTreeJudged tree levels finding
IsAtStage tree levels (Leaves course) = AreLeavesEntered tree levels course

-- it is over, or past the page in hand
abbrev pub HasPassedHand : InHand → Stage → Type 0
HasPassedHand hand (Over finding) = ⊤
HasPassedHand hand (Leaves course) = IsPast (Some hand) course.next

pub record IsOnItsWay (tree : Tree) (walk : LeafWalk) : Type 0 where
  pub meta : walk.meta ≡ meta_of (tree.block 0)
  pub stage : IsAtStage tree walk.levels walk.stage

-- the parts of what is kept
abbrev pub index_of : LeafWalk → TreeRules
index_of walk = tree_of walk.levels

abbrev pub budget_left : LeafWalk → ℕ
budget_left walk = budget_of walk.levels

abbrev pub IsReadyWalk : LeafWalk → Type 0
IsReadyWalk walk = IsReady walk.levels

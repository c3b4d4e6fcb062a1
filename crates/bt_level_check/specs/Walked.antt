-- A walk along one level in code, and the walk of laws_levels that it is.
use Rattle.std.specs.Prelude.{◌≡◌, ◌==◌, ◌&&◌, ◌||◌, ◌+◌, ◌*◌, ◌^◌, ◌<◌, ◌≤◌, ℕ, suc, Bool, true, false, List, Option}
use Rattle.std.specs.Prelude.{Some, None, fold, length}
use Rattle.std.specs.List.{AllByRecursion}
use Rattle.rel_files.specs.Relation.{count_of}
use Rattle.laws_search.specs.Keys.{Separator}
use Rattle.laws_search.specs.Levels.{Role, Row, entry_page, role_of}
use Rattle.laws_search.specs.Probe.{right_halves}
use Rattle.laws_search.specs.Tree.{Index, linked_from}
use Rattle.laws_levels.specs.Descent.{HavePassed}
use Rattle.laws_levels.specs.Cursor.{all_levels_finding, is_block_read, with_dead}
use Rattle.laws_levels.specs.LevelWalk.{Walk, level_finding, walk_start, walk_step}
use Rattle.laws_levels.specs.Links.{IsOpenChain, Leads, first_page, to_left, to_right, walked_chain, walks_to}
use Rattle.laws_levels.specs.Meeting.{is_next, rows_met, walked_rows}
use Rattle.laws_levels.specs.Questions.{Finding}
use Rattle.laws_levels.specs.Walk.{unreached_finding, with_blocks}
use Rattle.laws_levels.specs.Tests.{is_dead, is_right_half}
use Rattle.bt_level_step.specs.declared.level.LevelWalk.{LevelWalk}
use Rattle.bt_level_step.specs.Shows.{Carries}
use Rattle.key_orders.specs.declared.columns.Value.{Value}
use Rattle.key_orders.specs.declared.Tid.{Tid}
use Rattle.bt_pages.specs.Trees.{Tree}
use Rattle.bt_pages.specs.declared.tree.TreeRules.{TreeRules}
use Rattle.bt_level_check.specs.declared.downlinks.Downlinks.{Downlinks}
use Rattle.bt_level_check.specs.declared.judge.Judged.{Judged}
use Rattle.bt_level_check.specs.declared.levels.Levels.{Levels}
use Rattle.bt_level_step.specs.Bounds.{Bound, IsBound}
use Rattle.bt_level_check.specs.Budget.{pages_below}
use Rattle.bt_level_check.specs.Counts.{half_dead_among, half_dead_in, one_if, right_halves_in}
use Rattle.bt_level_step.specs.Pages.{TreeDownlink}
use Rattle.bt_level_check.specs.Downlinks.{AreReadableDownlinks, IsSettled, Reads}
use Rattle.bt_level_check.specs.Reading.{IsOfLevel}
use Rattle.bt_level_check.specs.Sets.{is_in}
use Rattle.bt_level_check.specs.Trees.{first_broken_in, image_of, order_in, same_in}

-- None where the links to the left come back to the page, else the first page of its level
abbrev pub IsFirstPage : {S E : Type 0} → Index S E → (entry : ℕ) → Option ℕ → Type 0
IsFirstPage x entry None = walks_to (to_left x) entry x.blocks (to_left x entry) ≡ true
IsFirstPage x entry (Some b) =
    (walks_to (to_left x) entry x.blocks (to_left x entry) ≡ false) × (b ≡ first_page x entry)

-- the pages to the left of one, up to the end of the links, or as many as there are blocks where they come back to it
abbrev pub lefts_of : {S E : Type 0} → Index S E → (entry : ℕ) → List ℕ
lefts_of x entry = linked_from (to_left x) x.blocks (to_left x entry)

-- so many steps are more than the first page of a level is away
abbrev pub IsWithin : {S E : Type 0} → Index S E → (entry steps : ℕ) → Type 0
IsWithin x entry steps =
    walks_to (to_left x) entry x.blocks (to_left x entry) ≡ false → length (lefts_of x entry) < steps

abbrev pub TreeWalk : Type 0
TreeWalk = Walk (Separator Value Tid)

-- the parts of what is kept
abbrev pub tree_of : Levels → TreeRules
tree_of levels = levels.tree

abbrev pub page_in : Levels → List ℕ
page_in levels = levels.page

abbrev pub upper_of : Levels → Downlinks
upper_of levels = levels.upper

abbrev pub lower_of : Levels → Bound
lower_of levels = levels.lower

abbrev pub fastroot_of : Levels → ℕ
fastroot_of levels = levels.fastroot

abbrev pub dead_of : Levels → ℕ → Bool
dead_of levels = is_in levels.dead

abbrev pub standing_of : Levels → ℕ → Bool
standing_of levels = is_in levels.stands

-- how often the index may still be read: for walks over pages, for steps to the left, which take two reads each,
-- and for downlinks
abbrev pub walks_of : Levels → ℕ
walks_of levels = levels.walks_left

abbrev pub steps_of : Levels → ℕ
steps_of levels = levels.steps_left

abbrev pub budget_of : Levels → ℕ
budget_of levels = levels.walks_left + 2 * levels.steps_left + levels.upper.turns_left

-- what holds of it whatever the files hold
pub record IsReady (levels : Levels) : Type 0 where
  pub upper : AreReadableDownlinks levels.tree.columns.specs.now levels.upper
  pub lower : IsBound levels.tree.columns.specs.now levels.lower
  pub dead : length levels.dead ≡ count_of levels.tree.relation.now
  pub stands : length levels.stands ≡ count_of levels.tree.relation.now
  pub steps : levels.steps_left ≤ count_of levels.tree.relation.now
  -- each page that may still be walked over can be counted
  pub right_halves : levels.right_halves + levels.walks_left < 2 ^ 32
  pub half_dead : levels.half_dead + levels.walks_left < 2 ^ 32

-- so can one that was read and isn't counted yet
pub record HasRoom (levels : Levels) : Type 0 where
  pub right_halves : levels.right_halves + levels.walks_left + 1 < 2 ^ 32
  pub half_dead : levels.half_dead + levels.walks_left + 1 < 2 ^ 32

-- the index and its fast root stay
pub record IsSameIndex (old new : Levels) : Type 0 where
  pub tree : new.tree ≡ old.tree
  pub fastroot : new.fastroot ≡ old.fastroot

-- nothing has changed but a part, and with the sets what was counted
abbrev pub ChangesPage : Levels → Levels → Type 0
ChangesPage old new = new ≡ record old { page = new.page; walks_left = new.walks_left }

abbrev pub ChangesBound : Levels → Levels → Type 0
ChangesBound old new = new ≡ record old { lower = new.lower }

abbrev pub ChangesDownlinks : Levels → Levels → Type 0
ChangesDownlinks old new = new ≡ record old { upper = new.upper }

abbrev pub ChangesSets : Levels → Levels → Type 0
ChangesSets old new =
    new ≡ record old {
      dead = new.dead;
      stands = new.stands;
      right_halves = new.right_halves;
      half_dead = new.half_dead;
    }

-- what was left for walks and for steps is left
pub record KeepsBudget (old new : Levels) : Type 0 where
  pub walks : new.walks_left ≡ old.walks_left
  pub steps : new.steps_left ≡ old.steps_left

-- enough is left for all pages below this level
pub record HasEnough (tree : Tree) (level : ℕ) (levels : Levels) : Type 0 where
  pub walks : pages_below (image_of tree) level ≤ levels.walks_left
  pub steps : pages_below (image_of tree) level ≤ levels.steps_left

-- it stands before the first of these downlinks, which is in hand if there is one
pub record StandsBefore (tree : Tree) (level : ℕ) (levels : Levels) (left : List TreeDownlink) : Type 0 where
  pub fastroot : levels.fastroot ≡ (image_of tree).fastroot
  pub reads : Reads tree (is_in levels.dead) (suc level) levels.upper.turns_left levels.upper left
  pub settled : IsSettled levels.upper

-- the walk of laws_levels along this level carries the same
pub record IsWalking (tree : Tree) (level : ℕ) (levels : Levels) (carried : LevelWalk) (walk : TreeWalk) : Type 0 where
  pub carries : Carries carried walk
  pub lower : walk.lower ≡ levels.lower
  pub before : StandsBefore tree level levels walk.ahead

-- the role of the page that comes next to this walk
abbrev pub role_at : Tree → TreeWalk → ℕ → Role
role_at tree walk b = role_of ((image_of tree).page b) (is_next walk.ahead b) walk.split

-- a block in this role was added to those that stand in a chain, and to the dead pages if it is one; and it was
-- counted, if it is a right half or half-dead
pub record HasMarked (old new : Levels) (b : ℕ) (role : Role) (is_half_dead : Bool) : Type 0 where
  pub dead_pages : (q : ℕ) → is_in new.dead q ≡ (is_in old.dead q || ((b == q) && is_dead role))
  pub pages : (q : ℕ) → is_in new.stands q ≡ (is_in old.stands q || (b == q))
  pub right_halves : new.right_halves ≡ old.right_halves + one_if (is_right_half role)
  pub half_dead : new.half_dead ≡ old.half_dead + one_if is_half_dead

-- past one page
pub record HasPassed (tree : Tree) (level : ℕ) (walk : TreeWalk) (b : ℕ) (old new : Levels) (carried : LevelWalk)
    : Type 0 where
  pub walking : IsWalking tree level new carried (walk_step (same_in tree) (order_in tree) (image_of tree) walk b)
  pub marked : HasMarked old new b (role_at tree walk b) ((image_of tree).page b).half_dead

-- the pages from this one on
abbrev pub chain_from : Tree → ℕ → List ℕ
chain_from tree first = linked_from (to_right (image_of tree)) tree.blocks first

-- this page begins a chain that ends, all of whose pages are of this level
pub record BeginsChain (tree : Tree) (level first : ℕ) : Type 0 where
  pub leads : Leads (to_right (image_of tree)) first (chain_from tree first)
  pub of_level : AllByRecursion (IsOfLevel (image_of tree) level) (chain_from tree first)

-- the pages of a level were counted, whose rows and chain these are
pub record HasCounted (tree : Tree) (old new : Levels) (rows : List (Row (Separator Value Tid))) (chain : List ℕ)
    : Type 0 where
  pub right_halves : new.right_halves ≡ old.right_halves + right_halves rows
  pub half_dead : new.half_dead ≡ old.half_dead + half_dead_among (image_of tree) chain

-- past all pages of a level, whose downlinks these are: the walk of laws_levels, what the two sets and the counts have
-- gained, and enough for the walks below
pub record HasWalked (tree : Tree) (level : ℕ) (ds : List TreeDownlink) (first : ℕ) (old new : Levels)
    (carried : LevelWalk) : Type 0 where
  pub walk : TreeWalk
  pub is : walk
      ≡ fold (walk_step (same_in tree) (order_in tree) (image_of tree)) (walk_start ds) (chain_from tree first)
  pub walking : IsWalking tree level new carried walk
  pub dead_pages : (q : ℕ)
      → is_in new.dead q ≡ with_dead (is_in old.dead) (rows_met (image_of tree) (chain_from tree first) ds false None) q
  pub pages : (q : ℕ) → is_in new.stands q ≡ with_blocks (is_in old.stands) (chain_from tree first) q
  pub counted :
      HasCounted tree old new (rows_met (image_of tree) (chain_from tree first) ds false None) (chain_from tree first)
  pub enough : pages_below (image_of tree) level ≤ new.walks_left

-- what is found on a level, and if that is nothing, what is known then
pub record IsLevelPassed (tree : Tree) (level : ℕ) (ds : List TreeDownlink) (old new : Levels) (first : ℕ)
    : Type 0 where
  pub ends : walks_to (to_left (image_of tree)) (entry_page ds) tree.blocks (to_left (image_of tree) (entry_page ds))
      ≡ false
  pub begins : first ≡ first_page (image_of tree) (entry_page ds)
  pub chain : IsOpenChain (image_of tree) (entry_page ds) (walked_chain (image_of tree) ds)
  pub sets : HavePassed (image_of tree) ds (is_in old.dead) (is_in old.stands) (is_in new.dead) (is_in new.stands)
  pub counted : HasCounted tree old new (walked_rows (image_of tree) ds) (walked_chain (image_of tree) ds)
  pub enough : HasEnough tree level new
  pub turns : pages_below (image_of tree) (suc level) ≤ new.upper.turns_left

pub record IsLevelJudged (tree : Tree) (level : ℕ) (ds : List TreeDownlink) (old new : Levels) (judged : Judged)
    : Type 0 where
  pub found : judged.finding ≡ level_finding (same_in tree) (order_in tree) (image_of tree) level ds
  pub passed : judged.finding ≡ None → IsLevelPassed tree level ds old new judged.first

-- no page was walked along yet
pub record IsUnwalked (levels : Levels) : Type 0 where
  pub dead : (b : ℕ) → dead_of levels b ≡ false
  pub standing : (b : ℕ) → standing_of levels b ≡ false
  pub right_halves : levels.right_halves ≡ 0
  pub half_dead : levels.half_dead ≡ 0

-- the pages of all levels were counted
pub record HasCountedAll (tree : Tree) (levels : Levels) : Type 0 where
  pub right_halves : levels.right_halves ≡ right_halves_in (image_of tree)
  pub half_dead : levels.half_dead ≡ half_dead_in (image_of tree)

-- what is found on all levels, and if that is nothing, which blocks stand in their chains, and how many were counted
pub record AreLevelsJudged (tree : Tree) (new : Levels) (finding : Option Finding) : Type 0 where
  pub found : finding ≡ all_levels_finding (same_in tree) (order_in tree) (image_of tree)
  pub pages : finding ≡ None → (b : ℕ) → is_in new.stands b ≡ is_block_read (image_of tree) b
  pub counted : finding ≡ None → HasCountedAll tree new

-- what is found of the roots and on all levels is the first broken rule; where it is nothing, the first block that
-- stands in no chain is, and the pages of all levels were counted
pub record IsTreeJudged (tree : Tree) (new : Levels) (finding : Option Finding) : Type 0 where
  pub found : (f : Finding) → finding ≡ Some f → first_broken_in tree ≡ Some f
  pub nothing : finding ≡ None → first_broken_in tree ≡ unreached_finding (image_of tree) (is_in new.stands)
  pub counted : finding ≡ None → HasCountedAll tree new

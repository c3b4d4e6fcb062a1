-- How what is seen and carried here is what laws_levels speaks of.
use Rattle.std.specs.Prelude.{◌≡◌, ◌==◌, not, true, Bool}
use Rattle.laws_search.specs.Order.{Order}
use Rattle.laws_search.specs.Tree.{Index, Page}
use Rattle.laws_search.specs.Levels.{Role, is_live, is_single, role_of, row}
use Rattle.laws_levels.specs.Tests.{has_low_key, is_linked, same_bound}
use Rattle.laws_levels.specs.Meeting.{is_next, next_separator}
use Rattle.laws_levels.specs.LevelWalk.{Walk}
use Rattle.bt_level_step.specs.declared.level.LevelWalk.{LevelWalk}
use Rattle.bt_level_step.specs.declared.level.PageSeen.{PageSeen}
use Rattle.bt_level_step.specs.declared.roles.PageMarks.{PageMarks}

-- the marks are the page's
pub record ShowsMarks {S E : Type 0} (p : Page S E) (marks : PageMarks) : Type 0 where
  pub leaf : p.leaf ≡ marks.leaf
  pub half_dead : p.half_dead ≡ marks.half_dead
  pub incomplete_split : p.incomplete_split ≡ marks.incomplete_split
  pub has_next : not (p.next == 0) ≡ marks.has_next
  pub one_child : is_single p.children ≡ marks.one_child

-- the role of the block that comes next to this walk
abbrev pub next_role : {S E : Type 0} → Index S E → Walk S → PageSeen → Role
next_role x w page = role_of (x.page page.block) (is_next w.ahead page.block) w.split

-- the page that comes next to this walk is seen as it is. Its keys need to be compared only in some roles
pub record Sees {S E : Type 0} (same : S → S → Bool) (o : Order S E) (x : Index S E) (w : Walk S) (page : PageSeen)
    : Type 0 where
  pub marks : ShowsMarks (x.page page.block) page.marks
  pub linked : is_next w.ahead page.block ≡ page.linked
  pub wrong_separator : is_linked (next_role x w page) ≡ true
      → page.wrong_separator ≡ not (same_bound same (next_separator w.ahead) w.lower)
  pub low_key : is_live (next_role x w page) ≡ true
      → page.low_key ≡ has_low_key o x (row page.block (next_role x w page) w.lower)

-- this is what the walk carries, but for its lower bound and its downlinks
pub record Carries {S : Type 0} (c : LevelWalk) (w : Walk S) : Type 0 where
  pub split : w.split ≡ c.split
  pub half_dead : w.half_dead ≡ c.half_dead
  pub finding : w.finding ≡ c.finding
  pub dead_end : w.dead_end ≡ c.dead_end
  pub begun : w.begun ≡ c.begun
  pub alone : w.alone ≡ c.alone

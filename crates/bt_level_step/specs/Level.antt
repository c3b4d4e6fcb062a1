-- What a walk along one level carries, over what is seen of its pages.
use Rattle.std.specs.Prelude.{◌==◌, ℕ, Bool, true, false, not, ◌&&◌, ◌||◌, cond, Option, Some, None}
use Rattle.std.specs.Option.{option_or}
use Rattle.page_layout.specs.declared.rules.Rule.TheVariants.{L3, L4, L5, L6, L7, L8}
use Rattle.laws_search.specs.Levels.{Role, is_live}
use Rattle.laws_levels.specs.Questions.{Finding}
use Rattle.laws_levels.specs.Tests.{is_dead, is_linked, is_right_half, is_neither}
use Rattle.bt_level_step.specs.declared.level.LevelWalk.{LevelWalk}
use Rattle.bt_level_step.specs.declared.level.PageSeen.{PageSeen}
use Rattle.bt_level_step.specs.Roles.{marked_role}

abbrev pub at_start : LevelWalk
at_start =
    record { split = false; half_dead = false; finding = None; dead_end = None; begun = false; alone = false }

-- the last page is live with an incomplete split
abbrev pub is_after_split : LevelWalk → Bool
is_after_split c = c.split

-- L3, L5, L6 of a page in this role
abbrev pub page_finding : PageSeen → Role → Option Finding
page_finding page r =
    cond (is_neither r) (Some (L3, page.block))
    (cond (is_linked r && page.wrong_separator) (Some (L5, page.block))
    (cond (is_live r && page.low_key) (Some (L6, page.block)) None))

-- the first page is the fast root, and all later ones up to this block are right halves
abbrev pub is_alone_after : LevelWalk → (block : ℕ) → Role → (fastroot : ℕ) → Bool
is_alone_after c block r fastroot = cond c.begun (c.alone && is_right_half r) (block == fastroot)

-- past one page
abbrev pub after_page : LevelWalk → PageSeen → (fastroot : ℕ) → LevelWalk
after_page c page fastroot =
    let r = marked_role page.marks page.linked c.split in
    record {
      split = is_live r && page.marks.incomplete_split;
      half_dead = c.half_dead || (page.linked && page.marks.half_dead);
      finding = option_or c.finding (page_finding page r);
      dead_end = cond (is_dead r) (Some (L7, page.block)) None;
      begun = true;
      alone = is_alone_after c page.block r fastroot;
    }

-- at the end of the level
abbrev pub verdict_of : LevelWalk → (all_met : Bool) → (entry : ℕ) → (is_fast : Bool) → (fastroot : ℕ) → Option Finding
verdict_of c all_met entry is_fast fastroot =
    cond (not all_met || c.half_dead) (Some (L4, entry))
    (option_or c.finding (option_or c.dead_end (cond (is_fast && not c.alone) (Some (L8, fastroot)) None)))

-- The role of a page, by what is seen of it.
use Rattle.std.specs.Prelude.{Bool, not, ◌&&◌, cond}
use Rattle.laws_search.specs.Levels.{Role, Dead, Linked, Right_half, Neither}
use Rattle.bt_level_step.specs.declared.roles.PageMarks.{PageMarks}
use Rattle.bt_level_step.specs.declared.roles.PageRole.{PageRole}
use Rattle.bt_level_step.specs.declared.roles.PageRole.TheVariants.{Dead as page_dead, Linked as page_linked}
use Rattle.bt_level_step.specs.declared.roles.PageRole.TheVariants.{RightHalf as page_right_half, Neither as page_neither}

abbrev pub role_named : PageRole → Role
role_named page_dead = Dead
role_named page_linked = Linked
role_named page_right_half = Right_half
role_named page_neither = Neither

-- the first line that applies
abbrev pub marked_role : PageMarks → (linked split : Bool) → Role
marked_role marks linked split =
    cond (marks.leaf && marks.half_dead) Dead
    (cond linked Linked
    (cond split Right_half
    (cond (not marks.leaf && (marks.has_next && marks.one_child)) Dead Neither)))

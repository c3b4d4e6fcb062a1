-- A walk that is under way, by the pages that are behind it.
use Rattle.std.proofs.Common.{◌≡◌, ℕ, ◌+◌, List, [], arith, inl, length, subst, sym, ◌∙◌}
use Rattle.std.specs.Prelude.{None, Option, Some}
use Rattle.std.proofs.lemmas.List.{nil_from_length}
use Rattle.laws_levels.specs.Links.{Leads, to_right}
use Rattle.bt_pages.specs.Trees.{Tree}
use Rattle.bt_level_check.specs.declared.course.Course.{Course}
use Rattle.bt_level_check.specs.declared.course.InHand.{InHand}
use Rattle.bt_level_check.specs.declared.levels.Levels.{Levels}
use Rattle.bt_level_step.specs.Pages.{TreeDownlink}
use Rattle.bt_level_check.specs.UnderWay.{HasPassedAll, IsOnLevel, IsPast, IsSameCourse, IsUnderWay, pages_from}
use Rattle.bt_level_check.specs.Trees.{image_of}
use Rattle.bt_level_check.specs.Walked.{HasWalked, IsFirstPage, lefts_of}
use Rattle.bt_level_check.proofs.Walking.{Going, going_end}

-- where there is no page any more, it has passed all that was asked
pub past_all : (hand : Option InHand) (next : ℕ) → next ≡ 0 → IsPast hand next
past_all (Some hand) next z = inl z
past_all None next z = z

module _ (tree : Tree) (level : ℕ) (ds : List TreeDownlink) (old levels : Levels) where
  abbrev pub going : (course : Course) → (w : IsUnderWay tree level ds old levels course) → Going tree level ds course.first old levels course.carried w.made course.next
  going course w = record {
    walk = w.walk;
    goes = record { rest = w.goes };
    ahead = record { leads = w.leads; each = w.of_level };
    walking = w.walking;
    dead_pages = w.dead_pages;
    pages = w.pages;
    right_halves = w.right_halves;
    half_dead = w.half_dead;
    enough = w.enough;
  }

  pub under_way : (course : Course) (made : ℕ) → Going tree level ds course.first old levels course.carried made course.next → IsUnderWay tree level ds old levels course
  under_way course made g = record {
    made = made;
    walk = g.walk;
    goes = g.goes.rest;
    leads = g.ahead.leads;
    of_level = g.ahead.each;
    walking = g.walking;
    dead_pages = g.dead_pages;
    pages = g.pages;
    right_halves = g.right_halves;
    half_dead = g.half_dead;
    enough = g.enough;
  }

  -- where no page may be walked over any more, there is none
  pub ended : (course : Course) → levels.walks_left ≡ 0 → IsUnderWay tree level ds old levels course → course.next ≡ 0
  ended course none w =
      let enough = w.enough in
      let empty : pages_from tree w.made course.next ≡ [] = nil_from_length (pages_from tree w.made course.next) (omega (arith, enough, none)) in
      subst (Leads (to_right (image_of tree)) course.next) empty w.leads

  -- and so where there is none, it has walked along all of the level
  pub walked_all : (course : Course) → course.next ≡ 0 → IsUnderWay tree level ds old levels course → HasWalked tree level ds course.first old levels course.carried
  walked_all course z w = going_end tree level ds course.first old levels course.carried w.made course.next z (going course w)

  -- how many steps to the left were left plays no part in it
  pub whatever_steps : (course : Course) (steps : ℕ) → IsUnderWay tree level ds (record old { steps_left = steps }) levels course → IsUnderWay tree level ds old levels course
  whatever_steps course steps w = record {
    made = w.made;
    walk = w.walk;
    goes = w.goes;
    leads = w.leads;
    of_level = w.of_level;
    walking = w.walking;
    dead_pages = w.dead_pages;
    pages = w.pages;
    right_halves = w.right_halves;
    half_dead = w.half_dead;
    enough = w.enough;
  }

  -- it goes on along the same level, or is past all of its pages
  module _ (new : Levels) (course end : Course) (on : IsOnLevel tree level ds old levels course) (same : IsSameCourse course end) (steps : new.steps_left ≡ levels.steps_left) where
    first_still : IsFirstPage (image_of tree) end.entered (Some end.first)
    first_still =
        subst (λ (e : ℕ). IsFirstPage (image_of tree) e (Some end.first)) (sym same.entered)
        (subst (λ (b : ℕ). IsFirstPage (image_of tree) course.entered (Some b)) (sym same.first) on.first)

    steps_still : new.steps_left + length (lefts_of (image_of tree) end.entered) ≡ old.steps_left
    steps_still = (λ i. steps i + length (lefts_of (image_of tree) (same.entered i))) ∙ on.steps

    pub still_on : IsUnderWay tree level ds old new end → IsOnLevel tree level ds old new end
    still_on way = record { entered = same.entered ∙ on.entered; first = first_still; steps = steps_still; way = way }

    pub passed_all : HasWalked tree level ds end.first old new end.carried → HasPassedAll tree level ds old new end
    passed_all walked = record { entered = same.entered ∙ on.entered; first = first_still; steps = steps_still; walked = walked }

-- One walk along a level, from its first page to its last, that finds what is broken there.
use Rattle.std.specs.Prelude.{◌==◌, ℕ, Bool, true, false, not, ◌&&◌, ◌||◌, cond, List, [], ◌∷◌, ◌++◌}
use Rattle.std.specs.Prelude.{Option, Some, None, fold}
use Rattle.std.specs.Option.{option_or}
use Rattle.page_layout.specs.declared.rules.Rule.TheVariants.{L2, L3, L4, L5, L6, L7, L8}
use Rattle.laws_search.specs.Order.{Order}
use Rattle.laws_search.specs.Tree.{Index}
use Rattle.laws_search.specs.Levels.{is_live, Row, row, row_page, row_role, row_lower, Downlink, role_of, lower_after}
use Rattle.laws_search.specs.Levels.{row_downlinks, entry_page}
use Rattle.laws_levels.specs.Questions.{Finding}
use Rattle.laws_levels.specs.Tests.{same_bound, is_dead, is_linked, is_right_half, is_neither, has_low_key}
use Rattle.laws_levels.specs.Links.{walks_to, to_left, walked_chain}
use Rattle.laws_levels.specs.Meeting.{is_next, next_separator, unmet_after}

-- what the walk carries from page to page
pub record Walk (S : Type 0) : Type 0 where
  -- the page to the left is live with an incomplete split
  pub split : Bool
  -- the lower bound: the high key of the last live page
  pub lower : Option S
  -- the downlinks whose pages weren't met yet
  pub ahead : List (Downlink S)
  -- a downlink led to a half-dead page (L4)
  pub half_dead : Bool
  -- the first of L3, L5 and L6, which counts if the downlinks are right
  pub finding : Option Finding
  -- L7, which counts if there is no further page
  pub dead_end : Option Finding
  -- there was a page
  pub begun : Bool
  -- the first page is the fast root, and all later ones are right halves (L8)
  pub alone : Bool
  -- the downlinks of the live pages
  pub below : List (Downlink S)

abbrev pub walk_start : {S : Type 0} → List (Downlink S) → Walk S
walk_start ds =
    record {
      split = false;
      lower = None;
      ahead = ds;
      half_dead = false;
      finding = None;
      dead_end = None;
      begun = false;
      alone = false;
      below = [];
    }

-- L3, L5, L6 of a page. If it is linked, this is the separator of its downlink
abbrev pub page_finding :
    {S E : Type 0} → (S → S → Bool) → Order S E → Index S E → Row S → (separator : Option S) → Option Finding
page_finding same o x r separator =
    cond (is_neither (row_role r)) (Some (L3, row_page r))
    (cond (is_linked (row_role r) && not (same_bound same separator (row_lower r))) (Some (L5, row_page r))
    (cond (has_low_key o x r) (Some (L6, row_page r)) None))

-- past one page
abbrev pub walk_step : {S E : Type 0} → (S → S → Bool) → Order S E → Index S E → Walk S → ℕ → Walk S
walk_step same o x w b =
    let p = x.page b in
    let r = role_of p (is_next w.ahead b) w.split in
    record {
      split = is_live r && p.incomplete_split;
      lower = lower_after p r w.lower;
      ahead = unmet_after w.ahead b;
      half_dead = w.half_dead || (is_next w.ahead b && p.half_dead);
      finding = option_or w.finding (page_finding same o x (row b r w.lower) (next_separator w.ahead));
      dead_end = cond (is_dead r) (Some (L7, b)) None;
      begun = true;
      alone = cond w.begun (w.alone && is_right_half r) (b == x.fastroot);
      below = w.below ++ row_downlinks x (row b r w.lower);
    }

-- the walk along the level below these downlinks
abbrev pub level_walk : {S E : Type 0} → (S → S → Bool) → Order S E → Index S E → List (Downlink S) → Walk S
level_walk same o x ds = fold (walk_step same o x) (walk_start ds) (walked_chain x ds)

abbrev pub is_all_met : {S : Type 0} → List (Downlink S) → Bool
is_all_met [] = true
is_all_met (d ∷ ds) = false

-- what the walk has found at its end, on a level with this entry page, which is the fast root's or not
abbrev pub level_verdict : {S E : Type 0} → Index S E → (entry : ℕ) (is_fast : Bool) → Walk S → Option Finding
level_verdict x entry is_fast w =
    cond (not (is_all_met w.ahead) || w.half_dead) (Some (L4, entry))
    (option_or w.finding (option_or w.dead_end (cond (is_fast && not w.alone) (Some (L8, x.fastroot)) None)))

-- what is found on this level, L2 first
abbrev pub level_finding :
    {S E : Type 0} → (S → S → Bool) → Order S E → Index S E → (level : ℕ) → List (Downlink S) → Option Finding
level_finding same o x level ds =
    let e = entry_page ds in
    cond (walks_to (to_left x) e x.blocks (to_left x e)) (Some (L2, e))
    (level_verdict x e (level == x.fastlevel) (level_walk same o x ds))

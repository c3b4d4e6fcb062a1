-- What is carried here is what the walk of laws_levels carries.
use Rattle.std.proofs.Common.{◌≡◌, ℕ, Bool, true, false, not, cond, List, refl, sym, ap, ◌∙◌}
use Rattle.std.specs.Prelude.{◌==◌, ◌&&◌, ◌||◌, Option, Some, None}
use Rattle.std.specs.Option.{option_or}
use Rattle.page_layout.specs.declared.rules.Rule.TheVariants.{L3, L4, L5, L6, L7, L8}
use Rattle.laws_search.specs.Order.{Order}
use Rattle.laws_search.specs.Tree.{Index, Page}
use Rattle.laws_search.specs.Levels.{Role, Dead, Linked, Right_half, Neither, Downlink, is_live, role_of, row}
use Rattle.laws_levels.specs.Questions.{Finding}
use Rattle.laws_levels.specs.Tests.{has_low_key, is_dead, is_linked, is_neither, is_right_half, same_bound}
use Rattle.laws_levels.specs.Meeting.{is_next, next_separator}
use Rattle.laws_levels.specs.LevelWalk.{Walk, is_all_met, level_verdict, page_finding as finding_of, walk_start, walk_step}
use Rattle.bt_level_step.specs.declared.level.LevelWalk.{LevelWalk}
use Rattle.bt_level_step.specs.declared.level.PageSeen.{PageSeen}
use Rattle.bt_level_step.specs.declared.roles.PageMarks.{PageMarks}
use Rattle.bt_level_step.specs.Level.{after_page, at_start, is_after_split, page_finding, verdict_of}
use Rattle.bt_level_step.specs.Roles.{marked_role}
use Rattle.bt_level_step.specs.Shows.{Carries, Sees, ShowsMarks, next_role}

pub start : {S : Type 0} (ds : List (Downlink S)) → Carries at_start (walk_start ds)
start ds = record { split = refl; half_dead = refl; finding = refl; dead_end = refl; begun = refl; alone = refl }

pub role_is : {S E : Type 0} (p : Page S E) (marks : PageMarks) (linked next split after : Bool) → ShowsMarks p marks → linked ≡ next → split ≡ after → role_of p linked split ≡ marked_role marks next after
role_is p marks linked next split after m l s =
    λ i. cond (m.leaf i && m.half_dead i) Dead (cond (l i) Linked (cond (s i) Right_half (cond (not (m.leaf i) && (m.has_next i && m.one_child i)) Dead Neither)))

-- two tests that agree where they are asked
where_asked : (t a b : Bool) → (t ≡ true → a ≡ b) → (t && a) ≡ (t && b)
where_asked true a b h = h refl
where_asked false a b h = refl

asked_twice : (t a : Bool) → (t && (t && a)) ≡ (t && a)
asked_twice true a = refl
asked_twice false a = refl

module _ {S E : Type 0} (same : S → S → Bool) (o : Order S E) (x : Index S E) where
  finding_is : (w : Walk S) (page : PageSeen) (r : Role) → r ≡ next_role x w page → Sees same o x w page → finding_of same o x (row page.block r w.lower) (next_separator w.ahead) ≡ page_finding page r
  finding_is w page r is sees =
      let separator : (is_linked r && not (same_bound same (next_separator w.ahead) w.lower)) ≡ (is_linked r && page.wrong_separator) =
      where_asked (is_linked r) _ _ (λ t. sym (sees.wrong_separator (ap is_linked (sym is) ∙ t))) in
      let low : has_low_key o x (row page.block r w.lower) ≡ (is_live r && page.low_key) =
      sym (where_asked (is_live r) page.low_key (has_low_key o x (row page.block r w.lower)) (λ t. sees.low_key (ap is_live (sym is) ∙ t) ∙ ap (λ (k : Role). has_low_key o x (row page.block k w.lower)) (sym is))
      ∙ asked_twice (is_live r) _) in
      λ i. cond (is_neither r) (Some (L3, page.block)) (cond (separator i) (Some (L5, page.block)) (cond (low i) (Some (L6, page.block)) None))

  pub step : (w : Walk S) (c : LevelWalk) (page : PageSeen) → Carries c w → Sees same o x w page → Carries (after_page c page x.fastroot) (walk_step same o x w page.block)
  step w c page k sees =
      let r : Role = next_role x w page in
      let is : r ≡ marked_role page.marks page.linked c.split = role_is (x.page page.block) page.marks (is_next w.ahead page.block) page.linked w.split c.split sees.marks sees.linked k.split in
      let found = finding_is w page r refl sees in
      record {
        split = λ i. is_live (is i) && sees.marks.incomplete_split i;
        half_dead = λ i. k.half_dead i || (sees.linked i && sees.marks.half_dead i);
        finding = (λ i. option_or (k.finding i) (found i)) ∙ ap (λ (z : Role). option_or c.finding (page_finding page z)) is;
        dead_end = ap (λ (z : Role). cond (is_dead z) (Some (L7, page.block)) None) is;
        begun = refl;
        alone = λ i. cond (k.begun i) (k.alone i && is_right_half (is i)) (page.block == x.fastroot);
      }

pub role : {S E : Type 0} (x : Index S E) (w : Walk S) (c : LevelWalk) (page : PageSeen) → Carries c w → ShowsMarks (x.page page.block) page.marks → marked_role page.marks (is_next w.ahead page.block) (is_after_split c) ≡ role_of (x.page page.block) (is_next w.ahead page.block) w.split
role x w c page k marks = sym (role_is (x.page page.block) page.marks (is_next w.ahead page.block) (is_next w.ahead page.block) w.split c.split marks refl k.split)

pub verdict : {S E : Type 0} (x : Index S E) (w : Walk S) (c : LevelWalk) (entry : ℕ) (is_fast : Bool) → Carries c w → verdict_of c (is_all_met w.ahead) entry is_fast x.fastroot ≡ level_verdict x entry is_fast w
verdict x w c entry is_fast k =
    sym (λ i. cond (not (is_all_met w.ahead) || k.half_dead i) (Some (L4, entry)) (option_or (k.finding i) (option_or (k.dead_end i) (cond (is_fast && not (k.alone i)) (Some (L8, x.fastroot)) None))))

-- What is seen of a page is what laws_levels asks of it.
use Rattle.std.proofs.Common.{◌≡◌, ℕ, suc, inl, inr, Bool, true, false, List, [], ◌∷◌, refl, sym, ap, subst, ◌∙◌}
use Rattle.std.specs.Prelude.{Option, Some, None, not, ◌==◌, ◌&&◌, cond, slice_get, option_map}
use Rattle.std.proofs.lemmas.Bool.{both_ways, cases_Bool}
use Rattle.laws_search.specs.Levels.{Dead, Linked, Right_half, Neither, is_live, is_single}
use Rattle.laws_levels.specs.Meeting.{is_next, next_separator}
use Rattle.laws_levels.specs.Tests.{is_linked, same_bound}
use Rattle.bt_level_step.specs.declared.level.LevelWalk.{LevelWalk}
use Rattle.bt_level_step.specs.declared.roles.PageMarks.{PageMarks}
use Rattle.bt_level_step.specs.declared.roles.PageRole.{PageRole}
use Rattle.bt_level_step.specs.Roles.{marked_role, role_named}
use Rattle.bt_level_step.specs.Shows.{Sees, ShowsMarks}
use Rattle.bt_level_step.proofs.Carried.{role_is}
use Rattle.bt_meta.specs.Flags.{is_half_dead, is_leaf}
use Rattle.bt_meta.specs.Pages.{opaque_of}
use Rattle.bt_image.specs.Image.{page_image}
use Rattle.bt_image.specs.Pages.{breaks_half_dead}
use Rattle.bt_image.proofs.PageFields.{half_dead_leaf}
use Rattle.bt_pages.specs.Trees.{Tree}
use Rattle.bt_level_check.specs.declared.levels.Levels.{Levels}
use Rattle.bt_level_step.specs.Pages.{TreeDownlink}
use Rattle.bt_level_check.specs.Downlinks.{IsSoundHand, in_hand}
use Rattle.bt_level_step.specs.Pages.{HasPlainItems, is_low_page}
use Rattle.bt_level_check.specs.Reading.{IsOfLevel}
use Rattle.bt_level_check.specs.Sets.{is_in}
use Rattle.bt_level_check.specs.Trees.{KeepsPages, image_of, order_in, same_in}
use Rattle.bt_level_check.specs.Walked.{IsWalking, TreeWalk, role_at}
use Rattle.bt_level_check.proofs.Hands.{in_front, separator_in_front}

-- the page to which the first downlink leads
abbrev pub leads_to : Option ℕ → ℕ → Bool
leads_to None b = false
leads_to (Some q) b = q == b

pub first_leads : (ds : List TreeDownlink) (b : ℕ) → leads_to (option_map (λ d. d.1) (slice_get ds 0)) b ≡ is_next ds b
first_leads [] b = refl
first_leads (d ∷ ds) b = refl

when_true : (t a : Bool) → t ≡ true → a ≡ (t && a)
when_true true a e = refl
when_true false a e = absurd cc

-- a live page is no half-dead leaf
live_by : (t linked split single : Bool) → is_live (cond t Dead (cond linked Linked (cond split Right_half (cond single Dead Neither)))) ≡ true → t ≡ false
live_by true linked split single e = absurd cc
live_by false linked split single e = refl

pub live_whole : (page : List ℕ) (linked split single : Bool) → breaks_half_dead page ≡ false
    → is_live (cond (is_leaf (opaque_of page) && is_half_dead (opaque_of page)) Dead (cond linked Linked (cond split Right_half (cond single Dead Neither)))) ≡ true
    → is_half_dead (opaque_of page) ≡ false
live_whole page linked split single kept live = elim (cases_Bool (is_half_dead (opaque_of page))) [
  | inl half ↦
      let leaf = half_dead_leaf page kept half in
      let no : (is_leaf (opaque_of page) && is_half_dead (opaque_of page)) ≡ false = live_by (is_leaf (opaque_of page) && is_half_dead (opaque_of page)) linked split single live in
      let yes : (is_leaf (opaque_of page) && is_half_dead (opaque_of page)) ≡ true = (λ i. leaf i && half i) in
      absurd (both_ways _ no yes)
  | inr e ↦ e
]

module _ (tree : Tree) (level : ℕ) (levels : Levels) (c : LevelWalk) (w : TreeWalk) (b : ℕ) (keeps : KeepsPages tree) (of_level : IsOfLevel (image_of tree) level b)
    (at : levels.page ≡ tree.block b) (k : IsWalking tree level levels c w) where
  pub seen_whole : is_live (role_at tree w b) ≡ true → is_half_dead (opaque_of (tree.block b)) ≡ false
  seen_whole live =
      let kept = keeps.pages b of_level.0.not_meta of_level.0.inside of_level.0.used in
      live_whole (tree.block b) (is_next w.ahead b) w.split (not (is_leaf (opaque_of (tree.block b))) && (not ((opaque_of (tree.block b)).next == 0) && is_single (page_image tree.specs tree.more (tree.block b)).children)) kept.half_dead live

  pub seen_plain : HasPlainItems tree.specs tree.more (tree.block b)
  seen_plain =
      let kept = keeps.pages b of_level.0.not_meta of_level.0.inside of_level.0.used in
      record { some = kept.some_items; plain = kept.items }

  module _ (marks : PageMarks) (linked : Bool) (role : PageRole) (shown : ShowsMarks (page_image tree.specs tree.more levels.page) marks)
      (target : linked ≡ is_next (in_hand tree.specs tree.more levels.upper) b) (named : role_named role ≡ marked_role marks linked c.split) where
    pub linked_is : is_next w.ahead b ≡ linked
    linked_is =
        let front = in_front tree (is_in levels.dead) (suc level) levels.upper.turns_left levels.upper w.ahead k.before.settled k.before.reads in
        sym (target ∙ sym (first_leads (in_hand tree.specs tree.more levels.upper) b) ∙ ap (λ o. leads_to (option_map (λ d. d.1) o) b) front ∙ first_leads w.ahead b)

    marks_are : ShowsMarks ((image_of tree).page b) marks
    marks_are = subst (λ (p : List ℕ). ShowsMarks (page_image tree.specs tree.more p) marks) at shown

    pub named_is : role_at tree w b ≡ role_named role
    named_is = role_is ((image_of tree).page b) marks (is_next w.ahead b) linked w.split c.split marks_are linked_is k.carries.split ∙ sym named

    pub sees : (wrong low : Bool)
        → (is_linked (role_named role) ≡ true → IsSoundHand tree.specs tree.more levels.upper.page levels.upper.hand → wrong ≡ not (same_bound (same_in tree) (next_separator (in_hand tree.specs tree.more levels.upper)) levels.lower))
        → (is_live (role_named role) ≡ true → HasPlainItems tree.specs tree.more levels.page → is_half_dead (opaque_of levels.page) ≡ false → low ≡ is_low_page (order_in tree) levels.lower (page_image tree.specs tree.more levels.page))
        → Sees (same_in tree) (order_in tree) (image_of tree) w (record { block = b; marks = marks; linked = linked; wrong_separator = wrong; low_key = low })
    sees wrong low separator key = record {
      marks = marks_are;
      linked = linked_is;
      wrong_separator = λ t.
          separator (ap is_linked (sym named_is) ∙ t) k.before.reads.hand
          ∙ (λ i. not (same_bound (same_in tree) (separator_in_front tree (is_in levels.dead) (suc level) levels.upper.turns_left levels.upper w.ahead k.before.settled k.before.reads i) (sym k.lower i)));
      low_key = λ t.
          key (ap is_live (sym named_is) ∙ t) (subst (HasPlainItems tree.specs tree.more) (sym at) seen_plain) (subst (λ (p : List ℕ). is_half_dead (opaque_of p) ≡ false) (sym at) (seen_whole t))
          ∙ (λ i. is_low_page (order_in tree) (sym k.lower i) (page_image tree.specs tree.more (at i)))
          ∙ when_true (is_live (role_at tree w b)) _ t;
    }

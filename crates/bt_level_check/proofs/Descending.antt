-- From one level to the next.
use Rattle.std.proofs.Common.{◌≡◌, ◌≢◌, ℕ, suc, ◌+◌, ◌-◌, Bool, true, false, List, [], ◌∷◌, refl, sym, ap, subst, ◌∙◌, arith}
use Rattle.std.specs.Prelude.{Option, Some, None, is_some, ◌==◌}
use Rattle.std.proofs.lemmas.Bool.{cond-false, cond-true, eq-eqb, ne_eqb}
use Rattle.std.proofs.lemmas.List.Elements.{recursion_from_All}
use Rattle.page_layout.specs.declared.rules.Rule.TheVariants.{L1}
use Rattle.laws_search.specs.Levels.{downlinks, entry_page, level_rows}
use Rattle.laws_search.specs.Probe.{halves_down, right_halves}
use Rattle.laws_search.specs.Tree.{chain_of}
use Rattle.laws_levels.specs.Descent.{IsBefore}
use Rattle.laws_levels.specs.Links.{walked_chain}
use Rattle.laws_levels.specs.Meeting.{walked_rows}
use Rattle.laws_levels.specs.Questions.{Finding}
use Rattle.laws_levels.specs.Rules.{entry_at}
use Rattle.laws_levels.specs.Sound.{HasSoundPages}
use Rattle.laws_levels.specs.Tests.{are_roots_misplaced}
use Rattle.laws_levels.proofs.Descent.{after_last, before_first, before_next, found_here, whole_blocks, whole_empty, whole_levels, whole_roots}
use Rattle.laws_levels.proofs.Steps.{entries_used}
use Rattle.bt_pages.specs.Trees.{Tree}
use Rattle.bt_level_check.specs.declared.downlinks.Downlinks.{Downlinks}
use Rattle.bt_level_check.specs.declared.judge.Judged.{Judged}
use Rattle.bt_level_check.specs.declared.levels.Levels.{Levels}
use Rattle.bt_level_check.specs.Counts.{half_dead_among}
use Rattle.bt_level_step.specs.Pages.{TreeDownlink}
use Rattle.bt_level_check.specs.Downlinks.{cursor_of}
use Rattle.bt_level_check.specs.Reading.{IsOfLevel, IsReading}
use Rattle.bt_level_check.specs.Sets.{is_in}
use Rattle.bt_level_check.specs.Trees.{image_of, order_in, same_in}
use Rattle.bt_level_check.specs.Walked.{AreLevelsJudged, ChangesDownlinks, IsUnwalked, HasEnough, IsLevelJudged, IsTreeJudged, StandsBefore}
use Rattle.bt_level_check.specs.UnderWay.{AtLevel}
use Rattle.bt_level_check.proofs.Counting.{few_below}
use Rattle.bt_level_check.proofs.Judging.{levels_of, reads_below}
use Rattle.bt_level_check.proofs.Tallies.{level_is_walked, none_half_dead}

-- before the one downlink to the top level no page is left to be read
pub top_reads : (tree : Tree) (dead : ℕ → Bool) (d : Downlinks) (root : ℕ) → root ≡ (image_of tree).root → cursor_of tree.specs tree.more d ≡ record { items = (None, root) ∷ []; lower = None; block = 0 } → tree.blocks ≡ d.turns_left
    → IsReading (image_of tree) dead (suc (image_of tree).level) d.turns_left (cursor_of tree.specs tree.more d) (downlinks (image_of tree) 0)
top_reads tree dead d root is at turns =
    let few = few_below (image_of tree) (suc (image_of tree).level) in
    subst (λ k. IsReading (image_of tree) dead (suc (image_of tree).level) d.turns_left k (downlinks (image_of tree) 0)) (sym at)
    (record { pages = 0; few = omega (arith, few, turns); leads = refl; of_level = tt; is = ap (λ (r : ℕ). (None, r) ∷ []) is })

-- the sums of the counts, at the top, from one level to the next, and at the end
top_halves : (n all : ℕ) → n ≡ 0 → n + all ≡ all
top_halves n all z = omega (arith, z)

next_halves : (new levels here below all : ℕ) → new ≡ levels + here → levels + (here + below) ≡ all → new + below ≡ all
next_halves new levels here below all e h = omega (arith, e, h)

last_halves : (new levels here all : ℕ) → new ≡ levels + here → levels + here ≡ all → new ≡ all
last_halves new levels here all e h = e ∙ h

more_half_dead : (new levels here : ℕ) → new ≡ levels + here → levels ≡ 0 → new ≡ here
more_half_dead new levels here e z = omega (arith, e, z)

module _ (tree : Tree) (local : HasSoundPages (order_in tree) (image_of tree)) (ne : (image_of tree).root ≢ 0) (roots : are_roots_misplaced (image_of tree) ≡ false) where
  pub at_top : (levels : Levels) (m : ℕ) → m ≡ (image_of tree).level → StandsBefore tree (image_of tree).level levels (downlinks (image_of tree) 0) → IsUnwalked levels → HasEnough tree (suc (image_of tree).level) levels → AtLevel tree levels m 0
  at_top levels m is stands none enough =
      subst (λ (k : ℕ). AtLevel tree levels k 0) (sym is) (record { stands = stands; before = before_first (same_in tree) (order_in tree) (image_of tree) ne (is_in levels.dead) (is_in levels.stands) none.dead none.standing; enough = enough; right_halves = top_halves levels.right_halves (halves_down (image_of tree) (image_of tree).level 0) none.right_halves; half_dead = none.half_dead })

  pub entry_here : (levels : Levels) (m n : ℕ) → AtLevel tree levels m n → IsOfLevel (image_of tree) m (entry_page (downlinks (image_of tree) n))
  entry_here levels m n at =
      let sum = at.before.sum in
      let used = entries_used (order_in tree) (image_of tree) local ne roots n (omega (arith, sum)) in
      let is : (image_of tree).level - n ≡ m = omega (arith, sum) in
      (used.0, used.1 ∙ is)

  module _ (levels new : Levels) (n : ℕ) (judged : Judged) where
    pub found_on : (m : ℕ) (f : Finding) → AtLevel tree levels m n → IsLevelJudged tree m (downlinks (image_of tree) n) levels new judged → judged.finding ≡ Some f → AreLevelsJudged tree new judged.finding
    found_on m f at is some = record {
      found = some ∙ sym (found_here (same_in tree) (order_in tree) (image_of tree) (is_in levels.dead) (is_in levels.stands) m n f at.before (sym is.found ∙ some));
      pages = λ none. absurd (let clash : Some f ≡ None = sym some ∙ none in cc);
      counted = λ none. absurd (let clash : Some f ≡ None = sym some ∙ none in cc);
    }

    -- where nothing is found on a level, its rows are those of the walk
    rows_on : (m : ℕ) → AtLevel tree levels m n → IsLevelJudged tree m (downlinks (image_of tree) n) levels new judged → judged.finding ≡ None → level_rows (image_of tree) n ≡ walked_rows (image_of tree) (downlinks (image_of tree) n)
    rows_on m at is none =
        level_is_walked (image_of tree) (order_in tree) local (same_in tree) m n at.before.sum (entry_here levels m n at) (sym is.found ∙ none) (is.passed none).chain.whole

    halves_on : (m : ℕ) → AtLevel tree levels m n → IsLevelJudged tree m (downlinks (image_of tree) n) levels new judged → judged.finding ≡ None → new.right_halves ≡ levels.right_halves + right_halves (level_rows (image_of tree) n)
    halves_on m at is none =
        (is.passed none).counted.right_halves ∙ sym (ap (λ rs. levels.right_halves + right_halves rs) (rows_on m at is none))

    pub last_on : AtLevel tree levels 0 n → IsLevelJudged tree 0 (downlinks (image_of tree) n) levels new judged → judged.finding ≡ None → AreLevelsJudged tree new judged.finding
    last_on at is none =
        let done = after_last (same_in tree) (order_in tree) (image_of tree) (is_in levels.dead) (is_in levels.stands) (is_in new.dead) (is_in new.stands) n at.before (sym is.found ∙ none) (is.passed none).sets in
        let sum = at.before.sum in
        let last : n ≡ (image_of tree).level = omega (arith, sum) in
        let rooted = ne_eqb (image_of tree).root 0 ne in
        let passed = is.passed none in
        record {
          found = none ∙ sym done.0;
          pages = λ nothing. done.1;
          counted = λ nothing. record {
            right_halves = last_halves new.right_halves levels.right_halves (right_halves (level_rows (image_of tree) n)) (halves_down (image_of tree) (image_of tree).level 0) (halves_on 0 at is none) at.right_halves
                ∙ sym (cond-false ((image_of tree).root == 0) 0 (halves_down (image_of tree) (image_of tree).level 0) rooted);
            half_dead = more_half_dead new.half_dead levels.half_dead (half_dead_among (image_of tree) (walked_chain (image_of tree) (downlinks (image_of tree) n))) passed.counted.half_dead at.half_dead
                ∙ sym (ap (half_dead_among (image_of tree)) passed.chain.whole)
                ∙ ap (λ (k : ℕ). half_dead_among (image_of tree) (chain_of (image_of tree) (entry_at (image_of tree) k))) last
                ∙ sym (cond-false ((image_of tree).root == 0) 0 (half_dead_among (image_of tree) (chain_of (image_of tree) (entry_at (image_of tree) (image_of tree).level))) rooted);
          };
        }

    -- so on the leaves all levels are judged
    pub leaves_on : AtLevel tree levels 0 n → IsLevelJudged tree 0 (downlinks (image_of tree) n) levels new judged → AreLevelsJudged tree new judged.finding
    leaves_on at is = by judged.finding refl
      where
        by : (o : Option Finding) → judged.finding ≡ o → AreLevelsJudged tree new judged.finding
        by None e = last_on at is e
        by (Some f) e = found_on 0 f at is e

    pub next_on : (m : ℕ) (after : Levels) → AtLevel tree levels (suc m) n → IsLevelJudged tree (suc m) (downlinks (image_of tree) n) levels new judged → judged.finding ≡ None
        → new.fastroot ≡ levels.fastroot → ChangesDownlinks new after
        → ((level : ℕ) (left : List TreeDownlink) → IsReading (image_of tree) (is_in new.dead) (suc level) new.upper.turns_left (record { items = []; lower = None; block = judged.first }) left
        → new.fastroot ≡ (image_of tree).fastroot → StandsBefore tree level after left)
        → AtLevel tree after m (suc n)
    next_on m after at is none fastroot changes descends =
        let passed = is.passed none in
        let next = before_next (same_in tree) (order_in tree) (image_of tree) local ne roots (is_in levels.dead) (is_in levels.stands) (is_in new.dead) (is_in new.stands) m n at.before (sym is.found ∙ none) passed.sets in
        let here = entry_here levels (suc m) n at in
        let dead : is_in new.dead ≡ is_in after.dead = sym (ap (λ (l : Levels). is_in l.dead) changes) in
        let stands : is_in new.stands ≡ is_in after.stands = sym (ap (λ (l : Levels). is_in l.stands) changes) in
        record {
          stands = descends m (downlinks (image_of tree) (suc n)) (reads_below tree (suc m) (downlinks (image_of tree) n) local here (is_in new.dead) judged.first new.upper.turns_left (downlinks (image_of tree) (suc n)) passed.ends passed.begins passed.chain passed.turns next.1) (fastroot ∙ at.stands.fastroot);
          before = subst (λ (s : ℕ → Bool). IsBefore (same_in tree) (order_in tree) (image_of tree) (is_in after.dead) s m (suc n)) stands
              (subst (λ (d : ℕ → Bool). IsBefore (same_in tree) (order_in tree) (image_of tree) d (is_in new.stands) m (suc n)) dead next.0);
          enough = subst (HasEnough tree (suc m)) (sym changes) (record { walks = passed.enough.walks; steps = passed.enough.steps });
          right_halves = ap (λ (l : Levels). l.right_halves + halves_down (image_of tree) m (suc n)) changes
              ∙ next_halves new.right_halves levels.right_halves (right_halves (level_rows (image_of tree) n)) (halves_down (image_of tree) m (suc n)) (halves_down (image_of tree) (image_of tree).level 0) (halves_on (suc m) at is none) at.right_halves;
          half_dead = ap (λ (l : Levels). l.half_dead) changes
              ∙ more_half_dead new.half_dead levels.half_dead (half_dead_among (image_of tree) (walked_chain (image_of tree) (downlinks (image_of tree) n))) passed.counted.half_dead at.half_dead
              ∙ none_half_dead (image_of tree) (order_in tree) local m (walked_chain (image_of tree) (downlinks (image_of tree) n)) (levels_of tree (suc m) (downlinks (image_of tree) n) local here _ (recursion_from_All _ _ passed.chain.in_use));
        }

pub none_is : (o : Option Finding) → is_some o ≡ false → o ≡ None
none_is None e = refl
none_is (Some f) e = absurd cc

pub record IsSomeFinding (o : Option Finding) : Type 0 where
  pub finding : Finding
  pub is : o ≡ Some finding

pub some_is : (o : Option Finding) → is_some o ≡ true → IsSomeFinding o
some_is None e = absurd cc
some_is (Some f) e = record { finding = f; is = refl }

-- THE WHOLE

pub empty_tree : (tree : Tree) → HasSoundPages (order_in tree) (image_of tree) → (image_of tree).root ≡ 0 → (levels : Levels) → IsUnwalked levels → IsTreeJudged tree levels None
empty_tree tree local z levels none = record {
  found = λ f e. absurd cc;
  nothing = λ e. whole_empty (same_in tree) (order_in tree) (image_of tree) local z (is_in levels.stands) none.standing;
  counted = λ e. record {
    right_halves = none.right_halves ∙ sym (cond-true ((image_of tree).root == 0) 0 (halves_down (image_of tree) (image_of tree).level 0) (eq-eqb (image_of tree).root 0 z));
    half_dead = none.half_dead ∙ sym (cond-true ((image_of tree).root == 0) 0 (half_dead_among (image_of tree) (chain_of (image_of tree) (entry_at (image_of tree) (image_of tree).level))) (eq-eqb (image_of tree).root 0 z));
  };
}

pub misplaced_tree : (tree : Tree) → HasSoundPages (order_in tree) (image_of tree) → (image_of tree).root ≢ 0 → are_roots_misplaced (image_of tree) ≡ true → (levels : Levels) → IsTreeJudged tree levels (Some (L1, 0))
misplaced_tree tree local ne misplaced levels = record {
  found = λ f e. whole_roots (same_in tree) (order_in tree) (image_of tree) local ne misplaced ∙ e;
  nothing = λ e. absurd cc;
  counted = λ e. absurd cc;
}

pub levels_tree : (tree : Tree) → HasSoundPages (order_in tree) (image_of tree) → (image_of tree).root ≢ 0 → are_roots_misplaced (image_of tree) ≡ false → (levels : Levels) (found : Option Finding) → AreLevelsJudged tree levels found → IsTreeJudged tree levels found
levels_tree tree local ne roots levels found are = record {
  found = λ f e. whole_levels (same_in tree) (order_in tree) (image_of tree) local ne roots f (sym are.found ∙ e);
  nothing = λ e. whole_blocks (same_in tree) (order_in tree) (image_of tree) local ne roots (sym are.found ∙ e) (is_in levels.stands) (are.pages e);
  counted = are.counted;
}

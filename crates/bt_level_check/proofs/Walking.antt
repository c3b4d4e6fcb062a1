-- A walk along one level, page by page.
use Rattle.std.proofs.Common.{◌≡◌, ◌≢◌, ℕ, suc, ◌+◌, ◌-◌, ◌^◌, ◌<◌, ◌≤◌, Bool, true, false, List, [], ◌∷◌, length, refl, sym, ap, ◌∙◌, subst, arith}
use Rattle.std.proofs.lemmas.List.{nil_from_length}
use Rattle.std.specs.Prelude.{None, ◌==◌, ◌&&◌, ◌||◌, fold}
use Rattle.std.specs.List.{list_any}
use Rattle.std.proofs.lemmas.Bool.{cond-true, ne_eqb}
use Rattle.laws_search.specs.Levels.{Role, Row, lower_after, row, row_page, row_role}
use Rattle.laws_search.specs.Probe.{right_halves}
use Rattle.laws_search.specs.Tree.{linked_from}
use Rattle.laws_levels.specs.Cursor.{with_dead}
use Rattle.laws_levels.specs.LevelWalk.{walk_start, walk_step}
use Rattle.laws_levels.specs.Links.{Leads, to_right}
use Rattle.laws_levels.specs.Meeting.{is_next, rows_met, unmet_after}
use Rattle.laws_levels.specs.Tests.{is_dead, is_right_half}
use Rattle.laws_levels.specs.Walk.{with_blocks}
use Rattle.laws_levels.proofs.Loops.{Ahead, FoldWalk, ahead_here, ahead_start, ahead_step, fold_end, fold_start, fold_step, linked_step, linked_zero, with_blocks_step, with_dead_step}
use Rattle.bt_level_step.specs.declared.level.LevelWalk.{LevelWalk}
use Rattle.bt_level_step.specs.declared.level.PageSeen.{PageSeen}
use Rattle.bt_level_step.specs.Level.{after_page, at_start}
use Rattle.bt_level_step.specs.Shows.{Carries, Sees}
use Rattle.bt_level_step.proofs.Carried.{start, step}
use Rattle.bt_pages.specs.Trees.{Tree}
use Rattle.bt_level_check.specs.declared.levels.Levels.{Levels}
use Rattle.bt_level_check.specs.Budget.{pages_below}
use Rattle.bt_level_check.specs.Counts.{half_dead_among, one_if}
use Rattle.bt_level_step.specs.Pages.{TreeDownlink}
use Rattle.bt_level_check.specs.Downlinks.{IsSettled, Reads, cursor_of}
use Rattle.bt_level_check.specs.Reading.{IsOfLevel}
use Rattle.bt_level_check.specs.Sets.{is_in}
use Rattle.bt_level_check.specs.Trees.{image_of, order_in, same_in}
use Rattle.bt_level_check.specs.Walked.{BeginsChain, ChangesBound, ChangesDownlinks, ChangesPage, ChangesSets, HasMarked, HasPassed, HasRoom, HasWalked, IsReady, IsWalking, StandsBefore, TreeWalk, chain_from, role_at}
use Rattle.bt_level_check.proofs.Reading.{same_dead}
use Rattle.bt_level_check.proofs.Tallies.{half_dead_with, halves_with_row}

or_false : (t : Bool) → (t || false) ≡ t
or_false true = refl
or_false false = refl

-- a count that has moved on by one page, and one at the end
moved : (new old one later sum : ℕ) → new ≡ old + one → old + (one + later) ≡ sum → new + later ≡ sum
moved new old one later sum e h = omega (arith, e, h)

ended : (n sum : ℕ) → n + 0 ≡ sum → n ≡ sum
ended n sum h = omega (arith, h)

-- a page that was read can be counted
room : (n before now : ℕ) → n + before < 2 ^ 32 → now + 1 ≡ before → n + now + 1 < 2 ^ 32
room n before now h e = omega (arith, h, e)

fewer : (n now : ℕ) → n + now + 1 < 2 ^ 32 → n + now < 2 ^ 32
fewer n now h = omega (arith, h)

pub room_read : (a b : Levels) → ChangesPage a b → b.walks_left + 1 ≡ a.walks_left → IsReady a → HasRoom b
room_read a b is walks ready =
    subst HasRoom (sym is) (record {
      right_halves = room a.right_halves a.walks_left b.walks_left ready.right_halves walks;
      half_dead = room a.half_dead a.walks_left b.walks_left ready.half_dead walks;
    })

pub ready_read : (a b : Levels) → ChangesPage a b → b.walks_left + 1 ≡ a.walks_left → IsReady a → IsReady b
ready_read a b is walks ready =
    subst IsReady (sym is) (record {
      upper = ready.upper;
      lower = ready.lower;
      dead = ready.dead;
      stands = ready.stands;
      steps = ready.steps;
      right_halves = fewer a.right_halves b.walks_left (room a.right_halves a.walks_left b.walks_left ready.right_halves walks);
      half_dead = fewer a.half_dead b.walks_left (room a.half_dead a.walks_left b.walks_left ready.half_dead walks);
    })

-- the next downlink leads to this page
pub record Met (ds : List TreeDownlink) (b : ℕ) : Type 0 where
  pub first : TreeDownlink
  pub rest : List TreeDownlink
  pub is : ds ≡ first ∷ rest
  pub left : unmet_after ds b ≡ rest

pub met : (left : List TreeDownlink) (b : ℕ) → is_next left b ≡ true → Met left b
met [] b e = absurd cc
met (d ∷ ds) b e = record { first = d; rest = ds; is = refl; left = cond-true (d.1 == b) ds (d ∷ ds) e }

module _ (tree : Tree) (level : ℕ) where
  abbrev next_walk : TreeWalk → ℕ → TreeWalk
  next_walk w b = walk_step (same_in tree) (order_in tree) (image_of tree) w b

  -- WHAT A CHANGE OF ONE PART LEAVES
  pub walking_page : (a b : Levels) (c : LevelWalk) (w : TreeWalk) → ChangesPage a b → IsWalking tree level a c w → IsWalking tree level b c w
  walking_page a b c w is k = subst (λ (l : Levels). IsWalking tree level l c w) (sym is) (record { carries = k.carries; lower = k.lower; before = record { fastroot = k.before.fastroot; reads = k.before.reads; settled = k.before.settled } })

  pub passed_page : (a b new : Levels) (c : LevelWalk) (w : TreeWalk) (q : ℕ) → ChangesPage a b → HasPassed tree level w q b new c → HasPassed tree level w q a new c
  passed_page a b new c w q is k =
      let dead : is_in b.dead ≡ is_in a.dead = ap (λ (l : Levels). is_in l.dead) is in
      let stands : is_in b.stands ≡ is_in a.stands = ap (λ (l : Levels). is_in l.stands) is in
      record {
        walking = k.walking;
        marked = record {
          dead_pages = λ p. k.marked.dead_pages p ∙ ap (λ (s : ℕ → Bool). s p || ((q == p) && is_dead (role_at tree w q))) dead;
          pages = λ p. k.marked.pages p ∙ ap (λ (s : ℕ → Bool). s p || (q == p)) stands;
          right_halves = k.marked.right_halves ∙ ap (λ (l : Levels). l.right_halves + one_if (is_right_half (role_at tree w q))) is;
          half_dead = k.marked.half_dead ∙ ap (λ (l : Levels). l.half_dead + one_if ((image_of tree).page q).half_dead) is;
        };
      }

  pub before_bound : (a b : Levels) (left : List TreeDownlink) → ChangesBound a b → StandsBefore tree level a left → StandsBefore tree level b left
  before_bound a b left is k = subst (λ (l : Levels). StandsBefore tree level l left) (sym is) (record { fastroot = k.fastroot; reads = k.reads; settled = k.settled })

  -- a page of this level that is marked as dead is none of the level above
  before_sets : (a b : Levels) (left : List TreeDownlink) (q : ℕ) (role : Role) (half_dead : Bool) → IsOfLevel (image_of tree) level q → ChangesSets a b → HasMarked a b q role half_dead → StandsBefore tree level a left → StandsBefore tree level b left
  before_sets a b left q role half_dead here is marked k =
      let same : (p : ℕ) → ((image_of tree).page p).level ≡ suc level → is_in a.dead p ≡ is_in b.dead p =
      λ p up. sym (marked.dead_pages p ∙ ap (λ (t : Bool). is_in a.dead p || (t && is_dead role)) (ne_eqb q p (λ e. let one = here.1 in let two = up in let at : ((image_of tree).page q).level ≡ ((image_of tree).page p).level = ap (λ (z : ℕ). ((image_of tree).page z).level) e in absurd (omega (arith, one, two, at)))) ∙ or_false (is_in a.dead p)) in
      let reading = same_dead (image_of tree) (is_in a.dead) (suc level) (is_in b.dead) a.upper.turns_left (cursor_of tree.specs tree.more a.upper) left same k.reads.reading in
      let upper : b.upper ≡ a.upper = ap (λ (l : Levels). l.upper) is in
      record {
        fastroot = ap (λ (l : Levels). l.fastroot) is ∙ k.fastroot;
        reads = subst (λ u. Reads tree (is_in b.dead) (suc level) u.turns_left u left) (sym upper) (record { hand = k.reads.hand; reading = reading });
        settled = subst IsSettled (sym upper) k.settled;
      }

  -- PAST ONE PAGE
  pub page_passed : (s0 s1 s2 s3 : Levels) (c c' : LevelWalk) (w : TreeWalk) (b : ℕ) (seen : PageSeen) → IsOfLevel (image_of tree) level b
      → IsWalking tree level s0 c w → seen.block ≡ b → Sees (same_in tree) (order_in tree) (image_of tree) w seen
      → ChangesBound s0 s1 → s1.lower ≡ lower_after ((image_of tree).page b) (role_at tree w b) s0.lower
      → ChangesDownlinks s1 s2 → (StandsBefore tree level s1 w.ahead → StandsBefore tree level s2 (unmet_after w.ahead b))
      → ChangesSets s2 s3 → HasMarked s2 s3 b (role_at tree w b) ((image_of tree).page b).half_dead
      → c' ≡ after_page c seen s3.fastroot
      → HasPassed tree level w b s0 s3 c'
  page_passed s0 s1 s2 s3 c c' w b seen here k at sees one bound two follows three marked is =
      let before1 = before_bound s0 s1 w.ahead one k.before in
      let before2 = follows before1 in
      let before3 = before_sets s2 s3 (unmet_after w.ahead b) b (role_at tree w b) ((image_of tree).page b).half_dead here three marked before2 in
      let carries : Carries (after_page c seen (image_of tree).fastroot) (next_walk w seen.block) = step (same_in tree) (order_in tree) (image_of tree) w c seen k.carries sees in
      let lower : s3.lower ≡ s1.lower = ap (λ (l : Levels). l.lower) three ∙ ap (λ (l : Levels). l.lower) two in
      let dead : is_in s2.dead ≡ is_in s0.dead = ap (λ (l : Levels). is_in l.dead) two ∙ ap (λ (l : Levels). is_in l.dead) one in
      let stands : is_in s2.stands ≡ is_in s0.stands = ap (λ (l : Levels). is_in l.stands) two ∙ ap (λ (l : Levels). is_in l.stands) one in
      record {
        walking = record {
          carries = subst (λ (z : LevelWalk). Carries z (next_walk w b)) (sym (is ∙ ap (after_page c seen) before3.fastroot)) (subst (λ (q : ℕ). Carries (after_page c seen (image_of tree).fastroot) (next_walk w q)) at carries);
          lower = ap (lower_after ((image_of tree).page b) (role_at tree w b)) k.lower ∙ sym bound ∙ sym lower;
          before = before3;
        };
        marked = record {
          dead_pages = λ p. marked.dead_pages p ∙ ap (λ (s : ℕ → Bool). s p || ((b == p) && is_dead (role_at tree w b))) dead;
          pages = λ p. marked.pages p ∙ ap (λ (s : ℕ → Bool). s p || (b == p)) stands;
          right_halves = marked.right_halves ∙ ap (λ (l : Levels). l.right_halves + one_if (is_right_half (role_at tree w b))) two ∙ ap (λ (l : Levels). l.right_halves + one_if (is_right_half (role_at tree w b))) one;
          half_dead = marked.half_dead ∙ ap (λ (l : Levels). l.half_dead + one_if ((image_of tree).page b).half_dead) two ∙ ap (λ (l : Levels). l.half_dead + one_if ((image_of tree).page b).half_dead) one;
        };
      }

  module _ (ds : List TreeDownlink) (first : ℕ) (old : Levels) where
    abbrev whole : TreeWalk
    whole = fold (walk_step (same_in tree) (order_in tree) (image_of tree)) (walk_start ds) (chain_from tree first)

    abbrev rest : ℕ → ℕ → List ℕ
    rest i b = linked_from (to_right (image_of tree)) (tree.blocks - i) b

    -- after i pages the walk has come to b
    pub record Going (levels : Levels) (c : LevelWalk) (i b : ℕ) : Type 0 where
      pub walk : TreeWalk
      pub goes : FoldWalk (to_right (image_of tree)) (walk_step (same_in tree) (order_in tree) (image_of tree)) whole tree.blocks i b walk
      pub ahead : Ahead (to_right (image_of tree)) (IsOfLevel (image_of tree) level) tree.blocks i b
      pub walking : IsWalking tree level levels c walk
      pub dead_pages : (q : ℕ) → with_dead (is_in levels.dead) (rows_met (image_of tree) (rest i b) walk.ahead walk.split walk.lower) q ≡ with_dead (is_in old.dead) (rows_met (image_of tree) (chain_from tree first) ds false None) q
      pub pages : (q : ℕ) → with_blocks (is_in levels.stands) (rest i b) q ≡ with_blocks (is_in old.stands) (chain_from tree first) q
      -- what is left to be counted on this level
      pub right_halves : levels.right_halves + right_halves (rows_met (image_of tree) (rest i b) walk.ahead walk.split walk.lower) ≡ old.right_halves + right_halves (rows_met (image_of tree) (chain_from tree first) ds false None)
      pub half_dead : levels.half_dead + half_dead_among (image_of tree) (rest i b) ≡ old.half_dead + half_dead_among (image_of tree) (chain_from tree first)
      -- what is left to be walked over on this level, and all below it
      pub enough : length (rest i b) + pages_below (image_of tree) level ≤ levels.walks_left

    pub going_start : (levels : Levels) (c : LevelWalk) → levels ≡ record old { lower = None } → c ≡ at_start → StandsBefore tree level old ds → BeginsChain tree level first
        → length (chain_from tree first) + pages_below (image_of tree) level ≤ old.walks_left → Going levels c 0 first
    going_start levels c is begun before chain enough =
        let z : tree.blocks ≡ tree.blocks - 0 = omega arith in
        subst (λ (l : Levels). Going l c 0 first) (sym is)
        (subst (λ (k : LevelWalk). Going (record old { lower = None }) k 0 first) (sym begun)
        (record {
          walk = walk_start ds;
          goes = fold_start (to_right (image_of tree)) (walk_step (same_in tree) (order_in tree) (image_of tree)) tree.blocks first (walk_start ds);
          ahead = ahead_start (to_right (image_of tree)) (IsOfLevel (image_of tree) level) tree.blocks first chain.leads chain.of_level;
          walking = record { carries = start ds; lower = refl; before = record { fastroot = before.fastroot; reads = before.reads; settled = before.settled } };
          dead_pages = λ q. sym (ap (λ (n : ℕ). with_dead (is_in old.dead) (rows_met (image_of tree) (linked_from (to_right (image_of tree)) n first) ds false None) q) z);
          pages = λ q. sym (ap (λ (n : ℕ). with_blocks (is_in old.stands) (linked_from (to_right (image_of tree)) n first) q) z);
          right_halves = sym (ap (λ (n : ℕ). old.right_halves + right_halves (rows_met (image_of tree) (linked_from (to_right (image_of tree)) n first) ds false None)) z);
          half_dead = sym (ap (λ (n : ℕ). old.half_dead + half_dead_among (image_of tree) (linked_from (to_right (image_of tree)) n first)) z);
          enough = subst (λ (n : ℕ). length (linked_from (to_right (image_of tree)) n first) + pages_below (image_of tree) level ≤ old.walks_left) z enough;
        }))

    pub going_here : (levels : Levels) (c : LevelWalk) (i b : ℕ) → b ≢ 0 → Going levels c i b → (i < tree.blocks) × IsOfLevel (image_of tree) level b
    going_here levels c i b ne g = ahead_here (to_right (image_of tree)) (IsOfLevel (image_of tree) level) tree.blocks i b ne g.ahead

    pub going_step : (levels new : Levels) (c c' : LevelWalk) (i b : ℕ) → b ≢ 0 → (g : Going levels c i b) → HasPassed tree level g.walk b levels new c'
        → new.walks_left + 1 ≡ levels.walks_left → Going new c' (i + 1) ((image_of tree).page b).next
    going_step levels new c c' i b ne g passed taken =
        let here = going_here levels c i b ne g in
        let lt = here.0 in
        let next : ℕ = ((image_of tree).page b).next in
        let k : tree.blocks - i ≡ suc (tree.blocks - (i + 1)) = omega (arith, lt) in
        let chain : rest i b ≡ b ∷ rest (i + 1) next = ap (λ (n : ℕ). linked_from (to_right (image_of tree)) n b) k ∙ linked_step (to_right (image_of tree)) (tree.blocks - (i + 1)) b ne in
        let w : TreeWalk = next_walk g.walk b in
        let role : Role = role_at tree g.walk b in
        let later : List (Row _) = rows_met (image_of tree) (rest (i + 1) next) w.ahead w.split w.lower in
        let marked = passed.marked in
        let halves : levels.right_halves + (one_if (is_right_half role) + right_halves later) ≡ old.right_halves + right_halves (rows_met (image_of tree) (chain_from tree first) ds false None) =
        ap (λ (n : ℕ). levels.right_halves + n) (sym (halves_with_row b role g.walk.lower later))
        ∙ (sym (ap (λ (c : List ℕ). levels.right_halves + right_halves (rows_met (image_of tree) c g.walk.ahead g.walk.split g.walk.lower)) chain) ∙ g.right_halves) in
        let half_dead : levels.half_dead + (one_if ((image_of tree).page b).half_dead + half_dead_among (image_of tree) (rest (i + 1) next)) ≡ old.half_dead + half_dead_among (image_of tree) (chain_from tree first) =
        ap (λ (n : ℕ). levels.half_dead + n) (sym (half_dead_with (image_of tree) b (rest (i + 1) next)))
        ∙ (sym (ap (λ (c : List ℕ). levels.half_dead + half_dead_among (image_of tree) c) chain) ∙ g.half_dead) in
        let enough : suc (length (rest (i + 1) next)) + pages_below (image_of tree) level ≤ levels.walks_left = subst (λ (c : List ℕ). length c + pages_below (image_of tree) level ≤ levels.walks_left) chain g.enough in
        record {
          walk = w;
          goes = fold_step (to_right (image_of tree)) (walk_step (same_in tree) (order_in tree) (image_of tree)) whole tree.blocks i b g.walk lt ne g.goes;
          ahead = ahead_step (to_right (image_of tree)) (IsOfLevel (image_of tree) level) tree.blocks i b lt ne g.ahead;
          walking = passed.walking;
          dead_pages = λ q.
              ap (λ (z : Bool). z || list_any (λ r. (row_page r == q) && is_dead (row_role r)) later) (passed.marked.dead_pages q)
              ∙ (sym (with_dead_step (is_in levels.dead) (row b role g.walk.lower) later q)
              ∙ (sym (ap (λ (c : List ℕ). with_dead (is_in levels.dead) (rows_met (image_of tree) c g.walk.ahead g.walk.split g.walk.lower) q) chain) ∙ g.dead_pages q));
          pages = λ q.
              ap (λ (z : Bool). z || list_any (λ d. d == q) (rest (i + 1) next)) (passed.marked.pages q)
              ∙ (sym (with_blocks_step (is_in levels.stands) b (rest (i + 1) next) q)
              ∙ (sym (ap (λ (c : List ℕ). with_blocks (is_in levels.stands) c q) chain) ∙ g.pages q));
          right_halves = moved new.right_halves levels.right_halves _ _ _ marked.right_halves halves;
          half_dead = moved new.half_dead levels.half_dead _ _ _ marked.half_dead half_dead;
          enough = omega (arith, enough, taken);
        }

    -- where no page is left
    going_done : (levels : Levels) (c : LevelWalk) (i b : ℕ) → rest i b ≡ [] → (g : Going levels c i b) → g.walk ≡ whole → HasWalked tree level ds first old levels c
    going_done levels c i b none g is = record {
      walk = g.walk;
      is = is;
      walking = g.walking;
      dead_pages = λ q. sym (or_false (is_in levels.dead q)) ∙ (sym (ap (λ (c : List ℕ). with_dead (is_in levels.dead) (rows_met (image_of tree) c g.walk.ahead g.walk.split g.walk.lower) q) none) ∙ g.dead_pages q);
      pages = λ q. sym (or_false (is_in levels.stands q)) ∙ (sym (ap (λ (c : List ℕ). with_blocks (is_in levels.stands) c q) none) ∙ g.pages q);
      counted = record {
        right_halves = ended levels.right_halves _ (sym (ap (λ (c : List ℕ). levels.right_halves + right_halves (rows_met (image_of tree) c g.walk.ahead g.walk.split g.walk.lower)) none) ∙ g.right_halves);
        half_dead = ended levels.half_dead _ (sym (ap (λ (c : List ℕ). levels.half_dead + half_dead_among (image_of tree) c) none) ∙ g.half_dead);
      };
      enough = let enough = g.enough in omega (arith, enough);
    }

    pub going_end : (levels : Levels) (c : LevelWalk) (i b : ℕ) → b ≡ 0 → Going levels c i b → HasWalked tree level ds first old levels c
    going_end levels c i b z g =
        going_done levels c i b (ap (linked_from (to_right (image_of tree)) (tree.blocks - i)) z ∙ linked_zero (to_right (image_of tree)) (tree.blocks - i)) g
        (fold_end (to_right (image_of tree)) (walk_step (same_in tree) (order_in tree) (image_of tree)) whole tree.blocks i b g.walk z g.goes)

    -- or where no page may be walked over any more
    pub going_over : (levels : Levels) (c : LevelWalk) (i b : ℕ) → levels.walks_left ≡ 0 → Going levels c i b → HasWalked tree level ds first old levels c
    going_over levels c i b none g =
        let enough = g.enough in
        let empty : rest i b ≡ [] = nil_from_length (rest i b) (omega (arith, enough, none)) in
        going_end levels c i b (subst (Leads (to_right (image_of tree)) b) empty g.ahead.leads) g

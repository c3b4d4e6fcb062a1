-- What is found on one level.
use Rattle.std.proofs.Common.{◌≡◌, ℕ, suc, ◌+◌, ◌-◌, ◌≤◌, Bool, true, false, List, [], ◌∷◌, length, reverse, refl, sym, ap, subst, ◌∙◌, arith}
use Rattle.std.specs.Prelude.{Option, Some, None, not, ◌==◌, fold, option_map, slice_get}
use Rattle.std.proofs.lemmas.Bool.{cond-false, cond-true}
use Rattle.std.proofs.lemmas.List.Elements.{recursion_from_All}
use Rattle.page_layout.specs.declared.rules.Rule.TheVariants.{L2}
use Rattle.laws_search.specs.Levels.{entry_page}
use Rattle.laws_search.specs.Probe.{right_halves}
use Rattle.laws_search.specs.Searchable.{IsInUse}
use Rattle.std.proofs.lemmas.List.{length-append, length-reverse}
use Rattle.laws_search.specs.Tree.{chain_of, linked_from}
use Rattle.laws_search.proofs.Chains.{IsChain}
use Rattle.laws_search.proofs.Lists.{Each, Each-map}
use Rattle.laws_levels.specs.Cursor.{downlinks_left, with_dead}
use Rattle.laws_levels.specs.LevelWalk.{is_all_met, level_verdict, level_walk, walk_start, walk_step}
use Rattle.laws_levels.specs.Links.{IsOpenChain, first_page, to_left, to_right, walked_chain, walks_to}
use Rattle.laws_levels.specs.Meeting.{rows_met}
use Rattle.laws_levels.specs.Questions.{Finding}
use Rattle.laws_levels.specs.Sound.{HasSoundPages}
use Rattle.laws_levels.specs.Walk.{with_blocks}
use Rattle.laws_levels.proofs.Circles.{a_chain}
use Rattle.laws_levels.proofs.Loops.{linked_step}
use Rattle.laws_levels.proofs.Steps.{open_chain, walk_back_left}
use Rattle.bt_level_step.specs.declared.level.LevelWalk.{LevelWalk}
use Rattle.bt_level_step.specs.Level.{verdict_of}
use Rattle.bt_level_step.proofs.Carried.{verdict}
use Rattle.bt_pages.specs.Trees.{Tree}
use Rattle.bt_level_check.specs.declared.levels.Levels.{Levels}
use Rattle.bt_level_check.specs.Budget.{pages_below}
use Rattle.bt_level_check.specs.Counts.{half_dead_among}
use Rattle.bt_level_step.specs.Pages.{TreeDownlink}
use Rattle.bt_level_check.specs.Downlinks.{in_hand, is_held}
use Rattle.bt_level_check.specs.Reading.{IsOfLevel, IsReading}
use Rattle.bt_level_check.specs.Sets.{is_in}
use Rattle.bt_level_check.specs.Trees.{image_of, order_in, same_in}
use Rattle.bt_level_check.specs.Walked.{BeginsChain, HasWalked, IsFirstPage, IsLevelJudged, IsWithin, StandsBefore, chain_from, lefts_of}
use Rattle.bt_level_check.proofs.Counting.{level_and_below}
use Rattle.bt_level_check.proofs.Hands.{all_met, in_front}

-- the first of the downlinks leads to the entry page
pub entry_is : (ds : List TreeDownlink) (entry : ℕ) → option_map (λ d. d.1) (slice_get ds 0) ≡ Some entry → entry ≡ entry_page ds
entry_is [] entry e = absurd cc
entry_is (d ∷ ds) entry e = let same : d.1 ≡ entry = cc in sym same

pub no_entry : (ds : List TreeDownlink) → option_map (λ d. d.1) (slice_get ds 0) ≡ None → entry_page ds ≡ 0
no_entry [] e = refl
no_entry (d ∷ ds) e = absurd cc

module _ (tree : Tree) (level : ℕ) (ds : List TreeDownlink) where
  abbrev entry_here : ℕ
  entry_here = entry_page ds

  -- the first downlink in hand
  pub target_in_front : (levels : Levels) (target : Option ℕ) → StandsBefore tree level levels ds → target ≡ option_map (λ d. d.1) (slice_get (in_hand tree.specs tree.more levels.upper) 0) → option_map (λ d. d.1) (slice_get ds 0) ≡ target
  target_in_front levels target before is =
      sym (is ∙ ap (λ o. option_map (λ d. d.1) o) (in_front tree (is_in levels.dead) (suc level) levels.upper.turns_left levels.upper ds before.settled before.reads))

  pub judged_circle : (old new : Levels) (entry : ℕ) → entry ≡ entry_here → IsFirstPage (image_of tree) entry None → IsLevelJudged tree level ds old new (record { finding = Some (L2, entry); first = 0 })
  judged_circle old new entry is circle =
      let back = subst (λ (e : ℕ). walks_to (to_left (image_of tree)) e tree.blocks (to_left (image_of tree) e) ≡ true) is circle in
      record {
        found = ap (λ (e : ℕ). Some (L2, e)) is ∙ sym (cond-true (walks_to (to_left (image_of tree)) entry_here tree.blocks (to_left (image_of tree) entry_here)) (Some (L2, entry_here)) (level_verdict (image_of tree) entry_here (level == (image_of tree).fastlevel) (level_walk (same_in tree) (order_in tree) (image_of tree) ds)) back);
        passed = λ none. absurd cc;
      }

  module _ (local : HasSoundPages (order_in tree) (image_of tree)) (here : IsOfLevel (image_of tree) level entry_here) where
    open_here : walks_to (to_left (image_of tree)) entry_here tree.blocks (to_left (image_of tree) entry_here) ≡ false → IsOpenChain (image_of tree) entry_here (walked_chain (image_of tree) ds)
    open_here stops = open_chain (order_in tree) (image_of tree) local entry_here here.0 (sym (walk_back_left (order_in tree) (image_of tree) local entry_here here.0) ∙ stops)

    -- the whole chain, of different pages
    chain_here : walks_to (to_left (image_of tree)) entry_here tree.blocks (to_left (image_of tree) entry_here) ≡ false → IsChain (image_of tree) level (chain_of (image_of tree) entry_here)
    chain_here stops = a_chain (order_in tree) (image_of tree) local.pages level entry_here here (sym (walk_back_left (order_in tree) (image_of tree) local entry_here here.0) ∙ stops)

    -- its pages and all below the level are no more than all up to the level
    chain_fits : walks_to (to_left (image_of tree)) entry_here tree.blocks (to_left (image_of tree) entry_here) ≡ false → length (walked_chain (image_of tree) ds) + pages_below (image_of tree) level ≤ pages_below (image_of tree) (suc level)
    chain_fits stops =
        let chain = chain_here stops in
        subst (λ (c : List ℕ). length c + pages_below (image_of tree) level ≤ pages_below (image_of tree) (suc level)) (open_here stops).whole
        (level_and_below (image_of tree) level (chain_of (image_of tree) entry_here) chain.apart chain.here)

    -- and so are those to the left of its entry page, and one more
    lefts_fit : walks_to (to_left (image_of tree)) entry_here tree.blocks (to_left (image_of tree) entry_here) ≡ false → length (lefts_of (image_of tree) entry_here) + 1 + pages_below (image_of tree) level ≤ pages_below (image_of tree) (suc level)
    lefts_fit stops =
        let chain = chain_here stops in
        let lefts : List ℕ = lefts_of (image_of tree) entry_here in
        let rights : List ℕ = linked_from (to_right (image_of tree)) tree.blocks entry_here in
        let fits = level_and_below (image_of tree) level (chain_of (image_of tree) entry_here) chain.apart chain.here in
        let inside = here.0.inside in
        let n : tree.blocks ≡ suc (tree.blocks - 1) = omega (arith, inside) in
        let some : length rights ≡ suc (length (linked_from (to_right (image_of tree)) (tree.blocks - 1) (to_right (image_of tree) entry_here))) = ap length (ap (λ (m : ℕ). linked_from (to_right (image_of tree)) m entry_here) n ∙ linked_step (to_right (image_of tree)) (tree.blocks - 1) entry_here here.0.not_meta) in
        let sum : length (chain_of (image_of tree) entry_here) ≡ length (reverse lefts) + length rights = length-append (reverse lefts) rights in
        let back : length (reverse lefts) ≡ length lefts = length-reverse lefts in
        omega (arith, fits, some, sum, back)

    -- so enough is left for the way to the first page
    pub within : (entry steps : ℕ) → entry ≡ entry_here → pages_below (image_of tree) (suc level) ≤ steps → IsWithin (image_of tree) entry steps
    within entry steps is enough =
        subst (λ (e : ℕ). IsWithin (image_of tree) e steps) (sym is) (λ stops. let fit = lefts_fit stops in omega (arith, fit, enough))

    pub levels_of : (c : List ℕ) → Each (λ q. IsInUse (image_of tree) q × (((image_of tree).page q).level ≡ ((image_of tree).page entry_here).level)) c → Each (IsOfLevel (image_of tree) level) c
    levels_of c h = Each-map (λ q. IsInUse (image_of tree) q × (((image_of tree).page q).level ≡ ((image_of tree).page entry_here).level)) (IsOfLevel (image_of tree) level) c (λ q k. (k.0, k.1 ∙ here.1)) h

    pub chain_begins : (entry first : ℕ) → entry ≡ entry_here → IsFirstPage (image_of tree) entry (Some first) → BeginsChain tree level first
    chain_begins entry first is at =
        let stops = subst (λ (e : ℕ). walks_to (to_left (image_of tree)) e tree.blocks (to_left (image_of tree) e) ≡ false) is at.0 in
        let begins : first ≡ first_page (image_of tree) entry_here = at.1 ∙ ap (first_page (image_of tree)) is in
        let chain = open_here stops in
        subst (BeginsChain tree level) (sym begins) (record { leads = chain.leads; of_level = levels_of _ (recursion_from_All _ _ chain.in_use) })

    -- and for the walk
    pub chain_walks : (entry first walks : ℕ) → entry ≡ entry_here → IsFirstPage (image_of tree) entry (Some first) → pages_below (image_of tree) (suc level) ≤ walks
        → length (chain_from tree first) + pages_below (image_of tree) level ≤ walks
    chain_walks entry first walks is at enough =
        let stops = subst (λ (e : ℕ). walks_to (to_left (image_of tree)) e tree.blocks (to_left (image_of tree) e) ≡ false) is at.0 in
        let begins : first ≡ first_page (image_of tree) entry_here = at.1 ∙ ap (first_page (image_of tree)) is in
        let fits = subst (λ (b : ℕ). length (chain_from tree b) + pages_below (image_of tree) level ≤ pages_below (image_of tree) (suc level)) (sym begins) (chain_fits stops) in
        omega (arith, fits, enough)

    pub judged_chain : (old new : Levels) (carried : LevelWalk) (entry first : ℕ) (is_fast met : Bool) (finding : Option Finding) (fastroot : ℕ) → entry ≡ entry_here → IsFirstPage (image_of tree) entry (Some first)
        → is_fast ≡ (level == (image_of tree).fastlevel) → met ≡ not (is_held new.upper.hand) → new.fastroot ≡ fastroot
        → finding ≡ verdict_of carried met entry is_fast fastroot → HasWalked tree level ds first old new carried
        → (steps : ℕ) → pages_below (image_of tree) (suc level) ≤ steps → new.steps_left + length (lefts_of (image_of tree) entry) ≡ steps
        → IsLevelJudged tree level ds old new (record { finding = finding; first = first })
    judged_chain old new carried entry first is_fast met finding fastroot is at fast met_is fast_is found walked steps enough stepped =
        let stops = subst (λ (e : ℕ). walks_to (to_left (image_of tree)) e tree.blocks (to_left (image_of tree) e) ≡ false) is at.0 in
        let begins : first ≡ first_page (image_of tree) entry_here = at.1 ∙ ap (first_page (image_of tree)) is in
        let before = walked.walking.before in
        let all : is_all_met walked.walk.ahead ≡ met = all_met tree (is_in new.dead) (suc level) new.upper.turns_left new.upper walked.walk.ahead before.settled before.reads ∙ sym met_is in
        let root : fastroot ≡ (image_of tree).fastroot = sym fast_is ∙ before.fastroot in
        let fit = lefts_fit stops in
        let steps_are : new.steps_left + length (lefts_of (image_of tree) entry_here) ≡ steps = subst (λ (e : ℕ). new.steps_left + length (lefts_of (image_of tree) e) ≡ steps) is stepped in
        let turns = before.reads.reading.few in
        let whole : walked.walk ≡ level_walk (same_in tree) (order_in tree) (image_of tree) ds = walked.is ∙ ap (λ (b : ℕ). fold (walk_step (same_in tree) (order_in tree) (image_of tree)) (walk_start ds) (chain_from tree b)) begins in
        record {
          found =
              found ∙ (λ i. verdict_of carried (sym all i) (is i) (fast i) (root i))
              ∙ verdict (image_of tree) walked.walk carried entry_here (level == (image_of tree).fastlevel) walked.walking.carries
              ∙ ap (level_verdict (image_of tree) entry_here (level == (image_of tree).fastlevel)) whole
              ∙ sym (cond-false (walks_to (to_left (image_of tree)) entry_here tree.blocks (to_left (image_of tree) entry_here)) (Some (L2, entry_here)) (level_verdict (image_of tree) entry_here (level == (image_of tree).fastlevel) (level_walk (same_in tree) (order_in tree) (image_of tree) ds)) stops);
          passed = λ none. record {
            ends = stops;
            begins = begins;
            chain = open_here stops;
            sets = record {
              dead_pages = λ q. walked.dead_pages q ∙ ap (λ (b : ℕ). with_dead (is_in old.dead) (rows_met (image_of tree) (chain_from tree b) ds false None) q) begins;
              pages = λ q. walked.pages q ∙ ap (λ (b : ℕ). with_blocks (is_in old.stands) (chain_from tree b) q) begins;
            };
            counted = record {
              right_halves = walked.counted.right_halves ∙ ap (λ (b : ℕ). old.right_halves + right_halves (rows_met (image_of tree) (chain_from tree b) ds false None)) begins;
              half_dead = walked.counted.half_dead ∙ ap (λ (b : ℕ). old.half_dead + half_dead_among (image_of tree) (chain_from tree b)) begins;
            };
            enough = record { walks = walked.enough; steps = omega (arith, fit, steps_are, enough) };
            turns = omega (arith, turns);
          };
        }

    -- the downlinks along this level, before the first of them
    pub reads_below : (dead : ℕ → Bool) (first turns : ℕ) (left : List TreeDownlink) → walks_to (to_left (image_of tree)) entry_here tree.blocks (to_left (image_of tree) entry_here) ≡ false
        → first ≡ first_page (image_of tree) entry_here → IsOpenChain (image_of tree) entry_here (walked_chain (image_of tree) ds) → pages_below (image_of tree) (suc level) ≤ turns
        → downlinks_left (image_of tree) dead tree.blocks (record { items = []; lower = None; block = first_page (image_of tree) entry_here }) ≡ left
        → IsReading (image_of tree) dead level turns (record { items = []; lower = None; block = first }) left
    reads_below dead first turns left stops begins chain enough is =
        let fits = chain_fits stops in
        subst (λ (b : ℕ). IsReading (image_of tree) dead level turns (record { items = []; lower = None; block = b }) left) (sym begins)
        (record { pages = tree.blocks; few = omega (arith, fits, enough); leads = chain.leads; of_level = levels_of _ (recursion_from_All _ _ chain.in_use); is = is })

-- What the walk along a level has found at its end.
use Rattle.std.proofs.Common.{◌≡◌, ℕ, suc, ◌+◌, ◌-◌, inl, inr, Bool, true, false, not, cond, ◌&&◌, List, [], ◌∷◌}
use Rattle.std.proofs.Common.{◌++◌, refl, sym, ap, ◌∙◌, subst, arith, append_assoc}
use Rattle.std.specs.Prelude.{Option, Some, None, ◌==◌, ◌||◌, option_map, fold}
use Rattle.std.specs.Option.{option_or}
use Rattle.std.specs.List.{filter, find, list_any, flat_map}
use Rattle.std.proofs.lemmas.Bool.{cases_Bool, cond-true, cond-false, eqb-true, both_ways, not-false, or_parts}
use Rattle.std.proofs.lemmas.Bool.{false_from_ne_true}
use Rattle.std.proofs.Math.Bool.{or-false, or_assoc}
use Rattle.std.proofs.lemmas.List.{append-nil}
use Rattle.std.proofs.lemmas.List.Folds.{find-append}
use Rattle.laws_search.specs.Order.{Order}
use Rattle.laws_search.specs.Tree.{Index, chain_of}
use Rattle.laws_search.specs.Levels.{Role, Dead, Right_half, Neither, Row, row, row_page, row_role, is_live, Downlink}
use Rattle.laws_search.specs.Levels.{lead_to, is_single, role_of, lower_after, downlinks, row_downlinks, level_rows}
use Rattle.laws_search.proofs.Lists.{In, NoRepeats}
use Rattle.page_layout.specs.declared.rules.Rule.TheVariants.{L3, L4, L5, L6, L7, L8}
use Rattle.laws_levels.specs.Rules.{entry_at}
use Rattle.laws_levels.specs.Questions.{Circle, Downlinks, FastRoot, Finding, LastPage, LiveOrDead, LowerBound}
use Rattle.laws_levels.specs.Questions.{Question, Separator, finding_of, last_questions, level_questions}
use Rattle.laws_levels.specs.Questions.{row_questions}
use Rattle.laws_levels.specs.Tests.{are_downlinks_wrong, has_low_key, has_wrong_separator, is_broken, is_dead}
use Rattle.laws_levels.specs.Tests.{is_linked, is_neither, is_not_alone, is_right_half, same_bound, same_numbers}
use Rattle.laws_levels.specs.Meeting.{is_next, next_separator, rows_met, unmet, unmet_after}
use Rattle.laws_levels.specs.LevelWalk.{Walk, is_all_met, level_verdict, page_finding, walk_start, walk_step}
use Rattle.laws_levels.proofs.Decide.{same_numbers_decides}
use Rattle.laws_levels.proofs.Meets.{pages, NoRepeats-filter, all_met, met_in_order, rows_are_met, half_met}
use Rattle.laws_levels.proofs.Meets.{half_met_is, one_separator}

or_none : {X : Type 0} (a : Option X) → option_or a None ≡ a
or_none None = refl
or_none (Some x) = refl

option_or_assoc : {X : Type 0} (a b c : Option X) → option_or (option_or a b) c ≡ option_or a (option_or b c)
option_or_assoc None b c = refl
option_or_assoc (Some x) b c = refl

pub map_or : {X Y : Type 0} (f : X → Y) (a b : Option X) → option_map f (option_or a b) ≡ option_or (option_map f a) (option_map f b)
map_or f None b = refl
map_or f (Some x) b = refl

not_and : (a h z : Bool) → (not (a && h) || z) ≡ (not a || (not h || z))
not_and true true z = refl
not_and true false z = refl
not_and false h z = refl

-- L7 at the end of these rows, where it stood at o before
abbrev ends : {S : Type 0} → List (Row S) → Option Finding → Option Finding
ends [] o = o
ends (r ∷ rs) o = ends rs (cond (is_dead (row_role r)) (Some (L7, row_page r)) None)

abbrev alone_of : {S : Type 0} → ℕ → List (Row S) → Bool → Bool → Bool
alone_of fast [] begun alone = alone
alone_of fast (r ∷ rs) begun alone = alone_of fast rs true (cond begun (alone && is_right_half (row_role r)) (row_page r == fast))

alone_later :
    {S : Type 0} (fast : ℕ) (rs : List (Row S)) (a : Bool)
    → not (alone_of fast rs true a) ≡ (not a || list_any (λ r. not (is_right_half (row_role r))) rs)
alone_later fast [] a = sym (or-false (not a))
alone_later fast (r ∷ rs) a = alone_later fast rs (a && is_right_half (row_role r)) ∙ not_and a (is_right_half (row_role r)) (list_any (λ r. not (is_right_half (row_role r))) rs)

alone_is : {S : Type 0} (fast : ℕ) (rs : List (Row S)) → is_not_alone fast rs ≡ not (alone_of fast rs false false)
alone_is fast [] = refl
alone_is fast (r ∷ rs) = sym (alone_later fast rs (row_page r == fast))

role_unlinked : (dead split single : Bool) → is_linked (cond dead Dead (cond split Right_half (cond single Dead Neither))) ≡ false
role_unlinked true split single = refl
role_unlinked false true single = refl
role_unlinked false false true = refl
role_unlinked false false false = refl

In_rest : {S : Type 0} (d : Downlink S) (ds : List (Downlink S)) (b : ℕ) → In d (unmet_after ds b) → In d ds
In_rest d [] b h = h
In_rest d (e ∷ ds) b h = elim (cases_Bool (e.1 == b)) [
  | inl t ↦ inr (subst (In d) (cond-true (e.1 == b) ds (e ∷ ds) t) h)
  | inr f ↦ subst (In d) (cond-false (e.1 == b) ds (e ∷ ds) f) h
]

module _ {S E : Type 0} (same : S → S → Bool) (o : Order S E) (x : Index S E) where
  -- L3, L5, L6 along a chain
  abbrev findings : List ℕ → List (Downlink S) → Bool → Option S → Option Finding
  findings [] ds split lower = None
  findings (b ∷ c) ds split lower =
      let r = role_of (x.page b) (is_next ds b) split in
      option_or (page_finding same o x (row b r lower) (next_separator ds)) (findings c (unmet_after ds b) (is_live r && (x.page b).incomplete_split) (lower_after (x.page b) r lower))

  abbrev W : Walk S → List ℕ → Walk S
  W w c = fold (walk_step same o x) w c

  walk_rest : (c : List ℕ) (w : Walk S) → (W w c).ahead ≡ unmet c w.ahead
  walk_rest [] w = refl
  walk_rest (b ∷ c) w = walk_rest c (walk_step same o x w b)

  walk_half : (c : List ℕ) (w : Walk S) → (W w c).half_dead ≡ (w.half_dead || half_met x c w.ahead)
  walk_half [] w = sym (or-false w.half_dead)
  walk_half (b ∷ c) w = walk_half c (walk_step same o x w b) ∙ or_assoc w.half_dead (is_next w.ahead b && (x.page b).half_dead) (half_met x c (unmet_after w.ahead b))

  walk_finding : (c : List ℕ) (w : Walk S) → (W w c).finding ≡ option_or w.finding (findings c w.ahead w.split w.lower)
  walk_finding [] w = sym (or_none w.finding)
  walk_finding (b ∷ c) w =
      let r = role_of (x.page b) (is_next w.ahead b) w.split in
      walk_finding c (walk_step same o x w b)
      ∙ option_or_assoc w.finding (page_finding same o x (row b r w.lower) (next_separator w.ahead)) (findings c (unmet_after w.ahead b) (is_live r && (x.page b).incomplete_split) (lower_after (x.page b) r w.lower))

  walk_dead_end : (c : List ℕ) (w : Walk S) → (W w c).dead_end ≡ ends (rows_met x c w.ahead w.split w.lower) w.dead_end
  walk_dead_end [] w = refl
  walk_dead_end (b ∷ c) w = walk_dead_end c (walk_step same o x w b)

  walk_alone : (c : List ℕ) (w : Walk S) → (W w c).alone ≡ alone_of x.fastroot (rows_met x c w.ahead w.split w.lower) w.begun w.alone
  walk_alone [] w = refl
  walk_alone (b ∷ c) w = walk_alone c (walk_step same o x w b)

  pub walk_below : (c : List ℕ) (w : Walk S) → (W w c).below ≡ w.below ++ flat_map (row_downlinks x) (rows_met x c w.ahead w.split w.lower)
  walk_below [] w = sym (append-nil w.below)
  walk_below (b ∷ c) w =
      let r = role_of (x.page b) (is_next w.ahead b) w.split in
      walk_below c (walk_step same o x w b)
      ∙ append_assoc w.below (row_downlinks x (row b r w.lower)) (flat_map (row_downlinks x) (rows_met x c (unmet_after w.ahead b) (is_live r && (x.page b).incomplete_split) (lower_after (x.page b) r w.lower)))

  three :
      (a b c : Bool) (p q r : Question S) (f : Option (Question S))
      → option_map (finding_of x) (cond a (Some p) (cond b (Some q) (cond c (Some r) f))) ≡ option_or (cond a (Some (finding_of x p)) (cond b (Some (finding_of x q)) (cond c (Some (finding_of x r)) None))) (option_map (finding_of x) f)
  three true b c p q r f = refl
  three false true c p q r f = refl
  three false false true p q r f = refl
  three false false false p q r f = refl

  one : (a : Bool) (p : Question S) → option_map (finding_of x) (cond a (Some p) None) ≡ cond a (Some (finding_of x p)) None
  one true p = refl
  one false p = refl

  -- the downlink that is met has the separator of the page
  separator_met :
      (all : List (Downlink S)) → NoRepeats (pages all)
      → (b : ℕ) (split : Bool) (lower : Option S) (ds : List (Downlink S)) → ((d : Downlink S) → In d ds → In d all)
      → has_wrong_separator same all (row b (role_of (x.page b) (is_next ds b) split) lower) ≡ (is_linked (role_of (x.page b) (is_next ds b) split) && not (same_bound same (next_separator ds) lower))
  separator_met all apart b split lower [] sub =
      let p = x.page b in
      let unlinked : is_linked (role_of p false split) ≡ false = role_unlinked (p.leaf && p.half_dead) split (not p.leaf && (not (p.next == 0) && is_single p.children)) in
      ap (λ (z : Bool). z && list_any (λ d. (d.1 == b) && not (same_bound same d.0 lower)) all) unlinked
      ∙ ap (λ (z : Bool). z && not (same_bound same None lower)) (sym unlinked)
  separator_met all apart b split lower (d ∷ ds) sub = elim (cases_Bool (d.1 == b)) [
    | inl t ↦
        let one : list_any (λ e. (e.1 == b) && not (same_bound same e.0 lower)) all ≡ not (same_bound same d.0 lower) =
        subst (λ (z : ℕ). list_any (λ e. (e.1 == z) && not (same_bound same e.0 lower)) all ≡ not (same_bound same d.0 lower)) (eqb-true d.1 b t) (one_separator same lower d all apart (sub d (inl refl))) in
        ap (λ (z : Bool). is_linked (role_of (x.page b) (d.1 == b) split) && z) one
    | inr f ↦
        let p = x.page b in
        let unlinked : is_linked (role_of p (d.1 == b) split) ≡ false =
        ap (λ (z : Bool). is_linked (role_of p z split)) f ∙ role_unlinked (p.leaf && p.half_dead) split (not p.leaf && (not (p.next == 0) && is_single p.children)) in
        ap (λ (z : Bool). z && list_any (λ d. (d.1 == b) && not (same_bound same d.0 lower)) all) unlinked
        ∙ ap (λ (z : Bool). z && not (same_bound same d.0 lower)) (sym unlinked)
  ]

  find_rows :
      (n : ℕ) → NoRepeats (pages (downlinks x n))
      → (c : List ℕ) (ds : List (Downlink S)) (split : Bool) (lower : Option S)
      → ((d : Downlink S) → In d ds → In d (downlinks x n))
      → option_map (finding_of x) (find (is_broken same o x) (flat_map (row_questions n) (rows_met x c ds split lower))) ≡ findings c ds split lower
  find_rows n apart [] ds split lower sub = refl
  find_rows n apart (b ∷ c) ds split lower sub =
      let r : Role = role_of (x.page b) (is_next ds b) split in
      let w : Row S = row b r lower in
      let later : List (Row S) = rows_met x c (unmet_after ds b) (is_live r && (x.page b).incomplete_split) (lower_after (x.page b) r lower) in
      let f : Option (Question S) = find (is_broken same o x) (flat_map (row_questions n) later) in
      three (is_neither r) (has_wrong_separator same (downlinks x n) w) (has_low_key o x w) (LiveOrDead w) (Separator n w) (LowerBound w) f
      ∙ (ap (λ (z : Bool). option_or (cond (is_neither r) (Some (L3, b)) (cond z (Some (L5, b)) (cond (has_low_key o x w) (Some (L6, b)) None))) (option_map (finding_of x) f)) (separator_met (downlinks x n) apart b split lower ds sub)
      ∙ ap (λ z. option_or (page_finding same o x w (next_separator ds)) z) (find_rows n apart c (unmet_after ds b) (is_live r && (x.page b).incomplete_split) (lower_after (x.page b) r lower) (λ d k. sub d (In_rest d ds b k))))

  find_last : (rs : List (Row S)) → option_map (finding_of x) (find (is_broken same o x) (last_questions rs)) ≡ ends rs None
  find_last [] = refl
  find_last (r ∷ []) = one (is_dead (row_role r)) (LastPage r)
  find_last (r ∷ s ∷ rs) = find_last (s ∷ rs)

  find_fast :
      (m n : ℕ) → m + n ≡ x.level
      → option_map (finding_of x) (find (is_broken same o x) (cond (m == x.fastlevel) (FastRoot ∷ []) [])) ≡ cond ((m == x.fastlevel) && is_not_alone x.fastroot (level_rows x n)) (Some (L8, x.fastroot)) None
  find_fast m n sum = elim (cases_Bool (m == x.fastlevel)) [
    | inl t ↦
        let e : m ≡ x.fastlevel = eqb-true m x.fastlevel t in
        let is : x.level - x.fastlevel ≡ n = omega arith in
        ap (λ (z : Bool). option_map (finding_of x) (find (is_broken same o x) (cond z (FastRoot ∷ []) []))) t
        ∙ (one (is_not_alone x.fastroot (level_rows x (x.level - x.fastlevel))) FastRoot
        ∙ (ap (λ k. cond (is_not_alone x.fastroot (level_rows x k)) (Some (L8, x.fastroot)) None) is
        ∙ ap (λ (z : Bool). cond (z && is_not_alone x.fastroot (level_rows x n)) (Some (L8, x.fastroot)) None) (sym t)))
    | inr f ↦
        ap (λ (z : Bool). option_map (finding_of x) (find (is_broken same o x) (cond z (FastRoot ∷ []) []))) f
        ∙ ap (λ (z : Bool). cond (z && is_not_alone x.fastroot (level_rows x n)) (Some (L8, x.fastroot)) None) (sym f)
  ]

  -- the parts of what is left at the end, put together
  abbrev total : ℕ → Bool → List (Downlink S) → Bool → Option Finding → Option Finding → Bool → Option Finding
  total entry fast rest half f d a = cond (not (is_all_met rest) || half) (Some (L4, entry)) (option_or f (option_or d (cond (fast && not a) (Some (L8, x.fastroot)) None)))

  -- all parts at the end of the walk
  walk_total :
      (entry : ℕ) (fast : Bool) (c : List ℕ) (ds : List (Downlink S))
      → level_verdict x entry fast (W (walk_start ds) c) ≡ total entry fast (unmet c ds) (half_met x c ds) (findings c ds false None) (ends (rows_met x c ds false None) None) (alone_of x.fastroot (rows_met x c ds false None) false false)
  walk_total entry fast c ds =
      let w : Walk S = W (walk_start ds) c in
      let rs : List (Row S) = rows_met x c ds false None in
      ap (λ z. total entry fast z w.half_dead w.finding w.dead_end w.alone) (walk_rest c (walk_start ds))
      ∙ (ap (λ z. total entry fast (unmet c ds) z w.finding w.dead_end w.alone) (walk_half c (walk_start ds))
      ∙ (ap (λ z. total entry fast (unmet c ds) (half_met x c ds) z w.dead_end w.alone) (walk_finding c (walk_start ds))
      ∙ (ap (λ z. total entry fast (unmet c ds) (half_met x c ds) (findings c ds false None) z w.alone) (walk_dead_end c (walk_start ds))
      ∙ ap (λ z. total entry fast (unmet c ds) (half_met x c ds) (findings c ds false None) (ends rs None) z) (walk_alone c (walk_start ds)))))

  all_met_cases : (ds : List (Downlink S)) → (is_all_met ds ≡ true → ds ≡ []) × (ds ≡ [] → is_all_met ds ≡ true)
  all_met_cases [] = (λ h. refl, λ h. refl)
  all_met_cases (d ∷ ds) = (λ h. absurd (both_ways false refl h), λ h. absurd cc)

  or_map :
      (h : Bool) (q : Question S) (f : Option (Question S))
      → option_map (finding_of x) (cond h (Some q) f) ≡ cond h (Some (finding_of x q)) (option_map (finding_of x) f)
  or_map true q f = refl
  or_map false q f = refl

  module _ (m n : ℕ) (sum : m + n ≡ x.level) (apart : NoRepeats (chain_of x (entry_at x n))) where
    abbrev ds : List (Downlink S)
    ds = downlinks x n

    abbrev c : List ℕ
    c = chain_of x (entry_at x n)

    abbrev met_rows : List (Row S)
    met_rows = rows_met x c ds false None

    abbrev linked : List ℕ
    linked = filter (lead_to ds) c

    abbrev later : List (Question S)
    later = flat_map (row_questions n) (level_rows x n) ++ (last_questions (level_rows x n) ++ cond (m == x.fastlevel) (FastRoot ∷ []) [])

    abbrev then_found : Option Finding
    then_found = option_or (findings c ds false None) (option_or (ends met_rows None) (cond ((m == x.fastlevel) && not (alone_of x.fastroot met_rows false false)) (Some (L8, x.fastroot)) None))

    wrong_downlinks : is_all_met (unmet c ds) ≡ false → are_downlinks_wrong x ds ≡ true
    wrong_downlinks f =
        let no_order : same_numbers (pages ds) linked ≡ false = false_from_ne_true (same_numbers (pages ds) linked) (λ t.
        both_ways (is_all_met (unmet c ds)) f ((all_met_cases (unmet c ds)).1 (all_met (lead_to ds) c ds ((same_numbers_decides (pages ds) linked).0 t)))) in
        ap (λ (z : Bool). not z || list_any (λ d. (x.page d.1).half_dead) ds) no_order

    right_downlinks : unmet c ds ≡ [] → pages ds ≡ linked
    right_downlinks none = met_in_order c ds apart none

    downlinks_test : unmet c ds ≡ [] → are_downlinks_wrong x ds ≡ half_met x c ds
    downlinks_test none =
        let t : same_numbers (pages ds) linked ≡ true = (same_numbers_decides (pages ds) linked).1 (right_downlinks none) in
        ap (λ (z : Bool). not z || list_any (λ d. (x.page d.1).half_dead) ds) t ∙ sym (half_met_is x c ds none)

    later_found : unmet c ds ≡ [] → option_map (finding_of x) (find (is_broken same o x) later) ≡ then_found
    later_found none =
        let test : Question S → Bool = is_broken same o x in
        let e : pages ds ≡ linked = right_downlinks none in
        let rows_are : level_rows x n ≡ met_rows = rows_are_met x (lead_to ds) c ds false None e in
        let ds_apart : NoRepeats (pages ds) = subst NoRepeats (sym e) (NoRepeats-filter (lead_to ds) c apart) in
        let A : List (Question S) = flat_map (row_questions n) (level_rows x n) in
        let B : List (Question S) = last_questions (level_rows x n) in
        let C : List (Question S) = cond (m == x.fastlevel) (FastRoot ∷ []) [] in
        let a : option_map (finding_of x) (find test A) ≡ findings c ds false None =
        ap (λ rs. option_map (finding_of x) (find test (flat_map (row_questions n) rs))) rows_are ∙ find_rows n ds_apart c ds false None (λ d h. h) in
        let b : option_map (finding_of x) (find test B) ≡ ends met_rows None = find_last (level_rows x n) ∙ ap (λ rs. ends rs None) rows_are in
        let d : option_map (finding_of x) (find test C) ≡ cond ((m == x.fastlevel) && not (alone_of x.fastroot met_rows false false)) (Some (L8, x.fastroot)) None =
        find_fast m n sum ∙ ap (λ (z : Bool). cond ((m == x.fastlevel) && z) (Some (L8, x.fastroot)) None) (ap (is_not_alone x.fastroot) rows_are ∙ alone_is x.fastroot met_rows) in
        ap (option_map (finding_of x)) (find-append test A (B ++ C) ∙ ap (option_or (find test A)) (find-append test B C))
        ∙ (map_or (finding_of x) (find test A) (option_or (find test B) (find test C))
        ∙ (ap (option_or (option_map (finding_of x) (find test A))) (map_or (finding_of x) (find test B) (find test C))
        ∙ (ap (λ z. option_or z (option_or (option_map (finding_of x) (find test B)) (option_map (finding_of x) (find test C)))) a
        ∙ (ap (λ z. option_or (findings c ds false None) (option_or z (option_map (finding_of x) (find test C)))) b
        ∙ ap (λ z. option_or (findings c ds false None) (option_or (ends met_rows None) z)) d))))

    parts_found :
        option_map (finding_of x) (cond (are_downlinks_wrong x ds) (Some (Downlinks n)) (find (is_broken same o x) later)) ≡ total (entry_at x n) (m == x.fastlevel) (unmet c ds) (half_met x c ds) (findings c ds false None) (ends met_rows None) (alone_of x.fastroot met_rows false false)
    parts_found = elim (cases_Bool (is_all_met (unmet c ds))) [
      | inl t ↦
          let none : unmet c ds ≡ [] = (all_met_cases (unmet c ds)).0 t in
          ap (λ (z : Bool). option_map (finding_of x) (cond z (Some (Downlinks n)) (find (is_broken same o x) later))) (downlinks_test none)
          ∙ (or_map (half_met x c ds) (Downlinks n) (find (is_broken same o x) later)
          ∙ (ap (λ z. cond (half_met x c ds) (Some (L4, entry_at x n)) z) (later_found none)
          ∙ ap (λ (z : Bool). cond (not z || half_met x c ds) (Some (L4, entry_at x n)) then_found) (sym t)))
      | inr f ↦
          ap (λ (z : Bool). option_map (finding_of x) (cond z (Some (Downlinks n)) (find (is_broken same o x) later))) (wrong_downlinks f)
          ∙ ap (λ (z : Bool). cond (not z || half_met x c ds) (Some (L4, entry_at x n)) then_found) (sym f)
    ]

    -- a level without a circle: the walk finds what the definition finds
    pub level_found :
        is_broken same o x (Circle n) ≡ false
        → option_map (finding_of x) (find (is_broken same o x) (level_questions x m n)) ≡ level_verdict x (entry_at x n) (m == x.fastlevel) (W (walk_start ds) c)
    level_found no_circle =
        ap (λ (z : Bool). option_map (finding_of x) (cond z (Some (Circle n)) (cond (are_downlinks_wrong x ds) (Some (Downlinks n)) (find (is_broken same o x) later)))) no_circle
        ∙ (parts_found ∙ sym (walk_total (entry_at x n) (m == x.fastlevel) c ds))

    -- and where L4 isn't broken it has gathered the downlinks of the next level
    pub level_below : are_downlinks_wrong x ds ≡ false → (W (walk_start ds) c).below ≡ downlinks x (suc n)
    level_below right =
        let e : pages ds ≡ linked = (same_numbers_decides (pages ds) linked).0 (not-false (same_numbers (pages ds) linked) (or_parts (not (same_numbers (pages ds) linked)) (list_any (λ d. (x.page d.1).half_dead) ds) right).0) in
        walk_below c (walk_start ds) ∙ ap (flat_map (row_downlinks x)) (sym (rows_are_met x (lead_to ds) c ds false None e))

-- A cursor over the pages of a level gives the downlinks of the level below.
use Rattle.std.proofs.Common.{◌≡◌, ◌≢◌, ℕ, zero, suc, ◌+◌, ◌<◌, ◌≤◌, inl, inr, Bool, true, false, not, cond, List, []}
use Rattle.std.proofs.Common.{◌∷◌, ◌++◌, map, refl, sym, ap, ◌∙◌, subst, arith, add-zero}
use Rattle.std.specs.Option.{option_or}
use Rattle.std.specs.Prelude.{option_map, Option, Some, None, ◌==◌, ◌||◌, ◌&&◌}
use Rattle.std.specs.List.{filter, find, flat_map, list_any}
use Rattle.std.proofs.lemmas.Bool.{cases_Bool, cond-true, cond-false, eq-eqb, eqb-true, eqb-false, ne_eqb, both_ways}
use Rattle.std.proofs.lemmas.Bool.{false_from_ne_true, or_cases, or_parts, not-false, and_parts}
use Rattle.std.proofs.Math.Bool.{or-false}
use Rattle.laws_search.specs.Order.{Order}
use Rattle.laws_search.specs.Tree.{Index, chain_of, linked_from}
use Rattle.laws_search.specs.Levels.{Role, Dead, Linked, Right_half, Neither, Row, row, row_page, row_role, is_live}
use Rattle.laws_search.specs.Levels.{Downlink, lead_to, role_of, lower_after, rows, page_downlinks, row_downlinks}
use Rattle.laws_search.specs.Levels.{downlinks, level_rows}
use Rattle.laws_search.proofs.Lists.{In, Each, Each-map, Each-front, NoRepeats}
use Rattle.laws_search.proofs.Chains.{OnLevel}
use Rattle.page_layout.specs.declared.rules.Rule.TheVariants.{L1, L9}
use Rattle.laws_levels.specs.Rules.{entry_at}
use Rattle.laws_levels.specs.Questions.{FastRoot, finding_of, last_questions, level_questions, row_questions}
use Rattle.laws_levels.specs.Tests.{are_roots_misplaced, is_broken, is_dead, is_neither, same_numbers}
use Rattle.laws_levels.specs.Sound.{HasSoundPages}
use Rattle.laws_levels.specs.Links.{first_page, to_right, walked_chain}
use Rattle.laws_levels.specs.Meeting.{rows_met, walked_rows}
use Rattle.laws_levels.specs.LevelWalk.{level_finding, level_walk}
use Rattle.laws_levels.specs.Walk.{blocks_walked, levels_finding, walk_finding, with_blocks}
use Rattle.laws_levels.specs.Cursor.{Cursor, blocks_read, dead_below, downlinks_along, downlinks_left, downlinks_read}
use Rattle.laws_levels.specs.Cursor.{levels_read_finding, read_finding, turned_cursor, with_dead}
use Rattle.laws_search.specs.Search.{tree_blocks}
use Rattle.laws_levels.proofs.Find.{flat_map-Each, none_found}
use Rattle.laws_levels.proofs.Entries.{entry_is, rows_here, rows_pages}
use Rattle.laws_levels.proofs.Meets.{pages, rows_are_met}
use Rattle.laws_levels.proofs.Walks.{no_first, or_same, mapped_none, level_by_walk, below_by_walk}
use Rattle.laws_levels.proofs.Decide.{same_numbers_decides}
use Rattle.laws_levels.proofs.First.{each_two, map_each, RootsStand, roots_stand}
use Rattle.laws_levels.proofs.Circles.{a_chain, chain_from_first}

-- the set tells which pages of the rows are dead
abbrev pub Tells : {S : Type 0} → (ℕ → Bool) → List (Row S) → Type 0
Tells dead rs = Each (λ r. dead (row_page r) ≡ is_dead (row_role r)) rs

unmarked :
    {S : Type 0} (rs : List (Row S)) (b : ℕ) → (In b (map row_page rs) → ⊥)
    → list_any (λ r. (row_page r == b) && is_dead (row_role r)) rs ≡ false
unmarked [] b out = refl
unmarked (r ∷ rs) b out =
    ap (λ (z : Bool). (z && is_dead (row_role r)) || list_any (λ r. (row_page r == b) && is_dead (row_role r)) rs) (ne_eqb (row_page r) b (λ e. out (inl (sym e))))
    ∙ unmarked rs b (λ k. out (inr k))

-- a set without these pages tells after they have been added
pub marks_tell :
    {S : Type 0} (dead : ℕ → Bool) (rs : List (Row S)) → NoRepeats (map row_page rs)
    → Each (λ r. dead (row_page r) ≡ false) rs → Tells (with_dead dead rs) rs
marks_tell {S} dead rs apart fresh = each_two (λ r. dead (row_page r) ≡ false) (λ r. list_any (λ s. (row_page s == row_page r) && is_dead (row_role s)) rs ≡ is_dead (row_role r)) (λ r. with_dead dead rs (row_page r) ≡ is_dead (row_role r)) rs
    (λ r a b. ap (λ (z : Bool). z || list_any (λ s. (row_page s == row_page r) && is_dead (row_role s)) rs) a ∙ b) fresh (own rs apart)
  where
    later :
        (w : Row S) (rs ts : List (Row S)) → (In (row_page w) (map row_page ts) → ⊥)
        → Each (λ r. list_any (λ s. (row_page s == row_page r) && is_dead (row_role s)) rs ≡ is_dead (row_role r)) ts
        → Each (λ r. list_any (λ s. (row_page s == row_page r) && is_dead (row_role s)) (w ∷ rs) ≡ is_dead (row_role r)) ts
    later w rs [] out h = tt
    later w rs (t ∷ ts) out h = (
      ap (λ (z : Bool). (z && is_dead (row_role w)) || list_any (λ s. (row_page s == row_page t) && is_dead (row_role s)) rs) (ne_eqb (row_page w) (row_page t) (λ e. out (inl e))) ∙ h.0,
      later w rs ts (λ k. out (inr k)) h.1,
    )

    own :
        (rs : List (Row S)) → NoRepeats (map row_page rs)
        → Each (λ r. list_any (λ s. (row_page s == row_page r) && is_dead (row_role s)) rs ≡ is_dead (row_role r)) rs
    own [] apart = tt
    own (r ∷ rs) apart = (
      ap (λ (z : Bool). (z && is_dead (row_role r)) || list_any (λ s. (row_page s == row_page r) && is_dead (row_role s)) rs) (eq-eqb (row_page r) (row_page r) refl)
          ∙ (ap (λ z. is_dead (row_role r) || z) (unmarked rs (row_page r) apart.0) ∙ or-false (is_dead (row_role r))),
      later r rs rs apart.0 (own rs apart.1),
    )

-- one row
by_role :
    {S E : Type 0} (x : Index S E) (b : ℕ) (r : Role) (lower : Option S) (k : Option S → List (Downlink S))
    → r ≢ Neither
    → row_downlinks x (row b r lower) ++ k (lower_after (x.page b) r lower) ≡ cond (is_dead r) (k lower) (page_downlinks lower (x.page b).children ++ k (x.page b).high_key)
by_role x b Dead lower k some = refl
by_role x b Linked lower k some = refl
by_role x b Right_half lower k some = refl
by_role x b Neither lower k some = absurd (some refl)

-- the downlinks of the live pages are those along the chain without the dead
pub along :
    {S E : Type 0} (x : Index S E) (named : ℕ → Bool) (dead : ℕ → Bool) (c : List ℕ) (split : Bool) (lower : Option S)
    → Each (λ r. row_role r ≢ Neither) (rows x named split lower c) → Tells dead (rows x named split lower c)
    → flat_map (row_downlinks x) (rows x named split lower c) ≡ downlinks_along x dead c lower
along x named dead [] split lower some tells = refl
along x named dead (b ∷ c) split lower some tells =
    let r : Role = role_of (x.page b) (named b) split in
    ap (λ w. row_downlinks x (row b r lower) ++ w) (along x named dead c (is_live r && (x.page b).incomplete_split) (lower_after (x.page b) r lower) some.1 tells.1)
    ∙ (by_role x b r lower (downlinks_along x dead c) some.0
    ∙ ap (λ (z : Bool). cond z (downlinks_along x dead c lower) (page_downlinks lower (x.page b).children ++ downlinks_along x dead c (x.page b).high_key)) (sym tells.0))

-- at the end nothing is left
pub done : {S E : Type 0} (x : Index S E) (dead : ℕ → Bool) (n : ℕ) (lower : Option S) → downlinks_left x dead n (record { items = []; lower = lower; block = 0 }) ≡ []
done x dead zero lower = refl
done x dead (suc n) lower = refl

-- the cursor's moves change nothing
pub turn : {S E : Type 0} (x : Index S E) (dead : ℕ → Bool) (n : ℕ) (lower : Option S) (block : ℕ) → block ≢ 0 → downlinks_left x dead (suc n) (record { items = []; lower = lower; block = block }) ≡ downlinks_left x dead n (turned_cursor x dead (record { items = []; lower = lower; block = block }))
turn x dead n lower zero ne = absurd (ne refl)
turn {S} x dead n lower (suc b) ne =
    let p = x.page (suc b) in
    let c : List ℕ = linked_from (to_right x) n p.next in
    let stay : Cursor S = record { items = []; lower = lower; block = p.next } in
    let go : Cursor S = record { items = page_downlinks lower p.children; lower = p.high_key; block = p.next } in
    elim (cases_Bool (dead (suc b))) [
      | inl t ↦
          cond-true (dead (suc b)) (downlinks_along x dead c lower) (page_downlinks lower p.children ++ downlinks_along x dead c p.high_key) t
          ∙ ap (λ k. downlinks_left x dead n k) (sym (cond-true (dead (suc b)) stay go t))
      | inr f ↦
          cond-false (dead (suc b)) (downlinks_along x dead c lower) (page_downlinks lower p.children ++ downlinks_along x dead c p.high_key) f
          ∙ ap (λ k. downlinks_left x dead n k) (sym (cond-false (dead (suc b)) stay go f))
    ]

module _ {S E : Type 0} (same : S → S → Bool) (o : Order S E) (x : Index S E) (local : HasSoundPages o x) where
  -- the level below is read by a cursor, if the set had no pages of this level before
  pub level_cursor :
      (m n : ℕ) → m + n ≡ x.level → OnLevel x m (entry_at x n)
      → Each (λ q. is_broken same o x q ≡ false) (level_questions x m n) → (dead : ℕ → Bool)
      → ((b : ℕ) → dead b ≡ true → m < (x.page b).level)
      → downlinks x (suc n) ≡ downlinks_along x (with_dead dead (level_rows x n)) (linked_from (to_right x) x.blocks (first_page x (entry_at x n))) None
  level_cursor m n sum here none dead above =
      let e : ℕ = entry_at x n in
      let rs : List (Row S) = level_rows x n in
      let c : List ℕ = chain_of x e in
      let chain = a_chain o x local.pages m e here none.0 in
      let pages_are : map row_page rs ≡ c = rows_pages x (lead_to (downlinks x n)) false None c in
      let apart : NoRepeats (map row_page rs) = subst NoRepeats (sym pages_are) chain.apart in
      let used : Each (λ r. OnLevel x m (row_page r)) rs = map_each (OnLevel x m) row_page rs (rows_here o x local.pages m (downlinks x n) here) in
      let fresh : Each (λ r. dead (row_page r) ≡ false) rs = Each-map (λ r. OnLevel x m (row_page r)) (λ r. dead (row_page r) ≡ false) rs (λ r h. not_yet (row_page r) h) used in
      let asked = flat_map-Each (λ q. is_broken same o x q ≡ false) (row_questions n) rs (Each-front (λ q. is_broken same o x q ≡ false) (flat_map (row_questions n) rs) (last_questions rs ++ cond (m == x.fastlevel) (FastRoot ∷ []) []) none.1.1) in
      let some : Each (λ r. row_role r ≢ Neither) rs = Each-map (λ r. Each (λ q. is_broken same o x q ≡ false) (row_questions n r)) (λ r. row_role r ≢ Neither) rs (λ r k. role_some (row_role r) k.0) asked in
      along x (lead_to (downlinks x n)) (with_dead dead rs) c false None some (marks_tell dead rs apart fresh)
      ∙ ap (λ z. downlinks_along x (with_dead dead rs) z None) (chain_from_first o x local.pages m e here none.0)
    where
      not_yet : (b : ℕ) → OnLevel x m b → dead b ≡ false
      not_yet b h = false_from_ne_true (dead b) (λ t. let lt = above b t in let is : (x.page b).level ≡ m = h.1 in absurd (omega arith))

      role_some : (r : Role) → is_neither r ≡ false → r ≢ Neither
      role_some r h e = both_ways (is_neither r) h (ap is_neither e)

  -- and then it has none of the level below
  pub marks_above :
      (m n : ℕ) → OnLevel x (suc m) (entry_at x n) → (dead : ℕ → Bool)
      → ((b : ℕ) → dead b ≡ true → suc m < (x.page b).level) → (b : ℕ) → with_dead dead (level_rows x n) b ≡ true
      → m < (x.page b).level
  marks_above m n here dead above b t = elim (or_cases (dead b) (list_any (λ r. (row_page r == b) && is_dead (row_role r)) (level_rows x n)) t) [
    | inl d ↦ let lt = above b d in omega arith
    | inr l ↦ go (level_rows x n) (map_each (OnLevel x (suc m)) row_page (level_rows x n) (rows_here o x local.pages (suc m) (downlinks x n) here)) l
  ]
    where
      go :
          (rs : List (Row S)) → Each (λ r. OnLevel x (suc m) (row_page r)) rs
          → list_any (λ r. (row_page r == b) && is_dead (row_role r)) rs ≡ true → m < (x.page b).level
      go [] used h = absurd (both_ways false refl h)
      go (r ∷ rs) used h = elim (or_cases ((row_page r == b) && is_dead (row_role r)) (list_any (λ r. (row_page r == b) && is_dead (row_role r)) rs) h) [
        | inl k ↦
            let e : row_page r ≡ b = eqb-true (row_page r) b (and_parts (row_page r == b) (is_dead (row_role r)) k).0 in
            let is : (x.page b).level ≡ suc m = subst (λ z. (x.page z).level ≡ suc m) e used.0.1 in
            omega arith
        | inr k ↦ go rs used.1 k
      ]

  -- the rows that the walk sees are the level's
  rows_walked :
      (m n : ℕ) → OnLevel x m (entry_at x n) → Each (λ q. is_broken same o x q ≡ false) (level_questions x m n)
      → level_rows x n ≡ walked_rows x (downlinks x n)
  rows_walked m n here none =
      let ds : List (Downlink S) = downlinks x n in
      let c : List ℕ = chain_of x (entry_at x n) in
      let linked : List ℕ = filter (lead_to ds) c in
      let e : pages ds ≡ linked = (same_numbers_decides (pages ds) linked).0 (not-false (same_numbers (pages ds) linked) (or_parts (not (same_numbers (pages ds) linked)) (list_any (λ d. (x.page d.1).half_dead) ds) none.1.0).0) in
      rows_are_met x (lead_to ds) c ds false None e ∙ ap (λ z. rows_met x z ds false None) (chain_from_first o x local.pages m (entry_at x n) here none.0)

  abbrev all_failed : ℕ → ℕ → Type 0
  all_failed m n = Each (λ q. is_broken same o x q ≡ false) (level_questions x m n)

  failed_from : (m n : ℕ) → option_map (finding_of x) (find (is_broken same o x) (level_questions x m n)) ≡ None → all_failed m n
  failed_from m n h = none_found (is_broken same o x) (level_questions x m n) (mapped_none (finding_of x) (find (is_broken same o x) (level_questions x m n)) h)

  -- what is read along a level without a finding
  pub read_next :
      (m n : ℕ) → m + n ≡ x.level → OnLevel x m (entry_at x n) → all_failed m n → (dead : ℕ → Bool)
      → ((b : ℕ) → dead b ≡ true → m < (x.page b).level)
      → downlinks x (suc n) ≡ downlinks_read x dead (downlinks x n)
  read_next m n sum here none dead above =
      level_cursor m n sum here none dead above
      ∙ ap (λ rs. downlinks_along x (with_dead dead rs) (linked_from (to_right x) x.blocks (first_page x (entry_at x n))) None) (rows_walked m n here none)

  marks_later :
      (m n : ℕ) → OnLevel x (suc m) (entry_at x n) → all_failed (suc m) n → (dead : ℕ → Bool)
      → ((b : ℕ) → dead b ≡ true → suc m < (x.page b).level) → (b : ℕ) → dead_below x dead (downlinks x n) b ≡ true
      → m < (x.page b).level
  marks_later m n here none dead above b t = marks_above m n here dead above b (subst (λ rs. with_dead dead rs b ≡ true) (sym (rows_walked (suc m) n here none)) t)

  pub levels_cursor :
      RootsStand x → (m n : ℕ) → m + n ≡ x.level → (dead : ℕ → Bool)
      → ((b : ℕ) → dead b ≡ true → m < (x.page b).level)
      → levels_read_finding same o x m dead (downlinks x n) ≡ levels_finding same o x m (downlinks x n)
  levels_cursor roots zero n sum dead above = refl
  levels_cursor roots (suc m) n sum dead above =
      let ds : List (Downlink S) = downlinks x n in
      let here = entry_is o x local.pages roots.root n (suc m) sum in
      let dead' : ℕ → Bool = dead_below x dead ds in
      or_same (level_finding same o x (suc m) ds) (levels_read_finding same o x m dead' (downlinks_read x dead ds)) (levels_finding same o x m (level_walk same o x ds).below) (λ nothing.
      let seen_none = level_by_walk same o x local (suc m) n sum here ∙ nothing in
      let none = failed_from (suc m) n seen_none in
      ap (levels_read_finding same o x m dead') (sym (read_next (suc m) n sum here none dead above))
      ∙ (levels_cursor roots m (suc n) (omega arith) dead' (marks_later m n here none dead above)
      ∙ ap (levels_finding same o x m) (sym (below_by_walk same o x local (suc m) n sum here seen_none))))

  -- the set of all blocks in chains comes out the same
  blocks_cursor :
      RootsStand x → (m n : ℕ) → m + n ≡ x.level → levels_finding same o x m (downlinks x n) ≡ None
      → (dead : ℕ → Bool) → ((b : ℕ) → dead b ≡ true → m < (x.page b).level) → (blocks : ℕ → Bool)
      → blocks_read x m dead (downlinks x n) blocks ≡ blocks_walked same o x m (downlinks x n) blocks
  blocks_cursor roots zero n sum nothing dead above blocks = refl
  blocks_cursor roots (suc m) n sum nothing dead above blocks =
      let ds : List (Downlink S) = downlinks x n in
      let here = entry_is o x local.pages roots.root n (suc m) sum in
      let dead' : ℕ → Bool = dead_below x dead ds in
      let parts = no_first (level_finding same o x (suc m) ds) (levels_finding same o x m (level_walk same o x ds).below) nothing in
      let seen_none = level_by_walk same o x local (suc m) n sum here ∙ parts.0 in
      let none = failed_from (suc m) n seen_none in
      let below : (level_walk same o x ds).below ≡ downlinks x (suc n) = below_by_walk same o x local (suc m) n sum here seen_none in
      ap (λ z. blocks_read x m dead' z (with_blocks blocks (walked_chain x ds))) (sym (read_next (suc m) n sum here none dead above))
      ∙ (blocks_cursor roots m (suc n) (omega arith) (ap (levels_finding same o x m) (sym below) ∙ parts.1) dead' (marks_later m n here none dead above) (with_blocks blocks (walked_chain x ds))
      ∙ ap (λ z. blocks_walked same o x m z (with_blocks blocks (walked_chain x ds))) (sym below))

  -- the whole
  pub first_read : walk_finding same o x ≡ read_finding same o x
  unfolding walk_finding read_finding
  first_read = go (x.root == 0) (λ f. eqb-false x.root 0 f)
    where
      none_dead : (m : ℕ) (b : ℕ) → false ≡ true → m < (x.page b).level
      none_dead m b h = absurd (both_ways false refl h)

      with_root :
          (t : Bool) → (t ≡ false → RootsStand x)
          → option_or (option_or (cond t (Some (L1, 0)) None) (levels_finding same o x x.level ((None, x.root) ∷ []))) (option_map (λ b. (L9, b)) (find (λ b. not (x.page b).idle && not (blocks_walked same o x x.level ((None, x.root) ∷ []) (λ c. false) b)) (tree_blocks x.blocks))) ≡ option_or (option_or (cond t (Some (L1, 0)) None) (levels_read_finding same o x x.level (λ b. false) ((None, x.root) ∷ []))) (option_map (λ b. (L9, b)) (find (λ b. not (x.page b).idle && not (blocks_read x x.level (λ c. false) ((None, x.root) ∷ []) (λ c. false) b)) (tree_blocks x.blocks)))
      with_root true h = refl
      with_root false h =
          let levels = levels_cursor (h refl) x.level 0 (add-zero x.level) (λ c. false) (λ b t. none_dead x.level b t) in
          or_same (levels_finding same o x x.level ((None, x.root) ∷ [])) (option_map (λ b. (L9, b)) (find (λ b. not (x.page b).idle && not (blocks_walked same o x x.level ((None, x.root) ∷ []) (λ c. false) b)) (tree_blocks x.blocks))) (option_map (λ b. (L9, b)) (find (λ b. not (x.page b).idle && not (blocks_read x x.level (λ c. false) ((None, x.root) ∷ []) (λ c. false) b)) (tree_blocks x.blocks)))
          (λ nothing. ap (λ (g : ℕ → Bool). option_map (λ b. (L9, b)) (find (λ b. not (x.page b).idle && not (g b)) (tree_blocks x.blocks))) (sym (blocks_cursor (h refl) x.level 0 (add-zero x.level) nothing (λ c. false) (λ b t. none_dead x.level b t) (λ c. false))))
          ∙ ap (λ z. option_or z (option_map (λ b. (L9, b)) (find (λ b. not (x.page b).idle && not (blocks_read x x.level (λ c. false) ((None, x.root) ∷ []) (λ c. false) b)) (tree_blocks x.blocks)))) (sym levels)

      go :
          (t : Bool) → (t ≡ false → x.root ≢ 0)
          → option_or (cond t None (option_or (cond (are_roots_misplaced x) (Some (L1, 0)) None) (levels_finding same o x x.level ((None, x.root) ∷ [])))) (option_map (λ b. (L9, b)) (find (λ b. not (x.page b).idle && not (cond t (λ c. false) (blocks_walked same o x x.level ((None, x.root) ∷ []) (λ c. false)) b)) (tree_blocks x.blocks))) ≡ option_or (cond t None (option_or (cond (are_roots_misplaced x) (Some (L1, 0)) None) (levels_read_finding same o x x.level (λ b. false) ((None, x.root) ∷ [])))) (option_map (λ b. (L9, b)) (find (λ b. not (x.page b).idle && not (cond t (λ c. false) (blocks_read x x.level (λ c. false) ((None, x.root) ∷ []) (λ c. false)) b)) (tree_blocks x.blocks)))
      go true h = refl
      go false h = with_root (are_roots_misplaced x) (λ f. roots_stand o x local (h refl) f)

  module _ (ne : x.root ≢ 0) (h : are_roots_misplaced x ≡ false) (m n : ℕ) (sum : m + n ≡ x.level) (nothing : level_finding same o x m (downlinks x n) ≡ None) where
    entry : OnLevel x m (entry_at x n)
    entry = entry_is o x local.pages (roots_stand o x local ne h).root n m sum

    pub below_read : (level_walk same o x (downlinks x n)).below ≡ downlinks x (suc n)
    below_read = below_by_walk same o x local m n sum entry (level_by_walk same o x local m n sum entry ∙ nothing)

    pub next_read :
        (dead : ℕ → Bool) → ((b : ℕ) → dead b ≡ true → m < (x.page b).level)
        → (downlinks_read x dead (downlinks x n) ≡ downlinks x (suc n)) × ((b : ℕ) → dead_below x dead (downlinks x n) b ≡ true → m ≤ (x.page b).level)
    next_read dead above =
        let none = failed_from m n (level_by_walk same o x local m n sum entry ∙ nothing) in
        (sym (read_next m n sum entry none dead above), λ b t. at_level m none above entry b (subst (λ rs. with_dead dead rs b ≡ true) (sym (rows_walked m n entry none)) t))
      where
        at_level :
            (m : ℕ) → all_failed m n → ((b : ℕ) → dead b ≡ true → m < (x.page b).level) → OnLevel x m (entry_at x n)
            → (b : ℕ) → with_dead dead (level_rows x n) b ≡ true → m ≤ (x.page b).level
        at_level zero none above here b t = omega arith
        at_level (suc k) none above here b t = marks_above k n here dead above b t

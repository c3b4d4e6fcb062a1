-- The pages that are counted on a level.
use Rattle.std.proofs.Common.{◌≡◌, ℕ, suc, ◌+◌, inl, inr, Bool, true, false, cond, List, [], ◌∷◌, length, refl, ap, ◌∙◌, arith}
use Rattle.std.specs.Prelude.{Option, None, not}
use Rattle.std.specs.List.{filter, find, list_any}
use Rattle.std.proofs.lemmas.Bool.{cases_Bool, cond-false, not-false, or_parts}
use Rattle.laws_search.specs.Levels.{Dead, Linked, Right_half, Neither, Role, Row, downlinks, lead_to, level_rows, row}
use Rattle.laws_search.specs.Order.{Order}
use Rattle.laws_search.specs.Probe.{right_halves}
use Rattle.laws_search.specs.Tree.{Index, chain_of}
use Rattle.laws_search.proofs.Chains.{OnLevel}
use Rattle.laws_search.proofs.Lists.{Each}
use Rattle.laws_levels.specs.LevelWalk.{level_finding}
use Rattle.laws_levels.specs.Links.{walked_chain}
use Rattle.laws_levels.specs.Meeting.{rows_met, walked_rows}
use Rattle.laws_levels.specs.Questions.{finding_of, level_questions}
use Rattle.laws_levels.specs.Rules.{entry_at}
use Rattle.laws_levels.specs.Sound.{HasSoundPages}
use Rattle.laws_levels.specs.Tests.{is_broken, is_right_half, same_numbers}
use Rattle.laws_levels.proofs.Decide.{same_numbers_decides}
use Rattle.laws_levels.proofs.Find.{none_found}
use Rattle.laws_levels.proofs.Meets.{pages, rows_are_met}
use Rattle.laws_levels.proofs.Walks.{level_by_walk, mapped_none}
use Rattle.bt_level_check.specs.Counts.{half_dead_among, one_if}
use Rattle.bt_level_check.specs.Reading.{IsOfLevel}

-- what one row adds
pub halves_with_row : {S : Type 0} (b : ℕ) (role : Role) (lower : Option S) (rs : List (Row S)) → right_halves (row b role lower ∷ rs) ≡ one_if (is_right_half role) + right_halves rs
halves_with_row b Dead lower rs = omega arith
halves_with_row b Linked lower rs = omega arith
halves_with_row b Right_half lower rs = omega arith
halves_with_row b Neither lower rs = omega arith

module _ {S E : Type 0} (x : Index S E) where
  -- what one block adds
  pub half_dead_with : (b : ℕ) (c : List ℕ) → half_dead_among x (b ∷ c) ≡ one_if (x.page b).half_dead + half_dead_among x c
  half_dead_with b c = by (x.page b).half_dead (filter (λ q. (x.page q).half_dead) c)
    where
      by : (t : Bool) (later : List ℕ) → length (cond t (b ∷ later) later) ≡ one_if t + length later
      by true later = omega arith
      by false later = omega arith

  module _ (o : Order S E) (local : HasSoundPages o x) where
    -- above the leaves no page is half-dead
    pub none_half_dead : (m : ℕ) (c : List ℕ) → Each (IsOfLevel x (suc m)) c → half_dead_among x c ≡ 0
    none_half_dead m [] here = refl
    none_half_dead m (b ∷ c) here = elim (cases_Bool (x.page b).half_dead) [
      | inl t ↦
          let sound = local.pages b here.0.0 in
          let zero = sound.leaf_below (sound.half_dead_leaf t) in
          let above = here.0.1 in
          absurd (omega (arith, zero, above))
      | inr f ↦
          let others : List ℕ = filter (λ q. (x.page q).half_dead) c in
          ap length (cond-false (x.page b).half_dead (b ∷ others) others f) ∙ none_half_dead m c here.1
    ]

    -- where nothing is found on a level, the rows that the walk sees are the level's
    pub level_is_walked : (same : S → S → Bool) (m n : ℕ) → m + n ≡ x.level → OnLevel x m (entry_at x n) → level_finding same o x m (downlinks x n) ≡ None
        → chain_of x (entry_at x n) ≡ walked_chain x (downlinks x n) → level_rows x n ≡ walked_rows x (downlinks x n)
    level_is_walked same m n sum here nothing whole =
        let ds = downlinks x n in
        let c : List ℕ = chain_of x (entry_at x n) in
        let linked : List ℕ = filter (lead_to ds) c in
        let none = none_found (is_broken same o x) (level_questions x m n) (mapped_none (finding_of x) (find (is_broken same o x) (level_questions x m n)) (level_by_walk same o x local m n sum here ∙ nothing)) in
        let met : pages ds ≡ linked = (same_numbers_decides (pages ds) linked).0 (not-false (same_numbers (pages ds) linked) (or_parts (not (same_numbers (pages ds) linked)) (list_any (λ d. (x.page d.1).half_dead) ds) none.1.0).0) in
        rows_are_met x (lead_to ds) c ds false None met ∙ ap (λ z. rows_met x z ds false None) whole

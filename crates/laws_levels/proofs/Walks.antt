-- The walks along the levels find the first broken rule.
use Rattle.std.proofs.Common.{◌≡◌, ◌≢◌, ℕ, zero, suc, ◌+◌, inl, inr, Bool, true, false, not, cond, ◌&&◌, List, []}
use Rattle.std.proofs.Common.{◌∷◌, ◌++◌, map, refl, sym, ap, ◌∙◌, arith, add-zero}
use Rattle.std.specs.Prelude.{Option, Some, None, ◌==◌, ◌||◌, option_map, fold}
use Rattle.std.specs.Option.{option_or}
use Rattle.std.specs.List.{find, list_any, flat_map}
use Rattle.std.proofs.lemmas.Bool.{cases_Bool, cond-true, cond-false, eqb-false}
use Rattle.std.proofs.lemmas.List.Folds.{find-append}
use Rattle.laws_search.specs.Order.{Order}
use Rattle.laws_search.specs.Tree.{Index, chain_of}
use Rattle.laws_search.specs.Levels.{Downlink, downlinks, level_rows}
use Rattle.laws_search.specs.Search.{tree_blocks}
use Rattle.laws_search.proofs.Chains.{OnLevel}
use Rattle.page_layout.specs.declared.rules.Rule.TheVariants.{L1, L2, L9}
use Rattle.laws_levels.specs.Rules.{entry_at}
use Rattle.laws_levels.specs.Questions.{Circle, Downlinks, FastRoot, Finding, Question, Roots, Unreached, finding_of}
use Rattle.laws_levels.specs.Questions.{last_questions, level_questions, levels_down, row_questions}
use Rattle.laws_levels.specs.Tests.{are_roots_misplaced, comes_back, first_broken, is_broken, stands_within}
use Rattle.laws_levels.specs.Sound.{HasSoundPages}
use Rattle.laws_levels.specs.Links.{to_left, to_right, walked_chain, walks_to}
use Rattle.laws_levels.specs.LevelWalk.{Walk, level_finding, level_verdict, level_walk, walk_start, walk_step}
use Rattle.laws_levels.specs.Walk.{blocks_walked, is_block_walked, levels_finding, walk_finding, with_blocks}
use Rattle.laws_levels.proofs.Find.{none_found, find_none}
use Rattle.laws_levels.proofs.Entries.{entry_is}
use Rattle.laws_levels.proofs.First.{RootsStand, roots_stand}
use Rattle.laws_levels.proofs.LevelWalk.{map_or, level_found, level_below}
use Rattle.laws_levels.proofs.Circles.{walk_left, a_chain, chain_from_first}

pub or_same : {X : Type 0} (a b c : Option X) → (a ≡ None → b ≡ c) → option_or a b ≡ option_or a c
or_same None b c h = h refl
or_same (Some x) b c h = refl

pub no_first : (a b : Option Finding) → option_or a b ≡ None → (a ≡ None) × (b ≡ None)
no_first None b h = (refl, h)
no_first (Some q) b h = absurd cc

pub mapped_none : {X Y : Type 0} (f : X → Y) (a : Option X) → option_map f a ≡ None → a ≡ None
mapped_none f None h = refl
mapped_none f (Some x) h = absurd cc

module _ {S E : Type 0} (same : S → S → Bool) (o : Order S E) (x : Index S E) (local : HasSoundPages o x) where
  abbrev test : Question S → Bool
  test q = is_broken same o x q

  abbrev seen : List (Question S) → Option Finding
  seen qs = option_map (finding_of x) (find (is_broken same o x) qs)

  seen-append : (xs ys : List (Question S)) → seen (xs ++ ys) ≡ option_or (seen xs) (seen ys)
  seen-append xs ys = ap (option_map (finding_of x)) (find-append (is_broken same o x) xs ys) ∙ map_or (finding_of x) (find (is_broken same o x) xs) (find (is_broken same o x) ys)

  -- the walked chain
  same_walk :
      (m n : ℕ) → OnLevel x m (entry_at x n) → is_broken same o x (Circle n) ≡ false
      → fold (walk_step same o x) (walk_start (downlinks x n)) (chain_of x (entry_at x n)) ≡ level_walk same o x (downlinks x n)
  same_walk m n here no_circle = ap (fold (walk_step same o x) (walk_start (downlinks x n))) (chain_from_first o x local.pages m (entry_at x n) here no_circle)

  pub level_by_walk :
      (m n : ℕ) → m + n ≡ x.level → OnLevel x m (entry_at x n)
      → seen (level_questions x m n) ≡ level_finding same o x m (downlinks x n)
  level_by_walk m n sum here =
      let ds : List (Downlink S) = downlinks x n in
      let e : ℕ = entry_at x n in
      let back : walks_to (to_left x) e x.blocks (to_left x e) ≡ comes_back (to_right x) e x.blocks = walk_left o x local.pages m e here in
      elim (cases_Bool (comes_back (to_right x) e x.blocks)) [
        | inl t ↦
            ap (option_map (finding_of x)) (cond-true (is_broken same o x (Circle n)) (Some (Circle n)) (find (is_broken same o x) (rest n)) t)
            ∙ sym (cond-true (walks_to (to_left x) e x.blocks (to_left x e)) (Some (L2, e)) (level_verdict x e (m == x.fastlevel) (level_walk same o x ds)) (back ∙ t))
        | inr f ↦
            level_found same o x m n sum (a_chain o x local.pages m e here f).apart f
            ∙ (ap (level_verdict x e (m == x.fastlevel)) (same_walk m n here f)
            ∙ sym (cond-false (walks_to (to_left x) e x.blocks (to_left x e)) (Some (L2, e)) (level_verdict x e (m == x.fastlevel) (level_walk same o x ds)) (back ∙ f)))
      ]
    where
      rest : (n : ℕ) → List (Question S)
      rest n = Downlinks n ∷ flat_map (row_questions n) (level_rows x n) ++ (last_questions (level_rows x n) ++ cond (m == x.fastlevel) (FastRoot ∷ []) [])

  pub below_by_walk :
      (m n : ℕ) → m + n ≡ x.level → OnLevel x m (entry_at x n) → seen (level_questions x m n) ≡ None
      → (level_walk same o x (downlinks x n)).below ≡ downlinks x (suc n)
  below_by_walk m n sum here none =
      let each = none_found (is_broken same o x) (level_questions x m n) (mapped_none (finding_of x) (find (is_broken same o x) (level_questions x m n)) none) in
      let chain = a_chain o x local.pages m (entry_at x n) here each.0 in
      ap (λ (w : Walk S). w.below) (sym (same_walk m n here each.0)) ∙ level_below same o x m n sum chain.apart each.1.0

  module _ (roots : RootsStand x) where
    pub levels_by_walk : (m n : ℕ) → m + n ≡ x.level → seen (levels_down x m n) ≡ levels_finding same o x m (downlinks x n)
    levels_by_walk zero n sum = level_by_walk zero n sum (entry_is o x local.pages roots.root n zero sum)
    levels_by_walk (suc m) n sum =
        let here = entry_is o x local.pages roots.root n (suc m) sum in
        let ds : List (Downlink S) = downlinks x n in
        seen-append (level_questions x (suc m) n) (levels_down x m (suc n))
        ∙ (or_same (seen (level_questions x (suc m) n)) (seen (levels_down x m (suc n))) (levels_finding same o x m (level_walk same o x ds).below)
        (λ none. levels_by_walk m (suc n) (omega arith) ∙ ap (levels_finding same o x m) (sym (below_by_walk (suc m) n sum here none)))
        ∙ ap (λ z. option_or z (levels_finding same o x m (level_walk same o x ds).below)) (level_by_walk (suc m) n sum here))

  or_comm : (a b : Bool) → (a || b) ≡ (b || a)
  or_comm true true = refl
  or_comm true false = refl
  or_comm false true = refl
  or_comm false false = refl

  -- the walked chain is the level's
  pub chain_walked :
      (m n : ℕ) → OnLevel x m (entry_at x n) → seen (level_questions x m n) ≡ None
      → chain_of x (entry_at x n) ≡ walked_chain x (downlinks x n)
  chain_walked m n here none =
      let each = none_found (is_broken same o x) (level_questions x m n) (mapped_none (finding_of x) (find (is_broken same o x) (level_questions x m n)) none) in
      chain_from_first o x local.pages m (entry_at x n) here each.0

  -- where nothing is found the set has what stands in a chain
  pub blocks_are :
      RootsStand x → (b m n : ℕ) → m + n ≡ x.level → seen (levels_down x m n) ≡ None → (blocks : ℕ → Bool)
      → (blocks b || list_any (λ d. d == b) (chain_of x (entry_at x n))) ≡ stands_within x b n
      → blocks_walked same o x m (downlinks x n) blocks b ≡ stands_within x b x.level
  blocks_are roots b zero n sum none blocks so_far =
      let here = entry_is o x local.pages roots.root n zero sum in
      let is : n ≡ x.level = omega arith in
      ap (λ c. blocks b || list_any (λ d. d == b) c) (sym (chain_walked zero n here none)) ∙ (so_far ∙ ap (stands_within x b) is)
  blocks_are roots b (suc m) n sum none blocks so_far =
      let here = entry_is o x local.pages roots.root n (suc m) sum in
      let parts = no_first (seen (level_questions x (suc m) n)) (seen (levels_down x m (suc n))) (sym (seen-append (level_questions x (suc m) n) (levels_down x m (suc n))) ∙ none) in
      let chain = chain_walked (suc m) n here parts.0 in
      let now : (with_blocks blocks (walked_chain x (downlinks x n)) b || list_any (λ d. d == b) (chain_of x (entry_at x (suc n)))) ≡ stands_within x b (suc n) =
      ap (λ (z : Bool). z || list_any (λ d. d == b) (chain_of x (entry_at x (suc n)))) (ap (λ c. blocks b || list_any (λ d. d == b) c) (sym chain) ∙ so_far)
      ∙ or_comm (stands_within x b n) (list_any (λ d. d == b) (chain_of x (entry_at x (suc n)))) in
      ap (λ ds. blocks_walked same o x m ds (with_blocks blocks (walked_chain x (downlinks x n))) b) (below_by_walk (suc m) n sum here parts.0)
      ∙ blocks_are roots b m (suc n) (omega arith) parts.1 (with_blocks blocks (walked_chain x (downlinks x n))) now

  -- the blocks that are asked last
  last_blocks :
      (g : ℕ → Bool) → ((b : ℕ) → (not (x.root == 0) && stands_within x b x.level) ≡ g b) → (bs : List ℕ)
      → seen (map Unreached bs) ≡ option_map (λ b. (L9, b)) (find (λ b. not (x.page b).idle && not (g b)) bs)
  last_blocks g h [] = refl
  last_blocks g h (b ∷ bs) =
      ap (λ (z : Bool). option_map (finding_of x) (cond (not (x.page b).idle && not z) (Some (Unreached b)) (find (is_broken same o x) (map Unreached bs)))) (h b)
      ∙ go (not (x.page b).idle && not (g b)) (find (is_broken same o x) (map Unreached bs)) (find (λ b. not (x.page b).idle && not (g b)) bs) (last_blocks g h bs)
    where
      go :
          (t : Bool) (f : Option (Question S)) (k : Option ℕ)
          → option_map (finding_of x) f ≡ option_map (λ b. (L9, b)) k
          → option_map (finding_of x) (cond t (Some (Unreached b)) f) ≡ option_map (λ b. (L9, b)) (cond t (Some b) k)
      go true f k h = refl
      go false f k h = h

  top_walk :
      seen (cond (x.root == 0) [] (Roots ∷ levels_down x x.level 0)) ≡ cond (x.root == 0) None (option_or (cond (are_roots_misplaced x) (Some (L1, 0)) None) (levels_finding same o x x.level ((None, x.root) ∷ [])))
  top_walk = go (x.root == 0) (λ f. some_root (eqb-false x.root 0 f))
    where
      by :
          (t : Bool)
          → ((t ≡ false) → seen (levels_down x x.level 0) ≡ levels_finding same o x x.level ((None, x.root) ∷ []))
          → option_map (finding_of x) (cond t (Some Roots) (find (is_broken same o x) (levels_down x x.level 0))) ≡ option_or (cond t (Some (L1, 0)) None) (levels_finding same o x x.level ((None, x.root) ∷ []))
      by true h = refl
      by false h = h refl

      some_root :
          x.root ≢ 0
          → seen (Roots ∷ levels_down x x.level 0) ≡ option_or (cond (are_roots_misplaced x) (Some (L1, 0)) None) (levels_finding same o x x.level ((None, x.root) ∷ []))
      some_root ne = by (are_roots_misplaced x) (λ f. levels_by_walk (roots_stand o x local ne f) x.level 0 (add-zero x.level))

      go :
          (t : Bool)
          → (t ≡ false → seen (Roots ∷ levels_down x x.level 0) ≡ option_or (cond (are_roots_misplaced x) (Some (L1, 0)) None) (levels_finding same o x x.level ((None, x.root) ∷ [])))
          → seen (cond t [] (Roots ∷ levels_down x x.level 0)) ≡ cond t None (option_or (cond (are_roots_misplaced x) (Some (L1, 0)) None) (levels_finding same o x x.level ((None, x.root) ∷ [])))
      go true h = refl
      go false h = h refl

  -- after nothing was found at the top
  roots_by_none : x.root ≢ 0 → seen (Roots ∷ levels_down x x.level 0) ≡ None → RootsStand x × (seen (levels_down x x.level 0) ≡ None)
  roots_by_none ne none =
      let each = none_found (is_broken same o x) (Roots ∷ levels_down x x.level 0) (mapped_none (finding_of x) (find (is_broken same o x) (Roots ∷ levels_down x x.level 0)) none) in
      (roots_stand o x local ne each.0, ap (option_map (finding_of x)) (find_none (is_broken same o x) (levels_down x x.level 0) each.1))

  all_are :
      seen (cond (x.root == 0) [] (Roots ∷ levels_down x x.level 0)) ≡ None → (b : ℕ)
      → (not (x.root == 0) && stands_within x b x.level) ≡ is_block_walked same o x b
  all_are none b = go (x.root == 0) (λ f none. let r = roots_by_none (eqb-false x.root 0 f) none in sym (blocks_are r.0 b x.level 0 (add-zero x.level) r.1 (λ c. false) refl)) none
    where
      go :
          (t : Bool)
          → (t ≡ false → seen (Roots ∷ levels_down x x.level 0) ≡ None → stands_within x b x.level ≡ blocks_walked same o x x.level ((None, x.root) ∷ []) (λ c. false) b)
          → seen (cond t [] (Roots ∷ levels_down x x.level 0)) ≡ None
          → (not t && stands_within x b x.level) ≡ cond t (λ c. false) (blocks_walked same o x x.level ((None, x.root) ∷ []) (λ c. false)) b
      go true h none = refl
      go false h none = h refl none

  pub first_walk : first_broken same o x ≡ walk_finding same o x
  unfolding first_broken walk_finding
  first_walk =
      let top : List (Question S) = cond (x.root == 0) [] (Roots ∷ levels_down x x.level 0) in
      let blocks : Option Finding = option_map (λ b. (L9, b)) (find (λ b. not (x.page b).idle && not (is_block_walked same o x b)) (tree_blocks x.blocks)) in
      seen-append top (map Unreached (tree_blocks x.blocks))
      ∙ (or_same (seen top) (seen (map Unreached (tree_blocks x.blocks))) blocks (λ none. last_blocks (is_block_walked same o x) (all_are none) (tree_blocks x.blocks))
      ∙ ap (λ z. option_or z blocks) top_walk)

-- From one level to the next, and what is found in an index by its parts.
use Rattle.std.proofs.Common.{◌≡◌, ◌≢◌, ℕ, zero, suc, ◌+◌, ◌<◌, ◌≤◌, inl, inr, Bool, true, false, cond, List, []}
use Rattle.std.proofs.Common.{◌∷◌, ◌++◌, refl, sym, ap, ◌∙◌, subst, arith, add-zero, add-one}
use Rattle.std.specs.Prelude.{Option, Some, None, ◌==◌}
use Rattle.std.specs.Option.{option_or}
use Rattle.std.specs.List.{find}
use Rattle.std.proofs.lemmas.Bool.{both_ways, cases_eq, cond-true, cond-false, eq-eqb, ne_eqb}
use Rattle.page_layout.specs.declared.rules.Rule.TheVariants.{L1}
use Rattle.laws_search.specs.Order.{Order}
use Rattle.laws_search.specs.Tree.{Index}
use Rattle.laws_search.specs.Levels.{Downlink, downlinks}
use Rattle.laws_search.specs.Search.{tree_blocks}
use Rattle.laws_levels.specs.Questions.{Finding}
use Rattle.laws_levels.specs.Tests.{are_roots_misplaced, first_broken}
use Rattle.laws_levels.specs.Sound.{HasSoundPages}
use Rattle.laws_levels.specs.Links.{walked_chain}
use Rattle.laws_levels.specs.LevelWalk.{level_finding}
use Rattle.laws_levels.specs.Walk.{root_downlinks, with_blocks, is_outside, first_outside, unreached_finding}
use Rattle.laws_levels.specs.Cursor.{all_levels_finding, blocks_read, cursor_start, dead_below, downlinks_along}
use Rattle.laws_levels.specs.Cursor.{downlinks_left, downlinks_read, is_block_read, levels_read_finding, read_finding}
use Rattle.laws_levels.specs.Descent.{IsBefore, HavePassed}
use Rattle.laws_levels.proofs.Walks.{first_walk}
use Rattle.laws_levels.proofs.Cursors.{first_read, next_read}

find_both :
    (p : ℕ → Bool) (xs : List ℕ) (y : ℕ)
    → find p (xs ++ y ∷ []) ≡ option_or (find p xs) (cond (p y) (Some y) None)
find_both p [] y = refl
find_both p (x ∷ xs) y = go (p x) (find_both p xs y)
  where
    go :
        (t : Bool) → find p (xs ++ y ∷ []) ≡ option_or (find p xs) (cond (p y) (Some y) None)
        → cond t (Some x) (find p (xs ++ y ∷ [])) ≡ option_or (cond t (Some x) (find p xs)) (cond (p y) (Some y) None)
    go true h = refl
    go false h = h

find_here :
    (p : ℕ → Bool) (b : ℕ) → 1 ≤ b
    → find p (tree_blocks (suc b)) ≡ option_or (find p (tree_blocks b)) (cond (p b) (Some b) None)
find_here p zero le = absurd (omega arith)
find_here p (suc n) le = find_both p (tree_blocks (suc n)) (suc n)

module _ {S E : Type 0} (x : Index S E) (stands : ℕ → Bool) where
  pub block_passed :
      (b : ℕ) → 1 ≤ b → first_outside x stands b ≡ None → is_outside x stands b ≡ false
      → first_outside x stands (b + 1) ≡ None
  block_passed b le none f =
      let p : ℕ → Bool = is_outside x stands in
      ap (λ k. find p (tree_blocks k)) (add-one b)
      ∙ (find_here p b le ∙ (ap (λ o. option_or o (cond (p b) (Some b) None)) none ∙ cond-false (p b) (Some b) None f))

  pub block_found :
      (b n : ℕ) → 1 ≤ b → b < n → first_outside x stands b ≡ None → is_outside x stands b ≡ true
      → first_outside x stands n ≡ Some b
  block_found b zero le lt none t = absurd (omega arith)
  block_found b (suc n) le lt none t =
      let p : ℕ → Bool = is_outside x stands in
      elim (cases_eq b n) [
        | inl e ↦
            subst (λ (k : ℕ). find p (tree_blocks (suc k)) ≡ Some b) e
            (find_here p b le ∙ (ap (λ o. option_or o (cond (p b) (Some b) None)) none ∙ cond-true (p b) (Some b) None t))
        | inr ne ↦
            find_here p n (omega arith)
            ∙ ap (λ o. option_or o (cond (p n) (Some n) None)) (block_found b n le (omega arith) none t)
      ]

  -- where there is a root the blocks read are those of all levels
  pub with_root :
      x.root ≢ 0 → (b : ℕ)
      → is_block_read x b ≡ blocks_read x x.level (λ c. false) (root_downlinks x) (λ c. false) b
  with_root ne b =
      let all : ℕ → Bool = blocks_read x x.level (λ c. false) (root_downlinks x) (λ c. false) in
      ap (λ (s : ℕ → Bool). s b) (cond-false (x.root == 0) (λ c. false) all (ne_eqb x.root 0 ne))

module _ {S E : Type 0} (same : S → S → Bool) (o : Order S E) (x : Index S E) where
  -- before the top level
  pub before_first :
      x.root ≢ 0 → (dead stands : ℕ → Bool) → ((b : ℕ) → dead b ≡ false) → ((b : ℕ) → stands b ≡ false)
      → IsBefore same o x dead stands x.level 0
  before_first ne dead stands none_dead none_stands =
      let ds : List (Downlink S) = root_downlinks x in
      let no_dead : dead ≡ (λ b. false) = λ i b. none_dead b i in
      let no_stands : stands ≡ (λ b. false) = λ i b. none_stands b i in
      record {
        sum = add-zero x.level;
        above = λ b t. absurd (both_ways (dead b) (none_dead b) t);
        left = ap (λ (d : ℕ → Bool). levels_read_finding same o x x.level d ds) no_dead;
        blocks = λ b.
            ap (λ (d : ℕ → Bool). blocks_read x x.level d ds stands b) no_dead
            ∙ (ap (λ (s : ℕ → Bool). blocks_read x x.level (λ c. false) ds s b) no_stands ∙ sym (with_root x stands ne b));
      }

  levels_some :
      (m : ℕ) (dead : ℕ → Bool) (ds : List (Downlink S)) (f : Finding) → level_finding same o x m ds ≡ Some f
      → levels_read_finding same o x m dead ds ≡ Some f
  levels_some zero dead ds f h = h
  levels_some (suc m) dead ds f h =
      ap (λ k. option_or k (levels_read_finding same o x m (dead_below x dead ds) (downlinks_read x dead ds))) h

  -- what is found on a level is what is found
  pub found_here :
      (dead stands : ℕ → Bool) (m n : ℕ) (f : Finding) → IsBefore same o x dead stands m n
      → level_finding same o x m (downlinks x n) ≡ Some f → all_levels_finding same o x ≡ Some f
  found_here dead stands m n f g is = sym g.left ∙ levels_some m dead (downlinks x n) f is

  -- where nothing is found on it, the next level follows
  pub before_next :
      HasSoundPages o x → x.root ≢ 0 → are_roots_misplaced x ≡ false
      → (dead stands dead_then stands_then : ℕ → Bool) (m n : ℕ) → IsBefore same o x dead stands (suc m) n
      → level_finding same o x (suc m) (downlinks x n) ≡ None
      → HavePassed x (downlinks x n) dead stands dead_then stands_then
      → IsBefore same o x dead_then stands_then m (suc n)
      × (downlinks_left x dead_then x.blocks (cursor_start x (downlinks x n)) ≡ downlinks x (suc n))
  before_next local ne roots dead stands dead_then stands_then m n g nothing passed =
      let ds : List (Downlink S) = downlinks x n in
      let next = next_read same o x local ne roots (suc m) n g.sum nothing dead g.above in
      let same_dead : dead_then ≡ dead_below x dead ds = λ i b. passed.dead_pages b i in
      let same_stands : stands_then ≡ with_blocks stands (walked_chain x ds) = λ i b. passed.pages b i in
      let sum : m + suc n ≡ x.level = let s = g.sum in omega arith in (
        record {
          sum = sum;
          above = λ b t. let up : suc m ≤ (x.page b).level = next.1 b (sym (passed.dead_pages b) ∙ t) in omega arith;
          left =
              ap (λ (d : ℕ → Bool). levels_read_finding same o x m d (downlinks x (suc n))) same_dead
              ∙ (ap (levels_read_finding same o x m (dead_below x dead ds)) (sym next.0)
              ∙ (sym (ap (λ k. option_or k (levels_read_finding same o x m (dead_below x dead ds) (downlinks_read x dead ds))) nothing) ∙ g.left));
          blocks = λ b.
              ap (λ (d : ℕ → Bool). blocks_read x m d (downlinks x (suc n)) stands_then b) same_dead
              ∙ (ap (λ w. blocks_read x m (dead_below x dead ds) w stands_then b) (sym next.0)
              ∙ (ap (λ (s : ℕ → Bool). blocks_read x m (dead_below x dead ds) (downlinks_read x dead ds) s b) same_stands ∙ g.blocks b));
        },
        ap (λ (d : ℕ → Bool). downlinks_along x d (walked_chain x ds) None) same_dead ∙ next.0,
      )

  -- and below the last level nothing is left
  pub after_last :
      (dead stands dead_then stands_then : ℕ → Bool) (n : ℕ) → IsBefore same o x dead stands 0 n
      → level_finding same o x 0 (downlinks x n) ≡ None → HavePassed x (downlinks x n) dead stands dead_then stands_then
      → (all_levels_finding same o x ≡ None) × ((b : ℕ) → stands_then b ≡ is_block_read x b)
  after_last dead stands dead_then stands_then n g nothing passed = (sym g.left ∙ nothing, λ b. passed.pages b ∙ g.blocks b)

  -- what is found, where it is known whether there is a root
  abbrev parts : Bool → Option Finding
  parts empty =
      option_or (cond empty None (option_or (cond (are_roots_misplaced x) (Some (L1, 0)) None) (all_levels_finding same o x)))
      (unreached_finding x (is_block_read x))

  by_parts : read_finding same o x ≡ parts (x.root == 0)
  unfolding read_finding
  by_parts = refl

  module _ (local : HasSoundPages o x) where
    whole : first_broken same o x ≡ parts (x.root == 0)
    whole = first_walk same o x local ∙ (first_read same o x local ∙ by_parts)

    rooted : x.root ≢ 0 → (t : Bool) → are_roots_misplaced x ≡ t
        → first_broken same o x ≡ option_or (option_or (cond t (Some (L1, 0)) None) (all_levels_finding same o x)) (unreached_finding x (is_block_read x))
    rooted ne t is =
        whole
        ∙ (ap parts (ne_eqb x.root 0 ne)
        ∙ ap (λ (z : Bool). option_or (option_or (cond z (Some (L1, 0)) None) (all_levels_finding same o x)) (unreached_finding x (is_block_read x))) is)

    pub whole_empty :
        x.root ≡ 0 → (stands : ℕ → Bool) → ((b : ℕ) → stands b ≡ false)
        → first_broken same o x ≡ unreached_finding x stands
    whole_empty z stands none =
        let none_read : is_block_read x ≡ (λ b. false) =
        cond-true (x.root == 0) (λ b. false) (blocks_read x x.level (λ b. false) (root_downlinks x) (λ b. false)) (eq-eqb x.root 0 z) in
        let no_stands : (λ b. false) ≡ stands = λ i b. (sym (none b)) i in
        whole ∙ (ap parts (eq-eqb x.root 0 z) ∙ ap (λ (s : ℕ → Bool). unreached_finding x s) (none_read ∙ no_stands))

    pub whole_roots : x.root ≢ 0 → are_roots_misplaced x ≡ true → first_broken same o x ≡ Some (L1, 0)
    whole_roots ne t = rooted ne true t

    pub whole_levels :
        x.root ≢ 0 → are_roots_misplaced x ≡ false → (f : Finding) → all_levels_finding same o x ≡ Some f
        → first_broken same o x ≡ Some f
    whole_levels ne roots f is =
        rooted ne false roots ∙ ap (λ k. option_or k (unreached_finding x (is_block_read x))) is

    pub whole_blocks :
        x.root ≢ 0 → are_roots_misplaced x ≡ false → all_levels_finding same o x ≡ None
        → (stands : ℕ → Bool) → ((b : ℕ) → stands b ≡ is_block_read x b)
        → first_broken same o x ≡ unreached_finding x stands
    whole_blocks ne roots none stands is =
        let same_stands : is_block_read x ≡ stands = λ i b. (sym (is b)) i in
        rooted ne false roots
        ∙ (ap (λ k. option_or k (unreached_finding x (is_block_read x))) none
        ∙ ap (λ (s : ℕ → Bool). unreached_finding x s) same_stands)

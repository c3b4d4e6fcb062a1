-- What is found breaks a rule, and where nothing is found none is broken.
use Rattle.std.proofs.Common.{◌≡◌, ◌≢◌, ℕ, suc, ◌+◌, ◌-◌, ◌<◌, ◌≤◌, inl, inr, List, [], ◌∷◌, ◌++◌, length, map, refl}
use Rattle.std.proofs.Common.{sym, ap, ◌∙◌, subst, arith, add-zero}
use Rattle.std.specs.Prelude.{Bool, Option, Some, None, ◌==◌, slice_get, cond}
use Rattle.std.specs.List.{flat_map}
use Rattle.std.proofs.lemmas.Bool.{cases_eq, eq-eqb}
use Rattle.std.proofs.lemmas.List.Elements.{recursion_from_All}
use Rattle.page_layout.specs.declared.rules.Rule.{Rule}
use Rattle.laws_search.specs.Order.{Order}
use Rattle.laws_search.specs.Tree.{Index}
use Rattle.laws_search.specs.Levels.{Row, level_rows}
use Rattle.laws_search.specs.Search.{tree_blocks}
use Rattle.laws_search.proofs.Lists.{In, Each, Each-append, Each-front, Each-back, Each-in, Each-from_in}
use Rattle.laws_search.proofs.Gather.{In-from_Contains, block_in, block_of}
use Rattle.laws_search.proofs.Unique.{Contains-from_In}
use Rattle.laws_levels.specs.Rules.{BreaksLevelRule, roots, circle, role, downlink, separator, low_key, dead_end}
use Rattle.laws_levels.specs.Rules.{not_alone, unreached}
use Rattle.laws_levels.specs.Rules.{KeepsLevelRules, IsLevel, IsOnLevel}
use Rattle.laws_levels.specs.Questions.{FastRoot, Finding, IsBroken, IsFirst, LastPage, Question, Roots, Unreached}
use Rattle.laws_levels.specs.Questions.{finding_of, last_questions, level_questions, levels_down, questions}
use Rattle.laws_levels.specs.Questions.{row_questions}
use Rattle.laws_levels.specs.Tests.{first_broken}
use Rattle.laws_levels.specs.Sound.{HasSoundPages, IsSame}
use Rattle.laws_levels.proofs.Find.{some_eq, flat_map-Each}
use Rattle.laws_levels.proofs.First.{first, each_map, map_each, each_level, each_down, questions_some, questions_none}
use Rattle.laws_levels.proofs.First.{Unbroken}
use Rattle.laws_levels.proofs.Searchable.{of_level}

-- the last page alone is asked
each_last_row :
    {S : Type 0} (P : Question S → Type 0) (rs : List (Row S))
    → ((r : Row S) → slice_get rs (length rs - 1) ≡ Some r → P (LastPage r)) → Each P (last_questions rs)
each_last_row P [] f = tt
each_last_row P (r ∷ []) f = (f r refl, tt)
each_last_row P (r ∷ s ∷ rs) f =
    let n : length (r ∷ s ∷ rs) - 1 ≡ suc (length (s ∷ rs) - 1) = omega arith in
    each_last_row P (s ∷ rs) (λ w at. f w (ap (slice_get (r ∷ s ∷ rs)) n ∙ at))

last_row_each :
    {S : Type 0} (P : Question S → Type 0) (rs : List (Row S)) (r : Row S) → slice_get rs (length rs - 1) ≡ Some r
    → Each P (last_questions rs) → P (LastPage r)
last_row_each P [] w at h = absurd cc
last_row_each P (r ∷ []) w at h = subst (λ z. P (LastPage z)) (some_eq r w at) h.0
last_row_each P (r ∷ s ∷ rs) w at h =
    let n : length (r ∷ s ∷ rs) - 1 ≡ suc (length (s ∷ rs) - 1) = omega arith in
    last_row_each P (s ∷ rs) w (sym (ap (slice_get (r ∷ s ∷ rs)) n) ∙ at) h

module _ {S E : Type 0} (o : Order S E) (x : Index S E) where
  -- where the answer is that it is broken the finding breaks a rule
  abbrev Caused : Question S → Type 0
  Caused q = IsBroken o x q → BreaksLevelRule o x (finding_of x q).0 (finding_of x q).1

  level_caused : x.root ≢ 0 → (m n : ℕ) → m + n ≡ x.level → Each Caused (level_questions x m n)
  level_caused ne m n sum =
      let is : IsLevel x n = (ne, omega arith) in
      let row : (r : Row S) → In r (level_rows x n) → IsOnLevel x n r = λ r i. (is, Contains-from_In (level_rows x n) r i) in
      each_level x Caused m n (λ h. circle n is h) (λ h. downlink n is h)
      (Each-from_in (λ r. Each Caused (row_questions n r)) (level_rows x n) (λ r i. (
        (λ h. role n r (row r i) h),
        ((λ h. separator n r (row r i) h), ((λ h. low_key n r (row r i) h), tt)),
      )))
      (each_last_row Caused (level_rows x n) (λ r at h. dead_end n r (is, at) h)) (λ e h. not_alone ne (omega arith) h)

  blocks_caused : Each Caused (map Unreached (tree_blocks x.blocks))
  blocks_caused =
      let one : (b : ℕ) → In b (tree_blocks x.blocks) → Caused (Unreached b) = λ b i h. let k = block_of x.blocks b i in unreached b k.0 k.1 h in
      each_map Caused Unreached (tree_blocks x.blocks) (Each-from_in (λ b. Caused (Unreached b)) (tree_blocks x.blocks) one)

  all_caused : Each Caused (questions x)
  all_caused = elim (cases_eq x.root 0) [
    | inl z ↦ subst (Each Caused) (sym (questions_none x z)) blocks_caused
    | inr ne ↦ subst (Each Caused) (sym (questions_some x ne)) ((λ h. roots ne h), Each-append Caused (levels_down x x.level 0) (map Unreached (tree_blocks x.blocks)) (each_down x Caused (level_caused ne) x.level 0 (add-zero x.level)) blocks_caused)
  ]

  pub breaks_here : (b : Finding) → IsFirst o x b → BreaksLevelRule o x b.0 b.1
  breaks_here b f =
      let here : Each Caused (f.before ++ f.question ∷ f.after) = subst (Each Caused) f.order all_caused in
      subst (λ (d : Finding). BreaksLevelRule o x d.0 d.1) f.found ((Each-back Caused f.before (f.question ∷ f.after) here).0 f.broken)

  -- where no question is answered so
  abbrev Kept : Question S → Type 0
  Kept q = ¬ IsBroken o x q

  module _ (all : Unbroken o x) where
    each_kept : Each Kept (questions x)
    each_kept = recursion_from_All Kept (questions x) all

    some_kept : x.root ≢ 0 → Each Kept (Roots ∷ levels_down x x.level 0 ++ map Unreached (tree_blocks x.blocks))
    some_kept ne = subst (Each Kept) (questions_some x ne) each_kept

    level_kept : (n : ℕ) → IsLevel x n → Each Kept (level_questions x (x.level - n) n)
    level_kept n is =
        let le : n ≤ x.level = is.1 in
        of_level x Kept x.level 0 (Each-front Kept (levels_down x x.level 0) (map Unreached (tree_blocks x.blocks)) (some_kept is.0).1) (x.level - n) n (omega arith) (omega arith)

    row_kept : (n : ℕ) (r : Row S) → IsOnLevel x n r → Each Kept (row_questions n r)
    row_kept n r is =
        let rest = last_questions (level_rows x n) ++ cond (x.level - n == x.fastlevel) (FastRoot ∷ []) [] in
        let rows = flat_map-Each Kept (row_questions n) (level_rows x n) (Each-front Kept (flat_map (row_questions n) (level_rows x n)) rest (level_kept n is.0).1.1) in
        Each-in (λ w. Each Kept (row_questions n w)) r (level_rows x n) rows (In-from_Contains (level_rows x n) r is.1)

    ends_kept :
        (n : ℕ) → IsLevel x n
        → Each Kept (last_questions (level_rows x n)) × Each Kept (cond (x.level - n == x.fastlevel) (FastRoot ∷ []) [])
    ends_kept n is =
        let last = last_questions (level_rows x n) in
        let fast = cond (x.level - n == x.fastlevel) (FastRoot ∷ []) [] in
        let both = Each-back Kept (flat_map (row_questions n) (level_rows x n)) (last ++ fast) (level_kept n is).1.1 in
        (Each-front Kept last fast both, Each-back Kept last fast both)

    fast_kept : x.root ≢ 0 → x.fastlevel ≤ x.level → Kept FastRoot
    fast_kept ne le =
        let n : ℕ = x.level - x.fastlevel in
        let m : x.level - n ≡ x.fastlevel = omega arith in
        (subst (λ b. Each Kept (cond b (FastRoot ∷ []) [])) (eq-eqb (x.level - n) x.fastlevel m) (ends_kept n (ne, omega arith)).1).0

    blocks_kept : Each Kept (map Unreached (tree_blocks x.blocks))
    blocks_kept = elim (cases_eq x.root 0) [
      | inl z ↦ subst (Each Kept) (questions_none x z) each_kept
      | inr ne ↦ Each-back Kept (levels_down x x.level 0) (map Unreached (tree_blocks x.blocks)) (some_kept ne).1
    ]

    block_kept : (b : ℕ) → b ≢ 0 → b < x.blocks → Kept (Unreached b)
    block_kept b some inside = Each-in (λ b. Kept (Unreached b)) b (tree_blocks x.blocks) (map_each Kept Unreached (tree_blocks x.blocks) blocks_kept) (block_in x.blocks b some inside)

    pub breaks_none : (rule : Rule) (block : ℕ) → BreaksLevelRule o x rule block → ⊥
    breaks_none _ _ (roots ne h) = (some_kept ne).0 h
    breaks_none _ _ (circle n is h) = (level_kept n is).0 h
    breaks_none _ _ (role n r is h) = (row_kept n r is).0 h
    breaks_none _ _ (downlink n is h) = (level_kept n is).1.0 h
    breaks_none _ _ (separator n r is h) = (row_kept n r is).1.0 h
    breaks_none _ _ (low_key n r is h) = (row_kept n r is).1.1.0 h
    breaks_none _ _ (dead_end n r is h) = last_row_each Kept (level_rows x n) r is.1 (ends_kept n is.0).0 h
    breaks_none _ _ (not_alone ne le h) = fast_kept ne le h
    breaks_none _ _ (unreached b some inside h) = block_kept b some inside h

-- no finding where no rule is broken
pub silent :
    {S E : Type 0} (same : S → S → Bool) (o : Order S E) (x : Index S E) → IsSame same → HasSoundPages o x
    → KeepsLevelRules o x → first_broken same o x ≡ None
silent same o x law local none = go (first_broken same o x) refl
  where
    go : (f : Option Finding) → first_broken same o x ≡ f → first_broken same o x ≡ None
    go None is = is
    go (Some b) is = absurd (none b.0 b.1 (breaks_here o x b (first same o x law local.pages local b is)))

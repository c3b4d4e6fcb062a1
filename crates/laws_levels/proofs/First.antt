-- The finding is the first rule that is broken.
use Rattle.std.proofs.Common.{◌≡◌, ◌≢◌, ℕ, zero, suc, ◌+◌, ◌<◌, ◌≤◌, ◌⊎◌, inl, inr, Bool, true, false, not, cond}
use Rattle.std.proofs.Common.{List, [], ◌∷◌, ◌++◌, map, refl, sym, ap, ◌∙◌, subst, arith, add-zero}
use Rattle.std.specs.Prelude.{Option, Some, None, ◌==◌, ◌||◌, nat_le, option_map}
use Rattle.std.specs.List.{flat_map, find, All}
use Rattle.std.proofs.lemmas.Bool.{cases_Bool, cases_eq, cond-true, cond-false, eq-eqb, eqb-true, ne_eqb, or_parts}
use Rattle.std.proofs.lemmas.Bool.{both_ways, not-false, leb-true}
use Rattle.std.proofs.lemmas.List.Elements.{All-from_recursion}
use Rattle.laws_search.specs.Order.{Order}
use Rattle.laws_search.specs.Tree.{Index}
use Rattle.laws_search.specs.Levels.{Row, level_rows}
use Rattle.laws_search.specs.Searchable.{IsInUse, IsSoundPage}
use Rattle.laws_search.specs.Search.{tree_blocks}
use Rattle.laws_search.proofs.Lists.{Each, Each-append, Each-front, Each-back}
use Rattle.laws_levels.specs.Questions.{Circle, Downlinks, FastRoot, Finding, IsBroken, IsFirst, LastPage, Question}
use Rattle.laws_levels.specs.Questions.{Roots, Unreached, finding_of, last_questions, level_questions, levels_down}
use Rattle.laws_levels.specs.Questions.{questions, row_questions}
use Rattle.laws_levels.specs.Tests.{are_roots_misplaced, first_broken, is_broken, is_misplaced}
use Rattle.laws_levels.specs.Sound.{HasSoundPages, IsSame}
use Rattle.laws_levels.proofs.Decide.{Founded, decides}
use Rattle.laws_levels.proofs.Find.{some_eq, IsFound, found, none_found, Each-flat_map}
use Rattle.laws_levels.proofs.Entries.{entry_is}

-- no rule that is asked is broken
abbrev pub Unbroken : {S E : Type 0} → Order S E → Index S E → Type 0
Unbroken o x = All (λ q. ¬ IsBroken o x q) (questions x)

pub each_two : {X : Type 0} (P Q R : X → Type 0) (xs : List X) → ((x : X) → P x → Q x → R x) → Each P xs → Each Q xs → Each R xs
each_two P Q R [] f a b = tt
each_two P Q R (x ∷ xs) f a b = (f x a.0 b.0, each_two P Q R xs f a.1 b.1)

pub each_all : {X : Type 0} (P : X → Type 0) (xs : List X) → ((x : X) → P x) → Each P xs
each_all P [] f = tt
each_all P (x ∷ xs) f = (f x, each_all P xs f)

pub each_map : {X Y : Type 0} (P : Y → Type 0) (f : X → Y) (xs : List X) → Each (λ x. P (f x)) xs → Each P (map f xs)
each_map P f [] h = tt
each_map P f (x ∷ xs) h = (h.0, each_map P f xs h.1)

pub map_each : {X Y : Type 0} (P : Y → Type 0) (f : X → Y) (xs : List X) → Each P (map f xs) → Each (λ x. P (f x)) xs
map_each P f [] h = tt
map_each P f (x ∷ xs) h = (h.0, map_each P f xs h.1)

pub each_last : {S : Type 0} (P : Question S → Type 0) (rs : List (Row S)) → Each (λ r. P (LastPage r)) rs → Each P (last_questions rs)
each_last P [] h = tt
each_last P (r ∷ []) h = (h.0, tt)
each_last P (r ∷ s ∷ rs) h = each_last P (s ∷ rs) h.1

pub each_cond : {X : Type 0} (P : X → Type 0) (b : Bool) (xs : List X) → (b ≡ true → Each P xs) → Each P (cond b xs [])
each_cond P true xs h = h refl
each_cond P false xs h = tt

-- what is asked of a tree without pages, and of one with pages
pub questions_none : {S E : Type 0} (x : Index S E) → x.root ≡ 0 → questions x ≡ map Unreached (tree_blocks x.blocks)
questions_none x z = ap (λ w. w ++ map Unreached (tree_blocks x.blocks)) (cond-true (x.root == 0) [] (Roots ∷ levels_down x x.level 0) (eq-eqb x.root 0 z))

pub questions_some :
    {S E : Type 0} (x : Index S E) → x.root ≢ 0
    → questions x ≡ Roots ∷ levels_down x x.level 0 ++ map Unreached (tree_blocks x.blocks)
questions_some x ne = ap (λ w. w ++ map Unreached (tree_blocks x.blocks)) (cond-false (x.root == 0) [] (Roots ∷ levels_down x x.level 0) (ne_eqb x.root 0 ne))

-- what L1 leaves
pub record RootsStand {S E : Type 0} (x : Index S E) : Type 0 where
  pub root : IsInUse x x.root × ((x.page x.root).level ≡ x.level)
  pub fast : IsInUse x x.fastroot × ((x.page x.fastroot).level ≡ x.fastlevel)
  pub below : x.fastlevel ≤ x.level

pub roots_stand :
    {S E : Type 0} (o : Order S E) (x : Index S E) → HasSoundPages o x → x.root ≢ 0 → are_roots_misplaced x ≡ false
    → RootsStand x
roots_stand o x local ne h =
    let p = or_parts (is_misplaced x x.root x.level) (is_misplaced x x.fastroot x.fastlevel || not (nat_le x.fastlevel x.level)) h in
    let q = or_parts (is_misplaced x x.fastroot x.fastlevel) (not (nat_le x.fastlevel x.level)) p.1 in
    record {
      root = placed x.root x.level ne local.root_inside p.0;
      fast = placed x.fastroot x.fastlevel (λ z. ne (local.root_or_empty.1 z)) local.fast_inside q.0;
      below = leb-true x.fastlevel x.level (not-false (nat_le x.fastlevel x.level) q.1);
    }
  where
    placed : (b level : ℕ) → b ≢ 0 → b < x.blocks → is_misplaced x b level ≡ false → IsInUse x b × ((x.page b).level ≡ level)
    placed b level ne lt h =
        let p = or_parts (x.page b).idle (not ((x.page b).level == level)) h in
        (record { not_meta = ne; inside = lt; used = p.0 }, eqb-true (x.page b).level level (not-false ((x.page b).level == level) p.1))

-- all questions of one level
pub each_level :
    {S E : Type 0} (x : Index S E) (P : Question S → Type 0) (m n : ℕ) → P (Circle n) → P (Downlinks n)
    → Each (λ r. Each P (row_questions n r)) (level_rows x n) → Each P (last_questions (level_rows x n))
    → (m ≡ x.fastlevel → P FastRoot) → Each P (level_questions x m n)
each_level x P m n circle downs each last fast =
    let rest = last_questions (level_rows x n) ++ cond (m == x.fastlevel) (FastRoot ∷ []) [] in (
      circle,
      (
        downs,
        Each-append P (flat_map (row_questions n) (level_rows x n)) rest (Each-flat_map P (row_questions n) (level_rows x n) each)
            (Each-append P (last_questions (level_rows x n)) (cond (m == x.fastlevel) (FastRoot ∷ []) []) last (each_cond P (m == x.fastlevel) (FastRoot ∷ []) (λ h. (fast (eqb-true m x.fastlevel h), tt)))),
      ),
    )

pub each_down :
    {S E : Type 0} (x : Index S E) (P : Question S → Type 0)
    → ((m n : ℕ) → m + n ≡ x.level → Each P (level_questions x m n)) → (m n : ℕ) → m + n ≡ x.level
    → Each P (levels_down x m n)
each_down x P f zero n is = f zero n is
each_down x P f (suc m) n is = Each-append P (level_questions x (suc m) n) (levels_down x m (suc n)) (f (suc m) n is) (each_down x P f m (suc n) (omega arith))

module _ {S E : Type 0} (same : S → S → Bool) (o : Order S E) (x : Index S E) (law : IsSame same) (pages : (b : ℕ) → IsInUse x b → IsSoundPage o x b) where
  founded_level : RootsStand x → (m n : ℕ) → m + n ≡ x.level → Each (Founded x) (level_questions x m n)
  founded_level roots m n is =
      each_level x (Founded x) m n (m, entry_is o x pages roots.root n m is) tt (each_all (λ r. Each (Founded x) (row_questions n r)) (level_rows x n) (λ r. (tt, (tt, (tt, tt)))))
      (each_last (Founded x) (level_rows x n) (each_all (λ r. Founded x (LastPage r)) (level_rows x n) (λ r. tt))) (λ e. tt)

  founded_blocks : Each (Founded x) (map Unreached (tree_blocks x.blocks))
  founded_blocks = each_map (Founded x) Unreached (tree_blocks x.blocks) (each_all (λ b. Founded x (Unreached b)) (tree_blocks x.blocks) (λ b. tt))

  pub founded_all : (x.root ≢ 0 → RootsStand x) → Each (Founded x) (questions x)
  founded_all roots = elim (cases_eq x.root 0) [
    | inl z ↦ subst (Each (Founded x)) (sym (questions_none x z)) founded_blocks
    | inr ne ↦
        subst (Each (Founded x)) (sym (questions_some x ne)) (tt, Each-append (Founded x) (levels_down x x.level 0) (map Unreached (tree_blocks x.blocks)) (each_down x (Founded x) (founded_level (roots ne)) x.level 0 (add-zero x.level)) founded_blocks)
  ]

  -- no finding: all tests have failed
  pub none_broken : first_broken same o x ≡ None → Each (λ q. is_broken same o x q ≡ false) (questions x)
  unfolding first_broken
  none_broken h = none_found (is_broken same o x) (questions x) (go (find (is_broken same o x) (questions x)) h)
    where
      go : (f : Option (Question S)) → option_map (finding_of x) f ≡ None → f ≡ None
      go None h = refl
      go (Some q) h = absurd cc

  -- a test that failed
  pub unbroken_at : (q : Question S) → Founded x q → is_broken same o x q ≡ false → ¬ IsBroken o x q
  unbroken_at q f h b = both_ways (is_broken same o x q) h ((decides same o x law pages q f).1 b)

  unbroken_all :
      (qs : List (Question S)) → Each (Founded x) qs → Each (λ q. is_broken same o x q ≡ false) qs
      → All (λ q. ¬ IsBroken o x q) qs
  unbroken_all qs f h = All-from_recursion (λ q. ¬ IsBroken o x q) qs (each_two (Founded x) (λ q. is_broken same o x q ≡ false) (λ q. ¬ IsBroken o x q) qs unbroken_at f h)

  pub roots_from_none : HasSoundPages o x → Each (λ q. is_broken same o x q ≡ false) (questions x) → x.root ≢ 0 → RootsStand x
  roots_from_none local h ne = roots_stand o x local ne (subst (Each (λ q. is_broken same o x q ≡ false)) (questions_some x ne) h).0

  pub unbroken : HasSoundPages o x → first_broken same o x ≡ None → Unbroken o x
  unbroken local h =
      let none = none_broken h in
      unbroken_all (questions x) (founded_all (roots_from_none local none)) none

  -- the first, where the test of each question decides
  first_founded :
      Each (Founded x) (questions x) → (q : Question S) (b : Finding) → IsFound (is_broken same o x) (questions x) q
      → finding_of x q ≡ b → IsFirst o x b
  first_founded founded q b f is =
      let here : Each (Founded x) (f.before ++ q ∷ f.after) = subst (Each (Founded x)) f.order founded in
      record {
        before = f.before;
        question = q;
        after = f.after;
        order = f.order;
        found = is;
        broken = (decides same o x law pages q (Each-back (Founded x) f.before (q ∷ f.after) here).0).0 f.passes;
        none_before = unbroken_all f.before (Each-front (Founded x) f.before (q ∷ f.after) here) f.none_before;
      }

  -- the first, where it is L1
  first_roots : (ne : x.root ≢ 0) (b : Finding) → are_roots_misplaced x ≡ true → first_broken same o x ≡ Some b → IsFirst o x b
  unfolding first_broken
  first_roots ne b t h =
      let rest = levels_down x x.level 0 ++ map Unreached (tree_blocks x.blocks) in
      let at : find (is_broken same o x) (questions x) ≡ Some Roots = ap (find (is_broken same o x)) (questions_some x ne) ∙ cond-true (are_roots_misplaced x) (Some Roots) (find (is_broken same o x) rest) t in
      record {
        before = [];
        question = Roots;
        after = rest;
        order = questions_some x ne;
        found = some_eq (finding_of x Roots) b (sym (ap (option_map (finding_of x)) at) ∙ h);
        broken = (decides same o x law pages Roots tt).0 t;
        none_before = All-from_recursion (λ q. ¬ IsBroken o x q) [] tt;
      }

  pub first : HasSoundPages o x → (b : Finding) → first_broken same o x ≡ Some b → IsFirst o x b
  unfolding first_broken
  first local b h = go (find (is_broken same o x) (questions x)) refl h
    where
      by_roots :
          (q : Question S) → find (is_broken same o x) (questions x) ≡ Some q → finding_of x q ≡ b
          → (x.root ≡ 0) ⊎ (x.root ≢ 0) → IsFirst o x b
      by_roots q at is zero_or_not = elim zero_or_not [
        | inl z ↦ first_founded (founded_all (λ ne. absurd (ne z))) q b (found (is_broken same o x) (questions x) q at) is
        | inr ne ↦ elim (cases_Bool (are_roots_misplaced x)) [
          | inl t ↦ first_roots ne b t h
          | inr f ↦ first_founded (founded_all (λ k. roots_stand o x local ne f)) q b (found (is_broken same o x) (questions x) q at) is
        ]
      ]

      go : (f : Option (Question S)) → find (is_broken same o x) (questions x) ≡ f → option_map (finding_of x) f ≡ Some b → IsFirst o x b
      go None at k = absurd cc
      go (Some q) at k = by_roots q at (some_eq (finding_of x q) b k) (cases_eq x.root 0)

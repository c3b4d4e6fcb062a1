-- The items are the entries, each as great as it may be.
use Rattle.std.proofs.Common.{◌≡◌, ◌≢◌, ℕ, zero, suc, ◌<◌, ◌≤◌, ◌⊎◌, inl, inr, min, Bool, true, false, List, [], ◌∷◌, ◌++◌, length, take, drop, refl, sym, ap, ◌∙◌, subst, arith, length-drop}
use Rattle.std.proofs.lemmas.Bool.{cases_Bool, cond-true, cond-false, leb-true, leb-false}
use Rattle.std.proofs.lemmas.List.{length-take-le}
use Rattle.std.proofs.lemmas.List.Elements.{All-from_recursion}
use Rattle.laws_search.proofs.Lists.{Each}
use Rattle.laws_building.specs.Cuts.{joined}
use Rattle.laws_building.specs.Groups.{Grouping, run_length, greatest, may_have, more_of, group_up_to, grouped, IsGreatest, AllGreatest, IsGrouped}

pub front_back : {X : Type 0} (n : ℕ) (xs : List X) → take n xs ++ drop n xs ≡ xs
front_back zero xs = refl
front_back (suc n) [] = refl
front_back (suc n) (x ∷ xs) = ap (λ w. x ∷ w) (front_back n xs)

record Best (test : ℕ → Bool) (n k : ℕ) : Type 0 where
  up_to : k ≤ n
  passes : 0 < k → test k ≡ true
  above : (m : ℕ) → k < m → m ≤ n → test m ≡ false

best : (test : ℕ → Bool) (n : ℕ) → Best test n (greatest test n)
best test zero = record { up_to = omega arith; passes = λ h. absurd (omega arith); above = λ m a b. absurd (omega arith) }
best test (suc n) = elim (cases_Bool (test (suc n))) [
  | inl t ↦
      subst (Best test (suc n)) (sym (cond-true (test (suc n)) (suc n) (greatest test n) t)) (record { up_to = omega arith; passes = λ h. t; above = λ m a b. absurd (omega arith) })
  | inr t ↦
      let ih = best test n in
      let up = ih.up_to in
      subst (Best test (suc n)) (sym (cond-false (test (suc n)) (suc n) (greatest test n) t)) (record { up_to = omega arith; passes = ih.passes; above = λ m a b. elim (at_or m (suc n) b) [ inl e ↦ subst (λ z. test z ≡ false) (sym e) t | inr l ↦ ih.above m a (omega arith) ] })
]
  where
    at_or : (p q : ℕ) → p ≤ q → (p ≡ q) ⊎ (p < q)
    at_or p q l = grind arith

-- a run's front has the key
run_has : {E : Type 0} (same : E → E → Bool) (e : E) (es : List E) (n : ℕ) → n ≤ run_length same e es → Each (λ d. same e d ≡ true) (take n es) × (n ≤ length es)
run_has same e es zero le = (tt, omega arith)
run_has same e [] (suc n) le = absurd (omega arith)
run_has same e (d ∷ ds) (suc n) le = elim (cases_Bool (same e d)) [
  | inl t ↦
      let is : run_length same e (d ∷ ds) ≡ suc (run_length same e ds) = cond-true (same e d) (suc (run_length same e ds)) zero t in
      let ih = run_has same e ds n (omega arith) in
      let short : n ≤ length ds = ih.1 in
      ((t, ih.0), omega arith)
  | inr t ↦
      absurd (let is : run_length same e (d ∷ ds) ≡ zero = cond-false (same e d) (suc (run_length same e ds)) zero t in omega arith)
]

module _ {E : Type 0} (g : Grouping E) where
  one_item : (e : E) (es : List E) → IsGreatest g e (take (more_of g e es) es) (drop (more_of g e es) es)
  one_item e es =
      let run : ℕ = run_length g.same_key e es in
      let b = best (may_have g e es) (min g.most_more run) in
      let up : more_of g e es ≤ min g.most_more run = b.up_to in
      let has = run_has g.same_key e es (more_of g e es) (omega arith) in
      let fits : more_of g e es ≤ length es = has.1 in
      let long : length (take (more_of g e es) es) ≡ more_of g e es = length-take-le (more_of g e es) es fits in
      let whole : take (more_of g e es) es ++ drop (more_of g e es) es ≡ es = front_back (more_of g e es) es in
      record {
        one_key = All-from_recursion (λ d. g.same_key e d ≡ true) (take (more_of g e es) es) has.0;
        not_many = omega arith;
        small = λ h. leb-true (g.bytes (e ∷ take (more_of g e es) es)) g.most_bytes (b.passes (omega arith));
        greatest = subst (λ w. (n : ℕ) → length (take (more_of g e es) es) < n → n ≤ g.most_more → n ≤ run_length g.same_key e w → g.most_bytes < g.bytes (e ∷ take n w)) (sym whole)
            (λ n lt le run_le. leb-false (g.bytes (e ∷ take n es)) g.most_bytes (b.above n (omega arith) (omega arith)));
      }

  -- enough steps
  group_whole : (n : ℕ) (es : List E) → length es ≤ n → joined (group_up_to g n es) ≡ es
  group_whole zero [] le = refl
  group_whole zero (e ∷ es) le = absurd (omega arith)
  group_whole (suc n) [] le = refl
  group_whole (suc n) (e ∷ es) le =
      let k : ℕ = more_of g e es in
      ap (λ w. (e ∷ take (more_of g e es) es) ++ w) (group_whole n (drop (more_of g e es) es) (omega (arith, length-drop (more_of g e es) es))) ∙ ap (λ w. e ∷ w) (front_back (more_of g e es) es)

  group_filled : (n : ℕ) (es : List E) → Each (λ item. item ≢ []) (group_up_to g n es)
  group_filled zero es = tt
  group_filled (suc n) [] = tt
  group_filled (suc n) (e ∷ es) = (λ z. absurd cc, group_filled n (drop (more_of g e es) es))

  group_great : (n : ℕ) (es : List E) → length es ≤ n → AllGreatest g (group_up_to g n es)
  group_great zero es le = tt
  group_great (suc n) [] le = tt
  group_great (suc n) (e ∷ es) le =
      let short : length (drop (more_of g e es) es) ≤ n = omega (arith, length-drop (more_of g e es) es) in
      (subst (λ w. IsGreatest g e (take (more_of g e es) es) w) (sym (group_whole n (drop (more_of g e es) es) short)) (one_item e es), group_great n (drop (more_of g e es) es) short)

  pub is_grouped : (es : List E) → IsGrouped g es (grouped g es)
  is_grouped es = record {
    cut = record { whole = group_whole (length es) es (omega arith); filled = All-from_recursion (λ item. item ≢ []) (grouped g es) (group_filled (length es) es) };
    great = group_great (length es) es (omega arith);
  }

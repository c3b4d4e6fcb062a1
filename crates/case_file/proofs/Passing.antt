-- A document in which no rule is broken passes each rule at each spot.
use Rattle.std.proofs.Common.{◌≡◌, List, [], ◌∷◌, ◌++◌, Bool, false, Option, Some, None, refl, sym, ◌∙◌, inl, inr}
use Rattle.std.proofs.lemmas.Bool.{cases_Bool}
use Rattle.std.proofs.lemmas.Option.{none-some}
use Rattle.std.specs.List.{find, AllByRecursion}
use Rattle.toml.specs.Data.{Members}
use Rattle.case_rules.specs.declared.fault.CaseRule.{CaseRule}
use Rattle.case_rules.specs.declared.fault.CaseRule.TheVariants.{C2, C3, C4, C5, C6, C7}
use Rattle.case_file.specs.Case.{broken_or, first_broken, rules_in_order}
use Rattle.case_rules.specs.Rules.{breaks}
use Rattle.case_rules.specs.Spots.{Spot}

pub record Passes (top : Members) (s : Spot) : Type 0 where
  pub c2 : breaks top C2 s ≡ false
  pub c3 : breaks top C3 s ≡ false
  pub c4 : breaks top C4 s ≡ false
  pub c5 : breaks top C5 s ≡ false
  pub c6 : breaks top C6 s ≡ false
  pub c7 : breaks top C7 s ≡ false

abbrev pub EachPasses : Members → List Spot → Type 0
EachPasses top ss = AllByRecursion (Passes top) ss

-- no spot of the list breaks one of the rules
record NoneFound (top : Members) (ss : List Spot) : Type 0 where
  c2 : find (breaks top C2) ss ≡ None
  c3 : find (breaks top C3) ss ≡ None
  c4 : find (breaks top C4) ss ≡ None
  c5 : find (breaks top C5) ss ≡ None
  c6 : find (breaks top C6) ss ≡ None
  c7 : find (breaks top C7) ss ≡ None

neither : (rule : CaseRule) (o : Option Spot) (later : Option (CaseRule × Spot)) → broken_or rule o later ≡ None → (o ≡ None) × (later ≡ None)
neither rule None later none = (refl, none)
neither rule (Some s) later none = absurd (none-some (rule, s) (sym none))

none_found : (top : Members) (ss : List Spot) → first_broken top ss rules_in_order ≡ None → NoneFound top ss
none_found top ss none =
    let c2 = neither C2 (find (breaks top C2) ss) (first_broken top ss (C3 ∷ C4 ∷ C5 ∷ C6 ∷ C7 ∷ [])) none in
    let c3 = neither C3 (find (breaks top C3) ss) (first_broken top ss (C4 ∷ C5 ∷ C6 ∷ C7 ∷ [])) c2.1 in
    let c4 = neither C4 (find (breaks top C4) ss) (first_broken top ss (C5 ∷ C6 ∷ C7 ∷ [])) c3.1 in
    let c5 = neither C5 (find (breaks top C5) ss) (first_broken top ss (C6 ∷ C7 ∷ [])) c4.1 in
    let c6 = neither C6 (find (breaks top C6) ss) (first_broken top ss (C7 ∷ [])) c5.1 in
    let c7 = neither C7 (find (breaks top C7) ss) None c6.1 in
    record { c2 = c2.0; c3 = c3.0; c4 = c4.0; c5 = c5.0; c6 = c6.0; c7 = c7.0 }

-- what isn't found is neither the first nor among the rest
not_here : (test : Spot → Bool) (s : Spot) (ss : List Spot) → find test (s ∷ ss) ≡ None → (test s ≡ false) × (find test ss ≡ None)
not_here test s ss none =
    elim (cases_Bool (test s)) [
      | inl holds ↦ absurd (none-some s (sym none ∙ rw holds refl))
      | inr fails ↦ (fails, rw fails at none)
    ]

from_none_found : (top : Members) (ss : List Spot) → NoneFound top ss → EachPasses top ss
from_none_found top [] none = tt
from_none_found top (s ∷ ss) none =
    let c2 = not_here (breaks top C2) s ss none.c2 in
    let c3 = not_here (breaks top C3) s ss none.c3 in
    let c4 = not_here (breaks top C4) s ss none.c4 in
    let c5 = not_here (breaks top C5) s ss none.c5 in
    let c6 = not_here (breaks top C6) s ss none.c6 in
    let c7 = not_here (breaks top C7) s ss none.c7 in (
      record { c2 = c2.0; c3 = c3.0; c4 = c4.0; c5 = c5.0; c6 = c6.0; c7 = c7.0 },
      from_none_found top ss (record { c2 = c2.1; c3 = c3.1; c4 = c4.1; c5 = c5.1; c6 = c6.1; c7 = c7.1 }),
    )

pub each_passes : (top : Members) (ss : List Spot) → first_broken top ss rules_in_order ≡ None → EachPasses top ss
each_passes top ss none = from_none_found top ss (none_found top ss none)

-- what each spot of two lists passes, those of the first and of the second pass
pub passes_before : (top : Members) (xs ys : List Spot) → EachPasses top (xs ++ ys) → EachPasses top xs
passes_before top [] ys all = tt
passes_before top (x ∷ xs) ys all = (all.0, passes_before top xs ys all.1)

pub passes_after : (top : Members) (xs ys : List Spot) → EachPasses top (xs ++ ys) → EachPasses top ys
passes_after top [] ys all = all
passes_after top (x ∷ xs) ys all = passes_after top xs ys all.1

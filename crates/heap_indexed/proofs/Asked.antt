-- Keys are asked where nothing else is found of an index.
use Rattle.std.proofs.Common.{◌≡◌, ◌∙◌, ◌≤◌, ◌⊎◌, ◌++◌, inl, inr, ℕ, zero, suc, Bool, true, false, List, [], ◌∷◌, length, refl, sym, arith}
use Rattle.std.specs.Prelude.{◌↔◌}
use Rattle.std.proofs.lemmas.Bool.{false≢true}
use Rattle.std.proofs.lemmas.List.{nil_from_length}
use Rattle.outside.specs.Outside.{Names}
use Rattle.case_file.specs.Record.{CaseRecord}
use Rattle.reports.specs.Added.{joined}
use Rattle.reports.specs.Lists.{Lists}
use Rattle.reports.specs.declared.places.Finding.{Finding}
use Rattle.reports.specs.declared.places.UnjudgedPlace.{UnjudgedPlace}
use Rattle.bt_pages.specs.Broken.{AreEmpty}
use Rattle.join_rules.specs.Lists.{duplicates_lists, indexed_lists, joined_lists, or_else}

some-found : (fs : List Finding) (us : List UnjudgedPlace) (others : Lists) → 1 ≤ length fs ⊎ 1 ≤ length us → or_else fs us others ≡ record { findings = fs; unjudged = us }
some-found [] [] others some = absurd (omega (arith, some))
some-found [] (u ∷ us) others some = refl
some-found (f ∷ fs) us others some = refl

none-found : (fs : List Finding) (us : List UnjudgedPlace) (others : Lists) → length fs ≡ 0 → length us ≡ 0 → or_else fs us others ≡ others
none-found [] [] others none sure = refl
none-found [] (u ∷ us) others none sure = absurd (omega (arith, sure))
none-found (f ∷ fs) us others none sure = absurd (omega (arith, none))

pub not-asked : (case : CaseRecord) (names : Names) (n : ℕ) → 1 ≤ length (joined_lists case names n).findings ⊎ 1 ≤ length (joined_lists case names n).unjudged → joined_lists case names n ≡ indexed_lists case names n
unfolding indexed_lists
not-asked case names n some =
    sym (some-found (joined_lists case names n).findings (joined_lists case names n).unjudged (duplicates_lists case names n) some)

pub asked : (case : CaseRecord) (names : Names) (n : ℕ) → length (joined_lists case names n).findings ≡ 0 → length (joined_lists case names n).unjudged ≡ 0 → indexed_lists case names n ≡ duplicates_lists case names n
unfolding indexed_lists
asked case names n none sure =
    none-found (joined_lists case names n).findings (joined_lists case names n).unjudged (duplicates_lists case names n) none sure

pub nothing-there : (l : Lists) → length l.findings ≡ 0 → length l.unjudged ≡ 0 → AreEmpty l
nothing-there l none sure = record { findings = nil_from_length l.findings none; unjudged = nil_from_length l.unjudged sure }

pub joined-nothing : (l owed : Lists) → length l.findings ≡ 0 → length l.unjudged ≡ 0 → joined l owed ≡ owed
joined-nothing l owed none sure =
    (λ i. record { findings = nil_from_length l.findings none i ++ owed.findings; unjudged = nil_from_length l.unjudged sure i ++ owed.unjudged })

pub some-of : (a b : ℕ) (r : Bool) → r ≡ false → ((r ≡ true) ↔ (a ≡ 0) × (b ≡ 0)) → 1 ≤ a ⊎ 1 ≤ b
some-of zero zero r is both = absurd (false≢true (sym is ∙ both.1 (refl, refl)))
some-of zero (suc b) r is both = inr (omega arith)
some-of (suc a) b r is both = inl (omega arith)

-- What holds of what the members of a list give, one after the other.
use Rattle.std.proofs.Common.{◌≡◌, inl, inr, List, [], ◌∷◌, ◌++◌, refl, sym, subst}
use Rattle.std.specs.Prelude.{All, Contains}
use Rattle.std.proofs.lemmas.List.Elements.{All-append, All-nil, Contains-append_left, Contains-append_right}
use Rattle.outside.specs.Adds.{Joins}
use Rattle.bt_steps.proofs.Members.{either-in, first-in, none-in, other-in}
use Rattle.join_rules.specs.Lists.{of_each}

-- `part` gives one list of a record, and joins as the records do
module _ {L Z : Type 0} (lists : Joins L) (part : L → List Z) (none : part lists.none ≡ []) (join : (a b : L) → part (lists.join a b) ≡ part a ++ part b) where
  module _ {X : Type 0} (f : X → L) where
    pub All-each : (P : Z → Type 0) (xs : List X) → ((x : X) → Contains xs x → All P (part (f x))) → All P (part (of_each lists f xs))
    All-each P [] each = subst (All P) (sym none) (All-nil P)
    All-each P (x ∷ xs) each =
        subst (All P) (sym (join (f x) (of_each lists f xs)))
        (All-append P (part (f x)) (part (of_each lists f xs)) (each x (first-in x xs)) (All-each P xs (λ y h. each y (other-in x y xs h))))

    pub among-each : (xs : List X) (x : X) (z : Z) → Contains xs x → Contains (part (f x)) z → Contains (part (of_each lists f xs)) z
    among-each [] x z h has = absurd (none-in x [] refl h)
    among-each (y ∷ ys) x z h has =
        let Q : List Z → Type 0 = λ l. Contains l z in
        subst Q (sym (join (f y) (of_each lists f ys))) (elim (either-in y x ys h) [
          | inl e ↦ Contains-append_left (part (f y)) (part (of_each lists f ys)) z (subst (λ (w : X). Contains (part (f w)) z) (sym e) has)
          | inr k ↦ Contains-append_right (part (f y)) (part (of_each lists f ys)) z (among-each ys x z k has)
        ])

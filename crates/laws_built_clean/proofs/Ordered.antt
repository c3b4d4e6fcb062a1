-- The members of a list that is put in order are those of the list.
use Rattle.std.proofs.Common.{◌≡◌, ◌⊎◌, inl, inr, Bool, true, false, cond, List, [], ◌∷◌, refl, subst}
use Rattle.std.specs.Prelude.{Contains}
use Rattle.key_orders.specs.declared.columns.KeySpec.{KeySpec}
use Rattle.bt_image.specs.Image.{LeafEntry}
use Rattle.bt_steps.proofs.Members.{either-in, first-in, none-in, other-in}
use Rattle.bt_build.specs.Order.{in_order, is_before, put_in_order}

module _ (specs : List KeySpec) where
  put-first : (e : LeafEntry) (ds : List LeafEntry) → Contains (put_in_order specs e ds) e
  put-first e [] = first-in e []
  put-first e (d ∷ ds) = by (is_before specs e d) (put-first e ds)
    where
      by : (b : Bool) → Contains (put_in_order specs e ds) e → Contains (cond b (e ∷ d ∷ ds) (d ∷ put_in_order specs e ds)) e
      by true deeper = first-in e (d ∷ ds)
      by false deeper = other-in d e (put_in_order specs e ds) deeper

  put-other : (e x : LeafEntry) (ds : List LeafEntry) → Contains ds x → Contains (put_in_order specs e ds) x
  put-other e x [] has = absurd (none-in x [] refl has)
  put-other e x (d ∷ ds) has = by (is_before specs e d) (λ h. put-other e x ds h)
    where
      by : (b : Bool) → (Contains ds x → Contains (put_in_order specs e ds) x) → Contains (cond b (e ∷ d ∷ ds) (d ∷ put_in_order specs e ds)) x
      by true deeper = other-in e x (d ∷ ds) has
      by false deeper = elim (either-in d x ds has) [
        | inl same ↦ subst (λ (y : LeafEntry). Contains (d ∷ put_in_order specs e ds) y) same (first-in d (put_in_order specs e ds))
        | inr later ↦ other-in d x (put_in_order specs e ds) (deeper later)
      ]

  pub ordered-has : (es : List LeafEntry) (x : LeafEntry) → Contains es x → Contains (in_order specs es) x
  ordered-has [] x has = has
  ordered-has (e ∷ es) x has = elim (either-in e x es has) [
    | inl same ↦ subst (λ (y : LeafEntry). Contains (put_in_order specs e (in_order specs es)) y) same (put-first e (in_order specs es))
    | inr later ↦ put-other e x (in_order specs es) (ordered-has es x later)
  ]

  put-from : (e x : LeafEntry) (ds : List LeafEntry) → Contains (put_in_order specs e ds) x → (e ≡ x) ⊎ Contains ds x
  put-from e x [] has = either-in e x [] has
  put-from e x (d ∷ ds) has = by (is_before specs e d) has (λ h. put-from e x ds h)
    where
      wider : (e ≡ x) ⊎ Contains ds x → (e ≡ x) ⊎ Contains (d ∷ ds) x
      wider (inl same) = inl same
      wider (inr later) = inr (other-in d x ds later)

      by : (b : Bool) → Contains (cond b (e ∷ d ∷ ds) (d ∷ put_in_order specs e ds)) x → (Contains (put_in_order specs e ds) x → (e ≡ x) ⊎ Contains ds x)
          → (e ≡ x) ⊎ Contains (d ∷ ds) x
      by true h deeper = either-in e x (d ∷ ds) h
      by false h deeper = elim (either-in d x (put_in_order specs e ds) h) [
        | inl same ↦ inr (subst (λ (y : LeafEntry). Contains (d ∷ ds) y) same (first-in d ds))
        | inr later ↦ wider (deeper later)
      ]

  pub ordered-from : (es : List LeafEntry) (x : LeafEntry) → Contains (in_order specs es) x → Contains es x
  ordered-from [] x has = has
  ordered-from (e ∷ es) x has = elim (put-from e x (in_order specs es) has) [
    | inl same ↦ subst (λ (y : LeafEntry). Contains (e ∷ es) y) same (first-in e es)
    | inr later ↦ other-in e x es (ordered-from es x later)
  ]

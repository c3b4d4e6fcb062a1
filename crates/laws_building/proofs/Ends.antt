-- First values end no later than all.
use Rattle.std.proofs.Common.{◌≡◌, ℕ, suc, ◌≤◌, true, List, [], ◌∷◌, ◌++◌, length, drop, ap, ◌∙◌, subst, arith, Ordering}
use Rattle.std.specs.Cmp.{IsTotalOrder}
use Rattle.laws_search.specs.Keys.{Entry, Columns, key_order}
use Rattle.laws_building.specs.Layout.{Layout, end_from, end_of, IsLayout}
use Rattle.laws_building.specs.Splits.{key_splitter}
use Rattle.laws_building.proofs.Splits.{shortest}
use Rattle.laws_building.proofs.Groups.{front_back}

module _ {V : Type 0} (lay : Layout V) (laws : IsLayout lay) where
  later_ends : (vs : List V) (i p q : ℕ) → p ≤ q → end_from lay vs i p ≤ end_from lay vs i q
  later_ends [] i p q le = le
  later_ends (v ∷ vs) i p q le = later_ends vs (suc i) (lay.ends i v p) (lay.ends i v q) (laws.ordered i p q v le)

  no_less : (vs : List V) (i p : ℕ) → p ≤ end_from lay vs i p
  no_less [] i p = omega arith
  no_less (v ∷ vs) i p =
      let a : p ≤ lay.ends i v p = laws.grows i p v in
      let b : lay.ends i v p ≤ end_from lay vs (suc i) (lay.ends i v p) = no_less vs (suc i) (lay.ends i v p) in
      omega arith

  more_ends : (vs ws : List V) (i p : ℕ) → end_from lay vs i p ≤ end_from lay (vs ++ ws) i p
  more_ends [] ws i p = no_less ws i p
  more_ends (v ∷ vs) ws i p = more_ends vs ws (suc i) (lay.ends i v p)

  pub front_ends : (vs ws : List V) → end_of lay vs ≤ end_of lay (vs ++ ws)
  front_ends vs ws =
      let a : end_from lay vs 0 (lay.begins vs) ≤ end_from lay vs 0 (lay.begins (vs ++ ws)) = later_ends vs 0 (lay.begins vs) (lay.begins (vs ++ ws)) (laws.front_begins vs ws) in
      let b : end_from lay vs 0 (lay.begins (vs ++ ws)) ≤ end_from lay (vs ++ ws) 0 (lay.begins (vs ++ ws)) = more_ends vs ws 0 (lay.begins (vs ++ ws)) in
      omega arith

  -- a separator's values end no later than the right entry's
  pub kept_ends : {T : Type 0} (cs : Columns V) (ts : T → T → Ordering) → ((i : ℕ) → IsTotalOrder (cs i)) → (d e : Entry V T) → (key_order cs ts).precedes d e ≡ true → end_of lay ((key_splitter cs).split_key d e).kept ≤ end_of lay e.values
  kept_ends cs ts total d e below =
      let kept : List V = ((key_splitter cs).split_key d e).kept in
      let h = shortest cs total ts d e below in
      let whole : kept ++ drop (length kept) e.values ≡ e.values = ap (λ w. w ++ drop (length kept) e.values) h.front ∙ front_back (length kept) e.values in
      subst (λ w. end_of lay kept ≤ end_of lay w) whole (front_ends kept (drop (length kept) e.values))

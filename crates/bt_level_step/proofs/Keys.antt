-- The order of whole keys, turned.
use Rattle.std.proofs.Common.{◌≡◌, refl, ap, ◌∙◌, Ordering, Less, Equal, Greater}
use Rattle.std.specs.Prelude.{not}
use Rattle.std.specs.Cmp.{IsTotalOrder}
use Rattle.std.specs.Ordering.{is_eq, is_le, is_lt, ordering_reverse}

turned_below : (o : Ordering) → not (is_lt (ordering_reverse o)) ≡ is_le o
turned_below Less = refl
turned_below Equal = refl
turned_below Greater = refl

turned_same : (o : Ordering) → is_eq (ordering_reverse o) ≡ is_eq o
turned_same Less = refl
turned_same Equal = refl
turned_same Greater = refl

module _ {K : Type 0} (compare : K → K → Ordering) (total : IsTotalOrder compare) (a b : K) where
  -- what isn't below another is at least equal to it
  pub not_below : not (is_lt (compare a b)) ≡ is_le (compare b a)
  not_below = ap (λ (o : Ordering). not (is_lt o)) (total.antisymm a b) ∙ turned_below (compare b a)

  pub same_either : is_eq (compare a b) ≡ is_eq (compare b a)
  same_either = ap is_eq (total.antisymm a b) ∙ turned_same (compare b a)

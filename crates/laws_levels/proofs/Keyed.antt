-- Keys by columns: `under` is transitive, and separators that stand equal are the same.
use Rattle.std.proofs.Common.{◌≡◌, ℕ, suc, true, List, [], ◌∷◌, refl, sym, ap, ◌∙◌, Ordering, Less, Equal, Greater}
use Rattle.std.specs.Prelude.{Option, Some, None}
use Rattle.std.specs.Ordering.{ordering_reverse, ordering_then, is_lt, is_eq}
use Rattle.std.specs.Cmp.{IsTotalOrder}
use Rattle.laws_search.specs.Keys.{Columns, compare_values, compare_tids, compare_keys, key_order}
use Rattle.laws_levels.specs.Sound.{IsSame, IsTransitive}
use Rattle.laws_levels.specs.Same.{TellsApart, same_keys}

eq_equal : (a : Ordering) → is_eq a ≡ true → a ≡ Equal
eq_equal Less h = absurd cc
eq_equal Equal h = refl
eq_equal Greater h = absurd cc

lt_less : (a : Ordering) → is_lt a ≡ true → a ≡ Less
lt_less Less h = refl
lt_less Equal h = absurd cc
lt_less Greater h = absurd cc

then_equal : (a b : Ordering) → ordering_then a b ≡ Equal → (a ≡ Equal) × (b ≡ Equal)
then_equal Less b h = absurd cc
then_equal Equal b h = (refl, h)
then_equal Greater b h = absurd cc

reverse_self : (a : Ordering) → a ≡ ordering_reverse a → is_eq a ≡ true
reverse_self Less h = absurd cc
reverse_self Equal h = refl
reverse_self Greater h = absurd cc

module _ {V T : Type 0} (cs : Columns V) (ts : T → T → Ordering) where
  values_equal : ((i : ℕ) → TellsApart (cs i)) → (i : ℕ) (xs ys : List V) → compare_values cs i xs ys ≡ Equal → xs ≡ ys
  values_equal apart i [] [] h = refl
  values_equal apart i [] (y ∷ ys) h = absurd cc
  values_equal apart i (x ∷ xs) [] h = absurd cc
  values_equal apart i (x ∷ xs) (y ∷ ys) h =
      let p = then_equal (cs i x y) (compare_values cs (suc i) xs ys) h in
      let e : x ≡ y = apart i x y p.0 in
      let f : xs ≡ ys = values_equal apart (suc i) xs ys p.1 in
      cc

  tids_equal : TellsApart ts → (t u : Option T) → compare_tids ts t u ≡ Equal → t ≡ u
  tids_equal apart None None h = refl
  tids_equal apart None (Some u) h = absurd cc
  tids_equal apart (Some t) None h = absurd cc
  tids_equal apart (Some t) (Some u) h = ap (λ z. Some z) (apart t u h)

  pub keys_transitive : IsTotalOrder (compare_keys cs ts) → IsTransitive (key_order cs ts)
  keys_transitive total s t u p q = ap is_lt (total.trans s t u (lt_less (compare_keys cs ts s t) p) (lt_less (compare_keys cs ts t u) q))

  pub keys_same : IsTotalOrder (compare_keys cs ts) → ((i : ℕ) → TellsApart (cs i)) → TellsApart ts → IsSame (same_keys cs ts)
  keys_same total apart tids s t = (there, back)
    where
      there : is_eq (compare_keys cs ts s t) ≡ true → s ≡ t
      there h =
          let p = then_equal (compare_values cs 0 s.kept t.kept) (compare_tids ts s.tid t.tid) (eq_equal (compare_keys cs ts s t) h) in
          let kept : s.kept ≡ t.kept = values_equal apart 0 s.kept t.kept p.0 in
          let tid : s.tid ≡ t.tid = tids_equal tids s.tid t.tid p.1 in
          λ i. record { kept = kept i; tid = tid i }

      back : s ≡ t → is_eq (compare_keys cs ts s t) ≡ true
      back e = ap (λ z. is_eq (compare_keys cs ts s z)) (sym e) ∙ reverse_self (compare_keys cs ts s s) (total.antisymm s s)

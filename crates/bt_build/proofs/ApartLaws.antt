-- Entries of which no two have one TID, in whatever order.
use Rattle.std.proofs.Common.{◌≡◌, ◌≢◌, ◌≤◌, ◌+◌, ◌∙◌, ℕ, Bool, true, false, List, [], ◌∷◌, ◌++◌, refl, sym, ap, subst, arith, Ordering, Less, Equal, Greater}
use Rattle.std.specs.Prelude.{All, unwrap_or, ◌↔◌, ◌==◌}
use Rattle.std.specs.Cmp.{IsTotalOrder}
use Rattle.std.specs.List.{AllByRecursion, sum_by}
use Rattle.std.specs.Ordering.{is_lt, ordering_reverse}
use Rattle.std.proofs.lemmas.Bool.{eq-eqb}
use Rattle.std.proofs.lemmas.List.Elements.{All-head, All-tail}
use Rattle.std.proofs.lemmas.List.Sorted.{IsPermutation-refl, sum_by_pushed}
use Rattle.laws_search.specs.Keys.{Separator, as_separator, compare_keys}
use Rattle.key_orders.specs.declared.columns.KeySpec.{KeySpec}
use Rattle.key_orders.specs.declared.columns.Value.{Value}
use Rattle.key_orders.specs.declared.Tid.{Tid}
use Rattle.key_orders.specs.Keys.{columns_of, tid_order}
use Rattle.join_slots.specs.Met.{same_tid}
use Rattle.join_slots.proofs.SlotLaws.{tid_is}
use Rattle.bt_image.specs.Image.{LeafEntry}
use Rattle.bt_build.specs.Listed.{AreApart}
use Rattle.bt_build.proofs.RisingLaws.{AllDiffer, Differ}

abbrev pub KeysTotal : Type 0
KeysTotal = (specs : List KeySpec) → IsTotalOrder (compare_keys (columns_of specs) tid_order)

abbrev pub KeysSame : Type 0
KeysSame = (specs : List KeySpec) (s t : Separator Value Tid) → (compare_keys (columns_of specs) tid_order s t ≡ Equal) ↔ (s ≡ t)

abbrev pub one_if : Bool → ℕ
one_if true = 1
one_if false = 0

-- 1 where the entry has the TID
abbrev pub has_tid : Tid → LeafEntry → ℕ
has_tid t e = one_if (same_tid e.entry.tid t)

sum_cons : (f : LeafEntry → ℕ) (e : LeafEntry) (es : List LeafEntry) → sum_by f (e ∷ es) ≡ f e + sum_by f es
sum_cons f e es = sum_by_pushed f e es (e ∷ es) (IsPermutation-refl (e ∷ es))

same_itself : (n : ℕ) → (n == n) ≡ true
same_itself n = eq-eqb n n refl

one_itself : (e : LeafEntry) → has_tid e.entry.tid e ≡ 1
one_itself e = rw (same_itself e.entry.tid.block, same_itself e.entry.tid.item) refl

none_by : (t u : Tid) (b : Bool) → same_tid u t ≡ b → u ≢ t → one_if (same_tid u t) ≡ 0
none_by t u true h other = absurd (other (tid_is u t h))
none_by t u false h other = ap one_if h

none_of : (t : Tid) (es : List LeafEntry) → All (λ d. d.entry.tid ≢ t) es → sum_by (has_tid t) es ≡ 0
none_of t [] other = refl
none_of t (e ∷ es) other =
    let here = none_by t e.entry.tid (same_tid e.entry.tid t) refl (All-head (λ (d : LeafEntry). d.entry.tid ≢ t) e es other) in
    let rest = none_of t es (All-tail (λ (d : LeafEntry). d.entry.tid ≢ t) e es other) in
    let sum = sum_cons (has_tid t) e es in
    omega (arith, here, rest, sum)

at_most_by : (t : Tid) (es : List LeafEntry) (e : LeafEntry) (b : Bool) → same_tid e.entry.tid t ≡ b → All (λ d. d.entry.tid ≢ e.entry.tid) es
    → sum_by (has_tid t) es ≤ 1 → sum_by (has_tid t) es + has_tid t e ≤ 1
at_most_by t es e true h other few =
    let is : e.entry.tid ≡ t = tid_is e.entry.tid t h in
    let none = none_of t es (subst (λ (u : Tid). All (λ (d : LeafEntry). d.entry.tid ≢ u) es) is other) in
    let one : has_tid t e ≡ 1 = ap one_if h in
    omega (arith, none, one)
at_most_by t es e false h other few =
    let none : has_tid t e ≡ 0 = ap one_if h in omega (arith, few, none)

snoc_sum : (f : LeafEntry → ℕ) (es : List LeafEntry) (e : LeafEntry) → sum_by f (es ++ e ∷ []) ≡ sum_by f es + f e
snoc_sum f [] e = omega arith
snoc_sum f (x ∷ es) e =
    let rest = snoc_sum f es e in
    let a = sum_cons f x (es ++ e ∷ []) in
    let b = sum_cons f x es in
    omega (arith, rest, a, b)

pub at_most_one : (es : List LeafEntry) → AreApart es → (t : Tid) → sum_by (has_tid t) es ≤ 1
at_most_one _ AreApart.none t = omega arith
at_most_one _ (AreApart.more es e apart other) t =
    let few = at_most_by t es e (same_tid e.entry.tid t) refl other (at_most_one es apart t) in
    let sum = snoc_sum (has_tid t) es e in
    omega (arith, few, sum)

module _ (total : KeysTotal) (same : KeysSame) (specs : List KeySpec) where
  differ_by : (d e : LeafEntry) (o : Ordering) → compare_keys (columns_of specs) tid_order (as_separator d.entry) (as_separator e.entry) ≡ o
      → e.entry.tid ≢ d.entry.tid → is_lt o ≡ false
      → is_lt (compare_keys (columns_of specs) tid_order (as_separator e.entry) (as_separator d.entry)) ≡ true
  differ_by d e Less h other low = absurd cc
  differ_by d e Equal h other low =
      let is = (same specs (as_separator d.entry) (as_separator e.entry)).0 h in
      absurd (other (sym (ap (λ (s : Separator Value Tid). unwrap_or s.tid d.entry.tid) is)))
  differ_by d e Greater h other low =
      ap is_lt ((total specs).antisymm (as_separator e.entry) (as_separator d.entry) ∙ ap ordering_reverse h)

  differ : (d e : LeafEntry) → e.entry.tid ≢ d.entry.tid → Differ specs d e
  differ d e other = λ low. differ_by d e _ refl other low

  others : (t : Tid) (d : LeafEntry) (es : List LeafEntry) → d.entry.tid ≡ t → sum_by (has_tid t) es ≡ 0 → AllByRecursion (Differ specs d) es
  others t d [] is none = tt
  others t d (e ∷ es) is none =
      let sum = sum_cons (has_tid t) e es in
      let other : e.entry.tid ≢ d.entry.tid = λ h.
      let one : has_tid t e ≡ 1 = subst (λ (u : Tid). has_tid u e ≡ 1) (h ∙ is) (one_itself e) in omega (arith, one, none, sum) in
      (differ d e other, others t d es is (omega (arith, none, sum)))

  pub all_differ : (es : List LeafEntry) → ((t : Tid) → sum_by (has_tid t) es ≤ 1) → AllDiffer specs es
  all_differ [] few = tt
  all_differ (e ∷ es) few =
      let one = one_itself e in
      let most = few e.entry.tid in
      let sum = sum_cons (has_tid e.entry.tid) e es in
      (others e.entry.tid e es refl (omega (arith, one, most, sum)), all_differ es (λ t. let most = few t in let sum = sum_cons (has_tid t) e es in omega (arith, most, sum)))

-- Places that are sorted hold the entries in order.
use Rattle.std.proofs.Common.{◌≡◌, ◌≤◌, ◌<◌, Ordering, Less, Equal, Greater, ◌+◌, ◌-◌, ◌∙◌, ℕ, suc, Bool, true, false, List, [], ◌∷◌, ◌++◌, length, take, drop, get_or, refl, sym, ap, subst, arith, append_assoc}
use Rattle.std.specs.Prelude.{All, IsPermutation, IsSortedBy}
use Rattle.std.specs.List.{flat_map, sum_by}
use Rattle.std.specs.Cmp.{ranks}
use Rattle.std.specs.Ordering.{MatchOrdering, is_lt, nat_cmp, ordering_then}
use Rattle.std.proofs.lemmas.List.Elements.{All-from_recursion, All-head, All-tail, recursion_from_All}
use Rattle.std.proofs.lemmas.List.Sorted.{All-permutation, IsPermutation-map, IsPermutation-sym, sum_by-IsPermutation}
use Rattle.std.proofs.lemmas.List.{length-append, length-take}
use Rattle.std.proofs.Math.Seq.{drop-append_seam, take-append_seam}
use Rattle.laws_search.specs.Keys.{compare_values}
use Rattle.laws_search.specs.Order.{IsOrder}
use Rattle.key_orders.specs.declared.columns.KeySpec.{KeySpec}
use Rattle.key_orders.specs.declared.columns.Value.{Value}
use Rattle.key_orders.specs.declared.more.MoreSpec.{MoreSpec}
use Rattle.key_orders.specs.declared.Tid.{Tid}
use Rattle.key_orders.specs.Keys.{columns_of, tid_order}
use Rattle.key_orders.specs.Scans.{order_of}
use Rattle.key_storage.specs.Stored.{stored_value, values_left, values_read}
use Rattle.key_storage.proofs.StoredLaws.{read_count, read_two, values_back}
use Rattle.key_storage.specs.RowLists.{LiesAt}
use Rattle.key_storage.proofs.RowLaws.{read_there}
use Rattle.bt_image.specs.Image.{LeafEntry}
use Rattle.bt_build.specs.declared.entries.Place.{Place}
use Rattle.bt_build.specs.Kept.{IsKept, entries_at, entry_at}
use Rattle.bt_build.specs.Listed.{AreApart}
use Rattle.bt_build.specs.Order.{in_order, is_before}
use Rattle.bt_build.specs.Places.{first_values, is_below, key_order_at, tid_of}
use Rattle.bt_build.proofs.ApartLaws.{KeysSame, KeysTotal, all_differ, at_most_one, has_tid}
use Rattle.bt_build.proofs.RisingLaws.{AllDiffer, Differ, Has, Rise, has_all, is_in_order, over_all}

-- so many first values of a key that lies there
pub front_read : (n : ℕ) (key : List Value) (bytes : List ℕ) → n ≤ length key → values_read (length key) bytes ≡ key → values_read n bytes ≡ take n key
front_read n key bytes le all =
    let m : ℕ = length key - n in
    let sum : n + m ≡ length key = omega (arith, le) in
    let parts : values_read n bytes ++ values_read m (values_left n bytes) ≡ key = sym (read_two n m bytes) ∙ ap (λ (k : ℕ). values_read k bytes) sum ∙ all in
    sym (take-append_seam (values_read n bytes) (values_read m (values_left n bytes)))
    ∙ ap (λ (k : ℕ). take k (values_read n bytes ++ values_read m (values_left n bytes))) (read_count n bytes)
    ∙ ap (take n) parts

pub behind_count : (arena : List ℕ) (at : ℕ) (lies : LiesAt arena at) → drop (at + 1) arena ≡ flat_map stored_value lies.key ++ lies.rest
behind_count arena at lies =
    let head : List ℕ = lies.before ++ length lies.key ∷ [] in
    let tail : List ℕ = flat_map stored_value lies.key ++ lies.rest in
    let is : arena ≡ head ++ tail = lies.bytes ∙ sym (append_assoc lies.before (length lies.key ∷ []) tail) in
    let len : length head ≡ at + 1 = let a = length-append lies.before (length lies.key ∷ []) in omega (arith, a, lies.at_is) in
    (λ i. drop (sym len i) (is i)) ∙ drop-append_seam head tail

pub first_is : (specs : List KeySpec) (ms : List MoreSpec) (arena : List ℕ) (p : Place) → IsKept specs ms arena p
    → first_values (length specs) arena p.at ≡ (entry_at specs arena p).entry.values
first_is specs ms arena p kept =
    let lies = kept.lies in
    let whole = kept.laid.whole in
    let key = lies.key in
    let read = read_there arena p.at lies in
    let many : length (take (length specs) key) ≡ length specs = subst (λ (k : List Value). length (take (length specs) k) ≡ length specs) read whole in
    let le : length specs ≤ length key = let t = length-take (length specs) key in omega (arith, many, t) in
    ap (values_read (length specs)) (behind_count arena p.at lies)
    ∙ front_read (length specs) key (flat_map stored_value key ++ lies.rest) le (values_back key lies.rest lies.storable)
    ∙ ap (take (length specs)) (sym read)

is_less : (m n : ℕ) → nat_cmp m n ≡ Less → m < n
is_less m n is = subst (λ (o : Ordering). MatchOrdering o (m < n) (m ≡ n) (n < m)) is (ranks m n)

is_greater : (m n : ℕ) → nat_cmp m n ≡ Greater → n < m
is_greater m n is = subst (λ (o : Ordering). MatchOrdering o (m < n) (m ≡ n) (n < m)) is (ranks m n)

not_both : (specs : List KeySpec) → IsOrder (order_of specs) → (d e : LeafEntry) (t : Bool) → is_before specs d e ≡ t → is_before specs e d ≡ true → is_before specs d e ≡ false
not_both specs order d e true is back = let itself = order.chained d.entry e.entry d.entry is back in let never = order.strict d.entry in absurd cc
not_both specs order d e false is back = is

-- the numbers of keys, and then the keys, order places as their entries are ordered
below_is : (specs : List KeySpec) → IsOrder (order_of specs) → (ms : List MoreSpec) (arena : List ℕ) (p q : Place) → IsKept specs ms arena p → IsKept specs ms arena q
    → is_below specs arena p q ≡ is_before specs (entry_at specs arena p) (entry_at specs arena q)
below_is specs order ms arena p q a b = go (nat_cmp p.prefix q.prefix) refl
  where
    keys : Ordering
    keys = compare_values (columns_of specs) 0 (entry_at specs arena p).entry.values (entry_at specs arena q).entry.values

    here : ordering_then (key_order_at specs arena p.at q.at) (tid_order (tid_of p) (tid_of q)) ≡ ordering_then keys (tid_order (tid_of p) (tid_of q))
    here = λ i. ordering_then (compare_values (columns_of specs) 0 (first_is specs ms arena p a i) (first_is specs ms arena q b i)) (tid_order (tid_of p) (tid_of q))

    by_prefix : (o : Ordering) → nat_cmp p.prefix q.prefix ≡ o → is_below specs arena p q ≡ is_lt (ordering_then o (ordering_then (key_order_at specs arena p.at q.at) (tid_order (tid_of p) (tid_of q))))
    by_prefix o is = ap (λ (r : Ordering). is_lt (ordering_then r (ordering_then (key_order_at specs arena p.at q.at) (tid_order (tid_of p) (tid_of q))))) is

    by_keys : (o : Ordering) → keys ≡ o → is_before specs (entry_at specs arena p) (entry_at specs arena q) ≡ is_lt (ordering_then o (tid_order (tid_of p) (tid_of q)))
    by_keys o is = ap (λ (r : Ordering). is_lt (ordering_then r (tid_order (tid_of p) (tid_of q)))) is

    go : (o : Ordering) → nat_cmp p.prefix q.prefix ≡ o → is_below specs arena p q ≡ is_before specs (entry_at specs arena p) (entry_at specs arena q)
    go Equal is = by_prefix Equal is ∙ ap is_lt here
    go Less is =
        let less = a.prefix.below (entry_at specs arena q).entry.values q.prefix b.prefix.is (is_less p.prefix q.prefix is) b.prefix.fits in
        by_prefix Less is ∙ sym (by_keys Less less)
    go Greater is =
        let less = b.prefix.below (entry_at specs arena p).entry.values p.prefix a.prefix.is (is_greater p.prefix q.prefix is) a.prefix.fits in
        let after : is_before specs (entry_at specs arena q) (entry_at specs arena p) ≡ true = ap (λ (r : Ordering). is_lt (ordering_then r (tid_order (tid_of q) (tid_of p)))) less in
        by_prefix Greater is ∙ sym (not_both specs order (entry_at specs arena p) (entry_at specs arena q) _ refl after)

tail_sorted : (lt : Place → Place → Bool) (p : Place) (ps : List Place) → IsSortedBy lt (p ∷ ps) → IsSortedBy lt ps
tail_sorted lt p ps up k d low high =
    let e : suc k + 1 ≡ suc (k + 1) = omega arith in
    subst (λ (m : ℕ). lt (get_or (p ∷ ps) m d) (get_or ps k d) ≡ false) e (up (suc k) d (omega arith) (omega (arith, high)))

under_by : (specs : List KeySpec) (d e : LeafEntry) (b : Bool) → is_before specs d e ≡ b → Differ specs d e → is_before specs e d ≡ false → is_before specs d e ≡ true
under_by specs d e true h differ low = h
under_by specs d e false h differ low = let other = differ h in absurd cc

module _ (total : KeysTotal) (same : KeysSame) (specs : List KeySpec) (order : IsOrder (order_of specs)) (ms : List MoreSpec) (arena : List ℕ) where
  pub rises : (ps : List Place) → All (IsKept specs ms arena) ps → IsSortedBy (is_below specs arena) ps → AllDiffer specs (entries_at specs arena ps)
      → Rise specs (entries_at specs arena ps)
  rises [] kept up differ = tt
  rises (p ∷ []) kept up differ = (tt, tt)
  rises (p ∷ q ∷ ps) kept up differ =
      let later = All-tail (IsKept specs ms arena) p (q ∷ ps) kept in
      let here = All-head (IsKept specs ms arena) p (q ∷ ps) kept in
      let next = All-head (IsKept specs ms arena) q ps later in
      let rest = rises (q ∷ ps) later (tail_sorted (is_below specs arena) p (q ∷ ps) up) differ.1 in
      let not_above : is_before specs (entry_at specs arena q) (entry_at specs arena p) ≡ false =
      sym (below_is specs order ms arena q p next here) ∙ up 0 p (omega arith) (omega arith) in
      let under = under_by specs (entry_at specs arena p) (entry_at specs arena q) _ refl differ.0.0 not_above in
      ((under, over_all specs order (entry_at specs arena p) (entry_at specs arena q) (entries_at specs arena ps) under rest.0), rest)

  pub sorted_in_order : (old new : List Place) → IsPermutation old new → IsSortedBy (is_below specs arena) new → All (IsKept specs ms arena) old
      → AreApart (entries_at specs arena old) → entries_at specs arena new ≡ in_order specs (entries_at specs arena old)
  sorted_in_order old new moved up kept apart =
      let es = entries_at specs arena old in
      let fs = entries_at specs arena new in
      let moved_entries : IsPermutation es fs = IsPermutation-map (entry_at specs arena) old new moved in
      let few = at_most_one es apart in
      let few_new : (t : Tid) → sum_by (has_tid t) fs ≤ 1 = λ t. subst (λ (n : ℕ). n ≤ 1) (sym (sum_by-IsPermutation (has_tid t) es fs moved_entries)) (few t) in
      let kept_new = All-permutation (IsKept specs ms arena) old new moved kept in
      let there = recursion_from_All (Has fs) es (All-permutation (Has fs) fs es (IsPermutation-sym es fs moved_entries) (All-from_recursion (Has fs) fs (has_all specs order fs))) in
      let back = recursion_from_All (Has es) fs (All-permutation (Has es) es fs moved_entries (All-from_recursion (Has es) es (has_all specs order es))) in
      is_in_order specs order es fs (all_differ total same specs es few) (rises new kept_new up (all_differ total same specs fs few_new)) there back

-- The wanted entries are those that match and aren't killed.
use Rattle.std.proofs.Common.{◌≡◌, ◌∙◌, ◌⊎◌, inl, inr, Bool, true, false, List, [], ◌∷◌, refl, sym, ap}
use Rattle.std.specs.Prelude.{Contains, if◌then◌else◌, not, unwrap_or, ◌↔◌, length}
use Rattle.std.specs.Cmp.{IsTotalOrder}
use Rattle.std.specs.List.{AllAdjacentBelow, filter}
use Rattle.std.specs.Ordering.{is_lt, ordering_reverse}
use Rattle.std.specs.declared.cmp.Ordering.{Ordering}
use Rattle.std.specs.declared.cmp.Ordering.TheVariants.{Less, Equal, Greater}
use Rattle.std.proofs.lemmas.Bool.{and_from, and_parts, both_ways, not_from_false, not-true}
use Rattle.laws_search.specs.Keys.{Entry, Separator, as_separator, compare_keys}
use Rattle.laws_search.specs.Order.{IsOrder, Scan}
use Rattle.laws_search.specs.Search.{entries_of, is_wanted}
use Rattle.laws_search.specs.Tree.{Index}
use Rattle.laws_search.proofs.Gather.{In-from_Contains}
use Rattle.laws_search.proofs.Lists.{In}
use Rattle.laws_search.proofs.Rising.{adjacent_from_rising}
use Rattle.laws_search.proofs.Unique.{Contains-from_In}
use Rattle.key_orders.specs.declared.columns.KeySpec.{KeySpec}
use Rattle.key_orders.specs.declared.columns.Value.{Value}
use Rattle.key_orders.specs.declared.Tid.{Tid}
use Rattle.key_orders.specs.Keys.{columns_of, tid_order}
use Rattle.key_orders.specs.Scans.{order_of}
use Rattle.bt_steps.specs.Pages.{is_killed}
use Rattle.bt_scan_lines.specs.Wanted.{IsOneWanted, wanted_entries}
use Rattle.bt_scan_lines.proofs.Sorting.{sorted_back, sorted_has, sorted_rises}

-- What passes a test

module _ {X : Type 0} (test : X → Bool) where
  kept_by : (x y : X) (ys : List X) (b : Bool) → test y ≡ b → test x ≡ true → (In x ys → In x (filter test ys)) → (x ≡ y) ⊎ In x ys
      → In x (if b then y ∷ filter test ys else filter test ys)
  kept_by x y ys true is passes rest (inl same) = inl same
  kept_by x y ys true is passes rest (inr later) = inr (rest later)
  kept_by x y ys false is passes rest (inl same) = absurd (both_ways (test y) is (ap test (sym same) ∙ passes))
  kept_by x y ys false is passes rest (inr later) = rest later

  pub kept_in : (xs : List X) (x : X) → In x xs → test x ≡ true → In x (filter test xs)
  kept_in [] x has passes = absurd has
  kept_in (y ∷ ys) x has passes = kept_by x y ys (test y) refl passes (λ later. kept_in ys x later passes) has

  from_by : (x y : X) (ys : List X) (b : Bool) → test y ≡ b → (In x (filter test ys) → In x ys × (test x ≡ true))
      → In x (if b then y ∷ filter test ys else filter test ys) → ((x ≡ y) ⊎ In x ys) × (test x ≡ true)
  from_by x y ys true is rest (inl same) = (inl same, ap test same ∙ is)
  from_by x y ys true is rest (inr later) = let r = rest later in (inr r.0, r.1)
  from_by x y ys false is rest has = let r = rest has in (inr r.0, r.1)

  pub from_kept : (xs : List X) (x : X) → In x (filter test xs) → In x xs × (test x ≡ true)
  from_kept [] x has = absurd has
  from_kept (y ∷ ys) x has = from_by x y ys (test y) refl (λ h. from_kept ys x h) has

-- Entries of which none is killed differ, or one is below the other

one_entry : (a b : Entry Value Tid) → as_separator a ≡ as_separator b → a.killed ≡ false → b.killed ≡ false → a ≡ b
one_entry a b is here there = λ i. record { values = (is i).kept; tid = unwrap_or (is i).tid a.tid; killed = (here ∙ sym there) i }

module _ (specs : List KeySpec) (total : IsTotalOrder (compare_keys (columns_of specs) tid_order)) (same : (s t : Separator Value Tid) → (compare_keys (columns_of specs) tid_order s t ≡ Equal) ↔ (s ≡ t)) (laws : IsOrder (order_of specs)) where
  near_by : (a b : Entry Value Tid) (o : Ordering) → compare_keys (columns_of specs) tid_order (as_separator a) (as_separator b) ≡ o → a.killed ≡ false → b.killed ≡ false
      → (a ≡ b) ⊎ (((order_of specs).precedes a b ≡ true) ⊎ ((order_of specs).precedes b a ≡ true))
  near_by a b Less is here there = inr (inl (ap is_lt is))
  near_by a b Equal is here there = inl (one_entry a b ((same (as_separator a) (as_separator b)).0 is) here there)
  near_by a b Greater is here there = inr (inr (ap is_lt (total.antisymm (as_separator b) (as_separator a) ∙ ap ordering_reverse is)))

  module _ (x : Index (Separator Value Tid) (Entry Value Tid)) (scan : Scan (Separator Value Tid) (Entry Value Tid)) where
    abbrev test : Entry Value Tid → Bool
    test = is_wanted is_killed scan

    abbrev all : List (Entry Value Tid)
    all = filter test (entries_of x)

    alive : (e : Entry Value Tid) → test e ≡ true → e.killed ≡ false
    alive e wanted = not-true e.killed (and_parts (scan.matches e) (not e.killed) wanted).1

    near : (a b : Entry Value Tid) → In a all → In b all → (a ≡ b) ⊎ (((order_of specs).precedes a b ≡ true) ⊎ ((order_of specs).precedes b a ≡ true))
    near a b first second =
        near_by a b (compare_keys (columns_of specs) tid_order (as_separator a) (as_separator b)) refl (alive a (from_kept test (entries_of x) a first).1) (alive b (from_kept test (entries_of x) b second).1)

    pub wanted_rises : AllAdjacentBelow (λ d e. (order_of specs).precedes d e ≡ true) (wanted_entries (order_of specs) is_killed x scan) (length (wanted_entries (order_of specs) is_killed x scan))
    unfolding wanted_entries
    wanted_rises = adjacent_from_rising (order_of specs) _ (sorted_rises (order_of specs) laws all)

    pub wanted_there : (e : Entry Value Tid) → Contains (wanted_entries (order_of specs) is_killed x scan) e → IsOneWanted is_killed x scan e
    unfolding wanted_entries
    wanted_there e has =
        let back = sorted_back (order_of specs) laws all e (In-from_Contains _ e has) in
        let from = from_kept test (entries_of x) e back in
        record {
          among = Contains-from_In (entries_of x) e from.0;
          matches = (and_parts (scan.matches e) (not e.killed) from.1).0;
          alive = alive e from.1;
        }

    pub there_wanted : (e : Entry Value Tid) → IsOneWanted is_killed x scan e → Contains (wanted_entries (order_of specs) is_killed x scan) e
    unfolding wanted_entries
    there_wanted e one =
        let passes : test e ≡ true = and_from (scan.matches e) (not e.killed) one.matches (not_from_false e.killed one.alive) in
        Contains-from_In _ e (sorted_has (order_of specs) laws all near e (kept_in test (entries_of x) e (In-from_Contains (entries_of x) e one.among) passes))

use Rattle.std.proofs.Common.{◌≡◌, ◌∙◌, List, arith, refl, subst, sym}
use Rattle.std.specs.Prelude.{IsPermutation, IsSortedBy, None, Option, Some}
use Rattle.std.proofs.lemmas.List.Sorted.{All-permutation}
use Rattle.key_orders.specs.declared.Tid.{Tid}
use Rattle.bt_build.specs.declared.entries.Place.{Place}
use Rattle.bt_build.specs.Kept.{IsKept}
use Rattle.bt_build.specs.Outcome.{large_among}
use Rattle.bt_build.specs.Places.{is_below}
use Rattle.bt_build.specs.Source.{entries_of}
use Rattle.bt_build.proofs.EndLaws.{answer_is, indexable, written_back}
use Rattle.bt_build.proofs.LargeLaws.{large_is}
use Rattle.bt_build.proofs.SortedLaws.{sorted_in_order}
use Rattle.bt_build.proofs.build.build_kept.Goals as goal

none_of : (o : Option Tid) (is : Option Tid) → o ≡ is → ((t : Tid) → o ≡ Some t → ⊥) → is ≡ None
none_of None is same other = sym same
none_of (Some t) is same other = absurd (other t refl)

pub returns-in-Some : goal.returns-in-Some
returns-in-Some c =
    let s = c.args.source in
    sym (large_is s.specs.now s.more.now s.arena.now c.args.places.now c.requires.each) ∙ sym c.large_tid.ensures ∙ c.in-Some.is

pub build_sorted-requires : goal.build_sorted-requires
build_sorted-requires c =
    let s = c.args.source in
    let places = c.args.places.now in
    let none : large_among s.specs.now s.more.now (entries_of s places) ≡ None = none_of c.large_tid.result _ (c.large_tid.ensures ∙ large_is s.specs.now s.more.now s.arena.now places c.requires.each) c.in_default.not-Some in
    let new = c.sort_places.new.places in
    let old = c.in_ok-in_order.in_order.items in
    let back : c.deref.result.now ≡ new = c.deref.ensures.value
    ∙ written_back c.in_ok-in_order.in_order.len new old (omega (arith, c.sort_places.auto.places, c.deref_mut.ensures.len, c.in_ok-in_order.in_order.ok)) in
    let moved : IsPermutation places c.deref.result.now = subst (λ (w : List Place × List Place). IsPermutation w.0 w.1)
    (λ i. ((c.deref_mut.ensures.value ∙ c.in_ok-in_order.ensures) i, sym back i)) c.sort_places.ensures.permutation in
    let up : IsSortedBy (is_below s.specs.now s.arena.now) c.deref.result.now = subst (IsSortedBy (is_below s.specs.now s.arena.now)) (sym back) c.sort_places.ensures.sorted in
    record {
      source = record { columns = c.requires.columns; types_are = c.requires.types_are };
      each = All-permutation (IsKept s.specs.now s.more.now s.arena.now) places c.deref.result.now moved c.requires.each;
      indexable = indexable s.specs.now s.more.now c.key_orders_are_total.ensures.keys c.key_orders_are_total.ensures.same_key (c.keys_are_searchable.ensures.order s.specs.now) s.arena.now places c.deref.result.now moved up c.requires.each c.requires.apart c.requires.columns.some none;
    }

pub returns : goal.returns
returns c =
    let s = c.args.source in
    let places = c.args.places.now in
    let none : large_among s.specs.now s.more.now (entries_of s places) ≡ None = none_of c.large_tid.result _ (c.large_tid.ensures ∙ large_is s.specs.now s.more.now s.arena.now places c.requires.each) c.in_default.not-Some in
    let new = c.sort_places.new.places in
    let old = c.in_ok-in_order.in_order.items in
    let back : c.deref.result.now ≡ new = c.deref.ensures.value
    ∙ written_back c.in_ok-in_order.in_order.len new old (omega (arith, c.sort_places.auto.places, c.deref_mut.ensures.len, c.in_ok-in_order.in_order.ok)) in
    let moved : IsPermutation places c.deref.result.now = subst (λ (w : List Place × List Place). IsPermutation w.0 w.1)
    (λ i. ((c.deref_mut.ensures.value ∙ c.in_ok-in_order.ensures) i, sym back i)) c.sort_places.ensures.permutation in
    let up : IsSortedBy (is_below s.specs.now s.arena.now) c.deref.result.now = subst (IsSortedBy (is_below s.specs.now s.arena.now)) (sym back) c.sort_places.ensures.sorted in
    let is = sorted_in_order c.key_orders_are_total.ensures.keys c.key_orders_are_total.ensures.same_key s.specs.now (c.keys_are_searchable.ensures.order s.specs.now) s.more.now s.arena.now places c.deref.result.now moved up c.requires.each c.requires.apart in
    let may = indexable s.specs.now s.more.now c.key_orders_are_total.ensures.keys c.key_orders_are_total.ensures.same_key (c.keys_are_searchable.ensures.order s.specs.now) s.arena.now places c.deref.result.now moved up c.requires.each c.requires.apart c.requires.columns.some none in
    answer_is s.specs.now s.more.now s.arena.now places c.deref.result.now c.build_sorted.result is none may c.build_sorted.ensures

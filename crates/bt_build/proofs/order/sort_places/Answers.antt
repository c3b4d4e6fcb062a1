use Rattle.std.proofs.Common.{rules, ◌≡◌}
use Rattle.std.specs.Prelude.{Some, length}
use Rattle.std.specs.Ordering.{is_lt}
use Rattle.std.specs.Cmp.{nat_cmp_total, on_total, then_total}
use Rattle.std.proofs.lemmas.Fn.{always_returns_same}
use Rattle.std.proofs.lemmas.List.Sorted.{ranks_by}
use Rattle.laws_search.specs.Keys.{Separator}
use Rattle.key_orders.specs.declared.columns.Value.{Value}
use Rattle.key_orders.specs.declared.Tid.{Tid}
use Rattle.bt_build.specs.declared.entries.Place.{Place}
use Rattle.bt_build.specs.Places.{first_values, is_below, tid_of}
use Rattle.bt_build.proofs.order.sort_places.Goals as goal

pub returns-clause-sorted : goal.returns-clause-sorted
returns-clause-sorted c =
    let specs = c.args.specs.now in
    let arena = c.args.arena.now in
    let key : Place → Separator Value Tid = λ p. record { kept = first_values (length specs) arena p.at; tid = Some (tid_of p) } in
    let total = then_total (on_total (λ (p : Place). p.prefix) nat_cmp_total) (on_total key (c.key_orders_are_total.ensures.keys specs)) in
    c.sort_unstable_by.ensures.sorted (is_below specs arena) (ranks_by total (λ (p : Place). p))
    (always_returns_same _ (λ a r. is_lt r ≡ is_below specs arena a.0.now a.1.0.now) _ (λ a r q k. search rules))

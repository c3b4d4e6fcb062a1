use Rattle.std.proofs.Common.{◌≡◌, ◌↔◌, ◌∙◌, [], subst, sym}
use Rattle.std.specs.Ordering.{ordering_then}
use Rattle.std.specs.declared.cmp.Ordering.{Ordering}
use Rattle.std.specs.declared.cmp.Ordering.TheVariants.{Equal}
use Rattle.key_orders.specs.Keys.{tid_order}
use Rattle.bt_steps.proofs.TidRises.{alone, tids-same}
use Rattle.bt_steps.proofs.leaf.cmp_tids.Goals as goal

pub returns-clause-same : goal.returns-clause-same
returns-clause-same c =
    let order : c.then.result ≡ tid_order c.args.a c.args.b = c.then.ensures ∙ (λ i. ordering_then (c.cmp.ensures i) (c.cmp-2.ensures i)) in
    subst (λ (o : Ordering). (o ≡ Equal) ↔ (c.args.a ≡ c.args.b)) (sym order)
    (tids-same c.args.a c.args.b (c.key_orders_are_total.ensures.same_key [] (alone c.args.a) (alone c.args.b)))

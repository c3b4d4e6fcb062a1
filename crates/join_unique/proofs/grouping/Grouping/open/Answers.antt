use Rattle.std.proofs.Common.{◌∙◌, false, map, sym}
use Rattle.key_orders.specs.Values.{value_shown}
use Rattle.join_unique.specs.Tables.{table_seen}
use Rattle.join_unique.proofs.Steps.{kind-is, opened-new, opened-same}
use Rattle.join_unique.proofs.grouping.Grouping.open.Goals as goal

pub returns-then-has_key-clause-met : goal.returns-then-has_key-clause-met
returns-then-has_key-clause-met g c = λ names told. opened-same (table_seen names c.args.self) c.args.group.now _ (sym c.has_key.ensures ∙ c.if-has_key.true)

pub returns-clause-met : goal.returns-clause-met
returns-clause-met g c = λ names told.
    let key = map value_shown c.args.key.now in
    let m = c.close.new.group in
    c.in_ok-begin.ensures.ok
    ∙ ((λ i. record { key = key; counted = c.counts-counted.ensures i; count = 0; block = m.block; met = record { some = false; later = m.met.later }; looks = m.looks })
    ∙ opened-new (table_seen names c.args.self) c.args.group.now m key c.args.self.unique (sym c.has_key.ensures ∙ c.if-has_key.false) (c.in_ok-close.ensures.met names told) (kind-is names c.args.self))

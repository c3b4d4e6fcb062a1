use Rattle.laws_built_index.proofs.Keys.{HaveOrders}
use Rattle.laws_built_index.proofs.Separated.{may_split, short_pivot}
use Rattle.laws_built_index.proofs.files.separators_may_be_laid.Goals as goal

pub returns : goal.returns
returns c =
    let o = c.key_orders_are_total.ensures in
    let laws : HaveOrders = record { column = o.column; keys = o.keys; order = c.keys_are_searchable.ensures.order; same_key = o.same_key } in
    record {
      splits = λ specs more d e some left right small below. may_split laws specs more d e some left right small below;
      short = λ specs more d e some left right small below. short_pivot laws specs more d e some left right small below;
    }

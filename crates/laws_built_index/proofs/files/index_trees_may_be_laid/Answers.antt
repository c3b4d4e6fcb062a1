use Rattle.laws_built_index.proofs.Keys.{HaveOrders}
use Rattle.laws_built_index.proofs.Levels.{tree_fit}
use Rattle.laws_built_index.proofs.files.index_trees_may_be_laid.Goals as goal

pub returns : goal.returns
returns c specs more es may few =
    let o = c.key_orders_are_total.ensures in
    let laws : HaveOrders = record { column = o.column; keys = o.keys; order = c.keys_are_searchable.ensures.order; same_key = o.same_key } in
    tree_fit laws specs more es may few

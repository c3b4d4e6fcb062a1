use Rattle.laws_building.proofs.Groups.{is_grouped}
use Rattle.laws_built_index.specs.Sizes.{grouping_of}
use Rattle.laws_built_index.proofs.Keys.{HaveOrders}
use Rattle.laws_built_index.proofs.Levels.{each_item, item_facts}
use Rattle.laws_built_index.proofs.files.items_may_be_laid.Goals as goal

pub returns : goal.returns
returns c =
    let o = c.key_orders_are_total.ensures in
    let laws : HaveOrders = record { column = o.column; keys = o.keys; order = c.keys_are_searchable.ensures.order; same_key = o.same_key } in
    record {
      cut = λ specs more es. (is_grouped (grouping_of specs more) es).cut;
      may = λ specs more es may. (item_facts specs more _ (each_item laws specs more es may)).0;
      small = λ specs more es may. (item_facts specs more _ (each_item laws specs more es may)).1;
    }

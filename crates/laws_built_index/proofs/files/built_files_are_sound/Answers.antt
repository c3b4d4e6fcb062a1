use Rattle.laws_built_index.specs.Sizes.{index_tree, items_for, sizes_of}
use Rattle.laws_built_index.proofs.Keys.{HaveOrders}
use Rattle.laws_built_index.proofs.Levels.{sized}
use Rattle.laws_built_index.proofs.Whole.{file_of}
use Rattle.laws_built_index.proofs.files.built_files_are_sound.Goals as goal

pub returns : goal.returns
returns c specs more es blocks block may few same =
    let o = c.key_orders_are_total.ensures in
    let laws : HaveOrders = record { column = o.column; keys = o.keys; order = c.keys_are_searchable.ensures.order; same_key = o.same_key } in
    let bytes = c.built_bytes_mean.ensures in
    let x = index_tree specs more es in
    let fit = c.index_trees_may_be_laid.ensures specs more es may few in
    file_of specs more (sizes_of specs more) (items_for specs more es) es (sized laws specs more es may) blocks block (bytes.image specs more x blocks block fit same) (bytes.entries specs more x blocks block fit same)

use Rattle.std.proofs.Common.{◌≡◌, ◌∙◌, List, ap}
use Rattle.rel_build.specs.declared.rows.Row.{Row}
use Rattle.rel_build.specs.declared.trees.Key.TheVariants.{Group, Id}
use Rattle.rel_build.specs.Files.{built_files, held_with}
use Rattle.rel_build.specs.Rows.{rows_below, table_file}
use Rattle.rel_build.specs.Trees.{in_order, tree_blocks, tree_with}
use Rattle.rel_build.proofs.build.build.Goals as goal

pub returns : goal.returns
unfolding built_files in_order
returns c =
    let rows : List Row = rows_below c.args.seed c.args.count in
    let are = c.in_ok-rows.ensures.rows in
    let table : c.deref-5.result.now ≡ table_file rows =
    c.deref-5.ensures.value ∙ c.in_ok-table.ensures ∙ ap table_file (c.deref.ensures.value ∙ are) in
    let by_id : c.deref-6.result.now ≡ tree_with Id rows =
    c.deref-6.ensures.value ∙ c.in_ok-by_id.ensures ∙ ap (tree_with Id) (c.deref-2.ensures.value ∙ are) in
    let by_group : c.deref-7.result.now ≡ tree_with Group (in_order Group rows) =
    c.deref-7.ensures.value ∙ c.in_ok-by_group.ensures
    ∙ ap (tree_with Group) (c.deref-4.ensures.value ∙ c.in_ok-sort_by_group.ensures.order ∙ ap (in_order Group) are) in
    record {
      files = c.in_ok-files.ensures ∙ (λ i. record { held = held_with (table i) (by_id i) (by_group i); reads = 0 });
      case = c.in_ok-case.ensures;
      heap_blocks = c.pages_for.ensures;
      index_blocks = c.tree_blocks-index_blocks.ensures.blocks ∙ ap (λ (rows : List Row). tree_blocks rows) (c.deref-3.ensures.value ∙ are);
    }

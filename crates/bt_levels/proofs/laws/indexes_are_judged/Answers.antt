use Rattle.rel_files.specs.Blocks.{long_segment_of}
use Rattle.rel_files.specs.Refusals.{index_limit}
use Rattle.laws_search.proofs.Whole.{finds}
use Rattle.laws_levels.proofs.Broken.{silent}
use Rattle.laws_levels.proofs.Searchable.{searchable}
use Rattle.bt_level_check.specs.Trees.{KeepsPages, image_of, order_in, same_in}
use Rattle.bt_levels.specs.Index.{index_of, tree_lists, tree_of}
use Rattle.bt_levels.proofs.LevelLaws.{tree-doubted, tree-doubts, tree-kept, tree-listed, tree-sound}
use Rattle.bt_levels.proofs.Sounds.{same_law}
use Rattle.bt_levels.proofs.laws.indexes_are_judged.Goals as goal

pub returns : goal.returns
unfolding tree_lists
returns c case names n =
    let tree = tree_of case names n in
    let long = long_segment_of names (index_of case n).file case.segment_blocks index_limit in
    let same = same_law tree.specs (c.key_orders_are_total.ensures.same_key tree.specs) in
    let local = λ (keeps : KeepsPages tree). c.kept_rules_make_a_sound_image.ensures tree.specs tree.more tree.blocks tree.block keeps in
    record {
      sound = tree-sound tree long same local;
      doubts = tree-doubts tree long;
      listed = tree-listed tree long same local;
      doubted = tree-doubted tree long;
      kept = λ empty.
          let kept = tree-kept tree long same local empty in
          let sound = local kept.0 in
          let fit = searchable (same_in tree) (order_in tree) (image_of tree) same sound (silent (same_in tree) (order_in tree) (image_of tree) same sound kept.1) in
          record { pages = kept.0; levels = kept.1; searches = finds (order_in tree) (image_of tree) (c.keys_are_searchable.ensures.order tree.specs) fit };
    }

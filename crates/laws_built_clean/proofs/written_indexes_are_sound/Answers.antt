use Rattle.std.proofs.Common.{◌≤◌, ◌<◌, ◌∙◌, ℕ, List, arith}
use Rattle.outside.specs.Outside.{Names}
use Rattle.case_file.specs.Record.{CaseRecord}
use Rattle.rel_files.specs.Refusals.{index_limit}
use Rattle.bt_image.specs.Image.{LeafEntry}
use Rattle.bt_levels.specs.Index.{index_of, tree_of}
use Rattle.bt_build.specs.Order.{in_order}
use Rattle.bt_build.specs.Outcome.{index_bytes, tree_for}
use Rattle.laws_built_index.specs.Files.{AreBlocksOf}
use Rattle.laws_built_index.specs.Trees.{IsTreeFit}
use Rattle.laws_built_clean.specs.Written.{IsWritten, listed_for}
use Rattle.laws_built_clean.proofs.Bytes.{block_at}
use Rattle.laws_built_clean.proofs.Segments.{count_held, held_block, none_long}
use Rattle.laws_built_clean.proofs.written_indexes_are_sound.Goals as goal

-- the blocks that the files hold
blocks_are : (case : CaseRecord) (names : Names) (n : ℕ) (es : List LeafEntry) → 1 ≤ case.segment_blocks → IsWritten case names n es
    → IsTreeFit (index_of case n).keys (index_of case n).more (tree_for (listed_for case n es))
    → AreBlocksOf (index_of case n).keys (index_of case n).more (tree_for (listed_for case n es)) (tree_of case names n).blocks (tree_of case names n).block
blocks_are case names n es some is fit =
    let x = tree_for (listed_for case n es) in
    let file = (index_of case n).file in
    let bytes = index_bytes (listed_for case n es) in
    let count = count_held names file case.segment_blocks x.blocks bytes some is.held index_limit (let few = is.few in omega (arith, few)) in
    record {
      count = count;
      each = λ b lt.
          let within : b < x.blocks = omega (arith, lt, count) in
          held_block names file case.segment_blocks x.blocks bytes some is.held b within
          ∙ block_at (index_of case n).keys (index_of case n).more x fit x.blocks b (omega arith) within;
    }

pub returns : goal.returns
returns c = record {
  quiet = λ case names n es some is.
      let few = is.few in
      let es_sorted = in_order (index_of case n).keys es in
      let fit = c.index_trees_may_be_laid.ensures (index_of case n).keys (index_of case n).more es_sorted is.indexable (omega (arith, few)) in
      c.built_indexes_are_quiet.ensures case names n es_sorted is.indexable (omega (arith, few)) (blocks_are case names n es some is fit)
      (none_long names (index_of case n).file case.segment_blocks (tree_for (listed_for case n es)).blocks (index_bytes (listed_for case n es)) some is.held index_limit (omega (arith, few)));
  file = λ case names n es some is.
      let few = is.few in
      let es_sorted = in_order (index_of case n).keys es in
      let fit = c.index_trees_may_be_laid.ensures (index_of case n).keys (index_of case n).more es_sorted is.indexable (omega (arith, few)) in
      c.built_files_are_sound.ensures (index_of case n).keys (index_of case n).more es_sorted (tree_of case names n).blocks (tree_of case names n).block is.indexable (omega (arith, few))
      (blocks_are case names n es some is fit);
}

use Rattle.std.proofs.Common.{◌∙◌, ◌≤◌, ◌<◌, arith}
use Rattle.rel_files.specs.Relation.{count_of}
use Rattle.vis_map.specs.Bits.{map_page_of}
use Rattle.heap_table_check.proofs.MapRules.{no_page, page_says}
use Rattle.heap_table_check.proofs.map.MapPage.bits_of.Goals as goal

pub returns-then-blocks-block-clause-told : goal.returns-then-blocks-block-clause-told
returns-then-blocks-block-clause-told g c names told =
    let most : count_of c.in-Some.map.now ≤ map_page_of c.args.heap_block = omega (arith, c.if-blocks-block.true, c.blocks-2.ensures, c.map_page_of-block.ensures) in
    rw c.in-Some.is (no_page names _ _ _ _ most)

pub take-requires-clause-hand : goal.take-requires-clause-hand
take-requires-clause-hand g c names told = rw c.in-Some.is at (c.requires.hand names told)

pub returns-clause-told : goal.returns-clause-told
returns-clause-told g c names told =
    let inside : c.map_page_of-block.result < count_of c.in-Some.map.now = omega (arith, c.if-blocks-block.false, c.blocks-2.ensures) in
    rw c.in-Some.is (c.bits.ensures ∙ page_says names _ _ _ _ _ _ c.map_page_of-block.ensures inside (c.in_ok-take.ensures.bytes names told))

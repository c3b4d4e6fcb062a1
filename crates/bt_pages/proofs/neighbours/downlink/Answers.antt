use Rattle.std.proofs.Common.{◌+◌, ◌≤◌, arith}
use Rattle.page_layout.specs.Page.{upper_of}
use Rattle.page_layout.specs.View.{page_bytes}
use Rattle.bt_pages.proofs.Placed.{placed-within}
use Rattle.bt_pages.proofs.neighbours.downlink.Goals as goal

pub piece-requires : goal.piece-requires
piece-requires c =
    let h = placed-within (upper_of (page_bytes c.args.page)) _ c.requires.placed in
    let within : c.item-item.result.off + c.item-item.result.len ≤ 8176 = rw c.item-item.ensures.value h.within in
    omega arith

pub tree_head-head-requires : goal.tree_head-head-requires
tree_head-head-requires c =
    let h = placed-within (upper_of (page_bytes c.args.page)) _ c.requires.placed in
    let long : 8 ≤ c.item-item.result.len = rw c.item-item.ensures.value h.long in
    omega (arith, c.piece.ensures.length)

use Rattle.std.proofs.Common.{ap, arith, length}
use Rattle.page_write.proofs.Laying.{room-none}
use Rattle.bt_build.proofs.paging.begin_page.Goals as goal

pub add-requires : goal.add-requires
add-requires c =
    let long = ap length c.deref.ensures.value in
    let none = room-none in
    omega (arith, long, none, c.in_ok-put_separator.ensures.short, c.tree-page.ensures.lower, c.tree-page.ensures.upper)

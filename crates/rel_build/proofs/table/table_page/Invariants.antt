use Rattle.std.proofs.Common.{◌≡◌, ◌+◌, ◌*◌, map, take}
use Rattle.rel_build.specs.Rows.{row_tuple}
use Rattle.page_write.specs.Writing.{HoldsItems, free_bytes}
use Rattle.rel_build.proofs.table.table_page.Given as goal

abbrev pub invariant-loop-row : goal.invariant-loop-row
invariant-loop-row l =
    HoldsItems l.page 8192 (map row_tuple (take l.row-index l.rows)) × (free_bytes l.page + 44 * l.row-index ≡ 8168)

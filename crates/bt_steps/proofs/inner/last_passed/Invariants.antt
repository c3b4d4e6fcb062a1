use Rattle.std.proofs.Common.{◌≡◌, ◌+◌, ◌-◌, ◌<◌, ◌≤◌, true, false}
use Rattle.page_layout.specs.Page.{count_of}
use Rattle.page_layout.specs.View.{page_bytes}
use Rattle.key_attrs.specs.Columns.{tree_columns}
use Rattle.bt_meta.specs.Flags.{is_half_dead}
use Rattle.bt_meta.specs.Pages.{opaque_of}
use Rattle.bt_image.specs.Image.{first_data}
use Rattle.bt_steps.specs.Pages.{IsReadable}
use Rattle.bt_steps.specs.Ways.{is_passed}
use Rattle.bt_steps.proofs.inner.last_passed.Given as goal

-- the scan goes right of the lower item, or it is the first, and not of the higher one, or it is past the last
abbrev pub invariant-loop-high : goal.invariant-loop-high
invariant-loop-high g l = record {
  from : first_data (page_bytes l.page) ≤ l.low;
  less : l.low < l.high;
  to : l.high ≤ count_of (page_bytes l.page) + 1;
  passed : IsReadable (tree_columns l.columns) (page_bytes l.page) → is_half_dead (opaque_of (page_bytes l.page)) ≡ false → first_data (page_bytes l.page) < l.low → is_passed (tree_columns l.columns) (g.W.Way.goes l.way l.columns.specs.now) (page_bytes l.page) l.low ≡ true;
  stopped : IsReadable (tree_columns l.columns) (page_bytes l.page) → is_half_dead (opaque_of (page_bytes l.page)) ≡ false → l.high ≤ count_of (page_bytes l.page) → is_passed (tree_columns l.columns) (g.W.Way.goes l.way l.columns.specs.now) (page_bytes l.page) l.high ≡ false;
}

abbrev pub decreases-loop-high : goal.decreases-loop-high
decreases-loop-high g l = l.high - l.low

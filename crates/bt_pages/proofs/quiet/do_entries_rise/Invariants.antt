use Rattle.std.proofs.Common.{◌-◌}
use Rattle.page_layout.specs.View.{page_bytes}
use Rattle.bt_tuples.specs.Plain.{IsPlainEntry}
use Rattle.bt_pages.specs.Passes.{RiseTo}
use Rattle.bt_pages.proofs.quiet.do_entries_rise.Given as goal

-- the items so far rise if those before the first do, and the number is that of the last
abbrev pub invariant-loop-k : goal.invariant-loop-k
invariant-loop-k l = record {
  rise : RiseTo l.columns.specs.now l.columns.more.now (page_bytes l.page) (l.first - 1) → RiseTo l.columns.specs.now l.columns.more.now (page_bytes l.page) l.k;
  entry : IsPlainEntry l.columns.specs.now l.columns.more.now (page_bytes l.page) l.k l.last;
}

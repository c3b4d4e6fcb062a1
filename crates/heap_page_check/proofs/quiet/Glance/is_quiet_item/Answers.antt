use Rattle.page_layout.specs.View.{page_bytes}
use Rattle.heap_page_check.specs.Table.{table_seen}
use Rattle.heap_page_check.proofs.QuietLaws.{quiet_unused}
use Rattle.heap_page_check.proofs.quiet.Glance.is_quiet_item.Goals as goal

pub returns-in-Unused-clause-quiet : goal.returns-in-Unused-clause-quiet
returns-in-Unused-clause-quiet c = λ names.
    quiet_unused (table_seen names c.args.self.table.now) c.args.self.all_frozen (page_bytes c.args.self.page) c.args.i c.item-item.result c.item-item.ensures.value c.in-Unused.is

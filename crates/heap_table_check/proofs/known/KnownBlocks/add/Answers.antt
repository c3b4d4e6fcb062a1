use Rattle.page_layout.specs.View.{page_bytes}
use Rattle.heap_table_check.proofs.KnownLaws.{added, grown, passed}
use Rattle.heap_table_check.proofs.known.KnownBlocks.add.Goals as goal

pub returns-in_ok-add_page : goal.returns-in_ok-add_page
returns-in_ok-add_page c = λ table pages n is plain before.
    added table pages n _ _ c.args.plain c.in_ok-push.ensures.items plain before
    (grown pages n (page_bytes c.args.page) c.args.self.now.targets c.add_page.new.self is (c.set_tells_of_pages.ensures.grows pages n) c.in_ok-add_page.ensures.ok before.targets)

pub returns-else-is_none : goal.returns-else-is_none
returns-else-is_none c = λ table pages n is plain before.
    added table pages n _ _ c.args.plain c.in_ok-push.ensures.items plain before
    (passed pages n (page_bytes c.args.page) c.page_rule.result c.args.self.now.targets is c.page_rule.ensures.value c.if-is_none.ensures)

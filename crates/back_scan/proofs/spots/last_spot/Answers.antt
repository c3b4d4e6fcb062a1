use Rattle.std.proofs.Common.{ℕ, subst}
use Rattle.page_layout.specs.View.{page_bytes}
use Rattle.back_scan.specs.Leaves.{IsLastIfRead}
use Rattle.back_scan.proofs.spots.last_spot.Goals as goal

pub returns-clause-last : goal.returns-clause-last
returns-clause-last c = λ laid alive columns.
    subst (λ (n : ℕ). IsLastIfRead columns (page_bytes c.args.page) n c.last_upto.result) c.item_count.ensures.value (c.last_upto.ensures.last columns)

use Rattle.key_orders.specs.Scans.{order_of}
use Rattle.bt_steps.specs.Pages.{is_killed}
use Rattle.bt_scan_lines.proofs.Matching.{there_wanted, wanted_rises, wanted_there}
use Rattle.bt_scan_lines.proofs.Sorting.{wanted_is}
use Rattle.bt_scan_lines.proofs.laws.wanted_entries_are_those_that_match.Goals as goal

pub returns : goal.returns
returns c =
    let total = c.key_orders_are_total.ensures in
    let order = c.keys_are_searchable.ensures.order in
    record {
      members = λ specs x scan e. (
        wanted_there specs (total.keys specs) (total.same_key specs) (order specs) x scan e,
        there_wanted specs (total.keys specs) (total.same_key specs) (order specs) x scan e,
      );
      rising = λ specs x scan. wanted_rises specs (total.keys specs) (total.same_key specs) (order specs) x scan;
      only = λ specs x scan es wanted. wanted_is (order_of specs) (order specs) is_killed x scan es wanted;
    }

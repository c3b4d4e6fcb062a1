-- What is listed of rows by the numbers of their TIDs.
use Rattle.std.specs.Prelude.{ℕ, ◌/◌, ◌%◌, List, Some}
use Rattle.page_layout.specs.declared.rules.Rule.TheVariants.{X3}
use Rattle.key_orders.specs.declared.Tid.{Tid}
use Rattle.reports.specs.Added.{finding_at, report_lists}
use Rattle.reports.specs.Lists.{Lists}
use Rattle.reports.specs.declared.places.Place.TheVariants.{Tuple}
use Rattle.join_rules.specs.Lists.{of_each}

-- the TID of a number
abbrev pub tid_at : ℕ → Tid
tid_at n = record { block = n / 65536; item = n % 65536 }

-- X3 for each
abbrev pub later_list : (number : ℕ) → ℕ → Lists
later_list number n = finding_at (Tuple number (tid_at n)) (Some X3)

unfoldable pub later_lists : (number : ℕ) → List ℕ → Lists
later_lists number ns = of_each report_lists (later_list number) ns

-- The laws of the crates below on which a report rests.
use Rattle.std.specs.Prelude.{◌≡◌, ◌↔◌, ℕ, List}
use Rattle.std.specs.declared.cmp.Ordering.TheVariants.{Equal}
use Rattle.outside.specs.Outside.{Names}
use Rattle.laws_search.specs.Keys.{Entry, Separator, compare_keys}
use Rattle.laws_search.specs.Order.{IsScan, Scan}
use Rattle.laws_search.specs.Search.{IsWanted}
use Rattle.key_orders.specs.Keys.{columns_of, tid_order}
use Rattle.key_orders.specs.Scans.{Bounds, order_of, scan_of}
use Rattle.key_orders.specs.declared.Tid.{Tid}
use Rattle.key_orders.specs.declared.columns.KeySpec.{KeySpec}
use Rattle.key_orders.specs.declared.columns.Value.{Value}
use Rattle.case_file.specs.Record.{CaseRecord}
use Rattle.case_file.specs.Sound.{IsSound}
use Rattle.heap_table_check.specs.Found.{IsQuiet}
use Rattle.heap_rows.specs.RowLaws.{AreLiveTuples}
use Rattle.heap_rows.specs.Rows.{rows_of}
use Rattle.bt_image.specs.Image.{TreeIndex}
use Rattle.bt_levels.specs.Broken.{IsJudged as IsTreeJudged}
use Rattle.bt_scan_lines.specs.Wanted.{wanted_entries}
use Rattle.bt_steps.specs.Pages.{is_killed}
use Rattle.join_rules.specs.Broken.{IsJudged as IsJoinJudged}

pub record AreLaws : Type 0 where
  -- the lists of an index by itself, and those of it beside the heap, tell what is broken and what is in doubt
  pub trees : (case : CaseRecord) (names : Names) (n : ℕ) → IsTreeJudged case names n
  pub joins : (case : CaseRecord) (names : Names) (n : ℕ) → IsJoinJudged case names n
  -- the rows of a heap of which nothing is found are its live tuples
  pub rows : (case : CaseRecord) (names : Names) → IsSound case → IsQuiet case names
      → AreLiveTuples case names (rows_of case names)
  -- two bounds make a scan
  pub scans : (specs : List KeySpec) (bounds : Bounds) → IsScan (order_of specs) (scan_of specs bounds)
  -- what a scan is to find of an index, each once and in order, is the list of the entries that it wants
  pub wanted : (specs : List KeySpec) (x : TreeIndex) (scan : Scan (Separator Value Tid) (Entry Value Tid))
      (es : List (Entry Value Tid)) → IsWanted (order_of specs) is_killed x scan es
      → wanted_entries (order_of specs) is_killed x scan ≡ es
  -- only equal keys compare as equal
  pub same : (specs : List KeySpec) (s t : Separator Value Tid)
      → (compare_keys (columns_of specs) tid_order s t ≡ Equal) ↔ (s ≡ t)

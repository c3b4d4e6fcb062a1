-- What a search from the high bound down goes by.
use Rattle.std.specs.Prelude.{List}
use Rattle.laws_search.specs.Keys.{reaches_beyond}
use Rattle.key_orders.specs.declared.columns.KeySpec.{KeySpec}
use Rattle.key_orders.specs.Keys.{columns_of}
use Rattle.key_orders.specs.Scans.{Bounds}
use Rattle.bt_steps.specs.Ways.{Goes}

-- the separators that a scan reaches beyond
abbrev pub reach_goes : List KeySpec → Bounds → Goes
reach_goes specs bounds s = reaches_beyond (columns_of specs) bounds.high.values bounds.high.inclusive s.kept

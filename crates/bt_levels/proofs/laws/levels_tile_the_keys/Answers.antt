use Rattle.std.proofs.Common.{◌∙◌}
use Rattle.key_orders.specs.Scans.{order_of}
use Rattle.laws_search.proofs.Tiles.{level_tiles}
use Rattle.bt_levels.specs.Sound.{image_of, specs_of}
use Rattle.bt_levels.proofs.laws.levels_tile_the_keys.Goals as goal

pub returns : goal.returns
returns c names sound holds some n within =
    let fit = c.sound_trees_are_searchable.ensures names sound holds in
    level_tiles (order_of (specs_of sound)) (image_of names sound) fit (λ none. some (holds.fastroot ∙ fit.root_or_empty.0 none)) n within

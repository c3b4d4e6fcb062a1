use Rattle.key_orders.specs.Scans.{order_of}
use Rattle.bt_levels.specs.Sound.{fastlevel_of, fastroot_of, half_dead_of, image_of, right_halves_of, specs_of}
use Rattle.bt_search.proofs.Ways.{way-short}
use Rattle.bt_search.proofs.look_up.ways_are_short.Goals as goal

pub returns : goal.returns
returns c names sound holds =
    way-short (image_of names sound) (order_of (specs_of sound)) (fastroot_of sound) (fastlevel_of sound) (right_halves_of sound) (half_dead_of sound)
    (c.sound_trees_are_searchable.ensures names sound holds) holds.fastroot holds.fastlevel holds.right_halves

use Rattle.key_orders.specs.Keys.{columns_of, tid_order}
use Rattle.key_orders.specs.Scans.{order_of}
use Rattle.laws_levels.specs.Same.{same_keys}
use Rattle.laws_levels.proofs.Broken.{silent}
use Rattle.laws_levels.proofs.Searchable.{searchable}
use Rattle.bt_levels.specs.Sound.{block_count, held_block, image_of, specs_of}
use Rattle.bt_levels.proofs.Sounds.{same_law}
use Rattle.bt_levels.proofs.laws.sound_trees_are_searchable.Goals as goal

pub returns : goal.returns
returns c names sound holds =
    let specs = specs_of sound in
    let x = image_of names sound in
    let order = order_of specs in
    let local = c.kept_rules_make_a_sound_image.ensures specs _ (block_count sound) (held_block names sound) holds.pages in
    let law = same_law specs (c.key_orders_are_total.ensures.same_key specs) in
    searchable (same_keys (columns_of specs) tid_order) order x law local (silent (same_keys (columns_of specs) tid_order) order x law local holds.levels)

use Rattle.bt_levels.specs.Sound.{specs_of}
use Rattle.join_distinct.proofs.ByValues.{no-equal}
use Rattle.join_distinct.proofs.laws.apart_leaves_have_no_equal_keys.Goals as goal

pub returns : goal.returns
returns c names sound holds apart =
    no-equal names sound (c.key_orders_are_total.ensures.same_key (specs_of sound)) (c.sound_trees_are_searchable.ensures names sound holds) apart

use Rattle.std.proofs.Common.{◌≡◌, Bool, true, [], sym, subst}
use Rattle.std.specs.Prelude.{Contains, cond, if◌then◌else◌, not, ◌&&◌}
use Rattle.std.proofs.lemmas.Bool.{and_from, not_from_false}
use Rattle.laws_search.specs.Search.{leaf_entries, tree_blocks}
use Rattle.laws_search.proofs.Gather.{block_in}
use Rattle.laws_search.proofs.Unique.{Contains-from_In}
use Rattle.bt_meta.specs.Flags.{is_half_dead, is_leaf}
use Rattle.bt_meta.specs.Pages.{is_idle, opaque_of}
use Rattle.bt_image.specs.Image.{data_items, item_at, keys_in, page_keys}
use Rattle.bt_levels.specs.Sound.{held_block, image_of, index_columns}
use Rattle.bt_steps.specs.Entries.{keys_at}
use Rattle.bt_steps.proofs.Members.{in-data_items, in-flat_map, in-place}
use Rattle.bt_search.proofs.look_up.spots_are_of_entries.Goals as goal

pub returns : goal.returns
unfolding keys_at
returns c names sound key tid at holds s =
    let columns = index_columns sound in
    let page = held_block names sound at.block in
    let x = image_of names sound in
    let t = s.there in
    let leaf = is_leaf (opaque_of page) in
    let half = is_half_dead (opaque_of page) in
    let of-item : Contains (keys_in (item_at columns.specs columns.more page at.item)) t.entry = in-place (keys_in (item_at columns.specs columns.more page at.item)) at.nth t.entry t.is in
    let of-page : Contains (page_keys columns.specs columns.more page) t.entry =
    in-flat_map (λ i. keys_in (item_at columns.specs columns.more page i)) (data_items page) at.item t.entry (in-data_items page at.item t.from t.last) of-item in
    let read : (leaf && not half) ≡ true = and_from leaf (not half) s.leaf (not_from_false _ s.alive) in
    let used : (leaf && (not (is_idle page) && not half)) ≡ true =
    and_from leaf _ s.leaf (and_from (not (is_idle page)) (not half) (not_from_false _ s.used) (not_from_false _ s.alive)) in
    let of-image : Contains (x.page at.block).entries t.entry =
    subst (λ (b : Bool). Contains (if b then page_keys columns.specs columns.more page else []) t.entry) (sym read) of-page in
    let of-leaf : Contains (leaf_entries (x.page at.block)) t.entry =
    subst (λ (b : Bool). Contains (cond b (x.page at.block).entries []) t.entry) (sym used) of-image in
    record {
      entry = t.entry;
      among =
          in-flat_map (λ b. leaf_entries (x.page b)) (tree_blocks x.blocks) at.block t.entry
          (Contains-from_In (tree_blocks x.blocks) at.block (block_in x.blocks at.block s.not_meta s.inside)) of-leaf;
      sought = t.sought;
      alive = t.alive;
    }

-- The file of given entries.
use Rattle.std.proofs.Common.{◌≡◌, ◌<◌, ℕ, List, map, refl, ◌∙◌, subst}
use Rattle.laws_search.specs.Tree.{Index}
use Rattle.laws_search.specs.Search.{entries_of}
use Rattle.laws_search.specs.Keys.{Separator}
use Rattle.laws_levels.proofs.Broken.{breaks_none}
use Rattle.laws_levels.proofs.Items.{items_above}
use Rattle.laws_levels.proofs.Kept.{all_unbroken}
use Rattle.key_orders.specs.declared.columns.KeySpec.{KeySpec}
use Rattle.key_orders.specs.declared.columns.Value.{Value}
use Rattle.key_orders.specs.declared.more.MoreSpec.{MoreSpec}
use Rattle.key_orders.specs.declared.Tid.{Tid}
use Rattle.key_orders.specs.Scans.{order_of}
use Rattle.bt_image.specs.Image.{LeafEntry, index_entries, index_image}
use Rattle.laws_building.specs.Built.{IsLaidAs, built}
use Rattle.laws_building.specs.Cuts.{fill_pages, joined}
use Rattle.laws_building.specs.Fresh.{IsGiven}
use Rattle.laws_building.specs.Seen.{index_seen, order_by, splitter_by}
use Rattle.laws_building.specs.Sized.{IsSizedBy, Sizes, internal_pages, leaf_pages}
use Rattle.laws_building.proofs.Image.{entries, finds_among, fresh, searchable, sound_pages}
use Rattle.laws_building.proofs.Items.{joined_as_built, pages_have_entries}
use Rattle.laws_building.proofs.Mapped.{given_back, mapped_as_built}
use Rattle.laws_building.proofs.Sized.{sized_by_cut, sized_by_given}
use Rattle.laws_built_index.specs.Trees.{keys_of}
use Rattle.laws_built_index.specs.Files.{IsFileOf}
use Rattle.laws_built_index.specs.Sizes.{entry_in, splitter_of, tree_of}

laid_self : {S E : Type 0} (x : Index S E) → IsLaidAs x x
laid_self x = record { blocks = refl; root = refl; level = refl; fastroot = refl; fastlevel = refl; page = λ b some inside. refl }

laid_then : {S E : Type 0} (x y z : Index S E) → IsLaidAs x y → IsLaidAs y z → IsLaidAs x z
laid_then x y z h g = record {
  blocks = h.blocks ∙ g.blocks;
  root = h.root ∙ g.root;
  level = h.level ∙ g.level;
  fastroot = h.fastroot ∙ g.fastroot;
  fastlevel = h.fastlevel ∙ g.fastlevel;
  page = λ b some inside. h.page b some inside ∙ g.page b some (subst (λ n. b < n) h.blocks inside);
}

module _ (specs : List KeySpec) (more : List MoreSpec) (z : Sizes (Separator Value Tid) LeafEntry) (items : List (List LeafEntry)) (es : List LeafEntry) (sized : IsSizedBy entry_in (order_of specs) (splitter_of specs) z items es)
    (blocks : ℕ) (block : ℕ → List ℕ) (image : IsLaidAs (index_image specs more blocks block) (index_seen keys_of (tree_of specs z items)))
    (gathered : index_entries specs more blocks block ≡ entries_of (index_seen joined (tree_of specs z items))) where
  abbrev pages : List (List (List LeafEntry))
  pages = fill_pages z.item_size z.item_size z.budget items

  joined_laid : IsLaidAs (index_seen joined (tree_of specs z items)) (built (splitter_by entry_in (splitter_of specs)) (internal_pages z) (leaf_pages z items))
  joined_laid = joined_as_built (splitter_by entry_in (splitter_of specs)) (internal_pages z) pages (tree_of specs z items) (pages_have_entries z.item_size z.budget items sized.items_cut.filled) (laid_self (tree_of specs z items))

  keys_laid : IsLaidAs (index_image specs more blocks block) (built (splitter_of specs) (internal_pages z) (map (map entry_in) (leaf_pages z items)))
  keys_laid = laid_then (index_image specs more blocks block) (index_seen keys_of (tree_of specs z items)) (built (splitter_of specs) (internal_pages z) (map (map entry_in) (leaf_pages z items))) image
      (mapped_as_built entry_in (splitter_of specs) (internal_pages z) (leaf_pages z items) (index_seen joined (tree_of specs z items)) joined_laid)

  given : IsGiven (order_of specs) (splitter_of specs) (internal_pages z) (map (map entry_in) (leaf_pages z items)) (map entry_in es)
  given = sized_by_given entry_in (order_of specs) (splitter_of specs) z items es sized

  pub file_of : IsFileOf specs more blocks block es
  file_of =
      let o = order_of specs in
      let k = splitter_of specs in
      let cut = internal_pages z in
      let leaves = map (map entry_in) (leaf_pages z items) in
      let x = index_image specs more blocks block in
      let fit = searchable o k cut x leaves (map entry_in es) given keys_laid in
      record {
        searchable = fit;
        sound_pages = sound_pages o k cut x leaves (map entry_in es) given keys_laid;
        rules = breaks_none o x (all_unbroken o x fit (items_above o given.order.under_chained x fit));
        fresh = fresh o k cut x leaves (map entry_in es) given keys_laid;
        entries =
            gathered
            ∙ entries (order_by entry_in o) (splitter_by entry_in k) cut (index_seen joined (tree_of specs z items)) (leaf_pages z items) es
            (given_back entry_in o k cut (leaf_pages z items) es given (sized_by_cut entry_in o k z items es sized)) joined_laid;
        found = finds_among o k cut x leaves (map entry_in es) given keys_laid;
      }

-- The entries of the image, block by block.
use Rattle.std.proofs.Common.{◌≡◌, ℕ, Bool, true, false, cond, List, [], ◌∷◌, ◌++◌, map, refl, sym, ◌∙◌}
use Rattle.std.specs.Prelude.{not, ◌&&◌}
use Rattle.std.specs.List.{flat_map}
use Rattle.std.proofs.lemmas.List.{map-append}
use Rattle.laws_search.specs.Keys.{Entry}
use Rattle.laws_search.specs.Search.{tree_blocks, entries_of}
use Rattle.key_orders.specs.declared.columns.KeySpec.{KeySpec}
use Rattle.key_orders.specs.declared.columns.Value.{Value}
use Rattle.key_orders.specs.declared.more.MoreSpec.{MoreSpec}
use Rattle.key_orders.specs.declared.Tid.{Tid}
use Rattle.bt_meta.specs.Flags.{is_half_dead, is_leaf}
use Rattle.bt_meta.specs.Pages.{is_idle, opaque_of}
use Rattle.bt_image.specs.Image.{LeafEntry, entries_in, index_entries, index_image, item_at, keys_in, leaf_entries_with_more, page_entries, page_keys, data_items}

-- a map of lists that are joined
flat_same : (f : ℕ → List LeafEntry) (g : ℕ → List (Entry Value Tid)) (xs : List ℕ) → ((x : ℕ) → g x ≡ map (λ e. e.entry) (f x)) → flat_map g xs ≡ map (λ e. e.entry) (flat_map f xs)
flat_same f g [] h = refl
flat_same f g (x ∷ xs) h = (λ i. h x i ++ flat_same f g xs h i) ∙ sym (map-append (λ e. e.entry) (f x) (flat_map f xs))

by_flags : (leaf idle dead : Bool) (keys : List (Entry Value Tid)) (entries : List LeafEntry) → keys ≡ map (λ e. e.entry) entries → cond (leaf && (not idle && not dead)) (cond (leaf && not dead) keys []) [] ≡ map (λ e. e.entry) (cond (leaf && (not idle && not dead)) entries [])
by_flags false idle dead keys entries e = refl
by_flags true true dead keys entries e = refl
by_flags true false true keys entries e = refl
by_flags true false false keys entries e = e

pub gathered : (specs : List KeySpec) (more : List MoreSpec) (blocks : ℕ) (block : ℕ → List ℕ) → entries_of (index_image specs more blocks block) ≡ map (λ e. e.entry) (index_entries specs more blocks block)
gathered specs more blocks block =
    flat_same (λ b. leaf_entries_with_more specs more (block b)) _ (tree_blocks blocks)
    (λ b. by_flags (is_leaf (opaque_of (block b))) (is_idle (block b)) (is_half_dead (opaque_of (block b))) (page_keys specs more (block b)) (page_entries specs more (block b))
    (flat_same (λ i. entries_in (item_at specs more (block b) i)) (λ i. keys_in (item_at specs more (block b) i)) (data_items (block b)) (λ i. refl)))

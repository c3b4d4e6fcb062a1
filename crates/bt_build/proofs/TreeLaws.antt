-- The pages that are laid are the blocks of the tree.
use Rattle.std.proofs.Common.{◌≡◌, ◌≤◌, ◌<◌, ◌+◌, ◌-◌, ◌∙◌, ℕ, zero, suc, false, List, [], ◌∷◌, ◌++◌, length, map, take, refl, sym, ap, subst, arith, append-nil, append_assoc}
use Rattle.std.specs.Prelude.{None, ◌==◌}
use Rattle.std.specs.List.{AllByRecursion, flat_map}
use Rattle.std.proofs.lemmas.Bool.{cond-false, ne_eqb}
use Rattle.std.proofs.lemmas.List.{length-append}
use Rattle.laws_search.specs.Tree.{Page}
use Rattle.key_orders.specs.declared.columns.KeySpec.{KeySpec}
use Rattle.key_orders.specs.declared.more.MoreSpec.{MoreSpec}
use Rattle.bt_image.specs.Image.{LeafEntry}
use Rattle.page_write.specs.Pages.{meta_page}
use Rattle.laws_building.specs.Built.{block_after, built_levels, lay_level, lay_levels, leaf_sheets, levels_from, no_page, page_at}
use Rattle.laws_building.specs.Cuts.{fill_pages}
use Rattle.laws_building.specs.Sized.{internal_pages}
use Rattle.laws_building.proofs.Tower.{block_after_is, length-lay}
use Rattle.laws_built_index.specs.Items.{leaf_item}
use Rattle.laws_built_index.specs.Sizes.{index_tree, items_for, sizes_of}
use Rattle.laws_built_index.specs.Trees.{IsPageFit, IsTreeFit, ItemPage, ItemTree, meta_in, page_bytes}
use Rattle.bt_build.specs.declared.groups.Item.{Item}
use Rattle.bt_build.specs.declared.levels.Level.{Level}
use Rattle.bt_build.specs.Groups.{AreItems, Follow, IsItem, entries_in}
use Rattle.bt_build.specs.Laid.{levels_bytes}
use Rattle.bt_build.specs.Levels.{AreAbove, AreLevels, BeginAt, IsLeafLevel, ItemSheet, inner_by, items_split, leaves_by, sheets_above, sheets_of, sizes_in}
use Rattle.bt_build.specs.Outcome.{blocks_below, meta_for}
use Rattle.bt_build.specs.Pages.{cut_by, page_counts}
use Rattle.bt_build.specs.Separators.{split_before}
use Rattle.bt_build.proofs.CountLaws.{pages_are}
use Rattle.bt_build.proofs.LevelLaws.{IsLowerOf, above_begin, begin_length, fewer_levels, leaves_are, leaves_begin, tower_is}

module _ (specs : List KeySpec) (ms : List MoreSpec) (es : List LeafEntry) where
  -- The leaves

  sizes_are : (items : List Item) → AllByRecursion (IsItem specs ms es) items → map (sizes_of specs ms).item_size (map (entries_in es) items) ≡ sizes_in items
  sizes_are [] each = refl
  sizes_are (item ∷ items) each =
      let one : 4 + length (leaf_item specs ms (entries_in es item)) ≡ item.size + 4 = omega (arith, each.0.size) in
      λ i. one i ∷ sizes_are items each.1 i

  abbrev pub pages : List (List (List LeafEntry))
  pages = fill_pages (sizes_of specs ms).item_size (sizes_of specs ms).item_size 5436 (items_for specs ms es)

  module _ (items : List Item) (are : AreItems specs ms es items) where
    pages_by : pages ≡ cut_by (page_counts None 5436 (sizes_in items)) (map (entries_in es) items)
    pages_by =
        ap (fill_pages (sizes_of specs ms).item_size (sizes_of specs ms).item_size 5436) (sym are.are)
        ∙ pages_are None (sizes_of specs ms).item_size 5436 (map (entries_in es) items)
        ∙ ap (λ (w : List ℕ). cut_by (page_counts None 5436 w) (map (entries_in es) items)) (sizes_are items are.each)

    first_lower_is : IsLowerOf specs ms es None items
    first_lower_is = by_items items are.follow
      where
        by_items : (items : List Item) → Follow 0 items (length es) → IsLowerOf specs ms es None items
        by_items [] follow = tt
        by_items (item ∷ items) follow = sym (ap (split_before specs es) follow.0)

    module _ (leaf : Level) (is : IsLeafLevel items leaf) where
      abbrev leaf_pages : List ItemSheet
      leaf_pages = leaves_by specs es leaf.counts.items items

      pub leaf_begin : BeginAt specs es leaf_pages leaf.bounds.items
      leaf_begin = subst (BeginAt specs es leaf_pages) (sym is.bounds) (leaves_begin specs ms es leaf.counts.items items is.pages)

      leaves : leaf_sheets (items_split specs) pages None ≡ leaf_pages
      leaves =
          ap (λ (w : List (List (List LeafEntry))). leaf_sheets (items_split specs) w None) (pages_by ∙ ap (λ (c : List ℕ). cut_by c (map (entries_in es) items)) (sym is.counts))
          ∙ leaves_are specs ms es leaf.counts.items items 0 (length es) None is.pages are.each are.follow first_lower_is

      pub many : length leaf_pages ≡ length leaf.bounds.items
      many = begin_length specs ms es leaf_pages leaf.bounds.items leaf_begin

      module _ (ups : List Level) (end : ℕ) (above : AreAbove specs es leaf ups end) where
        abbrev all : List (List ItemSheet)
        all = leaf_pages ∷ sheets_above specs es leaf ups

        abbrev k_levels : List (List ItemSheet)
        k_levels = built_levels (items_split specs) (internal_pages (sizes_of specs ms)) pages

        some_levels : 0 < length leaf.bounds.items → k_levels ≡ all
        some_levels some =
            let fewer = fewer_levels specs ms es leaf ups end above some in
            (λ i. levels_from (items_split specs) (internal_pages (sizes_of specs ms)) (length (leaves i)) (leaves i) (sym is.first i))
            ∙ tower_is specs ms es (length leaf_pages) leaf_pages leaf ups end leaf_begin above some (omega (arith, fewer, many))

        -- without leaves there is nothing
        no_ups : (ups : List Level) → AreAbove specs es leaf ups end → length leaf.bounds.items ≡ 0 → ups ≡ []
        no_ups [] above none = refl
        no_ups (up ∷ ups) above none = absurd (omega (arith, above.0, none))

        no_pages : (sheets : List ItemSheet) → length sheets ≡ 0 → sheets ≡ []
        no_pages [] none = refl
        no_pages (s ∷ sheets) none = absurd (omega (arith, none))

        none_built : length leaf.bounds.items ≡ 0 → k_levels ≡ []
        none_built none =
            let empty = leaves ∙ no_pages leaf_pages (omega (arith, many, none)) in
            λ i. levels_from (items_split specs) (internal_pages (sizes_of specs ms)) (length (empty i)) (empty i) 1

        none_laid : length leaf.bounds.items ≡ 0 → all ≡ [] ∷ []
        none_laid none =
            let empty = no_pages leaf_pages (omega (arith, many, none)) in
            λ i. empty i ∷ sheets_above specs es leaf (no_ups ups above none i)

        -- the pages, and the number of levels above the leaves
        pub laid : lay_levels all 0 1 ≡ lay_levels k_levels 0 1
        laid = by_count (length leaf.bounds.items) refl
          where
            by_count : (n : ℕ) → length leaf.bounds.items ≡ n → lay_levels all 0 1 ≡ lay_levels k_levels 0 1
            by_count zero none = ap (λ (w : List (List ItemSheet)). lay_levels w 0 1) (none_laid none) ∙ ap (λ (w : List (List ItemSheet)). lay_levels w 0 1) (sym (none_built none))
            by_count (suc n) some = ap (λ (w : List (List ItemSheet)). lay_levels w 0 1) (sym (some_levels (omega (arith, some))))

        pub levels_above : length all - 1 ≡ length k_levels - 1
        levels_above = by_count (length leaf.bounds.items) refl
          where
            by_count : (n : ℕ) → length leaf.bounds.items ≡ n → length all - 1 ≡ length k_levels - 1
            by_count zero none = ap (λ (w : List (List ItemSheet)). length w - 1) (none_laid none) ∙ ap (λ (w : List (List ItemSheet)). length w - 1) (sym (none_built none))
            by_count (suc n) some = ap (λ (w : List (List ItemSheet)). length w - 1) (sym (some_levels (omega (arith, some))))

  -- How many blocks there are

  pub blocks_are : (sheets : List ItemSheet) (below : Level) (ups : List Level) (number end : ℕ) → length sheets ≡ length below.bounds.items → AreAbove specs es below ups end
      → length (lay_levels (sheets ∷ sheets_above specs es below ups) number below.first) + below.first ≡ end
  blocks_are sheets below [] number end long above =
      let a = length-append (lay_level sheets number 0 below.first) [] in
      let b = length-lay sheets number 0 below.first in
      omega (arith, a, b, long, above.1)
  blocks_are sheets below (up ∷ ups) number end long above =
      let sheets' = inner_by specs es up.counts.items below.bounds.items below.first in
      let next : block_after sheets below.first ≡ up.first = block_after_is sheets below.first ∙ omega (arith, long, above.1.first) in
      let rest = lay_levels (sheets' ∷ sheets_above specs es up ups) (suc number) (block_after sheets below.first) in
      let same : length rest ≡ length (lay_levels (sheets' ∷ sheets_above specs es up ups) (suc number) up.first) =
      ap (λ (b : ℕ). length (lay_levels (sheets' ∷ sheets_above specs es up ups) (suc number) b)) next in
      let deeper = blocks_are sheets' up ups (suc number) end (begin_length specs ms es sheets' up.bounds.items (above_begin specs ms es below up above.1)) above.2 in
      let a = length-append (lay_level sheets number 0 below.first) rest in
      let b = length-lay sheets number 0 below.first in
      omega (arith, a, b, long, same, deeper, above.1.first)

-- Pages by their numbers

each_page : {S E : Type 0} (P : Page S E → Type 0) (pages : List (Page S E)) → ((b : ℕ) → b < length pages → P (page_at pages b)) → AllByRecursion P pages
each_page P [] each = tt
each_page P (p ∷ pages) each = (each 0 (omega arith), each_page P pages (λ b lt. each (suc b) (omega (arith, lt))))

take_page : {S E : Type 0} (n : ℕ) (pages : List (Page S E)) → n < length pages → take (suc n) pages ≡ take n pages ++ page_at pages n ∷ []
take_page n [] lt = absurd (omega (arith, lt))
take_page zero (p ∷ pages) lt = refl
take_page (suc n) (p ∷ pages) lt = ap (λ w. p ∷ w) (take_page n pages (omega (arith, lt)))

take_them : {X : Type 0} (xs : List X) → take (length xs) xs ≡ xs
take_them [] = refl
take_them (x ∷ xs) = ap (λ w. x ∷ w) (take_them xs)

pub flat_append : (f : ItemPage → List ℕ) (ps qs : List ItemPage) → flat_map f (ps ++ qs) ≡ flat_map f ps ++ flat_map f qs
flat_append f [] qs = refl
flat_append f (p ∷ ps) qs = ap (λ w. f p ++ w) (flat_append f ps qs) ∙ sym (append_assoc (f p) (flat_map f ps) (flat_map f qs))

module _ (specs : List KeySpec) (ms : List MoreSpec) (x : ItemTree) (pages : List ItemPage) (page_is : (b : ℕ) → x.page b ≡ page_at (no_page ∷ pages) b) where
  blocks_up_to : (n : ℕ) → n ≤ length pages → blocks_below specs ms x (suc n) ≡ meta_page (meta_in x) ++ flat_map (page_bytes specs ms) (take n pages)
  blocks_up_to zero le = sym (append-nil (meta_page (meta_in x)))
  blocks_up_to (suc n) le =
      let front = flat_map (page_bytes specs ms) (take n pages) in
      let p : ItemPage = page_at pages n in
      let one : flat_map (page_bytes specs ms) (p ∷ []) ≡ page_bytes specs ms p = append-nil (page_bytes specs ms p) in
      let no_meta : (suc n == 0) ≡ false = ne_eqb (suc n) 0 (λ z. absurd cc) in
      ap (λ w. blocks_below specs ms x (suc n) ++ w) (cond-false _ _ _ no_meta)
      ∙ (λ i. blocks_up_to n (omega (arith, le)) i ++ page_bytes specs ms (page_is (suc n) i))
      ∙ append_assoc (meta_page (meta_in x)) front (page_bytes specs ms p)
      ∙ (λ i. meta_page (meta_in x) ++ (front ++ sym one i))
      ∙ ap (λ w. meta_page (meta_in x) ++ w) (sym (flat_append (page_bytes specs ms) (take n pages) (p ∷ [])))
      ∙ ap (λ w. meta_page (meta_in x) ++ flat_map (page_bytes specs ms) w) (sym (take_page n pages (omega (arith, le))))

  pub all_blocks : blocks_below specs ms x (suc (length pages)) ≡ meta_page (meta_in x) ++ flat_map (page_bytes specs ms) pages
  all_blocks = blocks_up_to (length pages) (omega arith) ∙ ap (λ w. meta_page (meta_in x) ++ flat_map (page_bytes specs ms) w) (take_them pages)

  pub all_fit : x.blocks ≡ suc (length pages) → IsTreeFit specs ms x → AllByRecursion (IsPageFit specs ms) pages
  all_fit blocks fit = each_page (IsPageFit specs ms) pages (λ b lt. subst (IsPageFit specs ms) (page_is (suc b)) (fit.pages (suc b) (λ z. absurd cc) (omega (arith, blocks, lt))))

-- The tree

module _ (specs : List KeySpec) (ms : List MoreSpec) (es : List LeafEntry) (items : List Item) (are : AreItems specs ms es items) where
  abbrev tree : ItemTree
  tree = index_tree specs ms es

  abbrev tree_pages : List ItemPage
  tree_pages = lay_levels (built_levels (items_split specs) (internal_pages (sizes_of specs ms)) (pages specs ms es)) 0 1

  pub pages_laid : (levels : List Level) (end : ℕ) → AreLevels specs es items levels end → lay_levels (sheets_of specs es items levels) 0 1 ≡ tree_pages
  pages_laid [] end levels = absurd levels
  pages_laid (leaf ∷ ups) end levels = laid specs ms es items are leaf levels.0 ups end levels.1

  pub end_is : (levels : List Level) (end : ℕ) → AreLevels specs es items levels end → end ≡ tree.blocks
  end_is [] end levels = absurd levels
  end_is (leaf ∷ ups) end levels =
      let is = levels.0 in
      let count = blocks_are specs ms es (leaves_by specs es leaf.counts.items items) leaf ups 0 end (many specs ms es items are leaf is) levels.1 in
      let from_one : length (lay_levels (sheets_of specs es items (leaf ∷ ups)) 0 1) ≡ length (lay_levels (sheets_of specs es items (leaf ∷ ups)) 0 leaf.first) =
      ap (λ (b : ℕ). length (lay_levels (sheets_of specs es items (leaf ∷ ups)) 0 b)) (sym is.first) in
      let same : length (lay_levels (sheets_of specs es items (leaf ∷ ups)) 0 1) ≡ length tree_pages = ap length (pages_laid (leaf ∷ ups) end levels) in
      omega (arith, count, from_one, same, is.first)

  pub meta_is : (levels : List Level) (end : ℕ) → AreLevels specs es items levels end → meta_for end (length levels) ≡ meta_in tree
  meta_is [] end levels = absurd levels
  meta_is (leaf ∷ ups) end levels =
      let root : end - 1 ≡ tree.root = let e = end_is (leaf ∷ ups) end levels in omega (arith, e) in
      let top : length (leaf ∷ ups) - 1 ≡ tree.level = same_length ∙ levels_above specs ms es items are leaf levels.0 ups end levels.1 in
      λ i. record { magic = 0x00053162; version = 4; root = root i; level = top i; fastroot = root i; fastlevel = top i }
    where
      many_sheets : (below : Level) (ups : List Level) → length (sheets_above specs es below ups) ≡ length ups
      many_sheets below [] = refl
      many_sheets below (up ∷ ups) = ap suc (many_sheets up ups)

      same_length : length (leaf ∷ ups) - 1 ≡ length (sheets_of specs es items (leaf ∷ ups)) - 1
      same_length = let m = many_sheets leaf ups in omega (arith, m)

  pub levels_fit : (levels : List Level) (end : ℕ) → AreLevels specs es items levels end → IsTreeFit specs ms tree → AllByRecursion (IsPageFit specs ms) (lay_levels (sheets_of specs es items levels) 0 1)
  levels_fit levels end are_levels fit = subst (AllByRecursion (IsPageFit specs ms)) (sym (pages_laid levels end are_levels)) (all_fit specs ms tree tree_pages (λ b. refl) refl fit)

  pub bytes_are : (levels : List Level) (end : ℕ) → AreLevels specs es items levels end
      → meta_page (meta_for end (length levels)) ++ levels_bytes specs ms (sheets_of specs es items levels) 0 1 ≡ blocks_below specs ms tree tree.blocks
  bytes_are levels end are_levels =
      (λ i. meta_page (meta_is levels end are_levels i) ++ flat_map (page_bytes specs ms) (pages_laid levels end are_levels i))
      ∙ sym (all_blocks specs ms tree tree_pages (λ b. refl))

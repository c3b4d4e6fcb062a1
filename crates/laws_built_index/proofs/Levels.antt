-- The tree of entries that may be indexed may be laid.
use Rattle.std.proofs.Common.{◌≡◌, ◌≢◌, ◌≤◌, ◌<◌, ◌+◌, inl, inr, ℕ, zero, suc, true, List, [], ◌∷◌, ◌++◌, length, map, refl, sym, subst, arith, length-append}
use Rattle.std.specs.Prelude.{Option, Some, None}
use Rattle.std.specs.List.{All, AllByRecursion, Contains}
use Rattle.std.proofs.lemmas.List.Elements.{recursion_from_All, All-from_recursion}
use Rattle.laws_search.specs.Keys.{Entry, Separator}
use Rattle.laws_search.specs.Tree.{Page}
use Rattle.laws_search.proofs.Gather.{In-from_Contains}
use Rattle.laws_search.proofs.Lists.{In, Each-append, Each-in, Each-front, Each-back}
use Rattle.laws_search.proofs.Rising.{Rising, rising_from_adjacent}
use Rattle.key_orders.specs.declared.columns.KeySpec.{KeySpec}
use Rattle.key_orders.specs.declared.columns.Value.{Value}
use Rattle.key_orders.specs.declared.more.MoreSpec.{MoreSpec}
use Rattle.key_orders.specs.declared.Tid.{Tid}
use Rattle.key_orders.specs.Keys.{columns_of, tid_order}
use Rattle.key_orders.specs.Scans.{order_of}
use Rattle.bt_image.specs.Image.{LeafEntry}
use Rattle.laws_building.specs.Built.{Sheet, Splitter, block_after, gap, internal_sheet, is_bottom, items_of, lay_level, lay_levels, leaf_sheets, levels_from, built_levels, no_page, page_at}
use Rattle.laws_building.specs.Cuts.{IsFilled, fill_pages, joined, page_size, size_sum}
use Rattle.laws_building.specs.Fresh.{IsBetween, IsGiven}
use Rattle.laws_building.specs.Groups.{IsGrouped}
use Rattle.laws_building.specs.Seen.{item_splitter, order_by, splitter_by}
use Rattle.laws_building.specs.Sized.{IsSizedBy, Sizes, internal_pages, separator_size}
use Rattle.laws_building.proofs.Fill.{filled}
use Rattle.laws_building.proofs.Groups.{is_grouped}
use Rattle.laws_building.proofs.Items.{leaves_joined, pages_have_entries}
use Rattle.laws_building.proofs.Level.{Lowers}
use Rattle.laws_building.proofs.Mapped.{leaves_seen, rising_back}
use Rattle.laws_building.proofs.Rise.{given_keys}
use Rattle.laws_building.proofs.Seen.{sheet_seen}
use Rattle.laws_building.proofs.Sized.{sized_by_given}
use Rattle.laws_building.proofs.Splits.{splits}
use Rattle.laws_building.proofs.Tower.{block_after_is, length-lay}
use Rattle.laws_built_index.specs.Items.{MayBeItem, MayBeLaid, leaf_item, plain_item}
use Rattle.laws_built_index.specs.Sizes.{AreIndexable, entry_in, grouping_of, index_tree, items_for, sizes_of, splitter_of}
use Rattle.laws_built_index.specs.Trees.{IsPageFit, IsTreeFit}
use Rattle.laws_built_index.proofs.Grouped.{Fits, IsItem, all_items}
use Rattle.laws_built_index.proofs.Keys.{HaveOrders, columns_total, keyed, tids_total}
use Rattle.laws_built_index.proofs.Separated.{may_split, short_pivot}
use Rattle.laws_built_index.proofs.Sheets.{AreParted, HasSplit, IsLeafFit, IsSheetFit, IsShortSplit, IsUpperFit, ItemSheet, Link, leaves_fit, level_fits, links_lead, upper_fit}

-- a page of the list
page_in : {S E : Type 0} (P : Page S E → Type 0) (pages : List (Page S E)) (b : ℕ) → AllByRecursion P pages → b < length pages → P (page_at pages b)
page_in P [] b each inside = absurd (omega (arith, inside))
page_in P (p ∷ pages) zero each inside = each.0
page_in P (p ∷ pages) (suc b) each inside = page_in P pages b each.1 (omega (arith, inside))

page_there : {S E : Type 0} (P : Page S E → Type 0) (pages : List (Page S E)) (b : ℕ) → AllByRecursion P pages → b ≢ 0 → b < suc (length pages) → P (page_at (no_page ∷ pages) b)
page_there P pages zero each some inside = absurd (some refl)
page_there P pages (suc b) each some inside = page_in P pages b each (omega (arith, inside))

-- each page of a level but the first has a separator
abbrev AreSome : List ItemSheet → Type 0
AreSome sheets = AllByRecursion (λ (t : ItemSheet). (s : Separator Value Tid) × (t.lower ≡ Some s)) sheets

module _ (k : Splitter (Separator Value Tid) LeafEntry) where
  gap_some : (page next : List (List LeafEntry)) (pages : List (List (List LeafEntry))) → page ≢ [] → next ≢ [] → (s : Separator Value Tid) × (gap (item_splitter k) page (next ∷ pages) ≡ Some s)
  gap_some [] next pages some other = absurd (some refl)
  gap_some (d ∷ ds) [] pages some other = absurd (other refl)
  gap_some (d ∷ ds) (e ∷ es) pages some other = (_, refl)

  later_some : (pages : List (List (List LeafEntry))) (lower : Option (Separator Value Tid)) (s : Separator Value Tid) → lower ≡ Some s → AllByRecursion (λ page. page ≢ []) pages → AreSome (leaf_sheets (item_splitter k) pages lower)
  later_some [] lower s is some = tt
  later_some (page ∷ []) lower s is some = ((s, is), tt)
  later_some (page ∷ next ∷ pages) lower s is some =
      let h = gap_some page next pages some.0 some.1.0 in
      ((s, is), later_some (next ∷ pages) (gap (item_splitter k) page (next ∷ pages)) h.0 h.1 some.1)

-- what is so of each item
pub item_facts : (specs : List KeySpec) (more : List MoreSpec) (items : List (List LeafEntry)) → AllByRecursion (IsItem specs more) items
    → All (MayBeItem specs more) items × All (λ item. length (leaf_item specs more item) ≤ 2704) items
item_facts specs more items each = (All-from_recursion (MayBeItem specs more) items (firsts items each), All-from_recursion (λ item. length (leaf_item specs more item) ≤ 2704) items (seconds items each))
  where
    firsts : (items : List (List LeafEntry)) → AllByRecursion (IsItem specs more) items → AllByRecursion (MayBeItem specs more) items
    firsts [] h = tt
    firsts (item ∷ items) h = (h.0.0, firsts items h.1)

    seconds : (items : List (List LeafEntry)) → AllByRecursion (IsItem specs more) items → AllByRecursion (λ item. length (leaf_item specs more item) ≤ 2704) items
    seconds [] h = tt
    seconds (item ∷ items) h = (h.0.1, seconds items h.1)

module _ (laws : HaveOrders) (specs : List KeySpec) (more : List MoreSpec) (es : List LeafEntry) (may : AreIndexable specs more es) where
  abbrev z : Sizes (Separator Value Tid) LeafEntry
  z = sizes_of specs more

  abbrev items : List (List LeafEntry)
  items = items_for specs more es

  abbrev pages : List (List (List LeafEntry))
  pages = fill_pages z.item_size z.item_size z.budget items

  grouped_well : IsGrouped (grouping_of specs more) es items
  grouped_well = is_grouped (grouping_of specs more) es

  entries_fit : AllByRecursion (Fits specs more) es
  entries_fit = both es (recursion_from_All (MayBeLaid specs more) es may.each) (recursion_from_All (λ e. length (plain_item specs more e.entry e.more) ≤ 2704) es may.small)
    where
      both : (es : List LeafEntry) → AllByRecursion (MayBeLaid specs more) es → AllByRecursion (λ e. length (plain_item specs more e.entry e.more) ≤ 2704) es → AllByRecursion (Fits specs more) es
      both [] a b = tt
      both (e ∷ es) a b = ((a.0, b.0), both es a.1 b.1)

  -- the separator of two entries
  in_entries : (xs : List LeafEntry) (e : Entry Value Tid) → In e (map entry_in xs) → (d : LeafEntry) × In d xs × (e ≡ entry_in d)
  in_entries [] e h = absurd h
  in_entries (x ∷ xs) e h = elim h [
    | inl is ↦ (x, inl refl, is)
    | inr i ↦ let r = in_entries xs e i in (r.0, inr r.1, r.2)
  ]

  split_short : (d e : Entry Value Tid) → Contains (map entry_in es) d → Contains (map entry_in es) e → (order_of specs).precedes d e ≡ true → IsShortSplit specs ((splitter_of specs).split_key d e)
  split_short d e left right below =
      let l = in_entries es d (In-from_Contains (map entry_in es) d left) in
      let r = in_entries es e (In-from_Contains (map entry_in es) e right) in
      let a = Each-in (Fits specs more) l.0 es entries_fit l.1 in
      let b = Each-in (Fits specs more) r.0 es entries_fit r.1 in
      let under : (order_of specs).precedes l.0.entry r.0.entry ≡ true =
      subst (λ (x : Entry Value Tid). (order_of specs).precedes x r.0.entry ≡ true) l.2 (subst (λ (y : Entry Value Tid). (order_of specs).precedes d y ≡ true) r.2 below) in
      let short : IsShortSplit specs ((splitter_of specs).split_key l.0.entry r.0.entry) =
      record {
        splits = may_split laws specs more l.0 r.0 may.columns a.0 b.0 b.1 under;
        short = short_pivot laws specs more l.0 r.0 may.columns a.0 b.0 b.1 under;
      } in
      subst (λ (x : Entry Value Tid). IsShortSplit specs ((splitter_of specs).split_key x e)) (sym l.2)
      (subst (λ (y : Entry Value Tid). IsShortSplit specs ((splitter_of specs).split_key l.0.entry y)) (sym r.2) short)

  pub sized : IsSizedBy entry_in (order_of specs) (splitter_of specs) z items es
  sized = record {
    order = keyed laws specs;
    splits = splits (columns_of specs) (columns_total laws specs) tid_order (tids_total laws);
    items_cut = grouped_well.cut;
    rising = may.rising;
    first_small = omega arith;
    small = λ d e left right below. let h = (split_short d e left right below).short in omega (arith, h);
  }

  -- the items
  pub each_item : AllByRecursion (IsItem specs more) items
  each_item =
      let up = rising_back entry_in (order_of specs) es (rising_from_adjacent (order_of specs) (keyed laws specs).entries (map entry_in es) may.rising) in
      let whole = grouped_well.cut.whole in
      all_items laws specs more items grouped_well.great (subst (AllByRecursion (Fits specs more)) (sym whole) entries_fit) (subst (Rising (order_by entry_in (order_of specs))) (sym whole) up)

  pages_filled : IsFilled z.item_size z.item_size z.budget items pages
  pages_filled = filled z.item_size z.item_size z.budget items (λ x there. let h = (Each-in (IsItem specs more) x items each_item (In-from_Contains items x there)).1 in omega (arith, h))

  each_leaf : AllByRecursion (IsLeafFit specs more) pages
  each_leaf =
      let f = pages_filled in
      leaves pages (recursion_from_All (λ page. page ≢ []) pages f.cut.filled) (recursion_from_All (λ page. page_size z.item_size z.item_size page ≤ 5436) pages f.within)
      (subst (AllByRecursion (IsItem specs more)) (sym f.cut.whole) each_item)
    where
      firsts : (items : List (List LeafEntry)) → AllByRecursion (IsItem specs more) items → AllByRecursion (MayBeItem specs more) items
      firsts [] h = tt
      firsts (item ∷ items) h = (h.0.0, firsts items h.1)

      page_sum : (page : List (List LeafEntry)) → page_size z.item_size z.item_size page ≤ 5436 → size_sum z.item_size page ≤ 5436
      page_sum [] h = omega arith
      page_sum (item ∷ page) h = h

      leaves : (pages : List (List (List LeafEntry))) → AllByRecursion (λ page. page ≢ []) pages → AllByRecursion (λ page. page_size z.item_size z.item_size page ≤ 5436) pages → AllByRecursion (IsItem specs more) (joined pages) → AllByRecursion (IsLeafFit specs more) pages
      leaves [] some room each = tt
      leaves (page ∷ pages) some room each = (
        record { some = some.0; each = firsts page (Each-front (IsItem specs more) page (joined pages) each); room = page_sum page room.0 },
        leaves pages some.1 room.1 (Each-back (IsItem specs more) page (joined pages) each),
      )

  -- the separators of the leaves
  abbrev k : Splitter (Separator Value Tid) (List LeafEntry)
  k = item_splitter (splitter_by entry_in (splitter_of specs))

  abbrev sheets : List ItemSheet
  sheets = leaf_sheets k pages None

  abbrev Between : Option (Separator Value Tid) → Type 0
  Between lower = (s : Separator Value Tid) → lower ≡ Some s → IsBetween (order_of specs) (splitter_of specs) (map entry_in es) s

  lowers_back : {D E : Type 0} (f : List D → List E) (sheets : List (Sheet (Separator Value Tid) D)) → Lowers Between (map (sheet_seen f) sheets) → Lowers Between sheets
  lowers_back f [] h = tt
  lowers_back f (s ∷ sheets) h = (h.0, lowers_back f sheets h.1)

  between_leaves : Lowers Between sheets
  between_leaves =
      let given : IsGiven (order_of specs) (splitter_of specs) (internal_pages z) (map (map entry_in) (map joined pages)) (map entry_in es) = sized_by_given entry_in (order_of specs) (splitter_of specs) z items es sized in
      let keys = given_keys (order_of specs) (splitter_of specs) (internal_pages z) (map (map entry_in) (map joined pages)) (map entry_in es) given in
      let some = recursion_from_All _ pages (pages_have_entries z.item_size z.budget items grouped_well.cut.filled) in
      let seen = leaves_seen entry_in (splitter_of specs) (map joined pages) None in
      let whole = leaves_joined (splitter_by entry_in (splitter_of specs)) pages None some in
      lowers_back joined sheets (subst (Lowers Between) whole (lowers_back (map entry_in) (leaf_sheets (splitter_by entry_in (splitter_of specs)) (map joined pages) None) (subst (Lowers Between) seen keys)))

  has_split : (lower : Option (Separator Value Tid)) (s : Separator Value Tid) → lower ≡ Some s → Between lower → HasSplit specs lower
  has_split lower s is between =
      let b = between s is in
      record { separator = s; is = is; fits = subst (IsShortSplit specs) (sym b.is) (split_short b.left b.right b.left_in b.right_in b.apart) }

  have_splits : (sheets : List ItemSheet) → AreSome sheets → Lowers Between sheets → AllByRecursion (λ t. HasSplit specs t.lower) sheets
  have_splits [] some between = tt
  have_splits (s ∷ sheets) some between = (has_split s.lower some.0.0 some.0.1 between.0, have_splits sheets some.1 between.1)

  leaves_parted : AreParted specs sheets
  leaves_parted = parted pages (recursion_from_All (λ page. page ≢ []) pages pages_filled.cut.filled) between_leaves
    where
      parted : (pages : List (List (List LeafEntry))) → AllByRecursion (λ page. page ≢ []) pages → Lowers Between (leaf_sheets k pages None) → AreParted specs (leaf_sheets k pages None)
      parted [] some between = tt
      parted (page ∷ []) some between = tt
      parted (page ∷ next ∷ pages) some between =
          let h = gap_some (splitter_by entry_in (splitter_of specs)) page next pages some.0 some.1.0 in
          have_splits (leaf_sheets k (next ∷ pages) (gap k page (next ∷ pages))) (later_some (splitter_by entry_in (splitter_of specs)) (next ∷ pages) (gap k page (next ∷ pages)) h.0 h.1 some.1) between.1

  -- The levels

  upper : (s : ItemSheet) (more_sheets : List ItemSheet) (b : ℕ) → AllByRecursion (λ t. HasSplit specs t.lower) more_sheets → b < 4294967296 → suc b + length more_sheets ≤ 4294967296
      → IsUpperFit specs more (map (internal_sheet k) (internal_pages z (items_of (s ∷ more_sheets) b)))
  upper s more_sheets b parted low few =
      let links : List Link = items_of (s ∷ more_sheets) b in
      let f = filled (λ (d : Link). z.first_size) (λ (d : Link). separator_size z d.0) z.budget links (λ x there. omega arith) in
      upper_fit specs more k refl (internal_pages z links) (s.lower, b) (items_of more_sheets (suc b)) f.cut.whole (recursion_from_All (λ page. page ≢ []) (internal_pages z links) f.cut.filled) low
      (links_lead specs more more_sheets (suc b) parted few) (recursion_from_All _ (internal_pages z links) f.within)

  levels_fit : (n : ℕ) (here : List ItemSheet) (m b : ℕ) → here ≢ [] → AllByRecursion (IsSheetFit specs more (is_bottom m)) here → AreParted specs here → m < b
      → b + length (lay_levels (levels_from k (internal_pages z) n here b) m b) ≤ 4294967296 → AllByRecursion (IsPageFit specs more) (lay_levels (levels_from k (internal_pages z) n here b) m b)
  levels_fit n [] m b some fits parted low few = absurd (some refl)
  levels_fit zero (s ∷ here) m b some fits parted low few = tt
  levels_fit (suc n) (s ∷ []) m b some fits parted low few = level_fits specs more (s ∷ []) m 0 b fits parted (omega (arith, low, few)) (omega arith) (omega (arith, few))
  levels_fit (suc n) (s ∷ t ∷ here) m b some fits parted low few =
      let all : List ItemSheet = s ∷ t ∷ here in
      let up : List ItemSheet = map (internal_sheet k) (internal_pages z (items_of all b)) in
      let own : List (Page (Separator Value Tid) (List LeafEntry)) = lay_level all m 0 b in
      let later : List (Page (Separator Value Tid) (List LeafEntry)) = lay_levels (levels_from k (internal_pages z) n up (block_after all b)) (suc m) (block_after all b) in
      let sum : length (own ++ later) ≡ length own + length later = length-append own later in
      let long : length own ≡ length all = length-lay all m 0 b in
      let after : block_after all b ≡ b + length all = block_after_is all b in
      let above = upper s (t ∷ here) b parted (omega (arith, few, sum, long)) (omega (arith, few, sum, long)) in
      Each-append (IsPageFit specs more) own later
      (level_fits specs more all m 0 b fits parted (omega (arith, low, few, sum, long)) (omega arith) (omega (arith, few, sum, long)))
      (levels_fit n up (suc m) (block_after all b) above.some above.each above.parted (omega (arith, low, after)) (omega (arith, few, sum, long, after)))

  few_levels : (n : ℕ) (here : List ItemSheet) (b : ℕ) → length (levels_from k (internal_pages z) n here b) ≤ n
  few_levels zero here b = omega arith
  few_levels (suc n) [] b = let h = few_levels n (map (internal_sheet k) (internal_pages z (items_of {E = List LeafEntry} [] b))) b in omega (arith, h)
  few_levels (suc n) (s ∷ []) b = omega arith
  few_levels (suc n) (s ∷ t ∷ here) b =
      let all : List ItemSheet = s ∷ t ∷ here in
      let h = few_levels n (map (internal_sheet k) (internal_pages z (items_of all b))) (block_after all b) in omega (arith, h)

  -- a page at least on each level
  no_more_levels : (here : List ItemSheet) (m b : ℕ) → length (levels_from k (internal_pages z) (length here) here b) ≤ length (lay_levels (levels_from k (internal_pages z) (length here) here b) m b)
  no_more_levels [] m b = omega arith
  no_more_levels (s ∷ []) m b = omega arith
  no_more_levels (s ∷ t ∷ here) m b =
      let all : List ItemSheet = s ∷ t ∷ here in
      let up : List ItemSheet = map (internal_sheet k) (internal_pages z (items_of all b)) in
      let own : List (Page (Separator Value Tid) (List LeafEntry)) = lay_level all m 0 b in
      let later : List (Page (Separator Value Tid) (List LeafEntry)) = lay_levels (levels_from k (internal_pages z) (length (t ∷ here)) up (block_after all b)) (suc m) (block_after all b) in
      let sum : length (own ++ later) ≡ length own + length later = length-append own later in
      let long : length own ≡ length all = length-lay all m 0 b in
      let few = few_levels (length all) all b in
      omega (arith, sum, long, few)

  pub tree_fit : (index_tree specs more es).blocks < 4294967296 → IsTreeFit specs more (index_tree specs more es)
  tree_fit few =
      let x = index_tree specs more es in
      let laid : List (Page (Separator Value Tid) (List LeafEntry)) = lay_levels (built_levels k (internal_pages z) pages) 0 1 in
      let high : length (built_levels k (internal_pages z) pages) ≤ length laid = no_more_levels sheets 0 1 in
      record {
        some = omega arith;
        numbers = record { magic = omega arith; version = omega arith; root = omega (arith, few); level = omega (arith, few, high); fastroot = omega (arith, few); fastlevel = omega (arith, few, high) };
        pages = λ b some inside. page_there (IsPageFit specs more) laid b (start sheets (leaves_fit specs more k pages None each_leaf) leaves_parted (omega (arith, few))) some inside;
      }
    where
      start : (here : List ItemSheet) → AllByRecursion (IsSheetFit specs more true) here → AreParted specs here → 1 + length (lay_levels (levels_from k (internal_pages z) (length here) here 1) 0 1) ≤ 4294967296
          → AllByRecursion (IsPageFit specs more) (lay_levels (levels_from k (internal_pages z) (length here) here 1) 0 1)
      start [] fits parted few = tt
      start (s ∷ here) fits parted few = levels_fit (length (s ∷ here)) (s ∷ here) 0 1 (λ e. absurd cc) fits parted (omega arith) few

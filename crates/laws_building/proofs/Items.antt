-- A tree of items is the tree of their entries.
use Rattle.std.proofs.Common.{◌≡◌, ◌≢◌, ℕ, List, [], ◌∷◌, ◌++◌, map, refl, sym, ap, ◌∙◌, append-nil, subst}
use Rattle.std.specs.Prelude.{Option, Some, None}
use Rattle.std.specs.List.{All}
use Rattle.std.proofs.lemmas.List.Elements.{recursion_from_All, All-from_recursion}
use Rattle.laws_search.specs.Tree.{Index}
use Rattle.laws_search.specs.Levels.{Downlink}
use Rattle.laws_search.specs.Search.{last_or}
use Rattle.laws_search.proofs.Lists.{Each, Each-front, Each-back}
use Rattle.laws_building.specs.Cuts.{joined, fill_pages}
use Rattle.laws_building.proofs.Fill.{fill_cuts}
use Rattle.laws_building.specs.Built.{Splitter, Sheet, gap, leaf_sheets, built, IsLaidAs}
use Rattle.laws_building.specs.Seen.{index_seen, item_key, item_splitter, HasEntries}
use Rattle.laws_building.proofs.Seen.{sheet_seen, seen_as_built}

module _ {S E : Type 0} (k : Splitter S E) where
  last_append : (d : E) (ds : List E) (e : E) (es : List E) → last_or d (ds ++ e ∷ es) ≡ last_or e es
  last_append d [] e es = refl
  last_append d (c ∷ ds) e es = last_append c ds e es

  last_item : (d : E) (ds : List E) (items : List (List E)) (e : E) (es : List E) → Each (λ item. item ≢ []) items
      → k.split_key (last_or d (ds ++ joined items)) e ≡ item_key k (last_or (d ∷ ds) items) (e ∷ es)
  last_item d ds [] e es filled = ap (λ z. k.split_key (last_or d z) e) (append-nil ds)
  last_item d ds ([] ∷ items) e es filled = absurd (filled.0 refl)
  last_item d ds ((c ∷ cs) ∷ items) e es filled =
      ap (λ z. k.split_key z e) (last_append d ds c (cs ++ joined items)) ∙ last_item c cs items e es filled.1

  gap_joined : (page : List (List E)) (rest : List (List (List E))) → HasEntries page → Each HasEntries rest → gap k (joined page) (map joined rest) ≡ gap (item_splitter k) page rest
  gap_joined page rest filled others = by_items page rest (recursion_from_All (λ item. item ≢ []) page filled.each) others
    where
      by_next : (d : E) (ds : List E) (items : List (List E)) (next : List (List E)) (rest : List (List (List E))) → Each (λ item. item ≢ []) items → next ≢ [] → Each (λ item. item ≢ []) next
          → gap k (joined ((d ∷ ds) ∷ items)) (map joined (next ∷ rest)) ≡ gap (item_splitter k) ((d ∷ ds) ∷ items) (next ∷ rest)
      by_next d ds items [] rest filled some each = absurd (some refl)
      by_next d ds items ([] ∷ next) rest filled some each = absurd (each.0 refl)
      by_next d ds items ((e ∷ es) ∷ next) rest filled some each = ap (λ z. Some z) (last_item d ds items e es filled)

      by_items : (page : List (List E)) (rest : List (List (List E))) → Each (λ item. item ≢ []) page → Each HasEntries rest → gap k (joined page) (map joined rest) ≡ gap (item_splitter k) page rest
      by_items [] rest filled others = refl
      by_items ([] ∷ page) rest filled others = absurd (filled.0 refl)
      by_items ((d ∷ ds) ∷ page) [] filled others = refl
      by_items ((d ∷ ds) ∷ page) (next ∷ rest) filled others =
          by_next d ds page next rest filled.1 others.0.some (recursion_from_All (λ item. item ≢ []) next others.0.each)

  pub leaves_joined : (pages : List (List (List E))) (lower : Option S) → Each HasEntries pages → leaf_sheets k (map joined pages) lower ≡ map (sheet_seen joined) (leaf_sheets (item_splitter k) pages lower)
  leaves_joined [] lower filled = refl
  leaves_joined (page ∷ pages) lower filled =
      let here : Sheet S E = record { lower = lower; children = []; entries = joined page } in
      ap (λ z. here ∷ leaf_sheets k (map joined pages) z) (gap_joined page pages filled.0 filled.1)
      ∙ ap (λ w. here ∷ w) (leaves_joined pages (gap (item_splitter k) page pages) filled.1)

  pub joined_as_built : (cut : List (Downlink S) → List (List (Downlink S))) (pages : List (List (List E))) (x : Index S (List E)) → All HasEntries pages
      → IsLaidAs x (built (item_splitter k) cut pages) → IsLaidAs (index_seen joined x) (built k cut (map joined pages))
  joined_as_built cut pages x filled same =
      seen_as_built joined refl (item_splitter k) k refl cut pages (leaves_joined pages None (recursion_from_All HasEntries pages filled)) x same

-- pages that are filled with items
pub pages_have_entries : {E : Type 0} (size : List E → ℕ) (budget : ℕ) (items : List (List E)) → All (λ item. item ≢ []) items → All HasEntries (fill_pages size size budget items)
pages_have_entries {E} size budget items each =
    let pages : List (List (List E)) = fill_pages size size budget items in
    let c = fill_cuts size size budget items in
    All-from_recursion HasEntries pages (have pages (recursion_from_All (λ page. page ≢ []) pages c.filled) (subst (Each (λ item. item ≢ [])) (sym c.whole) (recursion_from_All (λ item. item ≢ []) items each)))
  where
    have : (pages : List (List (List E))) → Each (λ page. page ≢ []) pages → Each (λ item. item ≢ []) (joined pages) → Each HasEntries pages
    have [] filled h = tt
    have (page ∷ pages) filled h = (
      record { some = filled.0; each = All-from_recursion (λ item. item ≢ []) page (Each-front (λ item. item ≢ []) page (joined pages) h) },
      have pages filled.1 (Each-back (λ item. item ≢ []) page (joined pages) h),
    )

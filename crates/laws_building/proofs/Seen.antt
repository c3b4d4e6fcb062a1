-- A tree that is built over what pages have is, seen in part, the tree that is built over what is seen.
use Rattle.std.proofs.Common.{◌≡◌, ℕ, zero, suc, ◌-◌, true, false, List, [], ◌∷◌, ◌++◌, length, map, refl, sym, ap, ◌∙◌}
use Rattle.std.specs.Prelude.{None, unwrap_or}
use Rattle.std.proofs.lemmas.List.{map-append}
use Rattle.laws_search.specs.Tree.{Page, Index}
use Rattle.laws_search.specs.Levels.{Downlink}
use Rattle.laws_building.specs.Built.{Splitter, Sheet, leaf_sheets, items_of, block_after, internal_sheet, levels_from, page_of, lay_level, lay_levels, no_page, page_at, built_levels, built, IsLaidAs}
use Rattle.laws_building.specs.Seen.{page_seen, index_seen}
use Rattle.laws_building.proofs.Tower.{length-map_list}

abbrev pub sheet_seen : {S D E : Type 0} → (List D → List E) → Sheet S D → Sheet S E
sheet_seen g s = record { lower = s.lower; children = s.children; entries = g s.entries }

module _ {S D E : Type 0} (g : List D → List E) (none : g [] ≡ []) (kd : Splitter S D) (k : Splitter S E) (nothing : k.nothing ≡ kd.nothing) where
  items_seen : (sheets : List (Sheet S D)) (b : ℕ) → items_of (map (sheet_seen g) sheets) b ≡ items_of sheets b
  items_seen [] b = refl
  items_seen (s ∷ sheets) b = ap (λ (w : List (Downlink S)). (s.lower, b) ∷ w) (items_seen sheets (suc b))

  after_seen : (sheets : List (Sheet S D)) (b : ℕ) → block_after (map (sheet_seen g) sheets) b ≡ block_after sheets b
  after_seen [] b = refl
  after_seen (s ∷ sheets) b = after_seen sheets (suc b)

  sheet_inner : (page : List (Downlink S)) → internal_sheet k page ≡ sheet_seen g (internal_sheet kd page)
  sheet_inner [] = λ i. record { lower = None; children = []; entries = sym none i }
  sheet_inner (d ∷ ds) = λ i. record { lower = d.0; children = (nothing i, d.1) ∷ map (λ c. (unwrap_or c.0 (nothing i), c.1)) ds; entries = sym none i }

  internal_seen : (pages : List (List (Downlink S))) → map (internal_sheet k) pages ≡ map (sheet_seen g) (map (internal_sheet kd) pages)
  internal_seen [] = refl
  internal_seen (page ∷ pages) = λ i. sheet_inner page i ∷ internal_seen pages i

  module _ (cut : List (Downlink S) → List (List (Downlink S))) where
    more_seen : (n : ℕ) (sheets : List (Sheet S D)) (b : ℕ)
        → levels_from k cut n (map (sheet_seen g) (map (internal_sheet kd) (cut (items_of sheets b)))) (block_after sheets b)
        ≡ map (map (sheet_seen g)) (levels_from kd cut n (map (internal_sheet kd) (cut (items_of sheets b))) (block_after sheets b))
        → map (sheet_seen g) sheets ∷ levels_from k cut n (map (internal_sheet k) (cut (items_of (map (sheet_seen g) sheets) b))) (block_after (map (sheet_seen g) sheets) b)
        ≡ map (sheet_seen g) sheets ∷ map (map (sheet_seen g)) (levels_from kd cut n (map (internal_sheet kd) (cut (items_of sheets b))) (block_after sheets b))
    more_seen n sheets b h =
        (λ i. map (sheet_seen g) sheets ∷ levels_from k cut n (map (internal_sheet k) (cut (items_seen sheets b i))) (after_seen sheets b i))
        ∙ ap (λ w. map (sheet_seen g) sheets ∷ levels_from k cut n w (block_after sheets b)) (internal_seen (cut (items_of sheets b)))
        ∙ ap (λ w. map (sheet_seen g) sheets ∷ w) h

    levels_seen : (n : ℕ) (sheets : List (Sheet S D)) (b : ℕ) → levels_from k cut n (map (sheet_seen g) sheets) b ≡ map (map (sheet_seen g)) (levels_from kd cut n sheets b)
    levels_seen zero sheets b = refl
    levels_seen (suc n) [] b = more_seen n [] b (levels_seen n (map (internal_sheet kd) (cut (items_of {E = D} [] b))) b)
    levels_seen (suc n) (s ∷ []) b = refl
    levels_seen (suc n) (s ∷ t ∷ sheets) b =
        more_seen n (s ∷ t ∷ sheets) b (levels_seen n (map (internal_sheet kd) (cut (items_of (s ∷ t ∷ sheets) b))) (block_after (s ∷ t ∷ sheets) b))

  laid_seen : (sheets : List (Sheet S D)) (m prev b : ℕ) → lay_level (map (sheet_seen g) sheets) m prev b ≡ map (page_seen g) (lay_level sheets m prev b)
  laid_seen [] m prev b = refl
  laid_seen (s ∷ []) m prev b = refl
  laid_seen (s ∷ t ∷ sheets) m prev b = ap (λ w. page_seen g (page_of s (t ∷ sheets) m prev b) ∷ w) (laid_seen (t ∷ sheets) m b (suc b))

  all_laid_seen : (levels : List (List (Sheet S D))) (m b : ℕ) → lay_levels (map (map (sheet_seen g)) levels) m b ≡ map (page_seen g) (lay_levels levels m b)
  all_laid_seen [] m b = refl
  all_laid_seen (sheets ∷ levels) m b =
      (λ i. laid_seen sheets m 0 b i ++ lay_levels (map (map (sheet_seen g)) levels) (suc m) (after_seen sheets b i))
      ∙ ap (λ w. map (page_seen g) (lay_level sheets m 0 b) ++ w) (all_laid_seen levels (suc m) (block_after sheets b))
      ∙ sym (map-append (page_seen g) (lay_level sheets m 0 b) (lay_levels levels (suc m) (block_after sheets b)))

  none_seen : no_page ≡ page_seen {S = S} g no_page
  none_seen = λ i. record { idle = true; leaf = false; half_dead = false; incomplete_split = false; prev = 0; next = 0; level = 0; high_key = None; children = []; entries = sym none i }

  page_at_seen : (ps : List (Page S D)) (b : ℕ) → page_at (map (page_seen {S = S} g) ps) b ≡ page_seen g (page_at ps b)
  page_at_seen [] b = none_seen
  page_at_seen (p ∷ ps) zero = refl
  page_at_seen (p ∷ ps) (suc b) = page_at_seen ps b

  blocks_seen : (ps : List (Page S D)) (b : ℕ) → page_at (no_page ∷ map (page_seen {S = S} g) ps) b ≡ page_seen g (page_at (no_page ∷ ps) b)
  blocks_seen ps zero = none_seen
  blocks_seen ps (suc b) = page_at_seen ps b

  module _ (cut : List (Downlink S) → List (List (Downlink S))) (leaves : List (List D)) (leaves_are : leaf_sheets k (map g leaves) None ≡ map (sheet_seen g) (leaf_sheets kd leaves None)) where
    built_levels_seen : built_levels k cut (map g leaves) ≡ map (map (sheet_seen g)) (built_levels kd cut leaves)
    built_levels_seen =
        let sheets : List (Sheet S D) = leaf_sheets kd leaves None in
        (λ i. levels_from k cut (length (leaves_are i)) (leaves_are i) 1)
        ∙ ap (λ n. levels_from k cut n (map (sheet_seen g) sheets) 1) (length-map_list (sheet_seen {S = S} g) sheets)
        ∙ levels_seen cut (length sheets) sheets 1

    pages_seen : lay_levels (built_levels k cut (map g leaves)) 0 1 ≡ map (page_seen g) (lay_levels (built_levels kd cut leaves) 0 1)
    pages_seen = ap (λ w. lay_levels w 0 1) built_levels_seen ∙ all_laid_seen (built_levels kd cut leaves) 0 1

    pub seen_as_built : (x : Index S D) → IsLaidAs x (built kd cut leaves) → IsLaidAs (index_seen g x) (built k cut (map g leaves))
    seen_as_built x same =
        let levels : List (List (Sheet S D)) = built_levels kd cut leaves in
        let pages : List (Page S D) = lay_levels levels 0 1 in
        let count : length pages ≡ length (lay_levels (built_levels k cut (map g leaves)) 0 1) =
        sym (ap (λ w. length w) pages_seen ∙ length-map_list (page_seen {S = S} g) pages) in
        let high : length levels - 1 ≡ length (built_levels k cut (map g leaves)) - 1 =
        ap (λ n. n - 1) (sym (ap (λ w. length w) built_levels_seen ∙ length-map_list (map (sheet_seen {S = S} g)) levels)) in
        record {
          blocks = same.blocks ∙ ap suc count;
          root = same.root ∙ count;
          level = same.level ∙ high;
          fastroot = same.fastroot ∙ count;
          fastlevel = same.fastlevel ∙ high;
          page = λ b ne lt. ap (page_seen g) (same.page b ne lt) ∙ sym (blocks_seen pages b) ∙ ap (λ w. page_at (no_page ∷ w) b) (sym pages_seen);
        }

-- The levels that the rules of building allow are those that are built.
use Rattle.std.proofs.Common.{◌≡◌, ◌≢◌, ℕ, zero, suc, ◌+◌, ◌≤◌, true, false, List, [], ◌∷◌, length, map, refl, sym, ap, ◌∙◌, subst, arith}
use Rattle.std.specs.Prelude.{Option, Some, None}
use Rattle.std.proofs.lemmas.List.Elements.{recursion_from_All, All-from_recursion}
use Rattle.laws_search.specs.Order.{Order}
use Rattle.laws_search.specs.Levels.{Downlink}
use Rattle.laws_search.proofs.Lists.{In, Each}
use Rattle.laws_search.proofs.Rising.{Rising, rising_from_adjacent}
use Rattle.laws_building.specs.Cuts.{joined, CutsInTwos}
use Rattle.laws_building.specs.Built.{Splitter, Sheet, leaf_sheets, items_of, block_after, internal_sheet, levels_from, built_levels, AreLevels}
use Rattle.laws_building.specs.Fresh.{IsGiven, IsBetween, HasLevels}
use Rattle.laws_building.proofs.Level.{Lowers}
use Rattle.laws_building.proofs.LeafLevel.{leaf_keys}
use Rattle.laws_building.proofs.Internal.{few_pages}
use Rattle.laws_building.proofs.Tower.{length-items, length-map_list, items_have, heads_have}

module _ {S E : Type 0} (k : Splitter S E) (cut : List (Downlink S) → List (List (Downlink S))) where
  -- there is one choice at most
  same_levels : (ups others : List (List (Sheet S E))) (sheets : List (Sheet S E)) (b : ℕ) → AreLevels k cut ups sheets b → AreLevels k cut others sheets b → ups ≡ others
  same_levels [] [] sheets b h g = refl
  same_levels [] (up ∷ ups) sheets b h g = absurd (let e : true ≡ false = sym h ∙ g.0 in cc)
  same_levels (up ∷ ups) [] sheets b h g = absurd (let e : true ≡ false = sym g ∙ h.0 in cc)
  same_levels (up ∷ ups) (other ∷ others) sheets b h g =
      let here : other ≡ up = g.1 ∙ sym h.1 in
      let rest : ups ≡ others = same_levels ups others up (block_after sheets b) h.2 (subst (λ w. AreLevels k cut others w (block_after sheets b)) here g.2) in
      λ i. sym here i ∷ rest i

  module _ (Q : Option S → Type 0) (cuts : CutsInTwos (λ d. Q d.0) cut) where
    levels_are : (n : ℕ) (sheets : List (Sheet S E)) (b : ℕ) → sheets ≢ [] → length sheets ≤ n → Lowers Q sheets → (ups : List (List (Sheet S E))) × AreLevels k cut ups sheets b × (levels_from k cut n sheets b ≡ sheets ∷ ups)
    levels_are n [] b ne few lowers = absurd (ne refl)
    levels_are zero (s ∷ sheets) b ne few lowers = absurd (omega arith)
    levels_are (suc n) (s ∷ []) b ne few lowers = ([], refl, refl)
    levels_are (suc n) (s ∷ t ∷ sheets) b ne few lowers =
        let here : List (Sheet S E) = s ∷ t ∷ sheets in
        let items : List (Downlink S) = items_of here b in
        let groups : List (List (Downlink S)) = cut items in
        let up : List (Sheet S E) = map (internal_sheet k) groups in
        let keyed : Each {X = Downlink S} (λ d. Q d.0) items = items_have k Q here b lowers in
        let all = All-from_recursion (λ d. Q d.0) items keyed in
        let c = cuts.cuts items all in
        let filled : Each (λ page. page ≢ []) groups = recursion_from_All (λ page. page ≢ []) groups c.filled in
        let fewer : length groups + length groups ≤ suc (length (joined groups)) = few_pages groups filled (cuts.twos items all) in
        let count : length (joined groups) ≡ length here = ap (λ w. length w) c.whole ∙ length-items here b in
        let ups_len : length up ≡ length groups = length-map_list (internal_sheet k) groups in
        let some : up ≢ [] = λ z. absurd (let none : length up ≡ 0 = ap (λ w. length w) z in let nothing : length (joined groups) ≡ 0 = empty groups (omega arith) in omega arith) in
        let next = levels_are n up (block_after here b) some (omega arith) (heads_have k Q groups filled (subst (Each {X = Downlink S} (λ d. Q d.0)) (sym c.whole) keyed)) in
        (up ∷ next.0, (refl, refl, next.1), ap (λ w. here ∷ w) next.2)
      where
        empty : (groups : List (List (Downlink S))) → length groups ≡ 0 → length (joined groups) ≡ 0
        empty [] h = refl
        empty (g ∷ groups) h = absurd (omega arith)

module _ {S E : Type 0} (o : Order S E) (k : Splitter S E) (cut : List (Downlink S) → List (List (Downlink S))) where
  -- each separator of the leaves is one of two of the entries
  pub given_keys : (leaves : List (List E)) (es : List E) → IsGiven o k cut leaves es → Lowers (λ t. (s : S) → t ≡ Some s → IsBetween o k es s) (leaf_sheets k leaves None)
  given_keys leaves es g =
      let filled : Each (λ es. es ≢ []) leaves = recursion_from_All (λ es. es ≢ []) leaves g.leaves_cut.filled in
      let rises : Rising o (joined leaves) = subst (Rising o) (sym g.leaves_cut.whole) (rising_from_adjacent o g.order.entries es g.rising) in
      leaf_keys o k es leaves None filled rises (λ e i. subst (In e) g.leaves_cut.whole i) (λ s h. absurd cc)

  leaves_rise : (leaves : List (List E)) (es : List E) → IsGiven o k cut leaves es → leaves ≢ [] → (ups : List (List (Sheet S E))) × AreLevels k cut ups (leaf_sheets k leaves None) 1 × (built_levels k cut leaves ≡ leaf_sheets k leaves None ∷ ups)
  leaves_rise leaves es g ne =
      let sheets : List (Sheet S E) = leaf_sheets k leaves None in
      levels_are k cut (λ t. (s : S) → t ≡ Some s → IsBetween o k es s) g.cuts (length sheets) sheets 1 (some_sheets leaves ne) (omega arith) (given_keys leaves es g)
    where
      some_sheets : (leaves : List (List E)) → leaves ≢ [] → leaf_sheets k leaves None ≢ []
      some_sheets [] ne = absurd (ne refl)
      some_sheets (es ∷ leaves) ne = λ z. absurd cc

  pub has_levels : (leaves : List (List E)) (es : List E) → IsGiven o k cut leaves es → HasLevels k cut leaves
  has_levels leaves es g = record {
    none = λ h. ap (built_levels k cut) h;
    some = leaves_rise leaves es g;
    only = λ ne ups h.
        let r = leaves_rise leaves es g ne in
        r.2 ∙ ap (λ w. leaf_sheets k leaves None ∷ w) (same_levels k cut r.0 ups (leaf_sheets k leaves None) 1 r.1 h);
  }

-- A tree filled by sizes is built from what it takes.
use Rattle.std.proofs.Common.{◌≡◌, ◌≢◌, ◌+◌, ◌≤◌, List, [], ◌∷◌, ◌++◌, map, refl, sym, ap, ◌∙◌, subst}
use Rattle.std.specs.Prelude.{Option, Some, None}
use Rattle.laws_search.specs.Order.{Order}
use Rattle.std.proofs.lemmas.List.{map-append}
use Rattle.std.proofs.lemmas.List.Elements.{recursion_from_All, All-from_recursion}
use Rattle.laws_search.proofs.Lists.{Each}
use Rattle.laws_building.specs.Cuts.{fill_pages, joined, IsCut}
use Rattle.laws_building.specs.Built.{Splitter}
use Rattle.laws_building.specs.Fresh.{IsBetween, IsItemOver, IsGiven}
use Rattle.laws_building.specs.Sized.{Sizes, separator_size, internal_pages, leaf_pages, IsSizedBy}
use Rattle.laws_building.proofs.Fill.{fill_cuts, fill_in_twos, pages_of_items}

module _ {D E : Type 0} (f : D → E) where
  joined_mapped : (pages : List (List D)) → joined (map (map f) pages) ≡ map f (joined pages)
  joined_mapped [] = refl
  joined_mapped (page ∷ pages) = ap (λ w. map f page ++ w) (joined_mapped pages) ∙ sym (map-append f page (joined pages))

  some_mapped : (page : List D) → page ≢ [] → map f page ≢ []
  some_mapped [] some = absurd (some refl)
  some_mapped (d ∷ page) some = λ z. absurd cc

  all_mapped : (pages : List (List D)) → Each (λ page. page ≢ []) pages → Each (λ page. page ≢ []) (map (map f) pages)
  all_mapped [] h = tt
  all_mapped (page ∷ pages) h = (some_mapped page h.0, all_mapped pages h.1)

  mapped_cut : (es : List D) (pages : List (List D)) → IsCut es pages → IsCut (map f es) (map (map f) pages)
  mapped_cut es pages h = record {
    whole = joined_mapped pages ∙ ap (map f) h.whole;
    filled = All-from_recursion (λ page. page ≢ []) (map (map f) pages) (all_mapped pages (recursion_from_All (λ page. page ≢ []) pages h.filled));
  }

module _ {S D E : Type 0} (f : D → E) (o : Order S E) (k : Splitter S E) (z : Sizes S D) where
  pub sized_by_given : (items : List (List D)) (es : List D) → IsSizedBy f o k z items es → IsGiven o k (internal_pages z) (map (map f) (leaf_pages z items)) (map f es)
  sized_by_given items es g = record {
    order = g.order;
    splits = g.splits;
    cuts = fill_in_twos (λ d. z.first_size) (λ d. separator_size z d.0) z.budget (IsItemOver o k (map f es)) (λ c d p q. small d.0 q);
    leaves_cut = mapped_cut f es (leaf_pages z items) (pages_of_items es items (fill_pages z.item_size z.item_size z.budget items) g.items_cut (fill_cuts z.item_size z.item_size z.budget items));
    rising = g.rising;
  }
    where
      small : (t : Option S) → ((s : S) → t ≡ Some s → IsBetween o k (map f es) s) → z.first_size + separator_size z t ≤ z.budget
      small None h = g.first_small
      small (Some s) h =
          let b = h s refl in
          subst (λ w. z.first_size + z.pivot_size w ≤ z.budget) (sym b.is) (g.small b.left b.right b.left_in b.right_in b.apart)

  -- the leaves of entries that have more
  pub sized_by_cut : (items : List (List D)) (es : List D) → IsSizedBy f o k z items es → IsCut es (leaf_pages z items)
  sized_by_cut items es g = pages_of_items es items (fill_pages z.item_size z.item_size z.budget items) g.items_cut (fill_cuts z.item_size z.item_size z.budget items)

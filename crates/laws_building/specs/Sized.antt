-- A tree whose pages are filled by the sizes of their items.
use Rattle.std.specs.Prelude.{◌≡◌, ◌+◌, ◌≤◌, true, ℕ, List, Option, Some, None, length, map}
use Rattle.std.specs.List.{AllAdjacentBelow, Contains}
use Rattle.laws_search.specs.Order.{Order}
use Rattle.laws_building.specs.Cuts.{joined, fill_pages, IsCut}
use Rattle.laws_building.specs.Built.{Cutting, Splitter}
use Rattle.laws_building.specs.Fresh.{IsKeyOrder, IsSplitter}

-- What items take on a page, each with its line pointer, and what a page may take.
pub record Sizes (S E : Type 0) : Type 0 where
  -- an item of a leaf, of one entry or more
  pub item_size : List E → ℕ
  -- an item of an internal page with this separator
  pub pivot_size : S → ℕ
  -- the first item of an internal page, which keeps nothing
  pub first_size : ℕ
  pub budget : ℕ

abbrev pub separator_size : {S E : Type 0} → Sizes S E → Option S → ℕ
separator_size z None = z.first_size
separator_size z (Some s) = z.pivot_size s

-- the pages of an internal level
abbrev pub internal_pages : {S E : Type 0} → Sizes S E → Cutting S
internal_pages z items = fill_pages (λ d. z.first_size) (λ d. separator_size z d.0) z.budget items

-- the leaves
abbrev pub leaf_pages : {S E : Type 0} → Sizes S E → (items : List (List E)) → List (List E)
leaf_pages z items = map joined (fill_pages z.item_size z.item_size z.budget items)

-- rising entries in items, with separators that are small against a page. The entries have more than the order looks
-- at, which is what f gives of them
pub record IsSizedBy {S D E : Type 0} (f : D → E) (o : Order S E) (k : Splitter S E) (z : Sizes S D)
    (items : List (List D)) (es : List D) : Type 0 where
  pub order : IsKeyOrder o
  pub splits : IsSplitter o k
  pub items_cut : IsCut es items
  pub rising : AllAdjacentBelow (λ d e. o.precedes d e ≡ true) (map f es) (length (map f es))
  pub first_small : z.first_size + z.first_size ≤ z.budget
  pub small : (d e : E) → Contains (map f es) d → Contains (map f es) e → o.precedes d e ≡ true
      → z.first_size + z.pivot_size (k.split_key d e) ≤ z.budget

-- A level that is laid is the next one of its tree.
use Rattle.std.proofs.Common.{◌≡◌, ◌≤◌, ◌<◌, ◌+◌, ◌∙◌, ℕ, suc, List, [], ◌∷◌, ◌++◌, length, sym, ap, subst, arith, append_assoc}
use Rattle.std.specs.List.{AllByRecursion, flat_map}
use Rattle.laws_search.proofs.Lists.{Each-back, Each-front}
use Rattle.key_orders.specs.declared.columns.KeySpec.{KeySpec}
use Rattle.key_orders.specs.declared.more.MoreSpec.{MoreSpec}
use Rattle.bt_image.specs.Image.{LeafEntry}
use Rattle.laws_building.specs.Built.{block_after, lay_level, lay_levels}
use Rattle.laws_building.proofs.Tower.{block_after_is}
use Rattle.laws_built_index.specs.Trees.{IsPageFit, ItemPage, page_bytes}
use Rattle.bt_build.specs.declared.groups.Item.{Item}
use Rattle.bt_build.specs.declared.levels.Level.{Level}
use Rattle.bt_build.specs.Laid.{AreLevelsLeft, level_bytes, levels_bytes}
use Rattle.bt_build.specs.Levels.{AreAbove, IsLeafLevel, BeginAt, IsLevelAbove, ItemSheet, inner_by, leaves_by, sheets_above}
use Rattle.bt_build.proofs.LevelLaws.{above_begin, begin_length}
use Rattle.bt_build.proofs.TreeLaws.{flat_append}

module _ (specs : List KeySpec) (ms : List MoreSpec) (es : List LeafEntry) where
  -- no level goes beyond the end
  pub within_end : (below : Level) (ups : List Level) (end : ℕ) → AreAbove specs es below ups end → below.first + length below.bounds.items ≤ end
  within_end below [] end above = omega (arith, above.1)
  within_end below (up ∷ ups) end above = let r = within_end up ups end above.2 in omega (arith, r, above.1.first)

  module _ (below up : Level) (ups : List Level) (end : ℕ) (out target : List ℕ) (left : AreLevelsLeft specs ms es below (up ∷ ups) end out target) where
    abbrev sheets : List ItemSheet
    sheets = inner_by specs es up.counts.items below.bounds.items below.first

    pub is_above : IsLevelAbove specs es below up
    is_above = left.above.1

    pub begins : BeginAt specs es sheets up.bounds.items
    begins = above_begin specs ms es below up is_above

    pub below_few : below.first + length below.bounds.items ≤ 65536
    below_few = let w = within_end below (up ∷ ups) end left.above in omega (arith, w, left.few)

    pub up_few : up.first + length up.bounds.items ≤ 65536
    up_few = let w = within_end up ups end left.above.2 in omega (arith, w, left.few)

    pub number_few : below.number < 65536
    number_few = let b = below_few in omega (arith, b, left.low)

    starts : below.first + length below.bounds.items ≡ up.first
    starts = sym is_above.first

    next_starts : block_after sheets (below.first + length below.bounds.items) ≡ up.first + length up.bounds.items
    next_starts = block_after_is sheets (below.first + length below.bounds.items) ∙ (let l = begin_length specs ms es sheets up.bounds.items begins in omega (arith, l, is_above.first))

    -- its pages, and those above it
    abbrev here : List ItemPage
    here = lay_level sheets (suc below.number) 0 up.first

    abbrev later : List ItemPage
    later = lay_levels (sheets_above specs es up ups) (suc up.number) (up.first + length up.bounds.items)

    parts : lay_levels (sheets_above specs es below (up ∷ ups)) (suc below.number) (below.first + length below.bounds.items) ≡ here ++ later
    parts = λ i. lay_level sheets (suc below.number) 0 (starts i) ++ lay_levels (sheets_above specs es up ups) (suc (sym is_above.number i)) (next_starts i)

    pub here_fit : AllByRecursion (IsPageFit specs ms) here
    here_fit = Each-front (IsPageFit specs ms) here later (subst (AllByRecursion (IsPageFit specs ms)) parts left.fit)

    pub next_left : AreLevelsLeft specs ms es up ups end (out ++ level_bytes specs ms sheets (suc below.number) 0 up.first) target
    next_left = record {
      above = left.above.2;
      low = omega (arith, left.low, left.above.0, is_above.number, is_above.first);
      few = left.few;
      fit = Each-back (IsPageFit specs ms) here later (subst (AllByRecursion (IsPageFit specs ms)) parts left.fit);
      whole =
          append_assoc out (flat_map (page_bytes specs ms) here) (flat_map (page_bytes specs ms) later)
          ∙ ap (λ (w : List ℕ). out ++ w) (sym (flat_append (page_bytes specs ms) here later))
          ∙ (λ i. out ++ flat_map (page_bytes specs ms) (sym parts i))
          ∙ left.whole;
    }

  -- the leaves, and what is above them
  module _ (leaf : Level) (ups : List Level) (end : ℕ) (items : List Item) (is : IsLeafLevel items leaf) (many : length (leaves_by specs es leaf.counts.items items) ≡ length leaf.bounds.items) where
    abbrev leaf_sheets : List ItemSheet
    leaf_sheets = leaves_by specs es leaf.counts.items items

    abbrev leaf_here : List ItemPage
    leaf_here = lay_level leaf_sheets 0 0 1

    abbrev leaf_later : List ItemPage
    leaf_later = lay_levels (sheets_above specs es leaf ups) (suc leaf.number) (leaf.first + length leaf.bounds.items)

    leaf_parts : lay_levels (leaf_sheets ∷ sheets_above specs es leaf ups) 0 1 ≡ leaf_here ++ leaf_later
    leaf_parts =
        let after : block_after leaf_sheets 1 ≡ leaf.first + length leaf.bounds.items = block_after_is leaf_sheets 1 ∙ omega (arith, many, is.first) in
        λ i. leaf_here ++ lay_levels (sheets_above specs es leaf ups) (suc (sym is.number i)) (after i)

    module _ (fit : AllByRecursion (IsPageFit specs ms) (lay_levels (leaf_sheets ∷ sheets_above specs es leaf ups) 0 1)) where
      pub leaf_fit : AllByRecursion (IsPageFit specs ms) leaf_here
      leaf_fit = Each-front (IsPageFit specs ms) leaf_here leaf_later (subst (AllByRecursion (IsPageFit specs ms)) leaf_parts fit)

      pub first_left : (out : List ℕ) → AreAbove specs es leaf ups end → end ≤ 65536
          → AreLevelsLeft specs ms es leaf ups end (out ++ level_bytes specs ms leaf_sheets 0 0 1) (out ++ levels_bytes specs ms (leaf_sheets ∷ sheets_above specs es leaf ups) 0 1)
      first_left out above few = record {
        above = above;
        low = omega (arith, is.number, is.first);
        few = few;
        fit = Each-back (IsPageFit specs ms) leaf_here leaf_later (subst (AllByRecursion (IsPageFit specs ms)) leaf_parts fit);
        whole =
            append_assoc out (flat_map (page_bytes specs ms) leaf_here) (flat_map (page_bytes specs ms) leaf_later)
            ∙ ap (λ (w : List ℕ). out ++ w) (sym (flat_append (page_bytes specs ms) leaf_here leaf_later))
            ∙ (λ i. out ++ flat_map (page_bytes specs ms) (sym leaf_parts i));
      }

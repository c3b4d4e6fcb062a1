-- The live pages of a quiet level tile the keys.
use Rattle.std.proofs.Common.{◌≡◌, ◌≢◌, ℕ, ◌-◌, ◌≤◌, Bool, false, List, [], ◌∷◌, refl, subst, arith}
use Rattle.std.specs.Prelude.{Option, None}
use Rattle.std.specs.List.{filter}
use Rattle.laws_search.specs.Order.{Order}
use Rattle.laws_search.specs.Tree.{Index}
use Rattle.laws_search.specs.Levels.{Row, row, row_role, Dead, Linked, Right_half, Neither, is_live, level_rows}
use Rattle.laws_search.specs.Searchable.{IsInUse, IsSoundPage, IsSearchable, KeyAbove}
use Rattle.laws_search.specs.Tiles.{live_rows, Tile}
use Rattle.laws_search.proofs.Rows.{Sound, level_is}

module _ {S E : Type 0} (o : Order S E) (x : Index S E) (sound : (b : ℕ) → IsInUse x b → IsSoundPage o x b) where
  tiles : (rs : List (Row S)) (level : ℕ) (split : Bool) (lower : Option S) (b : ℕ) → Sound o x level split lower b rs → (b ≡ 0 → lower ≡ None) → Tile o x lower (filter (λ r. is_live (row_role r)) rs)
  tiles [] level split lower b s end = end s
  tiles (row p Dead lo ∷ rs) level split lower b s end = tiles rs level _ _ _ s.1 (λ z. absurd (s.0.role.0 z))
  tiles (row p Neither lo ∷ rs) level split lower b s end = absurd s.0.role
  tiles (row p Linked lo ∷ rs) level split lower b s end =
      (s.0.low, λ u t is key. subst (λ z. KeyAbove o z t) is (s.0.key refl t key), tiles rs level _ _ _ s.1 (λ z. (sound p s.0.here.0).no_high_key z))
  tiles (row p Right_half lo ∷ rs) level split lower b s end =
      (s.0.low, λ u t is key. subst (λ z. KeyAbove o z t) is (s.0.key refl t key), tiles rs level _ _ _ s.1 (λ z. (sound p s.0.here.0).no_high_key z))

-- from minus infinity to the end
pub level_tiles : {S E : Type 0} (o : Order S E) (x : Index S E) → IsSearchable o x → x.root ≢ 0 → (n : ℕ) → n ≤ x.level → Tile o x None (live_rows x n)
level_tiles o x quiet root n le =
    let lev = level_is o x quiet root n (x.level - n) (omega arith) in
    tiles o x quiet.pages (level_rows x n) (x.level - n) false None lev.first lev.sound (λ z. refl)

-- The one leaf on which an entry may stand.
use Rattle.std.specs.Prelude.{◌≡◌, ◌+◌, ◌-◌, ◌==◌, ℕ, zero, suc, Bool, true, not, ◌&&◌, ◌||◌, cond, nat_lt, List, []}
use Rattle.std.specs.Prelude.{◌∷◌, Option, Some, None, Contains}
use Rattle.std.specs.List.{filter}
use Rattle.laws_search.specs.Order.{Order}
use Rattle.laws_search.specs.Tree.{Index}
use Rattle.laws_search.specs.Levels.{Dead, Linked, Right_half, Neither, Row, row, level_rows}
use Rattle.laws_search.specs.Search.{right_of, last_or, entries_of}

-- the child that the way of the entry leads to
abbrev pub child_for : {S : Type 0} → (S → Bool) → S × ℕ → List (S × ℕ) → ℕ
child_for goes c cs = (last_or c (filter (λ d. goes d.0) cs)).1

-- the leaf that is read after at most n visits, if there is one
abbrev pub leaf_after : {S E : Type 0} → Index S E → (S → Bool) → ℕ → ℕ → Option ℕ
leaf_after x goes zero b = None
leaf_after x goes (suc n) b =
    cond (not (b == 0) && (nat_lt b x.blocks && not (x.page b).idle))
    (cond (right_of goes (x.page b).high_key || (x.page b).half_dead) (leaf_after x goes n (x.page b).next)
    (cond (not (x.page b).leaf)
    (elim (x.page b).children as (λ cs. Option ℕ) [
      | [] ↦ None
      | c ∷ cs ↦ leaf_after x goes n (child_for goes c cs)
    ])
    (Some b)))
    None

-- how many pages of a level are right halves
abbrev pub right_halves : {S : Type 0} → List (Row S) → ℕ
right_halves [] = 0
right_halves (row p Dead lo ∷ rs) = right_halves rs
right_halves (row p Linked lo ∷ rs) = right_halves rs
right_halves (row p Right_half lo ∷ rs) = suc (right_halves rs)
right_halves (row p Neither lo ∷ rs) = right_halves rs

-- those of the level n below the top, and of the m levels under it
abbrev pub halves_down : {S E : Type 0} → Index S E → ℕ → ℕ → ℕ
halves_down x zero n = right_halves (level_rows x n)
halves_down x (suc m) n = right_halves (level_rows x n) + halves_down x m (suc n)

-- Within fastlevel + 1 visits and one for each right half the way of an entry ends on a leaf, and no other leaf has it.
abbrev pub FindsLeaf : {S E : Type 0} → Order S E → Index S E → Type 0
FindsLeaf {S} {E} o x =
    (e : E) → (p : ℕ)
    × (leaf_after x (λ s. not (o.within e s))
    (x.fastlevel + 1 + halves_down x x.fastlevel (x.level - x.fastlevel)) x.fastroot ≡ Some p)
    × ((d : E) → Contains (entries_of x) d
    → (o.precedes d e ≡ true → ⊥) → (o.precedes e d ≡ true → ⊥) → Contains (x.page p).entries d)

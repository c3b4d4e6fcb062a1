-- The last TID of a list.
use Rattle.std.proofs.Common.{◌≡◌, suc, ◌-◌, List, [], ◌∷◌, length, ap, ◌∙◌, arith}
use Rattle.std.specs.Prelude.{Option, Some, None, slice_get}
use Rattle.key_orders.specs.declared.Tid.{Tid}
use Rattle.bt_tuples.specs.Keys.{last_tid}

pub last_is : (d t : Tid) (ts : List Tid) → Some t ≡ slice_get ts (length ts - 1) → t ≡ last_tid d ts
last_is d t [] e = absurd (clash e)
  where
    clash : ◌≡◌ {A = Option Tid} (Some t) None → ⊥
    clash h = cc
last_is d t (u ∷ []) e = inner e
  where
    inner : ◌≡◌ {A = Option Tid} (Some t) (Some u) → t ≡ u
    inner h = cc
last_is d t (u ∷ v ∷ ts) e =
    let to : length (u ∷ v ∷ ts) - 1 ≡ suc (length (v ∷ ts) - 1) = omega arith in
    last_is u t (v ∷ ts) (e ∙ ap (slice_get (u ∷ v ∷ ts)) to)

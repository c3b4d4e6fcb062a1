-- An internal page's second data item is above its lower bound, since the rules hold on the level below.
use Rattle.std.proofs.Common.{◌≡◌, ◌≢◌, ℕ, zero, suc, ◌+◌, ◌-◌, ◌≤◌, Bool, true, false, ◌&&◌, List, [], ◌∷◌, ◌++◌}
use Rattle.std.proofs.Common.{refl, sym, ap, ◌∙◌, subst, arith}
use Rattle.std.specs.Prelude.{⊤, Option, Some, None}
use Rattle.std.specs.List.{flat_map, All}
use Rattle.std.proofs.lemmas.Bool.{both_ways}
use Rattle.std.proofs.lemmas.List.Elements.{All-from_recursion}
use Rattle.laws_search.specs.Order.{Order}
use Rattle.laws_search.specs.Tree.{Index}
use Rattle.laws_search.specs.Levels.{Dead, Linked, Right_half, Neither, Row, row, row_page, row_role, row_lower}
use Rattle.laws_search.specs.Levels.{is_live, Downlink, page_downlinks, row_downlinks, level_rows}
use Rattle.laws_search.specs.Searchable.{IsInUse, IsSoundPage, KeyAbove, IsSearchable}
use Rattle.laws_search.proofs.Lists.{Each}
use Rattle.laws_search.proofs.Rows.{Sound, linked_downs, level_is}
use Rattle.laws_levels.specs.Rules.{second_separator, HasLowItem, IsLowSeparator}
use Rattle.laws_levels.specs.Sound.{IsTransitive}
use Rattle.laws_levels.proofs.Find.{some_eq}

-- the second data item of a live internal page is above its lower bound
abbrev pub ItemsAbove : {S E : Type 0} → Order S E → Index S E → Type 0
ItemsAbove o x = (n : ℕ) → n ≤ x.level → All (λ r. is_live (row_role r) ≡ true → ¬ HasLowItem o (row_lower r) (x.page (row_page r))) (level_rows x n)

-- the second separator is there and above the first
abbrev Up : {S E : Type 0} → Order S E → Option S → Option S → Type 0
Up o None t = ⊤
Up {S} o (Some s) t = (u : S) × (t ≡ Some u) × (o.under s u ≡ true)

abbrev Rises : {S E : Type 0} → Order S E → List (Downlink S) → Type 0
Rises o [] = ⊤
Rises o (d ∷ []) = ⊤
Rises o (d ∷ e ∷ ds) = Up o d.0 e.0 × Rises o (e ∷ ds)

rises_front : {S E : Type 0} (o : Order S E) (xs ys : List (Downlink S)) → Rises o (xs ++ ys) → Rises o xs
rises_front o [] ys h = tt
rises_front o (d ∷ []) ys h = tt
rises_front o (d ∷ e ∷ xs) ys h = (h.0, rises_front o (e ∷ xs) ys h.1)

rises_rest : {S E : Type 0} (o : Order S E) (d : Downlink S) (ds : List (Downlink S)) → Rises o (d ∷ ds) → Rises o ds
rises_rest o d [] h = tt
rises_rest o d (e ∷ ds) h = h.1

rises_back : {S E : Type 0} (o : Order S E) (xs ys : List (Downlink S)) → Rises o (xs ++ ys) → Rises o ys
rises_back o [] ys h = h
rises_back o (d ∷ xs) ys h = rises_back o xs ys (rises_rest o d (xs ++ ys) h)

rises_cons :
    {S E : Type 0} (o : Order S E) (d : Downlink S) (ds : List (Downlink S))
    → ((e : Downlink S) (es : List (Downlink S)) → ds ≡ e ∷ es → Up o d.0 e.0) → Rises o ds → Rises o (d ∷ ds)
rises_cons o d [] up h = tt
rises_cons o d (e ∷ ds) up h = (up e ds refl, h)

module _ {S E : Type 0} (o : Order S E) (chained : IsTransitive o) (x : Index S E) (sound : (b : ℕ) → IsInUse x b → IsSoundPage o x b) where
  -- where a linked row follows the walk isn't at its end
  goes_on :
      (rs : List (Row S)) (m : ℕ) (split : Bool) (lower : Option S) (b : ℕ) (e : Downlink S) (es : List (Downlink S))
      → Sound o x m split lower b rs → linked_downs rs ≡ e ∷ es → b ≢ 0
  goes_on [] m split lower b e es s is = absurd cc
  goes_on (row p r lo ∷ rs) m split lower b e es s is = λ z. s.0.here.0.not_meta (sym s.0.at ∙ z)

  -- the next linked row's lower bound is above what that of this row was
  next_up :
      (l : S) (rs : List (Row S)) (m : ℕ) (split : Bool) (u : S) (b : ℕ) (e : Downlink S) (es : List (Downlink S))
      → o.under l u ≡ true → Sound o x m split (Some u) b rs → linked_downs rs ≡ e ∷ es → Up o (Some l) e.0
  next_up l [] m split u b e es lt s is = absurd cc
  next_up l (row p Dead lo ∷ rs) m split u b e es lt s is = next_up l rs m _ u _ e es lt s.1 is
  next_up l (row p Neither lo ∷ rs) m split u b e es lt s is = absurd s.0.role
  next_up l (row p Linked lo ∷ rs) m split u b e es lt s is = (u, first is ∙ s.0.low, lt)
    where
      first : (lo, p) ∷ linked_downs rs ≡ e ∷ es → e.0 ≡ lo
      first h = let k : ◌≡◌ {A = Downlink S} (lo, p) e = cc in ap (λ (d : Downlink S). d.0) (sym k)
  next_up l (row p Right_half lo ∷ rs) m split u b e es lt s is =
      let key = (sound p s.0.here.0).a_high_key s.0.role.0 (goes_on rs m _ _ _ e es s.1 is) in
      let above : KeyAbove o lo key.0 = s.0.key refl key.0 key.1 in
      let more : o.under u key.0 ≡ true = subst (λ z. KeyAbove o z key.0) s.0.low above in
      next_up l rs m _ key.0 _ e es (chained l u key.0 lt more) (subst (λ z. Sound o x m (is_live Right_half && (x.page p).incomplete_split) z (x.page p).next rs) key.1 s.1) is

  from_linked :
      (lo : Option S) (p : ℕ) (rs : List (Row S)) (m : ℕ) (split : Bool) (lower : Option S) (b : ℕ)
      → Sound o x m split lower b (row p Linked lo ∷ rs) → (e : Downlink S) (es : List (Downlink S))
      → linked_downs rs ≡ e ∷ es → Up o lo e.0
  from_linked None p rs m split lower b s e es is = tt
  from_linked (Some l) p rs m split lower b s e es is =
      let key = (sound p s.0.here.0).a_high_key s.0.role (goes_on rs m _ _ _ e es s.1 is) in
      next_up l rs m _ key.0 _ e es (s.0.key refl key.0 key.1) (subst (λ z. Sound o x m (is_live Linked && (x.page p).incomplete_split) z (x.page p).next rs) key.1 s.1) is

  level_rises :
      (rs : List (Row S)) (m : ℕ) (split : Bool) (lower : Option S) (b : ℕ) → Sound o x m split lower b rs
      → Rises o (linked_downs rs)
  level_rises [] m split lower b s = tt
  level_rises (row p Dead lo ∷ rs) m split lower b s = level_rises rs m _ _ _ s.1
  level_rises (row p Neither lo ∷ rs) m split lower b s = absurd s.0.role
  level_rises (row p Right_half lo ∷ rs) m split lower b s = level_rises rs m _ _ _ s.1
  level_rises (row p Linked lo ∷ rs) m split lower b s = rises_cons o (lo, p) (linked_downs rs) (from_linked lo p rs m split lower b s) (level_rises rs m _ _ _ s.1)

  -- so does that of each live row
  item_up :
      (lower : Option S) (cs : List (S × ℕ)) → Rises o (page_downlinks lower cs)
      → ¬ IsLowSeparator o lower (second_separator cs)
  item_up None cs h k = k.2 tt
  item_up (Some l) [] h k = absurd (let e = k.1 in cc)
  item_up (Some l) (c ∷ []) h k = absurd (let e = k.1 in cc)
  item_up (Some l) (c ∷ d ∷ cs) h k = k.2 (subst (λ z. o.under l z ≡ true) (some_eq h.0.0 k.0 (sym h.0.1 ∙ k.1)) h.0.2)

  rows_up :
      (m : ℕ) (rs : List (Row S)) (split : Bool) (lower : Option S) (b : ℕ) → Sound o x m split lower b rs
      → Rises o (flat_map (row_downlinks x) rs)
      → Each (λ r. is_live (row_role r) ≡ true → ¬ HasLowItem o (row_lower r) (x.page (row_page r))) rs
  rows_up m [] split lower b s h = tt
  rows_up m (row p Dead lo ∷ rs) split lower b s h = ((λ live. absurd (both_ways false refl live)), rows_up m rs _ _ _ s.1 h)
  rows_up m (row p Neither lo ∷ rs) split lower b s h = absurd s.0.role
  rows_up m (row p Linked lo ∷ rs) split lower b s h = (
    (λ live k. item_up lo (x.page p).children (rises_front o (page_downlinks lo (x.page p).children) (flat_map (row_downlinks x) rs) h) k.1),
    rows_up m rs _ _ _ s.1 (rises_back o (page_downlinks lo (x.page p).children) (flat_map (row_downlinks x) rs) h),
  )
  rows_up m (row p Right_half lo ∷ rs) split lower b s h = (
    (λ live k. item_up lo (x.page p).children (rises_front o (page_downlinks lo (x.page p).children) (flat_map (row_downlinks x) rs) h) k.1),
    rows_up m rs _ _ _ s.1 (rises_back o (page_downlinks lo (x.page p).children) (flat_map (row_downlinks x) rs) h),
  )

  -- a leaf has no such item
  leaf_up :
      (rs : List (Row S)) (split : Bool) (lower : Option S) (b : ℕ) → Sound o x 0 split lower b rs
      → Each (λ r. is_live (row_role r) ≡ true → ¬ HasLowItem o (row_lower r) (x.page (row_page r))) rs
  leaf_up [] split lower b s = tt
  leaf_up (row p r lo ∷ rs) split lower b s = ((λ live k. both_ways (x.page p).leaf k.0 ((sound p s.0.here.0).leaf_if_below s.0.here.1)), leaf_up rs _ _ _ s.1)

pub items_above : {S E : Type 0} (o : Order S E) → IsTransitive o → (x : Index S E) → IsSearchable o x → x.root ≢ 0 → ItemsAbove o x
items_above o chained x fit root n le = All-from_recursion (λ r. is_live (row_role r) ≡ true → ¬ HasLowItem o (row_lower r) (x.page (row_page r))) (level_rows x n) (go (x.level - n) (omega arith))
  where
    go :
        (m : ℕ) → m + n ≡ x.level
        → Each (λ r. is_live (row_role r) ≡ true → ¬ HasLowItem o (row_lower r) (x.page (row_page r))) (level_rows x n)
    go zero is = let lev = level_is o x fit root n zero is in leaf_up o chained x fit.pages (level_rows x n) false None lev.first lev.sound
    go (suc m) is =
        let lev = level_is o x fit root n (suc m) is in
        let low = level_is o x fit root (suc n) m (omega arith) in
        rows_up o chained x fit.pages (suc m) (level_rows x n) false None lev.first lev.sound (subst (Rises o) low.downs (level_rises o chained x fit.pages (level_rows x (suc n)) m false None low.first low.sound))

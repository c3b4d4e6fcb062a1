-- The backward searcher's runs: visits add up, and what was appended before is a front that stays.
use Rattle.std.proofs.Common.{◌≡◌, ℕ, zero, suc, ◌+◌, ◌-◌, ◌≤◌, inl, inr, Bool, true, false, cond, ◌||◌, List, ◌++◌, refl, sym, ap, ◌∙◌, arith, append_assoc}
use Rattle.std.specs.Prelude.{⊤, ◌==◌}
use Rattle.std.specs.List.{list_any}
use Rattle.std.proofs.lemmas.Bool.{cases_lt}
use Rattle.laws_search.specs.Order.{Scan}
use Rattle.laws_search.specs.Tree.{Page, Index}
use Rattle.laws_search.specs.Back.{Back, BackState, Seeks, Reads, Over, Lost, found_back, read_page, seek_page, can_visit, after_back}
use Rattle.laws_back_search.specs.Spots.{appended_of, visits_back, rest_back, left_back, LeadsBack}

pub through_cond : {A B : Type 0} (f : A → B) (t : Bool) (a b : A) → f (cond t a b) ≡ cond t (f a) (f b)
through_cond f true a b = refl
through_cond f false a b = refl

-- with more appended before. The first phase has appended nothing
abbrev pub prepend : {E : Type 0} → List E → BackState E → BackState E
prepend zs (Seeks b) = Seeks b
prepend zs (Reads b ys) = Reads b (zs ++ ys)
prepend zs (Over ys) = Over (zs ++ ys)
prepend zs Lost = Lost

-- the first phase is behind it
abbrev pub IsBehind : {E : Type 0} → BackState E → Type 0
IsBehind (Seeks b) = ⊥
IsBehind (Reads b ys) = ⊤
IsBehind (Over ys) = ⊤
IsBehind Lost = ⊤

-- the searcher still goes on
abbrev pub GoesStill : {E : Type 0} → BackState E → Type 0
GoesStill (Seeks b) = ⊤
GoesStill (Reads b ys) = ⊤
GoesStill (Over ys) = ⊥
GoesStill Lost = ⊥

module _ {S E : Type 0} (killed : E → Bool) (x : Index S E) (scan : Scan S E) (back : Back S E) where
  abbrev after : ℕ → BackState E → BackState E
  after n s = after_back killed x scan back n s

  abbrev made : ℕ → BackState E → ℕ
  made n s = visits_back killed x scan back n s

  -- one visit
  abbrev pub visit_back : BackState E → BackState E
  visit_back (Seeks b) = cond (can_visit x b) (seek_page killed scan back (x.page b)) Lost
  visit_back (Reads b ys) = cond (can_visit x b) (read_page killed scan back (x.page b) ys) Lost
  visit_back (Over ys) = Over ys
  visit_back Lost = Lost

  pub over_stays : (n : ℕ) (zs : List E) → after_back killed x scan back n (Over zs) ≡ Over zs
  over_stays zero zs = refl
  over_stays (suc n) zs = refl

  pub lost_stays : (n : ℕ) → after_back killed x scan back n Lost ≡ Lost
  lost_stays zero = refl
  lost_stays (suc n) = refl

  pub after_suc : (n : ℕ) (s : BackState E) → after_back killed x scan back (suc n) s ≡ after_back killed x scan back n (visit_back s)
  after_suc n (Seeks b) = refl
  after_suc n (Reads b ys) = refl
  after_suc n (Over ys) = sym (over_stays n ys)
  after_suc n Lost = sym (lost_stays n)

  -- visits add up
  pub after_after : (k n : ℕ) (s : BackState E) → after_back killed x scan back (k + n) s ≡ after_back killed x scan back n (after_back killed x scan back k s)
  after_after zero n s = ap (λ m. after m s) (omega arith)
  after_after (suc k) n s =
      let e : suc k + n ≡ suc (k + n) = omega arith in
      ap (λ m. after m s) e ∙ (after_suc (k + n) s ∙ (after_after k n (visit_back s) ∙ ap (after n) (sym (after_suc k s))))

  pub after_one : (v : ℕ) (s t u : BackState E) → after_back killed x scan back v s ≡ t → visit_back t ≡ u → after_back killed x scan back (v + 1) s ≡ u
  after_one v s t u comes to = after_after v 1 s ∙ (ap (after 1) comes ∙ (after_suc 0 t ∙ to))

  -- who has ended stays so
  pub more_back : (k n : ℕ) (s : BackState E) (zs : List E) → k ≤ n → after_back killed x scan back k s ≡ Over zs → after_back killed x scan back n s ≡ Over zs
  more_back k n s zs le h =
      let e : n ≡ k + (n - k) = omega arith in
      ap (λ m. after m s) e ∙ (after_after k (n - k) s ∙ (ap (after (n - k)) h ∙ over_stays (n - k) zs))

  made_over : (n : ℕ) (zs : List E) → visits_back killed x scan back n (Over zs) ≡ 0
  made_over zero zs = refl
  made_over (suc n) zs = refl

  -- and makes no more visits
  pub made_enough : (n m : ℕ) (s : BackState E) (zs : List E) → n ≤ m → after_back killed x scan back n s ≡ Over zs → visits_back killed x scan back m s ≡ visits_back killed x scan back n s
  made_enough zero m s zs le e = ap (made m) e ∙ made_over m zs
  made_enough (suc n) zero s zs le e = absurd (omega arith)
  made_enough (suc n) (suc m) (Seeks b) zs le e = ap suc (made_enough n m (visit_back (Seeks b)) zs (omega arith) e)
  made_enough (suc n) (suc m) (Reads b ys) zs le e = ap suc (made_enough n m (visit_back (Reads b ys)) zs (omega arith) e)
  made_enough (suc n) (suc m) (Over ys) zs le e = refl
  made_enough (suc n) (suc m) Lost zs le e = refl

  pub made_most : (n : ℕ) (s : BackState E) → visits_back killed x scan back n s ≤ n
  made_most zero s = omega arith
  made_most (suc n) (Seeks b) = let h = made_most n (visit_back (Seeks b)) in omega (arith, h)
  made_most (suc n) (Reads b ys) = let h = made_most n (visit_back (Reads b ys)) in omega (arith, h)
  made_most (suc n) (Over ys) = omega arith
  made_most (suc n) Lost = omega arith

  -- so many visits are enough
  made_ends : (n : ℕ) (s : BackState E) (zs : List E) → after_back killed x scan back n s ≡ Over zs → after_back killed x scan back (visits_back killed x scan back n s) s ≡ Over zs
  made_ends zero s zs e = e
  made_ends (suc n) (Seeks b) zs e = made_ends n (visit_back (Seeks b)) zs e
  made_ends (suc n) (Reads b ys) zs e = made_ends n (visit_back (Reads b ys)) zs e
  made_ends (suc n) (Over ys) zs e = e
  made_ends (suc n) Lost zs e = absurd cc

  -- FRONTS

  pub read_front : (zs : List E) (p : Page S E) (ys : List E) → read_page killed scan back p (zs ++ ys) ≡ prepend zs (read_page killed scan back p ys)
  unfolding read_page
  read_front zs p ys =
      let f = found_back killed scan back p in
      let t = list_any back.before_low p.entries || p.prev == 0 in
      ap (λ w. cond t (Over w) (Reads p.prev w)) (append_assoc zs ys f) ∙ sym (through_cond (prepend zs) t (Over (ys ++ f)) (Reads p.prev (ys ++ f)))

  pub read_behind : (p : Page S E) (ys : List E) → IsBehind (read_page killed scan back p ys)
  unfolding read_page
  read_behind p ys = go (list_any back.before_low p.entries || p.prev == 0)
    where
      go : (t : Bool) → IsBehind (cond t (Over (ys ++ found_back killed scan back p)) (Reads p.prev (ys ++ found_back killed scan back p)))
      go true = tt
      go false = tt

  pub visit_front : (zs : List E) (s : BackState E) → IsBehind s → visit_back (prepend zs s) ≡ prepend zs (visit_back s)
  visit_front zs (Seeks b) h = absurd h
  visit_front zs (Reads b ys) h =
      ap (λ w. cond (can_visit x b) w Lost) (read_front zs (x.page b) ys) ∙ sym (through_cond (prepend zs) (can_visit x b) (read_page killed scan back (x.page b) ys) Lost)
  visit_front zs (Over ys) h = refl
  visit_front zs Lost h = refl

  pub visit_behind : (s : BackState E) → IsBehind s → IsBehind (visit_back s)
  visit_behind (Seeks b) h = absurd h
  visit_behind (Reads b ys) h = go (can_visit x b)
    where
      go : (t : Bool) → IsBehind (cond t (read_page killed scan back (x.page b) ys) Lost)
      go true = read_behind (x.page b) ys
      go false = tt
  visit_behind (Over ys) h = tt
  visit_behind Lost h = tt

  -- what was appended before stays a front
  pub after_front : (n : ℕ) (zs : List E) (s : BackState E) → IsBehind s → after_back killed x scan back n (prepend zs s) ≡ prepend zs (after_back killed x scan back n s)
  after_front zero zs s h = refl
  after_front (suc n) zs s h =
      after_suc n (prepend zs s) ∙ (ap (after n) (visit_front zs s h) ∙ (after_front n zs (visit_back s) (visit_behind s h) ∙ ap (prepend zs) (sym (after_suc n s))))

  pub made_front : (n : ℕ) (zs : List E) (s : BackState E) → IsBehind s → visits_back killed x scan back n (prepend zs s) ≡ visits_back killed x scan back n s
  made_front zero zs s h = refl
  made_front (suc n) zs (Seeks b) h = absurd h
  made_front (suc n) zs (Reads b ys) h = ap suc (ap (made n) (visit_front zs (Reads b ys) tt) ∙ made_front n zs (visit_back (Reads b ys)) (visit_behind (Reads b ys) tt))
  made_front (suc n) zs (Over ys) h = refl
  made_front (suc n) zs Lost h = refl

  -- the end behind a front
  pub over_behind : (zs : List E) (s : BackState E) (ws : List E) → prepend zs s ≡ Over ws → (us : List E) × (s ≡ Over us)
  over_behind zs (Seeks b) ws e = absurd cc
  over_behind zs (Reads b ys) ws e = absurd cc
  over_behind zs (Over ys) ws e = (ys, refl)
  over_behind zs Lost ws e = absurd cc

  pub ends_behind : (n : ℕ) (zs : List E) (s : BackState E) (ws : List E) → IsBehind s → after_back killed x scan back n (prepend zs s) ≡ Over ws → (us : List E) × (after_back killed x scan back n s ≡ Over us)
  ends_behind n zs s ws h e = over_behind zs (after n s) ws (sym (after_front n zs s h) ∙ e)

  -- WHAT IS LEFT

  abbrev all : ℕ
  all = x.blocks + x.blocks

  pub rest_front : (zs : List E) (s : BackState E) (us : List E) → IsBehind s → after_back killed x scan back (x.blocks + x.blocks) s ≡ Over us → rest_back killed x scan back (prepend zs s) ≡ zs ++ rest_back killed x scan back s
  unfolding rest_back
  rest_front zs s us h e = ap appended_of (after_front all zs s h ∙ ap (prepend zs) e) ∙ ap (λ w. zs ++ appended_of w) (sym e)

  pub left_front : (zs : List E) (s : BackState E) → IsBehind s → left_back killed x scan back (prepend zs s) ≡ left_back killed x scan back s
  unfolding left_back
  left_front zs s h = made_front all zs s h

  pub rest_over : (zs : List E) → rest_back killed x scan back (Over zs) ≡ zs
  unfolding rest_back
  rest_over zs = ap appended_of (over_stays all zs)

  pub left_over : (zs : List E) → left_back killed x scan back (Over zs) ≡ 0
  unfolding left_back
  left_over zs = made_over all zs

  pub left_most : (s : BackState E) → left_back killed x scan back s ≤ x.blocks + x.blocks
  unfolding left_back
  left_most s = made_most all s

  pub left_ends : (s : BackState E) (zs : List E) → after_back killed x scan back (x.blocks + x.blocks) s ≡ Over zs → after_back killed x scan back (left_back killed x scan back s) s ≡ Over zs
  unfolding left_back
  left_ends s zs e = made_ends all s zs e

  pub left_least : (s : BackState E) (n : ℕ) (zs : List E) → after_back killed x scan back n s ≡ Over zs → left_back killed x scan back s ≤ n
  unfolding left_back
  left_least s n zs e = elim (cases_lt all n) [
    | inl lt ↦ let h = made_most all s in omega (arith, h)
    | inr ge ↦ let h = made_most n s in let same : made all s ≡ made n s = made_enough n all s zs ge e in omega (arith, h, same)
  ]

  pub same_leads : (s t : BackState E) → s ≡ t → LeadsBack killed x scan back 0 s t
  same_leads s t e = record {
    rest = ap (rest_back killed x scan back) e;
    left = let h : left_back killed x scan back s ≡ left_back killed x scan back t = ap (left_back killed x scan back) e in omega (arith, h);
  }

  -- one visit, where the end comes in time
  pub visit_leads : (n : ℕ) (s : BackState E) (us : List E) → GoesStill s → suc n ≤ x.blocks + x.blocks → after_back killed x scan back n (visit_back s) ≡ Over us → LeadsBack killed x scan back 1 s (visit_back s)
  unfolding rest_back left_back
  visit_leads n s us goes le ends =
      let m = all - 1 in
      let is : all ≡ suc m = omega arith in
      let le_m : n ≤ m = omega arith in
      let le_all : n ≤ all = omega arith in
      let over_m : after m (visit_back s) ≡ Over us = more_back n m (visit_back s) us le_m ends in
      let over_all : after all (visit_back s) ≡ Over us = more_back n all (visit_back s) us le_all ends in
      let same : made m (visit_back s) ≡ made all (visit_back s) = made_enough n m (visit_back s) us le_m ends ∙ sym (made_enough n all (visit_back s) us le_all ends) in
      let one : made (suc m) s ≡ suc (made m (visit_back s)) = counts m s goes in
      let whole : made all s ≡ made (suc m) s = ap (λ k. made k s) is in
      record {
        rest = ap (λ k. appended_of (after k s)) is ∙ (ap appended_of (after_suc m s ∙ over_m) ∙ ap appended_of (sym over_all));
        left = omega (arith, same, one, whole);
      }
    where
      counts : (m : ℕ) (s : BackState E) → GoesStill s → visits_back killed x scan back (suc m) s ≡ suc (visits_back killed x scan back m (visit_back s))
      counts m (Seeks b) h = refl
      counts m (Reads b ys) h = refl
      counts m (Over ys) h = absurd h
      counts m Lost h = absurd h

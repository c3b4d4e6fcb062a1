-- Pages filled by a budget.
use Rattle.std.proofs.Common.{◌≡◌, ◌≢◌, ℕ, ◌+◌, ◌<◌, ◌≤◌, inl, inr, Bool, true, false, cond, List, [], ◌∷◌, ◌++◌, map, refl, sym, ap, ◌∙◌, subst, arith, append_assoc, append-nil}
use Rattle.std.specs.Prelude.{nat_le}
use Rattle.std.specs.List.{Contains}
use Rattle.std.proofs.lemmas.Bool.{leb-true, leb-false, le-leb, cond-true, cond-false, cases_Bool}
use Rattle.std.proofs.lemmas.List.Elements.{recursion_from_All, All-from_recursion}
use Rattle.laws_search.proofs.Lists.{Each, Each-from_in}
use Rattle.laws_search.proofs.Unique.{Contains-from_In}
use Rattle.laws_building.specs.Cuts.{joined, IsCut, TwoButLast, fill, fill_pages, CutsInTwos, size_sum, page_size, NoRoom, FullButLast, IsFilled, put_item}

either : {X : Type 0} (P : X → Type 0) (b : Bool) (x y : X) → (b ≡ true → P x) → (b ≡ false → P y) → P (cond b x y)
either P true x y f g = f refl
either P false x y f g = g refl

two_front : {X : Type 0} (x y : X) (xs : List X) (pages : List (List X)) → TwoButLast pages → TwoButLast ((x ∷ y ∷ xs) ∷ pages)
two_front x y xs [] h = tt
two_front x y xs (p ∷ pages) h = (tt, h)

module _ {X : Type 0} (first size : X → ℕ) (budget : ℕ) where
  abbrev F : List X → ℕ → List X × List (List X)
  F xs used = fill first size budget xs used

  fill_whole : (xs : List X) (used : ℕ) → (fill first size budget xs used).0 ++ joined (fill first size budget xs used).1 ≡ xs
  fill_whole [] used = refl
  fill_whole (x ∷ xs) used =
      either (λ (r : List X × List (List X)). r.0 ++ joined r.1 ≡ x ∷ xs) (nat_le (used + size x) budget) (let r = fill first size budget xs (used + size x) in (x ∷ r.0, r.1)) (let r = fill first size budget xs (first x) in ([], (x ∷ r.0) ∷ r.1))
      (λ h. ap (λ w. x ∷ w) (fill_whole xs (used + size x))) (λ h. ap (λ w. x ∷ w) (fill_whole xs (first x)))

  fill_filled : (xs : List X) (used : ℕ) → Each (λ page. page ≢ []) (fill first size budget xs used).1
  fill_filled [] used = tt
  fill_filled (x ∷ xs) used =
      either (λ (r : List X × List (List X)). Each (λ page. page ≢ []) r.1) (nat_le (used + size x) budget) (let r = fill first size budget xs (used + size x) in (x ∷ r.0, r.1)) (let r = fill first size budget xs (first x) in ([], (x ∷ r.0) ∷ r.1))
      (λ h. fill_filled xs (used + size x)) (λ h. (λ e. absurd cc, fill_filled xs (first x)))

  pub fill_cuts : (xs : List X) → IsCut xs (fill_pages first size budget xs)
  fill_cuts [] = record { whole = refl; filled = All-from_recursion (λ page. page ≢ []) [] tt }
  fill_cuts (x ∷ xs) = record {
    whole = ap (λ w. x ∷ w) (fill_whole xs (first x));
    filled = All-from_recursion (λ page. page ≢ []) (fill_pages first size budget (x ∷ xs)) (λ e. absurd cc, fill_filled xs (first x));
  }

  -- no page takes more than the budget
  fill_within : (xs : List X) → Each (λ x. first x ≤ budget) xs → (used : ℕ) → used ≤ budget → (used + size_sum size (fill first size budget xs used).0 ≤ budget) × Each (λ page. page_size first size page ≤ budget) (fill first size budget xs used).1
  fill_within [] small used le = (omega arith, tt)
  fill_within (x ∷ xs) small used le =
      either (λ (r : List X × List (List X)). (used + size_sum size r.0 ≤ budget) × Each (λ page. page_size first size page ≤ budget) r.1) (nat_le (used + size x) budget) (let r = fill first size budget xs (used + size x) in (x ∷ r.0, r.1)) (let r = fill first size budget xs (first x) in ([], (x ∷ r.0) ∷ r.1))
      (λ h. let ih = fill_within xs small.1 (used + size x) (leb-true (used + size x) budget h) in let sum : (used + size x) + size_sum size (fill first size budget xs (used + size x)).0 ≤ budget = ih.0 in (omega arith, ih.1))
      (λ h. let ih = fill_within xs small.1 (first x) small.0 in (omega arith, ih))

  -- and none is left before it is full
  fill_full : (xs : List X) (used : ℕ) → NoRoom size budget (used + size_sum size (fill first size budget xs used).0) (fill first size budget xs used).1 × FullButLast first size budget (fill first size budget xs used).1
  fill_full [] used = (tt, tt)
  fill_full (x ∷ xs) used =
      either (λ (r : List X × List (List X)). NoRoom size budget (used + size_sum size r.0) r.1 × FullButLast first size budget r.1) (nat_le (used + size x) budget) (let r = fill first size budget xs (used + size x) in (x ∷ r.0, r.1)) (let r = fill first size budget xs (first x) in ([], (x ∷ r.0) ∷ r.1))
      (λ h. let ih = fill_full xs (used + size x) in let r = fill first size budget xs (used + size x) in let same : (used + size x) + size_sum size r.0 ≡ used + (size x + size_sum size r.0) = omega arith in (subst (λ n. NoRoom size budget n r.1) same ih.0, ih.1))
      (λ h. let over : budget < used + size x = leb-false (used + size x) budget h in (omega arith, fill_full xs (first x)))

  pub filled : (xs : List X) → ((x : X) → Contains xs x → first x ≤ budget) → IsFilled first size budget xs (fill_pages first size budget xs)
  filled xs small = go xs (Each-from_in (λ x. first x ≤ budget) xs (λ x i. small x (Contains-from_In xs x i)))
    where
      go : (xs : List X) → Each (λ x. first x ≤ budget) xs → IsFilled first size budget xs (fill_pages first size budget xs)
      go [] small = record { cut = fill_cuts []; within = All-from_recursion (λ page. page_size first size page ≤ budget) [] tt; full = tt }
      go (x ∷ xs) small = record {
        cut = fill_cuts (x ∷ xs);
        within = All-from_recursion (λ page. page_size first size page ≤ budget) (fill_pages first size budget (x ∷ xs)) (fill_within xs small.1 (first x) small.0);
        full = fill_full xs (first x);
      }

  -- the pages of a level that are left, as the rules of filling leave them
  abbrev Left : (used : ℕ) (pages : List (List X)) → Type 0
  Left used pages = NoRoom size budget used pages × FullButLast first size budget pages × Each (λ page. page_size first size page ≤ budget) pages × Each (λ page. page ≢ []) pages

  on_page : (pages : List (List X)) → ((used : ℕ) → Left used pages → fill first size budget (joined pages) used ≡ ([], pages)) → (ws : List X) (used : ℕ) → used + size_sum size ws ≤ budget → Left (used + size_sum size ws) pages → fill first size budget (ws ++ joined pages) used ≡ (ws, pages)
  on_page pages after [] used le left = let same : used + 0 ≡ used = omega arith in after used (subst (λ n. Left n pages) same left)
  on_page pages after (z ∷ zs) used le left =
      let rest = fill first size budget (zs ++ joined pages) (used + size z) in
      let new = fill first size budget (zs ++ joined pages) (first z) in
      let goes : fill first size budget (z ∷ (zs ++ joined pages)) used ≡ (z ∷ rest.0, rest.1) = cond-true (nat_le (used + size z) budget) (z ∷ rest.0, rest.1) ([], (z ∷ new.0) ∷ new.1) (le-leb (used + size z) budget (omega arith)) in
      let same : used + (size z + size_sum size zs) ≡ (used + size z) + size_sum size zs = omega arith in
      let ih = on_page pages after zs (used + size z) (omega arith) (subst (λ n. Left n pages) same left) in
      goes ∙ ap (λ (r : List X × List (List X)). (z ∷ r.0, r.1)) ih

  next_page : (pages : List (List X)) (used : ℕ) → Left used pages → fill first size budget (joined pages) used ≡ ([], pages)
  next_page [] used left = refl
  next_page ([] ∷ pages) used left = absurd (left.3.0 refl)
  next_page ((y ∷ ys) ∷ pages) used left =
      let rest = fill first size budget (ys ++ joined pages) (used + size y) in
      let new = fill first size budget (ys ++ joined pages) (first y) in
      let full : budget < used + size y = left.0 in
      let goes : fill first size budget (y ∷ (ys ++ joined pages)) used ≡ ([], (y ∷ new.0) ∷ new.1) = cond-false (nat_le (used + size y) budget) (y ∷ rest.0, rest.1) ([], (y ∷ new.0) ∷ new.1) (gt-leb (used + size y) budget full) in
      let here = on_page pages (next_page pages) ys (first y) left.2.0 (left.1.0, left.1.1, left.2.1, left.3.1) in
      goes ∙ ap (λ (r : List X × List (List X)). ([], (y ∷ r.0) ∷ r.1)) here
    where
      gt-leb : (a b : ℕ) → b < a → nat_le a b ≡ false
      gt-leb a b h = elim (cases_Bool (nat_le a b)) [ inl t ↦ absurd (let le = leb-true a b t in omega arith) | inr t ↦ t ]

  -- the rules of filling leave no choice
  pub only_filled : (xs : List X) (pages : List (List X)) → IsFilled first size budget xs pages → pages ≡ fill_pages first size budget xs
  only_filled xs pages h = go pages (recursion_from_All (λ page. page ≢ []) pages h.cut.filled) (recursion_from_All (λ page. page_size first size page ≤ budget) pages h.within) h.full ∙ ap (fill_pages first size budget) h.cut.whole
    where
      go : (pages : List (List X)) → Each (λ page. page ≢ []) pages → Each (λ page. page_size first size page ≤ budget) pages → FullButLast first size budget pages → pages ≡ fill_pages first size budget (joined pages)
      go [] some small full = refl
      go ([] ∷ pages) some small full = absurd (some.0 refl)
      go ((x ∷ xs) ∷ pages) some small full =
          sym (ap (λ (r : List X × List (List X)). (x ∷ r.0) ∷ r.1) (on_page pages (next_page pages) xs (first x) small.0 (full.0, full.1, small.1, some.1)))

  size_sum-push : (xs : List X) (y : X) → size_sum size (xs ++ y ∷ []) ≡ size_sum size xs + size y
  size_sum-push [] y = omega arith
  size_sum-push (x ∷ xs) y = let ih = size_sum-push xs y in omega arith

  -- one item more, where the present page has x and these
  goes_on : (y : X) (xs : List X) (x : X) (pre : List X) (used : ℕ) → used ≡ page_size first size (x ∷ pre) → ◌≡◌ {A = List (List X)} ((x ∷ (pre ++ (fill first size budget (xs ++ y ∷ []) used).0)) ∷ (fill first size budget (xs ++ y ∷ []) used).1) (put_item first size budget ((x ∷ (pre ++ (fill first size budget xs used).0)) ∷ (fill first size budget xs used).1) y)
  goes_on y [] x pre used is =
      let W : List X × List (List X) → List (List X) = λ r. (x ∷ (pre ++ r.0)) ∷ r.1 in
      let none : pre ++ [] ≡ pre = append-nil pre in
      let left : W (cond (nat_le (used + size y) budget) (y ∷ [], []) ([], (y ∷ []) ∷ [])) ≡ cond (nat_le (used + size y) budget) ((x ∷ (pre ++ y ∷ [])) ∷ []) ((x ∷ (pre ++ [])) ∷ (y ∷ []) ∷ []) =
      moved W (nat_le (used + size y) budget) (y ∷ [], []) ([], (y ∷ []) ∷ []) in
      let right : cond (nat_le (page_size first size (x ∷ (pre ++ [])) + size y) budget) (((x ∷ (pre ++ [])) ++ y ∷ []) ∷ []) ((x ∷ (pre ++ [])) ∷ (y ∷ []) ∷ []) ≡ cond (nat_le (used + size y) budget) ((x ∷ (pre ++ y ∷ [])) ∷ []) ((x ∷ (pre ++ [])) ∷ (y ∷ []) ∷ []) =
      ap (λ w. cond (nat_le (page_size first size (x ∷ w) + size y) budget) (((x ∷ w) ++ y ∷ []) ∷ []) ((x ∷ (pre ++ [])) ∷ (y ∷ []) ∷ [])) none
      ∙ ap (λ n. cond (nat_le (n + size y) budget) ((x ∷ (pre ++ y ∷ [])) ∷ []) ((x ∷ (pre ++ [])) ∷ (y ∷ []) ∷ [])) (sym is) in
      left ∙ sym right
    where
      moved : {A B : Type 0} (W : A → B) (b : Bool) (p q : A) → W (cond b p q) ≡ cond b (W p) (W q)
      moved W true p q = refl
      moved W false p q = refl
  goes_on y (z ∷ zs) x pre used is =
      let W : List X × List (List X) → List (List X) = λ r. (x ∷ (pre ++ r.0)) ∷ r.1 in
      let put : List (List X) → List (List X) = λ pages. put_item first size budget pages y in
      let more = fill first size budget zs (used + size z) in
      let more' = fill first size budget (zs ++ y ∷ []) (used + size z) in
      let new = fill first size budget zs (first z) in
      let new' = fill first size budget (zs ++ y ∷ []) (first z) in
      elim (cases_Bool (nat_le (used + size z) budget)) [
        | inl t ↦
            let here : fill first size budget (z ∷ zs) used ≡ (z ∷ more.0, more.1) = cond-true (nat_le (used + size z) budget) (z ∷ more.0, more.1) ([], (z ∷ new.0) ∷ new.1) t in
            let here' : fill first size budget (z ∷ (zs ++ y ∷ [])) used ≡ (z ∷ more'.0, more'.1) = cond-true (nat_le (used + size z) budget) (z ∷ more'.0, more'.1) ([], (z ∷ new'.0) ∷ new'.1) t in
            let sum : size_sum size (pre ++ z ∷ []) ≡ size_sum size pre + size z = size_sum-push pre z in
            let ih = goes_on y zs x (pre ++ z ∷ []) (used + size z) (omega arith) in
            let shift : (ws : List X) → (pre ++ z ∷ []) ++ ws ≡ pre ++ z ∷ ws = λ ws. append_assoc pre (z ∷ []) ws in
            ap W here' ∙ (ap (λ w. (x ∷ w) ∷ more'.1) (sym (shift more'.0)) ∙ (ih ∙ (ap (λ w. put ((x ∷ w) ∷ more.1)) (shift more.0) ∙ sym (ap (λ r. put (W r)) here))))
        | inr t ↦
            let here : fill first size budget (z ∷ zs) used ≡ ([], (z ∷ new.0) ∷ new.1) = cond-false (nat_le (used + size z) budget) (z ∷ more.0, more.1) ([], (z ∷ new.0) ∷ new.1) t in
            let here' : fill first size budget (z ∷ (zs ++ y ∷ [])) used ≡ ([], (z ∷ new'.0) ∷ new'.1) = cond-false (nat_le (used + size z) budget) (z ∷ more'.0, more'.1) ([], (z ∷ new'.0) ∷ new'.1) t in
            let ih = goes_on y zs z [] (first z) (omega arith) in
            ap W here' ∙ (ap (λ w. (x ∷ (pre ++ [])) ∷ w) ih ∙ sym (ap (λ r. put (W r)) here))
      ]

  pub one_more : (xs : List X) (y : X) → fill_pages first size budget (xs ++ y ∷ []) ≡ put_item first size budget (fill_pages first size budget xs) y
  one_more [] y = refl
  one_more (x ∷ xs) y = goes_on y xs x [] (first x) (omega arith)

  module _ (P : X → Type 0) (pair : (x y : X) → P x → P y → first x + size y ≤ budget) where
    -- the pages after the present one, and with it where it holds one item so far
    fill_twos : (xs : List X) → Each P xs → ((used : ℕ) → TwoButLast (fill first size budget xs used).1) × ((x : X) → P x → TwoButLast ((x ∷ (fill first size budget xs (first x)).0) ∷ (fill first size budget xs (first x)).1))
    fill_twos [] h = (λ used. tt, λ x p. tt)
    fill_twos (y ∷ ys) h =
        let ih = fill_twos ys h.1 in (
          λ used.
              either (λ (r : List X × List (List X)). TwoButLast r.1) (nat_le (used + size y) budget) (let r = fill first size budget ys (used + size y) in (y ∷ r.0, r.1)) (let r = fill first size budget ys (first y) in ([], (y ∷ r.0) ∷ r.1))
              (λ t. ih.0 (used + size y)) (λ t. ih.1 y h.0),
          λ x p.
              let room : nat_le (first x + size y) budget ≡ true = le-leb (first x + size y) budget (pair x y p h.0) in
              let r = fill first size budget ys (first x + size y) in
              let is : fill first size budget (y ∷ ys) (first x) ≡ (y ∷ r.0, r.1) = cond-true (nat_le (first x + size y) budget) (y ∷ r.0, r.1) (let r = fill first size budget ys (first y) in ([], (y ∷ r.0) ∷ r.1)) room in
              subst (λ (w : List X × List (List X)). TwoButLast ((x ∷ w.0) ∷ w.1)) (sym is) (two_front x y r.0 r.1 (ih.0 (first x + size y))),
        )

    pub fill_in_twos : CutsInTwos P (fill_pages first size budget)
    fill_in_twos = record { cuts = λ xs all. fill_cuts xs; twos = λ xs all. twos xs (recursion_from_All P xs all) }
      where
        twos : (xs : List X) → Each P xs → TwoButLast (fill_pages first size budget xs)
        twos [] h = tt
        twos (x ∷ xs) h = (fill_twos xs h.1).1 x h.0

-- pages of items of entries are pages of entries
pub pages_of_items : {E : Type 0} (es : List E) (items : List (List E)) (pages : List (List (List E))) → IsCut es items → IsCut items pages → IsCut es (map joined pages)
pages_of_items {E} es items pages a b = record {
  whole = flat pages ∙ (ap joined b.whole ∙ a.whole);
  filled = All-from_recursion (λ page. page ≢ []) (map joined pages) (some pages (recursion_from_All (λ page. page ≢ []) pages b.filled) (subst (Each (λ page. page ≢ [])) (sym b.whole) (recursion_from_All (λ page. page ≢ []) items a.filled)));
}
  where
    joined-append : (xs ys : List (List E)) → joined (xs ++ ys) ≡ joined xs ++ joined ys
    joined-append [] ys = refl
    joined-append (x ∷ xs) ys = ap (λ w. x ++ w) (joined-append xs ys) ∙ sym (append_assoc x (joined xs) (joined ys))

    flat : (pages : List (List (List E))) → joined (map joined pages) ≡ joined (joined pages)
    flat [] = refl
    flat (p ∷ pages) = ap (λ w. joined p ++ w) (flat pages) ∙ sym (joined-append p (joined pages))

    back : (xs ys : List (List E)) → Each (λ page. page ≢ []) (xs ++ ys) → Each (λ page. page ≢ []) ys
    back [] ys h = h
    back (x ∷ xs) ys h = back xs ys h.1

    one : (p : List (List E)) (ys : List (List E)) → p ≢ [] → Each (λ page. page ≢ []) (p ++ ys) → joined p ≢ []
    one [] ys ne h = absurd (ne refl)
    one ([] ∷ p) ys ne h = absurd (h.0 refl)
    one ((e ∷ es) ∷ p) ys ne h = λ z. absurd cc

    some : (pages : List (List (List E))) → Each (λ page. page ≢ []) pages → Each (λ page. page ≢ []) (joined pages) → Each (λ page. page ≢ []) (map joined pages)
    some [] h g = tt
    some (p ∷ pages) h g = (one p (joined pages) h.0 g, some pages h.1 (back p (joined pages) g))

-- From the fast root all is good, within as many visits as there are blocks.
use Rattle.std.proofs.Common.{◌≡◌, ◌≢◌, ℕ, zero, suc, ◌+◌, ◌-◌, ◌<◌, ◌≤◌, Bool, true, false, List, [], ◌∷◌, ◌++◌, length, map, refl, sym, ap, ◌∙◌, subst, arith, length-append, add-one}
use Rattle.std.specs.Prelude.{Option, Some, None, slice_get}
use Rattle.std.proofs.lemmas.List.{length-map}
use Rattle.laws_search.specs.Order.{Order}
use Rattle.laws_search.specs.Tree.{Index}
use Rattle.laws_search.specs.Levels.{Dead, Linked, Right_half, Neither, Row, row, row_page, row_role, level_rows}
use Rattle.laws_search.specs.Searchable.{IsInUse, IsSearchable}
use Rattle.laws_search.proofs.Lists.{Each, Each-in, Each-map, Each-append, NoRepeats, NoRepeats-append, length-no_repeats}
use Rattle.laws_search.proofs.Chains.{OnLevel}
use Rattle.laws_search.proofs.Rows.{Sound, linked_downs, level_is}
use Rattle.laws_search.proofs.Descent.{Reached, Guard, Keeps, pages_below, descends}

each_from_get : {X : Type 0} (P : X → Type 0) (xs : List X) → ((k : ℕ) (r : X) → slice_get xs k ≡ Some r → P r) → Each P xs
each_from_get P [] h = tt
each_from_get P (x ∷ xs) h = (h 0 x refl, each_from_get P xs (λ k r e. h (suc k) r e))

module _ {S E : Type 0} (o : Order S E) (x : Index S E) (quiet : IsSearchable o x) (root : x.root ≢ 0) where
  -- the pages of the levels below
  abbrev names_below : ℕ → ℕ → List ℕ
  names_below zero n = []
  names_below (suc m) n = map row_page (level_rows x (suc n)) ++ names_below m (suc n)

  abbrev Lower : ℕ → ℕ → Type 0
  Lower m b = IsInUse x b × ((x.page b).level < m)

  below_apart : (m n : ℕ) → m + n ≡ x.level → NoRepeats (names_below m n) × Each (Lower m) (names_below m n)
  below_apart zero n is = (tt, tt)
  below_apart (suc m) n is =
      let lev = level_is o x quiet root (suc n) m (omega arith) in
      let rest = below_apart m (suc n) (omega arith) in
      let here = lev.chain.here in (
        NoRepeats-append (map row_page (level_rows x (suc n))) (names_below m (suc n)) lev.chain.apart rest.0
            (λ b i j. let u = Each-in (OnLevel x m) b _ here i in let v = Each-in (Lower m) b _ rest.1 j in let e : (x.page b).level ≡ m = u.1 in let f : (x.page b).level < m = v.1 in absurd (omega arith)),
        Each-append (Lower (suc m)) (map row_page (level_rows x (suc n))) (names_below m (suc n))
            (Each-map (OnLevel x m) (Lower (suc m)) _ (λ b u. let e : (x.page b).level ≡ m = u.1 in (u.0, omega arith)) here)
            (Each-map (Lower m) (Lower (suc m)) _ (λ b u. let e : (x.page b).level < m = u.1 in (u.0, omega arith)) rest.1),
      )

  -- the pages of a level and of those below are no more than the blocks
  pub few_pages : (m n : ℕ) → m + n ≡ x.level → length (level_rows x n) + length (names_below m n) ≤ x.blocks
  few_pages m n is =
      let lev = level_is o x quiet root n m is in
      let rest = below_apart m n is in
      let here = lev.chain.here in
      let ps = map row_page (level_rows x n) in
      let apart = NoRepeats-append ps (names_below m n) lev.chain.apart rest.0
      (λ b i j. let u = Each-in (OnLevel x m) b ps here i in let v = Each-in (Lower m) b (names_below m n) rest.1 j in let e : (x.page b).level ≡ m = u.1 in let f : (x.page b).level < m = v.1 in absurd (omega arith)) in
      let inside = Each-append (λ b. b < x.blocks) ps (names_below m n) (Each-map (OnLevel x m) (λ b. b < x.blocks) ps (λ b u. u.0.inside) here) (Each-map (Lower m) (λ b. b < x.blocks) (names_below m n) (λ b u. u.0.inside) rest.1) in
      let le : length (ps ++ names_below m n) ≤ x.blocks = length-no_repeats x.blocks (ps ++ names_below m n) apart inside in
      omega (arith, length-append ps (names_below m n), length-map (level_rows x n) row_page)

  module _ (goes : S → Bool) (Good : ℕ → ℕ → Type 0) (keeps : Keeps o x goes Good) where
    few_below : ((rs : List (Row S)) → keeps.budget rs ≤ length rs) → (m n : ℕ) → pages_below o x quiet root goes Good keeps m n ≤ length (names_below m n)
    few_below few zero n = omega arith
    few_below few (suc m) n =
        let ih = few_below few m (suc n) in
        let here = few (level_rows x (suc n)) in
        omega (arith, length-append (map row_page (level_rows x (suc n))) (names_below m (suc n)), length-map (level_rows x (suc n)) row_page)

    no_links : (rs : List (Row S)) → Each (λ r. row_role r ≡ Right_half) rs → Guard goes (linked_downs rs)
    no_links [] all = tt
    no_links (row p Dead lo ∷ rs) all = absurd (cc (all.0))
    no_links (row p Linked lo ∷ rs) all = absurd (cc (all.0))
    no_links (row p Neither lo ∷ rs) all = absurd (cc (all.0))
    no_links (row p Right_half lo ∷ rs) all = no_links rs all.1

    -- the fast root is linked
    fast_not_dead : (level p : ℕ) (lo : Option S) (rs : List (Row S)) (b : ℕ) → Sound o x level false None b (row p Dead lo ∷ rs) → Each (λ r. row_role r ≡ Right_half) rs → ⊥
    fast_not_dead level p lo [] b s all = s.0.role.0 s.1
    fast_not_dead level p lo (row q Dead lq ∷ rs) b s all = absurd (cc (all.0))
    fast_not_dead level p lo (row q Linked lq ∷ rs) b s all = absurd (cc (all.0))
    fast_not_dead level p lo (row q Neither lq ∷ rs) b s all = absurd (cc (all.0))
    fast_not_dead level p lo (row q Right_half lq ∷ rs) b s all = absurd (let f : false ≡ true = s.1.0.role.1 in grind arith)

    later_halves : (r : Row S) (post : List (Row S)) → ((k : ℕ) (w : Row S) → slice_get (r ∷ post) (k + 1) ≡ Some w → row_role w ≡ Right_half) → Each (λ w. row_role w ≡ Right_half) post
    later_halves r post alone = each_from_get (λ w. row_role w ≡ Right_half) post (λ k w e. alone k w (ap (slice_get (r ∷ post)) (add-one k) ∙ e))

    from_fast : (m n : ℕ) → m + n ≡ x.level → (rs : List (Row S)) → level_rows x n ≡ rs → (first : ℕ) → first ≢ 0 → Sound o x m false None first rs → ((r : Row S) → slice_get rs 0 ≡ Some r → row_page r ≡ x.fastroot) → ((k : ℕ) (r : Row S) → slice_get rs (k + 1) ≡ Some r → row_role r ≡ Right_half) → Good x.fastroot (keeps.budget (level_rows x n) + pages_below o x quiet root goes Good keeps m n)
    from_fast m n is [] rows first ne s fast alone = absurd (ne s)
    from_fast m n is (row p Neither lo ∷ post) rows first ne s fast alone = absurd s.0.role
    from_fast m n is (row p Right_half lo ∷ post) rows first ne s fast alone = absurd (let f : false ≡ true = s.0.role.1 in grind arith)
    from_fast m n is (row p Dead lo ∷ post) rows first ne s fast alone = absurd (fast_not_dead m p lo post first s (later_halves (row p Dead lo) post alone))
    from_fast m n is (row p Linked lo ∷ post) rows first ne s fast alone =
        let later = later_halves (row p Linked lo) post alone in
        let reached : Reached goes lo = subst (Reached goes) (sym s.0.low) tt in
        let ends = descends o x quiet root goes Good keeps m n is post [] p Linked lo false None first rows s refl reached (no_links post later) in
        let at : p ≡ x.fastroot = fast (row p Linked lo) refl in
        let below = pages_below o x quiet root goes Good keeps m n in
        let le : suc (keeps.cost post) ≤ keeps.budget (level_rows x n) = subst (λ z. suc (keeps.cost post) ≤ keeps.budget z) (sym rows) (keeps.cost_part [] p lo post) in
        subst (λ z. Good z (keeps.budget (level_rows x n) + below)) at (keeps.later p (suc (keeps.cost post) + below) (keeps.budget (level_rows x n) + below) (omega arith) ends)

    -- from the fast root, at the cost of its level and of those below
    pub fast_good : Good x.fastroot (keeps.budget (level_rows x (x.level - x.fastlevel)) + pages_below o x quiet root goes Good keeps x.fastlevel (x.level - x.fastlevel))
    fast_good =
        let le = quiet.fast_below root in
        let n = x.level - x.fastlevel in
        let lev = level_is o x quiet root n x.fastlevel (omega arith) in
        from_fast x.fastlevel n (omega arith) (level_rows x n) refl lev.first lev.some lev.sound (quiet.fast_first root) (quiet.fast_alone root)

    pub fast_good_blocks : ((rs : List (Row S)) → keeps.budget rs ≤ length rs) → Good x.fastroot x.blocks
    fast_good_blocks few =
        let below = quiet.fast_below root in
        let n = x.level - x.fastlevel in
        let here = few (level_rows x n) in
        let rest = few_below few x.fastlevel n in
        let all = few_pages x.fastlevel n (omega arith) in
        keeps.later x.fastroot (keeps.budget (level_rows x n) + pages_below o x quiet root goes Good keeps x.fastlevel n) x.blocks (omega arith) fast_good

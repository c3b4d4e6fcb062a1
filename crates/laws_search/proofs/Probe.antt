-- The way of an entry ends on the one leaf that may have it, and is short.
use Rattle.std.proofs.Common.{◌≡◌, ◌≢◌, ℕ, zero, suc, ◌+◌, ◌-◌, ◌≤◌, inl, inr, Bool, true, false, cond, not, ◌&&◌, ◌||◌, List, [], ◌∷◌, ◌++◌, refl, sym, ap, ◌∙◌, subst, arith}
use Rattle.std.specs.Prelude.{Option, Some, None, ◌==◌, nat_lt, Contains}
use Rattle.std.specs.List.{filter, flat_map}
use Rattle.std.proofs.lemmas.Bool.{or_parts, and_from, cond-true, cond-false, not_from_true, not_from_false, not-true, not-false, ne_eqb, lt-ltb}
use Rattle.std.proofs.lemmas.List.Concat.{flat_map-append}
use Rattle.std.proofs.lemmas.List.Sorted.{IsPermutation-sym}
use Rattle.laws_search.specs.Order.{Order, IsOrder, Scan}
use Rattle.laws_search.specs.Tree.{Index}
use Rattle.laws_search.specs.Levels.{Role, Dead, Linked, Right_half, Neither, is_live, Row, row, lower_after, level_rows}
use Rattle.laws_search.specs.Searchable.{IsInUse, IsSearchable, EntryAbove}
use Rattle.laws_search.specs.Search.{right_of, entries_of}
use Rattle.laws_search.specs.Probe.{child_for, leaf_after, right_halves, halves_down, FindsLeaf}
use Rattle.laws_search.proofs.Lists.{In, In-cases, Each, Each-in}
use Rattle.laws_search.proofs.Rows.{Sound, level_is}
use Rattle.laws_search.proofs.Leaves.{row_entries, EntryWithin, before, above, no_key_last, is_leaf}
use Rattle.laws_search.proofs.Descent.{Reached, Keeps, passes, pages_below}
use Rattle.laws_search.proofs.Fast.{fast_good}
use Rattle.laws_search.proofs.Whole.{found}
use Rattle.laws_search.proofs.Unique.{In-permutation, Contains-from_In}
use Rattle.laws_search.proofs.Gather.{In-from_Contains}

-- one visit by its three tests
abbrev step : {S : Type 0} → (S → Bool) → (can right inner : Bool) → List (S × ℕ) → (ℕ → Option ℕ) → ℕ → ℕ → Option ℕ
step goes can right inner cs rest next b =
    cond can (cond right (rest next) (cond inner (elim cs as (λ cs. Option ℕ) [ [] ↦ None | c ∷ cs ↦ rest (child_for goes c cs) ]) (Some b))) None

step_more : {S : Type 0} (goes : S → Bool) (can right inner : Bool) (cs : List (S × ℕ)) (f g : ℕ → Option ℕ) (next b p : ℕ) → ((b p : ℕ) → f b ≡ Some p → g b ≡ Some p) → step goes can right inner cs f next b ≡ Some p → step goes can right inner cs g next b ≡ Some p
step_more goes false right inner cs f g next b p more h = absurd cc
step_more goes true true inner cs f g next b p more h = more next p h
step_more goes true false false cs f g next b p more h = h
step_more goes true false true [] f g next b p more h = absurd cc
step_more goes true false true (c ∷ cs) f g next b p more h = more (child_for goes c cs) p h

halves_part : {S : Type 0} (pre : List (Row S)) (q : ℕ) (lo : Option S) (rs : List (Row S)) → right_halves rs ≤ right_halves (pre ++ row q Linked lo ∷ rs)
halves_part [] q lo rs = omega arith
halves_part (row p Dead l ∷ pre) q lo rs = halves_part pre q lo rs
halves_part (row p Linked l ∷ pre) q lo rs = halves_part pre q lo rs
halves_part (row p Right_half l ∷ pre) q lo rs = let ih = halves_part pre q lo rs in omega arith
halves_part (row p Neither l ∷ pre) q lo rs = halves_part pre q lo rs

filter_all : {E : Type 0} (es : List E) → filter (λ e. true) es ≡ es
filter_all [] = refl
filter_all (e ∷ es) = ap (λ w. e ∷ w) (filter_all es)

module _ {S E : Type 0} (o : Order S E) (laws : IsOrder o) (x : Index S E) (quiet : IsSearchable o x) (root : x.root ≢ 0) (e : E) where
  abbrev goes : S → Bool
  goes s = not (o.within e s)

  record Leads (b n : ℕ) : Type 0 where
    leaf : ℕ
    found : leaf_after x goes n b ≡ Some leaf
    only : (d : E) → In d (flat_map (row_entries x) (level_rows x x.level)) → (o.precedes d e ≡ true → ⊥) → (o.precedes e d ≡ true → ⊥) → In d (x.page leaf).entries

  more_leaf : (n m b p : ℕ) → n ≤ m → leaf_after x goes n b ≡ Some p → leaf_after x goes m b ≡ Some p
  more_leaf zero m b p le h = absurd cc
  more_leaf (suc n) zero b p le h = absurd (omega arith)
  more_leaf (suc n) (suc m) b p le h =
      step_more goes (not (b == 0) && (nat_lt b x.blocks && not (x.page b).idle)) (right_of goes (x.page b).high_key || (x.page b).half_dead) (not (x.page b).leaf) (x.page b).children (leaf_after x goes n) (leaf_after x goes m) (x.page b).next b p (λ c q k. more_leaf n m c q (omega arith) k) h

  can : (b : ℕ) → IsInUse x b → (not (b == 0) && (nat_lt b x.blocks && not (x.page b).idle)) ≡ true
  can b used = and_from _ _ (not_from_false (b == 0) (ne_eqb b 0 used.not_meta)) (and_from _ _ (lt-ltb b x.blocks used.inside) (not_from_false (x.page b).idle used.used))

  -- what stands left of the leaf is below the entry
  below : (lo : Option S) (es : List E) (d : E) → Each (EntryWithin o lo) es → Reached goes lo → In d es → o.precedes d e ≡ true
  below None es d all reached h = absurd (Each-in (EntryWithin o None) d es all h)
  below (Some s) es d all reached h = laws.across d e s (Each-in (EntryWithin o (Some s)) d es all h) (not-true (o.within e s) reached)

  -- and what stands right of it is above
  beyond : (p : ℕ) (r : Role) (rs : List (Row S)) (split : Bool) (lower : Option S) → IsInUse x p → (x.page p).half_dead ≡ false → is_live r ≡ true → Sound o x 0 split (lower_after (x.page p) r lower) (x.page p).next rs → (h : Option S) → (x.page p).high_key ≡ h → right_of goes h ≡ false → (d : E) → In d (flat_map (row_entries x) rs) → o.precedes e d ≡ true
  beyond p r rs split lower used awake live s None is g d i =
      absurd (subst (λ z. In d (flat_map (row_entries x) z)) (no_key_last o laws x quiet.pages p 0 split (lower_after (x.page p) r lower) rs used awake is s) i)
  beyond p r rs split lower used awake live s (Some t) is g d i =
      let low : lower_after (x.page p) r lower ≡ Some t = cond-true (is_live r) (x.page p).high_key lower live ∙ is in
      let up : Each (EntryAbove o (Some t)) (flat_map (row_entries x) rs) = subst (λ z. Each (EntryAbove o z) (flat_map (row_entries x) rs)) low (above o laws x quiet.pages rs split (lower_after (x.page p) r lower) (x.page p).next s) in
      laws.across e d t (not-false (o.within e t) g) (Each-in (EntryAbove o (Some t)) d (flat_map (row_entries x) rs) up i)

  to_leaf : (post pre : List (Row S)) (p : ℕ) (r : Role) (lo : Option S) (split : Bool) (lower : Option S) (b : ℕ) → level_rows x x.level ≡ pre ++ row p r lo ∷ post → Sound o x 0 split lower b (row p r lo ∷ post) → is_live r ≡ true → Reached goes lo → passes x goes p ≡ false → Leads p (suc (right_halves post))
  to_leaf post pre p r lo split lower b rows s live reached stays =
      let lev = level_is o x quiet root x.level 0 (omega arith) in
      let whole : Sound o x 0 false None lev.first (pre ++ row p r lo ∷ post) = subst (Sound o x 0 false None lev.first) rows lev.sound in
      let left = before o laws x quiet.pages pre p r lo post false None lev.first whole in
      let parts = or_parts (right_of goes (x.page p).high_key) (x.page p).half_dead stays in
      let leaf = is_leaf o laws x quiet.pages p s.0.here in
      let all : flat_map (row_entries x) (level_rows x x.level) ≡ flat_map (row_entries x) pre ++ ((x.page p).entries ++ flat_map (row_entries x) post) = ap (flat_map (row_entries x)) rows ∙ flat_map-append (row_entries x) pre (row p r lo ∷ post) in
      record {
        leaf = p;
        found = cond-true _ _ _ (can p s.0.here.0) ∙ (cond-false (passes x goes p) _ _ stays ∙ cond-false (not (x.page p).leaf) _ _ (not_from_true (x.page p).leaf leaf));
        only = λ d i not_below not_above. elim (In-cases d (flat_map (row_entries x) pre) ((x.page p).entries ++ flat_map (row_entries x) post) (subst (In d) all i)) [
          | inl k ↦ absurd (not_below (below lo (flat_map (row_entries x) pre) d left reached k))
          | inr k ↦ elim (In-cases d (x.page p).entries (flat_map (row_entries x) post) k) [
            | inl j ↦ j
            | inr j ↦ absurd (not_above (beyond p r post _ lower s.0.here.0 parts.1 live s.1 (x.page p).high_key refl parts.0 d j))
          ]
        ];
      }

  abbrev keeps : Keeps o x goes Leads
  keeps = record {
    cost = λ rs. right_halves rs;
    budget = λ rs. suc (right_halves rs);
    cost_right = λ q lo rs. omega arith;
    cost_part = λ pre q lo rs. let le = halves_part pre q lo rs in omega arith;
    later = λ b n m le h. record { leaf = h.leaf; found = more_leaf n m b h.leaf le h.found; only = h.only };
    right = λ b n used g h. record { leaf = h.leaf; found = cond-true _ _ _ (can b used) ∙ (cond-true (passes x goes b) _ _ g ∙ h.found); only = h.only };
    down = λ b n c cs used g inner is h. record { leaf = h.leaf; found = cond-true _ _ _ (can b used) ∙ (cond-false (passes x goes b) _ _ g ∙ (cond-true (not (x.page b).leaf) _ _ (not_from_false (x.page b).leaf inner) ∙ (ap (λ z. elim z as (λ cs. Option ℕ) [ [] ↦ None | c ∷ cs ↦ leaf_after x goes n (child_for goes c cs) ]) is ∙ h.found))); only = h.only };
    leaf = λ post pre p r lo split lower b rows s live reached stays. to_leaf post pre p r lo split lower b rows s live reached stays;
  }

  cost_is : (m n : ℕ) → suc (right_halves (level_rows x n)) + pages_below o x quiet root goes Leads keeps m n ≡ m + 1 + halves_down x m n
  cost_is zero n = omega arith
  cost_is (suc m) n =
      let ih = cost_is m (suc n) in
      omega arith

  fast_leads : Leads x.fastroot (x.fastlevel + 1 + halves_down x x.fastlevel (x.level - x.fastlevel))
  fast_leads = subst (Leads x.fastroot) (cost_is x.fastlevel (x.level - x.fastlevel)) (fast_good o x quiet root goes Leads keeps)

  in_chain : (d : E) → Contains (entries_of x) d → In d (flat_map (row_entries x) (level_rows x x.level))
  in_chain d h =
      let every : Scan S E = record { goes_right = λ s. false; matches = λ e. true; past_high = λ e. false } in
      let w = found o laws x quiet root (λ e. false) every in
      let es = flat_map (row_entries x) (level_rows x x.level) in
      subst (In d) (filter_all es) (In-permutation (filter (λ e. true) (entries_of x)) (filter (λ e. true) es) d (IsPermutation-sym (filter (λ e. true) es) (filter (λ e. true) (entries_of x)) w.all_of_them) (subst (In d) (sym (filter_all (entries_of x))) (In-from_Contains (entries_of x) d h)))

pub finds_leaf : {S E : Type 0} (o : Order S E) (x : Index S E) → IsOrder o → IsSearchable o x → x.root ≢ 0 → FindsLeaf o x
finds_leaf o x laws quiet root = λ e.
    let r = fast_leads o laws x quiet root e in
    (r.leaf, r.found, λ d h not_below not_above. Contains-from_In (x.page r.leaf).entries d (r.only d (in_chain o laws x quiet root e d h) not_below not_above))

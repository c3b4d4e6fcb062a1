-- The way of an entry that is looked up.
use Rattle.std.proofs.Common.{◌≡◌, ◌≢◌, ℕ, zero, suc, ◌+◌, ◌-◌, inl, inr, Bool, true, false, List, [], ◌∷◌, refl, ap, sym, subst, ◌∙◌}
use Rattle.std.specs.Prelude.{Contains, None, Option, Some, cond, not, nat_lt, ◌==◌, ◌&&◌, ◌||◌}
use Rattle.std.specs.List.{filter}
use Rattle.std.proofs.lemmas.List.Sorted.{IsPermutation-sym}
use Rattle.std.proofs.lemmas.Bool.{and_from, and_left, and_right, both_ways, cases_Bool, cond-false, cond-true, eq-eqb, ne_eqb, not-true, not_from_false, not_from_true}
use Rattle.laws_search.specs.Order.{IsOrder, IsScan, Order, Scan}
use Rattle.laws_search.specs.Probe.{child_for, halves_down, leaf_after}
use Rattle.laws_search.specs.Search.{At, Ended, State, Stuck, after_visits, descend, entries_of, is_wanted, right_of, search_start, visit, visit_page}
use Rattle.laws_search.specs.Searchable.{IsSearchable}
use Rattle.laws_search.specs.Tree.{Index}
use Rattle.laws_search.proofs.Gather.{In-from_Contains}
use Rattle.laws_search.proofs.Lists.{In}
use Rattle.laws_search.proofs.Probe.{finds_leaf}
use Rattle.laws_search.proofs.Unique.{In-permutation}
use Rattle.laws_search.proofs.Whole.{after_ended, finds}

-- THE SCAN OF ONE ENTRY

module _ {S E : Type 0} (o : Order S E) (laws : IsOrder o) (e : E) where
  abbrev pub scan_of_one : Scan S E
  scan_of_one = record {
    goes_right = λ s. not (o.within e s);
    matches = λ d. not (o.precedes d e) && not (o.precedes e d);
    past_high = λ d. o.precedes e d;
  }

  pub is-scan : IsScan o scan_of_one
  is-scan = record {
    none_left = λ d s right within. and_left (not (o.precedes d e)) _ (not_from_true _ (laws.across d e s within (not-true _ right)));
    none_past = λ d past. and_right (not (o.precedes d e)) _ (not_from_true _ past);
    stays_past = λ d d' past above. laws.chained e d d' past above;
  }

-- THE WAY IS THE SEARCHER'S

module _ {S E : Type 0} (killed : E → Bool) (x : Index S E) (scan : Scan S E) where
  abbrev usable : ℕ → Bool
  usable b = not (b == 0) && (nat_lt b x.blocks && not (x.page b).idle)

  abbrev pub down-way : ℕ → List (S × ℕ) → Option ℕ
  down-way n [] = None
  down-way n (c ∷ cs) = leaf_after x scan.goes_right n (child_for scan.goes_right c cs)

  ended-at : {b : ℕ} {ys es : List E} → ◌≡◌ {A = State E} (At b ys) (Ended es) → ⊥
  ended-at h = cc

  none-some : {p : ℕ} → ◌≡◌ {A = Option ℕ} None (Some p) → ⊥
  none-some h = cc

  -- what a searcher that ends reaches, it reaches within its visits
  -- one step of the way
  pub way-step : (n b : ℕ) → leaf_after x scan.goes_right (suc n) b ≡ cond (usable b) (cond (right_of scan.goes_right (x.page b).high_key || (x.page b).half_dead) (leaf_after x scan.goes_right n (x.page b).next) (cond (not (x.page b).leaf) (down-way n (x.page b).children) (Some b))) None
  way-step n b = refl

  -- what a searcher that ends reaches, it reaches within its visits
  pub way-within : (m n b p : ℕ) (ys es : List E) → leaf_after x scan.goes_right n b ≡ Some p → after_visits killed x scan m (At b ys) ≡ Ended es → leaf_after x scan.goes_right m b ≡ Some p
  unfolding visit visit_page
  way-within zero n b p ys es way ends = absurd (ended-at ends)
  way-within (suc m) zero b p ys es way ends = absurd (none-some way)
  way-within (suc m) (suc n) b p ys es way ends =
      way-step m b ∙ go (usable b) (right_of scan.goes_right (x.page b).high_key || (x.page b).half_dead) (x.page b).leaf (x.page b).children (x.page b).next _ (λ next w a. way-within m n next p ys es w a) (sym (way-step n b) ∙ way) ends
    where
      go : (u behind leaf : Bool) (cs : List (S × ℕ)) (next : ℕ) (rest : State E)
          → ((k : ℕ) → leaf_after x scan.goes_right n k ≡ Some p → after_visits killed x scan m (At k ys) ≡ Ended es → leaf_after x scan.goes_right m k ≡ Some p)
          → cond u (cond behind (leaf_after x scan.goes_right n next) (cond (not leaf) (down-way n cs) (Some b))) None ≡ Some p
          → after_visits killed x scan m (cond u (cond behind (At next ys) (cond (not leaf) (descend scan cs ys) rest)) Stuck) ≡ Ended es
          → cond u (cond behind (leaf_after x scan.goes_right m next) (cond (not leaf) (down-way m cs) (Some b))) None ≡ Some p
      go false behind leaf cs next rest again w a = absurd (none-some w)
      go true true leaf cs next rest again w a = again next w a
      go true false true cs next rest again w a = w
      go true false false [] next rest again w a = absurd (none-some w)
      go true false false (c ∷ cs) next rest again w a = again (child_for scan.goes_right c cs) w a

-- AN ENTRY'S LEAF

filter-in : {X : Type 0} (p : X → Bool) (x : X) (xs : List X) → In x xs → p x ≡ true → In x (filter p xs)
filter-in p x [] h holds = absurd h
filter-in {X} p x (y ∷ ys) h holds = elim (cases_Bool (p y)) [
  | inl t ↦ subst (In x) (sym (cond-true (p y) (y ∷ filter p ys) (filter p ys) t)) (elim h [
    | inl e ↦ inl e
    | inr k ↦ inr (filter-in p x ys k holds)
  ])
  | inr f ↦ subst (In x) (sym (cond-false (p y) (y ∷ filter p ys) (filter p ys) f)) (elim h [
    | inl e ↦ absurd (both_ways (p y) f (subst (λ (z : X). p z ≡ true) e holds))
    | inr k ↦ filter-in p x ys k holds
  ])
]

module _ {S E : Type 0} (o : Order S E) (x : Index S E) (laws : IsOrder o) (searchable : IsSearchable o x) (e : E) where
  abbrev pub goes : S → Bool
  goes s = not (o.within e s)

  -- an entry that stands where e does, in the order
  abbrev pub IsLevel : E → Type 0
  IsLevel d = (o.precedes d e ≡ false) × (o.precedes e d ≡ false)

  pub record Leaf : Type 0 where
    pub leaf : ℕ
    pub soon : leaf_after x goes (x.fastlevel + 1 + halves_down x x.fastlevel (x.level - x.fastlevel)) x.fastroot ≡ Some leaf
    pub inside : leaf_after x goes x.blocks x.fastroot ≡ Some leaf
    pub only : (d : E) → Contains (entries_of x) d → IsLevel d → Contains (x.page leaf).entries d

  clash : (b : Bool) → b ≡ false → b ≡ true → ⊥
  clash b f t = both_ways b f t

  pub has-leaf : (E → Bool) → x.fastroot ≢ 0 → Leaf
  unfolding search_start
  has-leaf killed some =
      let root : x.root ≢ 0 = λ none. some (searchable.root_or_empty.0 none) in
      let way = finds_leaf o x laws searchable root e in
      let found = finds o x laws searchable killed (scan_of_one o laws e) (is-scan o laws e) in
      let start : search_start x ≡ At x.fastroot [] = cond-false (x.fastroot == 0) _ _ (ne_eqb x.fastroot 0 some) in
      record {
        leaf = way.0;
        soon = way.1;
        inside = way-within killed x (scan_of_one o laws e) x.blocks _ x.fastroot way.0 [] found.0 way.1 (ap (after_visits killed x (scan_of_one o laws e) x.blocks) (sym start) ∙ found.2);
        only = λ d there level. way.2 d there (clash (o.precedes d e) level.0) (clash (o.precedes e d) level.1);
      }

  -- in an empty tree each entry is killed, and so there is none that isn't
  pub none-alive : (killed : E → Bool) → x.fastroot ≡ 0 → (d : E) → Contains (entries_of x) d → IsLevel d → killed d ≡ true
  unfolding search_start
  none-alive killed none d there level =
      let scan = scan_of_one o laws e in
      let found = finds o x laws searchable killed scan (is-scan o laws e) in
      let start : search_start x ≡ Ended [] = cond-true (x.fastroot == 0) _ _ (eq-eqb x.fastroot 0 none) in
      let empty : found.0 ≡ [] = ended-is found.0 [] (sym found.2 ∙ (ap (after_visits killed x scan x.blocks) start ∙ after_ended killed x scan x.blocks [])) in
      elim (cases_Bool (killed d)) [
        | inl t ↦ t
        | inr f ↦
            let wanted : is_wanted killed scan d ≡ true = and_from (scan.matches d) (not (killed d)) (and_from (not (o.precedes d e)) (not (o.precedes e d)) (not_from_false _ level.0) (not_from_false _ level.1)) (not_from_false _ f) in
            let all = filter (is_wanted killed scan) (entries_of x) in
            let in-all = filter-in (is_wanted killed scan) d (entries_of x) (In-from_Contains (entries_of x) d there) wanted in
            absurd (subst (In d) empty (In-permutation all found.0 d (IsPermutation-sym found.0 all found.1.all_of_them) in-all))
      ]
    where
      ended-is : (xs ys : List E) → ◌≡◌ {A = State E} (Ended xs) (Ended ys) → xs ≡ ys
      ended-is xs ys h = cc

-- The searcher's runs: what has been yielded is a front that stays, and visits add up.
use Rattle.std.proofs.Common.{◌≡◌, ℕ, zero, suc, ◌+◌, ◌-◌, ◌≤◌, inl, inr, Bool, true, false, cond, not, ◌&&◌, ◌||◌, List, [], ◌∷◌, ◌++◌, length, take, drop, refl, sym, ap, ◌∙◌, arith, append_assoc, append-nil, one-add}
use Rattle.std.specs.Prelude.{Some, slice_get, ◌==◌, nat_lt}
use Rattle.std.specs.List.{filter, list_any, take_while, prefix_len}
use Rattle.std.proofs.lemmas.Bool.{cases_Bool, cond-true, cond-false, or_parts, and_parts, not-true, eqb-false, ltb-true, or_from, or_left, cases_lt, not_from_true, not_from_false, eq-eqb, ne_eqb}
use Rattle.std.proofs.lemmas.List.{take-append-drop}
use Rattle.std.proofs.lemmas.List.Folds.{list_any-append}
use Rattle.laws_search.specs.Order.{Scan}
use Rattle.laws_search.specs.Tree.{Page, Index}
use Rattle.laws_search.specs.Search.{State, At, Ended, Stuck, is_wanted, right_of, descend, found_on, visit_page, visit, after_visits, search_start}
use Rattle.laws_search.proofs.Whole.{more_visits, after_ended}
use Rattle.laws_search.specs.Spots.{from_place, yielded_of, visits_made, rest_of, left_of, Stands, ReadsOn, IsVisited, VisitsOn, ReadsInSteps}

-- with more yielded before
abbrev prepend : {E : Type 0} → List E → State E → State E
prepend zs (At b ys) = At b (zs ++ ys)
prepend zs (Ended ys) = Ended (zs ++ ys)
prepend zs Stuck = Stuck

through_cond : {A B : Type 0} (f : A → B) (t : Bool) (a b : A) → f (cond t a b) ≡ cond t (f a) (f b)
through_cond f true a b = refl
through_cond f false a b = refl

module _ {S E : Type 0} (killed : E → Bool) (x : Index S E) (scan : Scan S E) where
  descend_front : (zs : List E) (cs : List (S × ℕ)) (ys : List E) → descend scan cs (zs ++ ys) ≡ prepend zs (descend scan cs ys)
  descend_front zs [] ys = refl
  descend_front zs (c ∷ cs) ys = refl

  page_front : (zs : List E) (p : Page S E) (ys : List E) → visit_page killed scan p (zs ++ ys) ≡ prepend zs (visit_page killed scan p ys)
  unfolding visit_page
  page_front zs p ys =
      let f = found_on killed scan p in
      let t1 = right_of scan.goes_right p.high_key || p.half_dead in
      let t2 = not p.leaf in
      let t3 = list_any scan.past_high p.entries || p.next == 0 in
      let inner : cond t3 (Ended ((zs ++ ys) ++ f)) (At p.next ((zs ++ ys) ++ f)) ≡ prepend zs (cond t3 (Ended (ys ++ f)) (At p.next (ys ++ f))) =
      ap (λ w. cond t3 (Ended w) (At p.next w)) (append_assoc zs ys f) ∙ sym (through_cond (prepend zs) t3 (Ended (ys ++ f)) (At p.next (ys ++ f))) in
      let middle : cond t2 (descend scan p.children (zs ++ ys)) (cond t3 (Ended ((zs ++ ys) ++ f)) (At p.next ((zs ++ ys) ++ f))) ≡ prepend zs (cond t2 (descend scan p.children ys) (cond t3 (Ended (ys ++ f)) (At p.next (ys ++ f)))) =
      ap (λ w. cond t2 w (cond t3 (Ended ((zs ++ ys) ++ f)) (At p.next ((zs ++ ys) ++ f)))) (descend_front zs p.children ys) ∙ (ap (λ w. cond t2 (prepend zs (descend scan p.children ys)) w) inner ∙ sym (through_cond (prepend zs) t2 (descend scan p.children ys) _)) in
      ap (λ w. cond t1 (At p.next (zs ++ ys)) w) middle ∙ sym (through_cond (prepend zs) t1 (At p.next ys) _)

  visit_front : (zs : List E) (b : ℕ) (ys : List E) → visit killed x scan b (zs ++ ys) ≡ prepend zs (visit killed x scan b ys)
  unfolding visit
  visit_front zs b ys =
      let t = not (b == 0) && (nat_lt b x.blocks && not (x.page b).idle) in
      ap (λ w. cond t w Stuck) (page_front zs (x.page b) ys) ∙ sym (through_cond (prepend zs) t (visit_page killed scan (x.page b) ys) Stuck)

  -- what was yielded before stays a front
  pub after_front : (n : ℕ) (zs : List E) (s : State E) → after_visits killed x scan n (prepend zs s) ≡ prepend zs (after_visits killed x scan n s)
  after_front zero zs s = refl
  after_front (suc n) zs (At b ys) = ap (after_visits killed x scan n) (visit_front zs b ys) ∙ after_front n zs (visit killed x scan b ys)
  after_front (suc n) zs (Ended ys) = refl
  after_front (suc n) zs Stuck = refl

  pub made_front : (n : ℕ) (zs : List E) (s : State E) → visits_made killed x scan n (prepend zs s) ≡ visits_made killed x scan n s
  made_front zero zs s = refl
  made_front (suc n) zs (At b ys) = ap suc (ap (visits_made killed x scan n) (visit_front zs b ys) ∙ made_front n zs (visit killed x scan b ys))
  made_front (suc n) zs (Ended ys) = refl
  made_front (suc n) zs Stuck = refl

  yielded_front : (zs : List E) (s : State E) (ys : List E) → s ≡ Ended ys → yielded_of (prepend zs s) ≡ zs ++ yielded_of s
  yielded_front zs (At b ws) ys e = refl
  yielded_front zs (Ended ws) ys e = refl
  yielded_front zs Stuck ys e = absurd cc

  pub rest_front : (zs : List E) (s : State E) (ys : List E) → after_visits killed x scan x.blocks s ≡ Ended ys → rest_of killed x scan (prepend zs s) ≡ zs ++ rest_of killed x scan s
  unfolding rest_of
  rest_front zs s ys e = ap yielded_of (after_front x.blocks zs s) ∙ yielded_front zs (after_visits killed x scan x.blocks s) ys e

  -- visits add up
  pub after_after : (k n : ℕ) (s : State E) → after_visits killed x scan (k + n) s ≡ after_visits killed x scan n (after_visits killed x scan k s)
  after_after zero n s = ap (λ m. after_visits killed x scan m s) (omega arith)
  after_after (suc k) n (At b ys) = let e : suc k + n ≡ suc (k + n) = omega arith in ap (λ m. after_visits killed x scan m (At b ys)) e ∙ after_after k n (visit killed x scan b ys)
  after_after (suc k) n (Ended ys) = let e : suc k + n ≡ suc (k + n) = omega arith in ap (λ m. after_visits killed x scan m (Ended ys)) e ∙ sym (stays n)
    where
      stays : (n : ℕ) → after_visits killed x scan n (Ended ys) ≡ Ended ys
      stays zero = refl
      stays (suc n) = refl
  after_after (suc k) n Stuck = let e : suc k + n ≡ suc (k + n) = omega arith in ap (λ m. after_visits killed x scan m Stuck) e ∙ sym (stays n)
    where
      stays : (n : ℕ) → after_visits killed x scan n Stuck ≡ Stuck
      stays zero = refl
      stays (suc n) = refl

  pub made_after : (k n : ℕ) (s : State E) (b : ℕ) (ys : List E) → after_visits killed x scan k s ≡ At b ys → visits_made killed x scan (k + n) s ≡ k + visits_made killed x scan n (At b ys)
  made_after zero n s b ys e = let z : 0 + n ≡ n = omega arith in ap (λ m. visits_made killed x scan m s) z ∙ (ap (visits_made killed x scan n) e ∙ omega arith)
  made_after (suc k) n (At c zs) b ys e =
      let z : suc k + n ≡ suc (k + n) = omega arith in
      let ih = made_after k n (visit killed x scan c zs) b ys e in
      ap (λ m. visits_made killed x scan m (At c zs)) z ∙ omega arith
  made_after (suc k) n (Ended zs) b ys e = absurd cc
  made_after (suc k) n Stuck b ys e = absurd cc

  -- who has ended makes no more visits
  pub made_enough : (n m : ℕ) (s : State E) (zs : List E) → n ≤ m → after_visits killed x scan n s ≡ Ended zs → visits_made killed x scan m s ≡ visits_made killed x scan n s
  made_enough zero zero s zs le e = refl
  made_enough zero (suc m) (At b ys) zs le e = absurd cc
  made_enough zero (suc m) (Ended ys) zs le e = refl
  made_enough zero (suc m) Stuck zs le e = absurd cc
  made_enough (suc n) zero s zs le e = absurd (omega arith)
  made_enough (suc n) (suc m) (At b ys) zs le e = ap suc (made_enough n m (visit killed x scan b ys) zs (omega arith) e)
  made_enough (suc n) (suc m) (Ended ys) zs le e = refl
  made_enough (suc n) (suc m) Stuck zs le e = refl

at_drop : {X : Type 0} (xs : List X) (j : ℕ) (e : X) → slice_get xs j ≡ Some e → drop j xs ≡ e ∷ drop (j + 1) xs
at_drop [] j e h = absurd cc
at_drop (y ∷ xs) zero e h = cc
at_drop (y ∷ xs) (suc j) e h =
    let n : suc j + 1 ≡ suc (j + 1) = omega arith in
    at_drop xs j e h ∙ ap (λ k. e ∷ drop k (y ∷ xs)) (sym n)

at_take : {X : Type 0} (xs : List X) (j : ℕ) (e : X) → slice_get xs j ≡ Some e → take (j + 1) xs ≡ take j xs ++ e ∷ []
at_take [] j e h = absurd cc
at_take (y ∷ xs) zero e h = cc
at_take (y ∷ xs) (suc j) e h =
    let n : suc j + 1 ≡ suc (j + 1) = omega arith in
    ap (λ k. take k (y ∷ xs)) n ∙ ap (λ w. y ∷ w) (at_take xs j e h)

at_within : {X : Type 0} (xs : List X) (j : ℕ) (e : X) → slice_get xs j ≡ Some e → j + 1 ≤ length xs
at_within [] j e h = absurd cc
at_within (y ∷ xs) zero e h = omega arith
at_within (y ∷ xs) (suc j) e h = let le : j + 1 ≤ length xs = at_within xs j e h in omega arith

take_more : {X : Type 0} (p : X → Bool) (e : X) (es : List X) → p e ≡ true → take_while p (e ∷ es) ≡ e ∷ take_while p es
take_more p e es t =
    let n : prefix_len p (e ∷ es) ≡ suc (prefix_len p es) = cond-true (p e) _ _ t ∙ one-add (prefix_len p es) in
    ap (λ k. take k (e ∷ es)) n

take_none : {X : Type 0} (p : X → Bool) (e : X) (es : List X) → p e ≡ false → take_while p (e ∷ es) ≡ []
take_none p e es t =
    let n : prefix_len p (e ∷ es) ≡ 0 = cond-false (p e) _ _ t in
    ap (λ k. take k (e ∷ es)) n

made_over : {S E : Type 0} (killed : E → Bool) (x : Index S E) (scan : Scan S E) (n : ℕ) (zs : List E) → visits_made killed x scan n (Ended zs) ≡ 0
made_over killed x scan zero zs = refl
made_over killed x scan (suc n) zs = refl

module _ {S E : Type 0} (killed : E → Bool) (x : Index S E) (scan : Scan S E) (goal : List E) (ends : after_visits killed x scan x.blocks (search_start x) ≡ Ended goal) where
  -- the list behind a front
  over_behind : (zs : List E) (s : State E) (ws : List E) → prepend zs s ≡ Ended ws → (us : List E) × (s ≡ Ended us)
  over_behind zs (At b ys) ws e = absurd cc
  over_behind zs (Ended ys) ws e = (ys, refl)
  over_behind zs Stuck ws e = absurd cc

  stuck_stays : (n : ℕ) → after_visits killed x scan n Stuck ≡ Stuck
  stuck_stays zero = refl
  stuck_stays (suc n) = refl

  -- what remains of the run after it has come to a page
  remains : (v b : ℕ) (ys : List E) → after_visits killed x scan v (search_start x) ≡ At b ys → (n : ℕ) × (v + suc n ≡ x.blocks) × (after_visits killed x scan n (visit killed x scan b ys) ≡ Ended goal)
  remains v b ys comes = elim (cases_lt v x.blocks) [
    | inl lt ↦
        let n = x.blocks - suc v in
        let is : v + suc n ≡ x.blocks = omega arith in
        (n, is, ap (after_visits killed x scan (suc n)) (sym comes) ∙ (sym (after_after killed x scan v (suc n) (search_start x)) ∙ (ap (λ m. after_visits killed x scan m (search_start x)) is ∙ ends)))
    | inr ge ↦
        let over : after_visits killed x scan v (search_start x) ≡ Ended goal = more_visits killed x scan x.blocks v (search_start x) goal ge ends in
        absurd (cc (over, comes))
  ]

  -- where the page isn't the end, the right sibling leads to one
  next_ends : (b j : ℕ) → Stands killed x scan b j → (list_any scan.past_high (drop j (x.page b).entries) || (x.page b).next == 0) ≡ false → (us : List E) × (after_visits killed x scan x.blocks (At (x.page b).next []) ≡ Ended us)
  unfolding visit visit_page
  next_ends b j st t =
      let p = x.page b in
      let r = remains st.visits b st.so_far st.comes in
      let n = r.0 in
      let t0 = not (b == 0) && (nat_lt b x.blocks && not p.idle) in
      let parts = or_parts (list_any scan.past_high (drop j p.entries)) (p.next == 0) t in
      let none : list_any scan.past_high p.entries ≡ false =
      ap (list_any scan.past_high) (sym (take-append-drop j p.entries)) ∙ (list_any-append scan.past_high (take j p.entries) (drop j p.entries) ∙ (ap (λ w. w || list_any scan.past_high (drop j p.entries)) st.none_past ∙ parts.0)) in
      let t3 : (list_any scan.past_high p.entries || p.next == 0) ≡ false = ap (λ w. w || p.next == 0) none ∙ parts.1 in
      let front = st.so_far ++ found_on killed scan p in
      elim (cases_Bool t0) [
        | inl can ↦
            let to : visit killed x scan b st.so_far ≡ prepend front (At p.next []) =
            cond-true t0 _ _ can ∙ (cond-false _ _ _ st.reads ∙ (cond-false (not p.leaf) _ _ (not_from_true p.leaf st.leaf) ∙ (cond-false _ _ _ t3 ∙ ap (At p.next) (sym (append-nil front))))) in
            let over = over_behind front (after_visits killed x scan n (At p.next [])) goal (sym (after_front killed x scan n front (At p.next [])) ∙ (ap (after_visits killed x scan n) (sym to) ∙ r.2)) in
            let is : st.visits + suc n ≡ x.blocks = r.1 in
            (over.0, more_visits killed x scan n x.blocks (At p.next []) over.0 (omega arith) over.1)
        | inr can ↦
            let to : visit killed x scan b st.so_far ≡ Stuck = cond-false t0 _ _ can in
            absurd (cc (r.2, ap (after_visits killed x scan n) to, stuck_stays n))
      ]

  -- from a place that stands the searcher ends
  place_ends : (b j : ℕ) → Stands killed x scan b j → (us : List E) × (after_visits killed x scan x.blocks (from_place killed x scan b j) ≡ Ended us)
  unfolding from_place
  place_ends b j st =
      let p = x.page b in
      let t = list_any scan.past_high (drop j p.entries) || p.next == 0 in
      let f = filter (is_wanted killed scan) (take_while (λ e. not (scan.past_high e)) (drop j p.entries)) in
      elim (cases_Bool t) [
        | inl over ↦ (f, ap (after_visits killed x scan x.blocks) (cond-true t (Ended f) (At p.next f) over) ∙ after_ended killed x scan x.blocks f)
        | inr on ↦
            let r = next_ends b j st on in
            let to : from_place killed x scan b j ≡ prepend f (At p.next []) = cond-false t (Ended f) (At p.next f) on ∙ ap (At p.next) (sym (append-nil f)) in
            (f ++ r.0, ap (after_visits killed x scan x.blocks) to ∙ (after_front killed x scan x.blocks f (At p.next []) ∙ ap (prepend f) r.1))
      ]

  stands_more : (b j : ℕ) (e : E) → Stands killed x scan b j → slice_get (x.page b).entries j ≡ Some e → scan.past_high e ≡ false → Stands killed x scan b (j + 1)
  stands_more b j e st at not_past =
      let es = (x.page b).entries in
      record {
        visits = st.visits;
        so_far = st.so_far;
        comes = st.comes;
        reads = st.reads;
        leaf = st.leaf;
        within = at_within es j e at;
        none_past = ap (list_any scan.past_high) (at_take es j e at) ∙ (list_any-append scan.past_high (take j es) (e ∷ []) ∙ or_from (list_any scan.past_high (take j es)) (list_any scan.past_high (e ∷ [])) st.none_past (or_from (scan.past_high e) false not_past refl));
      }

  pub reads_on : (b j : ℕ) → Stands killed x scan b j → ReadsOn killed x scan b j
  unfolding from_place rest_of left_of
  reads_on b j st =
      let p = x.page b in
      let es = p.entries in
      let keep : E → Bool = λ e. not (scan.past_high e) in
      let F : List E → List E = λ zs. filter (is_wanted killed scan) (take_while keep zs) in
      let P : List E → State E = λ zs. cond (list_any scan.past_high zs || p.next == 0) (Ended (F zs)) (At p.next (F zs)) in
      let nothing : (s : State E) → s ≡ Ended [] → (rest_of killed x scan s ≡ []) × (left_of killed x scan s ≡ 0) =
      λ s e. (ap (rest_of killed x scan) e ∙ ap yielded_of (after_ended killed x scan x.blocks []), ap (left_of killed x scan) e ∙ made_over killed x scan x.blocks []) in
      record {
        past = λ e at t.
            let d : drop j es ≡ e ∷ drop (j + 1) es = at_drop es j e at in
            let any : (list_any scan.past_high (e ∷ drop (j + 1) es) || p.next == 0) ≡ true = or_left (list_any scan.past_high (e ∷ drop (j + 1) es)) (p.next == 0) (or_left (scan.past_high e) (list_any scan.past_high (drop (j + 1) es)) t) in
            let none : F (e ∷ drop (j + 1) es) ≡ [] = ap (filter (is_wanted killed scan)) (take_none keep e (drop (j + 1) es) (not_from_true (scan.past_high e) t)) in
            nothing (from_place killed x scan b j) (ap P d ∙ (cond-true _ _ _ any ∙ ap Ended none));
        wanted = λ e at t w.
            let rest = drop (j + 1) es in
            let d : drop j es ≡ e ∷ rest = at_drop es j e at in
            let any : list_any scan.past_high (e ∷ rest) ≡ list_any scan.past_high rest = ap (λ z. z || list_any scan.past_high rest) t in
            let more : F (e ∷ rest) ≡ e ∷ F rest = ap (filter (is_wanted killed scan)) (take_more keep e rest (not_from_false (scan.past_high e) t)) ∙ cond-true (is_wanted killed scan e) _ _ w in
            let same : from_place killed x scan b j ≡ prepend (e ∷ []) (from_place killed x scan b (j + 1)) =
            ap P d ∙ (ap (λ z. cond (z || p.next == 0) (Ended (F (e ∷ rest))) (At p.next (F (e ∷ rest)))) any ∙ (ap (λ z. cond (list_any scan.past_high rest || p.next == 0) (Ended z) (At p.next z)) more ∙ sym (through_cond (prepend (e ∷ [])) (list_any scan.past_high rest || p.next == 0) (Ended (F rest)) (At p.next (F rest))))) in
            let st' = stands_more b j e st at t in
            let r = place_ends b (j + 1) st' in
            (ap (rest_of killed x scan) same ∙ rest_front killed x scan (e ∷ []) (from_place killed x scan b (j + 1)) r.0 r.1, ap (left_of killed x scan) same ∙ made_front killed x scan x.blocks (e ∷ []) (from_place killed x scan b (j + 1)), st');
        other = λ e at t w.
            let rest = drop (j + 1) es in
            let d : drop j es ≡ e ∷ rest = at_drop es j e at in
            let any : list_any scan.past_high (e ∷ rest) ≡ list_any scan.past_high rest = ap (λ z. z || list_any scan.past_high rest) t in
            let more : F (e ∷ rest) ≡ F rest = ap (filter (is_wanted killed scan)) (take_more keep e rest (not_from_false (scan.past_high e) t)) ∙ cond-false (is_wanted killed scan e) _ _ w in
            let same : from_place killed x scan b j ≡ from_place killed x scan b (j + 1) =
            ap P d ∙ (ap (λ z. cond (z || p.next == 0) (Ended (F (e ∷ rest))) (At p.next (F (e ∷ rest)))) any ∙ ap (λ z. cond (list_any scan.past_high rest || p.next == 0) (Ended z) (At p.next z)) more) in
            (ap (rest_of killed x scan) same, ap (left_of killed x scan) same, stands_more b j e st at t);
        last = λ e z.
            let d : drop j es ≡ [] = ap (λ k. drop k es) e ∙ drop_end es in
            nothing (from_place killed x scan b j) (ap P d ∙ cond-true _ _ _ (eq-eqb p.next 0 z));
        next = λ e z.
            let d : drop j es ≡ [] = ap (λ k. drop k es) e ∙ drop_end es in
            let to : from_place killed x scan b j ≡ At p.next [] = ap P d ∙ cond-false _ _ _ (ne_eqb p.next 0 z) in
            (ap (rest_of killed x scan) to, ap (left_of killed x scan) to);
      }
    where
      drop_end : (es : List E) → drop (length es) es ≡ []
      drop_end [] = refl
      drop_end (e ∷ es) = drop_end es

  after_one : (v b c : ℕ) (ys zs : List E) → after_visits killed x scan v (search_start x) ≡ At b ys → visit killed x scan b ys ≡ At c zs → after_visits killed x scan (v + 1) (search_start x) ≡ At c zs
  after_one v b c ys zs comes to = after_after killed x scan v 1 (search_start x) ∙ (ap (after_visits killed x scan 1) comes ∙ to)

  pub visits_on : (b : ℕ) → IsVisited killed x scan b → VisitsOn killed x scan b
  unfolding visit visit_page found_on from_place rest_of left_of
  visits_on b v =
      let p = x.page b in
      let r = remains v.visits b v.so_far v.comes in
      let n = r.0 in
      let is : v.visits + suc n ≡ x.blocks = r.1 in
      let front : visit killed x scan b v.so_far ≡ prepend v.so_far (visit killed x scan b []) = ap (visit killed x scan b) (sym (append-nil v.so_far)) ∙ visit_front killed x scan v.so_far b [] in
      let over = over_behind v.so_far (after_visits killed x scan n (visit killed x scan b [])) goal (sym (after_front killed x scan n v.so_far (visit killed x scan b [])) ∙ (ap (after_visits killed x scan n) (sym front) ∙ r.2)) in
      let m = x.blocks - 1 in
      let blocks : x.blocks ≡ suc m = omega arith in
      let le : n ≤ m = omega arith in
      let le' : n ≤ x.blocks = omega arith in
      let s = visit killed x scan b [] in
      let over_m : after_visits killed x scan m s ≡ Ended over.0 = more_visits killed x scan n m s over.0 le over.1 in
      let over_all : after_visits killed x scan x.blocks s ≡ Ended over.0 = more_visits killed x scan n x.blocks s over.0 le' over.1 in
      let t0 = not (b == 0) && (nat_lt b x.blocks && not p.idle) in
      let can : t0 ≡ true = elim (cases_Bool t0) [
        | inl t ↦ t
        | inr t ↦ let to : s ≡ Stuck = cond-false t0 _ _ t in absurd (cc (over.1, ap (after_visits killed x scan n) to, stuck_stays n))
      ] in
      let first = and_parts (not (b == 0)) (nat_lt b x.blocks && not p.idle) can in
      let second = and_parts (nat_lt b x.blocks) (not p.idle) first.1 in
      record {
        rest = ap (λ k. yielded_of (after_visits killed x scan k (At b []))) blocks ∙ ap yielded_of (over_m ∙ sym over_all);
        left = ap (λ k. visits_made killed x scan k (At b [])) blocks ∙ ap suc (made_enough killed x scan n m s over.0 le over.1 ∙ sym (made_enough killed x scan n x.blocks s over.0 le' over.1));
        not_meta = eqb-false b 0 (not-true (b == 0) first.0);
        inside = ltb-true b x.blocks second.0;
        used = not-true p.idle second.1;
        goes_on = λ c ys to. record { visits = v.visits + 1; so_far = v.so_far ++ ys; comes = after_one v.visits b c v.so_far (v.so_far ++ ys) v.comes (front ∙ ap (prepend v.so_far) to) };
        reads = λ stays leaf. (
          cond-true t0 _ _ can ∙ (cond-false _ _ _ stays ∙ cond-false (not p.leaf) _ _ (not_from_true p.leaf leaf)),
          record { visits = v.visits; so_far = v.so_far; comes = v.comes; reads = stays; leaf = leaf; within = omega arith; none_past = refl },
        );
      }

pub reads_in_steps : {S E : Type 0} (x : Index S E) → ReadsInSteps x
unfolding rest_of
reads_in_steps x = λ killed scan goal ends. (ap yielded_of ends, λ b v. visits_on killed x scan goal ends b v, λ b j st. reads_on killed x scan goal ends b j st)

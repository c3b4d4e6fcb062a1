-- What is left at a place, and what each visit and each step of a reader does to that.
use Rattle.std.proofs.Common.{◌≡◌, ◌≢◌, ℕ, zero, suc, ◌+◌, ◌-◌, ◌<◌, ◌≤◌, inl, inr, Bool, true, false, cond, not, ◌&&◌, ◌||◌, List, [], ◌∷◌, ◌++◌, length, take, drop, reverse, refl, sym, ap, ◌∙◌, subst, arith, append-nil, take-suc, drop-cons, take_all}
use Rattle.std.specs.Prelude.{⊤, Some, slice_get, ◌==◌, nat_lt}
use Rattle.std.specs.List.{filter, list_any, take_while}
use Rattle.std.proofs.lemmas.Bool.{cases_Bool, cond-true, cond-false, cases_lt, and_parts, or_parts, or_left, or_right, or_from, not-true, not_from_true, not_from_false, eq-eqb, ne_eqb, eqb-false, ltb-true}
use Rattle.std.proofs.lemmas.List.{reverse-append, take-append-drop, drop_all}
use Rattle.std.proofs.lemmas.List.Folds.{list_any-append}
use Rattle.std.proofs.lemmas.List.Sums.{take_while-cons}
use Rattle.std.proofs.lemmas.Option.{get_or_from_slice_get, slice_get_within, slice_get_cases}
use Rattle.laws_search.specs.Order.{Order, Scan}
use Rattle.laws_search.specs.Tree.{Index}
use Rattle.laws_search.specs.Searchable.{IsInUse, IsSearchable}
use Rattle.laws_search.specs.Search.{is_wanted, right_of}
use Rattle.laws_search.specs.Back.{Back, BackState, Seeks, Reads, Over, Lost, descend_back, found_back, read_page, seek_page, can_visit, after_back, back_start}
use Rattle.laws_search.specs.Probe.{child_for}
use Rattle.laws_back_search.specs.Spots.{from_place_back, rest_back, left_back, LeadsBack, IsOver, SeeksAt, GoesLeftTo, IsReadBack, StandsBack, ReadsBack, SeeksOn, VisitsBack}
use Rattle.laws_back_search.proofs.Runs.{after_front, visit_front, visit_behind, through_cond, prepend, IsBehind, GoesStill, visit_back, lost_stays, after_suc, after_after, after_one, more_back, over_stays, ends_behind, rest_front, left_front, rest_over, left_over, same_leads, visit_leads}

module _ {S E : Type 0} (o : Order S E) (x : Index S E) (quiet : IsSearchable o x) (killed : E → Bool) (scan : Scan S E) (back : Back S E) (goal : List E) (ends : after_back killed x scan back (x.blocks + x.blocks) (back_start x) ≡ Over goal) where
  abbrev after : ℕ → BackState E → BackState E
  after n s = after_back killed x scan back n s

  abbrev visit : BackState E → BackState E
  visit s = visit_back killed x scan back s

  abbrev all : ℕ
  all = x.blocks + x.blocks

  abbrev start : BackState E
  start = back_start x

  -- what the searcher comes to ends
  ends_from : (v : ℕ) (s : BackState E) → after v start ≡ s → after_back killed x scan back (x.blocks + x.blocks) s ≡ Over goal
  ends_from v s comes = ap (after all) (sym comes) ∙ (sym (after_after killed x scan back v all start) ∙ more_back killed x scan back all (v + all) start goal (omega arith) ends)

  -- and in time
  in_time : (v : ℕ) (s : BackState E) → GoesStill s → after v start ≡ s → (n : ℕ) × (suc n ≤ x.blocks + x.blocks) × (after n (visit s) ≡ Over goal)
  in_time v s goes comes = elim (cases_lt v all) [
    | inl lt ↦
        let n = all - suc v in
        let is : v + suc n ≡ all = omega arith in
        (n, omega arith, sym (after_suc killed x scan back n s) ∙ (ap (after (suc n)) (sym comes) ∙ (sym (after_after killed x scan back v (suc n) start) ∙ (ap (λ m. after m start) is ∙ ends))))
    | inr ge ↦ absurd (subst GoesStill (sym comes ∙ more_back killed x scan back all v start goal ge ends) goes)
  ]

  can_of : (b : ℕ) (t : BackState E) (n : ℕ) → after n (cond (can_visit x b) t Lost) ≡ Over goal → can_visit x b ≡ true
  can_of b t n h = elim (cases_Bool (can_visit x b)) [
    | inl c ↦ c
    | inr c ↦ let to : cond (can_visit x b) t Lost ≡ Lost = cond-false (can_visit x b) t Lost c in absurd (cc (h, to, lost_stays killed x scan back n))
  ]

  usable : (b : ℕ) → can_visit x b ≡ true → IsInUse x b
  usable b can =
      let first = and_parts (not (b == 0)) (nat_lt b x.blocks && not (x.page b).idle) can in
      let second = and_parts (nat_lt b x.blocks) (not (x.page b).idle) first.1 in
      record { not_meta = eqb-false b 0 (not-true (b == 0) first.0); inside = ltb-true b x.blocks second.0; used = not-true (x.page b).idle second.1 }

  -- THE PAGES OF THE SECOND PHASE

  -- they are leaves
  abbrev OnLeaves : BackState E → Type 0
  OnLeaves (Seeks b) = ⊤
  OnLeaves (Reads b ys) = IsInUse x b × ((x.page b).leaf ≡ true)
  OnLeaves (Over ys) = ⊤
  OnLeaves Lost = ⊤

  read_on_leaves : (b : ℕ) (ys : List E) → IsInUse x b → (x.page b).leaf ≡ true → OnLeaves (read_page killed scan back (x.page b) ys)
  unfolding read_page
  read_on_leaves b ys used leaf =
      let p = x.page b in
      let f = found_back killed scan back p in
      let t = list_any back.before_low p.entries || p.prev == 0 in
      elim (cases_Bool t) [
        | inl stop ↦ let is : cond t (Over (ys ++ f)) (Reads p.prev (ys ++ f)) ≡ Over (ys ++ f) = cond-true t _ _ stop in subst OnLeaves (sym is) tt
        | inr on ↦
            let is : cond t (Over (ys ++ f)) (Reads p.prev (ys ++ f)) ≡ Reads p.prev (ys ++ f) = cond-false t _ _ on in
            let ne : p.prev ≢ 0 = eqb-false p.prev 0 (or_parts (list_any back.before_low p.entries) (p.prev == 0) on).1 in
            let link = (quiet.pages b used).left_sibling ne in
            subst OnLeaves (sym is) (link.0, (quiet.pages p.prev link.0).leaf_if_below (link.1 ∙ (quiet.pages b used).leaf_below leaf))
      ]

  seek_reads : (b : ℕ) → (right_of back.reaches (x.page b).high_key || (x.page b).half_dead) ≡ false → (x.page b).leaf ≡ true → seek_page killed scan back (x.page b) ≡ read_page killed scan back (x.page b) []
  unfolding seek_page
  seek_reads b stays leaf = cond-false (right_of back.reaches (x.page b).high_key || (x.page b).half_dead) _ _ stays ∙ cond-false (not (x.page b).leaf) _ _ (not_from_true (x.page b).leaf leaf)

  seek_right : (b : ℕ) → (right_of back.reaches (x.page b).high_key || (x.page b).half_dead) ≡ true → seek_page killed scan back (x.page b) ≡ Seeks (x.page b).next
  unfolding seek_page
  seek_right b passed = cond-true (right_of back.reaches (x.page b).high_key || (x.page b).half_dead) _ _ passed

  seek_down : (b : ℕ) → (right_of back.reaches (x.page b).high_key || (x.page b).half_dead) ≡ false → (x.page b).leaf ≡ false → seek_page killed scan back (x.page b) ≡ descend_back back (x.page b).children
  unfolding seek_page
  seek_down b stays inner = cond-false (right_of back.reaches (x.page b).high_key || (x.page b).half_dead) _ _ stays ∙ cond-true (not (x.page b).leaf) _ _ (not_from_false (x.page b).leaf inner)

  seek_on_leaves : (b : ℕ) → IsInUse x b → OnLeaves (seek_page killed scan back (x.page b))
  seek_on_leaves b used = elim (cases_Bool (right_of back.reaches (x.page b).high_key || (x.page b).half_dead)) [
    | inl passed ↦ subst OnLeaves (sym (seek_right b passed)) tt
    | inr stays ↦ elim (cases_Bool (x.page b).leaf) [
      | inl leaf ↦ subst OnLeaves (sym (seek_reads b stays leaf)) (read_on_leaves b [] used leaf)
      | inr inner ↦ subst OnLeaves (sym (seek_down b stays inner)) (down (x.page b).children)
    ]
  ]
    where
      down : (cs : List (S × ℕ)) → OnLeaves (descend_back back cs)
      down [] = tt
      down (c ∷ cs) = tt

  visit_on_leaves : (s : BackState E) → OnLeaves s → OnLeaves (visit s)
  visit_on_leaves (Seeks b) h = elim (cases_Bool (can_visit x b)) [
    | inl c ↦ let is : visit (Seeks b) ≡ seek_page killed scan back (x.page b) = cond-true (can_visit x b) _ _ c in subst OnLeaves (sym is) (seek_on_leaves b (usable b c))
    | inr c ↦ let is : visit (Seeks b) ≡ Lost = cond-false (can_visit x b) _ _ c in subst OnLeaves (sym is) tt
  ]
  visit_on_leaves (Reads b ys) h = elim (cases_Bool (can_visit x b)) [
    | inl c ↦ let is : visit (Reads b ys) ≡ read_page killed scan back (x.page b) ys = cond-true (can_visit x b) _ _ c in subst OnLeaves (sym is) (read_on_leaves b ys h.0 h.1)
    | inr c ↦ let is : visit (Reads b ys) ≡ Lost = cond-false (can_visit x b) _ _ c in subst OnLeaves (sym is) tt
  ]
  visit_on_leaves (Over ys) h = tt
  visit_on_leaves Lost h = tt

  after_on_leaves : (n : ℕ) (s : BackState E) → OnLeaves s → OnLeaves (after n s)
  after_on_leaves zero s h = h
  after_on_leaves (suc n) s h = subst OnLeaves (sym (after_suc killed x scan back n s)) (after_on_leaves n (visit s) (visit_on_leaves s h))

  start_on_leaves : OnLeaves start
  unfolding back_start
  start_on_leaves = go (x.fastroot == 0)
    where
      go : (t : Bool) → OnLeaves (cond t (Over []) (Seeks x.fastroot))
      go true = tt
      go false = tt

  pub left_leaf : (b : ℕ) → GoesLeftTo killed x scan back b → IsInUse x b × ((x.page b).leaf ≡ true)
  left_leaf b r = subst OnLeaves r.comes (after_on_leaves r.visits start start_on_leaves)

  -- a page that is read, and what was appended before
  read_comes : (b : ℕ) → IsReadBack killed x scan back b → (v : ℕ) × (so_far : List E) × (after v start ≡ read_page killed scan back (x.page b) so_far)
  read_comes b (inl l) =
      let s : BackState E = Seeks b in
      let t = in_time l.seeks.visits s tt l.seeks.comes in
      let can = can_of b (seek_page killed scan back (x.page b)) t.0 t.2 in
      let to : visit s ≡ read_page killed scan back (x.page b) [] = cond-true (can_visit x b) _ _ can ∙ seek_reads b l.stays l.leaf in
      (l.seeks.visits + 1, [], after_one killed x scan back l.seeks.visits start s _ l.seeks.comes to)
  read_comes b (inr r) =
      let s : BackState E = Reads b r.so_far in
      let t = in_time r.visits s tt r.comes in
      let can = can_of b (read_page killed scan back (x.page b) r.so_far) t.0 t.2 in
      let to : visit s ≡ read_page killed scan back (x.page b) r.so_far = cond-true (can_visit x b) _ _ can in
      (r.visits + 1, r.so_far, after_one killed x scan back r.visits start s _ r.comes to)

  -- PLACES

  abbrev F : List E → List E
  F zs = filter (is_wanted killed scan) (take_while (λ e. not (back.before_low e)) zs)

  abbrev P : ℕ → List E → BackState E
  P b zs = cond (list_any back.before_low zs || (x.page b).prev == 0) (Over (F (reverse zs))) (Reads (x.page b).prev (F (reverse zs)))

  place_is : (b k : ℕ) → from_place_back killed x scan back b k ≡ P b (take k (x.page b).entries)
  unfolding from_place_back
  place_is b k = refl

  -- a page as a whole
  whole_page : (b : ℕ) → ((x.page b).half_dead ≡ true → (x.page b).entries ≡ []) → read_page killed scan back (x.page b) [] ≡ from_place_back killed x scan back b (length (x.page b).entries)
  unfolding read_page found_back
  whole_page b none =
      let p = x.page b in
      let t = list_any back.before_low p.entries || p.prev == 0 in
      let found : cond p.half_dead [] (F (reverse p.entries)) ≡ F (reverse p.entries) = elim (cases_Bool p.half_dead) [
        | inl h ↦ cond-true p.half_dead [] (F (reverse p.entries)) h ∙ sym (ap (λ es. F (reverse es)) (none h))
        | inr h ↦ cond-false p.half_dead [] (F (reverse p.entries)) h
      ] in
      ap (λ f. cond t (Over f) (Reads p.prev f)) found ∙ (ap (P b) (sym (take_all (length p.entries) p.entries (omega arith))) ∙ sym (place_is b (length p.entries)))

  -- its next entry, the last of those that are left
  last_of : (es : List E) (j k : ℕ) (e : E) → k ≡ j + 1 → slice_get es j ≡ Some e → take k es ≡ take j es ++ e ∷ []
  last_of es j k e is at =
      let n : k ≡ suc j = omega (arith, is) in
      ap (λ m. take m es) n ∙ (take-suc es j e (slice_get_within es j e at) ∙ ap (λ d. take j es ++ d ∷ []) (get_or_from_slice_get es j e e at))

  behind_it : (es : List E) (j k : ℕ) (e : E) → k ≡ j + 1 → slice_get es j ≡ Some e → drop j es ≡ e ∷ drop k es
  behind_it es j k e is at =
      let n : k ≡ suc j = omega (arith, is) in
      drop-cons es j e (slice_get_within es j e at) ∙ (ap (λ d. d ∷ drop (suc j) es) (get_or_from_slice_get es j e e at) ∙ ap (λ m. e ∷ drop m es) (sym n))

  turned : (zs : List E) (e : E) → reverse (zs ++ e ∷ []) ≡ e ∷ reverse zs
  turned zs e = reverse-append zs (e ∷ [])

  any_last : (zs : List E) (e : E) → back.before_low e ≡ false → list_any back.before_low (zs ++ e ∷ []) ≡ list_any back.before_low zs
  any_last zs e f = list_any-append back.before_low zs (e ∷ []) ∙ drop_false (list_any back.before_low zs) (list_any back.before_low (e ∷ [])) (or_from (back.before_low e) false f refl)
    where
      drop_false : (s t : Bool) → t ≡ false → (s || t) ≡ s
      drop_false true t h = refl
      drop_false false t h = h

  -- what is yielded of it
  stops_at : (e : E) (zs : List E) → back.before_low e ≡ true → F (e ∷ zs) ≡ []
  stops_at e zs t = ap (filter (is_wanted killed scan)) (take_while-cons (λ d. not (back.before_low d)) e zs ∙ cond-false (not (back.before_low e)) _ _ (not_from_true (back.before_low e) t))

  goes_past : (e : E) (zs : List E) → back.before_low e ≡ false → F (e ∷ zs) ≡ filter (is_wanted killed scan) (e ∷ take_while (λ d. not (back.before_low d)) zs)
  goes_past e zs t = ap (filter (is_wanted killed scan)) (take_while-cons (λ d. not (back.before_low d)) e zs ∙ cond-true (not (back.before_low e)) _ _ (not_from_false (back.before_low e) t))

  place_behind : (b k : ℕ) → IsBehind (from_place_back killed x scan back b k)
  place_behind b k = subst IsBehind (sym (place_is b k)) (go (list_any back.before_low (take k (x.page b).entries) || (x.page b).prev == 0))
    where
      go : (t : Bool) → IsBehind (cond t (Over (F (reverse (take k (x.page b).entries)))) (Reads (x.page b).prev (F (reverse (take k (x.page b).entries)))))
      go true = tt
      go false = tt

  -- where the reading goes on to the left sibling
  left_comes : (b k : ℕ) → StandsBack killed x scan back b k → (list_any back.before_low (take k (x.page b).entries) || (x.page b).prev == 0) ≡ false → GoesLeftTo killed x scan back (x.page b).prev × ((us : List E) × (after_back killed x scan back (x.blocks + x.blocks) (Reads (x.page b).prev []) ≡ Over us))
  unfolding read_page
  left_comes b k st t =
      let p = x.page b in
      let es = p.entries in
      let parts = or_parts (list_any back.before_low (take k es)) (p.prev == 0) t in
      let none : list_any back.before_low es ≡ false =
      ap (list_any back.before_low) (sym (take-append-drop k es)) ∙ (list_any-append back.before_low (take k es) (drop k es) ∙ or_from (list_any back.before_low (take k es)) (list_any back.before_low (drop k es)) parts.0 st.none_before) in
      let on : (list_any back.before_low es || p.prev == 0) ≡ false = or_from (list_any back.before_low es) (p.prev == 0) none parts.1 in
      let r = read_comes b st.read in
      let front = r.1 ++ found_back killed scan back p in
      let to : read_page killed scan back p r.1 ≡ Reads p.prev front = cond-false (list_any back.before_low es || p.prev == 0) _ _ on in
      let comes : after r.0 start ≡ Reads p.prev front = r.2 ∙ to in
      let behind : Reads p.prev front ≡ prepend front (Reads p.prev []) = ap (Reads p.prev) (sym (append-nil front)) in (
        record { visits = r.0; so_far = front; comes = comes },
        ends_behind killed x scan back all front (Reads p.prev []) goal tt (ap (after all) (sym behind) ∙ ends_from r.0 (Reads p.prev front) comes),
      )

  -- from a place that stands the searcher ends
  place_ends : (b k : ℕ) → StandsBack killed x scan back b k → (us : List E) × (after_back killed x scan back (x.blocks + x.blocks) (from_place_back killed x scan back b k) ≡ Over us)
  place_ends b k st =
      let p = x.page b in
      let zs = take k p.entries in
      let t = list_any back.before_low zs || p.prev == 0 in
      let f = F (reverse zs) in
      elim (cases_Bool t) [
        | inl stop ↦
            let is : from_place_back killed x scan back b k ≡ Over f = place_is b k ∙ cond-true t (Over f) (Reads p.prev f) stop in
            (f, ap (after all) is ∙ over_stays killed x scan back all f)
        | inr on ↦
            let r = (left_comes b k st on).1 in
            let is : from_place_back killed x scan back b k ≡ prepend f (Reads p.prev []) = place_is b k ∙ (cond-false t (Over f) (Reads p.prev f) on ∙ ap (Reads p.prev) (sym (append-nil f))) in
            (f ++ r.0, ap (after all) is ∙ (after_front_of f p.prev ∙ ap (prepend f) r.1))
      ]
    where
      after_front_of : (f : List E) (c : ℕ) → after_back killed x scan back (x.blocks + x.blocks) (prepend f (Reads c [])) ≡ prepend f (after_back killed x scan back (x.blocks + x.blocks) (Reads c []))
      after_front_of f c = after_front killed x scan back (x.blocks + x.blocks) f (Reads c []) tt

  -- a place before another, where none of the entries between is before the low bound
  stands_less : (b j k : ℕ) (e : E) → StandsBack killed x scan back b k → k ≡ j + 1 → slice_get (x.page b).entries j ≡ Some e → back.before_low e ≡ false → StandsBack killed x scan back b j
  stands_less b j k e st is at f =
      let es = (x.page b).entries in
      let le = st.within in
      record {
        read = st.read;
        within = omega (arith, is, le);
        none_before = ap (list_any back.before_low) (behind_it es j k e is at) ∙ or_from (back.before_low e) (list_any back.before_low (drop k es)) f st.none_before;
      }

  -- one entry that isn't wanted is passed over
  passes_one : (b j k : ℕ) (e : E) → k ≡ j + 1 → slice_get (x.page b).entries j ≡ Some e → back.before_low e ≡ false → is_wanted killed scan e ≡ false → from_place_back killed x scan back b k ≡ from_place_back killed x scan back b j
  passes_one b j k e is at f w =
      let p = x.page b in
      let es = p.entries in
      let zs = take j es in
      let more : F (reverse (zs ++ e ∷ [])) ≡ F (reverse zs) = ap F (turned zs e) ∙ (goes_past e (reverse zs) f ∙ cond-false (is_wanted killed scan e) _ _ w) in
      place_is b k ∙ (ap (P b) (last_of es j k e is at)
      ∙ (ap (λ t. cond (t || p.prev == 0) (Over (F (reverse (zs ++ e ∷ [])))) (Reads p.prev (F (reverse (zs ++ e ∷ []))))) (any_last zs e f)
      ∙ (ap (λ g. cond (list_any back.before_low zs || p.prev == 0) (Over g) (Reads p.prev g)) more ∙ sym (place_is b j))))

  takes_one : (b j k : ℕ) (e : E) → k ≡ j + 1 → slice_get (x.page b).entries j ≡ Some e → back.before_low e ≡ false → is_wanted killed scan e ≡ true → from_place_back killed x scan back b k ≡ prepend (e ∷ []) (from_place_back killed x scan back b j)
  takes_one b j k e is at f w =
      let p = x.page b in
      let es = p.entries in
      let zs = take j es in
      let t = list_any back.before_low zs || p.prev == 0 in
      let more : F (reverse (zs ++ e ∷ [])) ≡ e ∷ F (reverse zs) = ap F (turned zs e) ∙ (goes_past e (reverse zs) f ∙ cond-true (is_wanted killed scan e) _ _ w) in
      place_is b k ∙ (ap (P b) (last_of es j k e is at)
      ∙ (ap (λ t. cond (t || p.prev == 0) (Over (F (reverse (zs ++ e ∷ [])))) (Reads p.prev (F (reverse (zs ++ e ∷ []))))) (any_last zs e f)
      ∙ (ap (λ g. cond t (Over g) (Reads p.prev g)) more
      ∙ (sym (through_cond (prepend (e ∷ [])) t (Over (F (reverse zs))) (Reads p.prev (F (reverse zs)))) ∙ ap (prepend (e ∷ [])) (sym (place_is b j))))))

  -- and so are many
  passes_all : (n b j k : ℕ) → k ≡ n + j → StandsBack killed x scan back b k
      → ((i : ℕ) (e : E) → j ≤ i → i < k → slice_get (x.page b).entries i ≡ Some e → (back.before_low e ≡ false) × (is_wanted killed scan e ≡ false))
      → (from_place_back killed x scan back b k ≡ from_place_back killed x scan back b j) × StandsBack killed x scan back b j
  passes_all zero b j k is st h =
      let same : k ≡ j = omega (arith, is) in
      (ap (λ m. from_place_back killed x scan back b m) same, subst (λ m. StandsBack killed x scan back b m) same st)
  passes_all (suc n) b j k is st h =
      let i = n + j in
      let next : k ≡ i + 1 = omega (arith, is) in
      let le = st.within in
      elim (slice_get_cases (x.page b).entries i).1 [
        | inl at ↦
            let e = at.0 in
            let f = h i e (omega arith) (omega (arith, next)) at.2 in
            let rest = passes_all n b j i refl (stands_less b i k e st next at.2 f.0) (λ m d lo hi. h m d lo (omega (arith, next, hi))) in
            (passes_one b i k e next at.2 f.0 f.1 ∙ rest.0, rest.1)
        | inr out ↦ absurd (let past = out.0 in omega (arith, past, next, le))
      ]

  pub over_is : (s : BackState E) → s ≡ Over [] → IsOver killed x scan back s
  over_is s e = record {
    rest = ap (rest_back killed x scan back) e ∙ rest_over killed x scan back [];
    left = ap (left_back killed x scan back) e ∙ left_over killed x scan back [];
  }

  pub reads_back : (b k : ℕ) → StandsBack killed x scan back b k → ReadsBack killed x scan back b k
  reads_back b k st =
      let p = x.page b in
      let es = p.entries in
      record {
        before = λ j e is at f.
            let zs = take j es in
            let stop : (list_any back.before_low (zs ++ e ∷ []) || p.prev == 0) ≡ true =
            or_left (list_any back.before_low (zs ++ e ∷ [])) (p.prev == 0) (list_any-append back.before_low zs (e ∷ []) ∙ or_right (list_any back.before_low zs) (list_any back.before_low (e ∷ [])) (or_left (back.before_low e) false f)) in
            let none : F (reverse (zs ++ e ∷ [])) ≡ [] = ap F (turned zs e) ∙ stops_at e (reverse zs) f in
            over_is (from_place_back killed x scan back b k) (place_is b k ∙ (ap (P b) (last_of es j k e is at) ∙ (cond-true (list_any back.before_low (zs ++ e ∷ []) || p.prev == 0) _ _ stop ∙ ap Over none)));
        wanted = λ j e is at f w.
            let st' = stands_less b j k e st is at f in
            let r = place_ends b j st' in
            let same = takes_one b j k e is at f w in
            let to = from_place_back killed x scan back b j in (
              ap (rest_back killed x scan back) same ∙ rest_front killed x scan back (e ∷ []) to r.0 (place_behind b j) r.1,
              ap (left_back killed x scan back) same ∙ left_front killed x scan back (e ∷ []) to (place_behind b j),
              st',
            );
        others = λ j le h.
            let r = passes_all (k - j) b j k (omega (arith, le)) st h in
            (same_leads killed x scan back (from_place_back killed x scan back b k) (from_place_back killed x scan back b j) r.0, r.1);
        first = λ none z.
            let front : take k es ≡ [] = ap (λ m. take m es) none in
            let f = F (reverse (take k es)) in
            over_is (from_place_back killed x scan back b k) (place_is b k ∙ (ap (P b) front ∙ cond-true (p.prev == 0) _ _ (eq-eqb p.prev 0 z)));
        previous = λ none ne.
            let front : take k es ≡ [] = ap (λ m. take m es) none in
            let on : (p.prev == 0) ≡ false = ne_eqb p.prev 0 ne in
            let is : from_place_back killed x scan back b k ≡ Reads p.prev [] = place_is b k ∙ (ap (P b) front ∙ cond-false (p.prev == 0) _ _ on) in
            let stop : (list_any back.before_low (take k es) || p.prev == 0) ≡ false = ap (λ zs. list_any back.before_low zs || p.prev == 0) front ∙ on in
            (same_leads killed x scan back (from_place_back killed x scan back b k) (Reads p.prev []) is, (left_comes b k st stop).0);
      }

  -- VISITS

  stands_last : (b : ℕ) → IsReadBack killed x scan back b → StandsBack killed x scan back b (length (x.page b).entries)
  stands_last b r = record { read = r; within = omega arith; none_before = ap (list_any back.before_low) (drop_all (length (x.page b).entries) (x.page b).entries (omega arith)) }

  pub seeks_on : (b : ℕ) → SeeksAt killed x scan back b → SeeksOn killed x scan back b
  seeks_on b v =
      let p = x.page b in
      let s : BackState E = Seeks b in
      let t = in_time v.visits s tt v.comes in
      let can = can_of b (seek_page killed scan back p) t.0 t.2 in
      let used = usable b can in
      let to : visit s ≡ seek_page killed scan back p = cond-true (can_visit x b) _ _ can in
      let lead = visit_leads killed x scan back t.0 s goal tt t.1 t.2 in
      let comes : (u : BackState E) → seek_page killed scan back p ≡ u → after (v.visits + 1) start ≡ u = λ u is. after_one killed x scan back v.visits start s u v.comes (to ∙ is) in
      let leads : (u : BackState E) → seek_page killed scan back p ≡ u → LeadsBack killed x scan back 1 s u = λ u is. subst (λ w. LeadsBack killed x scan back 1 s w) (to ∙ is) lead in
      record {
        not_meta = used.not_meta;
        inside = used.inside;
        used = used.used;
        right = λ passed. (leads (Seeks p.next) (seek_right b passed), record { visits = v.visits + 1; comes = comes (Seeks p.next) (seek_right b passed) });
        down = λ stays inner c cs is.
            let e : seek_page killed scan back p ≡ Seeks (child_for back.reaches c cs) = seek_down b stays inner ∙ ap (descend_back back) is in
            (leads (Seeks (child_for back.reaches c cs)) e, record { visits = v.visits + 1; comes = comes (Seeks (child_for back.reaches c cs)) e });
        reads = λ stays leaf.
            let e : seek_page killed scan back p ≡ from_place_back killed x scan back b (length p.entries) = seek_reads b stays leaf ∙ whole_page b (λ h. (quiet.pages b used).half_dead_empty h) in
            (leads (from_place_back killed x scan back b (length p.entries)) e, stands_last b (inl (record { seeks = v; stays = stays; leaf = leaf })));
      }

  pub visits_back_on : (b : ℕ) → GoesLeftTo killed x scan back b → VisitsBack killed x scan back b
  visits_back_on b v =
      let p = x.page b in
      let known = left_leaf b v in
      let used = known.0 in
      let none : p.half_dead ≡ true → p.entries ≡ [] = λ h. (quiet.pages b used).half_dead_empty h in
      let s : BackState E = Reads b v.so_far in
      let t = in_time v.visits s tt v.comes in
      let can = can_of b (read_page killed scan back p v.so_far) t.0 t.2 in
      let clean : BackState E = Reads b [] in
      let to : visit clean ≡ from_place_back killed x scan back b (length p.entries) = cond-true (can_visit x b) _ _ can ∙ whole_page b none in
      let front : visit s ≡ prepend v.so_far (visit clean) = ap (λ ys. visit (Reads b ys)) (sym (append-nil v.so_far)) ∙ visit_front killed x scan back v.so_far clean tt in
      let rest = ends_behind killed x scan back t.0 v.so_far (visit clean) goal (visit_behind killed x scan back clean tt) (ap (after t.0) (sym front) ∙ t.2) in
      let lead = visit_leads killed x scan back t.0 clean rest.0 tt t.1 rest.1 in
      record {
        not_meta = used.not_meta;
        inside = used.inside;
        used = used.used;
        leaf = known.1;
        half_dead_empty = none;
        leads = subst (λ w. LeadsBack killed x scan back 1 clean w) to lead;
        stands = stands_last b (inr v);
      }

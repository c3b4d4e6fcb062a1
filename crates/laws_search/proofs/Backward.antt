-- The backward searcher finds the same in the reverse order.
use Rattle.std.proofs.Common.{◌≡◌, ◌≢◌, ℕ, zero, suc, ◌+◌, ◌≤◌, inl, inr, Bool, true, false, not, ◌||◌, List, [], ◌∷◌, ◌++◌, length, reverse, refl, sym, ap, ◌∙◌, subst, arith, append_assoc, append-nil, length-append}
use Rattle.std.specs.Prelude.{⊤, Option, Some, None, ◌==◌}
use Rattle.std.specs.List.{filter, flat_map, list_any, take_while}
use Rattle.std.proofs.lemmas.Bool.{cases_Bool, cases_eq, or_cases, or_parts, cond-true, cond-false, and_from, and_left, not_from_true, not_from_false, eq-eqb, ne_eqb, eqb-true, eqb-false, lt-ltb}
use Rattle.std.proofs.lemmas.List.{reverse-append}
use Rattle.std.proofs.lemmas.List.Concat.{flat_map-append}
use Rattle.std.proofs.lemmas.List.Elements.{filter-append}
use Rattle.laws_search.specs.Order.{Order, IsOrder, Scan}
use Rattle.laws_search.specs.Tree.{Index}
use Rattle.laws_search.specs.Levels.{Role, Dead, Linked, Right_half, Neither, is_live, Row, row, lower_after, level_rows}
use Rattle.laws_search.specs.Searchable.{IsInUse, IsSearchable, EntryAbove}
use Rattle.laws_search.specs.Search.{last_or, right_of, is_wanted}
use Rattle.laws_search.specs.Back.{Back, IsBack, BackState, Seeks, Reads, Over, Lost, descend_back, found_back, read_page, seek_page, can_visit, after_back, back_start, FindsBack}
use Rattle.laws_search.proofs.Lists.{In, In-left, In-right, In-cases, Each, Each-in, Each-map}
use Rattle.laws_search.proofs.Chains.{OnLevel}
use Rattle.laws_search.proofs.Rows.{RoleFacts, Sound, level_is}
use Rattle.laws_search.proofs.Cut.{filter_none, cut_same, stops_back, filter-reverse}
use Rattle.laws_search.proofs.Rising.{Rising, rising_across}
use Rattle.laws_search.proofs.Leaves.{row_entries, page_rising, some_passes, no_key_last, above, all_rising, is_leaf}
use Rattle.laws_search.proofs.Descent.{Reached, Keeps, passes}
use Rattle.laws_search.proofs.Fast.{fast_good_blocks, few_pages}
use Rattle.laws_search.proofs.Whole.{found as all_found, wanted_nothing}

-- a list without its front is rising
Rising-back : {S E : Type 0} (o : Order S E) (xs ys : List E) → Rising o (xs ++ ys) → Rising o ys
Rising-back o [] ys r = r
Rising-back o (x ∷ xs) ys r = Rising-back o xs ys r.1

pub record EndsBack {S E : Type 0} (killed : E → Bool) (x : Index S E) (scan : Scan S E) (back : Back S E) (s : BackState E) (n : ℕ) (zs : List E) : Type 0 where
  pub visits : ℕ
  pub few : visits ≤ n
  pub ended : after_back killed x scan back visits s ≡ Over zs

module _ {S E : Type 0} (o : Order S E) (laws : IsOrder o) (x : Index S E) (quiet : IsSearchable o x) (root : x.root ≢ 0) (killed : E → Bool) (scan : Scan S E) (back : Back S E) (fits : IsBack o scan back) where
  ends_later : (s : BackState E) (n m : ℕ) (zs : List E) → n ≤ m → EndsBack killed x scan back s n zs → EndsBack killed x scan back s m zs
  ends_later s n m zs le h = let few : h.visits ≤ n = h.few in record { visits = h.visits; few = omega arith; ended = h.ended }

  can : (b : ℕ) → IsInUse x b → can_visit x b ≡ true
  can b used = and_from _ _ (not_from_false (b == 0) (ne_eqb b 0 used.not_meta)) (and_from _ _ (lt-ltb b x.blocks used.inside) (not_from_false (x.page b).idle used.used))

  seek_step : (b n m : ℕ) (s : BackState E) (zs : List E) → suc n ≤ m → IsInUse x b → seek_page killed scan back (x.page b) ≡ s → EndsBack killed x scan back s n zs → EndsBack killed x scan back (Seeks b) m zs
  seek_step b n m s zs le used is h =
      let few : h.visits ≤ n = h.few in
      record { visits = suc h.visits; few = omega arith; ended = ap (after_back killed x scan back h.visits) (cond-true (can_visit x b) (seek_page killed scan back (x.page b)) Lost (can b used) ∙ is) ∙ h.ended }

  read_step : (b n m : ℕ) (ys : List E) (s : BackState E) (zs : List E) → suc n ≤ m → IsInUse x b → read_page killed scan back (x.page b) ys ≡ s → EndsBack killed x scan back s n zs → EndsBack killed x scan back (Reads b ys) m zs
  read_step b n m ys s zs le used is h =
      let few : h.visits ≤ n = h.few in
      record { visits = suc h.visits; few = omega arith; ended = ap (after_back killed x scan back h.visits) (cond-true (can_visit x b) (read_page killed scan back (x.page b) ys) Lost (can b used) ∙ is) ∙ h.ended }

  ends_here : (zs : List E) → EndsBack killed x scan back (Over zs) 0 zs
  ends_here zs = record { visits = 0; few = omega arith; ended = refl }

  -- what the scan wants of a stretch of the level, and of the pages left of here, the nearest first
  abbrev W : List (Row S) → List E
  W rs = filter (is_wanted killed scan) (flat_map (row_entries x) rs)

  abbrev found : ℕ → List E
  found b = filter (is_wanted killed scan) (x.page b).entries

  abbrev back_of : List (Row S) → List E
  back_of [] = []
  back_of (row p r lo ∷ rs) = reverse (found p) ++ back_of rs

  -- the pages to the left, the nearest first
  abbrev Left : ℕ → List (Row S) → Type 0
  Left b [] = b ≡ 0
  Left b (row p r lo ∷ rs) = (b ≡ p) × OnLevel x 0 p × Left (x.page p).prev rs

  -- each entry is above those of the pages to the left
  abbrev Falls : List (Row S) → Type 0
  Falls [] = ⊤
  Falls (row p r lo ∷ rs) = ((e d : E) → In e (x.page p).entries → In d (flat_map (row_entries x) rs) → o.precedes d e ≡ true) × Falls rs

  unwanted : (es : List E) → Each (λ e. scan.matches e ≡ false) es → filter (is_wanted killed scan) es ≡ []
  unwanted es h = filter_none (is_wanted killed scan) es (Each-map (λ e. scan.matches e ≡ false) (λ e. is_wanted killed scan e ≡ false) es (λ e m. and_left (scan.matches e) (not (killed e)) m) h)

  back_nothing : (rs : List (Row S)) → ((d : E) → In d (flat_map (row_entries x) rs) → scan.matches d ≡ false) → back_of rs ≡ []
  back_nothing [] h = refl
  back_nothing (row p r lo ∷ rs) h =
      let mine : found p ≡ [] = unwanted (x.page p).entries (each (x.page p).entries (λ d k. h d (In-left d (x.page p).entries (flat_map (row_entries x) rs) k))) in
      ap (λ w. reverse w ++ back_of rs) mine ∙ back_nothing rs (λ d k. h d (In-right d (x.page p).entries (flat_map (row_entries x) rs) k))
    where
      each : (es : List E) → ((d : E) → In d es → scan.matches d ≡ false) → Each (λ e. scan.matches e ≡ false) es
      each [] h = tt
      each (e ∷ es) h = (h e (inl refl), each es (λ d k. h d (inr k)))

  -- what a page gives
  gives : (p : ℕ) → OnLevel x 0 p → found_back killed scan back (x.page p) ≡ reverse (found p)
  unfolding found_back
  gives p here =
      let es = (x.page p).entries in
      let cut : filter (is_wanted killed scan) (take_while (λ e. not (back.before_low e)) (reverse es)) ≡ reverse (found p) =
      cut_same back.before_low (is_wanted killed scan) (reverse es)
      (stops_back o back.before_low (is_wanted killed scan) (λ e t. and_left (scan.matches e) (not (killed e)) (fits.none_before e t)) (λ d e t k. fits.stays_before d e t k) es (page_rising o laws x quiet.pages p here))
      ∙ filter-reverse (is_wanted killed scan) es in
      elim (cases_Bool (x.page p).half_dead) [
        | inl h ↦ cond-true (x.page p).half_dead [] _ h ∙ sym (ap (λ w. reverse (filter (is_wanted killed scan) w)) ((quiet.pages p here.0).half_dead_empty h))
        | inr h ↦ cond-false (x.page p).half_dead [] _ h ∙ cut
      ]

  -- where a page is read, its entries and those to the left are yielded
  read_on : (p : ℕ) (rs : List (Row S)) → OnLevel x 0 p → Left (x.page p).prev rs → ((e d : E) → In e (x.page p).entries → In d (flat_map (row_entries x) rs) → o.precedes d e ≡ true) → ((ys : List E) → (x.page p).prev ≢ 0 → EndsBack killed x scan back (Reads (x.page p).prev ys) (length rs) (ys ++ back_of rs)) → (ys : List E) → EndsBack killed x scan back (read_page killed scan back (x.page p) ys) (length rs) (ys ++ (reverse (found p) ++ back_of rs))
  unfolding read_page
  read_on p rs here left falls rest ys = elim (cases_Bool (list_any back.before_low (x.page p).entries || (x.page p).prev == 0)) [
    | inl t ↦
        let none : back_of rs ≡ [] = elim (or_cases (list_any back.before_low (x.page p).entries) ((x.page p).prev == 0) t) [
          | inl past ↦
              let e = some_passes back.before_low (x.page p).entries past in
              back_nothing rs (λ d k. fits.none_before d (fits.stays_before d e.0 e.2 (falls e.0 d e.1 k)))
          | inr z ↦ ap back_of (no_left (x.page p).prev rs left (eqb-true (x.page p).prev 0 z))
        ] in
        let same : ys ++ found_back killed scan back (x.page p) ≡ ys ++ (reverse (found p) ++ back_of rs) = ap (λ w. ys ++ w) (gives p here ∙ (sym (append-nil (reverse (found p))) ∙ ap (λ w. reverse (found p) ++ w) (sym none))) in
        let state : read_page killed scan back (x.page p) ys ≡ Over (ys ++ found_back killed scan back (x.page p)) = cond-true _ _ _ t in
        subst (λ s. EndsBack killed x scan back s (length rs) (ys ++ (reverse (found p) ++ back_of rs))) (sym state)
        (subst (EndsBack killed x scan back (Over (ys ++ found_back killed scan back (x.page p))) (length rs)) same (ends_later _ 0 (length rs) _ (omega arith) (ends_here (ys ++ found_back killed scan back (x.page p)))))
    | inr t ↦
        let on : (x.page p).prev ≢ 0 = eqb-false (x.page p).prev 0 (or_parts (list_any back.before_low (x.page p).entries) ((x.page p).prev == 0) t).1 in
        let ys' : List E = ys ++ found_back killed scan back (x.page p) in
        let same : ys' ++ back_of rs ≡ ys ++ (reverse (found p) ++ back_of rs) = append_assoc ys (found_back killed scan back (x.page p)) (back_of rs) ∙ ap (λ w. ys ++ (w ++ back_of rs)) (gives p here) in
        let state : read_page killed scan back (x.page p) ys ≡ Reads (x.page p).prev ys' = cond-false _ _ _ t in
        subst (λ s. EndsBack killed x scan back s (length rs) (ys ++ (reverse (found p) ++ back_of rs))) (sym state)
        (subst (EndsBack killed x scan back (Reads (x.page p).prev ys') (length rs)) same (rest ys' on))
  ]
    where
      no_left : (b : ℕ) (rs : List (Row S)) → Left b rs → b ≡ 0 → rs ≡ []
      no_left b [] l z = refl
      no_left b (row q r lo ∷ rs) l z = absurd (l.1.0.not_meta (sym l.0 ∙ z))

  reads : (rs : List (Row S)) (b : ℕ) (ys : List E) → Left b rs → Falls rs → b ≢ 0 → EndsBack killed x scan back (Reads b ys) (length rs) (ys ++ back_of rs)
  reads [] b ys left falls ne = absurd (ne left)
  reads (row p r lo ∷ rs) b ys left falls ne =
      subst (λ z. EndsBack killed x scan back (Reads z ys) (suc (length rs)) (ys ++ (reverse (found p) ++ back_of rs))) (sym left.0)
      (read_step p (length rs) (suc (length rs)) ys (read_page killed scan back (x.page p) ys) _ (omega arith) left.1.0 refl
      (read_on p rs left.1 left.2 falls.0 (λ zs on. reads rs (x.page p).prev zs left.2 falls.1 on) ys))

  -- a place in the leaf level: what is left of it, from the left and from the right
  record Turned (front done rest : List (Row S)) (b : ℕ) : Type 0 where
    rows : level_rows x x.level ≡ front ++ rest
    left : Left (x.page b).prev done
    falls : Falls done
    apart : (d e : E) → In d (flat_map (row_entries x) done) → In e (flat_map (row_entries x) rest) → o.precedes d e ≡ true
    rising : Rising o (flat_map (row_entries x) rest)
    turned : reverse (W front) ≡ back_of done
    long : length front ≡ length done

  -- one page further right
  turn : (front done rest : List (Row S)) (p : ℕ) (r : Role) (lo : Option S) → OnLevel x 0 p → Turned front done (row p r lo ∷ rest) p → (x.page p).next ≢ 0 → Turned (front ++ row p r lo ∷ []) (row p r lo ∷ done) rest (x.page p).next
  turn front done rest p r lo here t on =
      let es = (x.page p).entries in
      let after = flat_map (row_entries x) rest in
      let link = (quiet.pages p here.0).right_sibling on in
      let grown : W (front ++ row p r lo ∷ []) ≡ W front ++ found p =
      ap (filter (is_wanted killed scan)) (flat_map-append (row_entries x) front (row p r lo ∷ []) ∙ ap (λ w. flat_map (row_entries x) front ++ w) (append-nil es)) ∙ filter-append (is_wanted killed scan) (flat_map (row_entries x) front) es in
      let old : length front ≡ length done = t.long in
      record {
        rows = t.rows ∙ sym (append_assoc front (row p r lo ∷ []) rest);
        left = (link.2, here, t.left);
        falls = (λ e d i j. t.apart d e j (In-left e es after i), t.falls);
        apart = λ d e i j. elim (In-cases d es (flat_map (row_entries x) done) i) [
          | inl k ↦ Each-in (λ e. o.precedes d e ≡ true) e after (rising_across o es after d t.rising k) j
          | inr k ↦ t.apart d e k (In-right e es after j)
        ];
        rising = Rising-back o es after t.rising;
        turned = ap reverse grown ∙ (reverse-append (W front) (found p) ∙ ap (λ w. reverse (found p) ++ w) t.turned);
        long = omega (arith, length-append front (row p r lo ∷ []));
      }

  -- up to any page
  turn_all : (pre front done : List (Row S)) (p : ℕ) (r : Role) (lo : Option S) (post : List (Row S)) (split : Bool) (lower : Option S) (b : ℕ) → Sound o x 0 split lower b (pre ++ row p r lo ∷ post) → Turned front done (pre ++ row p r lo ∷ post) b → (done' : List (Row S)) × Turned (front ++ pre) done' (row p r lo ∷ post) p
  turn_all [] front done p r lo post split lower b s t =
      (done, subst (λ w. Turned w done (row p r lo ∷ post) p) (sym (append-nil front)) (subst (Turned front done (row p r lo ∷ post)) s.0.at t))
  turn_all (row q r' lo' ∷ pre) front done p r lo post split lower b s t =
      let t' = subst (Turned front done (row q r' lo' ∷ (pre ++ row p r lo ∷ post))) s.0.at t in
      let on : (x.page q).next ≢ 0 = more pre p r lo post _ _ _ s.1 in
      let next = turn front done (pre ++ row p r lo ∷ post) q r' lo' s.0.here t' on in
      let all = turn_all pre (front ++ row q r' lo' ∷ []) (row q r' lo' ∷ done) p r lo post _ _ _ s.1 next in
      (all.0, subst (λ w. Turned w all.0 (row p r lo ∷ post) p) (append_assoc front (row q r' lo' ∷ []) pre) all.1)
    where
      more : (pre : List (Row S)) (p : ℕ) (r : Role) (lo : Option S) (post : List (Row S)) (split : Bool) (lower : Option S) (b : ℕ) → Sound o x 0 split lower b (pre ++ row p r lo ∷ post) → b ≢ 0
      more [] p r lo post split lower b s = λ z. s.0.here.0.not_meta (sym s.0.at ∙ z)
      more (row q r' lo' ∷ pre) p r lo post split lower b s = λ z. s.0.here.0.not_meta (sym s.0.at ∙ z)

  goal : List E
  goal = W (level_rows x x.level)

  abbrev Good : ℕ → ℕ → Type 0
  Good b n = EndsBack killed x scan back (Seeks b) (n + x.blocks) (reverse (W (level_rows x x.level)))

  some_key : (h : Option S) → right_of back.reaches h ≡ true → (s : S) × (h ≡ Some s)
  some_key None g = absurd (grind arith)
  some_key (Some s) g = (s, refl)

  goes_on : (p : ℕ) (split : Bool) (r : Role) → IsInUse x p → RoleFacts (x.page p) split r → passes x back.reaches p ≡ true → (x.page p).next ≢ 0
  goes_on p split r used role t = elim (or_cases (right_of back.reaches (x.page p).high_key) (x.page p).half_dead t) [
    | inl g ↦ let k = some_key (x.page p).high_key g in λ z. absurd (cc ((quiet.pages p used).no_high_key z, k.1))
    | inr h ↦ alive r role h
  ]
    where
      alive : (r : Role) → RoleFacts (x.page p) split r → (x.page p).half_dead ≡ true → (x.page p).next ≢ 0
      alive Dead f h = f.0
      alive Linked f h = absurd (let n : (x.page p).half_dead ≡ false = f in grind arith)
      alive Right_half f h = absurd (let n : (x.page p).half_dead ≡ false = f.0 in grind arith)
      alive Neither f h = absurd f

  -- beyond a high key that the scan doesn't reach nothing matches
  beyond : (p : ℕ) (r : Role) (rs : List (Row S)) (split split' : Bool) (lower : Option S) → OnLevel x 0 p → RoleFacts (x.page p) split r → (x.page p).half_dead ≡ false → Sound o x 0 split' (lower_after (x.page p) r lower) (x.page p).next rs → (h : Option S) → (x.page p).high_key ≡ h → right_of back.reaches h ≡ false → W rs ≡ []
  beyond p r rs split split' lower here role awake s None is g =
      ap W (no_key_last o laws x quiet.pages p 0 split' (lower_after (x.page p) r lower) rs here.0 awake is s)
  beyond p r rs split split' lower here role awake s (Some t) is g =
      let live : is_live r ≡ true = is_awake r role in
      let low : lower_after (x.page p) r lower ≡ Some t = cond-true (is_live r) (x.page p).high_key lower live ∙ is in
      let up : Each (EntryAbove o (Some t)) (flat_map (row_entries x) rs) = subst (λ z. Each (EntryAbove o z) (flat_map (row_entries x) rs)) low (above o laws x quiet.pages rs split' (lower_after (x.page p) r lower) (x.page p).next s) in
      unwanted (flat_map (row_entries x) rs) (Each-map (EntryAbove o (Some t)) (λ e. scan.matches e ≡ false) (flat_map (row_entries x) rs) (λ e k. fits.none_right e t g k) up)
    where
      is_awake : (r : Role) → RoleFacts (x.page p) split r → is_live r ≡ true
      is_awake Dead f = absurd (let l = f.1 (is_leaf o laws x quiet.pages p here) in grind arith)
      is_awake Linked f = refl
      is_awake Right_half f = refl
      is_awake Neither f = absurd f

  -- the place where the second phase begins
  begin : (front done rest : List (Row S)) (p : ℕ) (r : Role) (lo : Option S) (split : Bool) (lower : Option S) (b : ℕ) → Sound o x 0 split lower b (row p r lo ∷ rest) → Turned front done (row p r lo ∷ rest) p → passes x back.reaches p ≡ false → EndsBack killed x scan back (Seeks p) (suc (length rest) + x.blocks) (reverse (W (level_rows x x.level)))
  unfolding seek_page
  begin front done rest p r lo split lower b s t stays =
      let parts = or_parts (right_of back.reaches (x.page p).high_key) (x.page p).half_dead stays in
      let none : W rest ≡ [] = beyond p r rest split _ lower s.0.here s.0.role parts.1 s.1 (x.page p).high_key refl parts.0 in
      let leaf = is_leaf o laws x quiet.pages p s.0.here in
      let state : seek_page killed scan back (x.page p) ≡ read_page killed scan back (x.page p) [] = cond-false (passes x back.reaches p) _ _ stays ∙ cond-false (not (x.page p).leaf) _ _ (not_from_true (x.page p).leaf leaf) in
      let es = (x.page p).entries in
      let after = flat_map (row_entries x) rest in
      let reading = read_on p done s.0.here t.left (λ e d i j. t.apart d e j (In-left e es after i)) (λ zs on. reads done (x.page p).prev zs t.left t.falls on) [] in
      let all : W (level_rows x x.level) ≡ W front ++ found p =
      ap W t.rows ∙ (ap (filter (is_wanted killed scan)) (flat_map-append (row_entries x) front (row p r lo ∷ rest)) ∙ (filter-append (is_wanted killed scan) (flat_map (row_entries x) front) (es ++ after) ∙ ap (λ w. W front ++ w) (filter-append (is_wanted killed scan) es after ∙ (ap (λ w. found p ++ w) none ∙ append-nil (found p))))) in
      let same : reverse (found p) ++ back_of done ≡ reverse (W (level_rows x x.level)) = sym (ap reverse all ∙ (reverse-append (W front) (found p) ∙ ap (λ w. reverse (found p) ++ w) t.turned)) in
      let few = few_pages o x quiet root 0 x.level (omega arith) in
      let long : length (level_rows x x.level) ≡ length front + length (row p r lo ∷ rest) = ap length t.rows ∙ length-append front (row p r lo ∷ rest) in
      let old : length front ≡ length done = t.long in
      seek_step p (length done) (suc (length rest) + x.blocks) (read_page killed scan back (x.page p) []) _ (omega arith) s.0.here.0 state
      (subst (EndsBack killed x scan back (read_page killed scan back (x.page p) []) (length done)) same reading)

  -- along the leaves to the right, and back
  seek : (rest front done : List (Row S)) (p : ℕ) (r : Role) (lo : Option S) (split : Bool) (lower : Option S) (b : ℕ) → Sound o x 0 split lower b (row p r lo ∷ rest) → Turned front done (row p r lo ∷ rest) p → EndsBack killed x scan back (Seeks p) (suc (length rest) + x.blocks) (reverse (W (level_rows x x.level)))
  unfolding seek_page
  seek [] front done p r lo split lower b s t = elim (cases_Bool (passes x back.reaches p)) [
    | inl g ↦ absurd (goes_on p split r s.0.here.0 s.0.role g s.1)
    | inr g ↦ begin front done [] p r lo split lower b s t g
  ]
  seek (row q rq lq ∷ rest) front done p r lo split lower b s t = elim (cases_Bool (passes x back.reaches p)) [
    | inl g ↦
        let on = goes_on p split r s.0.here.0 s.0.role g in
        let t' = subst (Turned (front ++ row p r lo ∷ []) (row p r lo ∷ done) (row q rq lq ∷ rest)) s.1.0.at (turn front done (row q rq lq ∷ rest) p r lo s.0.here t on) in
        let ends = seek rest (front ++ row p r lo ∷ []) (row p r lo ∷ done) q rq lq _ _ _ s.1 t' in
        let ends' = subst (λ z. EndsBack killed x scan back (Seeks z) (suc (length rest) + x.blocks) (reverse (W (level_rows x x.level)))) (sym s.1.0.at) ends in
        seek_step p (suc (length rest) + x.blocks) (suc (suc (length rest)) + x.blocks) (Seeks (x.page p).next) _ (omega arith) s.0.here.0 (cond-true (passes x back.reaches p) _ _ g) ends'
    | inr g ↦ begin front done (row q rq lq ∷ rest) p r lo split lower b s t g
  ]

  to_leaf : (post pre : List (Row S)) (p : ℕ) (r : Role) (lo : Option S) (split : Bool) (lower : Option S) (b : ℕ) → level_rows x x.level ≡ pre ++ row p r lo ∷ post → Sound o x 0 split lower b (row p r lo ∷ post) → Reached back.reaches lo → Good p (suc (length post))
  to_leaf post pre p r lo split lower b rows s reached =
      let lev = level_is o x quiet root x.level 0 (omega arith) in
      let whole : Sound o x 0 false None lev.first (pre ++ row p r lo ∷ post) = subst (Sound o x 0 false None lev.first) rows lev.sound in
      let start : Turned [] [] (pre ++ row p r lo ∷ post) lev.first = record {
        rows = rows;
        left = lev.begins;
        falls = tt;
        apart = λ d e i j. absurd i;
        rising = all_rising o laws x quiet.pages (pre ++ row p r lo ∷ post) false None lev.first whole;
        turned = refl;
        long = refl;
      } in
      let t = turn_all pre [] [] p r lo post false None lev.first whole start in
      seek post pre t.0 p r lo split lower b s t.1

  -- a page that is passed, and one from which a child is taken
  seek_right : (b : ℕ) → passes x back.reaches b ≡ true → seek_page killed scan back (x.page b) ≡ Seeks (x.page b).next
  unfolding seek_page
  seek_right b passed = cond-true (passes x back.reaches b) _ _ passed

  seek_down : (b : ℕ) (c : S × ℕ) (cs : List (S × ℕ)) → passes x back.reaches b ≡ false → (x.page b).leaf ≡ false → (x.page b).children ≡ c ∷ cs → seek_page killed scan back (x.page b) ≡ Seeks (last_or c (filter (λ d. back.reaches d.0) cs)).1
  unfolding seek_page
  seek_down b c cs stays inner is = cond-false (passes x back.reaches b) _ _ stays ∙ (cond-true (not (x.page b).leaf) _ _ (not_from_false (x.page b).leaf inner) ∙ ap (descend_back back) is)

  abbrev keeps : Keeps o x back.reaches Good
  keeps = record {
    cost = λ rs. length rs;
    budget = λ rs. length rs;
    cost_right = λ q lo rs. omega arith;
    cost_part = λ pre q lo rs. omega (arith, length-append pre (row q Linked lo ∷ rs));
    later = λ b n m le h. ends_later (Seeks b) (n + x.blocks) (m + x.blocks) (reverse (W (level_rows x x.level))) (omega arith) h;
    right = λ b n used g h. seek_step b (n + x.blocks) (suc n + x.blocks) (Seeks (x.page b).next) _ (omega arith) used (seek_right b g) h;
    down = λ b n c cs used g inner is h. seek_step b (n + x.blocks) (suc n + x.blocks) (Seeks (last_or c (filter (λ d. back.reaches d.0) cs)).1) _ (omega arith) used (seek_down b c cs g inner is) h;
    leaf = λ post pre p r lo split lower b rows s live reached stays. to_leaf post pre p r lo split lower b rows s reached;
  }

  pub fast_back : EndsBack killed x scan back (Seeks x.fastroot) (x.blocks + x.blocks) (reverse (W (level_rows x x.level)))
  fast_back = fast_good_blocks o x quiet root back.reaches Good keeps (λ rs. omega arith)

over_stays : {S E : Type 0} (killed : E → Bool) (x : Index S E) (scan : Scan S E) (back : Back S E) (n : ℕ) (zs : List E) → after_back killed x scan back n (Over zs) ≡ Over zs
over_stays killed x scan back zero zs = refl
over_stays killed x scan back (suc n) zs = refl

more_back : {S E : Type 0} (killed : E → Bool) (x : Index S E) (scan : Scan S E) (back : Back S E) (k n : ℕ) (s : BackState E) (zs : List E) → k ≤ n → after_back killed x scan back k s ≡ Over zs → after_back killed x scan back n s ≡ Over zs
more_back killed x scan back zero n s zs le h = ap (after_back killed x scan back n) h ∙ over_stays killed x scan back n zs
more_back killed x scan back (suc k) zero s zs le h = absurd (omega arith)
more_back killed x scan back (suc k) (suc n) (Seeks b) zs le h = more_back killed x scan back k n _ zs (omega arith) h
more_back killed x scan back (suc k) (suc n) (Reads b ys) zs le h = more_back killed x scan back k n _ zs (omega arith) h
more_back killed x scan back (suc k) (suc n) (Over ys) zs le h = h
more_back killed x scan back (suc k) (suc n) Lost zs le h = h

-- the backward searcher finds the reverse of what the scan is to find
pub finds_back : {S E : Type 0} (o : Order S E) (x : Index S E) → IsOrder o → IsSearchable o x → FindsBack o x
unfolding back_start
finds_back {S} {E} o x laws quiet = λ killed scan back fits. elim (cases_eq x.root 0) [
  | inl none ↦
      let start : back_start x ≡ Over [] = cond-true (x.fastroot == 0) (Over []) (Seeks x.fastroot) (eq-eqb x.fastroot 0 (quiet.root_or_empty.0 none)) in
      ([], wanted_nothing o x quiet none killed scan, ap (after_back killed x scan back (x.blocks + x.blocks)) start ∙ over_stays killed x scan back (x.blocks + x.blocks) [])
  | inr root ↦
      let e = fast_back o laws x quiet root killed scan back fits in
      let ne : x.fastroot ≢ 0 = λ z. root (quiet.root_or_empty.1 z) in
      let start : back_start x ≡ Seeks x.fastroot = cond-false (x.fastroot == 0) (Over []) (Seeks x.fastroot) (ne_eqb x.fastroot 0 ne) in (
        filter (is_wanted killed scan) (flat_map (row_entries x) (level_rows x x.level)),
        all_found o laws x quiet root killed scan,
        ap (after_back killed x scan back (x.blocks + x.blocks)) start ∙ more_back killed x scan back e.visits (x.blocks + x.blocks) (Seeks x.fastroot) _ e.few e.ended,
      )
]

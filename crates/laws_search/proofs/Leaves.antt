-- The leaf level: its entries rise, and a walk along it yields those that the scan wants.
use Rattle.std.proofs.Common.{◌≡◌, ◌≢◌, ℕ, suc, ◌≤◌, inl, inr, Bool, true, false, not, ◌&&◌, ◌||◌, List, [], ◌∷◌, ◌++◌, length, refl, sym, ap, ◌∙◌, subst, arith, append_assoc, append-nil}
use Rattle.std.specs.Prelude.{Option, Some, None, nat_lt, ◌==◌}
use Rattle.std.specs.List.{filter, flat_map, list_any}
use Rattle.std.proofs.lemmas.Bool.{cases_Bool, or_cases, or_parts, and_from, and_left, not_from_true, cond-true, cond-false, not_from_false, eqb-true, eqb-false, ne_eqb, lt-ltb}
use Rattle.std.proofs.lemmas.List.Elements.{filter-append}
use Rattle.std.proofs.lemmas.List.Concat.{flat_map-append}
use Rattle.laws_search.specs.Order.{Order, IsOrder, Scan, IsScan}
use Rattle.laws_search.specs.Tree.{Index}
use Rattle.laws_search.specs.Levels.{Role, Dead, Linked, Right_half, Neither, Row, row, row_page}
use Rattle.laws_search.specs.Searchable.{IsInUse, IsSoundPage, IfFirst, EntryAbove, KeyAbove}
use Rattle.laws_search.specs.Search.{State, At, Ended, is_wanted, right_of, descend, found_on, visit_page, visit, after_visits}
use Rattle.laws_search.proofs.Lists.{In, Each, Each-in, Each-map, Each-append}
use Rattle.laws_search.proofs.Chains.{OnLevel}
use Rattle.laws_search.proofs.Rows.{RoleFacts, Sound}
use Rattle.laws_search.proofs.Cut.{filter_none, cut_same, stops_rising}
use Rattle.laws_search.proofs.Rising.{Rising, Rising-append, rising_across, rising_from_adjacent, each_above, each_within}

-- the entries of a row's page
abbrev pub row_entries : {S E : Type 0} → Index S E → Row S → List E
row_entries x r = (x.page (row_page r)).entries

-- the entry is at or below the bound
abbrev pub EntryWithin : {S E : Type 0} → Order S E → Option S → E → Type 0
EntryWithin o None e = ⊥
EntryWithin o (Some s) e = o.within e s ≡ true

-- some member passes
pub some_passes : {E : Type 0} (p : E → Bool) (es : List E) → list_any p es ≡ true → (e : E) × In e es × (p e ≡ true)
some_passes p [] h = absurd (grind arith)
some_passes p (e ∷ es) h = elim (or_cases (p e) (list_any p es) h) [
  | inl k ↦ (e, inl refl, k)
  | inr k ↦ let r = some_passes p es k in (r.0, inr r.1, r.2)
]

module _ {S E : Type 0} (o : Order S E) (laws : IsOrder o) (x : Index S E) (sound : (b : ℕ) → IsInUse x b → IsSoundPage o x b) where
  pub is_leaf : (p : ℕ) → OnLevel x 0 p → (x.page p).leaf ≡ true
  is_leaf p here = (sound p here.0).leaf_if_below here.1

  pub page_rising : (p : ℕ) → OnLevel x 0 p → Rising o (x.page p).entries
  page_rising p here = rising_from_adjacent o laws (x.page p).entries ((sound p here.0).rising (is_leaf p here))

  page_within : (p : ℕ) → OnLevel x 0 p → (s : S) → (x.page p).high_key ≡ Some s → Each (λ e. o.within e s ≡ true) (x.page p).entries
  page_within p here s is = each_within o laws s (x.page p).entries (page_rising p here) ((sound p here.0).last_within (is_leaf p here) s is)

  dead_empty : (p : ℕ) (split : Bool) → OnLevel x 0 p → RoleFacts (x.page p) split Dead → (x.page p).entries ≡ []
  dead_empty p split here role = (sound p here.0).half_dead_empty (role.1 (is_leaf p here))

  -- a page without a high key is the last
  pub no_key_last : (p level : ℕ) (split : Bool) (lower : Option S) (rs : List (Row S)) → IsInUse x p → (x.page p).half_dead ≡ false → (x.page p).high_key ≡ None → Sound o x level split lower (x.page p).next rs → rs ≡ []
  no_key_last p level split lower [] used alive is s = refl
  no_key_last p level split lower (row q r lo ∷ rs) used alive is s =
      let ne : (x.page p).next ≢ 0 = λ z. s.0.here.0.not_meta (sym s.0.at ∙ z) in
      let k = (sound p used).a_high_key alive ne in
      absurd (cc (k.1, is))

  -- what is above the high key is above the lower bound
  key_up : (lower : Option S) (t : S) (e : E) → KeyAbove o lower t → o.within e t ≡ false → EntryAbove o lower e
  key_up None t e k w = tt
  key_up (Some s) t e k w = elim (cases_Bool (o.within e s)) [ inl v ↦ absurd (let b = laws.higher e s t v k in grind arith) | inr v ↦ v ]

  all_up : (lower : Option S) (t : S) (es : List E) → KeyAbove o lower t → Each (λ e. o.within e t ≡ false) es → Each (EntryAbove o lower) es
  all_up lower t es k h = Each-map (λ e. o.within e t ≡ false) (EntryAbove o lower) es (λ e w. key_up lower t e k w) h

  -- the rest of the level is above the lower bound if it is above the high key
  up_from_key : (rs : List (Row S)) (p level : ℕ) (split : Bool) (lower : Option S) → IsInUse x p → (x.page p).half_dead ≡ false → ((s : S) → (x.page p).high_key ≡ Some s → KeyAbove o lower s) → Sound o x level split (x.page p).high_key (x.page p).next rs → (h : Option S) → (x.page p).high_key ≡ h → Each (EntryAbove o h) (flat_map (row_entries x) rs) → Each (EntryAbove o lower) (flat_map (row_entries x) rs)
  up_from_key rs p level split lower used alive key s None is all =
      let none : rs ≡ [] = no_key_last p level split (x.page p).high_key rs used alive is s in
      subst (λ z. Each (EntryAbove o lower) (flat_map (row_entries x) z)) (sym none) tt
  up_from_key rs p level split lower used alive key s (Some t) is all = all_up lower t (flat_map (row_entries x) rs) (key t is) all

  above_live : (p : ℕ) (lower lo : Option S) (rs : List (Row S)) → lo ≡ lower → OnLevel x 0 p → (x.page p).half_dead ≡ false → IfFirst (x.page p).entries (EntryAbove o lo) → ((s : S) → (x.page p).high_key ≡ Some s → KeyAbove o lo s) → (split : Bool) → Sound o x 0 split (x.page p).high_key (x.page p).next rs → Each (EntryAbove o (x.page p).high_key) (flat_map (row_entries x) rs) → Each (EntryAbove o lower) ((x.page p).entries ++ flat_map (row_entries x) rs)
  above_live p lower lo rs low here alive first key split s ih =
      subst (λ z. Each (EntryAbove o z) ((x.page p).entries ++ flat_map (row_entries x) rs)) low (Each-append _ _ _ (each_above o laws lo (x.page p).entries (page_rising p here) first) (up_from_key rs p 0 split lo here.0 alive key s (x.page p).high_key refl ih))

  -- the entries from here on are above the lower bound
  pub above : (rs : List (Row S)) (split : Bool) (lower : Option S) (b : ℕ) → Sound o x 0 split lower b rs → Each (EntryAbove o lower) (flat_map (row_entries x) rs)
  above [] split lower b s = tt
  above (row p Neither lo ∷ rs) split lower b s = absurd s.0.role
  above (row p Dead lo ∷ rs) split lower b s =
      let rest = above rs _ _ _ s.1 in
      rw (dead_empty p split s.0.here s.0.role) rest
  above (row p Linked lo ∷ rs) split lower b s = above_live p lower lo rs s.0.low s.0.here s.0.role (s.0.entry refl) (s.0.key refl) _ s.1 (above rs _ _ _ s.1)
  above (row p Right_half lo ∷ rs) split lower b s = above_live p lower lo rs s.0.low s.0.here s.0.role.0 (s.0.entry refl) (s.0.key refl) _ s.1 (above rs _ _ _ s.1)

  -- what is at or below the high key is below the rest of the level
  rising_live : (p : ℕ) (rs : List (Row S)) → OnLevel x 0 p → (x.page p).half_dead ≡ false → (split : Bool) → Sound o x 0 split (x.page p).high_key (x.page p).next rs → Rising o (flat_map (row_entries x) rs) → (h : Option S) → (x.page p).high_key ≡ h → Each (EntryAbove o h) (flat_map (row_entries x) rs) → Rising o ((x.page p).entries ++ flat_map (row_entries x) rs)
  rising_live p rs here alive split s ih None is all =
      let none : rs ≡ [] = no_key_last p 0 split (x.page p).high_key rs here.0 alive is s in
      subst (λ z. Rising o ((x.page p).entries ++ flat_map (row_entries x) z)) (sym none) (rw append-nil (page_rising p here))
  rising_live p rs here alive split s ih (Some t) is all =
      Rising-append o (x.page p).entries (flat_map (row_entries x) rs) (page_rising p here) ih
      (λ d e i j. laws.across d e t (Each-in _ d (x.page p).entries (page_within p here t is) i) (Each-in _ e (flat_map (row_entries x) rs) all j))

  -- the entries of the level rise
  pub all_rising : (rs : List (Row S)) (split : Bool) (lower : Option S) (b : ℕ) → Sound o x 0 split lower b rs → Rising o (flat_map (row_entries x) rs)
  all_rising [] split lower b s = tt
  all_rising (row p Neither lo ∷ rs) split lower b s = absurd s.0.role
  all_rising (row p Dead lo ∷ rs) split lower b s =
      let rest = all_rising rs _ _ _ s.1 in
      rw (dead_empty p split s.0.here s.0.role) rest
  all_rising (row p Linked lo ∷ rs) split lower b s = rising_live p rs s.0.here s.0.role _ s.1 (all_rising rs _ _ _ s.1) (x.page p).high_key refl (above rs _ _ _ s.1)
  all_rising (row p Right_half lo ∷ rs) split lower b s = rising_live p rs s.0.here s.0.role.0 _ s.1 (all_rising rs _ _ _ s.1) (x.page p).high_key refl (above rs _ _ _ s.1)

  not_end : (pre : List (Row S)) (p : ℕ) (r : Role) (lo : Option S) (post : List (Row S)) (level : ℕ) (split : Bool) (lower : Option S) (b : ℕ) → Sound o x level split lower b (pre ++ row p r lo ∷ post) → b ≢ 0
  not_end [] p r lo post level split lower b s = λ z. s.0.here.0.not_meta (sym s.0.at ∙ z)
  not_end (row q r' lo' ∷ pre) p r lo post level split lower b s = λ z. s.0.here.0.not_meta (sym s.0.at ∙ z)

  key_on : (lower : Option S) (t : S) (e : E) → KeyAbove o lower t → EntryWithin o lower e → o.within e t ≡ true
  key_on None t e k w = absurd w
  key_on (Some s) t e k w = laws.higher e s t w k

  live_on : (q : ℕ) (lo lower : Option S) → IsInUse x q → (x.page q).half_dead ≡ false → (x.page q).next ≢ 0 → lo ≡ lower → ((s : S) → (x.page q).high_key ≡ Some s → KeyAbove o lo s) → (e : E) → EntryWithin o lower e → EntryWithin o (x.page q).high_key e
  live_on q lo lower used alive ne low key e w =
      let k = (sound q used).a_high_key alive ne in
      subst (λ z. EntryWithin o z e) (sym k.1) (key_on lo k.0 e (key k.0 k.1) (subst (λ z. EntryWithin o z e) (sym low) w))

  -- what is at or below the lower bound so far is at or below that of each later page
  carry : (pre : List (Row S)) (p : ℕ) (r : Role) (lo : Option S) (post : List (Row S)) (split : Bool) (lower : Option S) (b : ℕ) → Sound o x 0 split lower b (pre ++ row p r lo ∷ post) → (e : E) → EntryWithin o lower e → EntryWithin o lo e
  carry [] p r lo post split lower b s e w = subst (λ z. EntryWithin o z e) (sym s.0.low) w
  carry (row q Neither lo' ∷ pre) p r lo post split lower b s e w = absurd s.0.role
  carry (row q Dead lo' ∷ pre) p r lo post split lower b s e w = carry pre p r lo post _ _ _ s.1 e w
  carry (row q Linked lo' ∷ pre) p r lo post split lower b s e w = carry pre p r lo post _ _ _ s.1 e (live_on q lo' lower s.0.here.0 s.0.role (not_end pre p r lo post 0 _ _ _ s.1) s.0.low (s.0.key refl) e w)
  carry (row q Right_half lo' ∷ pre) p r lo post split lower b s e w = carry pre p r lo post _ _ _ s.1 e (live_on q lo' lower s.0.here.0 s.0.role.0 (not_end pre p r lo post 0 _ _ _ s.1) s.0.low (s.0.key refl) e w)

  page_on : (q : ℕ) → OnLevel x 0 q → (x.page q).half_dead ≡ false → (x.page q).next ≢ 0 → Each (EntryWithin o (x.page q).high_key) (x.page q).entries
  page_on q here alive ne =
      let k = (sound q here.0).a_high_key alive ne in
      subst (λ z. Each (EntryWithin o z) (x.page q).entries) (sym k.1) (page_within q here k.0 k.1)

  -- the entries of the pages before a page are at or below its lower bound
  pub before : (pre : List (Row S)) (p : ℕ) (r : Role) (lo : Option S) (post : List (Row S)) (split : Bool) (lower : Option S) (b : ℕ) → Sound o x 0 split lower b (pre ++ row p r lo ∷ post) → Each (EntryWithin o lo) (flat_map (row_entries x) pre)
  before [] p r lo post split lower b s = tt
  before (row q Neither lo' ∷ pre) p r lo post split lower b s = absurd s.0.role
  before (row q Dead lo' ∷ pre) p r lo post split lower b s =
      let rest = before pre p r lo post _ _ _ s.1 in
      rw (dead_empty q split s.0.here s.0.role) rest
  before (row q Linked lo' ∷ pre) p r lo post split lower b s =
      Each-append _ _ _ (Each-map _ _ _ (λ e w. carry pre p r lo post _ _ _ s.1 e w) (page_on q s.0.here s.0.role (not_end pre p r lo post 0 _ _ _ s.1))) (before pre p r lo post _ _ _ s.1)
  before (row q Right_half lo' ∷ pre) p r lo post split lower b s =
      Each-append _ _ _ (Each-map _ _ _ (λ e w. carry pre p r lo post _ _ _ s.1 e w) (page_on q s.0.here s.0.role.0 (not_end pre p r lo post 0 _ _ _ s.1))) (before pre p r lo post _ _ _ s.1)

-- the searcher ends within n visits with this list
pub record EndsWithin {S E : Type 0} (killed : E → Bool) (x : Index S E) (scan : Scan S E) (s : State E) (n : ℕ) (zs : List E) : Type 0 where
  pub visits : ℕ
  pub few : visits ≤ n
  pub ended : after_visits killed x scan visits s ≡ Ended zs

module _ {S E : Type 0} (o : Order S E) (laws : IsOrder o) (x : Index S E) (sound : (b : ℕ) → IsInUse x b → IsSoundPage o x b) (killed : E → Bool) (scan : Scan S E) (fits : IsScan o scan) where
  pub ends_step : (b n : ℕ) (ys : List E) (s : State E) (zs : List E) → visit killed x scan b ys ≡ s → EndsWithin killed x scan s n zs → EndsWithin killed x scan (At b ys) (suc n) zs
  ends_step b n ys s zs is h =
      let few : h.visits ≤ n = h.few in
      record { visits = suc h.visits; few = omega arith; ended = ap (after_visits killed x scan h.visits) is ∙ h.ended }

  -- the same under another count
  pub ends_visit : (b n m : ℕ) (ys : List E) (s : State E) (zs : List E) → suc n ≤ m → visit killed x scan b ys ≡ s → EndsWithin killed x scan s n zs → EndsWithin killed x scan (At b ys) m zs
  ends_visit b n m ys s zs le is h =
      let few : h.visits ≤ n = h.few in
      record { visits = suc h.visits; few = omega arith; ended = ap (after_visits killed x scan h.visits) is ∙ h.ended }

  pub ends_here : (zs : List E) → EndsWithin killed x scan (Ended zs) 0 zs
  ends_here zs = record { visits = 0; few = omega arith; ended = refl }

  -- a visit to a page in use
  pub visit_used : (b : ℕ) (ys : List E) → IsInUse x b → visit killed x scan b ys ≡ visit_page killed scan (x.page b) ys
  unfolding visit
  visit_used b ys used =
      cond-true (not (b == 0) && (nat_lt b x.blocks && not (x.page b).idle)) _ _
      (and_from _ _ (not_from_false (b == 0) (ne_eqb b 0 used.not_meta)) (and_from _ _ (lt-ltb b x.blocks used.inside) (not_from_false (x.page b).idle used.used)))

  -- the scan goes right of the high key, or the page is half-dead
  abbrev pub moves : ℕ → Bool
  moves b = right_of scan.goes_right (x.page b).high_key || (x.page b).half_dead

  abbrev found : ℕ → List E
  found b = filter (is_wanted killed scan) (x.page b).entries

  abbrev stops : ℕ → Bool
  stops b = list_any scan.past_high (x.page b).entries || (x.page b).next == 0

  pub visit_right : (b : ℕ) (ys : List E) → IsInUse x b → moves b ≡ true → visit killed x scan b ys ≡ At (x.page b).next ys
  unfolding visit_page
  visit_right b ys used m = visit_used b ys used ∙ cond-true (moves b) _ _ m

  pub visit_down : (b : ℕ) (ys : List E) → IsInUse x b → moves b ≡ false → (x.page b).leaf ≡ false → visit killed x scan b ys ≡ descend scan (x.page b).children ys
  unfolding visit_page
  visit_down b ys used m l = visit_used b ys used ∙ (cond-false (moves b) _ _ m ∙ cond-true (not (x.page b).leaf) _ _ (not_from_false (x.page b).leaf l))

  visit_end : (b : ℕ) (ys : List E) → IsInUse x b → moves b ≡ false → (x.page b).leaf ≡ true → stops b ≡ true → visit killed x scan b ys ≡ Ended (ys ++ found_on killed scan (x.page b))
  unfolding visit_page
  visit_end b ys used m l t = visit_used b ys used ∙ (cond-false (moves b) _ _ m ∙ (cond-false (not (x.page b).leaf) _ _ (not_from_true (x.page b).leaf l) ∙ cond-true (stops b) _ _ t))

  visit_on : (b : ℕ) (ys : List E) → IsInUse x b → moves b ≡ false → (x.page b).leaf ≡ true → stops b ≡ false → visit killed x scan b ys ≡ At (x.page b).next (ys ++ found_on killed scan (x.page b))
  unfolding visit_page
  visit_on b ys used m l t = visit_used b ys used ∙ (cond-false (moves b) _ _ m ∙ (cond-false (not (x.page b).leaf) _ _ (not_from_true (x.page b).leaf l) ∙ cond-false (stops b) _ _ t))

  -- the entries past the high bound are no loss
  found_all : (b : ℕ) → OnLevel x 0 b → found_on killed scan (x.page b) ≡ found b
  unfolding found_on
  found_all b here = cut_same scan.past_high (is_wanted killed scan) (x.page b).entries
      (stops_rising o scan.past_high (is_wanted killed scan) (λ e t. and_left (scan.matches e) (not (killed e)) (fits.none_past e t)) fits.stays_past (x.page b).entries (page_rising o laws x sound b here))

  -- what doesn't match isn't wanted
  pub unwanted : (es : List E) → Each (λ e. scan.matches e ≡ false) es → filter (is_wanted killed scan) es ≡ []
  unwanted es h = filter_none (is_wanted killed scan) es (Each-map (λ e. scan.matches e ≡ false) (λ e. is_wanted killed scan e ≡ false) es (λ e m. and_left (scan.matches e) (not (killed e)) m) h)

  pub left_unwanted : (s : S) (es : List E) → scan.goes_right s ≡ true → Each (λ e. o.within e s ≡ true) es → filter (is_wanted killed scan) es ≡ []
  left_unwanted s es g h = unwanted es (Each-map (λ e. o.within e s ≡ true) (λ e. scan.matches e ≡ false) es (λ e w. fits.none_left e s g w) h)

  pub right_key : (h : Option S) → right_of scan.goes_right h ≡ true → (s : S) × (h ≡ Some s) × (scan.goes_right s ≡ true)
  right_key None g = absurd (grind arith)
  right_key (Some s) g = (s, refl, g)

  pub role_alive : (p : ℕ) (split : Bool) (r : Role) → RoleFacts (x.page p) split r → (x.page p).half_dead ≡ true → (x.page p).next ≢ 0
  role_alive p split Dead f h = f.0
  role_alive p split Linked f h = absurd (let n : (x.page p).half_dead ≡ false = f in grind arith)
  role_alive p split Right_half f h = absurd (let n : (x.page p).half_dead ≡ false = f.0 in grind arith)
  role_alive p split Neither f h = absurd f

  -- a leaf that the searcher passes over has nothing, and isn't the last
  passed : (p : ℕ) (split : Bool) (r : Role) → OnLevel x 0 p → RoleFacts (x.page p) split r → moves p ≡ true → (found p ≡ []) × ((x.page p).next ≢ 0)
  passed p split r here role m = elim (or_cases (right_of scan.goes_right (x.page p).high_key) (x.page p).half_dead m) [
    | inl g ↦
        let k = right_key (x.page p).high_key g in
        (left_unwanted k.0 (x.page p).entries k.2 (page_within o laws x sound p here k.0 k.1), λ z. absurd (cc ((sound p here.0).no_high_key z, k.1)))
    | inr h ↦ (ap (filter (is_wanted killed scan)) ((sound p here.0).half_dead_empty h), role_alive p split r role h)
  ]

  -- what the scan wants of a stretch of the level
  abbrev pub wanted_of : List (Row S) → List E
  wanted_of rs = filter (is_wanted killed scan) (flat_map (row_entries x) rs)

  pub wanted-append : (xs ys : List (Row S)) → wanted_of (xs ++ ys) ≡ wanted_of xs ++ wanted_of ys
  wanted-append xs ys = ap (filter (is_wanted killed scan)) (flat_map-append (row_entries x) xs ys) ∙ filter-append (is_wanted killed scan) (flat_map (row_entries x) xs) (flat_map (row_entries x) ys)

  -- past the high bound nothing matches any more
  rest_unwanted : (p : ℕ) (rs : List (Row S)) → Rising o ((x.page p).entries ++ flat_map (row_entries x) rs) → list_any scan.past_high (x.page p).entries ≡ true → wanted_of rs ≡ []
  rest_unwanted p rs up any =
      let e = some_passes scan.past_high (x.page p).entries any in
      unwanted (flat_map (row_entries x) rs) (Each-map (λ d. o.precedes e.0 d ≡ true) (λ d. scan.matches d ≡ false) (flat_map (row_entries x) rs) (λ d k. fits.none_past d (fits.stays_past e.0 d e.2 k)) (rising_across o (x.page p).entries (flat_map (row_entries x) rs) e.0 up e.1))

  pub ends_as : (s : State E) (n : ℕ) (zs ws : List E) → zs ≡ ws → EndsWithin killed x scan s n zs → EndsWithin killed x scan s n ws
  ends_as s n zs ws e h = subst (EndsWithin killed x scan s n) e h

  pub ends_later : (s : State E) (n m : ℕ) (zs : List E) → n ≤ m → EndsWithin killed x scan s n zs → EndsWithin killed x scan s m zs
  ends_later s n m zs le h = let few : h.visits ≤ n = h.few in record { visits = h.visits; few = omega arith; ended = h.ended }

  -- one page of the leaf level, and the rest
  walk_one : (p : ℕ) (r : Role) (lo : Option S) (rs : List (Row S)) (split : Bool) → OnLevel x 0 p → RoleFacts (x.page p) split r → Rising o ((x.page p).entries ++ flat_map (row_entries x) rs) → ((x.page p).next ≡ 0 → rs ≡ []) → ((zs : List E) → (x.page p).next ≢ 0 → EndsWithin killed x scan (At (x.page p).next zs) (length rs) (zs ++ wanted_of rs)) → (ys : List E) → EndsWithin killed x scan (At p ys) (suc (length rs)) (ys ++ wanted_of (row p r lo ∷ rs))
  walk_one p r lo rs split here role up last rest ys =
      let all : wanted_of (row p r lo ∷ rs) ≡ found p ++ wanted_of rs = filter-append (is_wanted killed scan) (x.page p).entries (flat_map (row_entries x) rs) in
      elim (cases_Bool (moves p)) [
        | inl m ↦
            let by = passed p split r here role m in
            let same : ys ++ wanted_of rs ≡ ys ++ wanted_of (row p r lo ∷ rs) = ap (λ w. ys ++ w) (sym (all ∙ ap (λ w. w ++ wanted_of rs) by.0)) in
            ends_as (At p ys) (suc (length rs)) _ _ same (ends_step p (length rs) ys (At (x.page p).next ys) _ (visit_right p ys here.0 m) (rest ys by.1))
        | inr m ↦ elim (cases_Bool (stops p)) [
          | inl t ↦
              let none : wanted_of rs ≡ [] = elim (or_cases (list_any scan.past_high (x.page p).entries) ((x.page p).next == 0) t) [
                | inl past ↦ rest_unwanted p rs up past
                | inr z ↦ ap wanted_of (last (eqb-true (x.page p).next 0 z))
              ] in
              let same : ys ++ found p ≡ ys ++ wanted_of (row p r lo ∷ rs) = ap (λ w. ys ++ w) (sym (all ∙ (ap (λ w. found p ++ w) none ∙ append-nil (found p)))) in
              ends_as (At p ys) (suc (length rs)) _ _ same (ends_step p (length rs) ys (Ended (ys ++ found p)) _ (visit_end p ys here.0 m (is_leaf o laws x sound p here) t ∙ ap (λ w. Ended (ys ++ w)) (found_all p here)) (ends_later _ 0 (length rs) _ (omega arith) (ends_here (ys ++ found p))))
          | inr t ↦
              let on : (x.page p).next ≢ 0 = eqb-false (x.page p).next 0 (or_parts (list_any scan.past_high (x.page p).entries) ((x.page p).next == 0) t).1 in
              let same : (ys ++ found p) ++ wanted_of rs ≡ ys ++ wanted_of (row p r lo ∷ rs) = append_assoc ys (found p) (wanted_of rs) ∙ ap (λ w. ys ++ w) (sym all) in
              ends_as (At p ys) (suc (length rs)) _ _ same (ends_step p (length rs) ys (At (x.page p).next (ys ++ found p)) _ (visit_on p ys here.0 m (is_leaf o laws x sound p here) t ∙ ap (λ w. At (x.page p).next (ys ++ w)) (found_all p here)) (rest (ys ++ found p) on))
        ]
      ]

  end_of : (level : ℕ) (split : Bool) (lower : Option S) (b : ℕ) (rs : List (Row S)) → Sound o x level split lower b rs → b ≡ 0 → rs ≡ []
  end_of level split lower b [] s z = refl
  end_of level split lower b (row p r lo ∷ rs) s z = absurd (s.0.here.0.not_meta (sym s.0.at ∙ z))

  -- from any page of the leaf level on, the searcher yields what the scan wants of the rest
  pub walk : (rs : List (Row S)) (split : Bool) (lower : Option S) (b : ℕ) (ys : List E) → Sound o x 0 split lower b rs → b ≢ 0 → EndsWithin killed x scan (At b ys) (length rs) (ys ++ wanted_of rs)
  walk [] split lower b ys s ne = absurd (ne s)
  walk (row p r lo ∷ rs) split lower b ys s ne =
      subst (λ z. EndsWithin killed x scan (At z ys) (suc (length rs)) (ys ++ wanted_of (row p r lo ∷ rs))) (sym s.0.at)
      (walk_one p r lo rs split s.0.here s.0.role (all_rising o laws x sound (row p r lo ∷ rs) split lower b s) (λ z. end_of 0 _ _ _ rs s.1 z) (λ zs on. walk rs _ _ _ zs s.1 on) ys)

-- A search goes from page to page: what each visit leaves of it.
use Rattle.std.proofs.Common.{◌≡◌, ◌≢◌, ℕ, zero, suc, ◌+◌, ◌<◌, ◌≤◌, ◌⊎◌, inl, inr, Bool, true, false, List, [], refl, ap, sym, subst, ◌∙◌, arith}
use Rattle.std.specs.Prelude.{IfOk, Result, Ok, Err, None, Option, Some, cond, not, nat_lt, ◌==◌, ◌||◌, ◌∷◌}
use Rattle.std.proofs.lemmas.Bool.{and_cases, and_from, both_ways, cases_lt, cond-false, cond-true, eq-eqb, lt-ltb, ne_eqb, not_from_false, or_parts}
use Rattle.outside.specs.Outside.{Names}
use Rattle.page_layout.specs.Page.{count_of}
use Rattle.laws_search.specs.Keys.{Entry}
use Rattle.laws_search.specs.Order.{Scan}
use Rattle.laws_search.specs.Search.{Answers, At, Ended, IsWanted, State, Stuck, descend, right_of, search_start, visit, visit_page}
use Rattle.laws_search.specs.Spots.{Stands, VisitsOn, from_place, left_of, rest_of, visits_made, yielded_of}
use Rattle.laws_search.specs.Tree.{Index}
use Rattle.laws_search.proofs.Whole.{after_ended}
use Rattle.key_orders.specs.declared.columns.Value.{Value}
use Rattle.key_orders.specs.declared.Tid.{Tid}
use Rattle.key_orders.specs.Scans.{Bounds, order_of}
use Rattle.key_attrs.specs.Columns.{TreeColumns}
use Rattle.bt_meta.specs.Flags.{is_half_dead, is_leaf}
use Rattle.bt_meta.specs.Pages.{opaque_of}
use Rattle.bt_image.specs.Image.{TreePage, first_data, has_high_key, page_image}
use Rattle.bt_image.specs.Pages.{breaks_items}
use Rattle.bt_levels.specs.declared.sound.SoundTree.{SoundTree}
use Rattle.bt_levels.specs.Sound.{HoldsTree, block_count, fastroot_of, held_block, image_of, index_columns, specs_of}
use Rattle.bt_steps.specs.declared.inner.Step.{Step}
use Rattle.bt_steps.specs.declared.inner.Step.TheVariants.{To, Read, Lost}
use Rattle.bt_search.specs.declared.spot.Spot.{Spot}
use Rattle.bt_search.specs.Descents.{ComesTo, GoesOn, scan_goes}
use Rattle.bt_steps.specs.Entries.{IsPlaceOn, entries_before, place_of}
use Rattle.bt_steps.specs.Pages.{IsReadable, is_killed}
use Rattle.bt_steps.specs.Ways.{Key, Leads, down_to, is_left_behind, next_of}
use Rattle.bt_search.specs.Spots.{StandsAt, left_at, left_from, rest_at, rest_from, scan_on, state_at}
use Rattle.bt_search.specs.Steps.{GoesInSteps}
use Rattle.bt_steps.proofs.Places.{before-first}
use Rattle.bt_search.proofs.Reading.{keys-some, readable-at, stands-there, state-there}

-- a page that can be visited
visit-is : {S E : Type 0} (killed : E → Bool) (x : Index S E) (scan : Scan S E) (b : ℕ) → VisitsOn killed x scan b → visit killed x scan b [] ≡ visit_page killed scan (x.page b) []
unfolding visit
visit-is killed x scan b v =
    cond-true _ _ _ (and_from (not (b == 0)) _ (not_from_false (b == 0) (ne_eqb b 0 v.not_meta)) (and_from (nat_lt b x.blocks) _ (lt-ltb b x.blocks v.inside) (not_from_false _ v.used)))

-- where a scan goes is where the searcher goes
scan-goes : (killed : Entry Value Tid → Bool) (scan : Scan Key (Entry Value Tid)) (p : TreePage) (next : ℕ) → next_of scan.goes_right p ≡ Some next → visit_page killed scan p [] ≡ At next []
unfolding visit_page
scan-goes killed scan p next to = by_cases (right_of scan.goes_right p.high_key || p.half_dead) p.leaf p.children _ to
  where
    same : (m n : ℕ) → ◌≡◌ {A = Option ℕ} (Some m) (Some n) → ◌≡◌ {A = State (Entry Value Tid)} (At m []) (At n [])
    same m n e = ap (λ (o : ℕ). At o []) (inner e)
      where
        inner : ◌≡◌ {A = Option ℕ} (Some m) (Some n) → m ≡ n
        inner h = cc

    down : (cs : List (Key × ℕ)) → down_to scan.goes_right cs ≡ Some next → descend scan cs [] ≡ At next []
    down [] e = absurd cc
    down (c ∷ cs) e = same _ next e

    by_cases : (behind leaf : Bool) (cs : List (Key × ℕ)) (rest : State (Entry Value Tid))
        → cond behind (Some p.next) (cond leaf None (down_to scan.goes_right cs)) ≡ Some next
        → cond behind (At p.next []) (cond (not leaf) (descend scan cs []) rest) ≡ At next []
    by_cases true leaf cs rest e = same p.next next e
    by_cases false true cs rest e = absurd cc
    by_cases false false cs rest e = down cs e

-- who has ended makes no visit, and has nothing left
made-none : {S E : Type 0} (killed : E → Bool) (x : Index S E) (scan : Scan S E) (n : ℕ) (es : List E) → visits_made killed x scan n (Ended es) ≡ 0
made-none killed x scan zero es = refl
made-none killed x scan (suc n) es = refl

made-most : {S E : Type 0} (killed : E → Bool) (x : Index S E) (scan : Scan S E) (n : ℕ) (s : State E) → visits_made killed x scan n s ≤ n
made-most killed x scan zero s = omega arith
made-most killed x scan (suc n) (At b ys) = let rest = made-most killed x scan n (visit killed x scan b ys) in omega (arith, rest)
made-most killed x scan (suc n) (Ended ys) = omega arith
made-most killed x scan (suc n) Stuck = omega arith

pub left-most : {S E : Type 0} (killed : E → Bool) (x : Index S E) (scan : Scan S E) (s : State E) → left_of killed x scan s ≤ x.blocks
unfolding left_of
left-most killed x scan s = made-most killed x scan x.blocks s

ended-rest : {S E : Type 0} (killed : E → Bool) (x : Index S E) (scan : Scan S E) (es : List E) → rest_of killed x scan (Ended es) ≡ es
unfolding rest_of
ended-rest killed x scan es = ap yielded_of (after_ended killed x scan x.blocks es)

ended-left : {S E : Type 0} (killed : E → Bool) (x : Index S E) (scan : Scan S E) (es : List E) → left_of killed x scan (Ended es) ≡ 0
unfolding left_of
ended-left killed x scan es = made-none killed x scan x.blocks es

-- a page has no item only where it has no right sibling
first-within : (page : List ℕ) → breaks_items page ≡ false → first_data page ≤ count_of page + 1
unfolding breaks_items
first-within page h = elim (and_cases (has_high_key page) (count_of page == 0) (or_parts _ _ h).0) [
  | inl none ↦ let one = cond-false {A = ℕ} (has_high_key page) 2 1 none in omega (arith, one)
  | inr some ↦ elim (cases_lt (count_of page) 1) [
    | inl few ↦ absurd (both_ways (count_of page == 0) some (eq-eqb (count_of page) 0 (omega (arith, few))))
    | inr more ↦ elim (two (has_high_key page)) [
      | inl e ↦ let at = cond-true {A = ℕ} (has_high_key page) 2 1 e in omega (arith, at, more)
      | inr e ↦ let at = cond-false {A = ℕ} (has_high_key page) 2 1 e in omega (arith, at, more)
    ]
  ]
]
  where
    two : (b : Bool) → (b ≡ true) ⊎ (b ≡ false)
    two true = inl refl
    two false = inr refl

-- no spot of block 0 has anything left
pub nowhere-state : (names : Names) (sound : SoundTree) (bounds : Bounds) (spot : Spot) → spot.block ≡ 0 → state_at names sound bounds spot ≡ Ended []
unfolding state_at
nowhere-state names sound bounds spot none = cond-true (spot.block == 0) _ _ (eq-eqb spot.block 0 none)

pub nowhere-rest : (names : Names) (sound : SoundTree) (bounds : Bounds) (spot : Spot) → spot.block ≡ 0 → rest_at names sound bounds spot ≡ []
nowhere-rest names sound bounds spot none =
    ap (rest_from names sound bounds) (nowhere-state names sound bounds spot none) ∙ ended-rest is_killed (image_of names sound) (scan_on sound bounds) []

pub nowhere-left : (names : Names) (sound : SoundTree) (bounds : Bounds) (spot : Spot) → spot.block ≡ 0 → left_at names sound bounds spot ≡ 0
nowhere-left names sound bounds spot none =
    ap (left_from names sound bounds) (nowhere-state names sound bounds spot none) ∙ ended-left is_killed (image_of names sound) (scan_on sound bounds) []

pub left_at-most : (names : Names) (sound : SoundTree) (bounds : Bounds) (spot : Spot) → left_at names sound bounds spot ≤ block_count sound
left_at-most names sound bounds spot = left-most is_killed (image_of names sound) (scan_on sound bounds) (state_at names sound bounds spot)

-- in an empty tree a spot of block 0 stands
pub nowhere-stands : (names : Names) (sound : SoundTree) (bounds : Bounds) (spot : Spot) (page : List ℕ) → spot.block ≡ 0 → fastroot_of sound ≡ 0 → StandsAt names sound bounds spot page
nowhere-stands names sound bounds spot page none empty = record {
  nowhere = λ e. empty;
  in_hand = λ some. absurd (some none);
  place = λ some. absurd (some none);
  comes = λ some. absurd (some none);
}

-- THE START

start-empty : {S E : Type 0} (x : Index S E) → x.fastroot ≡ 0 → search_start x ≡ Ended []
unfolding search_start
start-empty x none = cond-true (x.fastroot == 0) _ _ (eq-eqb x.fastroot 0 none)

start-at : {S E : Type 0} (x : Index S E) (b : ℕ) → b ≡ x.fastroot → b ≢ 0 → search_start x ≡ At b []
unfolding search_start
start-at x b is some = cond-false (x.fastroot == 0) _ _ (ne_eqb x.fastroot 0 (λ e. some (is ∙ e))) ∙ ap (λ (c : ℕ). At c []) (sym is)

module _ (names : Names) (sound : SoundTree) (bounds : Bounds) (holds : HoldsTree names sound) where
  pub begins-empty : fastroot_of sound ≡ 0 → search_start (image_of names sound) ≡ Ended []
  begins-empty none = start-empty (image_of names sound) (sym holds.fastroot ∙ none)

  pub begins-at : fastroot_of sound ≢ 0 → search_start (image_of names sound) ≡ At (fastroot_of sound) []
  begins-at some = start-at (image_of names sound) (fastroot_of sound) holds.fastroot some

  pub begins-comes : fastroot_of sound ≢ 0 → ComesTo names sound bounds (fastroot_of sound)
  begins-comes some = record { visits = 0; so_far = []; comes = begins-at some }

  pub start-first : (first : ℕ) → first ≡ fastroot_of sound → first ≢ 0 → search_start (image_of names sound) ≡ At first []
  start-first first is some = begins-at (λ e. some (is ∙ e)) ∙ ap (λ (b : ℕ). At b []) (sym is)

  pub first-comes : (first : ℕ) → first ≡ fastroot_of sound → first ≢ 0 → ComesTo names sound bounds first
  first-comes first is some = subst (λ (b : ℕ). ComesTo names sound bounds b) (sym is) (begins-comes (λ e. some (is ∙ e)))

  -- an empty tree
  pub nowhere-starts : (first : ℕ) (spot : Spot) → first ≡ fastroot_of sound → first ≡ 0 → spot.block ≡ 0 → search_start (image_of names sound) ≡ state_at names sound bounds spot
  nowhere-starts first spot is empty none = begins-empty (sym is ∙ empty) ∙ sym (nowhere-state names sound bounds spot none)

  module _ (steps : GoesInSteps names sound bounds) (to : State (Entry Value Tid)) where
    pub rest-wanted : rest_from names sound bounds (search_start (image_of names sound)) ≡ rest_from names sound bounds to → IsWanted (order_of (specs_of sound)) is_killed (image_of names sound) (scan_on sound bounds) (rest_from names sound bounds to)
    rest-wanted e = subst (λ (es : List (Entry Value Tid)). IsWanted (order_of (specs_of sound)) is_killed (image_of names sound) (scan_on sound bounds) es) e steps.wanted

    pub rest-answers : rest_from names sound bounds (search_start (image_of names sound)) ≡ rest_from names sound bounds to → Answers is_killed (image_of names sound) (scan_on sound bounds) (block_count sound) (rest_from names sound bounds to)
    rest-answers e = subst (λ (es : List (Entry Value Tid)). Answers is_killed (image_of names sound) (scan_on sound bounds) (block_count sound) es) e steps.answer

-- A VISIT

module _ (names : Names) (sound : SoundTree) (bounds : Bounds) (holds : HoldsTree names sound) (steps : GoesInSteps names sound bounds) (b : ℕ) (comes : ComesTo names sound bounds b) where
  v : VisitsOn is_killed (image_of names sound) (scan_on sound bounds) b
  v = steps.visits b comes

  pub comes-inside : (b ≢ 0) × (b < block_count sound)
  comes-inside = (v.not_meta, v.inside)

  pub not-over : (now limit : ℕ) → now + left_from names sound bounds (At b []) ≤ limit → limit ≤ now → ⊥
  not-over now limit enough over = let more = v.left in omega (arith, more, enough, over)

  readable-in : (page : List ℕ) → page ≡ held_block names sound b → IsReadable (index_columns sound) page
  readable-in page is = subst (IsReadable (index_columns sound)) (sym is) (readable-at names sound bounds holds steps b comes)

  pub step-lost : (page : List ℕ) → page ≡ held_block names sound b → (IsReadable (index_columns sound) page → Leads (index_columns sound) (scan_goes (specs_of sound) bounds) page Lost) → ⊥
  step-lost page is leads = leads (readable-in page is)

  -- to another page
  goes-by : (next : ℕ) (page : List ℕ) → page ≡ held_block names sound b → (IsReadable (index_columns sound) page → Leads (index_columns sound) (scan_goes (specs_of sound) bounds) page (To next)) → visit is_killed (image_of names sound) (scan_on sound bounds) b [] ≡ At next []
  goes-by next page is leads =
      visit-is is_killed (image_of names sound) (scan_on sound bounds) b v
      ∙ subst (λ (p : List ℕ). visit_page is_killed (scan_on sound bounds) (page_image (index_columns sound).specs (index_columns sound).more p) [] ≡ At next []) is
      (scan-goes is_killed (scan_on sound bounds) (page_image (index_columns sound).specs (index_columns sound).more page) next (leads (readable-in page is)))

  pub step-comes : (next : ℕ) (page : List ℕ) → page ≡ held_block names sound b → (IsReadable (index_columns sound) page → Leads (index_columns sound) (scan_goes (specs_of sound) bounds) page (To next)) → ComesTo names sound bounds next
  step-comes next page is leads = v.goes_on next [] (goes-by next page is leads)

  pub step-goes : (next : ℕ) (page : List ℕ) → page ≡ held_block names sound b → (IsReadable (index_columns sound) page → Leads (index_columns sound) (scan_goes (specs_of sound) bounds) page (To next))
      → (first : State (Entry Value Tid)) (before now : ℕ) → GoesOn names sound bounds first (At b []) before now → GoesOn names sound bounds first (At next []) before (now + 1)
  step-goes next page is leads first before now goes =
      let to = goes-by next page is leads in
      let left : left_from names sound bounds (At b []) ≡ suc (left_from names sound bounds (At next [])) = v.left ∙ ap (λ (s : State (Entry Value Tid)). suc (left_from names sound bounds s)) to in
      let so_far = goes.left in
      record { rest = goes.rest ∙ (v.rest ∙ ap (rest_from names sound bounds) to); left = omega (arith, left, so_far) }

  -- and to a leaf that is read
  module _ (page : List ℕ) (is : page ≡ held_block names sound b) (leads : IsReadable (index_columns sound) page → Leads (index_columns sound) (scan_goes (specs_of sound) bounds) page Read) (spot : Spot) (block : spot.block ≡ b) (item : spot.item ≡ first_data page) (nth : spot.nth ≡ 0) where
    abbrev held : List ℕ
    held = held_block names sound b

    readable : IsReadable (index_columns sound) held
    readable = readable-at names sound bounds holds steps b comes

    stays : is_left_behind (index_columns sound) (scan_goes (specs_of sound) bounds) held ≡ false
    stays = subst (λ (p : List ℕ). is_left_behind (index_columns sound) (scan_goes (specs_of sound) bounds) p ≡ false) is (leads (readable-in page is)).0

    leaf : is_leaf (opaque_of held) ≡ true
    leaf = subst (λ (p : List ℕ). is_leaf (opaque_of p) ≡ true) is (leads (readable-in page is)).1

    alive : is_half_dead (opaque_of held) ≡ false
    alive = (or_parts _ _ stays).1

    first : spot.item ≡ first_data held
    first = item ∙ ap first_data is

    begin : place_of (index_columns sound) held spot.item spot.nth ≡ 0
    begin =
        let none = before-first (index_columns sound) held in
        let here : entries_before (index_columns sound) held spot.item ≡ entries_before (index_columns sound) held (first_data held) = ap (entries_before (index_columns sound) held) first in
        omega (arith, none, here, nth)

    on : IsPlaceOn (index_columns sound) held spot.item spot.nth
    on =
        let most = first-within held readable.some_items in
        record {
          from = omega (arith, first);
          to = omega (arith, first, most);
          inside = λ within.
              let some = keys-some (index_columns sound) held readable leaf alive spot.item (omega (arith, first)) within in
              omega (arith, some, nth);
          behind = λ e. nth;
        }

    pub read-stands : StandsAt names sound bounds spot page
    read-stands =
        stands-there names sound bounds holds steps spot b page block v.not_meta is on
        (subst (λ (j : ℕ). Stands is_killed (image_of names sound) (scan_on sound bounds) b j) (sym begin) (v.reads stays leaf).1)

    pub read-goes : (from : State (Entry Value Tid)) (before now : ℕ) → GoesOn names sound bounds from (At b []) before now → GoesOn names sound bounds from (state_at names sound bounds spot) before (now + 1)
    read-goes from before now goes =
        let there : visit is_killed (image_of names sound) (scan_on sound bounds) b [] ≡ state_at names sound bounds spot =
        (v.reads stays leaf).0 ∙ sym (state-there names sound bounds holds steps spot b block v.not_meta ∙ ap (from_place is_killed (image_of names sound) (scan_on sound bounds) b) begin) in
        let left : left_from names sound bounds (At b []) ≡ suc (left_at names sound bounds spot) = v.left ∙ ap (λ (s : State (Entry Value Tid)). suc (left_from names sound bounds s)) there in
        let so_far = goes.left in
        record { rest = goes.rest ∙ (v.rest ∙ ap (rest_from names sound bounds) there); left = omega (arith, left, so_far) }

-- what is told of a page holds of the same bytes and columns
pub leads-there : (s t : TreeColumns) (bounds : Bounds) (p q : List ℕ) (step : Step) → s ≡ t → p ≡ q → (IsReadable s p → Leads s (scan_goes s.specs bounds) p step) → IsReadable t q → Leads t (scan_goes t.specs bounds) q step
leads-there s t bounds p q step a b leads =
    subst (λ (k : TreeColumns). IsReadable k q → Leads k (scan_goes k.specs bounds) q step) a (subst (λ (l : List ℕ). IsReadable s l → Leads s (scan_goes s.specs bounds) l step) b leads)

-- an answer that has one property has another
pub ok-then : {T E : Type 0} {P Q : T → Type 0} (r : Result T E) → ((x : T) → P x → Q x) → IfOk r P → IfOk r Q
ok-then (Ok x) f h = f x h
ok-then (Err e) f h = h

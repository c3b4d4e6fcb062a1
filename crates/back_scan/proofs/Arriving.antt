-- A backward search goes from page to page: what each visit leaves of it.
use Rattle.std.proofs.Common.{◌≡◌, ◌≢◌, ℕ, suc, ◌+◌, ◌-◌, ◌<◌, ◌≤◌, inl, inr, Bool, true, false, List, [], ◌∷◌, length, refl, ap, sym, subst, ◌∙◌, arith}
use Rattle.std.specs.Prelude.{IfOk, Result, Ok, Err, None, Option, Some, cond, reverse, ◌==◌, ◌||◌}
use Rattle.std.proofs.lemmas.Bool.{both_ways, cases_Bool, cases_lt, cond-false, cond-true, eq-eqb, or_parts}
use Rattle.outside.specs.Outside.{Names}
use Rattle.page_layout.specs.Page.{count_of, page_rule_of}
use Rattle.page_layout.specs.declared.page.PageKind.TheVariants.{Tree}
use Rattle.laws_search.specs.Back.{Back, BackState, Over, Reads, Seeks, back_start}
use Rattle.laws_search.specs.Keys.{Entry}
use Rattle.laws_search.specs.Order.{Scan}
use Rattle.laws_search.specs.Search.{right_of}
use Rattle.laws_search.specs.Tree.{Index}
use Rattle.laws_back_search.specs.Answers.{AnswersBack}
use Rattle.laws_back_search.specs.Spots.{GoesBack, LeadsBack, SeeksOn, StandsBack, VisitsBack, from_place_back, left_back, visits_back}
use Rattle.key_orders.specs.declared.columns.Value.{Value}
use Rattle.key_orders.specs.declared.Tid.{Tid}
use Rattle.key_orders.specs.Scans.{Bounds}
use Rattle.key_attrs.specs.Columns.{TreeColumns}
use Rattle.bt_meta.specs.Flags.{is_half_dead, is_leaf}
use Rattle.bt_meta.specs.Pages.{opaque_of}
use Rattle.bt_image.specs.Image.{TreePage, first_data, has_high_key, page_image}
use Rattle.bt_levels.specs.declared.sound.SoundTree.{SoundTree}
use Rattle.bt_levels.specs.Sound.{HoldsTree, block_count, fastroot_of, held_block, image_of, index_columns, specs_of}
use Rattle.bt_steps.specs.declared.inner.Step.{Step}
use Rattle.bt_steps.specs.declared.inner.Step.TheVariants.{To, Read, Lost}
use Rattle.bt_steps.specs.Pages.{IsReadable, is_killed}
use Rattle.bt_steps.specs.Ways.{Key, Leads, down_to, is_left_behind, next_of}
use Rattle.bt_steps.proofs.OnLeaf.{item-read}
use Rattle.bt_steps.proofs.Places.{before-all, image-entries}
use Rattle.bt_steps.proofs.Visiting.{some-item}
use Rattle.bt_search.specs.declared.spot.Spot.{Spot}
use Rattle.bt_search.specs.Spots.{scan_on}
use Rattle.bt_search.proofs.Reading.{keys-some}
use Rattle.back_scan.specs.Descents.{reach_goes}
use Rattle.back_scan.specs.Leaves.{HasEntries, IsLastIfRead}
use Rattle.bt_search.specs.Items.{back_on}
use Rattle.back_scan.specs.Spots.{GoesOn, IsBackPlace, LeftTo, SeeksTo, StandsAt, left_at, left_from, left_on, rest_at, rest_from, state_at}
use Rattle.back_scan.specs.Steps.{GoesInSteps, IsWantedOn}
use Rattle.back_scan.proofs.Counts.{left-front, up-to}
use Rattle.back_scan.proofs.Reading.{readable-at, stands-there, state-there}

none-some : {p : ℕ} → ◌≡◌ {A = Option ℕ} None (Some p) → ⊥
none-some h = cc

some-is : {m n : ℕ} → ◌≡◌ {A = Option ℕ} (Some m) (Some n) → m ≡ n
some-is h = cc

-- a search under way has a visit left
module _ {S E : Type 0} (killed : E → Bool) (x : Index S E) (scan : Scan S E) (back : Back S E) where
  seeks-more : (b : ℕ) → b < x.blocks → 1 ≤ left_back killed x scan back (Seeks b)
  unfolding left_back
  seeks-more b lt =
      let m = x.blocks + x.blocks - 1 in
      let is : x.blocks + x.blocks ≡ suc m = omega (arith, lt) in
      subst (λ (n : ℕ). 1 ≤ visits_back killed x scan back n (Seeks b)) (sym is) (omega arith)

  reads-more : (b : ℕ) → b < x.blocks → 1 ≤ left_back killed x scan back (Reads b [])
  unfolding left_back
  reads-more b lt =
      let m = x.blocks + x.blocks - 1 in
      let is : x.blocks + x.blocks ≡ suc m = omega (arith, lt) in
      subst (λ (n : ℕ). 1 ≤ visits_back killed x scan back n (Reads b [])) (sym is) (omega arith)

-- A PAGE AS A WHOLE

-- what is told of the last spot of a page
abbrev pub DeadOn : List ℕ → Spot → Type 0
DeadOn page spot = is_half_dead (opaque_of page) ≡ true → (spot.item ≡ 0) × (spot.nth ≡ 0)

abbrev pub LastOn : List ℕ → Spot → Type 0
LastOn page spot =
    page_rule_of Tree page ≡ None → is_half_dead (opaque_of page) ≡ false
    → (columns : TreeColumns) → IsLastIfRead columns page (count_of page) spot

pub dead-there : (p q : List ℕ) (spot : Spot) → p ≡ q → DeadOn p spot → DeadOn q spot
dead-there p q spot is dead = subst (λ (l : List ℕ). DeadOn l spot) is dead

pub last-there : (p q : List ℕ) (spot : Spot) → p ≡ q → LastOn p spot → LastOn q spot
last-there p q spot is last = subst (λ (l : List ℕ). LastOn l spot) is last

first-within : (columns : TreeColumns) (page : List ℕ) → IsReadable columns page → first_data page ≤ count_of page + 1
first-within columns page readable = elim (cases_Bool (has_high_key page)) [
  | inl has ↦
      let two : first_data page ≡ 2 = cond-true {A = ℕ} (has_high_key page) 2 1 has in
      elim (cases_lt (count_of page) 1) [
        | inl few ↦ absurd (some-item columns (λ (s : Key). false) page readable has (omega (arith, few)))
        | inr more ↦ omega (arith, two, more)
      ]
  | inr none ↦ let one : first_data page ≡ 1 = cond-false {A = ℕ} (has_high_key page) 2 1 none in omega (arith, one)
]

whole-page : (columns : TreeColumns) (page : List ℕ) (spot : Spot) → IsReadable columns page → is_leaf (opaque_of page) ≡ true
    → (is_half_dead (opaque_of page) ≡ true → (page_image columns.specs columns.more page).entries ≡ []) → DeadOn page spot → LastOn page spot
    → (left_on columns page spot.item spot.nth ≡ length (page_image columns.specs columns.more page).entries) × IsBackPlace columns page spot.item spot.nth
whole-page columns page spot readable leaf none dead last = elim (cases_Bool (is_half_dead (opaque_of page))) [
  | inl d ↦
      let at = dead d in (
        left-front columns page spot.item spot.nth at.0 ∙ sym (ap length (none d)),
        record {
          front = λ e. at.1;
          from = λ some. absurd (some at.0);
          last = λ some. absurd (some at.0);
          inside = λ some. absurd (some at.0);
        },
      )
  | inr a ↦
      let has : first_data page ≤ count_of page → HasEntries columns page (count_of page) =
      λ low. record {
        read = item-read columns page readable leaf a (count_of page) low (omega arith);
        some = keys-some columns page readable leaf a (count_of page) low (omega arith);
      } in
      let u = up-to columns page (count_of page) spot (last readable.laid_out a columns has) (first-within columns page readable) (omega arith) in
      (u.left ∙ (before-all columns page ∙ sym (ap length (image-entries columns page leaf a))), u.place)
]

module _ (names : Names) (sound : SoundTree) (bounds : Bounds) (holds : HoldsTree names sound) (walk : GoesInSteps names sound bounds) where
  steps : GoesBack is_killed (image_of names sound) (scan_on sound bounds) (back_on sound bounds) walk.some
  steps = walk.steps walk.some walk.wanted

  -- no spot of block 0 has anything left
  pub nowhere-state : (spot : Spot) → spot.block ≡ 0 → state_at names sound bounds spot ≡ Over []
  unfolding state_at
  nowhere-state spot none = cond-true (spot.block == 0) _ _ (eq-eqb spot.block 0 none)

  pub nowhere-rest : (spot : Spot) → spot.block ≡ 0 → rest_at names sound bounds spot ≡ []
  nowhere-rest spot none = ap (rest_from names sound bounds) (nowhere-state spot none) ∙ steps.over.rest

  pub nowhere-left : (spot : Spot) → spot.block ≡ 0 → left_at names sound bounds spot ≡ 0
  nowhere-left spot none = ap (left_from names sound bounds) (nowhere-state spot none) ∙ steps.over.left

  pub left_at-most : (spot : Spot) → left_at names sound bounds spot ≤ block_count sound + block_count sound
  left_at-most spot = steps.most (state_at names sound bounds spot)

  pub start-most : left_from names sound bounds (back_start (image_of names sound)) ≤ block_count sound + block_count sound
  start-most = steps.most (back_start (image_of names sound))

  -- in an empty tree a spot of block 0 stands
  pub nowhere-stands : (spot : Spot) (page : List ℕ) → spot.block ≡ 0 → fastroot_of sound ≡ 0 → StandsAt names sound bounds spot page
  nowhere-stands spot page none empty = record {
    nowhere = λ e. empty;
    in_hand = λ some. absurd (some none);
    place = λ some. absurd (some none);
    comes = λ some. absurd (some none);
  }

  -- THE START

  pub start-first : (first : ℕ) → first ≡ fastroot_of sound → first ≢ 0 → back_start (image_of names sound) ≡ Seeks first
  start-first first is some =
      let root : first ≡ (image_of names sound).fastroot = is ∙ holds.fastroot in
      (steps.begins (λ e. some (root ∙ e))).0 ∙ ap (λ (b : ℕ). Seeks b) (sym root)

  pub first-comes : (first : ℕ) → first ≡ fastroot_of sound → first ≢ 0 → SeeksTo names sound bounds first
  first-comes first is some =
      let root : first ≡ (image_of names sound).fastroot = is ∙ holds.fastroot in
      subst (λ (b : ℕ). SeeksTo names sound bounds b) (sym root) (steps.begins (λ e. some (root ∙ e))).1

  -- an empty tree
  pub nowhere-starts : (first : ℕ) (spot : Spot) → first ≡ fastroot_of sound → first ≡ 0 → spot.block ≡ 0 → back_start (image_of names sound) ≡ state_at names sound bounds spot
  nowhere-starts first spot is empty none = steps.empty (sym holds.fastroot ∙ (sym is ∙ empty)) ∙ sym (nowhere-state spot none)

  pub rest-wanted : (to : BackState (Entry Value Tid)) → rest_from names sound bounds (back_start (image_of names sound)) ≡ rest_from names sound bounds to → (es : List (Entry Value Tid)) → IsWantedOn names sound bounds es → rest_from names sound bounds to ≡ reverse es
  rest-wanted to e es wanted = sym e ∙ (walk.steps es wanted).whole

  pub rest-answers : (to : BackState (Entry Value Tid)) → rest_from names sound bounds (back_start (image_of names sound)) ≡ rest_from names sound bounds to → AnswersBack is_killed (image_of names sound) (scan_on sound bounds) (back_on sound bounds) (block_count sound + block_count sound) (rest_from names sound bounds to)
  rest-answers to e =
      subst (λ (zs : List (Entry Value Tid)). AnswersBack is_killed (image_of names sound) (scan_on sound bounds) (back_on sound bounds) (block_count sound + block_count sound) zs) (sym steps.whole ∙ e) (walk.answers walk.some walk.wanted)

  -- A VISIT OF THE FIRST PHASE

  module _ (b : ℕ) (seeks : SeeksTo names sound bounds b) where
    v : SeeksOn is_killed (image_of names sound) (scan_on sound bounds) (back_on sound bounds) b
    v = steps.seeks b seeks

    pub comes-inside : (b ≢ 0) × (b < block_count sound)
    comes-inside = (v.not_meta, v.inside)

    pub not-over : (now limit : ℕ) → now + left_from names sound bounds (Seeks b) ≤ limit → limit ≤ now → ⊥
    not-over now limit enough over =
        let more : 1 ≤ left_from names sound bounds (Seeks b) = seeks-more is_killed (image_of names sound) (scan_on sound bounds) (back_on sound bounds) b v.inside in
        omega (arith, more, enough, over)

    readable-in : (page : List ℕ) → page ≡ held_block names sound b → IsReadable (index_columns sound) page
    readable-in page is = subst (IsReadable (index_columns sound)) (sym is) (readable-at names sound bounds holds walk b v.not_meta v.inside v.used)

    pub step-lost : (page : List ℕ) → page ≡ held_block names sound b → (IsReadable (index_columns sound) page → Leads (index_columns sound) (reach_goes (specs_of sound) bounds) page Lost) → ⊥
    step-lost page is leads = leads (readable-in page is)

    abbrev p : TreePage
    p = page_image (index_columns sound).specs (index_columns sound).more (held_block names sound b)

    abbrev Led : ℕ → Type 0
    Led next = LeadsBack is_killed (image_of names sound) (scan_on sound bounds) (back_on sound bounds) 1 (Seeks b) (Seeks next) × SeeksTo names sound bounds next

    led-by : (behind leaf : Bool) (cs : List (Key × ℕ)) (next : ℕ) → (right_of (back_on sound bounds).reaches p.high_key || p.half_dead) ≡ behind → p.leaf ≡ leaf → p.children ≡ cs
        → cond behind (Some p.next) (cond leaf None (down_to (back_on sound bounds).reaches cs)) ≡ Some next → Led next
    led-by true leaf cs next is_behind is_leaf are e = subst (λ (k : ℕ). Led k) (some-is e) (v.right is_behind)
    led-by false true cs next is_behind is_leaf are e = absurd (none-some e)
    led-by false false [] next is_behind is_leaf are e = absurd (none-some e)
    led-by false false (c ∷ cs) next is_behind is_leaf are e = subst (λ (k : ℕ). Led k) (some-is e) (v.down is_behind is_leaf c cs are)

    -- to another page
    goes-by : (next : ℕ) (page : List ℕ) → page ≡ held_block names sound b → (IsReadable (index_columns sound) page → Leads (index_columns sound) (reach_goes (specs_of sound) bounds) page (To next)) → Led next
    goes-by next page is leads =
        led-by (right_of (back_on sound bounds).reaches p.high_key || p.half_dead) p.leaf p.children next refl refl refl
        (subst (λ (l : List ℕ). next_of (reach_goes (specs_of sound) bounds) (page_image (index_columns sound).specs (index_columns sound).more l) ≡ Some next) is (leads (readable-in page is)))

    pub step-comes : (next : ℕ) (page : List ℕ) → page ≡ held_block names sound b → (IsReadable (index_columns sound) page → Leads (index_columns sound) (reach_goes (specs_of sound) bounds) page (To next)) → SeeksTo names sound bounds next
    step-comes next page is leads = (goes-by next page is leads).1

    pub step-goes : (next : ℕ) (page : List ℕ) → page ≡ held_block names sound b → (IsReadable (index_columns sound) page → Leads (index_columns sound) (reach_goes (specs_of sound) bounds) page (To next))
        → (first : BackState (Entry Value Tid)) (before now : ℕ) → GoesOn names sound bounds first (Seeks b) before now → GoesOn names sound bounds first (Seeks next) before (now + 1)
    step-goes next page is leads first before now goes =
        let to = (goes-by next page is leads).0 in
        let left = to.left in
        let so_far = goes.left in
        record { rest = goes.rest ∙ to.rest; left = omega (arith, left, so_far) }

    -- and to a leaf that is read
    module _ (page : List ℕ) (is : page ≡ held_block names sound b) (leads : IsReadable (index_columns sound) page → Leads (index_columns sound) (reach_goes (specs_of sound) bounds) page Read) (spot : Spot) (block : spot.block ≡ b) (dead : DeadOn page spot) (last : LastOn page spot) where
      abbrev held : List ℕ
      held = held_block names sound b

      stays : is_left_behind (index_columns sound) (reach_goes (specs_of sound) bounds) held ≡ false
      stays = subst (λ (l : List ℕ). is_left_behind (index_columns sound) (reach_goes (specs_of sound) bounds) l ≡ false) is (leads (readable-in page is)).0

      leaf : is_leaf (opaque_of held) ≡ true
      leaf = subst (λ (l : List ℕ). is_leaf (opaque_of l) ≡ true) is (leads (readable-in page is)).1

      alive : is_half_dead (opaque_of held) ≡ false
      alive = (or_parts (right_of (back_on sound bounds).reaches p.high_key) (is_half_dead (opaque_of held)) stays).1

      whole : (left_on (index_columns sound) held spot.item spot.nth ≡ length p.entries) × IsBackPlace (index_columns sound) held spot.item spot.nth
      whole =
          whole-page (index_columns sound) held spot (readable-at names sound bounds holds walk b v.not_meta v.inside v.used) leaf
          (λ d. absurd (both_ways (is_half_dead (opaque_of held)) alive d))
          (dead-there page held spot is dead) (last-there page held spot is last)

      reads : LeadsBack is_killed (image_of names sound) (scan_on sound bounds) (back_on sound bounds) 1 (Seeks b) (from_place_back is_killed (image_of names sound) (scan_on sound bounds) (back_on sound bounds) b (length p.entries))
          × StandsBack is_killed (image_of names sound) (scan_on sound bounds) (back_on sound bounds) b (length p.entries)
      reads = v.reads stays leaf

      pub read-stands : StandsAt names sound bounds spot page
      read-stands =
          stands-there names sound bounds holds walk spot b page block v.not_meta is whole.1
          (subst (λ (j : ℕ). StandsBack is_killed (image_of names sound) (scan_on sound bounds) (back_on sound bounds) b j) (sym whole.0) reads.1)

      pub read-goes : (from : BackState (Entry Value Tid)) (before now : ℕ) → GoesOn names sound bounds from (Seeks b) before now → GoesOn names sound bounds from (state_at names sound bounds spot) before (now + 1)
      read-goes from before now goes =
          let there : from_place_back is_killed (image_of names sound) (scan_on sound bounds) (back_on sound bounds) b (length p.entries) ≡ state_at names sound bounds spot =
          sym (state-there names sound bounds holds walk spot b block v.not_meta ∙ ap (from_place_back is_killed (image_of names sound) (scan_on sound bounds) (back_on sound bounds) b) whole.0) in
          let left = reads.0.left in
          let same : left_from names sound bounds (from_place_back is_killed (image_of names sound) (scan_on sound bounds) (back_on sound bounds) b (length p.entries)) ≡ left_at names sound bounds spot = ap (left_from names sound bounds) there in
          let so_far = goes.left in
          record { rest = goes.rest ∙ (reads.0.rest ∙ ap (rest_from names sound bounds) there); left = omega (arith, left, same, so_far) }

  -- ONE OF THE SECOND

  module _ (b : ℕ) (comes : LeftTo names sound bounds b) where
    w : VisitsBack is_killed (image_of names sound) (scan_on sound bounds) (back_on sound bounds) b
    w = steps.visits b comes

    pub left-inside : (b ≢ 0) × (b < block_count sound)
    left-inside = (w.not_meta, w.inside)

    pub left-not-over : (now limit : ℕ) → now + left_from names sound bounds (Reads b []) ≤ limit → limit ≤ now → ⊥
    left-not-over now limit enough over =
        let more : 1 ≤ left_from names sound bounds (Reads b []) = reads-more is_killed (image_of names sound) (scan_on sound bounds) (back_on sound bounds) b w.inside in
        omega (arith, more, enough, over)

    module _ (page : List ℕ) (is : page ≡ held_block names sound b) (spot : Spot) (block : spot.block ≡ b) (dead : DeadOn page spot) (last : LastOn page spot) where
      abbrev leaf_held : List ℕ
      leaf_held = held_block names sound b

      abbrev all : List (Entry Value Tid)
      all = (page_image (index_columns sound).specs (index_columns sound).more leaf_held).entries

      all-left : (left_on (index_columns sound) leaf_held spot.item spot.nth ≡ length all) × IsBackPlace (index_columns sound) leaf_held spot.item spot.nth
      all-left =
          whole-page (index_columns sound) leaf_held spot (readable-at names sound bounds holds walk b w.not_meta w.inside w.used) w.leaf w.half_dead_empty
          (dead-there page leaf_held spot is dead) (last-there page leaf_held spot is last)

      pub left-stands : StandsAt names sound bounds spot page
      left-stands =
          stands-there names sound bounds holds walk spot b page block w.not_meta is all-left.1
          (subst (λ (j : ℕ). StandsBack is_killed (image_of names sound) (scan_on sound bounds) (back_on sound bounds) b j) (sym all-left.0) w.stands)

      pub left-goes : (before now : ℕ) → now ≡ before + 1 → GoesOn names sound bounds (Reads b []) (state_at names sound bounds spot) before now
      left-goes before now next =
          let there : from_place_back is_killed (image_of names sound) (scan_on sound bounds) (back_on sound bounds) b (length all) ≡ state_at names sound bounds spot =
          sym (state-there names sound bounds holds walk spot b block w.not_meta ∙ ap (from_place_back is_killed (image_of names sound) (scan_on sound bounds) (back_on sound bounds) b) all-left.0) in
          let left = w.leads.left in
          let same : left_from names sound bounds (from_place_back is_killed (image_of names sound) (scan_on sound bounds) (back_on sound bounds) b (length all)) ≡ left_at names sound bounds spot = ap (left_from names sound bounds) there in
          record { rest = w.leads.rest ∙ ap (rest_from names sound bounds) there; left = omega (arith, left, same, next) }

-- what is told of a page holds of the same bytes and columns
pub leads-there : (s t : TreeColumns) (bounds : Bounds) (p q : List ℕ) (step : Step) → s ≡ t → p ≡ q → (IsReadable s p → Leads s (reach_goes s.specs bounds) p step) → IsReadable t q → Leads t (reach_goes t.specs bounds) q step
leads-there s t bounds p q step a b leads =
    subst (λ (k : TreeColumns). IsReadable k q → Leads k (reach_goes k.specs bounds) q step) a (subst (λ (l : List ℕ). IsReadable s l → Leads s (reach_goes s.specs bounds) l step) b leads)

-- an answer that has one property has another
pub ok-then : {T E : Type 0} {P Q : T → Type 0} (r : Result T E) → ((x : T) → P x → Q x) → IfOk r P → IfOk r Q
ok-then (Ok x) f h = f x h
ok-then (Err e) f h = h

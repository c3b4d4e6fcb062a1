-- The searcher goes down through live pages only, and comes to the leaf where the scan begins.
use Rattle.std.proofs.Common.{◌≡◌, ◌≢◌, ℕ, zero, suc, ◌+◌, ◌≤◌, inl, inr, Bool, true, false, not, ◌||◌, List, [], ◌∷◌, ◌++◌, map, refl, sym, ap, ◌∙◌, subst, arith, append_assoc}
use Rattle.std.specs.Prelude.{⊤, Option, Some, None}
use Rattle.std.specs.List.{filter, flat_map}
use Rattle.std.proofs.lemmas.Bool.{cases_Bool, or_cases, or_parts, cond-true, cond-false}
use Rattle.std.proofs.lemmas.List.Concat.{flat_map-append}
use Rattle.laws_search.specs.Order.{Order}
use Rattle.laws_search.specs.Tree.{Index}
use Rattle.laws_search.specs.Levels.{Role, Dead, Linked, Right_half, Neither, is_live, Row, row, lower_after, Downlink, page_downlinks, row_downlinks, downlinks, level_rows}
use Rattle.laws_search.specs.Searchable.{IsInUse, IsSearchable}
use Rattle.laws_search.specs.Search.{last_or, right_of}
use Rattle.laws_search.proofs.Chains.{OnLevel}
use Rattle.laws_search.proofs.Rows.{RoleFacts, Sound, linked_downs, level_is, first_down, not_leaf}

-- the scan goes right of the bound, or it is minus infinity
abbrev pub Reached : {S : Type 0} → (S → Bool) → Option S → Type 0
Reached goes None = ⊤
Reached goes (Some s) = goes s ≡ true

-- the scan doesn't go right of the bound, if it is a separator
abbrev pub NotRight : {S : Type 0} → (S → Bool) → Option S → Type 0
NotRight goes None = ⊤
NotRight goes (Some s) = goes s ≡ false

-- the scan doesn't go right of the first of these downlinks
abbrev pub Guard : {S : Type 0} → (S → Bool) → List (Downlink S) → Type 0
Guard goes [] = ⊤
Guard goes (d ∷ ds) = NotRight goes d.0

-- among these downlinks the scan's way leads through this one
record Pick {S : Type 0} (goes : S → Bool) (all : List (Downlink S)) (child : ℕ) : Type 0 where
  left : List (Downlink S)
  right : List (Downlink S)
  key : Option S
  is : all ≡ left ++ (key, child) ∷ right
  reached : Reached goes key
  guard : Guard goes right

abbrev somes : {S : Type 0} → List (S × ℕ) → List (Downlink S)
somes cs = map (λ c. (Some c.0, c.1)) cs

pick_over : {S : Type 0} (goes : S → Bool) (d : S × ℕ) (first : Downlink S) (ds : List (Downlink S)) (child : ℕ) → goes d.0 ≡ false → (left right : List (Downlink S)) (key : Option S) → first ∷ ds ≡ left ++ (key, child) ∷ right → Reached goes key → Guard goes right → Pick goes (first ∷ (Some d.0, d.1) ∷ ds) child
pick_over goes d first ds child no_right [] right key is reached guard =
    record { left = []; right = (Some d.0, d.1) ∷ right; key = key; is = cc; reached = reached; guard = no_right }
pick_over goes d first ds child no_right (a ∷ left) right key is reached guard =
    record { left = a ∷ (Some d.0, d.1) ∷ left; right = right; key = key; is = cc; reached = reached; guard = guard }

pick : {S : Type 0} (goes : S → Bool) (cs : List (S × ℕ)) (c : S × ℕ) (lo : Option S) → Reached goes lo → Pick goes ((lo, c.1) ∷ somes cs) (last_or c (filter (λ d. goes d.0) cs)).1
pick goes [] c lo reached = record { left = []; right = []; key = lo; is = refl; reached = reached; guard = tt }
pick goes (d ∷ ds) c lo reached = elim (cases_Bool (goes d.0)) [
  | inl t ↦
      let e : filter (λ d. goes d.0) (d ∷ ds) ≡ d ∷ filter (λ d. goes d.0) ds = cond-true (goes d.0) _ _ t in
      let k = pick goes ds d (Some d.0) t in
      subst (λ z. Pick goes ((lo, c.1) ∷ (Some d.0, d.1) ∷ somes ds) (last_or c z).1) (sym e)
      (record { left = (lo, c.1) ∷ k.left; right = k.right; key = k.key; is = ap (λ w. (lo, c.1) ∷ w) k.is; reached = k.reached; guard = k.guard })
  | inr t ↦
      let e : filter (λ d. goes d.0) (d ∷ ds) ≡ filter (λ d. goes d.0) ds = cond-false (goes d.0) _ _ t in
      let k = pick goes ds c lo reached in
      subst (λ z. Pick goes ((lo, c.1) ∷ (Some d.0, d.1) ∷ somes ds) (last_or c z).1) (sym e)
      (pick_over goes d (lo, c.1) (somes ds) (last_or c (filter (λ d. goes d.0) ds)).1 t k.left k.right k.key k.is k.reached k.guard)
]

-- a row that is linked by a downlink in the midst of the list
record LinkedAt {S : Type 0} (rs : List (Row S)) (c : ℕ) (k : Option S) (right : List (Downlink S)) : Type 0 where
  pre : List (Row S)
  post : List (Row S)
  is : rs ≡ pre ++ row c Linked k ∷ post
  rest : linked_downs post ≡ right

more_before : {S : Type 0} (r : Row S) (rs : List (Row S)) (c : ℕ) (k : Option S) (right : List (Downlink S)) → LinkedAt rs c k right → LinkedAt (r ∷ rs) c k right
more_before r rs c k right h = record { pre = r ∷ h.pre; post = h.post; is = ap (λ w. r ∷ w) h.is; rest = h.rest }

linked_at : {S : Type 0} (rs : List (Row S)) (left : List (Downlink S)) (c : ℕ) (k : Option S) (right : List (Downlink S)) → linked_downs rs ≡ left ++ (k, c) ∷ right → LinkedAt rs c k right
linked_at [] [] c k right e = absurd cc
linked_at [] (a ∷ left) c k right e = absurd cc
linked_at (row p Dead lo ∷ rs) left c k right e = more_before _ _ _ _ _ (linked_at rs left c k right e)
linked_at (row p Right_half lo ∷ rs) left c k right e = more_before _ _ _ _ _ (linked_at rs left c k right e)
linked_at (row p Neither lo ∷ rs) left c k right e = more_before _ _ _ _ _ (linked_at rs left c k right e)
linked_at {S} (row p Linked lo ∷ rs) [] c k right e =
    let first : ◌≡◌ {A = Downlink S} (lo, p) (k, c) = cc in
    let low : lo ≡ k = ap (λ (d : Downlink S). d.0) first in
    let to : p ≡ c = ap (λ (d : Downlink S). d.1) first in
    record { pre = []; post = rs; is = cc; rest = cc }
linked_at (row p Linked lo ∷ rs) (a ∷ left) c k right e = more_before _ _ _ _ _ (linked_at rs left c k right (cc))

-- a stretch of a sound level is sound
record SoundFrom {S E : Type 0} (o : Order S E) (x : Index S E) (level : ℕ) (rs : List (Row S)) : Type 0 where
  split : Bool
  lower : Option S
  block : ℕ
  sound : Sound o x level split lower block rs

sound_from : {S E : Type 0} (o : Order S E) (x : Index S E) (level : ℕ) (pre post : List (Row S)) (split : Bool) (lower : Option S) (b : ℕ) → Sound o x level split lower b (pre ++ post) → SoundFrom o x level post
sound_from o x level [] post split lower b s = record { split = split; lower = lower; block = b; sound = s }
sound_from o x level (row p r lo ∷ pre) post split lower b s = sound_from o x level pre post _ _ _ s.1

not_right : {S : Type 0} (goes : S → Bool) (h : Option S) → right_of goes h ≡ false → NotRight goes h
not_right goes None e = tt
not_right goes (Some s) e = e

guard_append : {S : Type 0} (goes : S → Bool) (ds es : List (Downlink S)) → Guard goes ds → Guard goes es → Guard goes (ds ++ es)
guard_append goes [] es a b = b
guard_append goes (d ∷ ds) es a b = a

-- the searcher passes over the page to the right
abbrev pub passes : {S E : Type 0} → Index S E → (S → Bool) → ℕ → Bool
passes x goes b = right_of goes (x.page b).high_key || (x.page b).half_dead

-- What is to hold of a block and a number of visits: it is kept by a step to the right and by one down,
-- and holds where the descent ends on a leaf. `cost` counts the visits that may follow to the right, `budget` those on a whole level.
pub record Keeps {S E : Type 0} (o : Order S E) (x : Index S E) (goes : S → Bool) (Good : ℕ → ℕ → Type 0) : Type 0 where
  pub cost : List (Row S) → ℕ
  pub budget : List (Row S) → ℕ
  pub cost_right : (q : ℕ) (lo : Option S) (rs : List (Row S)) → suc (cost rs) ≤ cost (row q Right_half lo ∷ rs)
  pub cost_part : (pre : List (Row S)) (q : ℕ) (lo : Option S) (rs : List (Row S)) → suc (cost rs) ≤ budget (pre ++ row q Linked lo ∷ rs)
  pub later : (b n m : ℕ) → n ≤ m → Good b n → Good b m
  pub right : (b n : ℕ) → IsInUse x b → passes x goes b ≡ true → Good (x.page b).next n → Good b (suc n)
  pub down : (b n : ℕ) (c : S × ℕ) (cs : List (S × ℕ)) → IsInUse x b → passes x goes b ≡ false → (x.page b).leaf ≡ false → (x.page b).children ≡ c ∷ cs → Good (last_or c (filter (λ d. goes d.0) cs)).1 n → Good b (suc n)
  pub leaf : (post pre : List (Row S)) (p : ℕ) (r : Role) (lo : Option S) (split : Bool) (lower : Option S) (b : ℕ) → level_rows x x.level ≡ pre ++ row p r lo ∷ post → Sound o x 0 split lower b (row p r lo ∷ post) → is_live r ≡ true → Reached goes lo → passes x goes p ≡ false → Good p (suc (cost post))

module _ {S E : Type 0} (o : Order S E) (x : Index S E) (quiet : IsSearchable o x) (root : x.root ≢ 0) (goes : S → Bool) (Good : ℕ → ℕ → Type 0) (keeps : Keeps o x goes Good) where
  -- the downlinks of the pages from here on begin at the lower bound
  guard_live : (m p : ℕ) (lo lower : Option S) (ds : List (Downlink S)) → OnLevel x (suc m) p → lo ≡ lower → NotRight goes lower → Guard goes (page_downlinks lo (x.page p).children ++ ds)
  guard_live m p lo lower ds here low not =
      let f = first_down o x quiet root lo (x.page p).children ((quiet.pages p here.0).has_child (not_leaf o x quiet root m p here)) in
      subst (λ z. Guard goes (z ++ ds)) (sym f.2) (subst (NotRight goes) (sym low) not)

  guard_next : (m : ℕ) (rs : List (Row S)) (split : Bool) (lower : Option S) (b : ℕ) → Sound o x (suc m) split lower b rs → NotRight goes lower → Guard goes (flat_map (row_downlinks x) rs)
  guard_next m [] split lower b s not = tt
  guard_next m (row p Dead lo ∷ rs) split lower b s not = guard_next m rs _ _ _ s.1 not
  guard_next m (row p Neither lo ∷ rs) split lower b s not = absurd s.0.role
  guard_next m (row p Linked lo ∷ rs) split lower b s not = guard_live m p lo lower _ s.0.here s.0.low not
  guard_next m (row p Right_half lo ∷ rs) split lower b s not = guard_live m p lo lower _ s.0.here s.0.low not

  -- after dead pages a live one comes, which is linked
  dead_then : (level : ℕ) (rs : List (Row S)) (t : S) (b : ℕ) → Sound o x level false (Some t) b rs → b ≢ 0 → goes t ≡ true → Guard goes (linked_downs rs) → ⊥
  dead_then level [] t b s ne right guard = ne s
  dead_then level (row p Dead lo ∷ rs) t b s ne right guard = dead_then level rs t _ s.1 s.0.role.0 right guard
  dead_then level (row p Neither lo ∷ rs) t b s ne right guard = s.0.role
  dead_then level (row p Right_half lo ∷ rs) t b s ne right guard = absurd (let f : false ≡ true = s.0.role.1 in grind arith)
  dead_then level (row p Linked lo ∷ rs) t b s ne right guard =
      let f : goes t ≡ false = subst (NotRight goes) s.0.low guard in
      absurd (grind arith)

  right_key : (goes : S → Bool) (h : Option S) → right_of goes h ≡ true → (s : S) × (h ≡ Some s) × (goes s ≡ true)
  right_key goes None g = absurd (grind arith)
  right_key goes (Some s) g = (s, refl, g)

  live_alive : (p : ℕ) (split : Bool) (r : Role) → is_live r ≡ true → RoleFacts (x.page p) split r → (x.page p).half_dead ≡ false
  live_alive p split Dead live f = absurd (grind arith)
  live_alive p split Linked live f = f
  live_alive p split Right_half live f = f.0
  live_alive p split Neither live f = absurd f

  -- the pages of the levels below
  abbrev pub pages_below : ℕ → ℕ → ℕ
  pages_below zero n = 0
  pages_below (suc m) n = keeps.budget (level_rows x (suc n)) + pages_below m (suc n)

  -- from a live page that the scan may go through, all is good
  abbrev pub Descends : ℕ → ℕ → Type 0
  Descends m n = (post pre : List (Row S)) (p : ℕ) (r : Role) (lo : Option S) (split : Bool) (lower : Option S) (b : ℕ) → level_rows x n ≡ pre ++ row p r lo ∷ post → Sound o x m split lower b (row p r lo ∷ post) → is_live r ≡ true → Reached goes lo → Guard goes (linked_downs post) → Good p (suc (keeps.cost post) + pages_below m n)

  -- the same where the searcher doesn't pass over the page
  abbrev Stays : ℕ → ℕ → Type 0
  Stays m n = (post pre : List (Row S)) (p : ℕ) (r : Role) (lo : Option S) (split : Bool) (lower : Option S) (b : ℕ) → level_rows x n ≡ pre ++ row p r lo ∷ post → Sound o x m split lower b (row p r lo ∷ post) → is_live r ≡ true → Reached goes lo → passes x goes p ≡ false → Good p (suc (keeps.cost post) + pages_below m n)

  stays_leaf : (n : ℕ) → 0 + n ≡ x.level → Stays 0 n
  stays_leaf n is post pre p r lo split lower b rows s live reached stays =
      let here : x.level ≡ n = omega arith in
      keeps.later p (suc (keeps.cost post)) (suc (keeps.cost post) + 0) (omega arith) (keeps.leaf post pre p r lo split lower b (ap (level_rows x) here ∙ rows) s live reached stays)

  some_child : (cs : List (S × ℕ)) → cs ≢ [] → (c : S × ℕ) × (ds : List (S × ℕ)) × (cs ≡ c ∷ ds)
  some_child [] ne = absurd (ne refl)
  some_child (c ∷ cs) ne = (c, cs, refl)

  pub lower_live : (p : ℕ) (r : Role) (lower : Option S) → is_live r ≡ true → lower_after (x.page p) r lower ≡ (x.page p).high_key
  lower_live p r lower live = cond-true (is_live r) (x.page p).high_key lower live

  -- down to a child
  to_child : (m n : ℕ) → suc m + n ≡ x.level → Descends m (suc n) → Stays (suc m) n
  to_child m n is down post pre p r lo split lower b rows s live reached stays =
      let rd = row_downlinks x in
      let used = s.0.here.0 in
      let inner : (x.page p).leaf ≡ false = not_leaf o x quiet root m p s.0.here in
      let ch = some_child (x.page p).children ((quiet.pages p used).has_child inner) in
      let c = ch.0 in
      let cs = ch.1 in
      let child : ℕ = (last_or c (filter (λ d. goes d.0) cs)).1 in
      let k = pick goes cs c lo reached in
      let X = flat_map rd pre in
      let Y = flat_map rd post in
      let mine : rd (row p r lo) ≡ k.left ++ (k.key, child) ∷ k.right = cond-true (is_live r) (page_downlinks lo (x.page p).children) [] live ∙ (ap (page_downlinks lo) ch.2 ∙ k.is) in
      let all : downlinks x (suc n) ≡ (X ++ k.left) ++ (k.key, child) ∷ (k.right ++ Y) =
      ap (flat_map rd) rows ∙ (flat_map-append rd pre (row p r lo ∷ post) ∙ (ap (λ z. X ++ (z ++ Y)) mine ∙ (ap (λ z. X ++ z) (append_assoc k.left ((k.key, child) ∷ k.right) Y) ∙ sym (append_assoc X k.left ((k.key, child) ∷ (k.right ++ Y)))))) in
      let lev = level_is o x quiet root (suc n) m (omega arith) in
      let la = linked_at (level_rows x (suc n)) (X ++ k.left) child k.key (k.right ++ Y) (lev.downs ∙ all) in
      let sf = sound_from o x m la.pre (row child Linked k.key ∷ la.post) false None lev.first (subst (Sound o x m false None lev.first) la.is lev.sound) in
      let after : NotRight goes (lower_after (x.page p) r lower) = subst (NotRight goes) (sym (lower_live p r lower live)) (not_right goes (x.page p).high_key (or_parts (right_of goes (x.page p).high_key) (x.page p).half_dead stays).0) in
      let guard' : Guard goes (linked_downs la.post) = subst (Guard goes) (sym la.rest) (guard_append goes k.right Y k.guard (guard_next m post _ _ _ s.1 after)) in
      let ends = down la.post la.pre child Linked k.key sf.split sf.lower sf.block la.is sf.sound refl k.reached guard' in
      let long : suc (keeps.cost la.post) ≤ keeps.budget (level_rows x (suc n)) = subst (λ z. suc (keeps.cost la.post) ≤ keeps.budget z) (sym la.is) (keeps.cost_part la.pre child k.key la.post) in
      keeps.later p (suc (keeps.cost post + pages_below (suc m) n)) (suc (keeps.cost post) + pages_below (suc m) n) (omega arith)
      (keeps.down p (keeps.cost post + pages_below (suc m) n) c cs used stays inner ch.2
      (keeps.later child (suc (keeps.cost la.post) + pages_below m (suc n)) (keeps.cost post + pages_below (suc m) n) (omega arith) ends))

  -- one visit, given what follows to the right
  one_visit : (m n : ℕ) → Stays m n → (post pre : List (Row S)) (p : ℕ) (r : Role) (lo : Option S) (split : Bool) (lower : Option S) (b : ℕ) → level_rows x n ≡ pre ++ row p r lo ∷ post → Sound o x m split lower b (row p r lo ∷ post) → is_live r ≡ true → Reached goes lo → ((h : S) → (x.page p).high_key ≡ Some h → goes h ≡ true → Good (x.page p).next (keeps.cost post + pages_below m n)) → Good p (suc (keeps.cost post) + pages_below m n)
  one_visit m n stay post pre p r lo split lower b rows s live reached rest = elim (cases_Bool (passes x goes p)) [
    | inl t ↦
        let alive = live_alive p split r live s.0.role in
        let right : right_of goes (x.page p).high_key ≡ true = elim (or_cases (right_of goes (x.page p).high_key) (x.page p).half_dead t) [ inl g ↦ g | inr h ↦ absurd (grind arith) ] in
        let k = right_key goes (x.page p).high_key right in
        keeps.later p (suc (keeps.cost post + pages_below m n)) (suc (keeps.cost post) + pages_below m n) (omega arith)
        (keeps.right p (keeps.cost post + pages_below m n) s.0.here.0 t (rest k.0 k.1 k.2))
    | inr t ↦ stay post pre p r lo split lower b rows s live reached t
  ]

  descends_step : (m n : ℕ) → Stays m n → Descends m n
  descends_step m n stay [] pre p r lo split lower b rows s live reached guard =
      one_visit m n stay [] pre p r lo split lower b rows s live reached (λ h key right. absurd (cc ((quiet.pages p s.0.here.0).no_high_key s.1, key)))
  descends_step m n stay (row q Neither lq ∷ post) pre p r lo split lower b rows s live reached guard = absurd s.1.0.role
  descends_step m n stay (row q Linked lq ∷ post) pre p r lo split lower b rows s live reached guard =
      one_visit m n stay (row q Linked lq ∷ post) pre p r lo split lower b rows s live reached (λ h key right.
      let low : lq ≡ Some h = s.1.0.low ∙ (lower_live p r lower live ∙ key) in
      let stays : goes h ≡ false = subst (NotRight goes) low guard in
      absurd (grind arith))
  descends_step m n stay (row q Dead lq ∷ post) pre p r lo split lower b rows s live reached guard =
      one_visit m n stay (row q Dead lq ∷ post) pre p r lo split lower b rows s live reached (λ h key right.
      let low : lower_after (x.page p) r lower ≡ Some h = lower_live p r lower live ∙ key in
      absurd (dead_then m post h (x.page q).next (subst (λ z. Sound o x m false z (x.page q).next post) low s.1.1) s.1.0.role.0 right guard))
  descends_step m n stay (row q Right_half lq ∷ post) pre p r lo split lower b rows s live reached guard =
      one_visit m n stay (row q Right_half lq ∷ post) pre p r lo split lower b rows s live reached (λ h key right.
      let low : lq ≡ Some h = s.1.0.low ∙ (lower_live p r lower live ∙ key) in
      let rows' : level_rows x n ≡ (pre ++ row p r lo ∷ []) ++ row q Right_half lq ∷ post = rows ∙ sym (append_assoc pre (row p r lo ∷ []) (row q Right_half lq ∷ post)) in
      let there : Good q (suc (keeps.cost post) + pages_below m n) = descends_step m n stay post (pre ++ row p r lo ∷ []) q Right_half lq _ _ _ rows' s.1 refl (subst (Reached goes) (sym low) right) guard in
      keeps.later (x.page p).next (suc (keeps.cost post) + pages_below m n) (keeps.cost (row q Right_half lq ∷ post) + pages_below m n) (let le = keeps.cost_right q lq post in omega arith) (subst (λ z. Good z (suc (keeps.cost post) + pages_below m n)) (sym s.1.0.at) there))

  pub descends : (m n : ℕ) → m + n ≡ x.level → Descends m n
  descends zero n is = descends_step 0 n (stays_leaf n is)
  descends (suc m) n is = descends_step (suc m) n (to_child m n is (descends m (suc n) (omega arith)))

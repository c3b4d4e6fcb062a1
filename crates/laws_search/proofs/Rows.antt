-- The rows of a level, as the rules leave them.
use Rattle.std.proofs.Common.{◌≡◌, ◌≢◌, ℕ, zero, suc, ◌+◌, ◌-◌, ◌≤◌, inl, inr, Bool, true, false, cond, not, ◌&&◌, List, [], ◌∷◌, ◌++◌, length, map, refl, sym, ap, ◌∙◌, subst, arith, add-zero}
use Rattle.std.specs.Prelude.{Option, Some, None, slice_get, ◌==◌}
use Rattle.std.specs.List.{filter, All, flat_map}
use Rattle.std.proofs.lemmas.Bool.{and_parts, and_right, or_cases, cases_Bool, eqb-true, not-true}
use Rattle.std.proofs.lemmas.List.Elements.{recursion_from_All}
use Rattle.laws_search.specs.Order.{Order}
use Rattle.laws_search.specs.Tree.{Index, Page, chain_of}
use Rattle.laws_search.specs.Levels.{Role, Dead, Linked, Right_half, Neither, is_live, Row, row, row_page, row_role, row_lower, Downlink, is_single, role_of, lower_after, rows, lead_to, entry_page, page_downlinks, row_downlinks, downlinks, level_rows}
use Rattle.laws_search.specs.Searchable.{IsInUse, IsSoundPage, IfFirst, IfLast, EntryAbove, KeyAbove, IsSearchable}
use Rattle.laws_search.proofs.Lists.{In, Each, Each-in, Each-append}
use Rattle.laws_search.proofs.Chains.{Follows, OnLevel, IsChain, chain_is}

-- what a page's role says of it
abbrev pub RoleFacts : {S E : Type 0} → Page S E → Bool → Role → Type 0
RoleFacts p split Dead = (p.next ≢ 0) × (p.leaf ≡ true → p.half_dead ≡ true)
RoleFacts p split Linked = p.half_dead ≡ false
RoleFacts p split Right_half = (p.half_dead ≡ false) × (split ≡ true)
RoleFacts p split Neither = ⊥

pub record RowFacts {S E : Type 0} (o : Order S E) (x : Index S E) (level b p : ℕ) (split : Bool) (r : Role) (lower lo : Option S) : Type 0 where
  pub at : b ≡ p
  pub here : OnLevel x level p
  pub low : lo ≡ lower
  pub role : RoleFacts (x.page p) split r
  pub key : is_live r ≡ true → (s : S) → (x.page p).high_key ≡ Some s → KeyAbove o lo s
  pub entry : is_live r ≡ true → IfFirst (x.page p).entries (EntryAbove o lo)

-- a stretch of a level up to its end, from the block b on, where `split` and `lower` come from the left
abbrev pub Sound : {S E : Type 0} → Order S E → Index S E → ℕ → Bool → Option S → ℕ → List (Row S) → Type 0
Sound o x level split lower b [] = b ≡ 0
Sound o x level split lower b (row p r lo ∷ rs) =
    RowFacts o x level b p split r lower lo × Sound o x level (is_live r && (x.page p).incomplete_split) (lower_after (x.page p) r lower) (x.page p).next rs

-- the role by its four tests
abbrev role_by : (dead linked split single : Bool) → Role
role_by dead linked split single = cond dead Dead (cond linked Linked (cond split Right_half (cond single Dead Neither)))

not_half : {S E : Type 0} (p : Page S E) → (p.half_dead ≡ true → p.leaf ≡ true) → (p.leaf && p.half_dead) ≡ false → p.half_dead ≡ false
not_half p hl is = elim (cases_Bool p.half_dead) [ inl h ↦ absurd (let l = hl h in grind arith) | inr h ↦ h ]

role_by_facts : {S E : Type 0} (p : Page S E) → (p.half_dead ≡ true → p.leaf ≡ true) → (dead linked split single : Bool) → (p.leaf && p.half_dead) ≡ dead → (role_by dead linked split single ≡ Dead → p.next ≢ 0) → (single ≡ true → p.leaf ≡ false) → role_by dead linked split single ≢ Neither → RoleFacts p split (role_by dead linked split single)
role_by_facts p hl true linked split single is dead inner some = (dead refl, λ l. (and_parts p.leaf p.half_dead is).1)
role_by_facts p hl false true split single is dead inner some = not_half p hl is
role_by_facts p hl false false true single is dead inner some = (not_half p hl is, refl)
role_by_facts p hl false false false true is dead inner some = (dead refl, λ l. absurd (let f = inner refl in grind arith))
role_by_facts p hl false false false false is dead inner some = absurd (some refl)

pub last_rest : {X : Type 0} (P : X → Type 0) (a : X) (xs : List X) → IfLast (a ∷ xs) P → IfLast xs P
last_rest P a [] h = λ e k. absurd cc
last_rest P a (b ∷ xs) h =
    let n : length (a ∷ b ∷ xs) - 1 ≡ suc (length (b ∷ xs) - 1) = omega arith in
    λ e k. h e (ap (slice_get (a ∷ b ∷ xs)) n ∙ k)

module _ {S E : Type 0} (o : Order S E) (x : Index S E) (sound : (b : ℕ) → IsInUse x b → IsSoundPage o x b) (level : ℕ) (linked : ℕ → Bool) where
  -- what the rules ask of a row
  record RowRules (r : Row S) : Type 0 where
    role : row_role r ≢ Neither
    key : is_live (row_role r) ≡ true → (s : S) → (x.page (row_page r)).high_key ≡ Some s → KeyAbove o (row_lower r) s
    entry : is_live (row_role r) ≡ true → IfFirst (x.page (row_page r)).entries (EntryAbove o (row_lower r))

  -- a dead page isn't the last
  dead_goes_on : (q : ℕ) (r : Role) (lo : Option S) (split : Bool) (lower : Option S) (c : List ℕ) → Follows (λ b. (x.page b).next) (x.page q).next c → IfLast (row q r lo ∷ rows x linked split lower c) (λ w. row_role w ≢ Dead) → r ≡ Dead → (x.page q).next ≢ 0
  dead_goes_on q r lo split lower [] follows last is = absurd (last (row q r lo) refl is)
  dead_goes_on q r lo split lower (p ∷ c) follows last is = λ z. follows.1 (sym follows.0 ∙ z)

  rows_sound : (split : Bool) (lower : Option S) (b : ℕ) (c : List ℕ) → Follows (λ b. (x.page b).next) b c → Each (OnLevel x level) c → Each RowRules (rows x linked split lower c) → IfLast (rows x linked split lower c) (λ w. row_role w ≢ Dead) → Sound o x level split lower b (rows x linked split lower c)
  rows_sound split lower b [] follows here rules last = follows
  rows_sound split lower b (q ∷ c) follows here rules last =
      let p : Page S E = x.page q in
      let r : Role = role_of p (linked q) split in
      let inner : (not p.leaf && (not (p.next == 0) && is_single p.children)) ≡ true → p.leaf ≡ false = λ h. not-true p.leaf (and_parts _ _ h).0 in
      let facts = role_by_facts p (sound q here.0.0).half_dead_leaf (p.leaf && p.half_dead) (linked q) split (not p.leaf && (not (p.next == 0) && is_single p.children)) refl (dead_goes_on q r lower _ _ c follows.2 last) inner rules.0.role in (
        record { at = follows.0; here = here.0; low = refl; role = facts; key = rules.0.key; entry = rules.0.entry },
        rows_sound (is_live r && p.incomplete_split) (lower_after p r lower) p.next c follows.2 here.1 rules.1 (last_rest (λ w. row_role w ≢ Dead) (row q r lower) (rows x linked (is_live r && p.incomplete_split) (lower_after p r lower) c) last),
      )

-- the linked rows, as downlinks
abbrev pub linked_downs : {S : Type 0} → List (Row S) → List (Downlink S)
linked_downs [] = []
linked_downs (row p Dead lo ∷ rs) = linked_downs rs
linked_downs (row p Linked lo ∷ rs) = (lo, p) ∷ linked_downs rs
linked_downs (row p Right_half lo ∷ rs) = linked_downs rs
linked_downs (row p Neither lo ∷ rs) = linked_downs rs

pages_of : {S : Type 0} → List (Downlink S) → List ℕ
pages_of ds = map (λ d. d.1) ds

-- a row is linked exactly where the downlinks name it
linked_one : {S : Type 0} (dead named split single : Bool) → (named ≡ true → dead ≡ false) → (b : ℕ) (lo : Option S) (rs : List (Row S)) → map (λ d. d.1) (linked_downs (row b (role_by dead named split single) lo ∷ rs)) ≡ cond named (b ∷ map (λ d. d.1) (linked_downs rs)) (map (λ d. d.1) (linked_downs rs))
linked_one true true split single h b lo rs = absurd (let e = h refl in grind arith)
linked_one true false split single h b lo rs = refl
linked_one false true split single h b lo rs = refl
linked_one false false true single h b lo rs = refl
linked_one false false false true h b lo rs = refl
linked_one false false false false h b lo rs = refl

linked_pages : {S E : Type 0} (x : Index S E) (named : ℕ → Bool) → ((b : ℕ) → named b ≡ true → (x.page b).half_dead ≡ false) → (split : Bool) (lower : Option S) (c : List ℕ) → map (λ d. d.1) (linked_downs (rows x named split lower c)) ≡ filter named c
linked_pages x named alive split lower [] = refl
linked_pages x named alive split lower (b ∷ c) =
    let p = x.page b in
    let r : Role = role_of p (named b) split in
    linked_one (p.leaf && p.half_dead) (named b) split (not p.leaf && (not (p.next == 0) && is_single p.children)) (λ h. and_right p.leaf p.half_dead (alive b h)) b lower (rows x named (is_live r && p.incomplete_split) (lower_after p r lower) c)
    ∙ ap (λ w. cond (named b) (b ∷ w) w) (linked_pages x named alive (is_live r && p.incomplete_split) (lower_after p r lower) c)

-- downlinks to the same pages with the same separators
same_downs : {S : Type 0} (xs ys : List (Downlink S)) → map (λ d. d.1) xs ≡ map (λ d. d.1) ys → ((d e : Downlink S) → In d xs → In e ys → e.1 ≡ d.1 → e.0 ≡ d.0) → xs ≡ ys
same_downs [] [] h same = refl
same_downs [] (y ∷ ys) h same = absurd cc
same_downs (x ∷ xs) [] h same = absurd cc
same_downs (x ∷ xs) (y ∷ ys) h same =
    let first : x.1 ≡ y.1 = cc in
    let rest : map (λ d. d.1) xs ≡ map (λ d. d.1) ys = cc in
    let key : y.0 ≡ x.0 = same x y (inl refl) (inl refl) (sym first) in
    let ih = same_downs xs ys rest (λ d e a b. same d e (inr a) (inr b)) in
    let here : x ≡ y = λ i. (sym key i, first i) in
    cc

-- each linked row has a separator that is its lower bound
linked_keys : {S : Type 0} (ds : List (Downlink S)) (rs : List (Row S)) → Each (λ r. row_role r ≡ Linked → All (λ d. d.1 ≡ row_page r → d.0 ≡ row_lower r) ds) rs → (d e : Downlink S) → In d (linked_downs rs) → In e ds → e.1 ≡ d.1 → e.0 ≡ d.0
linked_keys ds [] all d e a b same = absurd a
linked_keys ds (row p Dead lo ∷ rs) all d e a b same = linked_keys ds rs all.1 d e a b same
linked_keys ds (row p Right_half lo ∷ rs) all d e a b same = linked_keys ds rs all.1 d e a b same
linked_keys ds (row p Neither lo ∷ rs) all d e a b same = linked_keys ds rs all.1 d e a b same
linked_keys ds (row p Linked lo ∷ rs) all d e a b same = elim a [
  | inl is ↦
      let to = Each-in (λ d. d.1 ≡ p → d.0 ≡ lo) e ds (recursion_from_All (λ d. d.1 ≡ p → d.0 ≡ lo) ds (all.0 refl)) b in
      to (same ∙ ap (λ z. z.1) is) ∙ sym (ap (λ z. z.0) is)
  | inr k ↦ linked_keys ds rs all.1 d e k b same
]

rows_pages : {S E : Type 0} (x : Index S E) (named : ℕ → Bool) (split : Bool) (lower : Option S) (c : List ℕ) → map row_page (rows x named split lower c) ≡ c
rows_pages x named split lower [] = refl
rows_pages x named split lower (b ∷ c) =
    let p = x.page b in
    let r : Role = role_of p (named b) split in
    ap (λ w. b ∷ w) (rows_pages x named (is_live r && p.incomplete_split) (lower_after p r lower) c)

-- what is known of the level that stands n levels below the top, and m above the leaves
pub record LevelIs {S E : Type 0} (o : Order S E) (x : Index S E) (n m : ℕ) : Type 0 where
  pub first : ℕ
  pub some : first ≢ 0
  pub begins : (x.page first).prev ≡ 0
  pub sound : Sound o x m false None first (level_rows x n)
  pub downs : linked_downs (level_rows x n) ≡ downlinks x n
  pub chain : IsChain x m (map row_page (level_rows x n))
  pub pages : map row_page (level_rows x n) ≡ chain_of x (entry_page (downlinks x n))

module _ {S E : Type 0} (o : Order S E) (x : Index S E) (quiet : IsSearchable o x) (root : x.root ≢ 0) where
  led_to_alive : (ds : List (Downlink S)) → Each (λ d. (x.page d.1).half_dead ≡ false) ds → (b : ℕ) → lead_to ds b ≡ true → (x.page b).half_dead ≡ false
  led_to_alive [] all b h = absurd (grind arith)
  led_to_alive (d ∷ ds) all b h = elim (or_cases (d.1 == b) (lead_to ds b) h) [
    | inl e ↦ subst (λ z. (x.page z).half_dead ≡ false) (eqb-true d.1 b e) all.0
    | inr k ↦ led_to_alive ds all.1 b k
  ]

  build : (n m : ℕ) → n ≤ x.level → OnLevel x m (entry_page (downlinks x n)) → LevelIs o x n m
  build n m le here =
      let ds : List (Downlink S) = downlinks x n in
      let c : List ℕ = chain_of x (entry_page ds) in
      let level = quiet.levels root n le in
      let chain = chain_is o x quiet.pages m (entry_page ds) here level.no_circle in
      let pages = rows_pages x (lead_to ds) false None c in
      let each_role = recursion_from_All (λ r. row_role r ≢ Neither) (level_rows x n) level.live_or_dead in
      let each_key = recursion_from_All (λ r. is_live (row_role r) ≡ true → (s : S) → (x.page (row_page r)).high_key ≡ Some s → KeyAbove o (row_lower r) s) (level_rows x n) level.key_above in
      let each_entry = recursion_from_All (λ r. is_live (row_role r) ≡ true → IfFirst (x.page (row_page r)).entries (EntryAbove o (row_lower r))) (level_rows x n) level.entry_above in
      let rules = all_rules (level_rows x n) each_role each_key each_entry in
      let each_sep = recursion_from_All (λ r. row_role r ≡ Linked → All (λ d. d.1 ≡ row_page r → d.0 ≡ row_lower r) ds) (level_rows x n) level.separators in
      let alive = led_to_alive ds (recursion_from_All (λ d. (x.page d.1).half_dead ≡ false) ds level.no_half_dead) in
      record {
        first = chain.first;
        some = chain.some;
        begins = chain.begins;
        sound = rows_sound o x quiet.pages m (lead_to ds) false None chain.first c chain.follows chain.here rules level.last_live;
        downs = same_downs (linked_downs (level_rows x n)) ds (linked_pages x (lead_to ds) alive false None c ∙ sym level.in_order) (linked_keys ds (level_rows x n) each_sep);
        chain = subst (IsChain x m) (sym pages) chain;
        pages = pages;
      }
    where
      all_rules : (rs : List (Row S)) → Each (λ r. row_role r ≢ Neither) rs → Each (λ r. is_live (row_role r) ≡ true → (s : S) → (x.page (row_page r)).high_key ≡ Some s → KeyAbove o (row_lower r) s) rs → Each (λ r. is_live (row_role r) ≡ true → IfFirst (x.page (row_page r)).entries (EntryAbove o (row_lower r))) rs → Each (RowRules o x quiet.pages m (lead_to (downlinks x n))) rs
      all_rules [] a b c = tt
      all_rules (r ∷ rs) a b c = (record { role = a.0; key = b.0; entry = c.0 }, all_rules rs a.1 b.1 c.1)

  -- the downlinks of a page that has items
  pub first_down : (lower : Option S) (cs : List (S × ℕ)) → cs ≢ [] → (c : S × ℕ) × (ds : List (Downlink S)) × (page_downlinks lower cs ≡ (lower, c.1) ∷ ds)
  first_down lower [] h = absurd (h refl)
  first_down lower (c ∷ cs) h = (c, map (λ c. (Some c.0, c.1)) cs, refl)

  -- a page of a level above the leaves isn't a leaf
  pub not_leaf : (m b : ℕ) → OnLevel x (suc m) b → (x.page b).leaf ≡ false
  not_leaf m b here = elim (cases_Bool (x.page b).leaf) [
    | inl l ↦ let z : (x.page b).level ≡ 0 = (quiet.pages b here.0).leaf_below l in let e : (x.page b).level ≡ suc m = here.1 in absurd (omega arith)
    | inr l ↦ l
  ]

  children_below : (m b : ℕ) (lower : Option S) → OnLevel x (suc m) b → Each (λ d. OnLevel x m d.1) (page_downlinks lower (x.page b).children)
  children_below m b lower here = go lower (x.page b).children (recursion_from_All (λ c. IsInUse x c.1 × ((x.page c.1).level + 1 ≡ (x.page b).level)) (x.page b).children ((quiet.pages b here.0).child (not_leaf m b here)))
    where
      one : (c : ℕ) → IsInUse x c × ((x.page c).level + 1 ≡ (x.page b).level) → OnLevel x m c
      one c h = let e : (x.page c).level + 1 ≡ (x.page b).level = h.1 in let f : (x.page b).level ≡ suc m = here.1 in (h.0, omega arith)

      later : (cs : List (S × ℕ)) → Each {X = S × ℕ} (λ c. IsInUse x c.1 × ((x.page c.1).level + 1 ≡ (x.page b).level)) cs → Each {X = Downlink S} (λ d. OnLevel x m d.1) (map (λ c. (Some c.0, c.1)) cs)
      later [] h = tt
      later (c ∷ cs) h = (one c.1 h.0, later cs h.1)

      go : (lower : Option S) (cs : List (S × ℕ)) → Each {X = S × ℕ} (λ c. IsInUse x c.1 × ((x.page c.1).level + 1 ≡ (x.page b).level)) cs → Each {X = Downlink S} (λ d. OnLevel x m d.1) (page_downlinks lower cs)
      go lower [] h = tt
      go lower (c ∷ cs) h = (one c.1 h.0, later cs h.1)

  -- the level below is named, and not by nobody
  downs_below : (m : ℕ) (rs : List (Row S)) (split : Bool) (lower : Option S) (b : ℕ) → Sound o x (suc m) split lower b rs → Each {X = Downlink S} (λ d. OnLevel x m d.1) (flat_map (row_downlinks x) rs)
  downs_below m [] split lower b s = tt
  downs_below m (row p Dead lo ∷ rs) split lower b s = downs_below m rs _ _ _ s.1
  downs_below m (row p Neither lo ∷ rs) split lower b s = absurd s.0.role
  downs_below m (row p Linked lo ∷ rs) split lower b s = Each-append _ _ _ (children_below m p lo s.0.here) (downs_below m rs _ _ _ s.1)
  downs_below m (row p Right_half lo ∷ rs) split lower b s = Each-append _ _ _ (children_below m p lo s.0.here) (downs_below m rs _ _ _ s.1)

  some_down : (m p : ℕ) (lo : Option S) (ds : List (Downlink S)) → OnLevel x (suc m) p → page_downlinks lo (x.page p).children ++ ds ≢ []
  some_down m p lo ds here e =
      let f = first_down lo (x.page p).children ((quiet.pages p here.0).has_child (not_leaf m p here)) in
      absurd (cc (f.2, e, ap (λ w. w ++ ds) f.2))

  some_below : (m : ℕ) (rs : List (Row S)) (split : Bool) (lower : Option S) (b : ℕ) → Sound o x (suc m) split lower b rs → b ≢ 0 → flat_map (row_downlinks x) rs ≢ []
  some_below m [] split lower b s ne = absurd (ne s)
  some_below m (row p Dead lo ∷ rs) split lower b s ne = some_below m rs _ _ _ s.1 s.0.role.0
  some_below m (row p Neither lo ∷ rs) split lower b s ne = absurd s.0.role
  some_below m (row p Linked lo ∷ rs) split lower b s ne = some_down m p lo _ s.0.here
  some_below m (row p Right_half lo ∷ rs) split lower b s ne = some_down m p lo _ s.0.here

  entry_in : (m : ℕ) (ds : List (Downlink S)) → Each {X = Downlink S} (λ d. OnLevel x m d.1) ds → ds ≢ [] → OnLevel x m (entry_page ds)
  entry_in m [] all ne = absurd (ne refl)
  entry_in m (d ∷ ds) all ne = all.0

  pub level_is : (n m : ℕ) → m + n ≡ x.level → LevelIs o x n m
  level_is zero m is = build zero m (omega arith) (let r = quiet.root root in (r.0, r.1 ∙ (sym is ∙ add-zero m)))
  level_is (suc n) m is =
      let above = level_is n (suc m) (omega arith) in
      let rs = level_rows x n in
      build (suc n) m (omega arith) (entry_in m (downlinks x (suc n)) (downs_below m rs _ _ _ above.sound) (some_below m rs _ _ _ above.sound above.some))

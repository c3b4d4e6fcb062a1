-- One level as it is laid: its chain, its rows, and the rules of its pages.
use Rattle.std.proofs.Common.{◌≡◌, ◌≢◌, ℕ, zero, suc, ◌+◌, ◌-◌, ◌<◌, ◌≤◌, ◌⊎◌, inl, inr, Bool, true, false, ◌&&◌, ◌||◌, List, [], ◌∷◌, ◌++◌, length, map, reverse, refl, sym, ap, ◌∙◌, subst, arith, add-one}
use Rattle.std.specs.Prelude.{⊤, Option, Some, None, ◌==◌, slice_get}
use Rattle.std.specs.List.{filter, All, AllAdjacentBelow, flat_map}
use Rattle.std.proofs.lemmas.Bool.{eq-eqb, cond-true}
use Rattle.std.proofs.lemmas.List.Elements.{All-from_recursion}
use Rattle.laws_search.specs.Order.{Order}
use Rattle.laws_search.specs.Tree.{Page, Index, chain_of, linked_from, after_links}
use Rattle.laws_search.specs.Levels.{Role, Dead, Linked, Neither, is_live, Row, row, row_page, row_role, row_lower, Downlink, role_of, lower_after, rows, lead_to, entry_page, page_downlinks, row_downlinks, level_below, level_rows, downlinks}
use Rattle.laws_search.specs.Searchable.{IsInUse, IsSoundPage, IsSoundLevel, IfFirst, IfLast, EntryAbove, KeyAbove}
use Rattle.laws_search.proofs.Lists.{In, Each, Each-from_in}
use Rattle.laws_search.proofs.Rising.{Rising, adjacent_from_rising}
use Rattle.laws_building.specs.Built.{Splitter, Sheet, first_lower, items_of, is_bottom, next_block, page_of}
use Rattle.laws_building.specs.Fresh.{ItemsClimb}

pub record AtBlock {S E : Type 0} (x : Index S E) (s : Sheet S E) (rest : List (Sheet S E)) (m prev b : ℕ) : Type 0 where
  pub not_meta : b ≢ 0
  pub inside : b < x.blocks
  pub page : x.page b ≡ page_of s rest m prev b

-- these pages of level m stand from block b on
abbrev pub Laid : {S E : Type 0} → Index S E → (sheets : List (Sheet S E)) → (m prev b : ℕ) → Type 0
Laid x [] m prev b = ⊤
Laid x (s ∷ sheets) m prev b = AtBlock x s sheets m prev b × Laid x sheets m b (suc b)

-- what a page has, and how it stands to the pages after it
pub record SheetFacts {S E : Type 0} (o : Order S E) (k : Splitter S E) (x : Index S E) (m : ℕ) (s : Sheet S E) (rest : List (Sheet S E)) : Type 0 where
  pub key : (t : S) → first_lower rest ≡ Some t → KeyAbove o s.lower t
  pub a_key : rest ≢ [] → (t : S) × (first_lower rest ≡ Some t)
  pub rising : Rising o s.entries
  pub within : (t : S) → first_lower rest ≡ Some t → IfLast s.entries (λ e. o.within e t ≡ true)
  pub above : IfFirst s.entries (EntryAbove o s.lower)
  pub climb : is_bottom m ≡ false → ItemsClimb o k s.children s.lower (first_lower rest)
  pub child : is_bottom m ≡ false → Each (λ c. IsInUse x c.1 × ((x.page c.1).level + 1 ≡ m)) s.children
  pub bare : is_bottom m ≡ false → s.entries ≡ []

abbrev pub Content : {S E : Type 0} → Order S E → Splitter S E → Index S E → ℕ → (sheets : List (Sheet S E)) → Type 0
Content o k x m [] = ⊤
Content o k x m (s ∷ sheets) = SheetFacts o k x m s sheets × Content o k x m sheets

-- each separator above a page has the property
abbrev pub Lowers : {S E : Type 0} → (Option S → Type 0) → (sheets : List (Sheet S E)) → Type 0
Lowers Q [] = ⊤
Lowers Q (s ∷ sheets) = Q s.lower × Lowers Q sheets

-- the blocks of a level
abbrev pub blocks_of : {S E : Type 0} → (sheets : List (Sheet S E)) → ℕ → List ℕ
blocks_of [] b = []
blocks_of (s ∷ sheets) b = b ∷ blocks_of sheets (suc b)

-- and its rows
abbrev pub rows_of : {S E : Type 0} → (sheets : List (Sheet S E)) → ℕ → List (Row S)
rows_of [] b = []
rows_of (s ∷ sheets) b = row b Linked s.lower ∷ rows_of sheets (suc b)

pub in_use : {S E : Type 0} (x : Index S E) (s : Sheet S E) (rest : List (Sheet S E)) (m prev b : ℕ) → AtBlock x s rest m prev b → IsInUse x b
in_use x s rest m prev b at = record { not_meta = at.not_meta; inside = at.inside; used = ap (λ p. p.idle) at.page }

pub item_pages : {S E : Type 0} (sheets : List (Sheet S E)) (b : ℕ) → map (λ d. d.1) (items_of sheets b) ≡ blocks_of sheets b
item_pages [] b = refl
item_pages (s ∷ sheets) b = ap (λ w. b ∷ w) (item_pages sheets (suc b))

pub block_high : {S E : Type 0} (sheets : List (Sheet S E)) (b c : ℕ) → In c (blocks_of sheets b) → b ≤ c
block_high [] b c h = absurd h
block_high (s ∷ sheets) b c h = elim h [ inl e ↦ omega arith | inr i ↦ let l : suc b ≤ c = block_high sheets (suc b) c i in omega arith ]

led_to : {S E : Type 0} (sheets : List (Sheet S E)) (b c : ℕ) → In c (blocks_of sheets b) → lead_to (items_of sheets b) c ≡ true
led_to [] b c h = absurd h
led_to (s ∷ sheets) b c h = elim h [
  | inl e ↦ ap (λ w. w || lead_to (items_of sheets (suc b)) c) (eq-eqb b c (sym e))
  | inr i ↦ right (b == c) (lead_to (items_of sheets (suc b)) c) (led_to sheets (suc b) c i)
]
  where
    right : (p q : Bool) → q ≡ true → (p || q) ≡ true
    right true q h = refl
    right false q h = h

filter_all : {X : Type 0} (p : X → Bool) (xs : List X) → Each (λ x. p x ≡ true) xs → filter p xs ≡ xs
filter_all p [] h = refl
filter_all p (x ∷ xs) h = cond-true (p x) (x ∷ filter p xs) (filter p xs) h.0 ∙ ap (λ w. x ∷ w) (filter_all p xs h.1)

pub laid_fits : {S E : Type 0} (x : Index S E) (sheets : List (Sheet S E)) (m prev b : ℕ) → Laid x sheets m prev b → b ≤ x.blocks → b + length sheets ≤ x.blocks
laid_fits x [] m prev b laid le = omega arith
laid_fits x (s ∷ sheets) m prev b laid le =
    let lt : b < x.blocks = laid.0.inside in
    let ih : suc b + length sheets ≤ x.blocks = laid_fits x sheets m b (suc b) laid.1 (omega arith) in
    omega arith

none_linked : (f : ℕ → ℕ) (n : ℕ) → linked_from f n 0 ≡ []
none_linked f zero = refl
none_linked f (suc n) = refl

none_after : (f : ℕ → ℕ) (n : ℕ) → after_links f n 0 ≡ 0
none_after f zero = refl
none_after f (suc n) = refl

-- the links to the right give the level
links_are : {S E : Type 0} (x : Index S E) (sheets : List (Sheet S E)) (m prev a n : ℕ) → Laid x sheets m prev (suc a) → length sheets ≤ n → linked_from (λ c. (x.page c).next) n (next_block sheets a) ≡ blocks_of sheets (suc a)
links_are x [] m prev a n laid le = none_linked (λ c. (x.page c).next) n
links_are x (s ∷ sheets) m prev a zero laid le = absurd (omega arith)
links_are x (s ∷ sheets) m prev a (suc n) laid le =
    ap (λ w. suc a ∷ linked_from (λ c. (x.page c).next) n w) (ap (λ p. p.next) laid.0.page) ∙ ap (λ w. suc a ∷ w) (links_are x sheets m (suc a) (suc a) n laid.1 (omega arith))

-- and never lead back
links_rise : {S E : Type 0} (x : Index S E) (sheets : List (Sheet S E)) (m prev a n : ℕ) → Laid x sheets m prev (suc a) → (after_links (λ c. (x.page c).next) n (next_block sheets a) ≡ 0) ⊎ (a < after_links (λ c. (x.page c).next) n (next_block sheets a))
links_rise x [] m prev a n laid = inl (none_after (λ c. (x.page c).next) n)
links_rise x (s ∷ sheets) m prev a zero laid = inr (omega arith)
links_rise {S} {E} x (s ∷ sheets) m prev a (suc n) laid =
    let e : (x.page (suc a)).next ≡ next_block sheets (suc a) = ap (λ p. p.next) laid.0.page in
    subst (λ z. (after_links (λ c. (x.page c).next) n z ≡ 0) ⊎ (a < after_links (λ c. (x.page c).next) n z)) (sym e) (elim (links_rise x sheets m (suc a) (suc a) n laid.1) [ inl h ↦ inl h | inr h ↦ inr (omega arith) ])

pub chain_is : {S E : Type 0} (x : Index S E) (s : Sheet S E) (sheets : List (Sheet S E)) (m b : ℕ) → Laid x (s ∷ sheets) m 0 b → chain_of x b ≡ blocks_of (s ∷ sheets) b
chain_is x s sheets m zero laid = absurd (laid.0.not_meta refl)
chain_is x s sheets m (suc a) laid =
    let lt : suc a < x.blocks = laid.0.inside in
    let fits : suc a + length (s ∷ sheets) ≤ x.blocks = laid_fits x (s ∷ sheets) m 0 (suc a) laid (omega arith) in
    let left : linked_from (λ c. (x.page c).prev) x.blocks (x.page (suc a)).prev ≡ [] = ap (λ p. linked_from (λ c. (x.page c).prev) x.blocks p.prev) laid.0.page ∙ none_linked (λ c. (x.page c).prev) x.blocks in
    ap (λ w. reverse w ++ linked_from (λ c. (x.page c).next) x.blocks (suc a)) left ∙ links_are x (s ∷ sheets) m 0 a x.blocks laid (omega arith)

no_way_back : {S E : Type 0} (x : Index S E) (s : Sheet S E) (sheets : List (Sheet S E)) (m b n : ℕ) → Laid x (s ∷ sheets) m 0 b → after_links (λ c. (x.page c).next) (n + 1) b ≢ b
no_way_back x s sheets m zero n laid = absurd (laid.0.not_meta refl)
no_way_back x s sheets m (suc a) n laid = λ h.
    let e : (x.page (suc a)).next ≡ next_block sheets (suc a) = ap (λ p. p.next) laid.0.page in
    let to : after_links (λ c. (x.page c).next) (suc n) (suc a) ≡ suc a = subst (λ z. after_links (λ c. (x.page c).next) z (suc a) ≡ suc a) (add-one n) h in
    let back : after_links (λ c. (x.page c).next) n (next_block sheets (suc a)) ≡ suc a = subst (λ z. after_links (λ c. (x.page c).next) n z ≡ suc a) e to in
    elim (links_rise x sheets m (suc a) (suc a) n laid.1) [ inl z ↦ absurd (omega arith) | inr z ↦ absurd (omega arith) ]

role_is : {S E : Type 0} (s : Sheet S E) (rest : List (Sheet S E)) (m prev b : ℕ) → role_of (page_of s rest m prev b) true false ≡ Linked
role_is s rest zero prev b = refl
role_is s rest (suc m) prev b = refl

rows_are : {S E : Type 0} (x : Index S E) (linked : ℕ → Bool) (sheets : List (Sheet S E)) (m prev b : ℕ) → Laid x sheets m prev b → Each (λ c. linked c ≡ true) (blocks_of sheets b) → rows x linked false (first_lower sheets) (blocks_of sheets b) ≡ rows_of sheets b
rows_are x linked [] m prev b laid all = refl
rows_are {S} {E} x linked (s ∷ sheets) m prev b laid all =
    let at : x.page b ≡ page_of s sheets m prev b = laid.0.page in
    let is : linked b ≡ true = all.0 in
    let G : Role → Page S E → List (Row S) = λ r p. row b r s.lower ∷ rows x linked (is_live r && p.incomplete_split) (lower_after p r s.lower) (blocks_of sheets (suc b)) in
    let one : G (role_of (x.page b) (linked b) false) (x.page b) ≡ G (role_of (page_of s sheets m prev b) true false) (page_of s sheets m prev b) = λ i. G (role_of (at i) (is i) false) (at i) in
    let two : G (role_of (page_of s sheets m prev b) true false) (page_of s sheets m prev b) ≡ G Linked (page_of s sheets m prev b) = ap (λ r. G r (page_of s sheets m prev b)) (role_is s sheets m prev b) in
    one ∙ (two ∙ ap (λ w. row b Linked s.lower ∷ w) (rows_are x linked sheets m b (suc b) laid.1 all.1))

pub below_is : {S E : Type 0} (x : Index S E) (s : Sheet S E) (sheets : List (Sheet S E)) (m b : ℕ) → s.lower ≡ None → Laid x (s ∷ sheets) m 0 b → level_below x (items_of (s ∷ sheets) b) ≡ rows_of (s ∷ sheets) b
below_is {S} {E} x s sheets m b none laid =
    let ds : List (Downlink S) = items_of (s ∷ sheets) b in
    let all : Each (λ c. lead_to ds c ≡ true) (blocks_of (s ∷ sheets) b) = Each-from_in (λ c. lead_to ds c ≡ true) (blocks_of (s ∷ sheets) b) (λ c h. led_to (s ∷ sheets) b c h) in
    ap (λ w. rows x (lead_to ds) false None w) (chain_is x s sheets m b laid) ∙ (ap (λ w. rows x (lead_to ds) false w (blocks_of (s ∷ sheets) b)) (sym none) ∙ rows_are x (lead_to ds) (s ∷ sheets) m 0 b laid all)

-- the downlinks in the level
pub downs_are : {S E : Type 0} (x : Index S E) (sheets : List (Sheet S E)) (m prev b : ℕ) → Laid x sheets m prev b → flat_map (row_downlinks x) (rows_of sheets b) ≡ flat_map (λ s. page_downlinks s.lower s.children) sheets
downs_are x [] m prev b laid = refl
downs_are x (s ∷ sheets) m prev b laid =
    ap (λ p. page_downlinks s.lower p.children ++ flat_map (row_downlinks x) (rows_of sheets (suc b))) laid.0.page ∙ ap (λ w. page_downlinks s.lower s.children ++ w) (downs_are x sheets m b (suc b) laid.1)

module _ {S E : Type 0} (o : Order S E) (k : Splitter S E) (x : Index S E) where
  right_page : (rest : List (Sheet S E)) (m b : ℕ) → Laid x rest m b (suc b) → next_block rest b ≢ 0 → IsInUse x (next_block rest b) × ((x.page (next_block rest b)).level ≡ m) × ((x.page (next_block rest b)).prev ≡ b)
  right_page [] m b laid ne = absurd (ne refl)
  right_page (t ∷ rest) m b laid ne = (in_use x t rest m b (suc b) laid.0, ap (λ p. p.level) laid.0.page, ap (λ p. p.prev) laid.0.page)

  bottom_level : (m : ℕ) → is_bottom m ≡ true → m ≡ 0
  bottom_level zero h = refl
  bottom_level (suc m) h = absurd cc

  none_higher : (rest : List (Sheet S E)) (b : ℕ) → next_block rest b ≡ 0 → first_lower rest ≡ None
  none_higher [] b h = refl
  none_higher (t ∷ rest) b h = absurd (omega arith)

  some_right : (rest : List (Sheet S E)) (b : ℕ) → next_block rest b ≢ 0 → rest ≢ []
  some_right [] b h = absurd (h refl)
  some_right (t ∷ rest) b h = λ e. absurd cc

  has_child : (m : ℕ) (s : Sheet S E) (high : Option S) → ItemsClimb o k s.children s.lower high → s.children ≢ []
  has_child m s high h = λ e. subst (λ cs. ItemsClimb o k cs s.lower high) e h

  page_sound : (s : Sheet S E) (rest : List (Sheet S E)) (m prev b : ℕ) → AtBlock x s rest m prev b → Laid x rest m b (suc b) → SheetFacts o k x m s rest → (prev ≢ 0 → IsInUse x prev × ((x.page prev).level ≡ m) × ((x.page prev).next ≡ b)) → IsSoundPage o x b
  page_sound s rest m prev b at laid facts left =
      let to : (P : Page S E → Type 0) → P (page_of s rest m prev b) → P (x.page b) = λ P h. subst P (sym at.page) h in
      record {
        leaf_below = to (λ p. p.leaf ≡ true → p.level ≡ 0) (bottom_level m);
        leaf_if_below = to (λ p. p.level ≡ 0 → p.leaf ≡ true) (λ h. ap is_bottom h);
        half_dead_leaf = to (λ p. p.half_dead ≡ true → p.leaf ≡ true) (λ h. absurd cc);
        half_dead_empty = to (λ p. p.half_dead ≡ true → p.entries ≡ []) (λ h. absurd cc);
        no_high_key = to (λ p. p.next ≡ 0 → p.high_key ≡ None) (none_higher rest b);
        a_high_key = to (λ p. p.half_dead ≡ false → p.next ≢ 0 → (s : S) × (p.high_key ≡ Some s)) (λ h ne. facts.a_key (some_right rest b ne));
        has_child = to (λ p. p.leaf ≡ false → p.children ≢ []) (λ h. has_child m s (first_lower rest) (facts.climb h));
        rising = to (λ p. p.leaf ≡ true → AllAdjacentBelow (λ d e. o.precedes d e ≡ true) p.entries (length p.entries)) (λ h. adjacent_from_rising o s.entries facts.rising);
        last_within = to (λ p. p.leaf ≡ true → (s : S) → p.high_key ≡ Some s → IfLast p.entries (λ e. o.within e s ≡ true)) (λ h. facts.within);
        right_sibling = to (λ p. p.next ≢ 0 → IsInUse x p.next × ((x.page p.next).level ≡ p.level) × ((x.page p.next).prev ≡ b)) (right_page rest m b laid);
        left_sibling = to (λ p. p.prev ≢ 0 → IsInUse x p.prev × ((x.page p.prev).level ≡ p.level) × ((x.page p.prev).next ≡ b)) left;
        child = to (λ p. p.leaf ≡ false → All (λ c. IsInUse x c.1 × ((x.page c.1).level + 1 ≡ p.level)) p.children) (λ h. All-from_recursion (λ c. IsInUse x c.1 × ((x.page c.1).level + 1 ≡ m)) s.children (facts.child h));
      }

  pub pages_sound : (sheets : List (Sheet S E)) (m prev b : ℕ) → Laid x sheets m prev b → Content o k x m sheets → (prev ≢ 0 → IsInUse x prev × ((x.page prev).level ≡ m) × ((x.page prev).next ≡ b)) → Each (IsSoundPage o x) (blocks_of sheets b)
  pages_sound [] m prev b laid content left = tt
  pages_sound (s ∷ []) m prev b laid content left = (page_sound s [] m prev b laid.0 laid.1 content.0 left, tt)
  pages_sound (s ∷ t ∷ sheets) m prev b laid content left = (
    page_sound s (t ∷ sheets) m prev b laid.0 laid.1 content.0 left,
    pages_sound (t ∷ sheets) m b (suc b) laid.1 content.1 (λ ne. (in_use x s (t ∷ sheets) m prev b laid.0, ap (λ p. p.level) laid.0.page, ap (λ p. p.next) laid.0.page)),
  )

  -- only leaves have entries
  pub pages_bare : (sheets : List (Sheet S E)) (m prev b : ℕ) → Laid x sheets m prev b → Content o k x m sheets → Each (λ b. (x.page b).leaf ≡ false → (x.page b).entries ≡ []) (blocks_of sheets b)
  pages_bare [] m prev b laid content = tt
  pages_bare (s ∷ sheets) m prev b laid content = (
    λ inner. ap (λ p. p.entries) laid.0.page ∙ content.0.bare (sym (ap (λ p. p.leaf) laid.0.page) ∙ inner),
    pages_bare sheets m b (suc b) laid.1 content.1,
  )

  -- what rows and pages share
  each_row : (P : Row S → Type 0) (sheets : List (Sheet S E)) (m prev b : ℕ) → Laid x sheets m prev b → Content o k x m sheets → ((s : Sheet S E) (rest : List (Sheet S E)) (prev b : ℕ) → AtBlock x s rest m prev b → SheetFacts o k x m s rest → P (row b Linked s.lower)) → Each P (rows_of sheets b)
  each_row P [] m prev b laid content f = tt
  each_row P (s ∷ sheets) m prev b laid content f = (f s sheets prev b laid.0 content.0, each_row P sheets m b (suc b) laid.1 content.1 f)

  pub each_item : (P : ℕ → Type 0) (sheets : List (Sheet S E)) (m prev b : ℕ) → Laid x sheets m prev b → ((s : Sheet S E) (rest : List (Sheet S E)) (prev b : ℕ) → AtBlock x s rest m prev b → P b) → Each {X = Downlink S} (λ d. P d.1) (items_of sheets b)
  each_item P [] m prev b laid f = tt
  each_item P (s ∷ sheets) m prev b laid f = (f s sheets prev b laid.0, each_item P sheets m b (suc b) laid.1 f)

  -- the item of a block has the block's lower bound
  one_key : (sheets : List (Sheet S E)) (b : ℕ) (r : Row S) (d : Downlink S) → In r (rows_of sheets b) → In d (items_of sheets b) → d.1 ≡ row_page r → d.0 ≡ row_lower r
  one_key [] b r d i j e = absurd i
  one_key (s ∷ sheets) b r d i j e = elim i [
    | inl p ↦ elim j [
      | inl q ↦ ap (λ z. z.0) q ∙ sym (ap row_lower p)
      | inr q ↦ absurd (let l : suc b ≤ d.1 = item_high sheets (suc b) d q in let z : row_page r ≡ b = ap row_page p in omega arith)
    ]
    | inr p ↦ elim j [
      | inl q ↦ absurd (let l : suc b ≤ row_page r = row_high sheets (suc b) r p in let z : d.1 ≡ b = ap (λ z. z.1) q in omega arith)
      | inr q ↦ one_key sheets (suc b) r d p q e
    ]
  ]
    where
      item_high : (sheets : List (Sheet S E)) (b : ℕ) (d : Downlink S) → In d (items_of sheets b) → b ≤ d.1
      item_high [] b d h = absurd h
      item_high (s ∷ sheets) b d h = elim h [ inl e ↦ let z : d.1 ≡ b = ap (λ z. z.1) e in omega arith | inr i ↦ let l : suc b ≤ d.1 = item_high sheets (suc b) d i in omega arith ]

      row_high : (sheets : List (Sheet S E)) (b : ℕ) (r : Row S) → In r (rows_of sheets b) → b ≤ row_page r
      row_high [] b r h = absurd h
      row_high (s ∷ sheets) b r h = elim h [ inl e ↦ let z : row_page r ≡ b = ap row_page e in omega arith | inr i ↦ let l : suc b ≤ row_page r = row_high sheets (suc b) r i in omega arith ]

  all_live : (sheets : List (Sheet S E)) (b n : ℕ) (r : Row S) → slice_get (rows_of sheets b) n ≡ Some r → row_role r ≢ Dead
  all_live [] b n r h = absurd (none n h)
    where
      none : (n : ℕ) → slice_get {X = Row S} [] n ≡ Some r → ⊥
      none zero h = absurd cc
      none (suc n) h = absurd cc
  all_live (s ∷ sheets) b zero r h = let e : row b Linked s.lower ≡ r = cc in subst (λ z. row_role z ≢ Dead) e (λ z. absurd cc)
  all_live (s ∷ sheets) b (suc n) r h = all_live sheets (suc b) n r h

  pub level_sound : (s : Sheet S E) (sheets : List (Sheet S E)) (m b n : ℕ) → s.lower ≡ None → Laid x (s ∷ sheets) m 0 b → Content o k x m (s ∷ sheets) → downlinks x n ≡ items_of (s ∷ sheets) b → IsSoundLevel o x n
  level_sound s sheets m b n none laid content downs =
      let ds : List (Downlink S) = items_of (s ∷ sheets) b in
      let rs : List (Row S) = rows_of (s ∷ sheets) b in
      let rows_eq : level_rows x n ≡ rs = ap (level_below x) downs ∙ below_is x s sheets m b none laid in
      let chain_eq : chain_of x (entry_page (downlinks x n)) ≡ blocks_of (s ∷ sheets) b = ap (λ w. chain_of x (entry_page w)) downs ∙ chain_is x s sheets m b laid in
      let by_rows : (P : Row S → Type 0) → ((s : Sheet S E) (rest : List (Sheet S E)) (prev b : ℕ) → AtBlock x s rest m prev b → SheetFacts o k x m s rest → P (row b Linked s.lower)) → All P (level_rows x n) =
      λ P f. subst (All P) (sym rows_eq) (All-from_recursion P rs (each_row P (s ∷ sheets) m 0 b laid content f)) in
      record {
        no_circle = subst (λ w. (j : ℕ) → after_links (λ b. (x.page b).next) (j + 1) (entry_page w) ≢ entry_page w) (sym downs) (λ j. no_way_back x s sheets m b j laid);
        in_order =
            ap (λ w. map (λ d. d.1) w) downs
            ∙ (item_pages (s ∷ sheets) b
            ∙ (sym (filter_all (lead_to ds) (blocks_of (s ∷ sheets) b) (Each-from_in (λ c. lead_to ds c ≡ true) (blocks_of (s ∷ sheets) b) (λ c h. led_to (s ∷ sheets) b c h)))
            ∙ (λ i. filter (lead_to (sym downs i)) (sym chain_eq i))));
        no_half_dead = subst (All (λ d. (x.page d.1).half_dead ≡ false)) (sym downs) (All-from_recursion (λ d. (x.page d.1).half_dead ≡ false) ds (each_item (λ c. (x.page c).half_dead ≡ false) (s ∷ sheets) m 0 b laid (λ s rest prev b at. ap (λ p. p.half_dead) at.page)));
        live_or_dead = by_rows (λ r. row_role r ≢ Neither) (λ s rest prev b at f. λ e. absurd cc);
        separators =
            let K : List (Downlink S) → List (Row S) → Type 0 = λ ds rs. All (λ r. row_role r ≡ Linked → All (λ d. d.1 ≡ row_page r → d.0 ≡ row_lower r) ds) rs in
            let here : K ds rs =
            All-from_recursion (λ r. row_role r ≡ Linked → All (λ d. d.1 ≡ row_page r → d.0 ≡ row_lower r) ds) rs (Each-from_in (λ r. row_role r ≡ Linked → All (λ d. d.1 ≡ row_page r → d.0 ≡ row_lower r) ds) rs (λ r i linked.
            All-from_recursion (λ d. d.1 ≡ row_page r → d.0 ≡ row_lower r) ds (Each-from_in (λ d. d.1 ≡ row_page r → d.0 ≡ row_lower r) ds (λ d j. one_key (s ∷ sheets) b r d i j)))) in
            subst (λ w. K w (level_rows x n)) (sym downs) (subst (K ds) (sym rows_eq) here);
        key_above = by_rows (λ r. is_live (row_role r) ≡ true → (s : S) → (x.page (row_page r)).high_key ≡ Some s → KeyAbove o (row_lower r) s) (λ s rest prev b at f. λ live t h. f.key t (sym (ap (λ p. p.high_key) at.page) ∙ h));
        entry_above = by_rows (λ r. is_live (row_role r) ≡ true → IfFirst (x.page (row_page r)).entries (EntryAbove o (row_lower r))) (λ s rest prev b at f. λ live e h. f.above e (sym (ap (λ p. slice_get p.entries 0) at.page) ∙ h));
        last_live = subst (λ w. IfLast w (λ r. row_role r ≢ Dead)) (sym rows_eq) (λ r h. all_live (s ∷ sheets) b (length rs - 1) r h);
      }

  -- each row is linked, and the items of an internal page climb
  pub level_linked : (s : Sheet S E) (sheets : List (Sheet S E)) (m b n : ℕ) → s.lower ≡ None → Laid x (s ∷ sheets) m 0 b → Content o k x m (s ∷ sheets) → downlinks x n ≡ items_of (s ∷ sheets) b → All (λ r. row_role r ≡ Linked) (level_rows x n)
  level_linked s sheets m b n none laid content downs =
      let rows_eq : level_rows x n ≡ rows_of (s ∷ sheets) b = ap (level_below x) downs ∙ below_is x s sheets m b none laid in
      let P : Row S → Type 0 = λ r. row_role r ≡ Linked in
      subst (All P) (sym rows_eq) (All-from_recursion P (rows_of (s ∷ sheets) b) (each_row P (s ∷ sheets) m 0 b laid content (λ s rest prev b at f. refl)))

  pub level_climbs : (s : Sheet S E) (sheets : List (Sheet S E)) (m b n : ℕ) → s.lower ≡ None → Laid x (s ∷ sheets) m 0 b → Content o k x m (s ∷ sheets) → downlinks x n ≡ items_of (s ∷ sheets) b → All (λ r. (x.page (row_page r)).leaf ≡ false → ItemsClimb o k (x.page (row_page r)).children (row_lower r) (x.page (row_page r)).high_key) (level_rows x n)
  level_climbs s sheets m b n none laid content downs =
      let rows_eq : level_rows x n ≡ rows_of (s ∷ sheets) b = ap (level_below x) downs ∙ below_is x s sheets m b none laid in
      let P : Row S → Type 0 = λ r. (x.page (row_page r)).leaf ≡ false → ItemsClimb o k (x.page (row_page r)).children (row_lower r) (x.page (row_page r)).high_key in
      subst (All P) (sym rows_eq) (All-from_recursion P (rows_of (s ∷ sheets) b) (each_row P (s ∷ sheets) m 0 b laid content
      (λ s rest prev b at f. λ inner. subst (λ p. ItemsClimb o k p.children s.lower p.high_key) (sym at.page) (f.climb (sym (ap (λ p. p.leaf) at.page) ∙ inner)))))

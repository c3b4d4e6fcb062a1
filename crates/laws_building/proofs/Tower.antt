-- The levels from the leaves upward, as they stand in the image.
use Rattle.std.proofs.Common.{◌≡◌, ◌≢◌, ℕ, zero, suc, ◌+◌, ◌<◌, ◌≤◌, true, List, [], ◌∷◌, ◌++◌, length, map, refl, sym, ap, ◌∙◌, subst, arith, length-append, append_assoc}
use Rattle.std.specs.Prelude.{Option, None}
use Rattle.std.specs.List.{flat_map}
use Rattle.std.proofs.lemmas.List.Elements.{recursion_from_All, All-from_recursion}
use Rattle.laws_search.specs.Order.{Order}
use Rattle.laws_search.specs.Tree.{Page, Index}
use Rattle.laws_search.specs.Levels.{Downlink, is_single, page_downlinks, row_downlinks, level_below, downlinks}
use Rattle.laws_search.specs.Searchable.{IsInUse}
use Rattle.laws_search.proofs.Lists.{Each, Each-back}
use Rattle.laws_building.specs.Cuts.{joined, CutsInTwos}
use Rattle.laws_building.specs.Built.{Splitter, Sheet, items_of, block_after, internal_sheet, levels_from, page_of, lay_level, lay_levels, page_at}
use Rattle.laws_building.specs.Fresh.{IsKeyOrder}
use Rattle.laws_building.proofs.Level.{Laid, Lowers, Content, in_use, below_is, downs_are, each_item}
use Rattle.laws_building.proofs.Internal.{RisesFrom, few_pages, downs_back, internal_content, items_rise}

-- the level begins at minus infinity
abbrev pub Begins : {S E : Type 0} → (sheets : List (Sheet S E)) → Type 0
Begins [] = ⊥
Begins (s ∷ sheets) = s.lower ≡ None

abbrev pub LevelOf : {S E : Type 0} → Order S E → Splitter S E → Index S E → (sheets : List (Sheet S E)) → (m b : ℕ) → Type 0
LevelOf o k x sheets m b = Begins sheets × Laid x sheets m 0 b × Content o k x m sheets

-- the lowest level and those above it, up to the root
abbrev pub Tower : {S E : Type 0} → Order S E → Splitter S E → Index S E → (ups : List (List (Sheet S E))) → (sheets : List (Sheet S E)) → (m b : ℕ) → Type 0
Tower o k x [] sheets m b = LevelOf o k x sheets m b × (is_single sheets ≡ true) × (b ≡ x.root) × (suc b ≡ x.blocks) × (m ≡ x.level)
Tower o k x (up ∷ ups) sheets m b =
    LevelOf o k x sheets m b × (flat_map (λ s. page_downlinks s.lower s.children) up ≡ items_of sheets b) × Tower o k x ups up (suc m) (block_after sheets b) × (length up < length sheets)

pub lowest : {S E : Type 0} (o : Order S E) (k : Splitter S E) (x : Index S E) (ups : List (List (Sheet S E))) (sheets : List (Sheet S E)) (m b : ℕ) → Tower o k x ups sheets m b → LevelOf o k x sheets m b
lowest o k x [] sheets m b t = t.0
lowest o k x (up ∷ ups) sheets m b t = t.0

pub block_after_is : {S E : Type 0} (sheets : List (Sheet S E)) (b : ℕ) → block_after sheets b ≡ b + length sheets
block_after_is [] b = omega arith
block_after_is (s ∷ sheets) b = let ih : block_after sheets (suc b) ≡ suc b + length sheets = block_after_is sheets (suc b) in omega arith

pub length-lay : {S E : Type 0} (sheets : List (Sheet S E)) (m prev b : ℕ) → length (lay_level sheets m prev b) ≡ length sheets
length-lay [] m prev b = refl
length-lay (s ∷ sheets) m prev b = ap suc (length-lay sheets m b (suc b))

page_in_middle : {S E : Type 0} (front : List (Page S E)) (p : Page S E) (back : List (Page S E)) → page_at (front ++ p ∷ back) (length front) ≡ p
page_in_middle [] p back = refl
page_in_middle (q ∷ front) p back = page_in_middle front p back

pub length-items : {S E : Type 0} (sheets : List (Sheet S E)) (b : ℕ) → length (items_of sheets b) ≡ length sheets
length-items [] b = refl
length-items (s ∷ sheets) b = ap suc (length-items sheets (suc b))

pub length-map_list : {X Y : Type 0} (f : X → Y) (xs : List X) → length (map f xs) ≡ length xs
length-map_list f [] = refl
length-map_list f (x ∷ xs) = ap suc (length-map_list f xs)

module _ {S E : Type 0} (k : Splitter S E) (Q : Option S → Type 0) where
  pub items_have : (sheets : List (Sheet S E)) (b : ℕ) → Lowers Q sheets → Each {X = Downlink S} (λ d. Q d.0) (items_of sheets b)
  items_have [] b h = tt
  items_have (s ∷ sheets) b h = (h.0, items_have sheets (suc b) h.1)

  pub heads_have : (pages : List (List (Downlink S))) → Each (λ page. page ≢ []) pages → Each {X = Downlink S} (λ d. Q d.0) (joined pages) → Lowers {E = E} Q (map (internal_sheet k) pages)
  heads_have [] filled h = tt
  heads_have ([] ∷ pages) filled h = absurd (filled.0 refl)
  heads_have ((d ∷ ds) ∷ pages) filled h = (h.0, heads_have pages filled.1 (Each-back (λ d. Q d.0) ds (joined pages) h.1))

module _ {S E : Type 0} (o : Order S E) (laws : IsKeyOrder o) (k : Splitter S E) (cut : List (Downlink S) → List (List (Downlink S))) (Q : Option S → Type 0) (cuts : CutsInTwos (λ d. Q d.0) cut) (x : Index S E) (pages : List (Page S E)) (at : (b : ℕ) → b ≢ 0 → b < x.blocks → x.page b ≡ page_at pages b) (blocks : x.blocks ≡ length pages) (root : suc x.root ≡ length pages) where
  -- what was laid stands there
  laid_there : (sheets : List (Sheet S E)) (m prev b : ℕ) (front back : List (Page S E)) → pages ≡ front ++ (lay_level sheets m prev b ++ back) → length front ≡ b → b ≢ 0 → Laid x sheets m prev b
  laid_there [] m prev b front back is long ne = tt
  laid_there (s ∷ sheets) m prev b front back is long ne =
      let p : Page S E = page_of s sheets m prev b in
      let more : List (Page S E) = lay_level sheets m b (suc b) ++ back in
      let all : length pages ≡ length (front ++ p ∷ more) = ap (λ w. length w) is in
      let sum : length (front ++ p ∷ more) ≡ length front + length (p ∷ more) = length-append front (p ∷ more) in
      let inside : b < x.blocks = omega arith in
      let page : x.page b ≡ p = at b ne inside ∙ (ap (λ w. page_at w b) is ∙ (ap (λ n. page_at (front ++ p ∷ more) n) (sym long) ∙ page_in_middle front p more)) in
      let next : pages ≡ (front ++ p ∷ []) ++ more = is ∙ sym (append_assoc front (p ∷ []) more) in
      let sum' : length (front ++ p ∷ []) ≡ length front + 1 = length-append front (p ∷ []) in (
        record { not_meta = ne; inside = inside; page = page },
        laid_there sheets m b (suc b) (front ++ p ∷ []) back next (omega arith) (omega arith),
      )

  pub record Standing (n : ℕ) (sheets : List (Sheet S E)) (m b : ℕ) : Type 0 where
    pub ups : List (List (Sheet S E))
    pub levels : levels_from k cut n sheets b ≡ sheets ∷ ups
    pub tower : Tower o k x ups sheets m b

  begins_at : (items : List (Downlink S)) (pages : List (List (Downlink S))) → joined pages ≡ items → Each (λ page. page ≢ []) pages → (d : Downlink S) (ds : List (Downlink S)) → items ≡ d ∷ ds → d.0 ≡ None → Begins {E = E} (map (internal_sheet k) pages)
  begins_at items [] whole filled d ds is none = absurd (let e : ◌≡◌ {A = List (Downlink S)} [] (d ∷ ds) = whole ∙ is in cc)
  begins_at items ([] ∷ pages) whole filled d ds is none = absurd (filled.0 refl)
  begins_at items ((e ∷ es) ∷ pages) whole filled d ds is none =
      let same : (e ∷ es) ++ joined pages ≡ d ∷ ds = whole ∙ is in
      let first : e ≡ d = cc in
      ap (λ z. z.0) first ∙ none

  pub stands : (n : ℕ) (sheets : List (Sheet S E)) (m b : ℕ) (front : List (Page S E)) → length sheets ≤ n → Begins sheets → Lowers Q sheets → Content o k x m sheets → pages ≡ front ++ lay_levels (levels_from k cut n sheets b) m b → length front ≡ b → b ≢ 0 → m + length (levels_from k cut n sheets b) ≡ suc x.level → Standing n sheets m b
  stands n [] m b front few begins lowers content is long ne high = absurd begins
  stands zero (s ∷ sheets) m b front few begins lowers content is long ne high = absurd (omega arith)
  stands (suc n) (s ∷ []) m b front few begins lowers content is long ne high =
      let p : Page S E = page_of s [] m 0 b in
      let laid = laid_there (s ∷ []) m 0 b front [] is long ne in
      let all : length pages ≡ length (front ++ p ∷ []) = ap (λ w. length w) is in
      let sum : length (front ++ p ∷ []) ≡ length front + 1 = length-append front (p ∷ []) in
      record { ups = []; levels = refl; tower = ((begins, laid, content), refl, omega arith, omega arith, omega arith) }
  stands (suc n) (s ∷ t ∷ sheets) m b front few begins lowers content is long ne high =
      let here : List (Sheet S E) = s ∷ t ∷ sheets in
      let items : List (Downlink S) = items_of here b in
      let groups : List (List (Downlink S)) = cut items in
      let up : List (Sheet S E) = map (internal_sheet k) groups in
      let keyed : Each {X = Downlink S} (λ d. Q d.0) items = items_have k Q here b lowers in
      let c = cuts.cuts items (All-from_recursion (λ d. Q d.0) items keyed) in
      let filled : Each (λ page. page ≢ []) groups = recursion_from_All (λ page. page ≢ []) groups c.filled in
      let whole : joined groups ≡ items = c.whole in
      let own : List (Page S E) = lay_level here m 0 b in
      let later : List (Page S E) = lay_levels (levels_from k cut n up (block_after here b)) (suc m) (block_after here b) in
      let laid : Laid x here m 0 b = laid_there here m 0 b front later is long ne in
      let rises : RisesFrom o (joined groups) = subst (RisesFrom o) (sym whole) (items_rise o laws k x s (t ∷ sheets) m (suc b) content) in
      let below : Each (λ d. IsInUse x d.1 × ((x.page d.1).level + 1 ≡ suc m)) items =
      each_item o k x (λ b. IsInUse x b × ((x.page b).level + 1 ≡ suc m)) here m 0 b laid (λ s rest prev b a. let l : (x.page b).level ≡ m = ap (λ p. p.level) a.page in (in_use x s rest m prev b a, omega arith)) in
      let content' : Content o k x (suc m) up = internal_content o laws k x m groups filled rises (subst (Each (λ d. IsInUse x d.1 × ((x.page d.1).level + 1 ≡ suc m))) (sym whole) below) in
      let fewer : length groups + length groups ≤ suc (length (joined groups)) = few_pages groups filled (cuts.twos items (All-from_recursion (λ d. Q d.0) items keyed)) in
      let count : length (joined groups) ≡ length here = ap (λ w. length w) whole ∙ length-items here b in
      let ups_len : length up ≡ length groups = length-map_list (internal_sheet k) groups in
      let after : block_after here b ≡ b + length here = block_after_is here b in
      let laid_len : length own ≡ length here = length-lay here m 0 b in
      let sum : length (front ++ own) ≡ length front + length own = length-append front own in
      let few' : length up ≤ n = omega arith in
      let next = stands n up (suc m) (block_after here b) (front ++ own) few'
      (begins_at items groups whole filled (s.lower, b) (items_of (t ∷ sheets) (suc b)) refl begins)
      (heads_have k Q groups filled (subst (Each {X = Downlink S} (λ d. Q d.0)) (sym whole) keyed))
      content'
      (is ∙ sym (append_assoc front own later))
      (omega arith)
      (omega arith)
      (omega arith) in
      record {
        ups = up ∷ next.ups;
        levels = ap (λ w. here ∷ w) next.levels;
        tower = ((begins, laid, content), downs_back o laws k x groups filled rises ∙ whole, next.tower, omega arith);
      }

-- seen from the root, the downlinks of a level are its pages
pub downs_of : {S E : Type 0} (o : Order S E) (k : Splitter S E) (x : Index S E) (ups : List (List (Sheet S E))) (sheets : List (Sheet S E)) (m b : ℕ) → Tower o k x ups sheets m b → downlinks x (length ups) ≡ items_of sheets b
downs_of o k x [] [] m b t = absurd t.0.0
downs_of {S} {E} o k x [] (s ∷ []) m b t = λ i. (sym t.0.0 i, sym t.2 i) ∷ []
downs_of o k x [] (s ∷ u ∷ sheets) m b t = absurd cc
downs_of o k x (up ∷ ups) sheets m b t =
    let above = downs_of o k x ups up (suc m) (block_after sheets b) t.2 in
    ap (λ w. flat_map (row_downlinks x) (level_below x w)) above ∙ (level_gives up (lowest o k x ups up (suc m) (block_after sheets b) t.2) ∙ t.1)
  where
    level_gives : (up : List (Sheet _ _)) → LevelOf o k x up (suc m) (block_after sheets b) → flat_map (row_downlinks x) (level_below x (items_of up (block_after sheets b))) ≡ flat_map (λ s. page_downlinks s.lower s.children) up
    level_gives [] l = absurd l.0
    level_gives (s ∷ more) l =
        ap (flat_map (row_downlinks x)) (below_is x s more (suc m) (block_after sheets b) l.0 l.1) ∙ downs_are x (s ∷ more) (suc m) 0 (block_after sheets b) l.1

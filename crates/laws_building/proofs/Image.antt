-- The built image breaks no rule, and has the entries that it was built from.
use Rattle.std.proofs.Common.{◌≡◌, ◌≢◌, ℕ, zero, suc, ◌+◌, ◌-◌, ◌<◌, ◌≤◌, ◌⊎◌, inl, inr, false, List, [], ◌∷◌, ◌++◌, length, map, refl, sym, ap, ◌∙◌, subst, arith, append_assoc, append-nil, add-one}
use Rattle.std.specs.Prelude.{Option, Some, None, slice_get}
use Rattle.std.specs.List.{filter, All, Contains, flat_map}
use Rattle.std.specs.List.Sorted.{IsPermutation}
use Rattle.std.proofs.lemmas.List.Concat.{flat_map-append}
use Rattle.std.proofs.lemmas.List.Elements.{recursion_from_All}
use Rattle.std.proofs.lemmas.List.Sorted.{IsPermutation-refl}
use Rattle.laws_search.specs.Order.{Order}
use Rattle.laws_search.specs.Tree.{Page, Index, chain_of}
use Rattle.laws_search.specs.Levels.{Linked, Downlink, Row, row, row_page, row_role, row_lower, entry_page, level_below, level_rows, downlinks}
use Rattle.laws_search.specs.Searchable.{IfFirst, IsInUse, IsSoundPage, IsSoundLevel, IsSearchable}
use Rattle.laws_search.specs.Search.{tree_blocks, leaf_entries, entries_of, is_wanted, IsWanted}
use Rattle.laws_levels.specs.Sound.{HasSoundPages}
use Rattle.laws_search.proofs.Lists.{In, Each, Each-in}
use Rattle.laws_search.proofs.Rising.{Rising, rising_from_adjacent, adjacent_from_rising}
use Rattle.laws_search.proofs.Gather.{Rising-filter}
use Rattle.laws_search.proofs.Unique.{Contains-from_In, finds_only}
use Rattle.laws_building.specs.Cuts.{joined}
use Rattle.laws_building.specs.Built.{Splitter, Sheet, leaf_sheets, items_of, block_after, levels_from, gap, lay_levels, no_page, built_levels, built, IsLaidAs}
use Rattle.laws_building.specs.Fresh.{IsGiven, IsBetween, IsFresh, IsWhole, ItemsClimb, FindsAmong, pages_upward}
use Rattle.laws_building.proofs.Level.{AtBlock, Laid, Content, blocks_of, rows_of, in_use, chain_is, below_is, pages_sound, pages_bare, level_sound, level_linked, level_climbs}
use Rattle.laws_building.proofs.LeafLevel.{leaf_content, leaf_keys}
use Rattle.laws_building.proofs.Tower.{LevelOf, Tower, lowest, downs_of, block_after_is, stands}

in_blocks : {S E : Type 0} (sheets : List (Sheet S E)) (b c : ℕ) → b ≤ c → c < block_after sheets b → In c (blocks_of sheets b)
in_blocks [] b c low high = absurd (omega arith)
in_blocks (s ∷ sheets) b c low high = elim (at_or_above b c low) [ inl e ↦ inl e | inr l ↦ inr (in_blocks sheets (suc b) c l high) ]
  where
    at_or_above : (b c : ℕ) → b ≤ c → (c ≡ b) ⊎ (suc b ≤ c)
    at_or_above b c l = grind arith

each_block : {S E : Type 0} (x : Index S E) (P : ℕ → Type 0) (sheets : List (Sheet S E)) (m prev b : ℕ) → Laid x sheets m prev b → ((s : Sheet S E) (rest : List (Sheet S E)) (prev b : ℕ) → AtBlock x s rest m prev b → P b) → Each P (blocks_of sheets b)
each_block x P [] m prev b laid f = tt
each_block x P (s ∷ sheets) m prev b laid f = (f s sheets prev b laid.0, each_block x P sheets m b (suc b) laid.1 f)

-- the blocks by number are the levels from the leaves upward
blocks_to : {S E : Type 0} (sheets : List (Sheet S E)) (a : ℕ) → tree_blocks (block_after sheets (suc a)) ≡ tree_blocks (suc a) ++ blocks_of sheets (suc a)
blocks_to [] a = sym (append-nil (tree_blocks (suc a)))
blocks_to (s ∷ sheets) a = blocks_to sheets (suc a) ∙ append_assoc (tree_blocks (suc a)) (suc a ∷ []) (blocks_of sheets (suc (suc a)))

module _ {S E : Type 0} (o : Order S E) (k : Splitter S E) (x : Index S E) where
  -- a level of the tower
  record Storey : Type 0 where
    ups : List (List (Sheet S E))
    first : Sheet S E
    more : List (Sheet S E)
    m : ℕ
    b : ℕ
    tower : Tower o k x ups (first ∷ more) m b
    high : m + length ups ≡ x.level

  level_of : (y : Storey) → LevelOf o k x (y.first ∷ y.more) y.m y.b
  level_of y = lowest o k x y.ups (y.first ∷ y.more) y.m y.b y.tower

  downs : (y : Storey) → downlinks x (length y.ups) ≡ items_of (y.first ∷ y.more) y.b
  downs y = downs_of o k x y.ups (y.first ∷ y.more) y.m y.b y.tower

  here : (ups : List (List (Sheet S E))) (sheets : List (Sheet S E)) (m b : ℕ) → Tower o k x ups sheets m b → m + length ups ≡ x.level → (P : Storey → Type 0) → ((s : Sheet S E) (more : List (Sheet S E)) → sheets ≡ s ∷ more → (t : Tower o k x ups (s ∷ more) m b) (h : m + length ups ≡ x.level) → P (record { ups = ups; first = s; more = more; m = m; b = b; tower = t; high = h })) → (y : Storey) × P y
  here ups [] m b t h P f = absurd ((lowest o k x ups [] m b t).0)
  here ups (s ∷ more) m b t h P f = (record { ups = ups; first = s; more = more; m = m; b = b; tower = t; high = h }, f s more refl t h)

  -- the level of a block
  storey_of : (ups : List (List (Sheet S E))) (sheets : List (Sheet S E)) (m b c : ℕ) → Tower o k x ups sheets m b → m + length ups ≡ x.level → b ≤ c → c < x.blocks → (y : Storey) × In c (blocks_of (y.first ∷ y.more) y.b)
  storey_of [] sheets m b c t h low high = here [] sheets m b t h (λ y. In c (blocks_of (y.first ∷ y.more) y.b)) (λ s more is t h. inl (let e : suc b ≡ x.blocks = t.3 in omega arith))
  storey_of (up ∷ ups) sheets m b c t h low high = elim (below_or c (block_after sheets b)) [
    | inl l ↦ here (up ∷ ups) sheets m b t h (λ y. In c (blocks_of (y.first ∷ y.more) y.b)) (λ s more is t h. in_blocks (s ∷ more) b c low (subst (λ w. c < block_after w b) is l))
    | inr l ↦ storey_of ups up (suc m) (block_after sheets b) c t.2 (omega arith) l high
  ]
    where
      below_or : (p q : ℕ) → (p < q) ⊎ (q ≤ p)
      below_or p q = grind arith

  -- the level that stands n levels below the root
  storey_at : (ups : List (List (Sheet S E))) (sheets : List (Sheet S E)) (m b n : ℕ) → Tower o k x ups sheets m b → m + length ups ≡ x.level → n ≤ length ups → (y : Storey) × (length y.ups ≡ n)
  storey_at [] sheets m b n t h le = here [] sheets m b t h (λ y. length y.ups ≡ n) (λ s more is t h. omega arith)
  storey_at (up ∷ ups) sheets m b n t h le = elim (at_or n (suc (length ups)) le) [
    | inl e ↦ here (up ∷ ups) sheets m b t h (λ y. length y.ups ≡ n) (λ s more is t h. sym e)
    | inr l ↦ storey_at ups up (suc m) (block_after sheets b) n t.2 (omega arith) (omega arith)
  ]
    where
      at_or : (p q : ℕ) → p ≤ q → (p ≡ q) ⊎ (suc p ≤ q)
      at_or p q l = grind arith

  sound_at : (y : Storey) → IsSoundLevel o x (length y.ups)
  sound_at y = let l = level_of y in level_sound o k x y.first y.more y.m y.b (length y.ups) l.0 l.1 l.2 (downs y)

  linked_at : (y : Storey) → All (λ r. row_role r ≡ Linked) (level_rows x (length y.ups))
  linked_at y = let l = level_of y in level_linked o k x y.first y.more y.m y.b (length y.ups) l.0 l.1 l.2 (downs y)

  climbs_at : (y : Storey) → All (λ r. (x.page (row_page r)).leaf ≡ false → ItemsClimb o k (x.page (row_page r)).children (row_lower r) (x.page (row_page r)).high_key) (level_rows x (length y.ups))
  climbs_at y = let l = level_of y in level_climbs o k x y.first y.more y.m y.b (length y.ups) l.0 l.1 l.2 (downs y)

  -- the root's level is the root
  top_is : (ups : List (List (Sheet S E))) (sheets : List (Sheet S E)) (m b : ℕ) → Tower o k x ups sheets m b → IsInUse x x.root × ((x.page x.root).level ≡ x.level) × (level_rows x 0 ≡ row x.root Linked None ∷ [])
  top_is [] [] m b t = absurd t.0.0
  top_is [] (s ∷ u ∷ sheets) m b t = absurd (let h = t.1 in cc)
  top_is [] (s ∷ []) m b t =
      let at : AtBlock x s [] m 0 b = t.0.1.0 in
      let rows : level_rows x 0 ≡ row b Linked s.lower ∷ [] = ap (level_below x) (downs_of o k x [] (s ∷ []) m b t) ∙ below_is x s [] m b t.0.0 t.0.1 in
      let same : row b Linked s.lower ∷ [] ≡ row x.root Linked None ∷ [] = λ i. row (t.2 i) Linked (t.0.0 i) ∷ [] in (
        subst (IsInUse x) t.2 (in_use x s [] m 0 b at),
        subst (λ z. (x.page z).level ≡ x.level) t.2 (ap (λ p. p.level) at.page ∙ t.4),
        rows ∙ same,
      )
  top_is (up ∷ ups) sheets m b t = top_is ups up (suc m) (block_after sheets b) t.2

  length-rows : (sheets : List (Sheet S E)) (b : ℕ) → length (rows_of sheets b) ≡ length sheets
  length-rows [] b = refl
  length-rows (s ∷ sheets) b = ap suc (length-rows sheets (suc b))

  width : (ups : List (List (Sheet S E))) (sheets : List (Sheet S E)) (m b : ℕ) → Tower o k x ups sheets m b → length (level_rows x (length ups)) ≡ length sheets
  width ups [] m b t = absurd ((lowest o k x ups [] m b t).0)
  width ups (s ∷ sheets) m b t =
      let l = lowest o k x ups (s ∷ sheets) m b t in
      let rows : level_rows x (length ups) ≡ rows_of (s ∷ sheets) b = ap (level_below x) (downs_of o k x ups (s ∷ sheets) m b t) ∙ below_is x s sheets m b l.0 l.1 in
      ap (λ w. length w) rows ∙ length-rows (s ∷ sheets) b

  rows_blocks : (sheets : List (Sheet S E)) (b : ℕ) → map row_page (rows_of sheets b) ≡ blocks_of sheets b
  rows_blocks [] b = refl
  rows_blocks (s ∷ sheets) b = ap (λ w. b ∷ w) (rows_blocks sheets (suc b))

  -- the blocks of a level and of those above it
  row_blocks : (ups : List (List (Sheet S E))) (sheets : List (Sheet S E)) (m b : ℕ) → Tower o k x ups sheets m b → map row_page (level_rows x (length ups)) ≡ blocks_of sheets b
  row_blocks ups [] m b t = absurd ((lowest o k x ups [] m b t).0)
  row_blocks ups (s ∷ sheets) m b t =
      let l = lowest o k x ups (s ∷ sheets) m b t in
      let rows : level_rows x (length ups) ≡ rows_of (s ∷ sheets) b = ap (level_below x) (downs_of o k x ups (s ∷ sheets) m b t) ∙ below_is x s sheets m b l.0 l.1 in
      ap (λ w. map row_page w) rows ∙ rows_blocks (s ∷ sheets) b

  upward_is : (ups : List (List (Sheet S E))) (sheets : List (Sheet S E)) (m a : ℕ) → Tower o k x ups sheets m (suc a) → tree_blocks (suc a) ++ pages_upward x (length ups) ≡ tree_blocks x.blocks
  upward_is [] [] m a t = absurd t.0.0
  upward_is [] (s ∷ u ∷ sheets) m a t = absurd (let h = t.1 in cc)
  upward_is [] (s ∷ []) m a t = ap (λ w. tree_blocks (suc a) ++ w) (row_blocks [] (s ∷ []) m (suc a) t) ∙ ap tree_blocks t.3
  upward_is (up ∷ ups) sheets m a t =
      ap (λ w. tree_blocks (suc a) ++ (w ++ pages_upward x (length ups))) (row_blocks (up ∷ ups) sheets m (suc a) t)
      ∙ (sym (append_assoc (tree_blocks (suc a)) (blocks_of sheets (suc a)) (pages_upward x (length ups)))
      ∙ (ap (λ w. w ++ pages_upward x (length ups)) (sym (blocks_to sheets a)) ∙ later ups up (block_after sheets (suc a)) (block_after_is sheets (suc a)) (λ c is. upward_is ups up (suc m) c (subst (λ w. Tower o k x ups up (suc m) w) is t.2))))
    where
      later : (ups : List (List (Sheet S E))) (up : List (Sheet S E)) (c : ℕ) → c ≡ suc a + length sheets → ((d : ℕ) → c ≡ suc d → tree_blocks (suc d) ++ pages_upward x (length ups) ≡ tree_blocks x.blocks) → tree_blocks c ++ pages_upward x (length ups) ≡ tree_blocks x.blocks
      later ups up zero is f = absurd (omega arith)
      later ups up (suc d) is f = f d refl

  narrower_at : (ups : List (List (Sheet S E))) (sheets : List (Sheet S E)) (m b n : ℕ) → Tower o k x ups sheets m b → n < length ups → length (level_rows x n) < length (level_rows x (n + 1))
  narrower_at [] sheets m b n t lt = absurd (omega arith)
  narrower_at (up ∷ ups) sheets m b n t lt = elim (at_or n (length ups) lt) [
    | inl e ↦
        let here : length (level_rows x (suc (length ups))) ≡ length sheets = width (up ∷ ups) sheets m b t in
        let above : length (level_rows x (length ups)) ≡ length up = width ups up (suc m) (block_after sheets b) t.2 in
        let less : length up < length sheets = t.3 in
        let both : length (level_rows x (length ups)) < length (level_rows x (suc (length ups))) = omega arith in
        subst (λ w. length (level_rows x w) < length (level_rows x (w + 1))) (sym e) (subst (λ w. length (level_rows x (length ups)) < length (level_rows x w)) (sym (add-one (length ups))) both)
    | inr l ↦ narrower_at ups up (suc m) (block_after sheets b) n t.2 l
  ]
    where
      at_or : (p q : ℕ) → p < suc q → (p ≡ q) ⊎ (p < q)
      at_or p q l = grind arith

  only_one : (r : Row S) (j b : ℕ) → slice_get (row b Linked None ∷ []) (j + 1) ≡ Some r → ⊥
  only_one r j b h = let e : slice_get (row b Linked None ∷ []) (suc j) ≡ Some r = subst (λ w. slice_get (row b Linked None ∷ []) w ≡ Some r) (add-one j) h in absurd cc

  first_one : (r : Row S) (b : ℕ) → slice_get (row b Linked None ∷ []) 0 ≡ Some r → row_page r ≡ b
  first_one r b h = let e : row b Linked None ≡ r = cc in subst (λ z. row_page z ≡ b) e refl

  module _ (fastroot : x.fastroot ≡ x.root) (fastlevel : x.fastlevel ≡ x.level) (ups : List (List (Sheet S E))) (sheets : List (Sheet S E)) (tower : Tower o k x ups sheets 0 1) (high : 0 + length ups ≡ x.level) where
    at_level : (P : ℕ → Type 0) → ((y : Storey) → P (length y.ups)) → (n : ℕ) → n ≤ x.level → P n
    at_level P f n le = let y = storey_at ups sheets 0 1 n tower high (omega arith) in subst P y.1 (f y.0)

    page_rules : (b : ℕ) → IsInUse x b → IsSoundPage o x b
    page_rules b used =
        let ne = used.not_meta in
        let y = storey_of ups sheets 0 1 b tower high (omega arith) used.inside in
        let l = level_of y.0 in
        Each-in (IsSoundPage o x) b (blocks_of (y.0.first ∷ y.0.more) y.0.b) (pages_sound o k x (y.0.first ∷ y.0.more) y.0.m 0 y.0.b l.1 l.2 (λ ne. absurd (ne refl))) y.1

    reach : (b : ℕ) → IsInUse x b → (n : ℕ) × (n ≤ x.level) × Contains (chain_of x (entry_page (downlinks x n))) b
    reach b used =
        let ne = used.not_meta in
        let y = storey_of ups sheets 0 1 b tower high (omega arith) used.inside in
        let l = level_of y.0 in
        let top = y.0.high in
        let chain : chain_of x (entry_page (downlinks x (length y.0.ups))) ≡ blocks_of (y.0.first ∷ y.0.more) y.0.b = ap (λ w. chain_of x (entry_page w)) (downs y.0) ∙ chain_is x y.0.first y.0.more y.0.m y.0.b l.1 in
        (length y.0.ups, omega arith, subst (λ w. Contains w b) (sym chain) (Contains-from_In (blocks_of (y.0.first ∷ y.0.more) y.0.b) b y.1))

    pub tower_searchable : IsSearchable o x
    tower_searchable =
        let top = top_is ups sheets 0 1 tower in
        let level : x.level - x.fastlevel ≡ 0 = omega arith in
        let rows : level_rows x (x.level - x.fastlevel) ≡ row x.root Linked None ∷ [] = ap (level_rows x) level ∙ top.2 in
        record {
          root_or_empty = (λ z. fastroot ∙ z, λ z. sym fastroot ∙ z);
          pages = page_rules;
          root = λ ne. (top.0, top.1);
          fast = λ ne. (subst (IsInUse x) (sym fastroot) top.0, ap (λ z. (x.page z).level) fastroot ∙ (top.1 ∙ sym fastlevel));
          fast_below = λ ne. omega arith;
          levels = λ ne. at_level (IsSoundLevel o x) sound_at;
          fast_first = λ ne. subst (λ w. IfFirst w (λ r. row_page r ≡ x.fastroot)) (sym rows) (λ r h. first_one r x.root h ∙ sym fastroot);
          fast_alone = λ ne j r h. absurd (only_one r j x.root (subst (λ w. slice_get w (j + 1) ≡ Some r) rows h));
          reached = λ b used. let r = reach b used in (top.0.not_meta, r.0, r.1, r.2);
        }

    only_leaves : (b : ℕ) → IsInUse x b → (x.page b).leaf ≡ false → (x.page b).entries ≡ []
    only_leaves b used =
        let ne = used.not_meta in
        let y = storey_of ups sheets 0 1 b tower high (omega arith) used.inside in
        let l = level_of y.0 in
        Each-in (λ c. (x.page c).leaf ≡ false → (x.page c).entries ≡ []) b (blocks_of (y.0.first ∷ y.0.more) y.0.b) (pages_bare o k x (y.0.first ∷ y.0.more) y.0.m 0 y.0.b l.1 l.2) y.1

    pub tower_sound : HasSoundPages o x
    tower_sound =
        let inside : x.root < x.blocks = (top_is ups sheets 0 1 tower).0.inside in
        record {
          root_inside = inside;
          fast_inside = subst (λ z. z < x.blocks) (sym fastroot) inside;
          root_or_empty = (λ z. fastroot ∙ z, λ z. sym fastroot ∙ z);
          pages = page_rules;
          no_entries = only_leaves;
        }

    pub tower_fresh : IsFresh o k x
    tower_fresh = let high' : length ups ≡ x.level = omega arith in record {
      untouched = λ b ne lt.
          let y = storey_of ups sheets 0 1 b tower high (omega arith) lt in
          let l = level_of y.0 in
          Each-in (IsWhole x) b (blocks_of (y.0.first ∷ y.0.more) y.0.b) (each_block x (IsWhole x) (y.0.first ∷ y.0.more) y.0.m 0 y.0.b l.1 (λ s rest prev b at. record { used = ap (λ p. p.idle) at.page; alive = ap (λ p. p.half_dead) at.page; unsplit = ap (λ p. p.incomplete_split) at.page })) y.1;
      all_linked = λ ne. at_level (λ n. All (λ r. row_role r ≡ Linked) (level_rows x n)) linked_at;
      climb = λ ne. at_level (λ n. All (λ r. (x.page (row_page r)).leaf ≡ false → ItemsClimb o k (x.page (row_page r)).children (row_lower r) (x.page (row_page r)).high_key) (level_rows x n)) climbs_at;
      in_order = λ ne. subst (λ n. pages_upward x n ≡ tree_blocks x.blocks) high' (upward_is ups sheets 0 0 tower);
      alone = λ ne. ap (λ w. length w) (top_is ups sheets 0 1 tower).2;
      narrower = λ ne n lt. narrower_at ups sheets 0 1 n tower (omega arith);
      fast_is_root = (fastroot, fastlevel);
    }

  -- what the blocks give
  given : List ℕ → List E
  given bs = flat_map (λ b. leaf_entries (x.page b)) bs

  leaves_give : (leaves : List (List E)) (lower : Option S) (prev b : ℕ) → Laid x (leaf_sheets k leaves lower) 0 prev b → flat_map (λ b. leaf_entries (x.page b)) (blocks_of (leaf_sheets k leaves lower) b) ≡ joined leaves
  leaves_give [] lower prev b laid = refl
  leaves_give (es ∷ leaves) lower prev b laid =
      ap (λ p. leaf_entries p ++ flat_map (λ b. leaf_entries (x.page b)) (blocks_of (leaf_sheets k leaves (gap k es leaves)) (suc b))) laid.0.page
      ∙ ap (λ w. es ++ w) (leaves_give leaves (gap k es leaves) b (suc b) laid.1)

  internal_give : (sheets : List (Sheet S E)) (m prev b : ℕ) → Laid x sheets (suc m) prev b → flat_map (λ b. leaf_entries (x.page b)) (blocks_of sheets b) ≡ []
  internal_give [] m prev b laid = refl
  internal_give (s ∷ sheets) m prev b laid =
      ap (λ p. leaf_entries p ++ flat_map (λ b. leaf_entries (x.page b)) (blocks_of sheets (suc b))) laid.0.page ∙ internal_give sheets m b (suc b) laid.1

  -- one level more
  level_adds : (sheets : List (Sheet S E)) (b : ℕ) → b ≢ 0 → flat_map (λ b. leaf_entries (x.page b)) (tree_blocks (block_after sheets b)) ≡ flat_map (λ b. leaf_entries (x.page b)) (tree_blocks b) ++ flat_map (λ b. leaf_entries (x.page b)) (blocks_of sheets b)
  level_adds sheets zero ne = absurd (ne refl)
  level_adds sheets (suc a) ne = ap (flat_map (λ b. leaf_entries (x.page b))) (blocks_to sheets a) ∙ flat_map-append (λ b. leaf_entries (x.page b)) (tree_blocks (suc a)) (blocks_of sheets (suc a))

  rest_gives : (ups : List (List (Sheet S E))) (sheets : List (Sheet S E)) (m b : ℕ) (es : List E) → Tower o k x ups sheets m b → b ≢ 0 → flat_map (λ b. leaf_entries (x.page b)) (tree_blocks (block_after sheets b)) ≡ es → entries_of x ≡ es
  rest_gives [] [] m b es t ne h = absurd t.0.0
  rest_gives [] (s ∷ u ∷ sheets) m b es t ne h = absurd (let h = t.1 in cc)
  rest_gives [] (s ∷ []) m b es t ne h = ap (λ n. flat_map (λ b. leaf_entries (x.page b)) (tree_blocks n)) (sym t.3) ∙ h
  rest_gives (up ∷ ups) sheets m b es t ne h =
      let c : ℕ = block_after sheets b in
      let after : block_after sheets b ≡ b + length sheets = block_after_is sheets b in
      let ne' : c ≢ 0 = λ z. ne (omega arith) in
      let none = internal_give up m 0 c (lowest o k x ups up (suc m) c t.2).1 in
      rest_gives ups up (suc m) c es t.2 ne' (level_adds up c ne' ∙ (ap (λ w. flat_map (λ b. leaf_entries (x.page b)) (tree_blocks c) ++ w) none ∙ (append-nil (flat_map (λ b. leaf_entries (x.page b)) (tree_blocks c)) ∙ h)))

  pub tower_entries : (ups : List (List (Sheet S E))) (leaves : List (List E)) → Tower o k x ups (leaf_sheets k leaves None) 0 1 → entries_of x ≡ joined leaves
  tower_entries ups leaves t =
      rest_gives ups (leaf_sheets k leaves None) 0 1 (joined leaves) t (λ z. absurd (omega arith)) (level_adds (leaf_sheets k leaves None) 1 (λ z. absurd (omega arith)) ∙ leaves_give leaves None 0 1 (lowest o k x ups (leaf_sheets k leaves None) 0 1 t).1)

module _ {S E : Type 0} (o : Order S E) (k : Splitter S E) (cut : List (Downlink S) → List (List (Downlink S))) where
  some_level : (s : Sheet S E) (sheets : List (Sheet S E)) (n b : ℕ) → 0 < length (levels_from k cut (suc n) (s ∷ sheets) b)
  some_level s [] n b = omega arith
  some_level s (t ∷ sheets) n b = omega arith

  rises : (leaves : List (List E)) (es : List E) → IsGiven o k cut leaves es → Rising o (joined leaves)
  rises leaves es g = subst (Rising o) (sym g.leaves_cut.whole) (rising_from_adjacent o g.order.entries es g.rising)

  filled : (leaves : List (List E)) (es : List E) → IsGiven o k cut leaves es → Each (λ es. es ≢ []) leaves
  filled leaves es g = recursion_from_All (λ es. es ≢ []) leaves g.leaves_cut.filled

  module _ (x : Index S E) where
    record Raised (leaves : List (List E)) : Type 0 where
      ups : List (List (Sheet S E))
      tower : Tower o k x ups (leaf_sheets k leaves None) 0 1
      high : 0 + length ups ≡ x.level
      fastroot : x.fastroot ≡ x.root
      fastlevel : x.fastlevel ≡ x.level

    raised : (d : E) (ds : List E) (leaves : List (List E)) (es : List E) → IsGiven o k cut ((d ∷ ds) ∷ leaves) es → IsLaidAs x (built k cut ((d ∷ ds) ∷ leaves)) → Raised ((d ∷ ds) ∷ leaves)
    raised d ds leaves es g same =
        let all : List (List E) = (d ∷ ds) ∷ leaves in
        let sheets : List (Sheet S E) = leaf_sheets k all None in
        let levels : List (List (Sheet S E)) = built_levels k cut all in
        let some : 0 < length levels = some_level (record { lower = None; children = []; entries = d ∷ ds }) (leaf_sheets k leaves (gap k (d ∷ ds) leaves)) (length (leaf_sheets k leaves (gap k (d ∷ ds) leaves))) 1 in
        let pages : List (Page S E) = no_page ∷ lay_levels levels 0 1 in
        let content : Content o k x 0 sheets = leaf_content o g.order k g.splits x all None (filled all es g) (rises all es g) tt in
        let keys = leaf_keys o k es all None (filled all es g) (rises all es g) (λ e i. subst (In e) g.leaves_cut.whole i) (λ s h. absurd cc) in
        let Q : Option S → Type 0 = λ t. (s : S) → t ≡ Some s → IsBetween o k es s in
        let level : x.level ≡ length levels - 1 = same.level in
        let st = stands o g.order k cut Q g.cuts x pages same.page same.blocks (ap suc same.root) (length sheets) sheets 0 1 (no_page ∷ []) (omega arith) refl keys content refl refl (λ z. absurd (omega arith)) (omega arith) in
        let count : length levels ≡ suc (length st.ups) = ap (λ w. length w) st.levels in
        record { ups = st.ups; tower = st.tower; high = omega arith; fastroot = same.fastroot ∙ sym same.root; fastlevel = same.fastlevel ∙ sym same.level }

    -- there is no tree page
    none_used : IsLaidAs x (built k cut []) → (b : ℕ) → IsInUse x b → ⊥
    none_used same b used = let ne = used.not_meta in let lt = used.inside in let one : x.blocks ≡ 1 = same.blocks in absurd (omega arith)

    empty_searchable : IsLaidAs x (built k cut []) → IsSearchable o x
    empty_searchable same = record {
      root_or_empty = (λ z. same.fastroot, λ z. same.root);
      pages = λ b used. absurd (none_used same b used);
      root = λ ne. absurd (ne same.root);
      fast = λ ne. absurd (ne same.root);
      fast_below = λ ne. absurd (ne same.root);
      levels = λ ne. absurd (ne same.root);
      fast_first = λ ne. absurd (ne same.root);
      fast_alone = λ ne. absurd (ne same.root);
      reached = λ b used. absurd (none_used same b used);
    }

    pub searchable : (leaves : List (List E)) (es : List E) → IsGiven o k cut leaves es → IsLaidAs x (built k cut leaves) → IsSearchable o x
    searchable [] es g same = empty_searchable same
    searchable ([] ∷ leaves) es g same = absurd ((filled ([] ∷ leaves) es g).0 refl)
    searchable ((d ∷ ds) ∷ leaves) es g same =
        let r = raised d ds leaves es g same in
        tower_searchable o k x r.fastroot r.fastlevel r.ups (leaf_sheets k ((d ∷ ds) ∷ leaves) None) r.tower r.high

    pub sound_pages : (leaves : List (List E)) (es : List E) → IsGiven o k cut leaves es → IsLaidAs x (built k cut leaves) → HasSoundPages o x
    sound_pages [] es g same = record {
      root_inside = let one : x.blocks ≡ 1 = same.blocks in let none : x.root ≡ 0 = same.root in omega arith;
      fast_inside = let one : x.blocks ≡ 1 = same.blocks in let none : x.fastroot ≡ 0 = same.fastroot in omega arith;
      root_or_empty = (λ z. same.fastroot, λ z. same.root);
      pages = λ b used. absurd (none_used same b used);
      no_entries = λ b used. absurd (none_used same b used);
    }
    sound_pages ([] ∷ leaves) es g same = absurd ((filled ([] ∷ leaves) es g).0 refl)
    sound_pages ((d ∷ ds) ∷ leaves) es g same =
        let r = raised d ds leaves es g same in
        tower_sound o k x r.fastroot r.fastlevel r.ups (leaf_sheets k ((d ∷ ds) ∷ leaves) None) r.tower r.high

    pub fresh : (leaves : List (List E)) (es : List E) → IsGiven o k cut leaves es → IsLaidAs x (built k cut leaves) → IsFresh o k x
    fresh [] es g same = record {
      untouched = λ b ne lt. let one : x.blocks ≡ 1 = same.blocks in absurd (omega arith);
      all_linked = λ ne. absurd (ne same.root);
      climb = λ ne. absurd (ne same.root);
      in_order = λ ne. absurd (ne same.root);
      alone = λ ne. absurd (ne same.root);
      narrower = λ ne. absurd (ne same.root);
      fast_is_root = (same.fastroot ∙ sym same.root, same.fastlevel ∙ sym same.level);
    }
    fresh ([] ∷ leaves) es g same = absurd ((filled ([] ∷ leaves) es g).0 refl)
    fresh ((d ∷ ds) ∷ leaves) es g same =
        let r = raised d ds leaves es g same in
        tower_fresh o k x r.fastroot r.fastlevel r.ups (leaf_sheets k ((d ∷ ds) ∷ leaves) None) r.tower r.high

    pub entries : (leaves : List (List E)) (es : List E) → IsGiven o k cut leaves es → IsLaidAs x (built k cut leaves) → entries_of x ≡ es
    entries [] es g same = ap (λ n. flat_map (λ b. leaf_entries (x.page b)) (tree_blocks n)) same.blocks ∙ g.leaves_cut.whole
    entries ([] ∷ leaves) es g same = absurd ((filled ([] ∷ leaves) es g).0 refl)
    entries ((d ∷ ds) ∷ leaves) es g same =
        let r = raised d ds leaves es g same in
        tower_entries o k x r.ups ((d ∷ ds) ∷ leaves) r.tower ∙ g.leaves_cut.whole

    pub finds_among : (leaves : List (List E)) (es : List E) → IsGiven o k cut leaves es → IsLaidAs x (built k cut leaves) → FindsAmong o x es
    finds_among leaves es g same killed scan fits =
        let laws = g.order.entries in
        let W = is_wanted killed scan in
        let gathered : entries_of x ≡ es = entries leaves es g same in
        let wanted : IsWanted o killed x scan (filter W es) =
        record {
          all_of_them = subst (λ z. IsPermutation (filter W es) (filter W z)) (sym gathered) (IsPermutation-refl (filter W es));
          rising = adjacent_from_rising o (filter W es) (Rising-filter o W es (rising_from_adjacent o laws es g.rising));
        } in
        finds_only o laws x (searchable leaves es g same) killed scan fits (filter W es) wanted

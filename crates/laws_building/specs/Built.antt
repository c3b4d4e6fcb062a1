-- A tree that is built from the leaves upward.
use Rattle.std.specs.Prelude.{◌≡◌, ◌≢◌, ◌<◌, ◌-◌, ℕ, zero, suc, Bool, true, false, cond, List, [], ◌∷◌, ◌++◌}
use Rattle.std.specs.Prelude.{Option, Some, None, length, map, unwrap_or}
use Rattle.laws_search.specs.Tree.{Page, Index}
use Rattle.laws_search.specs.Levels.{Downlink, is_single}
use Rattle.laws_search.specs.Search.{last_or}

-- How the separators are made.
pub record Splitter (S E : Type 0) : Type 0 where
  -- between two neighbouring leaves, from the last entry of the left one and the first of the right one
  pub split_key : E → E → S
  -- what stands above the first child of a page
  pub nothing : S

-- What a page of a level has: the separator above it, None for minus infinity, and its data items.
pub record Sheet (S E : Type 0) : Type 0 where
  pub lower : Option S
  pub children : List (S × ℕ)
  pub entries : List E

-- the separator above the first page of the rest of a level. It is the high key of the page before
abbrev pub first_lower : {S E : Type 0} → List (Sheet S E) → Option S
first_lower [] = None
first_lower (s ∷ sheets) = s.lower

-- the separator between a leaf and the leaves after it
abbrev pub gap : {S E : Type 0} → Splitter S E → List E → List (List E) → Option S
gap k [] rest = None
gap k (d ∷ ds) [] = None
gap k (d ∷ ds) ([] ∷ rest) = None
gap k (d ∷ ds) ((e ∷ es) ∷ rest) = Some (k.split_key (last_or d ds) e)

-- the leaves, with the separators between them
abbrev pub leaf_sheets : {S E : Type 0} → Splitter S E → List (List E) → (lower : Option S) → List (Sheet S E)
leaf_sheets k [] lower = []
leaf_sheets k (es ∷ leaves) lower =
    record { lower = lower; children = []; entries = es } ∷ leaf_sheets k leaves (gap k es leaves)

-- the pages of a level as the items of the level above. b is the block of the first
abbrev pub items_of : {S E : Type 0} → (sheets : List (Sheet S E)) → (b : ℕ) → List (Downlink S)
items_of [] b = []
items_of (s ∷ sheets) b = (s.lower, b) ∷ items_of sheets (suc b)

-- the block after the last page of a level
abbrev pub block_after : {S E : Type 0} → (sheets : List (Sheet S E)) → (b : ℕ) → ℕ
block_after [] b = b
block_after (s ∷ sheets) b = block_after sheets (suc b)

-- How the items of a level are cut into the pages of the level above.
abbrev pub Cutting : Type 0 → Type 0
Cutting S = List (Downlink S) → List (List (Downlink S))

-- An internal page of these items. Above it stands the separator above its first child, and its first item keeps
-- nothing
abbrev pub internal_sheet : {S E : Type 0} → Splitter S E → List (Downlink S) → Sheet S E
internal_sheet k [] = record { lower = None; children = []; entries = [] }
internal_sheet k (d ∷ ds) =
    record {
      lower = d.0;
      children = (k.nothing, d.1) ∷ map (λ c. (unwrap_or c.0 k.nothing, c.1)) ds;
      entries = [];
    }

-- Levels are added until one page is left. b is the first block of the lowest of them. There are at most n
abbrev pub levels_from : {S E : Type 0}
    → Splitter S E → Cutting S → (n : ℕ) → (sheets : List (Sheet S E)) → (b : ℕ) → List (List (Sheet S E))
levels_from k cut zero sheets b = []
levels_from k cut (suc n) sheets b =
    cond (is_single sheets) (sheets ∷ [])
    (sheets ∷ levels_from k cut n (map (internal_sheet k) (cut (items_of sheets b))) (block_after sheets b))

-- a leaf stands on level 0
abbrev pub is_bottom : ℕ → Bool
is_bottom zero = true
is_bottom (suc m) = false

-- the right sibling of block b, where these pages are left
abbrev pub next_block : {S E : Type 0} → List (Sheet S E) → ℕ → ℕ
next_block [] b = 0
next_block (s ∷ sheets) b = suc b

-- The pages of a level from left to right, from block b on.
abbrev pub page_of : {S E : Type 0} → Sheet S E → List (Sheet S E) → (level prev b : ℕ) → Page S E
page_of s rest level prev b =
    record {
      idle = false;
      leaf = is_bottom level;
      half_dead = false;
      incomplete_split = false;
      prev = prev;
      next = next_block rest b;
      level = level;
      high_key = first_lower rest;
      children = s.children;
      entries = s.entries;
    }

abbrev pub lay_level : {S E : Type 0} → (sheets : List (Sheet S E)) → (level prev b : ℕ) → List (Page S E)
lay_level [] level prev b = []
lay_level (s ∷ sheets) level prev b = page_of s sheets level prev b ∷ lay_level sheets level b (suc b)

-- the levels from the lowest upward
abbrev pub lay_levels : {S E : Type 0} → (levels : List (List (Sheet S E))) → (level b : ℕ) → List (Page S E)
lay_levels [] level b = []
lay_levels (sheets ∷ levels) level b =
    lay_level sheets level 0 b ++ lay_levels levels (suc level) (block_after sheets b)

-- a block that isn't a tree page
abbrev pub no_page : {S E : Type 0} → Page S E
no_page =
    record {
      idle = true;
      leaf = false;
      half_dead = false;
      incomplete_split = false;
      prev = 0;
      next = 0;
      level = 0;
      high_key = None;
      children = [];
      entries = [];
    }

-- the page of a block
abbrev pub page_at : {S E : Type 0} → List (Page S E) → ℕ → Page S E
page_at [] b = no_page
page_at (p ∷ ps) zero = p
page_at (p ∷ ps) (suc b) = page_at ps b

-- the levels of the tree over these leaves, which begin at block 1
abbrev pub built_levels : {S E : Type 0} → Splitter S E → Cutting S → List (List E) → List (List (Sheet S E))
built_levels k cut leaves = let sheets = leaf_sheets k leaves None in levels_from k cut (length sheets) sheets 1

-- Blocks are the metapage, the leaves from left to right, then each level upward. The last is the root, which is the
-- fast root
abbrev pub built : {S E : Type 0} → Splitter S E → Cutting S → List (List E) → Index S E
built k cut leaves =
    let levels = built_levels k cut leaves in
    let pages = lay_levels levels 0 1 in
    record {
      blocks = suc (length pages);
      page = page_at (no_page ∷ pages);
      root = length pages;
      level = length levels - 1;
      fastroot = length pages;
      fastlevel = length levels - 1;
    }

-- Above this level, whose first block is b, stand these: each is made of the pages of the one below, until one page is
-- left
abbrev pub AreLevels : {S E : Type 0} → Splitter S E → Cutting S → (ups : List (List (Sheet S E)))
    → (sheets : List (Sheet S E)) → (b : ℕ) → Type 0
AreLevels k cut [] sheets b = is_single sheets ≡ true
AreLevels k cut (up ∷ ups) sheets b =
    (is_single sheets ≡ false) × (up ≡ map (internal_sheet k) (cut (items_of sheets b)))
    × AreLevels k cut ups up (block_after sheets b)

-- the index is laid out as the other: it has its metapage's words and its tree pages
pub record IsLaidAs {S E : Type 0} (x y : Index S E) : Type 0 where
  pub blocks : x.blocks ≡ y.blocks
  pub root : x.root ≡ y.root
  pub level : x.level ≡ y.level
  pub fastroot : x.fastroot ≡ y.fastroot
  pub fastlevel : x.fastlevel ≡ y.fastlevel
  pub page : (b : ℕ) → b ≢ 0 → b < x.blocks → x.page b ≡ y.page b

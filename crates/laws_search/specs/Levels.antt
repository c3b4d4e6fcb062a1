-- The levels of a tree, from the root down: who is linked, who is live, and where its keys begin.
use Rattle.std.specs.Prelude.{◌==◌, ℕ, zero, suc, Bool, true, false, not, ◌&&◌, cond, List, [], ◌∷◌, Option, Some}
use Rattle.std.specs.Prelude.{None, map}
use Rattle.std.specs.List.{flat_map, list_any}
use Rattle.laws_search.specs.Tree.{Page, Index, chain_of}

pub data Role : Type 0 where
  Dead : Role
  Linked : Role
  Right_half : Role
  Neither : Role

abbrev pub is_live : Role → Bool
is_live Dead = false
is_live Linked = true
is_live Right_half = true
is_live Neither = false

-- a page of a chain: its role and its lower bound, None for minus infinity
pub data Row (S : Type 0) : Type 0 where
  row : (page : ℕ) (role : Role) (lower : Option S) → Row S

abbrev pub row_page : {S : Type 0} → Row S → ℕ
row_page (row p r l) = p

abbrev pub row_role : {S : Type 0} → Row S → Role
row_role (row p r l) = r

abbrev pub row_lower : {S : Type 0} → Row S → Option S
row_lower (row p r l) = l

-- a downlink with its separator, None for minus infinity
abbrev pub Downlink : Type 0 → Type 0
Downlink S = Option S × ℕ

-- the list has exactly one member
abbrev pub is_single : {X : Type 0} → List X → Bool
is_single [] = false
is_single (x ∷ []) = true
is_single (x ∷ y ∷ xs) = false

-- the first line that applies. `linked` says whether the downlinks name the page, and
-- `split` whether the page left of it is live with an incomplete split
abbrev pub role_of : {S E : Type 0} → Page S E → (linked split : Bool) → Role
role_of p linked split =
    cond (p.leaf && p.half_dead) Dead
    (cond linked Linked
    (cond split Right_half
    (cond (not p.leaf && (not (p.next == 0) && is_single p.children)) Dead Neither)))

-- the high key of the last live page so far
abbrev pub lower_after : {S E : Type 0} → Page S E → Role → Option S → Option S
lower_after p r lower = cond (is_live r) p.high_key lower

-- the rows of a chain, from left to right
abbrev pub rows : {S E : Type 0} → Index S E → (ℕ → Bool) → Bool → Option S → List ℕ → List (Row S)
rows x linked split lower [] = []
rows x linked split lower (b ∷ bs) =
    let r = role_of (x.page b) (linked b) split in
    row b r lower ∷ rows x linked (is_live r && (x.page b).incomplete_split) (lower_after (x.page b) r lower) bs

-- one of the downlinks leads to this page
abbrev pub lead_to : {S : Type 0} → List (Downlink S) → ℕ → Bool
lead_to ds b = list_any (λ d. d.1 == b) ds

-- the first page that the downlinks lead to
abbrev pub entry_page : {S : Type 0} → List (Downlink S) → ℕ
entry_page [] = 0
entry_page (d ∷ ds) = d.1

-- the level below these downlinks
abbrev pub level_below : {S E : Type 0} → Index S E → List (Downlink S) → List (Row S)
level_below x ds = rows x (lead_to ds) false None (chain_of x (entry_page ds))

-- the downlinks of a page. The separator of the first is the page's lower bound
abbrev pub page_downlinks : {S : Type 0} → Option S → List (S × ℕ) → List (Downlink S)
page_downlinks lower [] = []
page_downlinks lower (d ∷ ds) = (lower, d.1) ∷ map (λ c. (Some c.0, c.1)) ds

-- the downlinks of a page of a chain, if it is live
abbrev pub row_downlinks : {S E : Type 0} → Index S E → Row S → List (Downlink S)
row_downlinks x (row b r lower) = cond (is_live r) (page_downlinks lower (x.page b).children) []

-- the downlinks that name the pages n levels below the top: the root alone, or those of the live pages one level up
abbrev pub downlinks : {S E : Type 0} → Index S E → ℕ → List (Downlink S)
downlinks x zero = (None, x.root) ∷ []
downlinks x (suc n) = flat_map (row_downlinks x) (level_below x (downlinks x n))

-- the pages n levels below the top, from left to right
abbrev pub level_rows : {S E : Type 0} → Index S E → ℕ → List (Row S)
level_rows x n = level_below x (downlinks x n)

-- The storage of the items of a heap page: the bytes to which their line pointers point.
use Rattle.std.specs.Prelude.{◌≡◌, ℕ, zero, suc, ◌+◌, ◌-◌, ◌*◌, ◌≤◌, ◌<◌, Bool, true, false, not, ◌&&◌, ◌||◌, nat_le}
use Rattle.std.specs.Prelude.{nat_lt, max, List, length, get_or}
use Rattle.page_layout.specs.Items.{is_misplaced_heap_item, is_normal}
use Rattle.page_layout.specs.Page.{item_of, upper_of}
use Rattle.page_layout.specs.declared.page.LinePtr.{LinePtr}

-- a normal item that is where it may be, on a page with this upper place
abbrev pub has_storage : ℕ → LinePtr → Bool
has_storage upper p = is_normal p.flag && not (is_misplaced_heap_item upper p)

-- a byte of the page belongs to an item
abbrev pub Holds : LinePtr → ℕ → Type 0
Holds p byte = (p.off ≤ byte) × (byte < p.off + p.len)

-- H2: a normal item, and a byte of the page belongs to it and to a lower item, a normal one that is where it may be
pub record OverlapsLowerItem (page : List ℕ) (i : ℕ) : Type 0 where
  pub normal : is_normal (item_of page i).flag ≡ true
  pub other : ℕ
  pub first : 1 ≤ other
  pub lower : other < i
  pub placed : has_storage (upper_of page) (item_of page other) ≡ true
  pub byte : ℕ
  pub of_item : Holds (item_of page i) byte
  pub of_other : Holds (item_of page other) byte

-- The same as a test

-- two items have a byte in common: the later of their first bytes belongs to both
abbrev pub shares_byte : LinePtr → LinePtr → Bool
shares_byte p q = nat_lt (max p.off q.off) (p.off + p.len) && nat_lt (max p.off q.off) (q.off + q.len)

-- one of the items 1, .., n of the page, a normal one that is where it may be, has a byte in common with p
unfoldable pub meets_item_below : List ℕ → ℕ → LinePtr → Bool
meets_item_below page zero p = false
meets_item_below page (suc n) p =
    meets_item_below page n p
    || (has_storage (upper_of page) (item_of page (suc n)) && shares_byte (item_of page (suc n)) p)

-- a normal item has a byte in common with a lower one that is where it may be
unfoldable pub overlaps_lower_item : List ℕ → ℕ → Bool
overlaps_lower_item page i = is_normal (item_of page i).flag && meets_item_below page (i - 1) (item_of page i)

-- A page is 1024 cells of 8 bytes, and storage begins at the start of a cell.

-- the first byte of the cell belongs to the item
abbrev pub covers : LinePtr → ℕ → Bool
covers p cell = nat_le p.off (8 * cell) && nat_lt (8 * cell) (p.off + p.len)

-- one of the items 1, .., n of the page covers the cell
unfoldable pub is_covered : List ℕ → ℕ → ℕ → Bool
is_covered page zero cell = false
is_covered page (suc n) cell =
    is_covered page n cell || (has_storage (upper_of page) (item_of page (suc n)) && covers (item_of page (suc n)) cell)

-- the items 1, .., n of the page are marked: for each cell, whether one of them covers it
pub record AreMarked (page : List ℕ) (n : ℕ) (cells : List Bool) : Type 0 where
  pub long : length cells ≡ 1024
  pub right : (k : ℕ) → k < 1024 → get_or cells k false ≡ is_covered page n k

-- what is kept of the items that were added: the cells of those up to the number `marked`, a place below which no byte
-- of any lies, and where an item ends that begins there, 0 where nothing is known of one
pub record Marking : Type 0 where
  pub taken : List Bool
  pub marked : ℕ
  pub lowest : ℕ
  pub end : ℕ

-- one of the items 1, .., n of the page begins and ends at these places
pub record LiesBetween (page : List ℕ) (n lowest end : ℕ) : Type 0 where
  pub item : ℕ
  pub first : 1 ≤ item
  pub last : item ≤ n
  pub placed : has_storage (upper_of page) (item_of page item) ≡ true
  pub begins : (item_of page item).off ≡ lowest
  pub ends : (item_of page item).off + (item_of page item).len ≡ end

-- no byte of the items 1, .., n of the page lies below this place
abbrev pub AreAbove : List ℕ → ℕ → ℕ → Type 0
AreAbove page n place =
    (j : ℕ) → 1 ≤ j → j ≤ n → has_storage (upper_of page) (item_of page j) ≡ true → place ≤ (item_of page j).off

-- the items 1, .., n of the page are added
pub record AreCells (page : List ℕ) (n : ℕ) (cells : Marking) : Type 0 where
  pub some : cells.marked ≤ n
  pub right : AreMarked page cells.marked cells.taken
  pub above : AreAbove page n cells.lowest
  pub lies : 0 < cells.end → LiesBetween page n cells.lowest cells.end

-- no cell is taken
abbrev pub AreFree : List Bool → Type 0
AreFree cells = (k : ℕ) → get_or cells k false ≡ false

-- a cell from `first` to before `end` is taken
pub record IsTakenBetween (cells : List Bool) (first end : ℕ) : Type 0 where
  pub cell : ℕ
  pub after : first ≤ cell
  pub before : cell < end
  pub taken : get_or cells cell false ≡ true

-- which cells are taken afterwards
abbrev pub taken_with : List Bool → ℕ → ℕ → ℕ → Bool
taken_with cells first end k = get_or cells k false || (nat_le first k && nat_lt k end)

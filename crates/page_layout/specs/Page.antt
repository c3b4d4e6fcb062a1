-- A page is the list of its 8192 bytes: its header, its rules, and its line pointers.
use Rattle.std.specs.Prelude.{◌≡◌, ℕ, ◌+◌, ◌-◌, ◌*◌, ◌/◌, ◌%◌, ◌<◌, Bool, true, false, not, ◌==◌, ◌&&◌, ◌||◌, ◌⊎◌}
use Rattle.std.specs.Prelude.{nat_le, bit_and, if◌then◌else◌, List, drop, take, Option, Some, None}
use Rattle.std.specs.List.{list_any}
use Rattle.byteorder.specs.Endian.{little_number}
use Rattle.page_layout.specs.declared.rules.Rule.{Rule}
use Rattle.page_layout.specs.declared.rules.Rule.TheVariants.{P1, P2, P3, P4}
use Rattle.page_layout.specs.declared.page.PageKind.{PageKind}
use Rattle.page_layout.specs.declared.page.PageKind.TheVariants.{Heap, Map, Tree, Meta}
use Rattle.page_layout.specs.declared.page.LineFlag.{LineFlag}
use Rattle.page_layout.specs.declared.page.LineFlag.TheVariants.{Unused, Normal, Redirect, Dead}
use Rattle.page_layout.specs.declared.page.LinePtr.{LinePtr}
use Rattle.page_layout.specs.declared.page.PageHeader.{PageHeader}

-- the numbers in the two and in the four bytes at a place, the lowest byte first
unfoldable pub u16_at : List ℕ → ℕ → ℕ
u16_at bytes at = little_number 2 (drop at bytes)

unfoldable pub u32_at : List ℕ → ℕ → ℕ
u32_at bytes at = little_number 4 (drop at bytes)

-- the block number in the four bytes at a place: its high half before its low half
unfoldable pub block_at : List ℕ → ℕ → ℕ
block_at bytes at = u16_at bytes at * 65536 + u16_at bytes (at + 2)

-- rounded up to a multiple of 8
abbrev pub max_align : ℕ → ℕ
max_align len = (len + 7) / 8 * 8

-- a bit of a word is set; of several bits, one of them
unfoldable pub has_bit : ℕ → ℕ → Bool
has_bit word bit = not (bit_and word bit == 0)

-- the fields of the header
abbrev pub flags_of : List ℕ → ℕ
flags_of page = u16_at page 10

abbrev pub lower_of : List ℕ → ℕ
lower_of page = u16_at page 12

abbrev pub upper_of : List ℕ → ℕ
upper_of page = u16_at page 14

abbrev pub special_of : List ℕ → ℕ
special_of page = u16_at page 16

abbrev pub version_of : List ℕ → ℕ
version_of page = u16_at page 18

unfoldable pub header_of : List ℕ → PageHeader
header_of page = record {
  lsn_high = u32_at page 0;
  lsn_low = u32_at page 4;
  checksum = u16_at page 8;
  flags = flags_of page;
  lower = lower_of page;
  upper = upper_of page;
  special = special_of page;
  version = version_of page;
  prune_xid = u32_at page 20;
}

-- a page that was added to its file and never laid out
abbrev pub is_new : List ℕ → Bool
is_new page = upper_of page == 0

-- where the special space of such a page begins
abbrev pub special_for : PageKind → ℕ
special_for Heap = 8192
special_for Map = 8192
special_for Tree = 8176
special_for Meta = 8176

-- the kinds of page that have line pointers
abbrev pub has_items : PageKind → Bool
has_items Heap = true
has_items Map = false
has_items Tree = true
has_items Meta = false

-- the places of the header are in order, the special space is where it should be, and line pointers are whole
abbrev pub has_good_places : PageKind → List ℕ → Bool
has_good_places kind page =
    nat_le 24 (lower_of page) && nat_le (lower_of page) (upper_of page) && nat_le (upper_of page) (special_of page)
    && (special_of page == special_for kind) && (not (has_items kind) || ((lower_of page - 24) % 4 == 0))

-- a byte isn't 0
abbrev pub is_written : List ℕ → Bool
is_written bytes = list_any (λ b. not (b == 0)) bytes

-- P1: it is laid out, and not for blocks of 8192 bytes in version 4 of the layout
abbrev pub has_other_version : List ℕ → Bool
has_other_version page = not (is_new page) && not (version_of page == 0x2004)

-- P2: it has a flag beyond the three that there are
abbrev pub has_unknown_page_flag : List ℕ → Bool
has_unknown_page_flag page = nat_le 8 (flags_of page)

-- P3: it is laid out, and the places in its header aren't those of a page of this kind
abbrev pub has_bad_places : PageKind → List ℕ → Bool
has_bad_places kind page = not (is_new page) && not (has_good_places kind page)

-- P4: it is new, and holds something
abbrev pub is_new_but_written : List ℕ → Bool
is_new_but_written page = is_new page && is_written page

-- this rule is one of P1 to P4, and a page of this kind breaks it
abbrev pub breaks_page_rule : PageKind → List ℕ → Rule → Bool
breaks_page_rule kind page P1 = has_other_version page
breaks_page_rule kind page P2 = has_unknown_page_flag page
breaks_page_rule kind page P3 = has_bad_places kind page
breaks_page_rule kind page P4 = is_new_but_written page
breaks_page_rule kind page _ = false

-- a page of this kind breaks none of P1 to P4
pub record KeepsPageRules (kind : PageKind) (page : List ℕ) : Type 0 where
  pub version : has_other_version page ≡ false
  pub flags : has_unknown_page_flag page ≡ false
  pub places : has_bad_places kind page ≡ false
  pub written : is_new_but_written page ≡ false

-- the first of P1 to P4 that a page of this kind breaks
unfoldable pub page_rule_of : PageKind → List ℕ → Option Rule
page_rule_of kind page =
    if has_other_version page then Some P1 else if has_unknown_page_flag page then Some P2
    else if has_bad_places kind page then Some P3 else if is_new_but_written page then Some P4 else None

-- how many line pointers there are
unfoldable pub count_of : List ℕ → ℕ
count_of page = if is_new page then 0 else (lower_of page - 24) / 4

abbrev pub flag_number : LineFlag → ℕ
flag_number Unused = 0
flag_number Normal = 1
flag_number Redirect = 2
flag_number Dead = 3

-- a page that breaks no page rule, of a kind with line pointers
abbrev pub HasItems : List ℕ → Type 0
HasItems page = (page_rule_of Heap page ≡ None) ⊎ (page_rule_of Tree page ≡ None)

-- p is the line pointer of this number
pub record IsPtr (number : ℕ) (p : LinePtr) : Type 0 where
  pub off : p.off < 32768
  pub len : p.len < 32768
  pub bits : p.off + 32768 * flag_number p.flag + 131072 * p.len ≡ number

-- the one such pointer
abbrev pub flag_of : ℕ → LineFlag
flag_of k = if k == 0 then Unused else if k == 1 then Normal else if k == 2 then Redirect else Dead

abbrev pub ptr_of : ℕ → LinePtr
ptr_of number = record { flag = flag_of (number / 32768 % 4); off = number % 32768; len = number / 131072 }

unfoldable pub item_of : List ℕ → ℕ → LinePtr
item_of page i = ptr_of (u32_at page (24 + 4 * (i - 1)))

-- p is line pointer i of the page, counted from 1
abbrev pub IsItem : List ℕ → ℕ → LinePtr → Type 0
IsItem page i p = IsPtr (u32_at page (24 + 4 * (i - 1))) p

-- the bytes of a page from a place on
abbrev pub piece_of : List ℕ → ℕ → ℕ → List ℕ
piece_of page off len = take len (drop off page)

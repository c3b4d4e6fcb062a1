-- What is laid is read again.
use Rattle.std.proofs.Common.{◌≡◌, ◌≢◌, ◌≤◌, ◌<◌, ◌+◌, ◌-◌, ◌*◌, ◌/◌, ◌%◌, ℕ, List, [], ◌∷◌, ◌++◌, length, take, drop, Bool, true, false, not, ◌&&◌, ◌||◌, ◌==◌, nat_le, Option, Some, None, cond, refl, ap, sym, ◌∙◌, arith, append_assoc}
use Rattle.std.proofs.Math.Seq.{drop-append_seam, drop-append-add, take-append_seam}
use Rattle.std.proofs.lemmas.Bool.{cond-false, ne_eqb}
use Rattle.std.proofs.lemmas.Bool.Decides.{nat_tests}
use Rattle.std.proofs.lemmas.List.{append-nil, length-append}
use Rattle.byteorder.specs.Endian.{little_number}
use Rattle.byteorder.specs.Numbers.{little_number-reads_back}
use Rattle.page_layout.specs.Page.{count_of, flag_of, header_of, item_of, page_rule_of, piece_of, ptr_of, u16_at, u32_at}
use Rattle.page_layout.specs.Writes.{header_bytes, u16_bytes, u32_bytes}
use Rattle.page_layout.proofs.Writing.{IsHeader, reads_header}
use Rattle.page_layout.specs.declared.rules.Rule.{Rule}
use Rattle.page_layout.specs.declared.rules.Rule.TheVariants.{P1, P2, P3, P4}
use Rattle.page_layout.specs.declared.page.PageHeader.{PageHeader}
use Rattle.page_layout.specs.declared.page.PageKind.TheVariants.{Heap, Tree, Meta}
use Rattle.page_layout.specs.declared.page.LineFlag.TheVariants.{Normal}
use Rattle.bt_meta.specs.declared.records.Meta.{Meta as Numbers}
use Rattle.bt_meta.specs.declared.records.Opaque.{Opaque}
use Rattle.bt_meta.specs.Pages.{meta_of, opaque_of}
use Rattle.page_write.specs.Fields.{IsMeta, IsOpaque}
use Rattle.page_write.specs.Pages.{FitsBelow, header_with, lower_for, meta_bytes, meta_page, meta_special, opaque_bytes, page_with, pointer_bytes, pointers_below, room_for, room_of, storage_of, storages, zeros}
use Rattle.page_write.proofs.Laying.{headed, length_header, length_headed, length_meta, length_opaque, length_pointers, length_storages, room-cons, room-none, right}
use Rattle.page_write.proofs.Zeros.{length_zeros, written}

-- Headers

-- a header before anything is the header
header_first : (h : PageHeader) (rest : List ℕ) → IsHeader h → header_of (header_bytes h ++ rest) ≡ h
header_first h rest is =
    let same : length (header_bytes h) ≡ length (zeros 24) = let a = length_header h in let b = length_zeros 24 in omega (arith, a, b) in
    ap header_of (sym (written [] (zeros 24) (header_bytes h) rest 0 refl same)) ∙ reads_header (zeros 24 ++ rest) h is

fields_fit : (lower upper special : ℕ) → lower < 65536 → upper < 65536 → special < 65536 → IsHeader (header_with lower upper special)
unfolding header_with
fields_fit lower upper special a b c = record {
  lsn_high = omega arith;
  lsn_low = omega arith;
  checksum = omega arith;
  flags = omega arith;
  lower = a;
  upper = b;
  special = c;
  version = omega arith;
  prune_xid = omega arith;
}

-- a page from its header on
from_header : (place : ℕ) (items : List (List ℕ)) (tail : List ℕ)
    → page_with place items tail
    ≡ header_bytes (header_with (lower_for items) (place - room_for items) place)
    ++ (pointers_below place items ++ (zeros (place - room_for items - lower_for items) ++ (storages items ++ tail)))
unfolding page_with
from_header place items tail =
    right (header_bytes (header_with (lower_for items) (place - room_for items) place)) (pointers_below place items)
    (zeros (place - room_for items - lower_for items)) (storages items) tail

pub reads_page_header : (place : ℕ) (items : List (List ℕ)) (tail : List ℕ) → place ≤ 8192 → FitsBelow place items
    → header_of (page_with place items tail) ≡ header_with (lower_for items) (place - room_for items) place
reads_page_header place items tail within fits =
    ap header_of (from_header place items tail)
    ∙ header_first (header_with (lower_for items) (place - room_for items) place) _
    (fields_fit (lower_for items) (place - room_for items) place (omega (arith, within, fits)) (omega (arith, within)) (omega (arith, within)))

pub length_page : (place : ℕ) (items : List (List ℕ)) (tail : List ℕ) → FitsBelow place items
    → length (page_with place items tail) ≡ place + length tail
unfolding page_with
length_page place items tail fits =
    let a = length-append (headed place items) tail in let b = length_headed place items fits in omega (arith, a, b)

-- Page rules

four : (a b c d : Bool) → a ≡ false → b ≡ false → c ≡ false → d ≡ false
    → ◌≡◌ {A = Option Rule} (cond a (Some P1) (cond b (Some P2) (cond c (Some P3) (cond d (Some P4) None)))) None
four a b c d e f g h = cond-false _ _ _ e ∙ cond-false _ _ _ f ∙ cond-false _ _ _ g ∙ cond-false _ _ _ h

-- the places of a header in numbers
good_version : (upper version : ℕ) → upper ≢ 0 → version ≡ 0x2004 → not (upper == 0) && not (version == 0x2004) ≡ false
good_version upper version some is = grind (arith, nat_tests)

good_places : (lower upper special kind : ℕ) → 24 ≤ lower → lower ≤ upper → upper ≤ special → special ≡ kind → (lower - 24) % 4 ≡ 0
    → not (upper == 0) && not (nat_le 24 lower && nat_le lower upper && nat_le upper special && (special == kind) && (false || ((lower - 24) % 4 == 0))) ≡ false
good_places lower upper special kind a b c d e = grind (arith, nat_tests)

new_but : (upper : ℕ) (b : Bool) → upper ≢ 0 → (upper == 0) && b ≡ false
new_but upper b some = ap (λ (z : Bool). z && b) (ne_eqb upper 0 some)

-- a page whose header is this one keeps the page rules, as a page of a table or of a tree
heap_rules_by : (page : List ℕ) (lower upper : ℕ) → header_of page ≡ header_with lower upper 8192
    → 24 ≤ lower → lower ≤ upper → upper ≤ 8192 → (lower - 24) % 4 ≡ 0 → page_rule_of Heap page ≡ None
unfolding page_rule_of header_of header_with
heap_rules_by page lower upper e a b c d =
    let version : u16_at page 18 ≡ 0x2004 = ap (λ (h : PageHeader). h.version) e in
    let flags : u16_at page 10 ≡ 0 = ap (λ (h : PageHeader). h.flags) e in
    let l : u16_at page 12 ≡ lower = ap (λ (h : PageHeader). h.lower) e in
    let u : u16_at page 14 ≡ upper = ap (λ (h : PageHeader). h.upper) e in
    let s : u16_at page 16 ≡ 8192 = ap (λ (h : PageHeader). h.special) e in
    let some : u16_at page 14 ≢ 0 = λ none. omega (arith, none, u, a, b) in
    let words : (u16_at page 12 - 24) % 4 ≡ 0 = ap (λ (n : ℕ). (n - 24) % 4) l ∙ d in
    four _ _ _ _ (good_version (u16_at page 14) (u16_at page 18) some version) (ap (λ (n : ℕ). nat_le 8 n) flags)
    (good_places (u16_at page 12) (u16_at page 14) (u16_at page 16) 8192 (omega (arith, l, a)) (omega (arith, l, u, b)) (omega (arith, u, s, c)) s words)
    (new_but (u16_at page 14) _ some)

tree_rules_by : (page : List ℕ) (lower upper : ℕ) → header_of page ≡ header_with lower upper 8176
    → 24 ≤ lower → lower ≤ upper → upper ≤ 8176 → (lower - 24) % 4 ≡ 0 → page_rule_of Tree page ≡ None
unfolding page_rule_of header_of header_with
tree_rules_by page lower upper e a b c d =
    let version : u16_at page 18 ≡ 0x2004 = ap (λ (h : PageHeader). h.version) e in
    let flags : u16_at page 10 ≡ 0 = ap (λ (h : PageHeader). h.flags) e in
    let l : u16_at page 12 ≡ lower = ap (λ (h : PageHeader). h.lower) e in
    let u : u16_at page 14 ≡ upper = ap (λ (h : PageHeader). h.upper) e in
    let s : u16_at page 16 ≡ 8176 = ap (λ (h : PageHeader). h.special) e in
    let some : u16_at page 14 ≢ 0 = λ none. omega (arith, none, u, a, b) in
    let words : (u16_at page 12 - 24) % 4 ≡ 0 = ap (λ (n : ℕ). (n - 24) % 4) l ∙ d in
    four _ _ _ _ (good_version (u16_at page 14) (u16_at page 18) some version) (ap (λ (n : ℕ). nat_le 8 n) flags)
    (good_places (u16_at page 12) (u16_at page 14) (u16_at page 16) 8176 (omega (arith, l, a)) (omega (arith, l, u, b)) (omega (arith, u, s, c)) s words)
    (new_but (u16_at page 14) _ some)

whole_words : (n : ℕ) → (24 + 4 * n - 24) % 4 ≡ 0
whole_words n = omega arith

pub heap_rules : (items : List (List ℕ)) → FitsBelow 8192 items → page_rule_of Heap (page_with 8192 items []) ≡ None
heap_rules items fits =
    heap_rules_by (page_with 8192 items []) (lower_for items) (8192 - room_for items) (reads_page_header 8192 items [] (omega arith) fits)
    (omega arith) (omega (arith, fits)) (omega arith) (whole_words (length items))

pub laws_levels : (items : List (List ℕ)) (tail : List ℕ) → FitsBelow 8176 items → page_rule_of Tree (page_with 8176 items tail) ≡ None
laws_levels items tail fits =
    tree_rules_by (page_with 8176 items tail) (lower_for items) (8176 - room_for items) (reads_page_header 8176 items tail (omega arith) fits)
    (omega arith) (omega (arith, fits)) (omega arith) (whole_words (length items))

-- Items

pub count_is : (place : ℕ) (items : List (List ℕ)) (tail : List ℕ) → place ≤ 8192 → FitsBelow place items
    → count_of (page_with place items tail) ≡ length items
unfolding count_of header_of header_with
count_is place items tail within fits =
    let page : List ℕ = page_with place items tail in
    let e = reads_page_header place items tail within fits in
    let l : u16_at page 12 ≡ lower_for items = ap (λ (h : PageHeader). h.lower) e in
    let u : u16_at page 14 ≡ place - room_for items = ap (λ (h : PageHeader). h.upper) e in
    cond-false _ _ _ (ne_eqb (u16_at page 14) 0 (λ none. omega (arith, none, u, fits)))
    ∙ ap (λ (n : ℕ). (n - 24) / 4) l ∙ omega arith

-- the line pointers of items before one, its own, and those of items after it
pointers_split : (place : ℕ) (items after : List (List ℕ)) (item : List ℕ)
    → pointers_below place (items ++ item ∷ after)
    ≡ pointers_below place items ++ (pointer_bytes (place - room_for items - room_of item) (length item)
    ++ pointers_below (place - room_for items - room_of item) after)
unfolding pointers_below
pointers_split place [] after item =
    let none = room-none in
    let off : place - room_of item ≡ place - room_for [] - room_of item = omega (arith, none) in
    ap (λ (n : ℕ). pointer_bytes n (length item) ++ pointers_below n after) off
pointers_split place (i ∷ items) after item =
    let cons = room-cons i items in
    let off : place - room_of i - room_for items - room_of item ≡ place - room_for (i ∷ items) - room_of item = omega (arith, cons) in
    let one : List ℕ = pointer_bytes (place - room_of i) (length i) in
    let more : List ℕ = pointers_below (place - room_of i) items in
    ap (λ (z : List ℕ). one ++ z) (pointers_split (place - room_of i) items after item)
    ∙ ap (λ (n : ℕ). one ++ (more ++ (pointer_bytes n (length item) ++ pointers_below n after))) off
    ∙ sym (append_assoc one more (pointer_bytes (place - room_for (i ∷ items) - room_of item) (length item)
    ++ pointers_below (place - room_for (i ∷ items) - room_of item) after))

storages_split : (items after : List (List ℕ)) (item : List ℕ)
    → storages (items ++ item ∷ after) ≡ storages after ++ (storage_of item ++ storages items)
unfolding storages
storages_split [] after item = ap (λ (z : List ℕ). storages after ++ z) (sym (append-nil (storage_of item)))
storages_split (i ∷ items) after item =
    ap (λ (z : List ℕ). z ++ storage_of i) (storages_split items after item)
    ∙ append_assoc (storages after) (storage_of item ++ storages items) (storage_of i)
    ∙ ap (λ (z : List ℕ). storages after ++ z) (append_assoc (storage_of item) (storages items) (storage_of i))

room_split : (items after : List (List ℕ)) (item : List ℕ) → room_for (items ++ item ∷ after) ≡ room_for items + room_of item + room_for after
room_split [] after item = let a = room-cons item after in let b = room-none in omega (arith, a, b)
room_split (i ∷ items) after item =
    let a = room-cons i (items ++ item ∷ after) in
    let b = room-cons i items in
    let c = room_split items after item in
    omega (arith, a, b, c)

-- what stands after bytes of this length
at_end : (front back : List ℕ) (at : ℕ) → at ≡ length front → drop at (front ++ back) ≡ back
at_end front back at e = ap (λ (n : ℕ). drop n (front ++ back)) e ∙ drop-append_seam front back

pointer_of : (n : ℕ) (off len : ℕ) → n ≡ off + 32768 + 131072 * len → off < 32768
    → ptr_of n ≡ record { flag = Normal; off = off; len = len }
pointer_of n off len e small =
    let f : n / 32768 % 4 ≡ 1 = omega (arith, e, small) in
    let o : n % 32768 ≡ off = omega (arith, e, small) in
    let l : n / 131072 ≡ len = omega (arith, e, small) in
    λ i. record { flag = (ap flag_of f) i; off = o i; len = l i }

pointer_number : (off len : ℕ) (rest : List ℕ) → off < 32768 → len < 8192 → little_number 4 (pointer_bytes off len ++ rest) ≡ off + 32768 + 131072 * len
unfolding pointer_bytes u32_bytes
pointer_number off len rest a b = little_number-reads_back 4 (off + 32768 + 131072 * len) rest (omega (arith, a, b))

regroup_pointers : (h p q r z s t : List ℕ) → h ++ (p ++ (q ++ r)) ++ z ++ s ++ t ≡ (h ++ p) ++ (q ++ (r ++ (z ++ (s ++ t))))
regroup_pointers h p q r z s t = simp append_assoc

-- the page up to a line pointer, and from it on
page_from : (place : ℕ) (items after : List (List ℕ)) (item tail : List ℕ)
    → page_with place (items ++ item ∷ after) tail
    ≡ (header_bytes (header_with (lower_for (items ++ item ∷ after)) (place - room_for (items ++ item ∷ after)) place) ++ pointers_below place items)
    ++ (pointer_bytes (place - room_for items - room_of item) (length item)
    ++ (pointers_below (place - room_for items - room_of item) after
    ++ (zeros (place - room_for (items ++ item ∷ after) - lower_for (items ++ item ∷ after)) ++ (storages (items ++ item ∷ after) ++ tail))))
unfolding page_with
page_from place items after item tail =
    let all : List (List ℕ) = items ++ item ∷ after in
    let head : List ℕ = header_bytes (header_with (lower_for all) (place - room_for all) place) in
    let off = place - room_for items - room_of item in
    ap (λ (z : List ℕ). head ++ z ++ zeros (place - room_for all - lower_for all) ++ storages all ++ tail) (pointers_split place items after item)
    ∙ regroup_pointers head (pointers_below place items) (pointer_bytes off (length item)) (pointers_below off after)
    (zeros (place - room_for all - lower_for all)) (storages all) tail

split_at : (f a i z s t : List ℕ) → f ++ (a ++ (i ++ z ++ s)) ++ t ≡ f ++ a ++ (i ++ (z ++ (s ++ t)))
split_at f a i z s t = simp append_assoc

pub item_is : (place : ℕ) (items after : List (List ℕ)) (item tail : List ℕ) → place ≤ 8192 → FitsBelow place (items ++ item ∷ after)
    → item_of (page_with place (items ++ item ∷ after) tail) (length items + 1)
    ≡ record { flag = Normal; off = place - room_for items - room_of item; len = length item }
unfolding item_of page_with u32_at
item_is place items after item tail within fits =
    let all : List (List ℕ) = items ++ item ∷ after in
    let off = place - room_for items - room_of item in
    let n = off + 32768 + 131072 * length item in
    let rest : List ℕ = pointers_below off after ++ (zeros (place - room_for all - lower_for all) ++ (storages all ++ tail)) in
    let head : List ℕ = header_bytes (header_with (lower_for all) (place - room_for all) place) in
    let front : List ℕ = head ++ pointers_below place items in
    let room = room_split items after item in
    let short : length item < 8192 = omega (arith, fits, room, within) in
    let page_is : page_with place all tail ≡ front ++ (pointer_bytes off (length item) ++ rest) = page_from place items after item tail in
    let long : length front ≡ 24 + 4 * length items =
    let a = length-append head (pointers_below place items) in
    let b = length_header (header_with (lower_for all) (place - room_for all) place) in
    let c = length_pointers place items in omega (arith, a, b, c) in
    let there : drop (24 + 4 * (length items + 1 - 1)) (page_with place all tail) ≡ pointer_bytes off (length item) ++ rest =
    ap (drop (24 + 4 * (length items + 1 - 1))) page_is ∙ at_end front (pointer_bytes off (length item) ++ rest) (24 + 4 * (length items + 1 - 1)) (omega (arith, long)) in
    pointer_of (little_number 4 (drop (24 + 4 * (length items + 1 - 1)) (page_with place all tail))) off (length item)
    (ap (little_number 4) there ∙ pointer_number off (length item) rest (omega (arith, within)) short) (omega (arith, within))

pub bytes_are : (place : ℕ) (items after : List (List ℕ)) (item tail : List ℕ) → place ≤ 8192 → FitsBelow place (items ++ item ∷ after)
    → piece_of (page_with place (items ++ item ∷ after) tail) (place - room_for items - room_of item) (length item) ≡ item
unfolding page_with storage_of
bytes_are place items after item tail within fits =
    let all : List (List ℕ) = items ++ item ∷ after in
    let off = place - room_for items - room_of item in
    let head : List ℕ = header_bytes (header_with (lower_for all) (place - room_for all) place) in
    let gap : List ℕ = zeros (place - room_for all - lower_for all) in
    let front : List ℕ = head ++ pointers_below place all ++ gap ++ storages after in
    let rest : List ℕ = zeros (room_of item - length item) ++ (storages items ++ tail) in
    let room = room_split items after item in
    let page_is : page_with place all tail ≡ front ++ (item ++ rest) =
    ap (λ (z : List ℕ). head ++ pointers_below place all ++ gap ++ z ++ tail) (storages_split items after item)
    ∙ split_at (head ++ pointers_below place all ++ gap) (storages after) item (zeros (room_of item - length item)) (storages items) tail in
    let long : length front ≡ off =
    let a = length-append head (pointers_below place all) in
    let b = length-append (head ++ pointers_below place all) gap in
    let c = length-append (head ++ pointers_below place all ++ gap) (storages after) in
    let d = length_header (header_with (lower_for all) (place - room_for all) place) in
    let e = length_pointers place all in
    let f = length_zeros (place - room_for all - lower_for all) in
    let g = length_storages after in omega (arith, a, b, c, d, e, f, g, room, fits) in
    ap (take (length item)) (ap (drop off) page_is ∙ at_end front (item ++ rest) off (sym long)) ∙ take-append_seam item rest

-- Special spaces and metapages

in_four : (a b c d : List ℕ) → a ++ b ++ c ++ d ≡ a ++ (b ++ (c ++ d))
in_four a b c d = simp append_assoc

good_meta : (lower upper special : ℕ) → lower ≡ 72 → upper ≡ 8176 → special ≡ 8176
    → not (upper == 0) && not (nat_le 24 lower && nat_le lower upper && nat_le upper special && (special == 8176) && (true || ((lower - 24) % 4 == 0))) ≡ false
good_meta lower upper special a b c = λ i. not (b i == 0) && not (nat_le 24 (a i) && nat_le (a i) (b i) && nat_le (b i) (c i) && (c i == 8176) && (true || ((a i - 24) % 4 == 0)))

u16_after : (front back : List ℕ) (at k : ℕ) → at ≡ length front → u16_at (front ++ back) (at + k) ≡ u16_at back k
unfolding u16_at
u16_after front back at k e =
    ap (λ (n : ℕ). little_number 2 (drop (n + k) (front ++ back))) e ∙ ap (little_number 2) (drop-append-add front back k)

u32_after : (front back : List ℕ) (at k : ℕ) → at ≡ length front → u32_at (front ++ back) (at + k) ≡ u32_at back k
unfolding u32_at
u32_after front back at k e =
    ap (λ (n : ℕ). little_number 4 (drop (n + k) (front ++ back))) e ∙ ap (little_number 4) (drop-append-add front back k)

-- the fields in the bytes of a special space
in_special : (special : Opaque) → IsOpaque special
    → ◌≡◌ {A = Opaque} (record {
      prev = u32_at (opaque_bytes special) 0;
      next = u32_at (opaque_bytes special) 4;
      level = u32_at (opaque_bytes special) 8;
      flags = u16_at (opaque_bytes special) 12;
      cycle = u16_at (opaque_bytes special) 14;
    }) special
unfolding opaque_bytes u16_bytes u32_bytes u16_at u32_at
in_special special is = λ i. record {
  prev = little_number-reads_back 4 special.prev [] is.prev i;
  next = little_number-reads_back 4 special.next [] is.next i;
  level = little_number-reads_back 4 special.level [] is.level i;
  flags = little_number-reads_back 2 special.flags [] is.flags i;
  cycle = little_number-reads_back 2 special.cycle [] is.cycle i;
}

-- a special space at the end of a page
special_last : (front : List ℕ) (special : Opaque) → length front ≡ 8176 → IsOpaque special → opaque_of (front ++ opaque_bytes special) ≡ special
unfolding opaque_of
special_last front special long is =
    let at : 8176 ≡ length front = sym long in
    (λ i. record {
      prev = u32_after front (opaque_bytes special) 8176 0 at i;
      next = u32_after front (opaque_bytes special) 8176 4 at i;
      level = u32_after front (opaque_bytes special) 8176 8 at i;
      flags = u16_after front (opaque_bytes special) 8176 12 at i;
      cycle = u16_after front (opaque_bytes special) 8176 14 at i;
    }) ∙ in_special special is

pub special_is : (items : List (List ℕ)) (special : Opaque) → FitsBelow 8176 items → IsOpaque special
    → opaque_of (page_with 8176 items (opaque_bytes special)) ≡ special
unfolding page_with
special_is items special fits is = special_last (headed 8176 items) special (length_headed 8176 items fits) is

in_meta : (meta : Numbers) (rest : List ℕ) → IsMeta meta
    → ◌≡◌ {A = Numbers} (record {
      magic = u32_at (meta_bytes meta ++ rest) 0;
      version = u32_at (meta_bytes meta ++ rest) 4;
      root = u32_at (meta_bytes meta ++ rest) 8;
      level = u32_at (meta_bytes meta ++ rest) 12;
      fastroot = u32_at (meta_bytes meta ++ rest) 16;
      fastlevel = u32_at (meta_bytes meta ++ rest) 20;
    }) meta
unfolding meta_bytes u32_bytes u32_at
in_meta meta rest is = λ i. record {
  magic = little_number-reads_back 4 meta.magic [] is.magic i;
  version = little_number-reads_back 4 meta.version [] is.version i;
  root = little_number-reads_back 4 meta.root [] is.root i;
  level = little_number-reads_back 4 meta.level [] is.level i;
  fastroot = little_number-reads_back 4 meta.fastroot [] is.fastroot i;
  fastlevel = little_number-reads_back 4 meta.fastlevel [] is.fastlevel i;
}

meta_parts : (meta : Numbers) → meta_page meta
    ≡ header_bytes (header_with 72 8176 8176) ++ (meta_bytes meta ++ (zeros 8128 ++ opaque_bytes meta_special))
unfolding meta_page
meta_parts meta = in_four (header_bytes (header_with 72 8176 8176)) (meta_bytes meta) (zeros 8128) (opaque_bytes meta_special)

pub meta_numbers : (meta : Numbers) → IsMeta meta → meta_of (meta_page meta) ≡ meta
unfolding meta_of
meta_numbers meta is =
    let front : List ℕ = header_bytes (header_with 72 8176 8176) in
    let rest : List ℕ = zeros 8128 ++ opaque_bytes meta_special in
    let at : 24 ≡ length front = sym (length_header (header_with 72 8176 8176)) in
    let back : List ℕ = meta_bytes meta ++ rest in
    let page_is = meta_parts meta in
    (λ i. record {
      magic = u32_at (page_is i) 24;
      version = u32_at (page_is i) 28;
      root = u32_at (page_is i) 32;
      level = u32_at (page_is i) 36;
      fastroot = u32_at (page_is i) 40;
      fastlevel = u32_at (page_is i) 44;
    })
    ∙ (λ i. record {
      magic = u32_after front back 24 0 at i;
      version = u32_after front back 24 4 at i;
      root = u32_after front back 24 8 at i;
      level = u32_after front back 24 12 at i;
      fastroot = u32_after front back 24 16 at i;
      fastlevel = u32_after front back 24 20 at i;
    })
    ∙ in_meta meta rest is

pub meta_header : (meta : Numbers) → header_of (meta_page meta) ≡ header_with 72 8176 8176
meta_header meta =
    ap header_of (meta_parts meta) ∙ header_first (header_with 72 8176 8176) _ (fields_fit 72 8176 8176 (omega arith) (omega arith) (omega arith))

pub meta_special_is : (meta : Numbers) → opaque_of (meta_page meta) ≡ meta_special
unfolding meta_page
meta_special_is meta =
    let a = length-append (header_bytes (header_with 72 8176 8176)) (meta_bytes meta) in
    let b = length-append (header_bytes (header_with 72 8176 8176) ++ meta_bytes meta) (zeros 8128) in
    let c = length_header (header_with 72 8176 8176) in
    let d = length_meta meta in
    let e = length_zeros 8128 in
    special_last (header_bytes (header_with 72 8176 8176) ++ meta_bytes meta ++ zeros 8128) meta_special (omega (arith, a, b, c, d, e))
    (record { prev = omega arith; next = omega arith; level = omega arith; flags = omega arith; cycle = omega arith })

pub length_meta_page : (meta : Numbers) → length (meta_page meta) ≡ 8192
unfolding meta_page
length_meta_page meta =
    let a = length-append (header_bytes (header_with 72 8176 8176)) (meta_bytes meta) in
    let b = length-append (header_bytes (header_with 72 8176 8176) ++ meta_bytes meta) (zeros 8128) in
    let f = length-append (header_bytes (header_with 72 8176 8176) ++ meta_bytes meta ++ zeros 8128) (opaque_bytes meta_special) in
    let c = length_header (header_with 72 8176 8176) in
    let d = length_meta meta in
    let e = length_zeros 8128 in
    let g = length_opaque meta_special in
    omega (arith, a, b, c, d, e, f, g)

pub meta_rules : (meta : Numbers) → page_rule_of Meta (meta_page meta) ≡ None
unfolding page_rule_of header_of header_with
meta_rules meta =
    let page : List ℕ = meta_page meta in
    let e = meta_header meta in
    let version : u16_at page 18 ≡ 0x2004 = ap (λ (h : PageHeader). h.version) e in
    let flags : u16_at page 10 ≡ 0 = ap (λ (h : PageHeader). h.flags) e in
    let l : u16_at page 12 ≡ 72 = ap (λ (h : PageHeader). h.lower) e in
    let u : u16_at page 14 ≡ 8176 = ap (λ (h : PageHeader). h.upper) e in
    let s : u16_at page 16 ≡ 8176 = ap (λ (h : PageHeader). h.special) e in
    let some : u16_at page 14 ≢ 0 = λ none. omega (arith, none, u) in
    four _ _ _ _ (good_version (u16_at page 14) (u16_at page 18) some version) (ap (λ (n : ℕ). nat_le 8 n) flags)
    (good_meta (u16_at page 12) (u16_at page 14) (u16_at page 16) l u s)
    (new_but (u16_at page 14) _ some)

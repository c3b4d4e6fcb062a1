-- One more item on a page.
use Rattle.std.proofs.Common.{◌≡◌, ◌≤◌, ◌+◌, ◌-◌, ◌*◌, ℕ, List, [], ◌∷◌, ◌++◌, length, refl, ap, sym, ◌∙◌, arith, append_assoc}
use Rattle.std.proofs.lemmas.List.{append-nil, length-append}
use Rattle.std.proofs.lemmas.List.Sums.{sum_by-append}
use Rattle.std.specs.Prelude.{sum_by}
use Rattle.page_layout.specs.Writes.{header_bytes, u16_bytes, u32_bytes, with_bytes}
use Rattle.page_layout.specs.declared.page.PageHeader.{PageHeader}
use Rattle.bt_meta.specs.declared.records.Meta.{Meta}
use Rattle.bt_meta.specs.declared.records.Opaque.{Opaque}
use Rattle.page_layout.proofs.Writing.{length_u32}
use Rattle.page_write.specs.Pages.{FitsBelow, header_with, heap_page, lower_for, meta_bytes, meta_page, meta_special, opaque_bytes, page_with, pointer_bytes, pointers_below, room_for, room_of, storage_of, storages, tree_page, zeros}
use Rattle.page_write.proofs.Zeros.{length_zeros, written, written_in_zeros, zeros_join}

pub length_pointer : (off len : ℕ) → length (pointer_bytes off len) ≡ 4
unfolding pointer_bytes
length_pointer off len = length_u32 (off + 32768 + 131072 * len)

first_of_sum : (m n : ℕ) → 0 + m + n ≡ m + n
first_of_sum m n = omega arith

pub room-cons : (item : List ℕ) (items : List (List ℕ)) → room_for (item ∷ items) ≡ room_of item + room_for items
unfolding room_for
room-cons item items = sum_by-append room_of (item ∷ []) items ∙ first_of_sum (room_of item) (sum_by room_of items)

pub room-none : room_for [] ≡ 0
unfolding room_for
room-none = refl

-- what one more item takes
pub room-snoc : (items : List (List ℕ)) (item : List ℕ) → room_for (items ++ item ∷ []) ≡ room_for items + room_of item
room-snoc [] item = let a = room-cons item [] in let b = room-none in omega (arith, a, b)
room-snoc (i ∷ items) item =
    let a = room-cons i (items ++ item ∷ []) in
    let b = room-cons i items in
    let c = room-snoc items item in
    omega (arith, a, b, c)

-- its line pointer comes after those of the others
pub pointers-snoc : (place : ℕ) (items : List (List ℕ)) (item : List ℕ)
    → pointers_below place (items ++ item ∷ [])
    ≡ pointers_below place items ++ pointer_bytes (place - room_for items - room_of item) (length item)
unfolding pointers_below
pointers-snoc place [] item =
    let none = room-none in
    let off : place - room_of item ≡ place - room_for [] - room_of item = omega (arith, none) in
    append-nil (pointer_bytes (place - room_of item) (length item)) ∙ ap (λ (n : ℕ). pointer_bytes n (length item)) off
pointers-snoc place (i ∷ items) item =
    let rest = pointers-snoc (place - room_of i) items item in
    let cons = room-cons i items in
    let off : place - room_of i - room_for items - room_of item ≡ place - room_for (i ∷ items) - room_of item = omega (arith, cons) in
    let one : List ℕ = pointer_bytes (place - room_of i) (length i) in
    let more : List ℕ = pointers_below (place - room_of i) items in
    ap (λ (z : List ℕ). one ++ z) rest
    ∙ ap (λ (n : ℕ). one ++ (more ++ pointer_bytes n (length item))) off
    ∙ sym (append_assoc one more (pointer_bytes (place - room_for (i ∷ items) - room_of item) (length item)))

-- its storage lies below that of the others
pub storages-snoc : (items : List (List ℕ)) (item : List ℕ) → storages (items ++ item ∷ []) ≡ storage_of item ++ storages items
unfolding storages
storages-snoc [] item = sym (append-nil (storage_of item))
storages-snoc (i ∷ items) item =
    ap (λ (z : List ℕ). z ++ storage_of i) (storages-snoc items item) ∙ append_assoc (storage_of item) (storages items) (storage_of i)

pub length_pointers : (place : ℕ) (items : List (List ℕ)) → length (pointers_below place items) ≡ 4 * length items
unfolding pointers_below
length_pointers place [] = refl
length_pointers place (i ∷ items) =
    let one : List ℕ = pointer_bytes (place - room_of i) (length i) in
    let more : List ℕ = pointers_below (place - room_of i) items in
    let a = length-append one more in
    let b = length_pointer (place - room_of i) (length i) in
    let c = length_pointers (place - room_of i) items in
    let cons : length (i ∷ items) ≡ length items + 1 = omega arith in
    omega (arith, a, b, c, cons)

pub length_storage : (item : List ℕ) → length (storage_of item) ≡ room_of item
unfolding storage_of
length_storage item =
    let a = length-append item (zeros (room_of item - length item)) in
    let z = length_zeros (room_of item - length item) in
    let m : length item ≤ room_of item = omega arith in
    omega (arith, a, z, m)

pub length_storages : (items : List (List ℕ)) → length (storages items) ≡ room_for items
unfolding storages
length_storages [] = sym room-none
length_storages (i ∷ items) =
    let a = length-append (storages items) (storage_of i) in
    let b = length_storages items in
    let c = length_storage i in
    let d = room-cons i items in
    omega (arith, a, b, c, d)

-- the bytes of a page without its header, with a gap of so many bytes
abbrev pub body_with : ℕ → List (List ℕ) → ℕ → List ℕ
body_with place items gap =
    zeros 24 ++ pointers_below place items ++ zeros gap ++ storages items ++ zeros (8192 - place)

-- a line pointer at the start of the gap
pointer_written : (head pointer tail : List ℕ) (gap : ℕ) → length pointer ≡ 4
    → head ++ zeros 0 ++ pointer ++ (zeros (gap - 0 - length pointer) ++ tail) ≡ (head ++ pointer) ++ zeros (gap - 4) ++ tail
unfolding zeros
pointer_written head pointer tail gap four =
    let n : gap - 0 - length pointer ≡ gap - 4 = omega (arith, four) in
    ap (λ (h : List ℕ). h ++ pointer ++ (zeros (gap - 0 - length pointer) ++ tail)) (append-nil head)
    ∙ ap (λ (k : ℕ). head ++ pointer ++ (zeros k ++ tail)) n
    ∙ sym (append_assoc (head ++ pointer) (zeros (gap - 4)) tail)

regrouped : (a b c d e f g h : List ℕ) → (a ++ b ++ c) ++ d ++ e ++ (f ++ (g ++ h)) ≡ a ++ (b ++ c) ++ d ++ (e ++ f ++ g) ++ h
regrouped a b c d e f g h = simp append_assoc

-- the pieces of a page with one more item
stored : (place : ℕ) (items : List (List ℕ)) (item : List ℕ) (off gap : ℕ) → off ≡ place - room_for items - room_of item
    → (zeros 24 ++ pointers_below place items ++ pointer_bytes off (length item)) ++ zeros gap ++ item
    ++ (zeros (room_of item - length item) ++ (storages items ++ zeros (8192 - place)))
    ≡ body_with place (items ++ item ∷ []) gap
unfolding storage_of
stored place items item off gap e =
    let pointers : pointers_below place (items ++ item ∷ []) ≡ pointers_below place items ++ pointer_bytes off (length item) =
    pointers-snoc place items item ∙ ap (λ (n : ℕ). pointers_below place items ++ pointer_bytes n (length item)) (sym e) in
    let storage : storages (items ++ item ∷ []) ≡ item ++ zeros (room_of item - length item) ++ storages items = storages-snoc items item in
    regrouped (zeros 24) (pointers_below place items) (pointer_bytes off (length item)) (zeros gap) item
    (zeros (room_of item - length item)) (storages items) (zeros (8192 - place))
    ∙ ap (λ (z : List ℕ). zeros 24 ++ z ++ zeros gap ++ (item ++ zeros (room_of item - length item) ++ storages items) ++ zeros (8192 - place)) (sym pointers)
    ∙ ap (λ (z : List ℕ). zeros 24 ++ pointers_below place (items ++ item ∷ []) ++ zeros gap ++ z ++ zeros (8192 - place)) (sym storage)

-- a line pointer and storage that are written in the gap
pub added : (place upper lower : ℕ) (items : List (List ℕ)) (item : List ℕ) (page one two : List ℕ)
    → lower ≡ lower_for items → upper + room_for items ≡ place → 4 + room_of item ≤ upper - lower
    → page ≡ body_with place items (upper - lower)
    → one ≡ with_bytes page lower (pointer_bytes (upper - room_of item) (length item))
    → two ≡ with_bytes one (upper - room_of item) item
    → two ≡ body_with place (items ++ item ∷ []) (upper - room_of item - (lower + 4))
added place upper lower items item page one two at_lower at_upper fits was first second =
    let gap = upper - lower in
    let off = upper - room_of item in
    let pointer : List ℕ = pointer_bytes off (length item) in
    let head : List ℕ = zeros 24 ++ pointers_below place items in
    let tail : List ℕ = storages items ++ zeros (8192 - place) in
    let four = length_pointer off (length item) in
    let head_long : length head ≡ lower =
    let a = length-append (zeros 24) (pointers_below place items) in
    let z = length_zeros 24 in
    let p = length_pointers place items in omega (arith, a, z, p, at_lower) in
    let m : length item ≤ room_of item = omega arith in
    let page_is : page ≡ head ++ zeros gap ++ tail = was ∙ append_assoc (head ++ zeros gap) (storages items) (zeros (8192 - place)) in
    let one_is : one ≡ (head ++ pointer) ++ zeros (gap - 4) ++ tail =
    first ∙ ap (λ (z : List ℕ). with_bytes z lower pointer) page_is
    ∙ written_in_zeros head tail pointer 0 gap lower (omega (arith, head_long)) (omega (arith, four, fits))
    ∙ pointer_written head pointer tail gap four in
    let front_long : length (head ++ pointer) ≡ lower + 4 = let a = length-append head pointer in omega (arith, a, four, head_long) in
    let free = gap - 4 - room_of item in
    let two_is : two ≡ (head ++ pointer) ++ zeros free ++ item ++ (zeros (gap - 4 - free - length item) ++ tail) =
    second ∙ ap (λ (z : List ℕ). with_bytes z off item) one_is
    ∙ written_in_zeros (head ++ pointer) tail item free (gap - 4) off (omega (arith, front_long, fits, at_lower)) (omega (arith, fits, m)) in
    let pad : gap - 4 - free - length item ≡ room_of item - length item = omega (arith, fits, m) in
    let gap_now : free ≡ off - (lower + 4) = omega (arith, fits) in
    let place_now : off ≡ place - room_for items - room_of item = omega (arith, at_upper) in
    two_is
    ∙ ap (λ (n : ℕ). (head ++ pointer) ++ zeros free ++ item ++ (zeros n ++ tail)) pad
    ∙ ap (λ (n : ℕ). (head ++ pointer) ++ zeros n ++ item ++ (zeros (room_of item - length item) ++ tail)) gap_now
    ∙ stored place items item off (off - (lower + 4)) place_now

-- a page of zeros has no items
pub blank : (place : ℕ) → 24 ≤ place → place ≤ 8192 → zeros 8192 ≡ body_with place [] (place - 24)
unfolding pointers_below storages
blank place low high =
    let one : zeros 24 ++ zeros (place - 24) ≡ zeros place = zeros_join 24 (place - 24) ∙ ap zeros (omega arith) in
    let two : zeros place ++ zeros (8192 - place) ≡ zeros 8192 = zeros_join place (8192 - place) ∙ ap zeros (omega arith) in
    sym (
    ap (λ (z : List ℕ). z ++ zeros (place - 24) ++ [] ++ zeros (8192 - place)) (append-nil (zeros 24))
    ∙ ap (λ (z : List ℕ). z ++ zeros (8192 - place)) (append-nil (zeros 24 ++ zeros (place - 24)))
    ∙ ap (λ (z : List ℕ). z ++ zeros (8192 - place)) one
    ∙ two
    )

pub length_header : (h : PageHeader) → length (header_bytes h) ≡ 24
unfolding header_bytes u16_bytes u32_bytes
length_header h = refl

pub length_opaque : (special : Opaque) → length (opaque_bytes special) ≡ 16
unfolding opaque_bytes u16_bytes u32_bytes
length_opaque special = refl

pub right : (a b c d e : List ℕ) → a ++ b ++ c ++ d ++ e ≡ a ++ (b ++ (c ++ (d ++ e)))
right a b c d e = simp append_assoc

pub length_meta : (meta : Meta) → length (meta_bytes meta) ≡ 24
unfolding meta_bytes u32_bytes
length_meta meta = refl

-- the page up to its special space
abbrev pub headed : ℕ → List (List ℕ) → List ℕ
headed place items =
    header_bytes (header_with (lower_for items) (place - room_for items) place) ++ pointers_below place items
    ++ zeros (place - room_for items - lower_for items) ++ storages items

-- the header is written before the rest
pub with_header : (place upper lower special : ℕ) (items : List (List ℕ)) (page : List ℕ)
    → lower ≡ lower_for items → upper + room_for items ≡ place → special ≡ place → page ≡ body_with place items (upper - lower)
    → with_bytes page 0 (header_bytes (header_with lower upper special)) ≡ headed place items ++ zeros (8192 - place)
with_header place upper lower special items page at_lower at_upper at_special was =
    let h : List ℕ = header_bytes (header_with lower upper special) in
    let rest : List ℕ = pointers_below place items ++ (zeros (upper - lower) ++ (storages items ++ zeros (8192 - place))) in
    let long : length h ≡ length (zeros 24) = let a = length_header (header_with lower upper special) in let z = length_zeros 24 in omega (arith, a, z) in
    let upper_is : upper ≡ place - room_for items = omega (arith, at_upper) in
    ap (λ (z : List ℕ). with_bytes z 0 h) (was ∙ right (zeros 24) (pointers_below place items) (zeros (upper - lower)) (storages items) (zeros (8192 - place)))
    ∙ written [] (zeros 24) h rest 0 refl long
    ∙ sym (right h (pointers_below place items) (zeros (upper - lower)) (storages items) (zeros (8192 - place)))
    ∙ ap (λ (n : ℕ). header_bytes (header_with n upper special) ++ pointers_below place items ++ zeros (upper - n) ++ storages items ++ zeros (8192 - place)) at_lower
    ∙ ap (λ (n : ℕ). header_bytes (header_with (lower_for items) n special) ++ pointers_below place items ++ zeros (n - lower_for items) ++ storages items ++ zeros (8192 - place)) upper_is
    ∙ ap (λ (n : ℕ). header_bytes (header_with (lower_for items) (place - room_for items) n) ++ pointers_below place items ++ zeros (place - room_for items - lower_for items) ++ storages items ++ zeros (8192 - place)) at_special

-- a page of a table has no special space
pub heap_is : (items : List (List ℕ)) → headed 8192 items ++ zeros (8192 - 8192) ≡ heap_page items
unfolding page_with zeros
heap_is items = refl

pub length_headed : (place : ℕ) (items : List (List ℕ)) → FitsBelow place items → length (headed place items) ≡ place
length_headed place items fits =
    let h : List ℕ = header_bytes (header_with (lower_for items) (place - room_for items) place) in
    let p : List ℕ = pointers_below place items in
    let z : List ℕ = zeros (place - room_for items - lower_for items) in
    let s : List ℕ = storages items in
    let a = length-append h p in
    let b = length-append (h ++ p) z in
    let c = length-append (h ++ p ++ z) s in
    let d = length_header (header_with (lower_for items) (place - room_for items) place) in
    let e = length_pointers place items in
    let f = length_zeros (place - room_for items - lower_for items) in
    let g = length_storages items in
    omega (arith, a, b, c, d, e, f, g, fits)

-- the special space of a tree page is written after the rest
pub with_special : (items : List (List ℕ)) (special : Opaque) (page : List ℕ)
    → FitsBelow 8176 items → page ≡ headed 8176 items ++ zeros (8192 - 8176)
    → with_bytes page 8176 (opaque_bytes special) ≡ tree_page items special
unfolding page_with
with_special items special page fits was =
    let o : List ℕ = opaque_bytes special in
    let long : length o ≡ length (zeros 16) = let a = length_opaque special in let z = length_zeros 16 in omega (arith, a, z) in
    let at : 8176 ≡ length (headed 8176 items) = sym (length_headed 8176 items fits) in
    ap (λ (z : List ℕ). with_bytes z 8176 o) (was ∙ sym (append-nil (headed 8176 items ++ zeros 16)))
    ∙ written (headed 8176 items) (zeros 16) o [] 8176 at long
    ∙ append-nil (headed 8176 items ++ o)

-- the pieces of a metapage are written one after the other
pub meta_laid : (meta : Meta) (h : PageHeader) (blank one two three : List ℕ) → blank ≡ zeros 8192
    → one ≡ with_bytes blank 0 (header_bytes h) → two ≡ with_bytes one 24 (meta_bytes meta)
    → three ≡ with_bytes two 8176 (opaque_bytes meta_special) → h ≡ header_with 72 8176 8176 → three ≡ meta_page meta
unfolding meta_page
meta_laid meta h blank one two three a b c d e =
    let hs : List ℕ = header_bytes h in
    let ms : List ℕ = meta_bytes meta in
    let os : List ℕ = opaque_bytes meta_special in
    let long = length_header h in
    let long_meta = length_meta meta in
    let long_special = length_opaque meta_special in
    let z24 = length_zeros 24 in
    let z16 = length_zeros 16 in
    let z = length_zeros 8128 in
    let parts : zeros 8192 ≡ zeros 24 ++ (zeros 24 ++ (zeros 8128 ++ zeros 16)) =
    sym (ap (λ (x : List ℕ). zeros 24 ++ (zeros 24 ++ x)) (zeros_join 8128 16) ∙ ap (λ (x : List ℕ). zeros 24 ++ x) (zeros_join 24 8144)
    ∙ zeros_join 24 8168) in
    let first : one ≡ hs ++ (zeros 24 ++ (zeros 8128 ++ zeros 16)) =
    b ∙ ap (λ (x : List ℕ). with_bytes x 0 hs) (a ∙ parts)
    ∙ written [] (zeros 24) hs (zeros 24 ++ (zeros 8128 ++ zeros 16)) 0 refl (omega (arith, long, z24)) in
    let second : two ≡ hs ++ ms ++ (zeros 8128 ++ zeros 16) =
    c ∙ ap (λ (x : List ℕ). with_bytes x 24 ms) (first ∙ sym (append_assoc hs (zeros 24) (zeros 8128 ++ zeros 16)))
    ∙ written hs (zeros 24) ms (zeros 8128 ++ zeros 16) 24 (omega (arith, long)) (omega (arith, long_meta, z24)) in
    let front : length (hs ++ ms ++ zeros 8128) ≡ 8176 =
    let x = length-append hs ms in let y = length-append (hs ++ ms) (zeros 8128) in omega (arith, x, y, long, long_meta, z) in
    d ∙ ap (λ (x : List ℕ). with_bytes x 8176 os)
    (second ∙ sym (append_assoc (hs ++ ms) (zeros 8128) (zeros 16)) ∙ sym (append-nil (hs ++ ms ++ zeros 8128 ++ zeros 16)))
    ∙ written (hs ++ ms ++ zeros 8128) (zeros 16) os [] 8176 (sym front) (omega (arith, long_special, z16))
    ∙ append-nil (hs ++ ms ++ zeros 8128 ++ os)
    ∙ ap (λ (x : PageHeader). header_bytes x ++ ms ++ zeros 8128 ++ os) e

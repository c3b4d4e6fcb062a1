-- What a write through a part of the bytes makes, and what reads back.
use Rattle.std.proofs.Common.{◌≡◌, ◌≤◌, ◌<◌, ◌+◌, ◌-◌, ◌*◌, ◌/◌, ◌%◌, ℕ, List, [], ◌++◌, drop, length, take, refl, ap, sym, ◌∙◌, arith, inl, inr, append_assoc}
use Rattle.std.proofs.Math.Seq.{drop-append_seam, drop-append-add, take-append_seam}
use Rattle.std.proofs.lemmas.List.{append-nil, drop-append-le, drop-drop, drop_all, length-append, length-drop, length-take, take-append-drop, take_all}
use Rattle.byteorder.specs.Endian.{little_bytes, little_number}
use Rattle.byteorder.specs.Numbers.{little_from-append, little_number-reads_back}
use borrow.Rule.Slice.PartMut.{put_mid}
use Rattle.page_layout.specs.Page.{block_at, header_of, u16_at, u32_at}
use Rattle.page_layout.specs.Writes.{AreApart, block_bytes, header_bytes, u16_bytes, u32_bytes, with_bytes}
use Rattle.page_layout.specs.declared.page.PageHeader.{PageHeader}

pub length_u16 : (n : ℕ) → length (u16_bytes n) ≡ 2
unfolding u16_bytes
length_u16 n = refl

pub length_u32 : (n : ℕ) → length (u32_bytes n) ≡ 4
unfolding u32_bytes
length_u32 n = refl

-- a write through the part from a place on
pub write_from : (at : ℕ) (xs piece part : List ℕ) → at + length piece ≤ length xs
    → part ≡ piece ++ drop (length piece) (take (length xs - at) (drop at xs))
    → put_mid at (length xs - at) xs part ≡ with_bytes xs at piece
unfolding with_bytes
write_from at xs piece part fits e =
    let whole : take (length xs - at) (drop at xs) ≡ drop at xs = take_all (length xs - at) (drop at xs) (omega (arith, length-drop at xs)) in
    let none : drop (length xs - at) (drop at xs) ≡ [] = drop_all (length xs - at) (drop at xs) (omega (arith, length-drop at xs)) in
    let there : drop (length piece) (drop at xs) ≡ drop (at + length piece) xs = drop-drop (length piece) at xs in
    rw (e, whole, none, there, append-nil, append_assoc) refl

pub length_with : (xs piece : List ℕ) (at : ℕ) → at + length piece ≤ length xs → length (with_bytes xs at piece) ≡ length xs
unfolding with_bytes
length_with xs piece at fits =
    let rest = length-drop (at + length piece) xs in
    let front = length-take at xs in
    let one = length-append (take at xs) piece in
    let two = length-append (take at xs ++ piece) (drop (at + length piece) xs) in
    omega (arith, rest, front, one, two)

-- what is written at a place stands there
drop_with : (xs piece : List ℕ) (at : ℕ) → at + length piece ≤ length xs
    → drop at (with_bytes xs at piece) ≡ piece ++ drop (at + length piece) xs
unfolding with_bytes
drop_with xs piece at fits =
    let front : length (take at xs) ≡ at = let e = length-take at xs in omega (arith, e) in
    ap (drop at) (append_assoc (take at xs) piece (drop (at + length piece) xs))
    ∙ ap (λ n. drop n (take at xs ++ (piece ++ drop (at + length piece) xs))) (sym front)
    ∙ drop-append_seam (take at xs) (piece ++ drop (at + length piece) xs)

pub reads_u16 : (xs : List ℕ) (at n : ℕ) → at + 2 ≤ length xs → n < 65536 → u16_at (with_bytes xs at (u16_bytes n)) at ≡ n
unfolding u16_at u16_bytes
reads_u16 xs at n fits small =
    ap (little_number 2) (drop_with xs (little_bytes 2 n) at fits) ∙ little_number-reads_back 2 n (drop (at + 2) xs) small

pub reads_u32 : (xs : List ℕ) (at n : ℕ) → at + 4 ≤ length xs → n < 4294967296 → u32_at (with_bytes xs at (u32_bytes n)) at ≡ n
unfolding u32_at u32_bytes
reads_u32 xs at n fits small =
    ap (little_number 4) (drop_with xs (little_bytes 4 n) at fits) ∙ little_number-reads_back 4 n (drop (at + 4) xs) small

-- a number before what is written
before : (xs piece : List ℕ) (at place n : ℕ) → at + length piece ≤ length xs → place + n ≤ at
    → little_number n (drop place (with_bytes xs at piece)) ≡ little_number n (drop place xs)
unfolding with_bytes
before xs piece at place n fits apart =
    let front : length (take at xs) ≡ at = let e = length-take at xs in omega (arith, e) in
    let cut : length (drop place (take at xs)) ≡ at - place = let e = length-drop place (take at xs) in omega (arith, e, front) in
    let same : (ys : List ℕ) → little_number n (drop place (take at xs ++ ys)) ≡ little_number n (drop place (take at xs)) =
    λ ys. ap (little_number n) (drop-append-le place (take at xs) ys (omega (arith, front)))
    ∙ little_from-append n (drop place (take at xs)) ys (omega (arith, cut)) in
    ap (λ z. little_number n (drop place z)) (append_assoc (take at xs) piece (drop (at + length piece) xs))
    ∙ same (piece ++ drop (at + length piece) xs)
    ∙ sym (same (drop at xs))
    ∙ ap (λ z. little_number n (drop place z)) (take-append-drop at xs)

-- what stands behind it
after : (xs piece : List ℕ) (at place : ℕ) → at + length piece ≤ length xs → at + length piece ≤ place
    → drop place (with_bytes xs at piece) ≡ drop place xs
unfolding with_bytes
after xs piece at place fits apart =
    let front : length (take at xs) ≡ at = let e = length-take at xs in omega (arith, e) in
    let head : length (take at xs ++ piece) ≡ at + length piece = let e = length-append (take at xs) piece in omega (arith, e, front) in
    let k = place - (at + length piece) in
    let is : place ≡ length (take at xs ++ piece) + k = omega (arith, head) in
    let is_there : at + length piece + k ≡ place = omega arith in
    ap (λ p. drop p ((take at xs ++ piece) ++ drop (at + length piece) xs)) is
    ∙ drop-append-add (take at xs ++ piece) (drop (at + length piece) xs) k
    ∙ drop-drop k (at + length piece) xs
    ∙ ap (λ p. drop p xs) is_there

apart_number : (xs piece : List ℕ) (at place n : ℕ) → at + length piece ≤ length xs → AreApart place n at (length piece)
    → little_number n (drop place (with_bytes xs at piece)) ≡ little_number n (drop place xs)
apart_number xs piece at place n fits (inl low) = before xs piece at place n fits low
apart_number xs piece at place n fits (inr high) = ap (little_number n) (after xs piece at place fits high)

pub apart_u16 : (xs piece : List ℕ) (at place : ℕ) → at + length piece ≤ length xs → AreApart place 2 at (length piece)
    → u16_at (with_bytes xs at piece) place ≡ u16_at xs place
unfolding u16_at
apart_u16 xs piece at place fits apart = apart_number xs piece at place 2 fits apart

pub apart_u32 : (xs piece : List ℕ) (at place : ℕ) → at + length piece ≤ length xs → AreApart place 4 at (length piece)
    → u32_at (with_bytes xs at piece) place ≡ u32_at xs place
unfolding u32_at
apart_u32 xs piece at place fits apart = apart_number xs piece at place 4 fits apart

-- two writes side by side are one
pub write_next : (xs front back : List ℕ) (at next : ℕ) → at + length front + length back ≤ length xs → next ≡ at + length front
    → with_bytes (with_bytes xs at front) next back ≡ with_bytes xs at (front ++ back)
unfolding with_bytes
write_next xs front back at next fits e =
    let head : length (take at xs ++ front) ≡ next =
    let one = length-append (take at xs) front in let two = length-take at xs in omega (arith, one, two, e) in
    let joined : length (front ++ back) ≡ length front + length back = length-append front back in
    let rest : drop (at + length front + length back) xs ≡ drop (at + length (front ++ back)) xs =
    ap (λ n. drop n xs) (omega (arith, joined)) in
    let kept : take next ((take at xs ++ front) ++ drop (at + length front) xs) ≡ take at xs ++ front =
    ap (λ n. take n ((take at xs ++ front) ++ drop (at + length front) xs)) (sym head)
    ∙ take-append_seam (take at xs ++ front) (drop (at + length front) xs) in
    let left : drop (next + length back) ((take at xs ++ front) ++ drop (at + length front) xs) ≡ drop (at + length (front ++ back)) xs =
    ap (λ n. drop (n + length back) ((take at xs ++ front) ++ drop (at + length front) xs)) (sym head)
    ∙ drop-append-add (take at xs ++ front) (drop (at + length front) xs) (length back)
    ∙ drop-drop (length back) (at + length front) xs
    ∙ rest in
    rw (kept, left) (ap (λ z. z ++ drop (at + length (front ++ back)) xs) (append_assoc (take at xs) front back))

-- the fields of a header are below the bounds of their widths
pub record IsHeader (h : PageHeader) : Type 0 where
  pub lsn_high : h.lsn_high < 4294967296
  pub lsn_low : h.lsn_low < 4294967296
  pub checksum : h.checksum < 65536
  pub flags : h.flags < 65536
  pub lower : h.lower < 65536
  pub upper : h.upper < 65536
  pub special : h.special < 65536
  pub version : h.version < 65536
  pub prune_xid : h.prune_xid < 4294967296

pub reads_header : (xs : List ℕ) (h : PageHeader) → IsHeader h → header_of (with_bytes xs 0 (header_bytes h)) ≡ h
unfolding header_of with_bytes header_bytes u16_bytes u32_bytes u16_at u32_at
reads_header xs h is = λ i. record {
  lsn_high = little_number-reads_back 4 h.lsn_high [] is.lsn_high i;
  lsn_low = little_number-reads_back 4 h.lsn_low [] is.lsn_low i;
  checksum = little_number-reads_back 2 h.checksum [] is.checksum i;
  flags = little_number-reads_back 2 h.flags [] is.flags i;
  lower = little_number-reads_back 2 h.lower [] is.lower i;
  upper = little_number-reads_back 2 h.upper [] is.upper i;
  special = little_number-reads_back 2 h.special [] is.special i;
  version = little_number-reads_back 2 h.version [] is.version i;
  prune_xid = little_number-reads_back 4 h.prune_xid [] is.prune_xid i;
}

pub reads_block : (xs : List ℕ) (at n : ℕ) → at + 4 ≤ length xs → n < 4294967296 → block_at (with_bytes xs at (block_bytes n)) at ≡ n
unfolding block_at block_bytes
reads_block xs at n fits small =
    let high = n / 65536 in
    let low = n % 65536 in
    let both : with_bytes (with_bytes xs at (u16_bytes high)) (at + 2) (u16_bytes low) ≡ with_bytes xs at (u16_bytes high ++ u16_bytes low) =
    write_next xs (u16_bytes high) (u16_bytes low) at (at + 2) (omega (arith, length_u16 high, length_u16 low)) (omega (arith, length_u16 high)) in
    let first : List ℕ = with_bytes xs at (u16_bytes high) in
    let long : length first ≡ length xs = length_with xs (u16_bytes high) at (omega (arith, length_u16 high)) in
    let upper : u16_at (with_bytes first (at + 2) (u16_bytes low)) at ≡ high =
    apart_u16 first (u16_bytes low) (at + 2) at (omega (arith, long, length_u16 low)) (inl (omega arith))
    ∙ reads_u16 xs at high (omega arith) (omega arith) in
    let lower : u16_at (with_bytes first (at + 2) (u16_bytes low)) (at + 2) ≡ low =
    reads_u16 first (at + 2) low (omega (arith, long)) (omega arith) in
    ap (λ z. u16_at z at * 65536 + u16_at z (at + 2)) (sym both) ∙ omega (arith, upper, lower)

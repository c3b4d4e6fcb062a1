-- The test of H2 is its sentence.
use Rattle.std.proofs.Common.{◌≡◌, ◌↔◌, ℕ, zero, suc, ◌+◌, ◌-◌, ◌<◌, ◌≤◌, Bool, true, List, inl, inr, sym, ◌∙◌, arith}
use Rattle.std.specs.Prelude.{not, ◌&&◌, nat_lt, max}
use Rattle.std.proofs.lemmas.Grind.{common_steps}
use Rattle.page_layout.specs.Items.{is_misplaced_heap_item, is_normal}
use Rattle.page_layout.specs.Page.{item_of, upper_of}
use Rattle.page_layout.specs.declared.page.LinePtr.{LinePtr}
use Rattle.heap_page_check.specs.Storage.{OverlapsLowerItem, has_storage, meets_item_below, overlaps_lower_item, shares_byte}
use Rattle.heap_page_check.proofs.Meeting.{and_both, both_first, both_second, either, meets_one}

-- one of the items 1, .., n of the page, which is where it may be, has a byte in common with p
record Meets (page : List ℕ) (n : ℕ) (p : LinePtr) : Type 0 where
  other : ℕ
  first : 1 ≤ other
  last : other ≤ n
  placed : has_storage (upper_of page) (item_of page other) ≡ true
  shared : shares_byte (item_of page other) p ≡ true

met_item : (page : List ℕ) (n : ℕ) (p : LinePtr) → meets_item_below page n p ≡ true → Meets page n p
unfolding meets_item_below
met_item page zero p met = absurd cc
met_item page (suc n) p met = elim (either _ _ met) [
  | inl below ↦ let h = met_item page n p below in record {
    other = h.other;
    first = h.first;
    last = let l = h.last in omega (arith, l);
    placed = h.placed;
    shared = h.shared;
  }
  | inr here ↦ record {
    other = suc n;
    first = omega arith;
    last = omega arith;
    placed = both_first _ _ here;
    shared = both_second _ _ here;
  }
]

-- the later of the first bytes of two that have a byte in common belongs to both
of_first : (a m b n : ℕ) → (nat_lt (max a b) (a + m) && nat_lt (max a b) (b + n)) ≡ true → (a ≤ max a b) × (max a b < a + m)
of_first a m b n shared = ((omega arith), grind (arith, common_steps))

of_second : (a m b n : ℕ) → (nat_lt (max a b) (a + m) && nat_lt (max a b) (b + n)) ≡ true → (b ≤ max a b) × (max a b < b + n)
of_second a m b n shared = ((omega arith), grind (arith, common_steps))

shared_by : (a m b n byte : ℕ) → a ≤ byte → byte < a + m → b ≤ byte → byte < b + n → (nat_lt (max a b) (a + m) && nat_lt (max a b) (b + n)) ≡ true
shared_by a m b n byte h i j k = grind (arith, common_steps)

pub overlap_told : (page : List ℕ) (i : ℕ) → (overlaps_lower_item page i ≡ true) ↔ OverlapsLowerItem page i
unfolding overlaps_lower_item
overlap_told page i =
    let p = item_of page i in
    let normal = is_normal p.flag in
    let meets = meets_item_below page (i - 1) p in (
      λ test.
          let h = met_item page (i - 1) p (both_second normal meets test) in
          let q = item_of page h.other in record {
            normal = both_first normal meets test;
            other = h.other;
            first = h.first;
            lower = let l = h.last in let f = h.first in omega (arith, l, f);
            placed = h.placed;
            byte = max q.off p.off;
            of_item = of_second q.off q.len p.off p.len h.shared;
            of_other = of_first q.off q.len p.off p.len h.shared;
          },
      λ told.
          let q = item_of page told.other in
          and_both normal meets told.normal (meets_one page (i - 1) told.other p told.first (let l = told.lower in omega (arith, l)) told.placed
          (shared_by q.off q.len p.off p.len told.byte told.of_other.0 told.of_other.1 told.of_item.0 told.of_item.1)),
    )

-- the same of an item that is known to be where it may be
pub meeting_told : (page : List ℕ) (i : ℕ) (meets : Bool) → has_storage (upper_of page) (item_of page i) ≡ true → meets ≡ meets_item_below page (i - 1) (item_of page i) → (meets ≡ true) ↔ OverlapsLowerItem page i
unfolding overlaps_lower_item
meeting_told page i meets storage same =
    let normal = both_first (is_normal (item_of page i).flag) (not (is_misplaced_heap_item (upper_of page) (item_of page i))) storage in
    let told = overlap_told page i in (
      λ met. told.0 (and_both (is_normal (item_of page i).flag) (meets_item_below page (i - 1) (item_of page i)) normal (sym same ∙ met)),
      λ overlaps. same ∙ both_second (is_normal (item_of page i).flag) (meets_item_below page (i - 1) (item_of page i)) (told.1 overlaps),
    )

-- Two placed items share a byte exactly where they share a cell, and an item that lies wholly below others meets none of them.
use Rattle.std.proofs.Common.{◌≡◌, ℕ, zero, suc, ◌+◌, ◌-◌, ◌*◌, ◌/◌, ◌%◌, ◌<◌, ◌≤◌, Bool, true, false, List, length, get_or, refl, sym, ap, subst, ◌∙◌, inl, inr, arith}
use Rattle.std.specs.Prelude.{not, ◌==◌, ◌&&◌, ◌||◌, nat_le, nat_lt, max, ◌⊎◌}
use Rattle.std.proofs.lemmas.Bool.{cases_lt}
use Rattle.std.proofs.lemmas.Grind.{common_steps}
use Rattle.page_layout.specs.Items.{HasStorage, is_misplaced_heap_item, is_normal}
use Rattle.page_layout.specs.Page.{header_of, item_of, upper_of}
use Rattle.page_layout.specs.declared.page.LineFlag.{LineFlag}
use Rattle.page_layout.specs.declared.page.PageHeader.{PageHeader}
use Rattle.page_layout.specs.declared.page.LinePtr.{LinePtr}
use Rattle.heap_page_check.specs.Storage.{AreAbove, has_storage, shares_byte, meets_item_below, covers, is_covered, AreCells, AreMarked, IsTakenBetween, LiesBetween, Marking, taken_with}

aligned_by : (normal : Bool) (upper off len : ℕ) → (normal && not (normal && (not (off % 8 == 0) || nat_lt off upper || nat_lt 8192 (off + len) || nat_lt len 24))) ≡ true → off % 8 ≡ 0
aligned_by normal upper off len e = grind (arith, common_steps)

above_by : (normal : Bool) (upper off len : ℕ) → (normal && not (normal && (not (off % 8 == 0) || nat_lt off upper || nat_lt 8192 (off + len) || nat_lt len 24))) ≡ true → upper ≤ off
above_by normal upper off len e = grind (arith, common_steps)

within_by : (normal : Bool) (upper off len : ℕ) → (normal && not (normal && (not (off % 8 == 0) || nat_lt off upper || nat_lt 8192 (off + len) || nat_lt len 24))) ≡ true → off + len ≤ 8192
within_by normal upper off len e = grind (arith, common_steps)

long_by : (normal : Bool) (upper off len : ℕ) → (normal && not (normal && (not (off % 8 == 0) || nat_lt off upper || nat_lt 8192 (off + len) || nat_lt len 24))) ≡ true → 24 ≤ len
long_by normal upper off len e = grind (arith, common_steps)

-- an item that has storage is where it may be
pub placed : (upper : ℕ) (p : LinePtr) → has_storage upper p ≡ true → HasStorage upper 8192 24 p
unfolding is_misplaced_heap_item
placed upper p e = record {
  aligned = aligned_by (is_normal p.flag) upper p.off p.len e;
  above = above_by (is_normal p.flag) upper p.off p.len e;
  within = within_by (is_normal p.flag) upper p.off p.len e;
  long = long_by (is_normal p.flag) upper p.off p.len e;
}

-- a cell that both cover begins with a byte of both
shares_by_cell : (a m b n cell : ℕ) → b % 8 ≡ 0 → (nat_le a (8 * cell) && nat_lt (8 * cell) (a + m)) ≡ true → b / 8 ≤ cell → cell < (b + n + 7) / 8 → (nat_lt (max a b) (a + m) && nat_lt (max a b) (b + n)) ≡ true
shares_by_cell a m b n cell aligned covered after before = grind (arith, common_steps)

covers_later : (a m b n : ℕ) → a % 8 ≡ 0 → b % 8 ≡ 0 → (nat_lt (max a b) (a + m) && nat_lt (max a b) (b + n)) ≡ true → 1 ≤ m → (nat_le a (8 * (max a b / 8)) && nat_lt (8 * (max a b / 8)) (a + m)) ≡ true
covers_later a m b n la lb shared some = grind (arith, common_steps)

later_after : (a b : ℕ) → b / 8 ≤ max a b / 8
later_after a b = omega arith

later_before : (a m b n : ℕ) → a % 8 ≡ 0 → b % 8 ≡ 0 → (nat_lt (max a b) (a + m) && nat_lt (max a b) (b + n)) ≡ true → 1 ≤ n → max a b / 8 < (b + n + 7) / 8
later_before a m b n la lb shared some = grind (arith, common_steps)

pub record IsCoveredBetween (page : List ℕ) (n first end : ℕ) : Type 0 where
  pub cell : ℕ
  pub after : first ≤ cell
  pub before : cell < end
  pub covered : is_covered page n cell ≡ true

pub either : (a b : Bool) → (a || b) ≡ true → (a ≡ true) ⊎ (b ≡ true)
either true b e = inl refl
either false b e = inr e

pub both_first : (a b : Bool) → (a && b) ≡ true → a ≡ true
both_first true b e = refl
both_first false b e = absurd (grind arith)

pub both_second : (a b : Bool) → (a && b) ≡ true → b ≡ true
both_second true b e = e
both_second false b e = absurd (grind arith)

or_first : (a b : Bool) → a ≡ true → (a || b) ≡ true
or_first a b e = rw e refl

or_second : (a b : Bool) → b ≡ true → (a || b) ≡ true
or_second true b e = refl
or_second false b e = e

pub and_both : (a b : Bool) → a ≡ true → b ≡ true → (a && b) ≡ true
and_both a b e f = rw (e, f) refl

-- a cell of p that an item covers: p meets that item
pub covered_meets : (page : List ℕ) (n : ℕ) (p : LinePtr) (cell : ℕ) → HasStorage (upper_of page) 8192 24 p → is_covered page n cell ≡ true → p.off / 8 ≤ cell → cell < (p.off + p.len + 7) / 8 → meets_item_below page n p ≡ true
unfolding is_covered meets_item_below
covered_meets page zero p cell at covered after before = covered
covered_meets page (suc n) p cell at covered after before =
    let q = item_of page (suc n) in
    let cases = either (is_covered page n cell) (has_storage (upper_of page) q && covers q cell) covered in
    elim cases [
      | inl below ↦ or_first _ _ (covered_meets page n p cell at below after before)
      | inr here ↦ or_second _ _ (and_both _ _ (both_first _ _ here) (shares_by_cell q.off q.len p.off p.len cell at.aligned (both_second _ _ here) after before))
    ]

-- an item that p meets covers a cell of p
pub meets_covered : (page : List ℕ) (n : ℕ) (p : LinePtr) → HasStorage (upper_of page) 8192 24 p → meets_item_below page n p ≡ true → IsCoveredBetween page n (p.off / 8) ((p.off + p.len + 7) / 8)
unfolding is_covered meets_item_below
meets_covered page zero p at met = absurd (grind (arith, met))
meets_covered page (suc n) p at met =
    let q = item_of page (suc n) in
    let cases = either (meets_item_below page n p) (has_storage (upper_of page) q && shares_byte q p) met in
    elim cases [
      | inl below ↦ let found = meets_covered page n p at below in record {
        cell = found.cell;
        after = found.after;
        before = found.before;
        covered = or_first _ _ found.covered;
      }
      | inr here ↦ let there = placed (upper_of page) q (both_first _ _ here) in
          let shared = both_second _ _ here in record {
            cell = max q.off p.off / 8;
            after = later_after q.off p.off;
            before = later_before q.off q.len p.off p.len there.aligned at.aligned shared (omega (arith, at.long));
            covered = or_second _ _ (and_both _ _ (both_first _ _ here) (covers_later q.off q.len p.off p.len there.aligned at.aligned shared (omega (arith, there.long))));
          }
    ]

-- a page without items has all cells free
pub free_at_first : (page : List ℕ) (cells : List Bool) → length cells ≡ 1024 → ((k : ℕ) → get_or cells k false ≡ false) → AreMarked page 0 cells
unfolding is_covered
free_at_first page cells long free = record { long = long; right = λ k lt. free k }

-- an item without storage takes no cell
skipped_by : (covered storage covers_it : Bool) → storage ≡ false → covered ≡ (covered || (storage && covers_it))
skipped_by true storage covers_it e = refl
skipped_by false storage covers_it e = rw e refl

pub skipped : (page : List ℕ) (n : ℕ) (cells : List Bool) → has_storage (upper_of page) (item_of page (suc n)) ≡ false → AreMarked page n cells → AreMarked page (suc n) cells
unfolding is_covered
skipped page n cells e are = record {
  long = are.long;
  right = λ k lt. are.right k lt ∙ skipped_by (is_covered page n k) (has_storage (upper_of page) (item_of page (suc n))) (covers (item_of page (suc n)) k) e;
}

-- the cells of an item are those that it covers
covers_by : (off len k : ℕ) → off % 8 ≡ 0 → (nat_le (off / 8) k && nat_lt k ((off + len + 7) / 8)) ≡ (nat_le off (8 * k) && nat_lt (8 * k) (off + len))
covers_by off len k aligned = grind (arith, common_steps)

taken_by : (was covered storage between covers_it : Bool) → was ≡ covered → storage ≡ true → between ≡ covers_it → (was || between) ≡ (covered || (storage && covers_it))
taken_by was covered storage between covers_it e f g = rw (e, f, g) refl

pub added : (page : List ℕ) (n : ℕ) (old new : List Bool) → has_storage (upper_of page) (item_of page (suc n)) ≡ true → AreMarked page n old → length new ≡ length old → ((k : ℕ) → get_or new k false ≡ taken_with old ((item_of page (suc n)).off / 8) (((item_of page (suc n)).off + (item_of page (suc n)).len + 7) / 8) k) → AreMarked page (suc n) new
unfolding is_covered
added page n old new e are long taken =
    let p = item_of page (suc n) in
    let at = placed (upper_of page) p e in record {
      long = long ∙ are.long;
      right = λ k lt. taken k ∙ taken_by (get_or old k false) (is_covered page n k) (has_storage (upper_of page) p) (nat_le (p.off / 8) k && nat_lt k ((p.off + p.len + 7) / 8)) (covers p k) (are.right k lt) e (covers_by p.off p.len k at.aligned);
    }

-- whether a cell was taken says whether the item meets one before it
met_by : (met : Bool) → (met ≡ true → ⊥) → met ≡ false
met_by true never = absurd (never refl)
met_by false never = refl

differ : (b : Bool) → b ≡ false → b ≡ true → ⊥
differ b f t = cc

pub meets_by_cells : (page : List ℕ) (n : ℕ) (old : List Bool) (p : LinePtr) (was : Bool) → has_storage (upper_of page) p ≡ true → AreMarked page n old → (was ≡ true → IsTakenBetween old (p.off / 8) ((p.off + p.len + 7) / 8)) → (was ≡ false → (k : ℕ) → p.off / 8 ≤ k → k < (p.off + p.len + 7) / 8 → get_or old k false ≡ false) → was ≡ meets_item_below page n p
meets_by_cells page n old p true e are found none =
    let at = placed (upper_of page) p e in
    let there = found refl in
    let low : there.cell < 1024 = omega (arith, at.within, there.before) in
    sym (covered_meets page n p there.cell at (sym (are.right there.cell low) ∙ there.taken) there.after there.before)
meets_by_cells page n old p false e are found none =
    let at = placed (upper_of page) p e in
    sym (met_by (meets_item_below page n p) (λ met.
    let there = meets_covered page n p at met in
    let low : there.cell < 1024 = omega (arith, at.within, there.before) in
    differ _ (sym (are.right there.cell low) ∙ none refl there.cell there.after there.before) there.covered))

-- an item that is misplaced, or no normal one, has no storage
pub misplaced_has_none : (upper : ℕ) (p : LinePtr) → is_misplaced_heap_item upper p ≡ true → has_storage upper p ≡ false
misplaced_has_none upper p e = rw e (none_by (is_normal p.flag))
  where
    none_by : (normal : Bool) → (normal && false) ≡ false
    none_by true = refl
    none_by false = refl

pub other_has_none : (upper : ℕ) (p : LinePtr) → is_normal p.flag ≡ false → has_storage upper p ≡ false
other_has_none upper p e = rw e refl

-- an item without storage needs no mark
pub unmarked_next : (page : List ℕ) (k upper : ℕ) (item : LinePtr) (test : Bool) (cells : List Bool) → upper ≡ upper_of page → item ≡ item_of page (k + 1) → test ≡ has_storage upper item → test ≡ false → AreMarked page k cells → AreMarked page (k + 1) cells
unmarked_next page k upper item test cells above it tested none are =
    let number : suc k ≡ k + 1 = omega arith in
    let P : ℕ → Type 0 = λ j. has_storage (upper_of page) (item_of page j) ≡ false → AreMarked page j cells in
    subst P number (λ e. skipped page k cells e are) (rw (← above, ← it, ← tested) none)

pub above_by_last : (page : List ℕ) (i place j : ℕ) → (has_storage (upper_of page) (item_of page i) ≡ true → place ≤ (item_of page i).off) → AreAbove page (i - 1) place → 1 ≤ j → j ≤ i → has_storage (upper_of page) (item_of page j) ≡ true → place ≤ (item_of page j).off
above_by_last page i place j last before some upto storage = elim (cases_lt (i - 1) j) [
  | inr lower ↦ before j some lower storage
  | inl later ↦ let same : i ≡ j = omega arith in subst (λ (k : ℕ). has_storage (upper_of page) (item_of page k) ≡ true → place ≤ (item_of page k).off) same last storage
]

-- to a page's cells that are free no item was added
pub none_added : (page : List ℕ) (cells : Marking) → cells.marked ≡ 0 → cells.end ≡ 0 → AreMarked page 0 cells.taken → AreCells page 0 cells
none_added page cells none unknown free = record {
  some = omega (arith, none);
  right = rw none free;
  above = λ j some upto storage. absurd (omega arith);
  lies = λ some. absurd (omega (arith, some, unknown));
}

-- an item that lies between two places does so among more items
lies_on : (page : List ℕ) (n m lowest end : ℕ) → n ≤ m → LiesBetween page n lowest end → LiesBetween page m lowest end
lies_on page n m lowest end more lies = record {
  item = lies.item;
  first = lies.first;
  last = omega (arith, lies.last, more);
  placed = lies.placed;
  begins = lies.begins;
  ends = lies.ends;
}

-- an item without storage is added by leaving all as it is
pub skipped_at : (page : List ℕ) (i : ℕ) (cells : Marking) → 1 ≤ i → has_storage (upper_of page) (item_of page i) ≡ false → AreCells page (i - 1) cells → AreCells page i cells
skipped_at page i cells some none are = record {
  some = omega (arith, are.some);
  right = are.right;
  above = λ j. above_by_last page i cells.lowest j (λ storage. absurd (differ _ none storage)) are.above;
  lies = λ known. lies_on page (i - 1) i cells.lowest cells.end (omega arith) (are.lies known);
}

-- one item that p shares a byte with is enough
pub meets_one : (page : List ℕ) (n j : ℕ) (p : LinePtr) → 1 ≤ j → j ≤ n → has_storage (upper_of page) (item_of page j) ≡ true → shares_byte (item_of page j) p ≡ true → meets_item_below page n p ≡ true
unfolding meets_item_below
meets_one page zero j p first last storage shared = absurd (omega arith)
meets_one page (suc n) j p first last storage shared = elim (cases_lt j (suc n)) [
  | inl below ↦ or_first _ _ (meets_one page n j p first (omega (arith, below)) storage shared)
  | inr here ↦
      let same : j ≡ suc n = omega arith in
      let P : ℕ → Type 0 = λ k. (has_storage (upper_of page) (item_of page k) && shares_byte (item_of page k) p) ≡ true in
      or_second _ _ (subst P same (and_both _ _ storage shared))
]

-- an item that reaches above the lowest byte and begins below the end of the item there meets that item
pub meets_lowest : (page : List ℕ) (n lowest end : ℕ) (p : LinePtr) → LiesBetween page n lowest end → lowest < p.off + p.len → p.off < end → 1 ≤ p.len → meets_item_below page n p ≡ true
meets_lowest page n lowest end p lies above below some =
    let q = item_of page lies.item in
    let long = (placed (upper_of page) q lies.placed).long in
    meets_one page n lies.item p lies.first lies.last lies.placed (shared_by q.off q.len p.off p.len (omega (arith, above, lies.begins)) (omega (arith, below, lies.ends)) (omega (arith, long)) some)
  where
    shared_by : (a m b n : ℕ) → a < b + n → b < a + m → 1 ≤ m → 1 ≤ n → (nat_lt (max a b) (a + m) && nat_lt (max a b) (b + n)) ≡ true
    shared_by a m b n h k s t = grind (arith, common_steps)

-- an item that lies wholly below the items before it meets none of them
pub meets_none_above : (page : List ℕ) (n place : ℕ) (p : LinePtr) → p.off + p.len ≤ place → AreAbove page n place → meets_item_below page n p ≡ false
unfolding meets_item_below
meets_none_above page zero place p ends above = refl
meets_none_above page (suc n) place p ends above =
    let q = item_of page (suc n) in
    let before = meets_none_above page n place p ends (λ j some upto storage. above j some (omega (arith, upto)) storage) in
    none_by (meets_item_below page n p) (has_storage (upper_of page) q) q.off q.len p.off p.len place before ends (above (suc n) (omega arith) (omega arith))
  where
    none_by : (met storage : Bool) (a m b n place : ℕ) → met ≡ false → b + n ≤ place → (storage ≡ true → place ≤ a) → (met || (storage && (nat_lt (max a b) (a + m) && nat_lt (max a b) (b + n)))) ≡ false
    none_by true storage a m b n place e ends above = absurd (grind arith)
    none_by false false a m b n place e ends above = refl
    none_by false true a m b n place e ends above = let later = above refl in grind (arith, common_steps)

-- what the code's test of an item says of the page's item
pub item_test : (page : List ℕ) (i : ℕ) (header : PageHeader) (item : LinePtr) (test : Bool) → header ≡ header_of page → item ≡ item_of page i → test ≡ is_misplaced_heap_item header.upper item → is_misplaced_heap_item (upper_of page) (item_of page i) ≡ test
unfolding header_of
item_test page i header item test he it tested =
    sym (tested ∙ ap (λ (h : PageHeader). is_misplaced_heap_item h.upper item) he ∙ ap (is_misplaced_heap_item (upper_of page)) it)

pub other_item : (page : List ℕ) (i : ℕ) (item : LinePtr) (flag : LineFlag) → item ≡ item_of page i → item.flag ≡ flag → is_normal flag ≡ false → is_normal (item_of page i).flag ≡ false
other_item page i item flag it is none = rw (← it, is) none

-- and one that isn't normal has no cells
pub other_skipped : (page : List ℕ) (i : ℕ) (item : LinePtr) (flag : LineFlag) (cells : Marking) → 1 ≤ i → item ≡ item_of page i → item.flag ≡ flag → is_normal flag ≡ false → AreCells page (i - 1) cells → AreCells page i cells
other_skipped page i item flag cells some it is none are =
    skipped_at page i cells some (other_has_none (upper_of page) (item_of page i) (other_item page i item flag it is none)) are

-- The entries that are left up to an item.
use Rattle.std.proofs.Common.{◌≡◌, ◌≢◌, ℕ, ◌+◌, ◌≤◌, inl, inr, List, length, refl, ap, subst, sym, ◌∙◌, arith}
use Rattle.std.specs.Prelude.{◌==◌}
use Rattle.std.proofs.lemmas.Bool.{cases_lt, cond-false, cond-true, eq-eqb, ne_eqb}
use Rattle.page_layout.specs.Page.{count_of}
use Rattle.key_attrs.specs.Columns.{TreeColumns}
use Rattle.bt_image.specs.Image.{first_data}
use Rattle.bt_image.proofs.PageFields.{first_cases}
use Rattle.bt_steps.specs.Entries.{entries_before, keys_at, place_of}
use Rattle.bt_steps.proofs.Places.{before-first, before-next}
use Rattle.bt_search.specs.declared.spot.Spot.{Spot}
use Rattle.back_scan.specs.Leaves.{HasEntries, IsLastIfRead, IsLastUpTo}
use Rattle.back_scan.specs.Spots.{IsBackPlace, left_on}

-- The entries that are left

pub left-front : (columns : TreeColumns) (page : List ℕ) (item nth : ℕ) → item ≡ 0 → left_on columns page item nth ≡ 0
left-front columns page item nth none = cond-true (item == 0) 0 (place_of columns page item nth + 1) (eq-eqb item 0 none)

pub left-entry : (columns : TreeColumns) (page : List ℕ) (item nth : ℕ) → item ≢ 0 → left_on columns page item nth ≡ place_of columns page item nth + 1
left-entry columns page item nth some = cond-false (item == 0) 0 (place_of columns page item nth + 1) (ne_eqb item 0 some)

-- a spot with all entries up to an item left
pub record IsUpTo (columns : TreeColumns) (page : List ℕ) (i : ℕ) (spot : Spot) : Type 0 where
  pub left : left_on columns page spot.item spot.nth ≡ entries_before columns page (i + 1)
  pub place : IsBackPlace columns page spot.item spot.nth

pub up-to : (columns : TreeColumns) (page : List ℕ) (i : ℕ) (spot : Spot) → IsLastUpTo columns page i spot → first_data page ≤ i + 1 → i ≤ count_of page → IsUpTo columns page i spot
up-to columns page i spot last from to = elim (cases_lt i (first_data page)) [
  | inl less ↦
      let at = last.front less in
      let first : i + 1 ≡ first_data page = omega (arith, less, from) in
      record {
        left = left-front columns page spot.item spot.nth at.0 ∙ sym (ap (entries_before columns page) first ∙ before-first columns page);
        place = record {
          front = λ e. at.1;
          from = λ some. absurd (some at.0);
          last = λ some. absurd (some at.0);
          inside = λ some. absurd (some at.0);
        };
      }
  | inr more ↦
      let at = last.entry more in
      let one = first_cases page in
      let some : spot.item ≢ 0 = λ none. omega (arith, one, more, at.0, none) in
      let whole = left-entry columns page spot.item spot.nth some in
      let here : entries_before columns page spot.item ≡ entries_before columns page i = ap (entries_before columns page) at.0 in
      let next = before-next columns page i more in
      let count = at.1 in
      let same : length (keys_at columns page spot.item) ≡ length (keys_at columns page i) = ap (λ (k : ℕ). length (keys_at columns page k)) at.0 in
      record {
        left = omega (arith, whole, here, next, count);
        place = record {
          front = λ none. absurd (some none);
          from = λ e. omega (arith, at.0, more);
          last = λ e. omega (arith, at.0, to);
          inside = λ e. omega (arith, same, count);
        };
      }
]

-- the same of a page that is known by another name
pub last-there : (columns : TreeColumns) (p q : List ℕ) (i : ℕ) (spot : Spot) → p ≡ q → IsLastIfRead columns p i spot → (first_data q ≤ i → HasEntries columns q i) → IsLastUpTo columns q i spot
last-there columns p q i spot is last read = subst (λ (l : List ℕ). IsLastIfRead columns l i spot) is last read

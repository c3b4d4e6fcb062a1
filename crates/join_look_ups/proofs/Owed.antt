-- What rows give, one after another and block after block.
use Rattle.std.proofs.Common.{◌≡◌, ◌∙◌, ℕ, zero, suc, ◌+◌, ◌-◌, ◌≤◌, List, [], ◌∷◌, ◌++◌, length, refl, sym, ap, subst, arith, add-one, add-zero, add-suc, append-nil, append_assoc}
use Rattle.std.specs.Prelude.{Err, IsErrAnd, Ok, Result, Some}
use Rattle.outside.specs.Adds.{Begins, Leaves, each_below, one_list}
use Rattle.outside.specs.Outside.{Names}
use Rattle.outside.proofs.Adding.{Begins-cut, Leaves-added}
use Rattle.case_file.specs.Record.{CaseRecord}
use Rattle.reports.specs.Added.{doubt_at, finding_at, joined, nothing, report_lists}
use Rattle.reports.specs.Lists.{Lists}
use Rattle.reports.specs.declared.places.Place.{Place}
use Rattle.reports.specs.declared.places.Place.TheVariants.{Tuple}
use Rattle.reports.specs.declared.places.Reason.TheVariants.{U6}
use Rattle.page_layout.specs.declared.rules.Rule.{Rule}
use Rattle.std.specs.Prelude.{Bool, None, Option}
use Rattle.key_orders.specs.declared.columns.Value.{Value}
use Rattle.key_orders.specs.declared.Tid.{Tid}
use Rattle.bt_levels.specs.declared.sound.SoundTree.{SoundTree}
use Rattle.bt_levels.specs.Files.{number_of}
use Rattle.bt_levels.specs.Sound.{file_of, index_columns}
use Rattle.heap_table_check.specs.Case.{heap_blocks}
use Rattle.heap_rows.specs.declared.row_cursor.RowCursor.{RowCursor}
use Rattle.heap_rows.specs.declared.row_cursor.RowPlace.{RowPlace}
use Rattle.heap_rows.specs.declared.rows.LiveRow.{LiveRow}
use Rattle.heap_rows.specs.RowCursor.{IsCursorOf, IsPlaceOfFirst, rows_here}
use Rattle.heap_rows.specs.Rows.{block_rows, rows_of}
use Rattle.join_rules.specs.Lists.{missing_rule, row_lists, row_lists_by}
use Rattle.join_rules.specs.Rows.{key_numbers, more_numbers, values_at}
use Rattle.join_look_ups.specs.Looking.{has_entry}
use Rattle.join_look_ups.specs.Rows.{HasValues}
use Rattle.join_row_keys.specs.Rows.{IsFound}
use Rattle.join_look_ups.specs.Rows.{Settles, lists_of_row, owed_for, rows_from}

-- Rows

module _ (names : Names) (tree : SoundTree) where
  pub owed-none : owed_for names tree [] ≡ nothing
  unfolding owed_for
  owed-none = refl

  pub owed-first : (row : LiveRow) (rows : List LiveRow) → owed_for names tree (row ∷ rows) ≡ joined (lists_of_row names tree row) (owed_for names tree rows)
  unfolding owed_for
  owed-first row rows = refl

  pub owed-append : (xs ys : List LiveRow) → owed_for names tree (xs ++ ys) ≡ joined (owed_for names tree xs) (owed_for names tree ys)
  unfolding owed_for
  owed-append [] ys = refl
  owed-append (x ∷ xs) ys =
      ap (joined (lists_of_row names tree x)) (owed-append xs ys)
      ∙ sym (report_lists.in_turn (lists_of_row names tree x) (owed_for names tree xs) (owed_for names tree ys))

  -- the first row was judged, or a part of what it gives was added
  pub row-step : (row : LiveRow) (rows : List LiveRow) (old new : Lists) → new ≡ joined old (lists_of_row names tree row) → Leaves report_lists old new (owed_for names tree (row ∷ rows)) (owed_for names tree rows)
  row-step row rows old new now =
      subst (λ (l : Lists). Leaves report_lists old new l (owed_for names tree rows)) (sym (owed-first row rows))
      (Leaves-added report_lists old new (lists_of_row names tree row) (owed_for names tree rows) now)

  pub row-cut : (row : LiveRow) (rows : List LiveRow) (old new : Lists) → Begins report_lists old new (lists_of_row names tree row) → Begins report_lists old new (owed_for names tree (row ∷ rows))
  row-cut row rows old new begins =
      subst (λ (l : Lists). Begins report_lists old new l) (sym (owed-first row rows)) (Begins-cut report_lists (owed_for names tree rows) begins)

  -- a row whose values can be read, and one of which a value of the key, or an included one, can't
  pub valued-row : (row : LiveRow) (key more : List Value) (number : ℕ) (tid root : Tid) (found : Bool) (rule : Option Rule) → HasValues (index_columns tree) row key more → number ≡ number_of (file_of tree) → tid ≡ row.tid → root ≡ row.root → found ≡ has_entry names tree key more root → rule ≡ missing_rule found → finding_at (Tuple number tid) rule ≡ lists_of_row names tree row
  unfolding row_lists
  valued-row row key more number tid root found rule has same at from there what =
      (λ i. finding_at (Tuple (same i) (at i)) ((what ∙ ap missing_rule (there ∙ ap (has_entry names tree key more) from)) i))
      ∙ sym (λ i. row_lists_by (number_of (file_of tree)) (has_entry names tree) row (has.of_key i) (has.included i))

  pub packed-key : (row : LiveRow) (tid : Tid) → values_at (key_numbers (index_columns tree)) row.cells ≡ None → tid ≡ row.tid → doubt_at (Tuple (number_of (file_of tree)) tid) (Some U6) ≡ lists_of_row names tree row
  unfolding row_lists
  packed-key row tid is at =
      (λ i. doubt_at (Tuple (number_of (file_of tree)) (at i)) (Some U6))
      ∙ sym (ap (λ (o : Option (List Value)). row_lists_by (number_of (file_of tree)) (has_entry names tree) row o (values_at (more_numbers (index_columns tree)) row.cells)) is)

  pub packed-more : (row : LiveRow) (key : List Value) (tid : Tid) → values_at (key_numbers (index_columns tree)) row.cells ≡ Some key → values_at (more_numbers (index_columns tree)) row.cells ≡ None → tid ≡ row.tid → doubt_at (Tuple (number_of (file_of tree)) tid) (Some U6) ≡ lists_of_row names tree row
  unfolding row_lists
  packed-more row key tid of_key included at =
      (λ i. doubt_at (Tuple (number_of (file_of tree)) (at i)) (Some U6))
      ∙ sym (λ i. row_lists_by (number_of (file_of tree)) (has_entry names tree) row (of_key i) (included i))

-- what is added with a doubt
pub doubt-is : (old : Lists) (place : Place) → record { findings = old.findings; unjudged = old.unjudged ++ record { reason = U6; place = place } ∷ [] } ≡ joined old (doubt_at place (Some U6))
doubt-is old place = λ i. record { findings = sym (append-nil old.findings) i; unjudged = old.unjudged ++ record { reason = U6; place = place } ∷ [] }

-- the same that is left, or that was owed, by another name
pub left-is : {old new owed left other : Lists} → left ≡ other → Leaves report_lists old new owed left → Leaves report_lists old new owed other
left-is {old = old} {new = new} {owed = owed} is now = subst (λ (l : Lists). Leaves report_lists old new owed l) is now

pub owed-is : {old new owed other left : Lists} → owed ≡ other → Leaves report_lists old new owed left → Leaves report_lists old new other left
owed-is {old = old} {new = new} {left = left} is now = subst (λ (l : Lists). Leaves report_lists old new l left) is now

-- what a `?` hands on
pub Settles-exit : {T E : Type 0} (r : Result T E) (Q : E → Type 0) (old new owed left : Lists) → IsErrAnd r Q → Begins report_lists old new owed → Settles r old new owed left
Settles-exit (Ok x) Q old new owed left h begins = absurd h
Settles-exit (Err y) Q old new owed left h begins = begins

-- The row that is found

pub found-row : (names : Names) (cursor : RowCursor) (place : RowPlace) → IsCursorOf names cursor → IsPlaceOfFirst (Some place) (rows_here names cursor) → (row : LiveRow) × IsFound names cursor place row
found-row names cursor place are first = go (rows_here names cursor) refl first
  where
    go : (xs : List LiveRow) → rows_here names cursor ≡ xs → IsPlaceOfFirst (Some place) xs → (row : LiveRow) × IsFound names cursor place row
    go [] is first = absurd first
    go (row ∷ rows) is first = (row, record { cursor_of = are; rows = rows; here = is; tid = first.0; root = first.1 })

pub none-left : {X : Type 0} (xs : List X) → length xs ≤ 0 → xs ≡ []
none-left [] le = refl
none-left (x ∷ xs) le = absurd (omega arith)

-- Blocks

module _ (case : CaseRecord) (names : Names) (first : ℕ) where
  pub rows-none : rows_from case names first 0 ≡ []
  unfolding rows_from each_below
  rows-none = refl

  pub rows-next : (n : ℕ) → rows_from case names first (n + 1) ≡ rows_from case names first n ++ block_rows case names (first + n)
  unfolding rows_from each_below
  rows-next n = rw add-one refl

  pub rows-more : (n m : ℕ) → rows_from case names first (n + m) ≡ rows_from case names first n ++ rows_from case names (first + n) m
  unfolding rows_from each_below
  rows-more n zero = rw (add-zero, append-nil) refl
  rows-more n (suc m) =
      let rows : ℕ → List LiveRow = block_rows case names in
      rw add-suc
      (ap (λ (xs : List LiveRow). xs ++ rows (first + (n + m))) (rows-more n m)
      ∙ ap (λ (b : ℕ). (rows_from case names first n ++ rows_from case names (first + n) m) ++ rows b) (omega arith)
      ∙ append_assoc (rows_from case names first n) (rows_from case names (first + n) m) (rows (first + n + m)))

  -- what they give is what each block gives
  pub blocks-owed : (tree : SoundTree) (n : ℕ) → owed_for names tree (rows_from case names first n) ≡ each_below report_lists (λ k. owed_for names tree (block_rows case names (first + k))) n
  unfolding rows_from each_below
  blocks-owed tree zero = owed-none names tree
  blocks-owed tree (suc n) =
      owed-append names tree (rows_from case names first n) (block_rows case names (first + n))
      ∙ ap (λ (l : Lists). joined l (owed_for names tree (block_rows case names (first + n)))) (blocks-owed tree n)

from-zero : (k : ℕ) → 0 + k ≡ k
from-zero k = omega arith

-- all
pub rows-all : (case : CaseRecord) (names : Names) → rows_from case names 0 (heap_blocks case names) ≡ rows_of case names
unfolding rows_from rows_of
rows-all case names = ap (λ (f : ℕ → List LiveRow). each_below one_list f (heap_blocks case names)) (λ i k. block_rows case names (from-zero k i))

-- those up to a block, and those from it up to another
pub owed-upto : (case : CaseRecord) (names : Names) (tree : SoundTree) (n m : ℕ) → n ≤ m → joined (owed_for names tree (rows_from case names 0 n)) (owed_for names tree (rows_from case names n (m - n))) ≡ owed_for names tree (rows_from case names 0 m)
owed-upto case names tree n m le =
    let whole : n + (m - n) ≡ m = omega (arith, le) in
    sym (owed-append names tree (rows_from case names 0 n) (rows_from case names n (m - n)))
    ∙ ap (owed_for names tree)
    (ap (λ (b : ℕ). rows_from case names 0 n ++ rows_from case names b (m - n)) (sym (from-zero n))
    ∙ sym (rows-more case names 0 n (m - n)) ∙ ap (rows_from case names 0) whole)

-- what was owed was added, and more is owed
pub settled-more : (old mid owed more : Lists) → mid ≡ joined old owed → joined mid more ≡ joined old (joined owed more)
settled-more old mid owed more was = ap (λ (l : Lists). joined l more) was ∙ report_lists.in_turn old owed more

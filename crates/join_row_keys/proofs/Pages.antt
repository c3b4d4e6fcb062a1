-- The pages of a heap in which nothing was found: none breaks a rule of its own, so no block has more rows than 2042.
use Rattle.std.proofs.Common.{◌≡◌, ◌∙◌, ℕ, zero, suc, ◌-◌, ◌*◌, ◌/◌, ◌%◌, ◌<◌, ◌≤◌, Bool, true, false, List, [], ◌∷◌, length, refl, ap, arith, length-append}
use Rattle.std.specs.Prelude.{Option, Some, None, not, ◌&&◌, ◌==◌, ◌||◌, nat_le, if◌then◌else◌}
use Rattle.std.proofs.lemmas.Bool.Decides.{nat_tests}
use Rattle.outside.specs.Adds.{each_below, one_list}
use Rattle.outside.specs.Outside.{Names}
use Rattle.page_layout.specs.Page.{count_of, has_bad_places, has_good_places, has_other_version, has_unknown_page_flag, is_new, is_new_but_written, lower_of, page_rule_of, special_of, upper_of}
use Rattle.page_layout.specs.declared.page.PageKind.TheVariants.{Heap}
use Rattle.page_layout.specs.declared.rules.Rule.{Rule}
use Rattle.page_layout.specs.declared.rules.Rule.TheVariants.{P1, P2, P3, P4}
use Rattle.rel_files.specs.Relation.{count_of as blocks_in}
use Rattle.key_orders.specs.declared.Tid.{Tid}
use Rattle.case_file.specs.Record.{CaseRecord}
use Rattle.reports.specs.Added.{each_upto}
use Rattle.heap_targets.specs.Targets.{TellsOfPages, is_in}
use Rattle.heap_page_check.specs.declared.verdict.ItemVerdict.{ItemVerdict}
use Rattle.heap_page_check.specs.declared.verdict.ItemVerdict.TheVariants.{Passes, Breaks, InDoubt}
use Rattle.heap_page_check.specs.Verdicts.{item_verdict}
use Rattle.heap_table_check.specs.Case.{heap_blocks, heap_page, table_of}
use Rattle.heap_table_check.specs.Files.{BelongTo, IsSoundHeapOf, files_of, heap_in, targets_in}
use Rattle.heap_table_check.specs.declared.files.SoundHeap.{SoundHeap}
use Rattle.heap_rows.specs.declared.rows.LiveRow.{LiveRow}
use Rattle.heap_rows.specs.Rows.{block_rows, item_rows, page_rows, row_at, row_by, rows_by_rule, rows_of}
use Rattle.join_rules.specs.Entries.{may_be_named}

-- A page without a broken rule has at most 2042 items

no-bad-place : (v f b w : Bool) → ◌≡◌ {A = Option Rule} (if v then Some P1 else if f then Some P2 else if b then Some P3 else if w then Some P4 else None) None → b ≡ false
no-bad-place true f b w e = absurd cc
no-bad-place false true b w e = absurd cc
no-bad-place false false true w e = absurd cc
no-bad-place false false false w e = refl

few-below : (lower upper special : ℕ) (whole : Bool) → (nat_le 24 lower && nat_le lower upper && nat_le upper special && (special == 8192) && whole) ≡ true → (lower - 24) / 4 ≤ 2042
few-below lower upper special whole good = grind (arith, nat_tests)

few-by : (new good : Bool) (n : ℕ) → (not new && not good) ≡ false → (good ≡ true → n ≤ 2042) → (if new then 0 else n) ≤ 2042
few-by true good n kept few = omega arith
few-by false true n kept few = few refl
few-by false false n kept few = absurd cc

pub few-items : (page : List ℕ) → page_rule_of Heap page ≡ None → count_of page ≤ 2042
unfolding page_rule_of count_of
few-items page kept =
    few-by (is_new page) (has_good_places Heap page) ((lower_of page - 24) / 4)
    (no-bad-place (has_other_version page) (has_unknown_page_flag page) (has_bad_places Heap page) (is_new_but_written page) kept)
    (few-below (lower_of page) (upper_of page) (special_of page) (not true || ((lower_of page - 24) % 4 == 0)))

-- The rows of a block, and of all

one-row : (v : ItemVerdict) (row : LiveRow) → length (row_by v row) ≤ 1
one-row (Passes state) row = go _
  where
    go : (live : Bool) → length (if live then row ∷ [] else []) ≤ 1
    go true = omega arith
    go false = omega arith
one-row (Breaks rule) row = omega arith
one-row (InDoubt reason) row = omega arith

rows-upto : {X : Type 0} (f : ℕ → List X) (n : ℕ) → ((i : ℕ) → length (f i) ≤ 1) → length (each_upto one_list f n) ≤ n
unfolding each_upto
rows-upto f zero each = omega arith
rows-upto f (suc n) each =
    let before = rows-upto f n each in
    let here = each (suc n) in
    let both = length-append (each_upto one_list f n) (f (suc n)) in
    omega arith

rows-below : {X : Type 0} (f : ℕ → List X) (n m : ℕ) → ((k : ℕ) → k < n → length (f k) ≤ m) → length (each_below one_list f n) ≤ m * n
unfolding each_below
rows-below f zero m each = omega arith
rows-below f (suc n) m each =
    let before = rows-below f n m (λ k lt. each k (omega arith)) in
    let here = each n (omega arith) in
    let both = length-append (each_below one_list f n) (f n) in
    grind arith

module _ (case : CaseRecord) (names : Names) where
  item-few : (block : ℕ) (page : List ℕ) (i : ℕ) → length (item_rows case names block page i) ≤ 1
  unfolding item_rows
  item-few block page i = one-row (item_verdict (table_of case names) page i) (row_at case names block page i)

  page-few : (block : ℕ) (page : List ℕ) (rule : Option Rule) → page_rule_of Heap page ≡ rule → length (rows_by_rule rule (each_upto one_list (item_rows case names block page) (count_of page))) ≤ 2042
  page-few block page (Some rule) is = omega arith
  page-few block page None is =
      let few = few-items page is in
      let rows = rows-upto (item_rows case names block page) (count_of page) (item-few block page) in
      omega arith

  pub block-few : (block : ℕ) → length (block_rows case names block) ≤ 2042
  unfolding block_rows page_rows
  block-few block = page-few block (heap_page case names block) (page_rule_of Heap (heap_page case names block)) refl

  pub rows-few : length (rows_of case names) ≤ 2042 * heap_blocks case names
  unfolding rows_of
  rows-few = rows-below (block_rows case names) (heap_blocks case names) 2042 (λ k lt. block-few k)

-- The blocks of a sound heap

module _ (case : CaseRecord) (names : Names) (heap : SoundHeap) (belong : BelongTo case (files_of heap)) (sound : IsSoundHeapOf case names heap) where
  pub count-is : blocks_in (heap_in heap) ≡ heap_blocks case names
  unfolding heap_blocks
  count-is = sound.files.heap.count

  -- the set says of each entry whether it may be named
  pub set-says : (set : List (List Bool)) → set ≡ targets_in heap → ((tid : Tid) → TellsOfPages (heap_page case names) (heap_blocks case names) tid) → (tid : Tid) → is_in set tid ≡ may_be_named case names tid
  set-says set is tells tid = ap (λ (s : List (List Bool)). is_in s tid) (is ∙ sound.targets) ∙ tells tid

-- The rows of a heap, block by block: where each stands, and that they rise.
use Rattle.std.proofs.Common.{◌≡◌, ℕ, zero, suc, ◌<◌, inl, inr, Bool, true, false, List, [], ◌∷◌, ◌++◌, get_or, refl, sym, subst, arith}
use Rattle.std.specs.Prelude.{All, AllPairs, Contains, Option, Some, None, if◌then◌else◌}
use Rattle.std.proofs.lemmas.Bool.{cases_lt}
use Rattle.std.proofs.lemmas.List.{get_or_append_left, length-append}
use Rattle.std.proofs.lemmas.List.Elements.{All-contains, All-cons, All-nil, Contains-append_cases}
use Rattle.outside.specs.Adds.{each_below, one_list}
use Rattle.outside.specs.Outside.{Names}
use Rattle.page_layout.specs.Page.{count_of, page_rule_of}
use Rattle.page_layout.specs.declared.page.PageKind.TheVariants.{Heap}
use Rattle.page_layout.specs.declared.rules.Rule.{Rule}
use Rattle.case_file.specs.Record.{CaseRecord}
use Rattle.hot_chains.specs.Chains.{is_live_tuple}
use Rattle.reports.proofs.Parts.{All-upto, among_below}
use Rattle.heap_page_check.specs.declared.verdict.ItemVerdict.{ItemVerdict}
use Rattle.heap_page_check.specs.declared.verdict.ItemVerdict.TheVariants.{Breaks, InDoubt, Passes}
use Rattle.heap_page_check.specs.Verdicts.{item_verdict}
use Rattle.heap_table_check.specs.Case.{heap_blocks, table_of}
use Rattle.heap_rows.specs.declared.rows.LiveRow.{LiveRow}
use Rattle.heap_rows.specs.RowLaws.{IsBefore, TidsRise}
use Rattle.heap_rows.specs.Rows.{block_rows, heap_page, item_rows, page_rows, row_at, row_by, rows_by_rule, rows_of}
use Rattle.bt_steps.proofs.Members.{none-in}

-- A list in parts

pub left-pairs : {X : Type 0} (R : X → X → Type 0) (xs ys : List X) → AllPairs R (xs ++ ys) → AllPairs R xs
left-pairs R xs ys pairs = λ i j d lt within.
    subst (λ x. R x (get_or xs j d)) (get_or_append_left xs ys d i (omega (arith, lt, within)))
    (subst (λ y. R (get_or (xs ++ ys) i d) y) (get_or_append_left xs ys d j within)
    (pairs i j d lt (let all = length-append xs ys in omega (arith, within, all))))

pub right-pairs : {X : Type 0} (R : X → X → Type 0) (xs ys : List X) → AllPairs R (xs ++ ys) → AllPairs R ys
right-pairs R [] ys pairs = pairs
right-pairs R (x ∷ xs) ys pairs = right-pairs R xs ys (λ i j d lt within. pairs (suc i) (suc j) d (omega (arith, lt)) (omega (arith, within)))

pub part-pairs : {X : Type 0} (R : X → X → Type 0) (f : ℕ → List X) (n k : ℕ) → k < n → AllPairs R (each_below one_list f n) → AllPairs R (f k)
unfolding each_below
part-pairs R f zero k lt pairs = absurd (omega (arith, lt))
part-pairs R f (suc n) k lt pairs = elim (cases_lt k n) [
  | inl low ↦ part-pairs R f n k low (left-pairs R (each_below one_list f n) (f n) pairs)
  | inr high ↦ let same : n ≡ k = omega (arith, lt, high) in subst (λ m. AllPairs R (f m)) same (right-pairs R (each_below one_list f n) (f n) pairs)
]

-- a member of all is one of a part
pub part-in : {X : Type 0} (f : ℕ → List X) (n : ℕ) (x : X) → Contains (each_below one_list f n) x → (k : ℕ) × (k < n) × Contains (f k) x
unfolding each_below
part-in f zero x among = absurd (none-in x [] refl among)
part-in f (suc n) x among = elim (Contains-append_cases (each_below one_list f n) (f n) x among) [
  | inl low ↦ let at = part-in f n x low in (at.0, (let lt = at.1 in omega (arith, lt)), at.2)
  | inr here ↦ (n, omega arith, here)
]

-- The block of a row

where_live : (P : LiveRow → Type 0) (row : LiveRow) (live : Bool) → P row → All P (if live then row ∷ [] else [])
where_live P row true holds = All-cons P row [] holds (All-nil P)
where_live P row false holds = All-nil P

by_verdict : (P : LiveRow → Type 0) (row : LiveRow) (v : ItemVerdict) → P row → All P (row_by v row)
by_verdict P row (Passes state) holds = where_live P row (is_live_tuple state) holds
by_verdict P row (Breaks rule) holds = All-nil P
by_verdict P row (InDoubt reason) holds = All-nil P

by_rule : (P : LiveRow → Type 0) (rule : Option Rule) (rows : List LiveRow) → All P rows → All P (rows_by_rule rule rows)
by_rule P (Some rule) rows all = All-nil P
by_rule P None rows all = all

module _ (case : CaseRecord) (names : Names) where
  item-block : (block i : ℕ) (page : List ℕ) → All (λ row. row.tid.block ≡ block) (item_rows case names block page i)
  unfolding item_rows row_at
  item-block block i page = by_verdict (λ row. row.tid.block ≡ block) (row_at case names block page i) (item_verdict (table_of case names) page i) refl

  block-all : (block : ℕ) → All (λ row. row.tid.block ≡ block) (block_rows case names block)
  unfolding block_rows page_rows
  block-all block =
      let page = heap_page case names block in
      by_rule (λ row. row.tid.block ≡ block) (page_rule_of Heap page) _
      (All-upto one_list (λ l. l) refl (λ a b. refl) (λ row. row.tid.block ≡ block) (item_rows case names block page) (count_of page) (λ i first last. item-block block i page))

  pub of-block : (block : ℕ) (row : LiveRow) → block < heap_blocks case names → Contains (block_rows case names block) row → Contains (rows_of case names) row × (row.tid.block ≡ block)
  unfolding rows_of
  of-block block row below among = (
    among_below one_list (λ l. l) refl (λ a b. refl) (block_rows case names) (heap_blocks case names) block row below among,
    All-contains (λ (r : LiveRow). r.tid.block ≡ block) (block_rows case names block) row (block-all block) among,
  )

  pub in-block : (row : LiveRow) → Contains (rows_of case names) row → (row.tid.block < heap_blocks case names) × Contains (block_rows case names row.tid.block) row
  unfolding rows_of
  in-block row among =
      let at = part-in (block_rows case names) (heap_blocks case names) row among in
      let here = All-contains (λ (r : LiveRow). r.tid.block ≡ at.0) (block_rows case names at.0) row (block-all at.0) at.2 in
      ((let lt = at.1 in omega (arith, lt, here)), subst (λ (b : ℕ). Contains (block_rows case names b) row) (sym here) at.2)

  pub block-rises : TidsRise (rows_of case names) → (block : ℕ) → block < heap_blocks case names → AllPairs (λ row later. IsBefore row.tid later.tid) (block_rows case names block)
  unfolding rows_of
  block-rises rise block below = part-pairs (λ (row later : LiveRow). IsBefore row.tid later.tid) (block_rows case names) (heap_blocks case names) block below rise

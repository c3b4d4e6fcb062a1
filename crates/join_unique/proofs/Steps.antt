-- One step of what goes through entries and rows.
use Rattle.std.proofs.Common.{◌≡◌, ◌∙◌, ◌/◌, ◌≤◌, ◌<◌, ℕ, Bool, true, false, List, [], ◌∷◌, length, map, refl, ap, sym, arith}
use Rattle.std.specs.Prelude.{Option, Some, cond, ◌==◌, ◌&&◌, ◌||◌, nat_le, nat_lt}
use Rattle.std.specs.List.{list_any}
use Rattle.std.proofs.lemmas.Bool.Decides.{nat_tests}
use Rattle.std.proofs.lemmas.Bool.{and_from, and_left, and_right, cond-false, cond-true, le-leb, le-ltb}
use Rattle.outside.specs.Counting.{one_more}
use Rattle.outside.specs.Outside.{Names}
use Rattle.key_orders.specs.declared.columns.Value.{Value}
use Rattle.key_orders.specs.declared.Tid.{Tid}
use Rattle.key_storage.specs.Same.{same_key}
use Rattle.key_storage.specs.Stored.{key_read}
use Rattle.page_layout.specs.Bits.{is_set}
use Rattle.bt_levels.specs.Sound.{index_columns}
use Rattle.rel_files.specs.Relation.{count_of}
use Rattle.laws_search.specs.Keys.{Entry}
use Rattle.heap_table_check.specs.Files.{heap_in}
use Rattle.heap_rows.specs.Rows.{block_rows}
use Rattle.heap_rows.specs.declared.rows.LiveRow.{LiveRow}
use Rattle.case_file.specs.declared.case.Unique.{Unique}
use Rattle.join_rules.specs.Unique.{counts}
use Rattle.join_rules.specs.Rows.{key_numbers, values_at}
use Rattle.join_unique.specs.declared.grouping.Grouping.{Grouping}
use Rattle.join_unique.specs.Groups.{Group, Met, Table, begun, block_met, closed, entry_met, has_key, leaves_block, named, next_count, opened, row_met, rows_met, tid_met, with_row}
use Rattle.join_unique.specs.Roots.{is_root_in, may_be, place_of}
use Rattle.join_unique.specs.Tables.{group_after, table_for, table_seen}

pub any_mapped : {X Y : Type 0} (p : Y → Bool) (f : X → Y) (xs : List X) → list_any p (map f xs) ≡ list_any (λ x. p (f x)) xs
any_mapped p f [] = refl
any_mapped p f (x ∷ xs) = ap (λ (t : Bool). p (f x) || t) (any_mapped p f xs)

pub empty-key : key_read [] ≡ []
unfolding key_read
empty-key = refl

-- Bits of roots

swapped : (a b c : Bool) → (a || (b || c)) ≡ (b || (a || c))
swapped true true c = refl
swapped true false c = refl
swapped false true c = refl
swapped false false c = refl

pub root-set : (old new : List ℕ) (place : ℕ) → length new ≡ length old → ((p : ℕ) → is_set new p ≡ ((p == place) || is_set old p)) → (t : Tid) → may_be new t ≡ ((place_of t == place) || may_be old t)
unfolding may_be
root-set old new place long set t =
    (λ i. nat_le (long i) (place_of t / 8) || set (place_of t) i)
    ∙ swapped (nat_le (length old) (place_of t / 8)) (place_of t == place) (is_set old (place_of t))

pub root-past : (bits : List ℕ) (place : ℕ) → length bits ≤ place / 8 → (t : Tid) → may_be bits t ≡ ((place_of t == place) || may_be bits t)
unfolding may_be
root-past bits place past t = go (place_of t == place) refl
  where
    go : (b : Bool) → (place_of t == place) ≡ b → (nat_le (length bits) (place_of t / 8) || is_set bits (place_of t)) ≡ (b || (nat_le (length bits) (place_of t / 8) || is_set bits (place_of t)))
    go false is = refl
    go true is =
        let same : place_of t ≡ place = grind (arith, nat_tests, is) in
        let high : nat_le (length bits) (place_of t / 8) ≡ true = ap (λ (q : ℕ). nat_le (length bits) (q / 8)) same ∙ le-leb (length bits) (place / 8) past in
        ap (λ (b : Bool). b || is_set bits (place_of t)) high

lt-true : (a b : ℕ) → a < b → nat_lt a b ≡ true
lt-true a b lt = grind (arith, nat_tests, lt)

-- A row

-- the same group with what it is after a row
pub same-met : (g : Group) (m : Met) → g.met ≡ m → g ≡ record g { met = m }
same-met g m e = λ i. record { key = g.key; counted = g.counted; count = g.count; block = g.block; met = e i; looks = g.looks }

module _ (names : Names) (grouping : Grouping) where
  abbrev cells_key : LiveRow → Option (List Value)
  cells_key row = values_at (key_numbers (index_columns grouping.index.at.tree.now)) row.cells

  pub row-with : (g : Group) (row : LiveRow) (key : List Value) (tid : Tid) → cells_key row ≡ Some key → same_key g.key key ≡ true → tid ≡ row.tid → record g { met = with_row tid g.met } ≡ record g { met = row_met (table_seen names grouping) g.key row g.met }
  unfolding row_met table_for
  row-with g row key tid is same at =
      let has : has_key g.key (cells_key row) ≡ true = ap (has_key g.key) is ∙ same in
      λ i. record g { met = (ap (λ (u : Tid). with_row u g.met) at ∙ sym (cond-true (has_key g.key (cells_key row)) (with_row row.tid g.met) g.met has)) i }

  pub row-without : (g : Group) (row : LiveRow) (o : Option (List Value)) → o ≡ cells_key row → has_key g.key o ≡ false → g ≡ record g { met = row_met (table_seen names grouping) g.key row g.met }
  unfolding row_met table_for
  row-without g row o is none =
      let not-had : has_key g.key (cells_key row) ≡ false = ap (has_key g.key) (sym is) ∙ none in
      same-met g _ (sym (cond-false (has_key g.key (cells_key row)) (with_row row.tid g.met) g.met not-had))

-- after no rows
pub after-none : (t : Table) (g : Group) (rows : List LiveRow) → rows ≡ [] → g ≡ group_after t g rows
after-none t g rows none = sym (ap (group_after t g) none)

pub none-left : {X : Type 0} (xs : List X) → length xs ≤ 0 → xs ≡ []
none-left [] le = refl
none-left (x ∷ xs) le = absurd (omega arith)

-- A block

block-skipped : (names : Names) (grouping : Grouping) (g : Group) → count_of (heap_in grouping.index.at.heap.now) ≤ g.block → g ≡ record g { met = block_met (table_seen names grouping) g }
unfolding table_for
block-skipped names grouping g past =
    let blocks = count_of (heap_in grouping.index.at.heap.now) in
    same-met g _ (ap (λ (b : Bool). rows_met (table_seen names grouping) g.key (cond b (block_rows grouping.index.at.case.now names g.block) []) g.met) (sym (le-ltb g.block blocks past)))

block-gone : (names : Names) (grouping : Grouping) (g new : Group) (rows : List LiveRow) → g.block < count_of (heap_in grouping.index.at.heap.now) → rows ≡ block_rows grouping.index.at.case.now names g.block
    → new ≡ group_after (table_seen names grouping) g rows → new ≡ record g { met = block_met (table_seen names grouping) g }
unfolding table_for
block-gone names grouping g new rows inside are is =
    let blocks = count_of (heap_in grouping.index.at.heap.now) in
    let all : rows ≡ cond (nat_lt g.block blocks) (block_rows grouping.index.at.case.now names g.block) [] = are ∙ sym (cond-true (nat_lt g.block blocks) (block_rows grouping.index.at.case.now names g.block) [] (lt-true g.block blocks inside)) in
    is ∙ ap (λ (rs : List LiveRow). group_after (table_seen names grouping) g rs) all

-- where it is counted first
pub block-past : (names : Names) (grouping : Grouping) (g m : Group) → m ≡ record g { looks = one_more g.looks } → count_of (heap_in grouping.index.at.heap.now) ≤ g.block
    → m ≡ record g { met = block_met (table_seen names grouping) g; looks = one_more g.looks }
block-past names grouping g m is past = is ∙ block-skipped names grouping (record g { looks = one_more g.looks }) past

pub block-here : (names : Names) (grouping : Grouping) (g m new : Group) (rows : List LiveRow) → m ≡ record g { looks = one_more g.looks } → g.block < count_of (heap_in grouping.index.at.heap.now)
    → rows ≡ block_rows grouping.index.at.case.now names g.block → new ≡ group_after (table_seen names grouping) m rows → new ≡ record g { met = block_met (table_seen names grouping) g; looks = one_more g.looks }
block-here names grouping g m new rows is inside are after =
    block-gone names grouping (record g { looks = one_more g.looks }) new rows inside are (after ∙ ap (λ (n : Group). group_after (table_seen names grouping) n rows) is)

-- A group

module _ (t : Table) where
  pub closed-more : (g : Group) → nat_lt 1 g.count ≡ true → record g { met = block_met t g; looks = one_more g.looks } ≡ closed t g
  unfolding closed
  closed-more g more = λ i. record g {
    met = sym (cond-true (nat_lt 1 g.count) (block_met t g) g.met more) i;
    looks = sym (cond-true (nat_lt 1 g.count) (one_more g.looks) g.looks more) i;
  }

  pub closed-few : (g : Group) → nat_lt 1 g.count ≡ false → g ≡ closed t g
  unfolding closed
  closed-few g few = λ i. record g {
    met = sym (cond-false (nat_lt 1 g.count) (block_met t g) g.met few) i;
    looks = sym (cond-false (nat_lt 1 g.count) (one_more g.looks) g.looks few) i;
  }

  pub opened-same : (g : Group) (key : List Value) → same_key g.key key ≡ true → g ≡ opened t key g
  unfolding opened
  opened-same g key is = sym (cond-true (same_key g.key key) g (begun t key (closed t g)) is)

  pub opened-new : (g m : Group) (key : List Value) (unique : Unique) → same_key g.key key ≡ false → m ≡ closed t g → unique ≡ t.unique
      → record { key = key; counted = counts unique key; count = 0; block = m.block; met = record { some = false; later = m.met.later }; looks = m.looks } ≡ opened t key g
  unfolding opened
  opened-new g m key unique is closes kind =
      (λ i. record { key = key; counted = counts (kind i) key; count = 0; block = (closes i).block; met = record { some = false; later = (closes i).met.later }; looks = (closes i).looks })
      ∙ sym (cond-false (same_key g.key key) g (begun t key (closed t g)) is)

  pub tid-uncounted : (g : Group) (tid : Tid) → g.counted ≡ false → g ≡ tid_met t tid g
  unfolding tid_met
  tid-uncounted g tid none = sym (cond-false (g.counted && t.may_root tid) (named t tid g) g (and_left g.counted (t.may_root tid) none))

  pub tid-none : (g : Group) (tid : Tid) → t.may_root tid ≡ false → g ≡ tid_met t tid g
  unfolding tid_met
  tid-none g tid none = sym (cond-false (g.counted && t.may_root tid) (named t tid g) g (and_right g.counted (t.may_root tid) none))

  named-is : (g : Group) (tid : Tid) → g.counted ≡ true → t.may_root tid ≡ true → named t tid g ≡ tid_met t tid g
  unfolding tid_met
  named-is g tid counted may = sym (cond-true (g.counted && t.may_root tid) (named t tid g) g (and_from g.counted (t.may_root tid) counted may))

  pub tid-leaves : (g m : Group) (tid : Tid) → g.counted ≡ true → t.may_root tid ≡ true → leaves_block tid.block g ≡ true → m ≡ record g { met = block_met t g; looks = one_more g.looks }
      → record m { count = next_count m.count; block = tid.block } ≡ tid_met t tid g
  unfolding named
  tid-leaves g m tid counted may leaves is =
      ap (λ (n : Group). record n { count = next_count n.count; block = tid.block }) is
      ∙ (λ i. record {
        key = g.key;
        counted = g.counted;
        count = next_count g.count;
        block = tid.block;
        met = sym (cond-true (leaves_block tid.block g) (block_met t g) g.met leaves) i;
        looks = sym (cond-true (leaves_block tid.block g) (one_more g.looks) g.looks leaves) i;
      })
      ∙ named-is g tid counted may

  pub tid-stays : (g m : Group) (tid : Tid) → g.counted ≡ true → t.may_root tid ≡ true → leaves_block tid.block g ≡ false → m ≡ g
      → record m { count = next_count m.count; block = tid.block } ≡ tid_met t tid g
  unfolding named
  tid-stays g m tid counted may stays is =
      ap (λ (n : Group). record n { count = next_count n.count; block = tid.block }) is
      ∙ (λ i. record {
        key = g.key;
        counted = g.counted;
        count = next_count g.count;
        block = tid.block;
        met = sym (cond-false (leaves_block tid.block g) (block_met t g) g.met stays) i;
        looks = sym (cond-false (leaves_block tid.block g) (one_more g.looks) g.looks stays) i;
      })
      ∙ named-is g tid counted may

  pub entry-is : (e : Entry Value Tid) (g m new : Group) (key : List Value) (tid : Tid) → key ≡ e.values → tid ≡ e.tid → m ≡ opened t key g → new ≡ tid_met t tid m → new ≡ entry_met t e g
  unfolding entry_met
  entry-is e g m new key tid same at opens takes = takes ∙ (λ i. tid_met t (at i) ((opens ∙ ap (λ k. opened t k g) same) i))

-- what the table has of the index's kind, and of what may be a root
pub kind-is : (names : Names) (grouping : Grouping) → grouping.unique ≡ (table_seen names grouping).unique
unfolding table_for
kind-is names grouping = refl

pub may-is : (names : Names) (grouping : Grouping) (tid : Tid) → (table_seen names grouping).may_root tid ≡ is_root_in grouping.roots.now tid
unfolding table_for
may-is names grouping tid = refl

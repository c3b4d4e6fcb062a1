-- Rows that are kept under their roots, with their values.
use Rattle.std.proofs.Common.{◌≡◌, ◌≢◌, ◌∙◌, ◌+◌, ◌-◌, ◌==◌, ◌&&◌, ◌<◌, ℕ, zero, suc, Bool, true, false, List, [], ◌∷◌, ◌++◌, append_assoc, arith, get_or, length, length-append, nat_le, refl, subst, sym, ap}
use Rattle.std.specs.Prelude.{All, None, Option, Some, cond, slice_get}
use Rattle.std.proofs.lemmas.Bool.{eqb-true, le-leb, leb-true}
use Rattle.std.proofs.lemmas.Bool.Decides.{nat_tests}
use Rattle.std.proofs.lemmas.List.Elements.{All-append, All-cons, All-head, All-nil, All-push, All-tail, All-weaker, Contains-append_left, Contains-append_right, Contains-push}
use Rattle.outside.specs.Outside.{Names}
use Rattle.key_orders.specs.declared.columns.Value.{Value}
use Rattle.key_orders.specs.declared.Tid.{Tid}
use Rattle.key_attrs.specs.Columns.{TreeColumns}
use Rattle.bt_levels.specs.declared.sound.SoundTree.{SoundTree}
use Rattle.bt_levels.specs.Files.{number_of}
use Rattle.bt_levels.specs.Sound.{file_of, index_columns}
use Rattle.reports.specs.Added.{finding_at, joined, nothing}
use Rattle.reports.specs.declared.places.Place.TheVariants.{Tuple}
use Rattle.heap_rows.specs.declared.row_cells.Cell.{Cell}
use Rattle.heap_rows.specs.declared.rows.LiveRow.{LiveRow}
use Rattle.heap_rows.specs.declared.row_cells.Cell.TheVariants.{Held}
use Rattle.heap_rows.specs.declared.row_values.AskedColumns.{AskedColumns}
use Rattle.heap_rows.specs.PageRows.{ArePageRows, IsPageRow}
use Rattle.join_rules.specs.Lists.{missing_rule, row_lists, row_lists_by}
use Rattle.join_rules.specs.Rows.{key_numbers, more_numbers, values_at, with_value}
use Rattle.join_rules.proofs.Alive.{tid-is, tid-same}
use Rattle.join_leaf_pass.specs.Passes.{AreTargets}
use Rattle.join_slots.proofs.SlotLaws.{both}
use Rattle.heap_targets.specs.Targets.{is_in}
use Rattle.join_slots.specs.Met.{Keys, same_tid}
use Rattle.join_slots.specs.Slots.{AreAllMet, Tables, is_item_of, keys_in, keys_with_rows}
use Rattle.join_look_ups.specs.Judging.{MetHave}
use Rattle.join_look_ups.specs.Looking.{has_entry}
use Rattle.heap_indexed.specs.Meetings.{HasRoots, IsKeptRow, IsPut, IsRootIn}
use Rattle.join_look_ups.specs.Rows.{lists_of_row, owed_for}
use Rattle.join_row_keys.proofs.KeyLaws.{asked-column, both-parts, key-count, values-many}
use Rattle.join_row_keys.specs.Rows.{AreAskedFrom, columns_in}
use Rattle.join_look_ups.proofs.Owed.{owed-first, owed-none}

-- the same rows are kept in other slots with these keys
pub kept-same : (columns : TreeColumns) (old new : Tables) (rows : List LiveRow) → ((tid : Tid) → keys_in new tid ≡ keys_in old tid) → All (IsKeptRow columns old) rows → All (IsKeptRow columns new) rows
kept-same columns old new rows same =
    All-weaker (IsKeptRow columns old) (IsKeptRow columns new)
    (λ row kept. record { key = kept.key; more = kept.more; values = kept.values; there = same row.root ∙ kept.there })
    rows

-- one row more is kept, where none was
pub kept-more : (columns : TreeColumns) (old new : Tables) (rows : List LiveRow) (row : LiveRow) (root : Tid) → root ≡ row.root → IsPut columns old new root row → All (IsKeptRow columns old) rows → All (IsKeptRow columns new) (rows ++ row ∷ [])
kept-more columns old new rows row root from put all =
    All-push (IsKeptRow columns new) rows row
    (All-weaker (IsKeptRow columns old) (IsKeptRow columns new) (λ r kept. record {
      key = kept.key;
      more = kept.more;
      values = kept.values;
      there = ap (λ k. k r.root) put.put ∙ still r.root (kept.key ++ kept.more) kept.there (same_tid r.root root) refl;
    }) rows all)
    here
  where
    values : List Value
    values = put.key ++ put.more

    still : (tid : Tid) (held : List Value) → keys_in old tid ≡ Some held → (b : Bool) → same_tid tid root ≡ b → cond (same_tid tid root) (Some values) (keys_in old tid) ≡ Some held
    still tid held there true is = absurd (let clash : None ≡ Some held = sym put.fresh ∙ ap (keys_in old) (tid-is tid root is) ∙ there in cc)
    still tid held there false is = ap (λ (b : Bool). cond b (Some values) (keys_in old tid)) is ∙ there

    here : IsKeptRow columns new row
    here = record {
      key = put.key;
      more = put.more;
      values = put.values;
      there = ap (keys_in new) (sym from) ∙ ap (λ k. k root) put.put ∙ ap (λ (b : Bool). cond b (Some values) (keys_in old root)) (tid-same root);
    }

-- Rows of a page that are kept at once

some-below : {X : Type 0} (xs : List X) (k : ℕ) (x : X) → slice_get xs k ≡ Some x → k < length xs
some-below [] k x is = absurd (let clash : None ≡ Some x = is in cc)
some-below (y ∷ ys) zero x is = omega arith
some-below (y ∷ ys) (suc k) x is = let low = some-below ys k x is in omega (arith, low)

-- the values of a row, column by column
values-are : (columns : List ℕ) (cells : List Cell) (values : List Value) → length values ≡ length columns
    → ((k : ℕ) (v : Value) → slice_get values k ≡ Some v → slice_get cells (get_or columns k 0) ≡ Some (Held v))
    → values_at columns cells ≡ Some values
values-are [] cells [] many held = refl
values-are [] cells (v ∷ values) many held = absurd (omega (arith, many))
values-are (column ∷ columns) cells [] many held = absurd (omega (arith, many))
values-are (column ∷ columns) cells (v ∷ values) many held =
    λ i. with_value (held 0 v refl i) (values-are columns cells values (omega (arith, many)) (λ k w is. held (suc k) w is) i)

get-seam : (before : List (List Value)) (vs : List Value) (values : List (List Value)) → slice_get (before ++ vs ∷ values) (length before) ≡ Some vs
get-seam [] vs values = refl
get-seam (b ∷ before) vs values = get-seam before vs values

own-block : (n : ℕ) → (n == n) ≡ true
own-block n = grind (arith, nat_tests)

-- the line pointer of an item that comes behind so many others is one of those that have rows
row-at : (keys : Keys) (block : ℕ) (before values : List (List Value)) (vs : List Value) (item : ℕ) → item ≡ length before + 1
    → keys_with_rows keys block (before ++ vs ∷ values) (record { block = block; item = item }) ≡ Some vs
row-at keys block before values vs item is =
    let all : List (List Value) = before ++ vs ∷ values in
    let tid : Tid = record { block = block; item = item } in
    let many : length all ≡ length before + suc (length values) = length-append before (vs ∷ values) in
    let low : nat_le 1 item ≡ true = le-leb 1 item (omega (arith, is)) in
    let high : nat_le item (length all) ≡ true = le-leb item (length all) (omega (arith, is, many)) in
    let own : (block == block) ≡ true = own-block block in
    let among : is_item_of block (length all) tid ≡ true = λ i. own i && (low i && high i) in
    let place : item - 1 ≡ length before = omega (arith, is) in
    ap (λ (b : Bool). cond b (slice_get all (item - 1)) (keys tid)) among
    ∙ ap (λ (k : ℕ). slice_get all k) place
    ∙ get-seam before vs values

module _ (columns : TreeColumns) (asked : AskedColumns) (first : ℕ) (are : AreAskedFrom first (columns_in columns) asked) (old new : Tables) (block : ℕ) where
  -- a row with these values in the index's columns has these there
  page-row : (vs : List Value) (item : ℕ) (row : LiveRow) → IsPageRow block asked first (length (columns_in columns)) item vs row
      → keys_in new (record { block = block; item = item }) ≡ Some vs → IsKeptRow columns new row
  page-row vs item row is held =
      let values : values_at (columns_in columns) row.cells ≡ Some vs =
      values-are (columns_in columns) row.cells vs is.many
      (λ k v there. ap (λ (n : ℕ). slice_get row.cells n) (sym (asked-column first (columns_in columns) asked k are (omega (arith, some-below vs k v there, is.many)))) ∙ is.cells k v there) in
      let both = both-parts (key_numbers columns) (more_numbers columns) row.cells vs (sym values) in
      record {
        key = both.key;
        more = both.more;
        values = record { of_key = both.of_key; included = both.included };
        there = ap (keys_in new) is.root ∙ held ∙ ap Some both.are;
      }

  page-rows : (all before values : List (List Value)) (rows : List LiveRow) → keys_in new ≡ keys_with_rows (keys_in old) block all
      → all ≡ before ++ values → ArePageRows block asked first (length (columns_in columns)) (length before + 1) values rows → All (IsKeptRow columns new) rows
  page-rows all before [] [] put is rest = All-nil (IsKeptRow columns new)
  page-rows all before [] (row ∷ rows) put is rest = absurd rest
  page-rows all before (vs ∷ values) [] put is rest = absurd rest
  page-rows all before (vs ∷ values) (row ∷ rows) put is rest =
      let item : ℕ = length before + 1 in
      let tid : Tid = record { block = block; item = item } in
      let held : keys_in new tid ≡ Some vs =
      ap (λ (k : Keys). k tid) put ∙ ap (λ (l : List (List Value)). keys_with_rows (keys_in old) block l tid) is ∙ row-at (keys_in old) block before values vs item refl in
      let longer : length (before ++ vs ∷ []) ≡ length before + 1 = length-append before (vs ∷ []) in
      All-cons (IsKeptRow columns new) row rows (page-row vs item row rest.0 held)
      (page-rows all (before ++ vs ∷ []) values rows put (is ∙ sym (append_assoc before (vs ∷ []) values))
      (subst (λ (k : ℕ). ArePageRows block asked first (length (columns_in columns)) (k + 1) values rows) (sym longer) rest.1))

  -- rows that were kept before still are
  page-still : (all : List (List Value)) → keys_in new ≡ keys_with_rows (keys_in old) block all
      → ((tid : Tid) → is_item_of block (length all) tid ≡ true → keys_in old tid ≡ None)
      → (row : LiveRow) → IsKeptRow columns old row → IsKeptRow columns new row
  page-still all put fresh row kept = record {
    key = kept.key;
    more = kept.more;
    values = kept.values;
    there = ap (λ (k : Keys). k row.root) put ∙ still (is_item_of block (length all) row.root) refl;
  }
    where
      still : (b : Bool) → is_item_of block (length all) row.root ≡ b
          → keys_with_rows (keys_in old) block all row.root ≡ Some (kept.key ++ kept.more)
      still true is = absurd (let clash : None ≡ Some (kept.key ++ kept.more) = sym (fresh row.root is) ∙ kept.there in cc)
      still false is = ap (λ (b : Bool). cond b (slice_get all (row.root.item - 1)) (keys_in old row.root)) is ∙ kept.there

  -- all rows of the page are kept at once behind those that were kept, or it is as it was
  pub kept-either : (all : List (List Value)) (range rows : List LiveRow) (told : Bool)
      → (told ≡ true → keys_in new ≡ keys_with_rows (keys_in old) block all)
      → (told ≡ true → (tid : Tid) → is_item_of block (length all) tid ≡ true → keys_in old tid ≡ None)
      → (told ≡ false → keys_in new ≡ keys_in old)
      → ArePageRows block asked first (length (columns_in columns)) 1 all rows → All (IsKeptRow columns old) range
      → All (IsKeptRow columns new) (cond told (range ++ rows) range)
  kept-either all range rows true put fresh same each kept =
      All-append (IsKeptRow columns new) range rows
      (All-weaker (IsKeptRow columns old) (IsKeptRow columns new) (page-still all (put refl) (fresh refl)) range kept)
      (page-rows all [] all rows (put refl) refl each)
  kept-either all range rows false put fresh same each kept =
      kept-same columns old new range (λ tid. ap (λ (k : Keys). k tid) (same refl)) kept

-- Roots of rows that are kept

more-rooted : (rows more : List LiveRow) (tid : Tid) → IsRootIn rows tid → IsRootIn (rows ++ more) tid
more-rooted rows more tid is = record { row = is.row; among = Contains-append_left rows more is.row is.among; root = is.root }

-- with one row more
pub rooted-more : (columns : TreeColumns) (old new : Tables) (rows : List LiveRow) (row : LiveRow) (root : Tid) (kept : Bool) → root ≡ row.root
    → (kept ≡ true → IsPut columns old new root row) → (kept ≡ false → keys_in new ≡ keys_in old)
    → ((tid : Tid) → keys_in old tid ≢ None → IsRootIn rows tid) → (tid : Tid) → keys_in new tid ≢ None → IsRootIn (rows ++ row ∷ []) tid
rooted-more columns old new rows row root false from put same rooted tid some =
    more-rooted rows (row ∷ []) tid (rooted tid (λ none. some (ap (λ (k : Keys). k tid) (same refl) ∙ none)))
rooted-more columns old new rows row root true from put same rooted tid some = by (put refl) (same_tid tid root) refl
  where
    by : (put : IsPut columns old new root row) (b : Bool) → same_tid tid root ≡ b → IsRootIn (rows ++ row ∷ []) tid
    by put true e = record { row = row; among = Contains-push rows row; root = sym from ∙ tid-is tid root e }
    by put false e =
        more-rooted rows (row ∷ []) tid
        (rooted tid (λ none. some (ap (λ (k : Keys). k tid) put.put ∙ ap (λ (b : Bool). cond b (Some (put.key ++ put.more)) (keys_in old tid)) e ∙ none)))

-- the rows of a page are rooted at its items
page-root : (block : ℕ) (asked : AskedColumns) (first count item : ℕ) (values : List (List Value)) (rows : List LiveRow) (k : ℕ)
    → ArePageRows block asked first count item values rows → k < length values → IsRootIn rows (record { block = block; item = item + k })
page-root block asked first count item [] rows k are low = absurd (omega (arith, low))
page-root block asked first count item (vs ∷ values) [] k are low = absurd are
page-root block asked first count item (vs ∷ values) (row ∷ rows) zero are low =
    let here : item ≡ item + 0 = omega arith in
    record { row = row; among = Contains-append_left (row ∷ []) rows row (Contains-push [] row); root = are.0.root ∙ (λ i. record { block = block; item = here i }) }
page-root block asked first count item (vs ∷ values) (row ∷ rows) (suc k) are low =
    let rest = page-root block asked first count (item + 1) values rows k are.1 (omega (arith, low)) in
    let here : item + 1 + k ≡ item + suc k = omega arith in
    record { row = rest.row; among = Contains-append_right (row ∷ []) rows rest.row rest.among; root = rest.root ∙ (λ i. record { block = block; item = here i }) }

-- with the rows of a page, or as it was
pub rooted-either : (old new : Tables) (block : ℕ) (asked : AskedColumns) (first count : ℕ) (all : List (List Value)) (range rows : List LiveRow) (told : Bool)
    → (told ≡ true → keys_in new ≡ keys_with_rows (keys_in old) block all) → (told ≡ false → keys_in new ≡ keys_in old)
    → ArePageRows block asked first count 1 all rows → ((tid : Tid) → keys_in old tid ≢ None → IsRootIn range tid)
    → (tid : Tid) → keys_in new tid ≢ None → IsRootIn (cond told (range ++ rows) range) tid
rooted-either old new block asked first count all range rows false put same are rooted tid some =
    rooted tid (λ none. some (ap (λ (k : Keys). k tid) (same refl) ∙ none))
rooted-either old new block asked first count all range rows true put same are rooted tid some = by (is_item_of block (length all) tid) refl
  where
    by : (b : Bool) → is_item_of block (length all) tid ≡ b → IsRootIn (range ++ rows) tid
    by true e =
        let a = both (tid.block == block) (nat_le 1 tid.item && nat_le tid.item (length all)) e in
        let b = both (nat_le 1 tid.item) (nat_le tid.item (length all)) a.1 in
        let own : tid.block ≡ block = eqb-true tid.block block a.0 in
        let least = leb-true 1 tid.item b.0 in
        let most = leb-true tid.item (length all) b.1 in
        let here = page-root block asked first count 1 all rows (tid.item - 1) are (omega (arith, least, most)) in
        let item : 1 + (tid.item - 1) ≡ tid.item = omega (arith, least) in
        record { row = here.row; among = Contains-append_right range rows here.row here.among; root = here.root ∙ (λ i. record { block = sym own i; item = item i }) }
    by false e = more-rooted range rows tid
        (rooted tid (λ none. some (ap (λ (k : Keys). k tid) (put refl) ∙ ap (λ (b : Bool). cond b (slice_get all (tid.item - 1)) (keys_in old tid)) e ∙ none)))

-- what entries may name has each root at which a row is kept
pub roots-named : (targets : Option (List (List Bool))) (slots : Tables) (range : List LiveRow) → ((tid : Tid) → keys_in slots tid ≢ None → IsRootIn range tid) → HasRoots targets range → AreTargets targets slots
roots-named None slots range rooted has = tt
roots-named (Some set) slots range rooted has = λ tid some.
    let is = rooted tid some in
    ap (is_in set) (sym is.root) ∙ has is.row is.among

-- where each row is kept and was met nothing is to be said
module _ (names : Names) (tree : SoundTree) (slots : Tables) (have : MetHave names tree slots) (met : AreAllMet slots) where
  row-met : (row : LiveRow) → IsKeptRow (index_columns tree) slots row → lists_of_row names tree row ≡ nothing
  unfolding row_lists
  row-met row kept =
      let count = values-many (key_numbers (index_columns tree)) row.cells kept.key kept.values.of_key ∙ key-count (index_columns tree) in
      let has : has_entry names tree kept.key kept.more row.root ≡ true =
      have row.root kept.key kept.more count kept.there (met row.root (kept.key ++ kept.more) kept.there) in
      (λ i. row_lists_by (number_of (file_of tree)) (has_entry names tree) row (kept.values.of_key i) (kept.values.included i))
      ∙ ap (λ (b : Bool). finding_at (Tuple (number_of (file_of tree)) row.tid) (missing_rule b)) has

  pub rows-met : (rows : List LiveRow) → All (IsKeptRow (index_columns tree) slots) rows → owed_for names tree rows ≡ nothing
  rows-met [] all = owed-none names tree
  rows-met (row ∷ rows) all =
      owed-first names tree row rows
      ∙ (λ i. joined (row-met row (All-head (IsKeptRow (index_columns tree) slots) row rows all) i) (rows-met rows (All-tail (IsKeptRow (index_columns tree) slots) row rows all) i))

-- What is left of the rows, step by step.
use Rattle.std.proofs.Common.{◌≡◌, ℕ, zero, suc, ◌+◌, ◌-◌, ◌<◌, ◌≤◌, List, [], ◌++◌, All, map, refl, ap, sym, subst, ◌∙◌, arith, add-one, add-zero, append-nil, append_assoc}
use Rattle.std.specs.Prelude.{Bool, Option}
use Rattle.std.specs.Global.{Vec}
use Rattle.page_layout.specs.Page.{item_of}
use Rattle.outside.specs.Outside.{Names}
use Rattle.case_file.specs.Record.{CaseRecord}
use Rattle.liveness.specs.declared.states.ItemState.{ItemState}
use Rattle.rel_files.specs.declared.relation.Relation.{Relation}
use Rattle.toast_chunks.specs.declared.map.Chunk.{Chunk}
use Rattle.outside.specs.Adds.{each_below, one_list}
use Rattle.reports.specs.Added.{each_upto}
use Rattle.hot_chains.specs.Chains.{item_at}
use Rattle.heap_page_check.specs.Found.{live_attributes, states_of}
use Rattle.heap_page_check.specs.Verdicts.{item_verdict}
use Rattle.heap_page_check.specs.declared.verdict.ItemVerdict.TheVariants.{Passes}
use Rattle.heap_table_check.specs.Case.{heap_blocks, table_of}
use Rattle.heap_rows.specs.RowCursor.{rows_ahead, rows_unread}
use Rattle.heap_rows.specs.declared.roots.Roots.{Roots}
use Rattle.heap_rows.specs.Roots.{AreRoots}
use Rattle.heap_rows.specs.RowPages.{HasAttributes, IsInHand, IsSamePage, TellsOf, is_live_by, is_live_in, rows_in_hand}
use Rattle.heap_rows.specs.RowValues.{IsThere}
use Rattle.heap_rows.proofs.Lists.{each_below-next, each_below-none, each_upto-next, each_upto-none}
use Rattle.heap_rows.specs.Rows.{block_rows, each_from, item_rows, rows_of}
use Rattle.heap_rows.specs.declared.row_page.RowPage.{RowPage}
use Rattle.heap_rows.specs.declared.rows.LiveRow.{LiveRow}
use Rattle.heap_rows.specs.declared.row_cursor.RowCursor.{RowCursor}

-- Places from one on

pub each_from-none : {X : Type 0} (f : ℕ → List X) (k : ℕ) → each_from f k 0 ≡ []
unfolding each_from
each_from-none f k = refl

pub each_from-next : {X : Type 0} (f : ℕ → List X) (k n : ℕ) → each_from f k (n + 1) ≡ f k ++ each_from f (k + 1) n
unfolding each_from
each_from-next f k n = rw (add-one, add-one) refl

-- the places before k, and those from k on
below_from : {X : Type 0} (f : ℕ → List X) (k n : ℕ) → each_below one_list f k ++ each_from f k n ≡ each_below one_list f (k + n)
unfolding each_from
below_from f k zero = rw (append-nil, add-zero) refl
below_from f k (suc n) =
    sym (append_assoc (each_below one_list f k) (f k) (each_from f (suc k) n))
    ∙ ap (λ xs. xs ++ each_from f (suc k) n) (sym (each_below-next f k) ∙ ap (each_below one_list f) (omega arith))
    ∙ below_from f (suc k) n
    ∙ ap (each_below one_list f) (omega arith)

pub all_below : {X : Type 0} (f : ℕ → List X) (n : ℕ) → each_from f 0 n ≡ each_below one_list f n
all_below f n = ap (λ xs. xs ++ each_from f 0 n) (sym (each_below-none f)) ∙ below_from f 0 n ∙ ap (each_below one_list f) (omega arith)

upto_from : {X : Type 0} (f : ℕ → List X) (k n : ℕ) → each_upto one_list f k ++ each_from f (k + 1) n ≡ each_upto one_list f (k + n)
unfolding each_from
upto_from f k zero = rw (append-nil, add-zero) refl
upto_from f k (suc n) =
    sym (append_assoc (each_upto one_list f k) (f (k + 1)) (each_from f (suc (k + 1)) n))
    ∙ ap (λ xs. xs ++ each_from f (suc (k + 1)) n) (sym (each_upto-next f k))
    ∙ ap (λ (j : ℕ). each_upto one_list f (k + 1) ++ each_from f j n) (omega arith)
    ∙ upto_from f (k + 1) n
    ∙ ap (each_upto one_list f) (omega arith)

pub all_upto : {X : Type 0} (f : ℕ → List X) (n : ℕ) → each_from f 1 n ≡ each_upto one_list f n
all_upto f n = ap (λ xs. xs ++ each_from f 1 n) (sym (each_upto-none f)) ∙ upto_from f 0 n ∙ ap (each_upto one_list f) (omega arith)

-- The page in hand

rows_by_parts : CaseRecord → Names → ℕ → List ℕ → ℕ → ℕ → List LiveRow
rows_by_parts case names block bytes count done = each_from (item_rows case names block bytes) (done + 1) (count - done)

parts_done : (case : CaseRecord) (names : Names) (block : ℕ) (bytes : List ℕ) (count done : ℕ) → count ≤ done → rows_by_parts case names block bytes count done ≡ []
unfolding rows_by_parts
parts_done case names block bytes count done le =
    ap (λ (n : ℕ). each_from (item_rows case names block bytes) (done + 1) n) (omega (arith, le)) ∙ each_from-none (item_rows case names block bytes) (done + 1)

parts_next : (case : CaseRecord) (names : Names) (block : ℕ) (bytes : List ℕ) (count done : ℕ) → done < count → rows_by_parts case names block bytes count done ≡ item_rows case names block bytes (done + 1) ++ rows_by_parts case names block bytes count (done + 1)
unfolding rows_by_parts
parts_next case names block bytes count done lt =
    ap (λ (n : ℕ). each_from (item_rows case names block bytes) (done + 1) n) (omega (arith, lt))
    ∙ each_from-next (item_rows case names block bytes) (done + 1) (count - (done + 1))

parts_are : (case : CaseRecord) (names : Names) (page : RowPage) → rows_in_hand case names page ≡ rows_by_parts case names page.block page.bytes page.count page.done
unfolding rows_by_parts rows_in_hand
parts_are case names page = refl

-- a page that was looked at, with so many items done
in_hand_at : (case : CaseRecord) (names : Names) (old new : RowPage) (done : ℕ) → IsSamePage old new → new.done ≡ done → rows_in_hand case names new ≡ rows_by_parts case names old.block old.bytes old.count done
in_hand_at case names old new done same at =
    parts_are case names new
    ∙ ap (λ (b : ℕ). rows_by_parts case names b new.bytes new.count new.done) same.block
    ∙ ap (λ (p : List ℕ). rows_by_parts case names old.block p new.count new.done) same.bytes
    ∙ ap (λ (n : ℕ). rows_by_parts case names old.block old.bytes n new.done) same.count
    ∙ ap (λ (d : ℕ). rows_by_parts case names old.block old.bytes old.count d) at

-- where all items are done, no row of the page is left
pub in_hand_done : (case : CaseRecord) (names : Names) (page : RowPage) → page.count ≤ page.done → rows_in_hand case names page ≡ []
in_hand_done case names page le = parts_are case names page ∙ parts_done case names page.block page.bytes page.count page.done le

-- a page of which as many items are done
pub in_hand_same : (case : CaseRecord) (names : Names) (old new : RowPage) → IsSamePage old new → new.done ≡ old.done → rows_in_hand case names new ≡ rows_in_hand case names old
in_hand_same case names old new same at = in_hand_at case names old new old.done same at ∙ sym (parts_are case names old)

-- and one of which one more is done
pub in_hand_next : (case : CaseRecord) (names : Names) (old new : RowPage) (rows : List LiveRow) → IsSamePage old new → new.done ≡ old.done + 1 → old.done < old.count → item_rows case names old.block old.bytes (old.done + 1) ≡ rows → rows_in_hand case names old ≡ rows ++ rows_in_hand case names new
in_hand_next case names old new rows same at lt gives =
    parts_are case names old
    ∙ parts_next case names old.block old.bytes old.count old.done lt
    ∙ ap (λ (xs : List LiveRow). xs ++ rows_by_parts case names old.block old.bytes old.count (old.done + 1)) gives
    ∙ ap (λ (xs : List LiveRow). rows ++ xs) (sym (in_hand_at case names old new (old.done + 1) same at))

pub same_as : (a b c : RowPage) → IsSamePage a b → IsSamePage b c → IsSamePage a c
same_as a b c first second = record {
  block = second.block ∙ first.block;
  bytes = second.bytes ∙ first.bytes;
  count = second.count ∙ first.count;
  plain = second.plain ∙ first.plain;
  states = second.states ∙ first.states;
  roots = second.roots ∙ first.roots;
}

live_same : (old new : RowPage) → IsSamePage old new → (i : ℕ) → is_live_in new i ≡ is_live_in old i
live_same old new same i =
    ap (λ (b : Bool). is_live_by b (item_of new.bytes i).flag (item_at new.states.items i)) same.plain
    ∙ ap (λ (p : List ℕ). is_live_by old.plain (item_of p i).flag (item_at new.states.items i)) same.bytes
    ∙ ap (λ (s : Vec ItemState). is_live_by old.plain (item_of old.bytes i).flag (item_at s.items i)) same.states

tells_same : (old new : RowPage) (states : List ItemState) → IsSamePage old new → TellsOf states old → TellsOf states new
tells_same old new states same tells = record {
  count = same.count ∙ tells.count;
  live = λ i first last. live_same old new same i ∙ tells.live i first last;
  roots = subst (λ (r : Roots). AreRoots new.block states r) (sym same.roots) (subst (λ (b : ℕ). AreRoots b states old.roots) (sym same.block) tells.roots);
}

-- what is known of a page is known of it later
pub known_same : (case : CaseRecord) (names : Names) (toast : Option Relation) (chunks : List Chunk) (old new : RowPage) → IsSamePage old new → IsInHand case names toast chunks old → IsInHand case names toast chunks new
known_same case names toast chunks old new same known = λ i first last.
    let here = known i first (subst (λ (n : ℕ). i ≤ n) same.count last) in
    let live = live_same old new same i in
    record {
      tells = subst (λ (p : List ℕ). TellsOf (states_of (table_of case names) p) new) (sym same.bytes) (tells_same old new (states_of (table_of case names) old.bytes) same here.tells);
      verdict = subst (λ (p : List ℕ). item_verdict (table_of case names) p i ≡ Passes (item_at (states_of (table_of case names) p) i)) (sym same.bytes) here.verdict;
      attributes = λ is. subst (λ (p : List ℕ). HasAttributes (map (λ c. c.ctype) case.columns) p i (live_attributes (table_of case names) p i)) (sym same.bytes) (here.attributes (sym live ∙ is));
      values = λ is. subst (λ (p : List ℕ). All (IsThere toast chunks) (live_attributes (table_of case names) p i)) (sym same.bytes) (here.values (sym live ∙ is));
    }

-- No row is left

pub first_rows : (names : Names) (cursor : RowCursor) → cursor.page.count ≡ 0 → cursor.next ≡ 0 → rows_ahead names cursor ≡ rows_of cursor.case.now names
unfolding rows_ahead rows_unread rows_of
first_rows names cursor none next =
    ap (λ (xs : List LiveRow). xs ++ each_from (block_rows cursor.case.now names) cursor.next (heap_blocks cursor.case.now names - cursor.next)) (in_hand_done cursor.case.now names cursor.page (omega (arith, none)))
    ∙ ap (λ (k : ℕ). each_from (block_rows cursor.case.now names) k (heap_blocks cursor.case.now names - k)) next
    ∙ ap (λ (n : ℕ). each_from (block_rows cursor.case.now names) 0 n) (omega arith)
    ∙ all_below (block_rows cursor.case.now names) (heap_blocks cursor.case.now names)

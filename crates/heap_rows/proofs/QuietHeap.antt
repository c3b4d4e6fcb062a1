-- What a quiet case says of the page that was read, and what is left of the rows.
use Rattle.std.proofs.Common.{◌≡◌, inl, inr, ℕ, ◌+◌, ◌-◌, ◌<◌, ◌≤◌, true, false, List, [], ◌++◌, All, get_or, map, refl, ap, sym, subst, ◌∙◌, arith}
use Rattle.std.specs.Prelude.{Option, Some, None, Contains}
use Rattle.std.proofs.lemmas.List.Elements.{All-from_get_or, All-nil, Contains-get_or}
use Rattle.outside.specs.Adds.{one_list}
use Rattle.outside.specs.Outside.{Names}
use Rattle.page_layout.specs.Page.{count_of, page_rule_of}
use Rattle.page_layout.specs.declared.page.PageKind.TheVariants.{Heap}
use Rattle.page_layout.specs.declared.rules.Rule.{Rule}
use Rattle.key_orders.specs.declared.columns.ColType.{ColType}
use Rattle.rel_files.specs.Relation.{IsRelationOf}
use Rattle.rel_files.specs.Relation.{count_of as blocks_in_relation}
use Rattle.rel_files.specs.declared.relation.Relation.{Relation}
use Rattle.case_file.specs.Record.{CaseRecord}
use Rattle.case_file.specs.declared.case.Column.{Column}
use Rattle.tuple_head.specs.declared.HeapHead.{HeapHead}
use Rattle.varlena_attrs.specs.Forms.{Attribute, External, Missing, Null, Packed, Plain}
use Rattle.varlena_attrs.specs.declared.places.ToastPointer.{ToastPointer}
use Rattle.heap_tuples.specs.Places.{tuple_at}
use Rattle.heap_tuples.specs.Tuples.{IsReadAs, attributes_in}
use Rattle.liveness.specs.declared.states.ItemState.{ItemState}
use Rattle.hot_chains.specs.Chains.{is_live_tuple, item_at}
use Rattle.toast_chunks.specs.Chunks.{is_whole}
use Rattle.toast_chunks.specs.declared.map.Chunk.{Chunk}
use Rattle.toast_chunks.proofs.Finding.{is_whole-from}
use Rattle.rel_files.specs.Refusals.{heap_limit}
use Rattle.reports.specs.Added.{each_upto}
use Rattle.heap_page_check.specs.declared.verdict.ItemVerdict.TheVariants.{Passes}
use Rattle.heap_page_check.specs.Broken.{AllPass, HasExternal}
use Rattle.heap_page_check.specs.Found.{live_attributes, states_of}
use Rattle.heap_page_check.specs.Table.{Table}
use Rattle.heap_page_check.specs.Values.{is_stray_pointer}
use Rattle.heap_page_check.specs.Verdicts.{head_at, item_verdict}
use Rattle.heap_page_check.proofs.LeftLaws.{IsReadOrNone, live_is_read}
use Rattle.heap_page_check.proofs.PageLaws.{each_passes, page_is_quiet}
use Rattle.heap_page_check.proofs.StateLaws.{passes_there, states_are_there}
use Rattle.heap_table_check.specs.Case.{case_bits, heap_blocks, oid_in, table_of}
use Rattle.heap_table_check.specs.Found.{IsQuiet, chunks_of}
use Rattle.rel_files.specs.Blocks.{block_of}
use Rattle.rel_files.specs.Refusals.{IsNamed}
use Rattle.heap_table_check.specs.Files.{IsToastNamed, heap_in}
use Rattle.heap_table_check.specs.TableFiles.{pages_in}
use Rattle.heap_rows.specs.declared.row_page.RowPage.{RowPage}
use Rattle.heap_rows.specs.declared.rows.LiveRow.{LiveRow}
use Rattle.heap_rows.specs.declared.row_cursor.RowCursor.{RowCursor}
use Rattle.heap_rows.specs.RowCursor.{IsCursorOf, IsPageDone, case_at, heap_at, line_pointers_of, rows_ahead}
use Rattle.heap_rows.specs.RowPages.{AreKnown, IsInHand, TellsOf, is_live_in, rows_in_hand}
use Rattle.heap_rows.specs.RowValues.{IsThere}
use Rattle.heap_rows.specs.Rows.{block_rows, each_from, heap_page, item_rows, page_rows, rows_by_rule}
use Rattle.heap_rows.proofs.FromFiles.{heap_has_nothing, value_has_table, values_are_whole}
use Rattle.heap_rows.proofs.LiveTuples.{header_place, live_are_read, sound_tuple}
use Rattle.heap_rows.proofs.RowSources.{ahead_is}
use Rattle.heap_rows.proofs.RowSteps.{all_upto, each_from-next, each_from-none, in_hand_done}

pub heap_types : (case : CaseRecord) (names : Names) → (table_of case names).columns ≡ map (λ (c : Column). c.ctype) case.columns
unfolding table_of
heap_types case names = refl

heap_toast : (case : CaseRecord) (names : Names) → (table_of case names).toast ≡ oid_in case.toast
unfolding table_of
heap_toast case names = refl

-- A page of a quiet case

module _ (case : CaseRecord) (names : Names) (quiet : IsQuiet case names) (block : ℕ) (below : block < heap_blocks case names) where
  -- no rule is broken on it by itself, and nothing is in doubt
  pub page_passes : AllPass (table_of case names) block (heap_page case names block)
  page_passes =
      let nothing = heap_has_nothing case names quiet block below in
      (page_is_quiet (table_of case names) (chunks_of case names) (case_bits case names block) block (heap_page case names block) nothing.findings nothing.unjudged).pass

  module _ (r : Option Relation) (chunks : List Chunk) (named : IsToastNamed case.segment_blocks case.toast r) (are : chunks ≡ chunks_of case names) where
    -- a value in the TOAST table, where there is one, is whole
    pointer_there : (t : Option (List ℕ × ℕ)) (q : Option Relation) (head : HeapHead) (p : ToastPointer) → IsToastNamed case.segment_blocks t q → is_stray_pointer (oid_in t) head p ≡ false → is_whole chunks p ≡ true → IsThere q chunks (External p)
    pointer_there None None head p called stray whole = absurd (grind (arith))
    pointer_there (Some t) (Some q) head p called stray whole = whole
    pointer_there None (Some q) head p called stray whole = absurd called
    pointer_there (Some t) None head p called stray whole = absurd called

    external_there : (i : ℕ) (p : ToastPointer) → HasExternal (table_of case names) (heap_page case names block) i p → IsThere r chunks (External p)
    external_there i p has =
        let head = head_at (heap_page case names block) i in
        let stray = subst (λ (o : Option ℕ). is_stray_pointer o head p ≡ false) (heap_toast case names) (value_has_table case names quiet block below i p has) in
        let whole = is_whole-from (chunks_of case names) p (values_are_whole case names quiet block below i p has) in
        pointer_there case.toast r head p named stray (subst (λ (cs : List Chunk). is_whole cs p ≡ true) (sym are) whole)

    attribute_there : (a : Attribute) → ((p : ToastPointer) → a ≡ External p → IsThere r chunks (External p)) → IsThere r chunks a
    attribute_there Null there = tt
    attribute_there Missing there = tt
    attribute_there (Plain content) there = tt
    attribute_there (Packed piece) there = tt
    attribute_there (External p) there = there p refl

    read_there : (i : ℕ) (list : List Attribute) → IsReadOrNone (table_of case names) (heap_page case names block) i list → All (IsThere r chunks) list
    read_there i list (inl none) = subst (All (IsThere r chunks)) (sym none) (All-nil (IsThere r chunks))
    read_there i list (inr read) =
        All-from_get_or (IsThere r chunks) list Null (λ k lt.
        attribute_there (get_or list k Null) (λ p is.
        external_there i p (record { live = read.live; list = list; read = read.read; among = subst (Contains list) is (Contains-get_or list k Null lt) })))

    -- all values of a live tuple are there
    pub values_there : (i : ℕ) → 1 ≤ i → i ≤ count_of (heap_page case names block) → All (IsThere r chunks) (live_attributes (table_of case names) (heap_page case names block) i)
    values_there i first last = read_there i _ (live_is_read (table_of case names) (heap_page case names block) i first last)

-- A block that was read

-- the page in hand is known, and its rows are those of its block
pub record IsLoaded (case : CaseRecord) (names : Names) (toast : Option Relation) (chunks : List Chunk) (page : RowPage) (block : ℕ) : Type 0 where
  pub hand : IsInHand case names toast chunks page
  pub rows : rows_in_hand case names page ≡ block_rows case names block
  pub count : page.count ≡ line_pointers_of case names block

in_hand_all : (case : CaseRecord) (names : Names) (page : RowPage) (block n : ℕ) → page.block ≡ block → page.done ≡ 0 → page.count ≡ n → rows_in_hand case names page ≡ each_upto one_list (item_rows case names block page.bytes) n
unfolding rows_in_hand
in_hand_all case names page block n at done long =
    ap (λ (b : ℕ). each_from (item_rows case names b page.bytes) (page.done + 1) (page.count - page.done)) at
    ∙ ap (λ (d : ℕ). each_from (item_rows case names block page.bytes) (d + 1) (page.count - d)) done
    ∙ ap (λ (m : ℕ). each_from (item_rows case names block page.bytes) 1 m) (omega (arith, long))
    ∙ all_upto (item_rows case names block page.bytes) n

rows_of_page : (case : CaseRecord) (names : Names) (block : ℕ) (page : List ℕ) → page_rule_of Heap page ≡ None → each_upto one_list (item_rows case names block page) (count_of page) ≡ page_rows case names block page
unfolding page_rows
rows_of_page case names block page is = sym (ap (λ (rule : Option Rule). rows_by_rule rule (each_upto one_list (item_rows case names block page) (count_of page))) is)

block_is : (case : CaseRecord) (names : Names) (block : ℕ) → page_rows case names block (heap_page case names block) ≡ block_rows case names block
unfolding block_rows
block_is case names block = refl

pub loaded : (case : CaseRecord) (names : Names) (toast : Option Relation) (chunks : List Chunk) (page : RowPage) (block : ℕ) → IsQuiet case names → block < heap_blocks case names → IsToastNamed case.segment_blocks case.toast toast → chunks ≡ chunks_of case names → page.block ≡ block → page.done ≡ 0 → page.bytes ≡ heap_page case names block → AreKnown (table_of case names) block page → IsLoaded case names toast chunks page block
loaded case names toast chunks page block quiet below named are at done bytes says =
    let table : Table = table_of case names in
    let pass : AllPass table block page.bytes = subst (λ (p : List ℕ). AllPass table block p) (sym bytes) (page_passes case names quiet block below) in
    let tells : TellsOf (states_of table page.bytes) page = says pass in
    let each = each_passes table block page.bytes pass in
    let long : page.count ≡ count_of page.bytes = tells.count ∙ (states_are_there table page.bytes each).count in
    record {
      hand = λ i first last.
          let within : i ≤ count_of page.bytes = omega (arith, last, long) in
          let state : ItemState = item_at (states_of table page.bytes) i in
          let list : List Attribute = live_attributes table page.bytes i in
          let verdict : item_verdict table page.bytes i ≡ Passes state = passes_there table page.bytes each i first within in
          let told : is_live_in page i ≡ is_live_tuple state = tells.live i first (omega (arith, last, tells.count)) in
          record {
            tells = tells;
            verdict = verdict;
            attributes = λ live.
                let sound = sound_tuple table page.bytes i state verdict (sym told ∙ live) in
                record {
                  tuple = record { rules = pass.header; first = first; last = within; normal = sound.normal; placed = sound.placed };
                  header = header_place table page.bytes i sound;
                  read = subst (λ (cs : List ColType). IsReadAs (attributes_in cs (tuple_at page.bytes i)) list) (heap_types case names) (live_are_read table page.bytes i state verdict (sym told ∙ live));
                };
            values = λ live.
                subst (λ (p : List ℕ). All (IsThere toast chunks) (live_attributes table p i)) (sym bytes)
                (values_there case names quiet block below toast chunks named are i first (subst (λ (p : List ℕ). i ≤ count_of p) bytes within));
          };
      rows =
          in_hand_all case names page block (count_of page.bytes) at done long
          ∙ rows_of_page case names block page.bytes pass.header
          ∙ ap (λ (p : List ℕ). page_rows case names block p) bytes
          ∙ block_is case names block;
      count = long ∙ ap count_of bytes;
    }

-- The cursor

-- one block is read more
pub unread_next : (names : Names) (old new : RowCursor) → IsPageDone names old → case_at new ≡ case_at old → new.next ≡ old.next + 1 → old.next < heap_blocks (case_at old) names → rows_in_hand (case_at old) names new.page ≡ block_rows (case_at old) names old.next → rows_ahead names new ≡ rows_ahead names old
unread_next names old new done case next below rows =
    let f = block_rows (case_at old) names in
    let n = heap_blocks (case_at old) names in
    ahead_is names new
    ∙ ap (λ (c : CaseRecord). rows_in_hand c names new.page ++ each_from (block_rows c names) new.next (heap_blocks c names - new.next)) case
    ∙ ap (λ (xs : List LiveRow). xs ++ each_from f new.next (n - new.next)) rows
    ∙ ap (λ (k : ℕ). f old.next ++ each_from f k (n - k)) next
    ∙ sym (each_from-next f old.next (n - (old.next + 1)))
    ∙ ap (λ (m : ℕ). each_from f old.next m) (omega (arith, below))
    ∙ ap (λ (xs : List LiveRow). xs ++ each_from f old.next (n - old.next)) (sym done)
    ∙ sym (ahead_is names old)

-- none is
pub unread_same : (names : Names) (old new : RowCursor) → IsPageDone names old → case_at new ≡ case_at old → new.next ≡ old.next → new.page.count ≡ 0 → rows_ahead names new ≡ rows_ahead names old
unread_same names old new done case next none =
    let f = block_rows (case_at old) names in
    let n = heap_blocks (case_at old) names in
    ahead_is names new
    ∙ ap (λ (c : CaseRecord). rows_in_hand c names new.page ++ each_from (block_rows c names) new.next (heap_blocks c names - new.next)) case
    ∙ ap (λ (xs : List LiveRow). xs ++ each_from f new.next (n - new.next)) (in_hand_done (case_at old) names new.page (omega (arith, none)) ∙ sym done)
    ∙ ap (λ (k : ℕ). rows_in_hand (case_at old) names old.page ++ each_from f k (n - k)) next
    ∙ sym (ahead_is names old)

pub nothing_in_hand : (case : CaseRecord) (names : Names) (toast : Option Relation) (chunks : List Chunk) (page : RowPage) → page.count ≡ 0 → IsInHand case names toast chunks page
nothing_in_hand case names toast chunks page none = λ i first last. absurd (omega (arith, first, last, none))

-- the pages of a case's heap are those of its relation
pub page_is : (case : CaseRecord) (names : Names) (r : Relation) (block : ℕ) → IsNamed case.heap_file case.segment_blocks r → pages_in names r block ≡ heap_page case names block
page_is case names r block named = λ i. block_of names (named.named i) (named.sized i) block

pub heap_count : (case : CaseRecord) (names : Names) (n : ℕ) (r : Relation) → IsRelationOf names case.heap_file case.segment_blocks heap_limit r → n < blocks_in_relation r → n < heap_blocks case names
unfolding heap_blocks
heap_count case names n r is below = subst (λ (m : ℕ). n < m) is.count below

-- where all blocks were read, and no row of the page in hand is left, none is left
pub rows_end : (names : Names) (rows : RowCursor) (n : ℕ) → IsCursorOf names rows → IsPageDone names rows → n ≡ blocks_in_relation (heap_in (heap_at rows)) → n ≤ rows.next → rows_ahead names rows ≡ []
unfolding heap_blocks
rows_end names rows n are done is le =
    let count : n ≡ heap_blocks (case_at rows) names = is ∙ are.heap.files.heap.count in
    ahead_is names rows
    ∙ ap (λ (xs : List LiveRow). xs ++ each_from (block_rows (case_at rows) names) rows.next (heap_blocks (case_at rows) names - rows.next)) done
    ∙ ap (λ (m : ℕ). each_from (block_rows (case_at rows) names) rows.next m) (omega (arith, count, le))
    ∙ each_from-none (block_rows (case_at rows) names) rows.next

-- The page in hand, and what is read of its items.
use Rattle.std.proofs.Common.{◌≡◌, ℕ, ◌≤◌, Bool, true, false, List, [], ◌∷◌, map, ap, sym, subst, ◌∙◌, arith}
use Rattle.std.specs.Prelude.{Option}
use Rattle.std.proofs.lemmas.Bool.{cond-false, cond-true}
use Rattle.outside.specs.Outside.{Names}
use Rattle.key_orders.specs.declared.columns.ColType.{ColType}
use Rattle.rel_files.specs.declared.relation.Relation.{Relation}
use Rattle.case_file.specs.Record.{CaseRecord}
use Rattle.case_file.specs.declared.case.Column.{Column}
use Rattle.liveness.specs.declared.states.ItemState.{ItemState}
use Rattle.hot_chains.specs.Chains.{is_live_tuple, item_at}
use Rattle.toast_chunks.specs.declared.map.Chunk.{Chunk}
use Rattle.heap_page_check.specs.declared.verdict.ItemVerdict.{ItemVerdict}
use Rattle.heap_page_check.specs.declared.verdict.ItemVerdict.TheVariants.{Passes}
use Rattle.heap_page_check.specs.Found.{live_attributes, states_of}
use Rattle.heap_page_check.specs.Verdicts.{item_verdict}
use Rattle.heap_table_check.specs.Case.{table_of}
use Rattle.heap_rows.specs.declared.row_page.RowPage.{RowPage}
use Rattle.heap_rows.specs.RowPages.{HasAttributes, IsKnown, is_live_in}
use Rattle.heap_rows.specs.Rows.{item_rows, row_at, row_by}

-- An item's row

-- what is told of an item that is known is so of its state
pub told_state : (case : CaseRecord) (names : Names) (toast : Option Relation) (chunks : List Chunk) (page : RowPage) (i : ℕ) (live : Bool) → IsKnown case names toast chunks page i → 1 ≤ i → i ≤ page.count → is_live_in page i ≡ live → is_live_tuple (item_at (states_of (table_of case names) page.bytes) i) ≡ live
told_state case names toast chunks page i live known first last is =
    let count = known.tells.count in sym (known.tells.live i first (omega (arith, last, count))) ∙ is

-- an item that isn't live gives no row
pub no_row : (case : CaseRecord) (names : Names) (block : ℕ) (page : List ℕ) (i : ℕ) (state : ItemState) → item_verdict (table_of case names) page i ≡ Passes state → is_live_tuple state ≡ false → item_rows case names block page i ≡ []
unfolding item_rows
no_row case names block page i state verdict dead =
    ap (λ (v : ItemVerdict). row_by v (row_at case names block page i)) verdict ∙ cond-false _ _ _ dead

-- a live one gives one
pub one_row : (case : CaseRecord) (names : Names) (block : ℕ) (page : List ℕ) (i : ℕ) (state : ItemState) → item_verdict (table_of case names) page i ≡ Passes state → is_live_tuple state ≡ true → item_rows case names block page i ≡ row_at case names block page i ∷ []
unfolding item_rows
one_row case names block page i state verdict live =
    ap (λ (v : ItemVerdict). row_by v (row_at case names block page i)) verdict ∙ cond-true _ _ _ live

-- what is known of an item that was found to be live, over the columns that were handed in
pub known_attributes : (case : CaseRecord) (names : Names) (toast : Option Relation) (chunks : List Chunk) (page : RowPage) (i : ℕ) (types : List ColType) (columns : List Column) → IsKnown case names toast chunks page i → types ≡ map (λ c. c.ctype) columns → columns ≡ case.columns → is_live_in page i ≡ true → HasAttributes types page.bytes i (live_attributes (table_of case names) page.bytes i)
known_attributes case names toast chunks page i types columns known are cols live =
    let same : map (λ (c : Column). c.ctype) case.columns ≡ types = sym (are ∙ ap (λ (cs : List Column). map (λ (c : Column). c.ctype) cs) cols) in
    subst (λ (ts : List ColType). HasAttributes ts page.bytes i (live_attributes (table_of case names) page.bytes i)) same (known.attributes live)

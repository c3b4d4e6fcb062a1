-- The row of an item whose values were found.
use Rattle.std.proofs.Common.{◌≡◌, ℕ, ◌+◌, ◌-◌, ◌≤◌, true, List, drop, length, map, take, refl, ap, sym, subst, ◌∙◌, arith}
use Rattle.std.specs.Prelude.{IfSome, Option, Some, None}
use Rattle.std.specs.Option.{IsSomeAnd, is_some, option_copied}
use Rattle.std.proofs.lemmas.Bool.{false≢true}
use Rattle.page_layout.specs.declared.page.LinePtr.{LinePtr}
use Rattle.outside.specs.Outside.{Names}
use Rattle.case_file.specs.Record.{CaseRecord}
use Rattle.case_file.specs.declared.case.Column.{Column}
use Rattle.varlena_attrs.specs.Forms.{Attribute}
use Rattle.varlena_attrs.specs.InTurn.{AreRead, TupleParts}
use Rattle.varlena_attrs.specs.declared.places.ToastPointer.{ToastPointer}
use Rattle.liveness.specs.declared.states.ItemState.{ItemState}
use Rattle.hot_chains.specs.Chains.{is_live_tuple}
use Rattle.heap_page_check.specs.declared.verdict.ItemVerdict.TheVariants.{Passes}
use Rattle.heap_page_check.specs.Found.{live_attributes}
use Rattle.heap_page_check.specs.Verdicts.{item_verdict}
use Rattle.heap_table_check.specs.Case.{table_of}
use Rattle.heap_rows.specs.declared.row_page.RowPage.{RowPage}
use Rattle.heap_rows.specs.declared.row_values.ValueSources.{ValueSources}
use Rattle.heap_rows.specs.RowPages.{IsBodyOf, IsRowFound}
use Rattle.heap_rows.specs.RowValues.{AreCellsAsked, AreStarts, AreValuesOf, AsksColumns, FitTypes, bytes_seen, column_asked, count_asked}
use Rattle.heap_rows.specs.Rows.{cell_at, row_at, toast_bytes}
use Rattle.heap_rows.proofs.RowBodies.{end_of_item, item_inside}
use Rattle.heap_rows.proofs.RowCells.{cell_there, cells_long}
use Rattle.heap_rows.proofs.RowPages.{one_row}

pub row_found : (case : CaseRecord) (names : Names) (from : ValueSources) (new : RowPage) (i : ℕ) (state : ItemState) → item_verdict (table_of case names) new.bytes i ≡ Passes state → is_live_tuple state ≡ true → AreValuesOf case names from
    → FitTypes (map (λ c. c.ctype) from.columns.now) (live_attributes (table_of case names) new.bytes i)
    → AreCellsAsked new.bytes new.values.joined.items from.columns.now from.asked.now new.values.places.items (cell_at (bytes_seen names (option_copied from.toast) from.chunks.now) from.columns.now (live_attributes (table_of case names) new.bytes i)) (count_asked (length from.columns.now) from.asked.now)
    → IsRowFound case names from.asked.now new i
unfolding row_at
row_found case names from new i state verdict live are fit cells =
    let list = live_attributes (table_of case names) new.bytes i in
    let asked = from.asked.now in
    let joined = new.values.joined.items in
    let places = new.values.places.items in
    let bytes : bytes_seen names (option_copied from.toast) from.chunks.now ≡ toast_bytes case names = λ k p. are.bytes p k in
    let fits : FitTypes (map (λ c. c.ctype) case.columns) list = subst (λ (cs : List Column). FitTypes (map (λ c. c.ctype) cs) list) are.columns fit in
    let first = subst (λ (cs : List Column). AreCellsAsked new.bytes joined cs asked places (cell_at (bytes_seen names (option_copied from.toast) from.chunks.now) cs list) (count_asked (length cs) asked)) are.columns cells in
    let second = subst (λ (f : ToastPointer → List ℕ). AreCellsAsked new.bytes joined case.columns asked places (cell_at f case.columns list) (count_asked (length case.columns) asked)) bytes first in
    record {
      one = one_row case names new.block new.bytes i state verdict live;
      columns = cells_long (toast_bytes case names) case.columns list fits;
      cells = λ k lt. second k lt ∙ cell_there (toast_bytes case names) case.columns list (column_asked asked k) fits (are.asked k lt);
    }

pub asks : (case : CaseRecord) (names : Names) (from : ValueSources) → AreValuesOf case names from → AsksColumns (length from.columns.now) from.asked.now
asks case names from are = subst (λ (cs : List Column). AsksColumns (length cs) from.asked.now) (sym are.columns) are.asked

pub starts_are : (case : CaseRecord) (names : Names) (from : ValueSources) → AreValuesOf case names from → AreStarts (map (λ c. c.ctype) from.columns.now) from.asked.now from.starts.now
starts_are case names from are = subst (λ (cs : List Column). AreStarts (map (λ c. c.ctype) cs) from.asked.now from.starts.now) (sym are.columns) are.starts

pub attrs_are : (found : Option TupleParts) (attrs : TupleParts) (P : TupleParts → Type 0) → found ≡ Some attrs → IsSomeAnd found P → P attrs
attrs_are found attrs P is has = subst (λ (o : Option TupleParts). IsSomeAnd o P) is has

pub attrs_have : (found : Option TupleParts) (attrs : TupleParts) (P : TupleParts → Type 0) → found ≡ Some attrs → IfSome found P → P attrs
attrs_have found attrs P is has = subst (λ (o : Option TupleParts). IfSome o P) is has

pub not_there : (found : Option TupleParts) (P : TupleParts → Type 0) → IsSomeAnd found P → ((t : TupleParts) → found ≡ Some t → ⊥) → ⊥
not_there None P has none = absurd has
not_there (Some t) P has none = none t refl

-- What is read of an item

pub read_by : (found : Option TupleParts) (t : TupleParts) (list : List Attribute) → is_some found ≡ true → IfSome found (λ p. p ≡ t) → AreRead t list → IsSomeAnd found (λ p. AreRead p list)
read_by None t list some is are = absurd (false≢true some)
read_by (Some p) t list some is are = subst (λ (q : TupleParts). AreRead q list) (sym is) are

pub body_by : (found : Option TupleParts) (page : List ℕ) (p : LinePtr) (tuple : List ℕ) → length page ≡ 8192 → tuple ≡ take p.len (drop p.off page) → length tuple ≡ p.len → 24 ≤ length tuple → IfSome found (λ t. t.body ≡ drop (length tuple - length t.body) tuple) → IfSome found (λ t. length t.body ≤ length tuple) → IfSome found (λ t. IsBodyOf page p t.body)
body_by None page p tuple whole is long some end part = tt
body_by (Some t) page p tuple whole is long some end part =
    let inside = item_inside p.off p.len page tuple whole is long some in
    record {
      inside = omega (arith, inside, long);
      part = omega (arith, part, long);
      piece = sym (end_of_item p.off p.len page tuple t.body is long part end) ∙ ap (λ (n : ℕ). take (length t.body) (drop (p.off + (n - length t.body)) page)) long;
    }

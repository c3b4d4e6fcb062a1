-- The values of the columns that an index includes, one after another.
use Rattle.std.proofs.Common.{◌≡◌, ◌∙◌, ℕ, ◌+◌, ◌<◌, true, List, [], ◌∷◌, ◌++◌, drop, get_or, length, refl, sym, ap, append-nil, append_assoc}
use Rattle.std.specs.Prelude.{Some, slice_get}
use Rattle.std.specs.List.{AllByRecursion}
use Rattle.std.proofs.lemmas.Bool.{and_from}
use Rattle.std.proofs.lemmas.List.Elements.{All-from_recursion}
use Rattle.std.proofs.Math.ListN.{get_or-map}
use Rattle.key_orders.specs.declared.columns.ColType.TheVariants.{Bool as BoolType}
use Rattle.key_orders.specs.declared.columns.Value.{Value}
use Rattle.key_orders.specs.declared.more.MoreSpec.{MoreSpec}
use Rattle.key_orders.specs.Orders.{fits_type}
use Rattle.key_attrs.specs.Columns.{TreeColumns}
use Rattle.key_attrs.specs.Keyed.{fits_more}
use Rattle.case_file.specs.Sound.{IsSoundMore}
use Rattle.case_file.specs.declared.case.Column.{Column}
use Rattle.heap_rows.specs.declared.row_cells.Cell.TheVariants.{Held}
use Rattle.heap_rows.specs.RowFits.{FitsColumn}
use Rattle.join_rules.specs.Rows.{more_numbers}
use Rattle.join_row_keys.proofs.KeyLaws.{dropped, has-column}

-- what stands past a list's end
pub any-more : MoreSpec
any-more = record { column = 0; ctype = BoolType }

pub number-at : (columns : TreeColumns) (k : ℕ) → get_or (more_numbers columns) k 0 ≡ (get_or columns.more k any-more).column
unfolding any-more
number-at columns k = get_or-map (λ m. m.column) columns.more k any-more

-- the values so far fit with those of the other columns
abbrev pub FitMore : List MoreSpec → ℕ → List Value → Type 0
FitMore specs k more = (vs : List Value) → fits_more (drop k specs) vs ≡ true → fits_more specs (more ++ vs) ≡ true

pub more-fits-next : (specs : List MoreSpec) (k : ℕ) (d : MoreSpec) (more : List Value) (v : Value) → k < length specs → fits_type (get_or specs k d).ctype v ≡ true → FitMore specs k more → FitMore specs (k + 1) (more ++ v ∷ [])
more-fits-next specs k d more v lt fits was vs rest =
    let here : fits_more (get_or specs k d ∷ drop (k + 1) specs) (v ∷ vs) ≡ true = and_from (fits_type (get_or specs k d).ctype v) (fits_more (drop (k + 1) specs) vs) fits rest in
    ap (fits_more specs) (append_assoc more (v ∷ []) vs)
    ∙ was (v ∷ vs) (ap (λ (ms : List MoreSpec). fits_more ms (v ∷ vs)) (dropped specs k d lt) ∙ here)

pub more-fits-all : (specs : List MoreSpec) (k : ℕ) (more : List Value) → FitMore specs k more → fits_more specs more ≡ true
more-fits-all specs k more was = ap (fits_more specs) (sym (append-nil more)) ∙ was [] refl

pub more-value-fits : (columns : List Column) (specs : List MoreSpec) (k : ℕ) (d : MoreSpec) (v : Value) → AllByRecursion (IsSoundMore columns) specs → k < length specs → ((column : Column) → slice_get columns (get_or specs k d).column ≡ Some column → FitsColumn column (Held v)) → fits_type (get_or specs k d).ctype v ≡ true
more-value-fits columns specs k d v sound lt fits =
    let spec : MoreSpec = get_or specs k d in
    let has = has-column columns spec.column spec.ctype (All-from_recursion (IsSoundMore columns) specs sound k d lt).is_there in
    ap (λ t. fits_type t v) (sym has.type_is) ∙ fits has.column has.there

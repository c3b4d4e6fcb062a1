-- The values of a row in an index, one after another.
use Rattle.std.proofs.Common.{◌≡◌, ◌∙◌, ℕ, ◌+◌, ◌-◌, ◌<◌, ◌≤◌, true, false, List, [], ◌∷◌, ◌++◌, length, drop, get_or, refl, sym, ap, subst, arith, add-one, append-nil, append_assoc, drop-cons, length-append}
use Rattle.std.specs.Prelude.{All, Option, Some, None, min, option_map, slice_get, take, unwrap_or}
use Rattle.std.specs.List.{AllByRecursion}
use Rattle.std.proofs.lemmas.Bool.{and_from}
use Rattle.std.proofs.Math.Nat.{min-le_right}
use Rattle.std.proofs.Math.Seq.{take-length}
use Rattle.std.proofs.lemmas.List.{get_or-append_right, get_or-drop, get_or-take, length-drop, length-map, length-take}
use Rattle.std.proofs.lemmas.List.Elements.{All-append, All-from_recursion, All-map}
use Rattle.std.proofs.lemmas.Option.{slice_get-get_or, slice_get_within}
use Rattle.std.proofs.Math.ListN.{get_or-append, get_or-map}
use Rattle.key_orders.specs.declared.columns.ColType.{ColType}
use Rattle.key_orders.specs.declared.columns.ColType.TheVariants.{Bool as BoolType}
use Rattle.key_orders.specs.declared.columns.KeySpec.{KeySpec}
use Rattle.key_orders.specs.declared.columns.Value.{Value}
use Rattle.key_orders.specs.declared.more.MoreSpec.{MoreSpec}
use Rattle.key_orders.specs.Keys.{fits_columns}
use Rattle.key_orders.specs.Orders.{fits_type}
use Rattle.key_attrs.specs.Columns.{TreeColumns, tree_columns}
use Rattle.case_file.specs.Record.{CaseRecord, IndexRecord}
use Rattle.case_file.specs.Sound.{IsSound, IsSoundIndex, IsSoundKey, IsSoundMore}
use Rattle.case_file.specs.declared.case.Column.{Column}
use Rattle.bt_levels.specs.Index.{index_of, no_index}
use Rattle.bt_levels.specs.Sound.{IsSoundIndexOf, index_columns, specs_of}
use Rattle.bt_levels.specs.declared.sound.SoundTree.{SoundTree}
use Rattle.heap_rows.specs.declared.row_cells.Cell.{Cell}
use Rattle.heap_rows.specs.declared.row_cells.Cell.TheVariants.{Held, Packed}
use Rattle.heap_rows.specs.declared.row_values.AskedColumns.{AskedColumns}
use Rattle.heap_rows.specs.declared.row_values.AskedColumns.TheVariants.{All as Every, Only}
use Rattle.heap_rows.specs.RowCursor.{AreAsked}
use Rattle.heap_rows.specs.RowFits.{FitsColumn}
use Rattle.heap_rows.specs.RowValues.{column_asked, count_asked}
use Rattle.join_rules.specs.Rows.{key_numbers, more_numbers, values_at, with_value}
use Rattle.heap_rows.specs.declared.row_cursor.RowCursor.{RowCursor}
use Rattle.heap_rows.specs.RowCursor.{asked_at, case_at}
use Rattle.bt_levels.specs.Files.{number_of}
use Rattle.bt_levels.specs.Sound.{file_of}
use Rattle.join_row_keys.specs.declared.keys.KeyedHeap.{KeyedHeap}
use Rattle.join_row_keys.specs.declared.reader.RowReader.{RowReader}
use Rattle.join_row_keys.specs.Rows.{AreAskedFrom, AreColumnsOf, IsIndexAt, IsReaderOf, columns_in}

-- what stands past a list's end
pub any-spec : KeySpec
any-spec = record { column = 0; ctype = BoolType; desc = false; nulls_first = false }

-- The columns that are asked for

-- all that are asked for
pub asked-all : (columns : List ℕ) (asked : AskedColumns) → AreAsked columns asked → AreAskedFrom 0 columns asked
asked-all columns Every are = are
asked-all columns (Only numbers) are = ap (λ (ns : List ℕ). take (length columns) ns) are ∙ take-length columns

-- as many as there are columns stand there
enough : (first : ℕ) (columns numbers : List ℕ) (k : ℕ) → take (length columns) (drop first numbers) ≡ columns → k < length columns → first + k < length numbers
enough first columns numbers k are lt =
    let many : min (length columns) (length numbers - first) ≡ length columns =
    ap (λ (n : ℕ). min (length columns) n) (sym (length-drop first numbers)) ∙ sym (length-take (length columns) (drop first numbers)) ∙ ap length are in
    let le : length columns ≤ length numbers - first = subst (λ (n : ℕ). n ≤ length numbers - first) many (min-le_right (length columns) (length numbers - first)) in
    omega arith

pub asked-count : (n first : ℕ) (columns : List ℕ) (asked : AskedColumns) (k : ℕ) → AreAskedFrom first columns asked → k < length columns → first + k < count_asked n asked
asked-count n first columns Every k are lt = absurd are
asked-count n first columns (Only numbers) k are lt = enough first columns numbers.items k are lt

pub asked-column : (first : ℕ) (columns : List ℕ) (asked : AskedColumns) (k : ℕ) → AreAskedFrom first columns asked → k < length columns → column_asked asked (first + k) ≡ get_or columns k 0
asked-column first columns Every k are lt = absurd are
asked-column first columns (Only numbers) k are lt =
    sym (get_or-drop first numbers.items k 0) ∙ sym (get_or-take (length columns) (drop first numbers.items) k 0 lt) ∙ ap (λ (ns : List ℕ). get_or ns k 0) are

-- how many there are
pub key-count : (columns : TreeColumns) → length (key_numbers columns) ≡ length columns.specs
key-count columns = length-map columns.specs (λ s. s.column)

pub more-count : (columns : TreeColumns) → length (more_numbers columns) ≡ length columns.more
more-count columns = length-map columns.more (λ m. m.column)

pub columns-many : (columns : TreeColumns) → length (columns_in columns) ≡ length columns.specs + length columns.more
columns-many columns = length-append (key_numbers columns) (more_numbers columns) ∙ (λ i. key-count columns i + more-count columns i)

-- those of the key, and behind them those that are included
pub key-column : (first : ℕ) (columns : TreeColumns) (asked : AskedColumns) (k : ℕ) → AreAskedFrom first (columns_in columns) asked → k < length columns.specs → column_asked asked (first + k) ≡ get_or (key_numbers columns) k 0
key-column first columns asked k are lt =
    let within : k < length (key_numbers columns) = omega (arith, key-count columns) in
    asked-column first (columns_in columns) asked k are (omega (arith, columns-many columns)) ∙ get_or-append (key_numbers columns) (more_numbers columns) 0 k within

pub more-column : (first : ℕ) (columns : TreeColumns) (asked : AskedColumns) (k : ℕ) → AreAskedFrom first (columns_in columns) asked → k < length columns.more → column_asked asked (first + (length columns.specs + k)) ≡ get_or (more_numbers columns) k 0
more-column first columns asked k are lt =
    let n = length columns.specs in
    let past : n ≤ n + k = omega arith in
    let at : n + k - n ≡ k = omega arith in
    asked-column first (columns_in columns) asked (n + k) are (omega (arith, columns-many columns))
    ∙ get_or-append_right (key_numbers columns) (more_numbers columns) n (n + k) 0 (key-count columns) past
    ∙ ap (λ (n : ℕ). get_or (more_numbers columns) n 0) at

pub spec-column : (columns : TreeColumns) (k : ℕ) → get_or (key_numbers columns) k 0 ≡ (get_or columns.specs k any-spec).column
unfolding any-spec
spec-column columns k = get_or-map (λ s. s.column) columns.specs k any-spec

-- Values so far

-- the values so far, with those of the other columns, are all
abbrev pub IsSoFar : Option (List Value) → List ℕ → List Cell → ℕ → List Value → Type 0
IsSoFar all numbers cells k values = option_map (λ vs. values ++ vs) (values_at (drop k numbers) cells) ≡ all

-- and fit with them
abbrev pub FitSoFar : List KeySpec → ℕ → List Value → Type 0
FitSoFar specs k key = (vs : List Value) → fits_columns (drop k specs) vs ≡ true → fits_columns specs (key ++ vs) ≡ true

map-nothing : (o : Option (List Value)) → option_map (λ vs. [] ++ vs) o ≡ o
map-nothing None = refl
map-nothing (Some vs) = refl

pub so-far-none : (numbers : List ℕ) (cells : List Cell) → IsSoFar (values_at numbers cells) numbers cells 0 []
so-far-none numbers cells = map-nothing (values_at numbers cells)

one-more : (values : List Value) (v : Value) (o : Option (List Value)) → option_map (λ vs. (values ++ v ∷ []) ++ vs) o ≡ option_map (λ vs. values ++ vs) (with_value (Some (Held v)) o)
one-more values v None = refl
one-more values v (Some vs) = ap Some (append_assoc values (v ∷ []) vs)

pub dropped : {X : Type 0} (xs : List X) (k : ℕ) (d : X) → k < length xs → drop k xs ≡ get_or xs k d ∷ drop (k + 1) xs
dropped xs k d lt = drop-cons xs k d lt ∙ ap (λ n. get_or xs k d ∷ drop n xs) (sym (add-one k))

-- one more value
pub so-far-next : {all : Option (List Value)} (numbers : List ℕ) (cells : List Cell) (k : ℕ) (values : List Value) (v : Value) → k < length numbers → slice_get cells (get_or numbers k 0) ≡ Some (Held v) → IsSoFar all numbers cells k values → IsSoFar all numbers cells (k + 1) (values ++ v ∷ [])
so-far-next numbers cells k values v lt cell was =
    one-more values v (values_at (drop (k + 1) numbers) cells)
    ∙ ap (λ (c : Option Cell). option_map (λ vs. values ++ vs) (with_value c (values_at (drop (k + 1) numbers) cells))) (sym cell)
    ∙ ap (λ (ns : List ℕ). option_map (λ vs. values ++ vs) (values_at ns cells)) (sym (dropped numbers k 0 lt))
    ∙ was

-- a value that is compressed
pub so-far-packed : {all : Option (List Value)} (numbers : List ℕ) (cells : List Cell) (k : ℕ) (values : List Value) → k < length numbers → slice_get cells (get_or numbers k 0) ≡ Some Packed → IsSoFar all numbers cells k values → None ≡ all
so-far-packed numbers cells k values lt cell was =
    ap (λ (c : Option Cell). option_map (λ vs. values ++ vs) (with_value c (values_at (drop (k + 1) numbers) cells))) (sym cell)
    ∙ ap (λ (ns : List ℕ). option_map (λ vs. values ++ vs) (values_at ns cells)) (sym (dropped numbers k 0 lt))
    ∙ was

-- all values
pub so-far-all : {all : Option (List Value)} (numbers : List ℕ) (cells : List Cell) (k : ℕ) (values : List Value) → drop k numbers ≡ [] → IsSoFar all numbers cells k values → Some values ≡ all
so-far-all numbers cells k values end was =
    ap Some (sym (append-nil values)) ∙ ap (λ (ns : List ℕ). option_map (λ vs. values ++ vs) (values_at ns cells)) (sym end) ∙ was

-- the values of a key, and those of included columns behind them
pub record AreBoth (key_columns more_columns : List ℕ) (cells : List Cell) (values : List Value) : Type 0 where
  pub key : List Value
  pub more : List Value
  pub of_key : values_at key_columns cells ≡ Some key
  pub included : values_at more_columns cells ≡ Some more
  pub are : values ≡ key ++ more

pub both-parts : (ns ms : List ℕ) (cells : List Cell) (values : List Value) → Some values ≡ values_at (ns ++ ms) cells → AreBoth ns ms cells values
both-parts [] ms cells values e = record { key = []; more = values; of_key = refl; included = sym e; are = refl }
both-parts (n ∷ ns) ms cells values e = by (slice_get cells n) (values_at (ns ++ ms) cells) refl refl (λ vs h. both-parts ns ms cells vs h) e
  where
    by : (c : Option Cell) (o : Option (List Value)) → slice_get cells n ≡ c → values_at (ns ++ ms) cells ≡ o
        → ((vs : List Value) → Some vs ≡ values_at (ns ++ ms) cells → AreBoth ns ms cells vs) → Some values ≡ with_value c o → AreBoth (n ∷ ns) ms cells values
    by None o p q parts h = absurd cc
    by (Some Packed) o p q parts h = absurd cc
    by (Some (Held v)) None p q parts h = absurd cc
    by (Some (Held v)) (Some vs) p q parts h =
        let all : values ≡ v ∷ vs = cc in
        let rest = parts vs (sym q) in
        record {
          key = v ∷ rest.key;
          more = rest.more;
          of_key = λ i. with_value (p i) (rest.of_key i);
          included = rest.included;
          are = all ∙ ap (λ ws. v ∷ ws) rest.are;
        }

-- as many as there are columns
pub values-many : (numbers : List ℕ) (cells : List Cell) (values : List Value) → values_at numbers cells ≡ Some values → length values ≡ length numbers
values-many [] cells values is = ap length (inner is)
  where
    inner : ◌≡◌ {A = Option (List Value)} (Some []) (Some values) → values ≡ []
    inner h = cc
values-many (n ∷ ns) cells values is = by (slice_get cells n) (values_at ns cells) (λ vs e. values-many ns cells vs e) is
  where
    by : (c : Option Cell) (o : Option (List Value)) → ((vs : List Value) → o ≡ Some vs → length vs ≡ length ns) → with_value c o ≡ Some values → length values ≡ length (n ∷ ns)
    by None o rest e = absurd cc
    by (Some Packed) o rest e = absurd cc
    by (Some (Held v)) None rest e = absurd cc
    by (Some (Held v)) (Some vs) rest e =
        let all : values ≡ v ∷ vs = cc in
        let count = rest vs refl in
        ap length all ∙ omega (arith, count)

pub fit-next : (specs : List KeySpec) (k : ℕ) (d : KeySpec) (key : List Value) (v : Value) → k < length specs → fits_type (get_or specs k d).ctype v ≡ true → FitSoFar specs k key → FitSoFar specs (k + 1) (key ++ v ∷ [])
fit-next specs k d key v lt fits was vs rest =
    let here : fits_columns (get_or specs k d ∷ drop (k + 1) specs) (v ∷ vs) ≡ true = and_from (fits_type (get_or specs k d).ctype v) (fits_columns (drop (k + 1) specs) vs) fits rest in
    ap (fits_columns specs) (append_assoc key (v ∷ []) vs)
    ∙ was (v ∷ vs) (ap (λ (ks : List KeySpec). fits_columns ks (v ∷ vs)) (dropped specs k d lt) ∙ here)

pub fit-all : (specs : List KeySpec) (k : ℕ) (key : List Value) → FitSoFar specs k key → fits_columns specs key ≡ true
fit-all specs k key was = ap (fits_columns specs) (sym (append-nil key)) ∙ was [] refl

-- The value of a key's column

pub record HasColumn (columns : List Column) (number : ℕ) (ctype : ColType) : Type 0 where
  pub column : Column
  pub there : slice_get columns number ≡ Some column
  pub type_is : column.ctype ≡ ctype

pub has-column : (columns : List Column) (number : ℕ) (ctype : ColType) → option_map (λ c. c.ctype) (slice_get columns number) ≡ Some ctype → HasColumn columns number ctype
has-column columns number ctype sound = go (slice_get columns number) refl sound
  where
    go : (o : Option Column) → slice_get columns number ≡ o → option_map (λ c. c.ctype) o ≡ Some ctype → HasColumn columns number ctype
    go None is there = absurd cc
    go (Some column) is there = record { column = column; there = is; type_is = cc }

pub value-fits : (columns : List Column) (specs : List KeySpec) (k : ℕ) (d : KeySpec) (v : Value) → AllByRecursion (IsSoundKey columns) specs → k < length specs → ((column : Column) → slice_get columns (get_or specs k d).column ≡ Some column → FitsColumn column (Held v)) → fits_type (get_or specs k d).ctype v ≡ true
value-fits columns specs k d v sound lt fits =
    let spec : KeySpec = get_or specs k d in
    let has = has-column columns spec.column spec.ctype (All-from_recursion (IsSoundKey columns) specs sound k d lt).is_there in
    ap (λ t. fits_type t v) (sym has.type_is) ∙ fits has.column has.there

-- The columns of an index of a case

pub sound-index : (case : CaseRecord) (n : ℕ) → IsSound case → 1 ≤ n → n ≤ length case.indexes → IsSoundIndex case.columns (index_of case n)
sound-index case n sound first last =
    let within : n - 1 < length case.indexes = omega arith in
    let at : get_or case.indexes (n - 1) no_index ≡ index_of case n = sym (ap (λ (o : Option IndexRecord). unwrap_or o no_index) (slice_get-get_or case.indexes (n - 1) no_index within)) in
    subst (IsSoundIndex case.columns) at (All-from_recursion (IsSoundIndex case.columns) case.indexes sound.indexes (n - 1) no_index within)

pub sound-keys : (case : CaseRecord) (n : ℕ) (tree : SoundTree) → IsSound case → IsSoundIndexOf case n tree → AllByRecursion (IsSoundKey case.columns) (specs_of tree)
sound-keys case n tree sound index =
    let first : 1 ≤ n = omega (arith, index.belongs.first, index.number) in
    let last : n ≤ length case.indexes = omega (arith, index.belongs.last, index.number) in
    subst (AllByRecursion (IsSoundKey case.columns)) (sym (ap (λ (c : TreeColumns). c.specs) index.columns)) (sound-index case n sound first last).keys

sound-more : (case : CaseRecord) (n : ℕ) (tree : SoundTree) → IsSound case → IsSoundIndexOf case n tree → AllByRecursion (IsSoundMore case.columns) (index_columns tree).more
sound-more case n tree sound index =
    let first : 1 ≤ n = omega (arith, index.belongs.first, index.number) in
    let last : n ≤ length case.indexes = omega (arith, index.belongs.last, index.number) in
    subst (AllByRecursion (IsSoundMore case.columns)) (sym (ap (λ (c : TreeColumns). c.more) index.columns)) (sound-index case n sound first last).more

-- they are columns of the case
pub columns-within : (columns : List Column) (t : TreeColumns) → AreColumnsOf columns t → All (λ k. k < length columns) (columns_in t)
columns-within columns t are =
    All-append (λ k. k < length columns) (key_numbers t) (more_numbers t)
    (All-map (λ k. k < length columns) (λ (s : KeySpec). s.column) t.specs (λ k d lt.
    let spec : KeySpec = get_or t.specs k d in
    let has = has-column columns spec.column spec.ctype (All-from_recursion (IsSoundKey columns) t.specs are.keys k d lt).is_there in
    slice_get_within columns spec.column has.column has.there))
    (All-map (λ k. k < length columns) (λ (m : MoreSpec). m.column) t.more (λ k d lt.
    let spec : MoreSpec = get_or t.more k d in
    let has = has-column columns spec.column spec.ctype (All-from_recursion (IsSoundMore columns) t.more are.more k d lt).is_there in
    slice_get_within columns spec.column has.column has.there))

columns-of : (case : CaseRecord) (n : ℕ) (tree : SoundTree) → IsSound case → IsSoundIndexOf case n tree → AreColumnsOf case.columns (index_columns tree)
columns-of case n tree sound index = record { keys = sound-keys case n tree sound index; more = sound-more case n tree sound index }

pub columns-there : (case : CaseRecord) (n : ℕ) (tree : SoundTree) → IsSound case → IsSoundIndexOf case n tree → All (λ k. k < length case.columns) (columns_in (index_columns tree))
columns-there case n tree sound index = columns-within case.columns (index_columns tree) (columns-of case n tree sound index)

-- a heap and an index of it, read by the columns of the index
pub reader-of : (index : KeyedHeap) (cursor : RowCursor) (reader : RowReader) → IsSound index.at.case.now → IsIndexAt index cursor
    → tree_columns reader.columns ≡ index_columns index.at.tree.now → reader.first ≡ index.first → IsReaderOf reader cursor
reader-of index cursor reader sound at same first =
    let tree = index.at.tree.now in
    let are = columns-of index.at.case.now (number_of (file_of tree)) tree sound at.belong.index in
    let here : AreColumnsOf (case_at cursor).columns (index_columns tree) = subst (λ (case : CaseRecord). AreColumnsOf case.columns (index_columns tree)) (sym at.case) are in
    record {
      columns = subst (AreColumnsOf (case_at cursor).columns) (sym same) here;
      asked = subst (λ (w : ℕ × TreeColumns). AreAskedFrom w.0 (columns_in w.1) (asked_at cursor)) (λ i. (sym first i, sym same i)) at.asked;
    }

-- The values of a row's cells.
use Rattle.std.proofs.Common.{◌≡◌, ◌⊎◌, inl, inr, ℕ, ◌+◌, ◌<◌, ◌≤◌, Bor, List, [], ◌∷◌, ◌++◌, length, drop, take, get_or, All, refl, ap, sym, subst, ◌∙◌, arith}
use Rattle.std.specs.Prelude.{IfOk, IfSome, map, slice_get, Option, Some, None, Result, Ok, Err}
use Rattle.std.specs.Option.{IsSomeAnd, option_copied}
use Rattle.outside.specs.Outside.{Names, Seen, Tells}
use Rattle.rel_files.specs.Relation.{IsAttached}
use Rattle.rel_files.specs.declared.relation.Relation.{Relation}
use Rattle.key_orders.specs.declared.columns.Value.TheVariants as value
use Rattle.key_orders.specs.Values.{value_in}
use Rattle.std.proofs.lemmas.List.{get_or-map, get_or_append_left, get_or_push, length-map}
use Rattle.std.proofs.lemmas.List.Elements.{All-get_or}
use Rattle.std.proofs.lemmas.Option.{get_or_from_slice_get, slice_get-get_or, slice_get_within}
use Rattle.key_orders.specs.declared.columns.ColType.{ColType}
use Rattle.case_file.specs.declared.case.Column.{Column}
use Rattle.varlena_attrs.specs.Forms.{Attribute}
use Rattle.varlena_attrs.specs.InTurn.{IsAttributeOf}
use Rattle.varlena_attrs.specs.Shown.{shown_at}
use Rattle.varlena_attrs.specs.declared.places.AttrPlace.{AttrPlace}
use Rattle.varlena_attrs.specs.declared.places.AttrPlace.TheVariants as attr-place
use Rattle.varlena_attrs.specs.declared.places.ToastPointer.{ToastPointer}
use Rattle.toast_chunks.specs.Stored.{AllStand}
use Rattle.toast_chunks.specs.declared.map.Chunk.{Chunk}
use Rattle.heap_rows.specs.declared.row_cells.Cell.{Cell}
use Rattle.heap_rows.specs.declared.row_cells.Cell.TheVariants as cell
use Rattle.heap_rows.specs.declared.row_values.AskedColumns.{AskedColumns}
use Rattle.heap_rows.specs.declared.row_values.ValuePlace.{ValuePlace}
use Rattle.heap_rows.specs.declared.row_values.ValuePlace.TheVariants as place
use Rattle.heap_rows.specs.Rows.{cell_at, cell_by, cell_of}
use Rattle.heap_rows.specs.RowValues.{AreCellsAsked, FitAsked, FitsColumnAt, FitsPlace, FitsType, IsReadableValue, asked_cell, cell_shown, column_asked, shown_by}
use Rattle.heap_rows.proofs.RowBodies.{piece_grown, piece_in_piece}
use Rattle.heap_rows.proofs.RowFits.{fits_attribute}

-- Values in the TOAST table

pub readable_in : (names : Names) (toast : Option (Bor Relation)) (r : Bor Relation) (chunks : List Chunk) → toast ≡ Some r → IsReadableValue names (option_copied toast) chunks → IsAttached names r.now × AllStand names r.now chunks
readable_in names toast r chunks e h = subst (λ (t : Option (Bor Relation)). IsReadableValue names (option_copied t) chunks) e h

-- Each column

-- what a column may have fits its type
pub attribute_fits : (columns : List Column) (types : List ColType) (body : List ℕ) (k : ℕ) (d : Column) (a : Attribute) → types ≡ map (λ c. c.ctype) columns → k < length columns → ((ctype : ColType) → slice_get types k ≡ Some ctype → IsAttributeOf ctype body a) → FitsType (get_or columns k d).ctype a
attribute_fits columns types body k d a are lt says =
    let long : length (map (λ (c : Column). c.ctype) columns) ≡ length columns = length-map columns (λ (c : Column). c.ctype) in
    let at : slice_get types k ≡ Some (get_or columns k d).ctype =
    ap (λ (ts : List ColType). slice_get ts k) are
    ∙ slice_get-get_or (map (λ (c : Column). c.ctype) columns) k d.ctype (omega (arith, lt, long))
    ∙ ap (λ (t : ColType). Some t) (get_or-map (λ (c : Column). c.ctype) columns k d d.ctype lt) in
    let is = says (get_or columns k d).ctype at in
    fits_attribute is.presence (get_or columns k d).ctype body is.place a is.next is.is

-- what holds of all attributes holds of the one of a column
pub there_at : (P : Attribute → Type 0) (list : List Attribute) (k : ℕ) (a : Attribute) → slice_get list k ≡ Some a → All P list → P a
there_at P list k a is all =
    subst P (get_or_from_slice_get list k a a is) (All-get_or P list k a (slice_get_within list k a is) all)

pub cell_is : (bytes : ToastPointer → List ℕ) (columns : List Column) (list : List Attribute) (k : ℕ) (d : Column) (a : Attribute) → k < length columns → slice_get list k ≡ Some a → cell_at bytes columns list k ≡ cell_of bytes (get_or columns k d) a ∷ []
unfolding cell_at
cell_is bytes columns list k d a lt is =
    ap (λ (c : Option Column). cell_by bytes c (slice_get list k)) (slice_get-get_or columns k d lt)
    ∙ ap (λ (o : Option Attribute). cell_by bytes (Some (get_or columns k d)) o) is

-- The columns that are asked for

-- bytes that are joined later change no cell
grown_cell : (page joined more : List ℕ) (o : Option Column) (at : ValuePlace) → FitsColumnAt (length joined) o at → shown_by page (joined ++ more) o at ≡ shown_by page joined o at
grown_cell page joined more None at fits = absurd fits
grown_cell page joined more (Some column) place.Null fits = refl
grown_cell page joined more (Some column) place.Missing fits = refl
grown_cell page joined more (Some column) (place.OnPage start len) fits = refl
grown_cell page joined more (Some column) (place.Joined start len) fits = ap (λ (b : List ℕ). cell.Held (value.Bytes b) ∷ []) (piece_grown start len joined more fits.0)
grown_cell page joined more (Some column) place.Packed fits = refl

grown_fit : (joined more : ℕ) (o : Option Column) (at : ValuePlace) → joined ≤ more → FitsColumnAt joined o at → FitsColumnAt more o at
grown_fit joined more None at le fits = fits
grown_fit joined more (Some column) place.Null le fits = tt
grown_fit joined more (Some column) place.Missing le fits = tt
grown_fit joined more (Some column) (place.OnPage start len) le fits = fits
grown_fit joined more (Some column) (place.Joined start len) le fits = let h = fits.0 in (omega (arith, h, le), fits.1)
grown_fit joined more (Some column) place.Packed le fits = fits

pub before_or_last : (j k : ℕ) → j < k + 1 → (j < k) ⊎ (j ≡ k)
before_or_last j k lt = search (arith, inl, inr)

place_before : (places : List ValuePlace) (p : ValuePlace) (j k : ℕ) → length places ≡ k → j < k → get_or (places ++ p ∷ []) j place.Null ≡ get_or places j place.Null
place_before places p j k long lt = get_or_append_left places (p ∷ []) place.Null j (omega (arith, long, lt))

place_last : (places : List ValuePlace) (p : ValuePlace) (k : ℕ) → length places ≡ k → get_or (places ++ p ∷ []) k place.Null ≡ p
place_last places p k long = get_or_push places p place.Null k long

-- one more place
pub next_fit : (joined more : ℕ) (columns : List Column) (asked : AskedColumns) (places : List ValuePlace) (p : ValuePlace) (k : ℕ) → length places ≡ k → joined ≤ more → FitAsked joined columns asked places k → FitsColumnAt more (slice_get columns (column_asked asked k)) p → FitAsked more columns asked (places ++ p ∷ []) (k + 1)
next_fit joined more columns asked places p k long le so_far fits j lt =
    let cases = before_or_last j k lt in
    elim cases [
      | inl before ↦
          subst (FitsColumnAt more (slice_get columns (column_asked asked j))) (sym (place_before places p j k long before))
          (grown_fit joined more (slice_get columns (column_asked asked j)) (get_or places j place.Null) le (so_far j before))
      | inr last ↦
          subst (λ (i : ℕ). FitsColumnAt more (slice_get columns (column_asked asked i)) (get_or (places ++ p ∷ []) i place.Null)) (sym last)
          (subst (FitsColumnAt more (slice_get columns (column_asked asked k))) (sym (place_last places p k long)) fits)
    ]

pub next_asked : (page joined more : List ℕ) (columns : List Column) (asked : AskedColumns) (places : List ValuePlace) (p : ValuePlace) (cells : ℕ → List Cell) (k : ℕ) → length places ≡ k → FitAsked (length joined) columns asked places k → AreCellsAsked page joined columns asked places cells k → shown_by page (joined ++ more) (slice_get columns (column_asked asked k)) p ≡ cells (column_asked asked k) → AreCellsAsked page (joined ++ more) columns asked (places ++ p ∷ []) cells (k + 1)
unfolding asked_cell
next_asked page joined more columns asked places p cells k long fits so_far is j lt =
    let cases = before_or_last j k lt in
    elim cases [
      | inl before ↦
          ap (shown_by page (joined ++ more) (slice_get columns (column_asked asked j))) (place_before places p j k long before)
          ∙ grown_cell page joined more (slice_get columns (column_asked asked j)) (get_or places j place.Null) (fits j before)
          ∙ so_far j before
      | inr last ↦
          subst (λ (i : ℕ). shown_by page (joined ++ more) (slice_get columns (column_asked asked i)) (get_or (places ++ p ∷ []) i place.Null) ≡ cells (column_asked asked i)) (sym last)
          (ap (shown_by page (joined ++ more) (slice_get columns (column_asked asked k))) (place_last places p k long) ∙ is)
    ]

-- no place yet
pub none_fit : (joined : ℕ) (columns : List Column) (asked : AskedColumns) (places : List ValuePlace) → FitAsked joined columns asked places 0
none_fit joined columns asked places k lt = absurd (omega (arith, lt))

pub none_asked : (page joined : List ℕ) (columns : List Column) (asked : AskedColumns) (places : List ValuePlace) (cells : ℕ → List Cell) → AreCellsAsked page joined columns asked places cells 0
none_asked page joined columns asked places cells k lt = absurd (omega (arith, lt))

-- a value that is there isn't missing
pub none_missing : (found : Option ValuePlace) (P : ValuePlace → Type 0) → found ≡ None → IsSomeAnd found P → ⊥
none_missing found P none is = subst (λ (o : Option ValuePlace). IsSomeAnd o P) none is

pub found_is : (found : Option ValuePlace) (p : ValuePlace) (P : ValuePlace → Type 0) → found ≡ Some p → IsSomeAnd found P → P p
found_is found p P is has = subst (λ (o : Option ValuePlace). IsSomeAnd o P) is has

pub found_fits : (found : Option ValuePlace) (p : ValuePlace) (P : ValuePlace → Type 0) → found ≡ Some p → IfSome found P → P p
found_fits found p P is has = subst (λ (o : Option ValuePlace). IfSome o P) is has

-- the column that has a number
pub column_is : (columns : List Column) (a : ℕ) (d : Column) → a < length columns → slice_get columns a ≡ Some (get_or columns a d)
column_is columns a d lt = slice_get-get_or columns a d lt

-- the cell of a column whose value was found at a place is the cell of its attribute
pub shown_is : (bytes : ToastPointer → List ℕ) (page joined : List ℕ) (columns : List Column) (list : List Attribute) (a : ℕ) (d : Column) (e : Attribute) (found : Option ValuePlace) (p : ValuePlace) → a < length columns → slice_get list a ≡ Some e → found ≡ Some p
    → IsSomeAnd found (λ at. cell_shown page joined (get_or columns a d) at ≡ cell_of bytes (get_or columns a d) e) → shown_by page joined (slice_get columns a) p ≡ cell_at bytes columns list a
shown_is bytes page joined columns list a d e found p lt there is has =
    ap (λ (o : Option Column). shown_by page joined o p) (column_is columns a d lt)
    ∙ ap (λ (c : Cell). c ∷ []) (found_is found p (λ at. cell_shown page joined (get_or columns a d) at ≡ cell_of bytes (get_or columns a d) e) is has)
    ∙ sym (cell_is bytes columns list a d e lt there)

-- the attribute that was read of a column
pub attr_is : (found : Option AttrPlace) (at : AttrPlace) (P : AttrPlace → Type 0) → found ≡ Some at → IsSomeAnd found P → P at
attr_is found at P is has = subst (λ (o : Option AttrPlace). IsSomeAnd o P) is has

pub attr_has : (found : Option AttrPlace) (at : AttrPlace) (P : AttrPlace → Type 0) → found ≡ Some at → IfSome found P → P at
attr_has found at P is has = subst (λ (o : Option AttrPlace). IfSome o P) is has

pub no_attr : (found : Option AttrPlace) (P : AttrPlace → Type 0) → IsSomeAnd found P → ((at : AttrPlace) → found ≡ Some at → ⊥) → ⊥
no_attr None P has none = absurd has
no_attr (Some at) P has none = none at refl

pub fits_is : (joined : ℕ) (columns : List Column) (a : ℕ) (d : Column) (found : Option ValuePlace) (p : ValuePlace) → a < length columns → found ≡ Some p → IfSome found (λ at. FitsPlace joined (get_or columns a d).ctype at) → FitsColumnAt joined (slice_get columns a) p
fits_is joined columns a d found p lt is has =
    subst (λ (o : Option Column). FitsColumnAt joined o p) (sym (column_is columns a d lt)) (found_fits found p (λ at. FitsPlace joined (get_or columns a d).ctype at) is has)

-- The k-th column that is asked for, which has number a

-- a value on the page is the cell of a plain attribute
pub plain_cell : (bytes : ToastPointer → List ℕ) (column : Column) (page : List ℕ) (start len s n : ℕ) (attr : AttrPlace) → attr ≡ attr-place.Plain s n → s + n ≤ len
    → ◌≡◌ {A = Cell} (cell.Held (value_in column.ctype (take n (drop (start + s) page)))) (cell_of bytes column (shown_at (take len (drop start page)) attr))
plain_cell bytes column page start len s n attr is le =
    ap (λ (piece : List ℕ). cell.Held (value_in column.ctype piece)) (sym (piece_in_piece start len s n page le))
    ∙ sym (ap (λ (a : AttrPlace). cell_of bytes column (shown_at (take len (drop start page)) a)) is)

pub has_value : {X : Type 0} (found : Option X) (x : X) (P : X → Type 0) → found ≡ Some x → IfSome found P → P x
has_value found x P is has = subst (λ (o : Option _). IfSome o P) is has

-- there is a column of each number
pub some_column : (columns : List Column) (a : ℕ) → a < length columns → Column
some_column [] a lt = absurd (omega (arith, lt))
some_column (c ∷ columns) a lt = c

-- its cell, by the place at which its value was found
pub shown_there : (bytes : ToastPointer → List ℕ) (page joined : List ℕ) (columns : List Column) (list : List Attribute) (a i : ℕ) (d : Column) (e : Attribute) (found : Option ValuePlace) → a < length columns → slice_get list a ≡ Some e → a ≡ i
    → IsSomeAnd found (λ at. cell_shown page joined (get_or columns a d) at ≡ cell_of bytes (get_or columns a d) e)
    → IsSomeAnd found (λ at. shown_by page joined (slice_get columns i) at ≡ cell_at bytes columns list i)
shown_there bytes page joined columns list a i d e None lt there same has = absurd has
shown_there bytes page joined columns list a i d e (Some p) lt there same has =
    subst (λ (n : ℕ). shown_by page joined (slice_get columns n) p ≡ cell_at bytes columns list n) same
    (shown_is bytes page joined columns list a d e (Some p) p lt there refl has)

-- it may have a value there
pub fit_there : {E : Type 0} (joined : ℕ) (columns : List Column) (a i : ℕ) (d : Column) (result : Result (Option ValuePlace) E) → a < length columns → a ≡ i
    → IfOk result (λ found. IfSome found (λ at. FitsPlace joined (get_or columns a d).ctype at))
    → IfOk result (λ found. IfSome found (λ at. FitsColumnAt joined (slice_get columns i) at))
fit_there joined columns a i d (Ok None) lt same has = tt
fit_there joined columns a i d (Ok (Some p)) lt same has =
    subst (λ (n : ℕ). FitsColumnAt joined (slice_get columns n) p) same (fits_is joined columns a d (Some p) p lt refl has)
fit_there joined columns a i d (Err e) lt same has = tt

-- what was told of a place
pub told_then : {S E : Type 0} (result : Result (Option ValuePlace) E) (seen : S → Seen) (files : S) (P Q : Option ValuePlace → Names → Type 0) → ((found : Option ValuePlace) (names : Names) → P found names → Q found names) → Tells seen files result P → Tells seen files result Q
told_then (Ok found) seen files P Q then says = λ names told. then found names (says names told)
told_then (Err e) seen files P Q then says = tt

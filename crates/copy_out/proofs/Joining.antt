-- A line is written field by field.
use Rattle.std.proofs.Common.{◌≡◌, ℕ, zero, suc, ◌+◌, ◌<◌, ◌==◌, false, List, [], ◌∷◌, ◌++◌, length, drop, get_or, refl, sym, ap, subst, ◌∙◌, arith, add-one, append-nil, append_assoc}
use Rattle.std.specs.List.{flat_map}
use Rattle.std.proofs.lemmas.Bool.{cond-false}
use Rattle.std.proofs.lemmas.List.{drop_more}
use Rattle.case_file.specs.declared.case.Column.{Column}
use Rattle.heap_rows.specs.RowFits.{FitColumns, FitsColumn}
use Rattle.copy_out.specs.Fields.{field_text}
use Rattle.copy_out.specs.Lines.{fields_of, joined, tab_before}
use Rattle.heap_rows.specs.declared.row_cells.Cell.{Cell}

-- fields with a tab before each
abbrev pub with_tabs : List (List ℕ) → List ℕ
with_tabs fields = flat_map (λ f. 9 ∷ f) fields

-- what is left to write before field i: a tab is before each field but the first
abbrev pub rest_of : ℕ → List (List ℕ) → List ℕ
rest_of zero fields = joined fields
rest_of (suc n) fields = with_tabs fields

joined_from : (f : List ℕ) (fs : List (List ℕ)) → joined (f ∷ fs) ≡ f ++ with_tabs fs
joined_from f [] = sym (append-nil f)
joined_from f (g ∷ gs) = ap (λ (r : List ℕ). f ++ 9 ∷ r) (joined_from g gs)

later : (i : ℕ) (fs : List (List ℕ)) → rest_of (i + 1) fs ≡ with_tabs fs
later i fs = ap (λ (n : ℕ). rest_of n fs) (add-one i)

first_field : (text f : List ℕ) (fs : List (List ℕ)) → (text ++ f) ++ rest_of (0 + 1) fs ≡ text ++ rest_of 0 (f ∷ fs)
first_field text f fs =
    ap (λ (r : List ℕ). (text ++ f) ++ r) (later zero fs) ∙ append_assoc text f (with_tabs fs) ∙ ap (λ (r : List ℕ). text ++ r) (sym (joined_from f fs))

later_field : (i : ℕ) (text f : List ℕ) (fs : List (List ℕ)) → ((text ++ 9 ∷ []) ++ f) ++ rest_of (suc i + 1) fs ≡ text ++ rest_of (suc i) (f ∷ fs)
later_field i text f fs =
    ap (λ (r : List ℕ). ((text ++ 9 ∷ []) ++ f) ++ r) (later (suc i) fs)
    ∙ append_assoc (text ++ 9 ∷ []) f (with_tabs fs) ∙ append_assoc text (9 ∷ []) (f ++ with_tabs fs)

not_first : (i : ℕ) → (suc i == 0) ≡ false
not_first i = grind arith

-- a field was written, behind a tab unless it is the first
pub field_written : (i : ℕ) (text f : List ℕ) (fs : List (List ℕ)) → ((text ++ tab_before i) ++ f) ++ rest_of (i + 1) fs ≡ text ++ rest_of i (f ∷ fs)
field_written zero text f fs = ap (λ (r : List ℕ). (r ++ f) ++ rest_of (0 + 1) fs) (append-nil text) ∙ first_field text f fs
field_written (suc i) text f fs =
    ap (λ (t : List ℕ). ((text ++ t) ++ f) ++ rest_of (suc i + 1) fs) (cond-false _ _ _ (not_first i)) ∙ later_field i text f fs

pub none_left : (i : ℕ) → rest_of i [] ≡ []
none_left zero = refl
none_left (suc i) = refl

-- at field i there is a cell, which fits its column, and so do those after it
pub record IsAt (columns : List Column) (cells : List Cell) (i : ℕ) (column : Column) (c : Cell) : Type 0 where
  pub field : fields_of (drop i columns) (drop i cells) ≡ field_text column.ctype c ∷ fields_of (drop (i + 1) columns) (drop (i + 1) cells)
  pub fits : FitsColumn column c
  pub rest : FitColumns (drop (i + 1) columns) (drop (i + 1) cells)

some_cell : (column : Column) (columns : List Column) (cells : List Cell) → FitColumns (column ∷ columns) cells → 0 < length cells
some_cell column columns [] h = absurd h
some_cell column columns (c ∷ cells) h = omega arith

-- there are as many cells as columns
pub fit_length : (columns : List Column) (cells : List Cell) → FitColumns columns cells → length cells ≡ length columns
fit_length [] [] h = refl
fit_length [] (c ∷ cells) h = absurd h
fit_length (column ∷ columns) [] h = absurd h
fit_length (column ∷ columns) (c ∷ cells) h = ap suc (fit_length columns cells h.1)

at_split : (columns : List Column) (cells : List Cell) (i : ℕ) (column : Column) (c : Cell) → FitColumns (drop i columns) (drop i cells)
    → drop i columns ≡ column ∷ drop (i + 1) columns → drop i cells ≡ c ∷ drop (i + 1) cells → IsAt columns cells i column c
at_split columns cells i column c h t k =
    let fits : FitColumns (column ∷ drop (i + 1) columns) (c ∷ drop (i + 1) cells) =
    subst (λ (cs : List Cell). FitColumns (column ∷ drop (i + 1) columns) cs) k (subst (λ (ts : List Column). FitColumns ts (drop i cells)) t h) in
    record {
      field = ap (λ (ts : List Column). fields_of ts (drop i cells)) t ∙ ap (λ (cs : List Cell). fields_of (column ∷ drop (i + 1) columns) cs) k;
      fits = fits.0;
      rest = fits.1;
    }

pub at_field : (columns : List Column) (cells : List Cell) (i : ℕ) (column : Column) (c : Cell) → FitColumns (drop i columns) (drop i cells)
    → i < length columns → i < length cells → column ≡ get_or columns i column → c ≡ get_or cells i c → IsAt columns cells i column c
at_field columns cells i column c h lt lc t k =
    at_split columns cells i column c h
    (drop_more columns i column lt ∙ ap (λ (x : Column). x ∷ drop (i + 1) columns) (sym t))
    (drop_more cells i c lc ∙ ap (λ (x : Cell). x ∷ drop (i + 1) cells) (sym k))

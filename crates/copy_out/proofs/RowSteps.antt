-- A row is read field by field.
use Rattle.std.proofs.Common.{◌≡◌, ◌≢◌, ◌⊎◌, inl, inr, ℕ, zero, suc, ◌+◌, ◌<◌, List, [], ◌∷◌, ◌++◌, length, take, drop, get_or, refl, sym, ap, subst, ◌∙◌, arith}
use Rattle.std.specs.List.{AllByRecursion}
use Rattle.std.proofs.lemmas.List.{drop_more, take_more}
use Rattle.case_file.specs.declared.case.Column.{Column}
use Rattle.heap_rows.specs.RowFits.{FitColumns, FitsColumn}
use Rattle.copy_out.specs.Fields.{HasBytes, IsField, field_text}
use Rattle.copy_out.specs.Lines.{IsRow, fields_of, joined, row_text}
use Rattle.copy_out.specs.Readings.{CutsField, Lacks}
use Rattle.heap_rows.specs.declared.row_cells.Cell.{Cell}
use Rattle.heap_rows.specs.declared.row_cells.Cell.TheVariants.{Packed}
use Rattle.copy_out.proofs.Breaks.{IsClear, IsPlain, cut_same, each-drop, each-weaker}
use Rattle.copy_out.proofs.Joining.{fit_length}
use Rattle.copy_out.proofs.LineLaws.{fields_clear}

-- a byte isn't lacking where it stands
pub no_split : (d : ℕ) (xs ys : List ℕ) → Lacks d (xs ++ d ∷ ys) → ⊥
no_split d [] ys h = h.0 refl
no_split d (x ∷ xs) ys h = no_split d xs ys h.1

clear_lacks : (f : List ℕ) → IsClear f → Lacks 9 f
clear_lacks f h = each-weaker IsPlain (λ b. b ≢ 9) (λ b p. p.no_tab) f h

-- the field that is cut off is the first one
next_field : (f : List ℕ) (fs : List (List ℕ)) (bytes field after : List ℕ) → AllByRecursion IsClear (f ∷ fs) → bytes ≡ joined (f ∷ fs)
    → Lacks 9 field → (bytes ≡ field ++ 9 ∷ after) ⊎ ((bytes ≡ field) × (after ≡ [])) → (field ≡ f) × (after ≡ joined fs)
next_field f [] bytes field after h e l (inl cut) =
    absurd (no_split 9 field after (subst (Lacks 9) (sym e ∙ cut) (clear_lacks f h.0)))
next_field f [] bytes field after h e l (inr all) = (sym all.0 ∙ e, all.1)
next_field f (g ∷ fs) bytes field after h e l (inl cut) =
    cut_same 9 field f after (joined (g ∷ fs)) l (clear_lacks f h.0) (sym cut ∙ e)
next_field f (g ∷ fs) bytes field after h e l (inr all) =
    absurd (no_split 9 f (joined (g ∷ fs)) (subst (Lacks 9) (sym all.0 ∙ e) l))

fit_drop : (i : ℕ) (columns : List Column) (cells : List Cell) → FitColumns columns cells → FitColumns (drop i columns) (drop i cells)
fit_drop zero columns cells h = h
fit_drop (suc i) [] [] h = tt
fit_drop (suc i) [] (c ∷ cells) h = absurd h
fit_drop (suc i) (column ∷ columns) [] h = absurd h
fit_drop (suc i) (column ∷ columns) (c ∷ cells) h = fit_drop i columns cells h.1

pub fit_push : (columns : List Column) (cells : List Cell) (column : Column) (c : Cell) → FitColumns columns cells → FitsColumn column c
    → FitColumns (columns ++ column ∷ []) (cells ++ c ∷ [])
fit_push [] [] column c h f = (f, tt)
fit_push [] (d ∷ cells) column c h f = absurd h
fit_push (t ∷ columns) [] column c h f = absurd h
fit_push (t ∷ columns) (d ∷ cells) column c h f = (h.0, fit_push columns cells column c h.1 f)

-- what was cut off is the field of the next cell, and the rest that of those after it
pub record IsNext (columns : List Column) (wanted : List Cell) (i : ℕ) (column : Column) (field after : List ℕ) : Type 0 where
  pub is : IsField column (get_or wanted i Packed) field
  pub rest : after ≡ row_text (drop (i + 1) columns) (drop (i + 1) wanted)

next_of : (t : Column) (w : Cell) (columns : List Column) (wanted : List Cell) (rest field after : List ℕ)
    → FitColumns (t ∷ columns) (w ∷ wanted) → AllByRecursion HasBytes (w ∷ wanted) → rest ≡ row_text (t ∷ columns) (w ∷ wanted) → CutsField rest field after
    → IsField t w field × (after ≡ row_text columns wanted)
next_of t w columns wanted rest field after fit bytes e cut =
    let both = next_field (field_text t.ctype w) (fields_of columns wanted) rest field after (fields_clear (t ∷ columns) (w ∷ wanted) fit bytes) e cut.no_tab cut.cut in
    (record { fits = fit.0; bytes = bytes.0; is = both.0 }, both.1)

pub row_step : (columns : List Column) (wanted : List Cell) (i : ℕ) (column : Column) (rest field after : List ℕ) → IsRow columns wanted → i < length columns
    → column ≡ get_or columns i column → rest ≡ row_text (drop i columns) (drop i wanted) → CutsField rest field after → IsNext columns wanted i column field after
row_step columns wanted i column rest field after r lt at e cut =
    let lw : i < length wanted = omega (arith, fit_length columns wanted r.fit) in
    let ts = drop_more columns i column lt ∙ ap (λ (x : Column). x ∷ drop (i + 1) columns) (sym at) in
    let ws = drop_more wanted i Packed lw in
    let both = next_of column (get_or wanted i Packed) (drop (i + 1) columns) (drop (i + 1) wanted) rest field after
    (subst (λ (cs : List Cell). FitColumns (column ∷ drop (i + 1) columns) cs) ws (subst (λ (ts : List Column). FitColumns ts (drop i wanted)) ts (fit_drop i columns wanted r.fit)))
    (subst (AllByRecursion HasBytes) ws (each-drop HasBytes i wanted r.bytes))
    (e ∙ ap (λ (ts : List Column). row_text ts (drop i wanted)) ts ∙ ap (λ (cs : List Cell). row_text (column ∷ drop (i + 1) columns) cs) ws)
    cut in
    record { is = both.0; rest = both.1 }

-- one cell more
pub one_more : (columns : List Column) (wanted cells : List Cell) (i : ℕ) (c : Cell) → IsRow columns wanted → i < length columns → cells ≡ take i wanted
    → c ≡ get_or wanted i Packed → cells ++ c ∷ [] ≡ take (i + 1) wanted
one_more columns wanted cells i c r lt e k =
    let lw : i < length wanted = omega (arith, fit_length columns wanted r.fit) in
    let more = take_more wanted i Packed lw in
    cc

-- A text tells its rows.
use Rattle.std.proofs.Common.{◌≡◌, ◌≢◌, ℕ, suc, List, [], ◌∷◌, ◌++◌, length, refl, sym, ap, ◌∙◌, arith}
use Rattle.std.specs.List.{AllByRecursion}
use Rattle.std.proofs.lemmas.List.{append_assoc}
use Rattle.case_file.specs.declared.case.Column.{Column}
use Rattle.copy_out.specs.Fields.{HasBytes, field_text}
use Rattle.copy_out.specs.Laws.{TextsTellRows}
use Rattle.heap_rows.specs.RowFits.{FitColumns}
use Rattle.copy_out.specs.Lines.{IsRow, fields_of, joined, line_of, text_of}
use Rattle.heap_rows.specs.declared.row_cells.Cell.{Cell}
use Rattle.copy_out.proofs.Breaks.{IsClear, IsPlain, cut_same, each-joined, each-weaker, joined_same}
use Rattle.copy_out.proofs.FieldLaws.{field_clear, field_tells}

pub fields_clear : (columns : List Column) (cells : List Cell) → FitColumns columns cells → AllByRecursion HasBytes cells
    → AllByRecursion IsClear (fields_of columns cells)
fields_clear [] [] f b = tt
fields_clear [] (c ∷ cells) f b = absurd f
fields_clear (column ∷ columns) [] f b = absurd f
fields_clear (column ∷ columns) (c ∷ cells) f b = (field_clear column c f.0 b.0, fields_clear columns cells f.1 b.1)

pub length-fields_of : (columns : List Column) (cells : List Cell) → FitColumns columns cells → length (fields_of columns cells) ≡ length columns
length-fields_of [] [] f = refl
length-fields_of [] (c ∷ cells) f = absurd f
length-fields_of (column ∷ columns) [] f = absurd f
length-fields_of (column ∷ columns) (c ∷ cells) f = ap suc (length-fields_of columns cells f.1)

no_tabs : (fields : List (List ℕ)) → AllByRecursion IsClear fields → AllByRecursion (AllByRecursion (λ b. b ≢ 9)) fields
no_tabs fields h = each-weaker IsClear (AllByRecursion (λ b. b ≢ 9)) (λ f. each-weaker IsPlain (λ b. b ≢ 9) (λ b p. p.no_tab) f) fields h

pub no_feeds : (fields : List (List ℕ)) → AllByRecursion IsClear fields → AllByRecursion (λ b. b ≢ 10) (joined fields)
no_feeds fields h =
    each-joined (λ b. b ≢ 10) 9 (λ e. omega arith) fields
    (each-weaker IsClear (AllByRecursion (λ b. b ≢ 10)) (λ f. each-weaker IsPlain (λ b. b ≢ 10) (λ b p. p.no_line_feed) f) fields h)

-- the fields of a row tell its cells
fields_tell : (columns : List Column) (a b : List Cell) → FitColumns columns a → AllByRecursion HasBytes a → FitColumns columns b
    → AllByRecursion HasBytes b → fields_of columns a ≡ fields_of columns b → a ≡ b
fields_tell [] [] [] fa ba fb bb e = refl
fields_tell [] [] (d ∷ b) fa ba fb bb e = absurd fb
fields_tell [] (c ∷ a) b fa ba fb bb e = absurd fa
fields_tell (column ∷ columns) [] b fa ba fb bb e = absurd fa
fields_tell (column ∷ columns) (c ∷ a) [] fa ba fb bb e = absurd fb
fields_tell (column ∷ columns) (c ∷ a) (d ∷ b) fa ba fb bb e =
    let one : field_text column.ctype c ≡ field_text column.ctype d = cc in
    let more : fields_of columns a ≡ fields_of columns b = cc in
    let first = field_tells column c d fa.0 ba.0 fb.0 bb.0 one in
    let rest = fields_tell columns a b fa.1 ba.1 fb.1 bb.1 more in
    cc

-- what begins with a line tells that row, and what follows
pub line_tells : (columns : List Column) (a b : List Cell) (r s : List ℕ) → IsRow columns a → IsRow columns b
    → line_of columns a ++ r ≡ line_of columns b ++ s → (a ≡ b) × (r ≡ s)
unfolding line_of
line_tells columns a b r s ha hb e =
    let fields = λ (c : List Cell). fields_of columns c in
    let ca = fields_clear columns a ha.fit ha.bytes in
    let cb = fields_clear columns b hb.fit hb.bytes in
    let plain : joined (fields_of columns a) ++ 10 ∷ r ≡ joined (fields_of columns b) ++ 10 ∷ s =
    sym (append_assoc (joined (fields_of columns a)) (10 ∷ []) r) ∙ e ∙ append_assoc (joined (fields_of columns b)) (10 ∷ []) s in
    let cut = cut_same 10 (joined (fields_of columns a)) (joined (fields_of columns b)) r s (no_feeds (fields_of columns a) ca) (no_feeds (fields_of columns b) cb) plain in
    let same = joined_same 9 (fields_of columns a) (fields_of columns b) (no_tabs (fields_of columns a) ca) (no_tabs (fields_of columns b) cb)
    (length-fields_of columns a ha.fit ∙ sym (length-fields_of columns b hb.fit)) cut.0 in
    (fields_tell columns a b ha.fit ha.bytes hb.fit hb.bytes same, cut.1)

-- no line is empty
line_some : (bytes r : List ℕ) → (bytes ++ 10 ∷ []) ++ r ≢ []
line_some [] r e = cc e
line_some (b ∷ bytes) r e = cc e

pub some_line : (columns : List Column) (a : List Cell) (r : List ℕ) → line_of columns a ++ r ≢ []
unfolding line_of
some_line columns a r e = line_some (joined (fields_of columns a)) r e

pub text_tells : TextsTellRows
text_tells columns [] [] hx hy e = refl
text_tells columns [] (y ∷ ys) hx hy e = absurd (some_line columns y (text_of columns ys) (sym e))
text_tells columns (x ∷ xs) [] hx hy e = absurd (some_line columns x (text_of columns xs) e)
text_tells columns (x ∷ xs) (y ∷ ys) hx hy e =
    let parts = line_tells columns x y (text_of columns xs) (text_of columns ys) hx.0 hy.0 e in
    let rest = text_tells columns xs ys hx.1 hy.1 parts.1 in
    cc (parts.0, rest)

-- Which texts are refused, and where.
use Rattle.std.proofs.Common.{◌≡◌, ◌≢◌, ◌==◌, false, ℕ, suc, ◌<◌, List, [], ◌∷◌, ◌++◌, length, Result, Ok, Err, refl, sym, ap, subst, ◌∙◌, arith, append-nil, append_assoc}
use Rattle.std.specs.Prelude.{IfErr, IfOk}
use Rattle.std.specs.List.{AllByRecursion}
use Rattle.std.proofs.lemmas.Bool.{cond-false}
use Rattle.std.proofs.lemmas.List.{append_cancel_right}
use Rattle.std.proofs.lemmas.List.Concat.{flat_map-append}
use Rattle.case_file.specs.declared.case.Column.{Column}
use Rattle.copy_out.specs.Laws.{RefusedIsNoText, RefusedOnce}
use Rattle.copy_out.specs.Lines.{IsRow, IsText, fields_of, line_of, row_text, text_of}
use Rattle.copy_out.specs.Readings.{IsNoRow, Lacks}
use Rattle.copy_out.specs.Refused.{Answers, IsNoLine, first_line, TellsFault}
use Rattle.heap_rows.specs.declared.row_cells.Cell.{Cell}
use Rattle.copy_out.specs.declared.read_texts.LineFault.{LineFault}
use Rattle.copy_out.specs.declared.read_texts.LineFault.TheVariants.{NoMemory, Refused}
use Rattle.copy_out.proofs.LineLaws.{fields_clear, line_tells, no_feeds, some_line, text_tells}
use Rattle.copy_out.proofs.RowSteps.{no_split}

step : (b : ℕ) → b ≢ 10 → (b == 10) ≡ false
step b h = grind arith

first_line_cut : (row after : List ℕ) → Lacks 10 row → first_line (row ++ 10 ∷ after) ≡ row ++ 10 ∷ []
first_line_cut [] after h = refl
first_line_cut (b ∷ row) after h = cond-false _ _ _ (step b h.0) ∙ ap (λ (r : List ℕ). b ∷ r) (first_line_cut row after h.1)

first_line_all : (bytes : List ℕ) → Lacks 10 bytes → first_line bytes ≡ bytes
first_line_all [] h = refl
first_line_all (b ∷ bytes) h = cond-false _ _ _ (step b h.0) ∙ ap (λ (r : List ℕ). b ∷ r) (first_line_all bytes h.1)

-- bytes without a line feed are no line
pub no_feed_no_line : (columns : List Column) (bytes : List ℕ) → Lacks 10 bytes → IsNoLine columns (first_line bytes)
unfolding line_of
no_feed_no_line columns bytes lacks cells r e =
    no_split 10 (row_text columns cells) [] (subst (Lacks 10) (sym (first_line_all bytes lacks) ∙ e) lacks)

-- nor are bytes before a line feed that are no row's
pub no_row_no_line : (columns : List Column) (bytes row after : List ℕ) → bytes ≡ row ++ 10 ∷ after → Lacks 10 row → IsNoRow columns row → IsNoLine columns (first_line bytes)
unfolding line_of
no_row_no_line columns bytes row after cut lacks none cells r e =
    none cells r (append_cancel_right row (row_text columns cells) (10 ∷ []) (sym (first_line_cut row after lacks) ∙ ap first_line (sym cut) ∙ e))

-- what goes on with a line that is no row's, doesn't begin with a row's line
begins_with_none : (columns : List Column) (bytes more : List ℕ) (cells : List Cell) → IsNoLine columns (first_line bytes) → IsRow columns cells → bytes ≢ line_of columns cells ++ more
unfolding line_of
begins_with_none columns bytes more cells none r e =
    none cells r (ap first_line (e ∙ append_assoc (row_text columns cells) (10 ∷ []) more)
    ∙ first_line_cut (row_text columns cells) more (no_feeds (fields_of columns cells) (fields_clear columns cells r.fit r.bytes)))

-- one row more is read
pub row_read : (columns : List Column) (text rest row after : List ℕ) (rows : List (List Cell)) (cells : List Cell) → text ≡ text_of columns rows ++ rest
    → rest ≡ row ++ 10 ∷ after → row ≡ row_text columns cells → text ≡ text_of columns (rows ++ cells ∷ []) ++ after
unfolding line_of
row_read columns text rest row after rows cells told cut is =
    told ∙ ap (λ (r : List ℕ). text_of columns rows ++ r) (cut ∙ ap (λ (r : List ℕ). r ++ 10 ∷ after) is ∙ sym (append_assoc (row_text columns cells) (10 ∷ []) after))
    ∙ sym (append_assoc (text_of columns rows) (line_of columns cells) after)
    ∙ ap (λ (r : List ℕ). r ++ after) (ap (λ (r : List ℕ). text_of columns rows ++ r) (sym (append-nil (line_of columns cells))) ∙ sym (flat_map-append (line_of columns) rows (cells ∷ [])))

-- where some rows' lines go on with no line, and others' with nothing
apart : (columns : List Column) (before rows : List (List Cell)) (rest : List ℕ) → AllByRecursion (IsRow columns) before → AllByRecursion (IsRow columns) rows
    → 0 < length rest → IsNoLine columns (first_line rest) → text_of columns before ++ rest ≡ text_of columns rows → ⊥
apart columns [] [] rest hb hr some none e = absurd (omega (arith, ap length e))
apart columns [] (r ∷ rows) rest hb hr some none e = begins_with_none columns rest (text_of columns rows) r none hr.0 e
apart columns (b ∷ before) [] rest hb hr some none e =
    some_line columns b (text_of columns before ++ rest) (sym (append_assoc (line_of columns b) (text_of columns before) rest) ∙ e)
apart columns (b ∷ before) (r ∷ rows) rest hb hr some none e =
    apart columns before rows rest hb.1 hr.1 some none
    (line_tells columns b r (text_of columns before ++ rest) (text_of columns rows) hb.0 hr.0 (sym (append_assoc (line_of columns b) (text_of columns before) rest) ∙ e)).1

pub refused_is_no_text : RefusedIsNoText
refused_is_no_text columns text line rows f t = apart columns f.before rows f.rest f.fit t.fit f.some f.none (sym f.is ∙ t.is)

-- two ways to the first line that is no row's are as long
same_place : (columns : List Column) (xs ys : List (List Cell)) (r s : List ℕ) → AllByRecursion (IsRow columns) xs → AllByRecursion (IsRow columns) ys
    → IsNoLine columns (first_line r) → IsNoLine columns (first_line s) → text_of columns xs ++ r ≡ text_of columns ys ++ s → length xs ≡ length ys
same_place columns [] [] r s hx hy nr ns e = refl
same_place columns [] (y ∷ ys) r s hx hy nr ns e = absurd (begins_with_none columns r (text_of columns ys ++ s) y nr hy.0 (e ∙ append_assoc (line_of columns y) (text_of columns ys) s))
same_place columns (x ∷ xs) [] r s hx hy nr ns e = absurd (begins_with_none columns s (text_of columns xs ++ r) x ns hx.0 (sym e ∙ append_assoc (line_of columns x) (text_of columns xs) r))
same_place columns (x ∷ xs) (y ∷ ys) r s hx hy nr ns e =
    ap suc (same_place columns xs ys r s hx.1 hy.1 nr ns
    (line_tells columns x y (text_of columns xs ++ r) (text_of columns ys ++ s) hx.0 hy.0
    (sym (append_assoc (line_of columns x) (text_of columns xs) r) ∙ e ∙ append_assoc (line_of columns y) (text_of columns ys) s)).1)

pub refused_once : RefusedOnce
refused_once columns text a b f g =
    let same = same_place columns f.before g.before f.rest g.rest f.fit g.fit f.none g.none (sym f.is ∙ g.is) in
    omega (arith, f.count, g.count)

-- the answer to the text of rows is these rows
pub answers_rows : (columns : List Column) (text : List ℕ) (r : Result (List (List Cell)) LineFault) → IfOk r (λ rows. IsText columns rows text)
    → IfErr r (λ e. TellsFault columns text e) → (rows : List (List Cell)) → IsText columns rows text → Answers r rows
answers_rows columns text (Ok found) ok err rows t = text_tells columns found rows ok.fit t.fit (sym ok.is ∙ t.is)
answers_rows columns text (Err (Refused line)) ok err rows t = refused_is_no_text columns text line rows err t
answers_rows columns text (Err NoMemory) ok err rows t = tt

-- One line after another.
use Rattle.std.proofs.Common.{◌≡◌, ℕ, ◌+◌, List, [], ◌∷◌, ◌++◌, length, append-nil, append_assoc, sym, subst, ap, ◌∙◌, arith}
use Rattle.laws_search.specs.Keys.{Entry}
use Rattle.key_orders.specs.declared.columns.Value.{Value}
use Rattle.key_orders.specs.declared.Tid.{Tid}
use Rattle.bt_scan_lines.specs.declared.lines.LineWriter.{LineWriter}
use Rattle.bt_scan_lines.specs.Lines.{AddsLinesOf, LeavesLinesOf, line_of, lines_of}

-- at first all are left
pub leaves-all : (es left : List (Entry Value Tid)) (old : LineWriter) → left ≡ es → LeavesLinesOf es left old old
leaves-all es left old is = record {
  text = ap (λ (l : List (Entry Value Tid)). old.text ++ lines_of l) is;
  count = ap (λ (l : List (Entry Value Tid)). old.count + length l) is;
}

-- one line more
pub leaves-next : (es left rest : List (Entry Value Tid)) (e : Entry Value Tid) (old now new : LineWriter)
    → LeavesLinesOf es left old now → left ≡ e ∷ rest → new.text ≡ now.text ++ line_of e → new.count ≡ now.count + 1
    → LeavesLinesOf es rest old new
leaves-next es left rest e old now new so_far is one more =
    let all = so_far.count in
    let longer : length left ≡ length rest + 1 = ap length is ∙ omega arith in
    record {
      text = ap (λ (l : List ℕ). l ++ lines_of rest) one ∙ (append_assoc now.text (line_of e) (lines_of rest) ∙ (ap (λ (l : List (Entry Value Tid)). now.text ++ lines_of l) (sym is) ∙ so_far.text));
      count = omega (arith, all, longer, more);
    }

-- one part after another
pub leaves-then : (es mid left : List (Entry Value Tid)) (old now new : LineWriter) → LeavesLinesOf es mid old now → LeavesLinesOf mid left now new → LeavesLinesOf es left old new
leaves-then es mid left old now new first second = record { text = second.text ∙ first.text; count = second.count ∙ first.count }

-- what is left, by another name
pub leaves-as : (es left rest : List (Entry Value Tid)) (old now : LineWriter) → left ≡ rest → LeavesLinesOf es left old now → LeavesLinesOf es rest old now
leaves-as es left rest old now same so_far = subst (λ (l : List (Entry Value Tid)). LeavesLinesOf es l old now) same so_far

-- and where none is left they are added
pub leaves-none : (es left : List (Entry Value Tid)) (old now : LineWriter) → LeavesLinesOf es left old now → left ≡ [] → AddsLinesOf es old now
leaves-none es left old now so_far none =
    let all = so_far.count in
    let nothing : length left ≡ 0 = ap length none in
    record {
      text = sym (append-nil now.text) ∙ (ap (λ (l : List (Entry Value Tid)). now.text ++ lines_of l) (sym none) ∙ so_far.text);
      count = omega (arith, all, nothing);
    }

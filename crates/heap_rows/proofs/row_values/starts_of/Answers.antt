use Rattle.std.proofs.Common.{◌≡◌, ℕ, ◌+◌, List, [], ◌∷◌, ◌++◌, length, sym, ap, subst, ◌∙◌, arith, inl, inr}
use Rattle.std.specs.Prelude.{IfSome, None, Option, Some}
use Rattle.std.proofs.lemmas.List.{get_or_append_left, get_or_push, length-append}
use Rattle.key_orders.specs.declared.columns.ColType.{ColType}
use Rattle.varlena_attrs.specs.Inline.{IsLayout}
use Rattle.heap_rows.specs.declared.row_values.AskedColumns.{AskedColumns}
use Rattle.heap_rows.specs.RowValues.{AreStarts, column_asked}
use Rattle.heap_rows.proofs.RowValues.{before_or_last, has_value}
use Rattle.heap_rows.proofs.row_values.starts_of.Goals as goal

one_more : (types : List ColType) (asked : AskedColumns) (starts : List (Option ℕ)) (last : Option ℕ) → AreStarts types asked starts
    → IfSome last (IsLayout types (column_asked asked (length starts))) → AreStarts types asked (starts ++ last ∷ [])
one_more types asked starts last before is = λ k start at.
    elim (before_or_last k (length starts) (omega (arith, at.inside, length-append starts (last ∷ [])))) [
      | inl lt ↦ before k start (record { inside = lt; is = sym (get_or_append_left starts (last ∷ []) None k lt) ∙ at.is })
      | inr same ↦
          let own : last ≡ Some start = sym (get_or_push starts last None k (sym same)) ∙ at.is in
          subst (λ (n : ℕ). IsLayout types (column_asked asked n) start) (sym same) (has_value last start (IsLayout types (column_asked asked (length starts))) own is)
    ]

pub loop-k-preserved : goal.loop-k-preserved
loop-k-preserved c =
    let types = c.args.types.now in
    let asked = c.args.asked.now in
    let starts = c.loop-k.starts.items in
    let last : IfSome c.start_of.result (IsLayout types (column_asked asked (length starts))) =
    subst (λ (a : ℕ). IfSome c.start_of.result (IsLayout types a)) (c.column.ensures ∙ ap (column_asked asked) (sym c.loop-k.invariant.count)) c.start_of.ensures in
    record {
      starts = subst (λ (ss : List (Option ℕ)). AreStarts types asked ss) (sym c.in_ok-push.ensures.items) (one_more types asked starts c.start_of.result c.loop-k.invariant.starts last);
      count = ap length c.in_ok-push.ensures.items ∙ length-append starts (c.start_of.result ∷ []) ∙ ap (λ (n : ℕ). n + 1) c.loop-k.invariant.count;
    }

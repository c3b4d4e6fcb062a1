use Rattle.std.proofs.Common.{◌≡◌, ◌∷◌, [], List, ℕ, Some, length, length-append, sym, ap, subst, ◌∙◌, arith}
use Rattle.key_orders.specs.declared.columns.ColType.{ColType}
use Rattle.key_orders.specs.declared.columns.Value.{Value}
use Rattle.key_orders.specs.Values.{value_shown}
use Rattle.varlena_attrs.specs.Inline.{IsLayout}
use Rattle.varlena_attrs.specs.InTurn.{AreRead, TupleParts}
use Rattle.heap_rows.specs.PageRows.{HasValue, HasValues}
use Rattle.heap_rows.specs.RowValues.{IsStart, column_asked}
use Rattle.heap_rows.proofs.PageRows.{next_values}
use Rattle.heap_rows.proofs.RowValues.{has_value}
use Rattle.heap_rows.proofs.page_rows.PageTuples.read_row.Goals as goal

pub loop-k-preserved : goal.loop-k-preserved
loop-k-preserved c =
    let tuples = c.args.self in
    let types = tuples.types.now in
    let asked = tuples.asked.now in
    let k = c.loop-k.k in
    let attrs = c.loop-k.attrs in
    let vs = c.loop-k.values in
    let v = value_shown c.in-Some-value_there.value in
    let so_far = c.loop-k.invariant in
    let column = c.column-column.result in
    let same = c.in-Some-value_there.ensures.same in
    record {
      columns = ap (λ (t : TupleParts). t.columns) same ∙ so_far.columns;
      read = λ list has. subst (λ (t : TupleParts). AreRead t list) (sym same) (so_far.read list has);
      count = ap length c.push.ensures ∙ length-append vs (v ∷ []) ∙ omega (arith, so_far.count, c.loop-k.auto.k);
      within = omega (arith, c.loop-k-test.true, c.loop-k.auto.k);
      values = λ list has starts.
          let layout : (place : ℕ) → c.start_at-start.result ≡ Some place → IsLayout attrs.columns column place = λ place is.
          subst (λ (ts : List ColType). IsLayout ts column place) (sym so_far.columns)
          (subst (λ (a : ℕ). IsLayout types a place) (sym c.column-column.ensures)
          (starts k place (has_value c.start_at-start.result place (IsStart tuples.starts.now k) is c.start_at-start.ensures))) in
          let own : HasValue types list (column_asked asked k) v =
          subst (λ (ts : List ColType). HasValue ts list (column_asked asked k) v) so_far.columns
          (subst (λ (a : ℕ). HasValue attrs.columns list a v) c.column-column.ensures (c.in-Some-value_there.ensures.value list (so_far.read list has) layout)) in
          subst (λ (ws : List Value). HasValues types asked c.args.first list ws) (sym c.push.ensures)
          (next_values types asked c.args.first k list vs v so_far.count c.loop-k.auto.k (so_far.values list has starts) own);
    }

pub returns-clause-count : goal.returns-clause-count
returns-clause-count c = omega (arith, c.loop-k.invariant.count, c.loop-k.invariant.within, c.loop-k-test.false)

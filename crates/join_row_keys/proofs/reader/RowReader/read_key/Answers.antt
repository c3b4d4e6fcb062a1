use Rattle.std.proofs.Common.{◌∙◌, ◌∷◌, ◌+◌, ◌<◌, ◌≤◌, ℕ, List, [], length, sym, ap, subst, arith, length-append}
use Rattle.std.specs.Prelude.{slice_get}
use Rattle.std.proofs.Math.ListN.{drop_of_length-le}
use Rattle.key_orders.specs.declared.columns.KeySpec.{KeySpec}
use Rattle.key_orders.specs.Values.{value_shown}
use Rattle.key_attrs.specs.Columns.{tree_columns}
use Rattle.join_rules.specs.Rows.{key_numbers, values_at}
use Rattle.join_row_keys.proofs.KeyLaws.{FitSoFar, IsSoFar, any-spec, fit-all, fit-next, key-column, key-count, so-far-all, so-far-next, so-far-packed, spec-column, value-fits}
use Rattle.join_row_keys.proofs.reader.RowReader.read_key.Goals as goal

pub returns-in-Packed-clause-key : goal.returns-in-Packed-clause-key
returns-in-Packed-clause-key c = λ names row rows are is.
    let columns = tree_columns c.args.self.columns in
    let k = c.loop-k.k in
    let lt : k < length columns.specs = omega arith in
    so-far-packed (key_numbers columns) row.cells k c.loop-k.key (omega (arith, key-count columns))
    (ap (slice_get row.cells) (sym (key-column c.args.self.first columns _ k c.requires.reader.asked lt)) ∙ c.in-Packed.ensures.cell names row rows are is)
    (c.loop-k.invariant.values names row rows are is)

pub loop-k-preserved : goal.loop-k-preserved
loop-k-preserved c =
    let columns = tree_columns c.args.self.columns in
    let specs = columns.specs in
    let k = c.loop-k.k in
    let v = value_shown c.in-Held.v in
    let lt : k < length specs = omega arith in
    let at = key-column c.args.self.first columns _ k c.requires.reader.asked lt in
    record {
      each = ap length c.push.ensures ∙ length-append c.loop-k.key (v ∷ []) ∙ ap (λ (n : ℕ). n + 1) c.loop-k.invariant.each;
      values = λ names row rows are is.
          subst (IsSoFar (values_at (key_numbers columns) row.cells) (key_numbers columns) row.cells (k + 1)) (sym c.push.ensures)
          (so-far-next (key_numbers columns) row.cells k c.loop-k.key v (omega (arith, key-count columns)) (ap (slice_get row.cells) (sym at) ∙ c.in-Held.ensures.cell names row rows are is)
          (c.loop-k.invariant.values names row rows are is));
      fits =
          subst (FitSoFar specs (k + 1)) (sym c.push.ensures)
          (fit-next specs k any-spec c.loop-k.key v lt
          (value-fits c.args.cursor.now.case.now.columns specs k any-spec v c.requires.reader.columns.keys lt (λ column there. c.in-Held.ensures.fits column (ap (slice_get c.args.cursor.now.case.now.columns) (at ∙ spec-column columns k) ∙ there)))
          c.loop-k.invariant.fits);
    }

pub returns-clause-key : goal.returns-clause-key
returns-clause-key c = λ names row rows are is.
    let columns = tree_columns c.args.self.columns in
    let end : length (key_numbers columns) ≤ c.loop-k.k = omega (arith, key-count columns) in
    so-far-all (key_numbers columns) row.cells c.loop-k.k c.loop-k.key (drop_of_length-le (key_numbers columns) end) (c.loop-k.invariant.values names row rows are is)

pub returns-clause-fits : goal.returns-clause-fits
returns-clause-fits c =
    let specs : List KeySpec = c.args.self.columns.specs.now in
    let end : length specs ≤ c.loop-k.k = omega arith in
    record {
      fits = fit-all specs c.loop-k.k c.loop-k.key c.loop-k.invariant.fits;
      whole = omega (arith, c.loop-k.invariant.each);
    }

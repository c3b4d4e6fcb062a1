use Rattle.std.proofs.Common.{◌≡◌, ◌∙◌, ◌∷◌, ◌+◌, ◌<◌, ◌≤◌, ℕ, [], length, sym, ap, subst, arith, length-append}
use Rattle.std.specs.Prelude.{slice_get}
use Rattle.std.proofs.Math.ListN.{drop_of_length-le}
use Rattle.key_orders.specs.Values.{value_shown}
use Rattle.key_attrs.specs.Columns.{tree_columns}
use Rattle.heap_rows.specs.RowValues.{column_asked}
use Rattle.join_rules.specs.Rows.{more_numbers, values_at}
use Rattle.join_row_keys.proofs.KeyLaws.{IsSoFar, more-column, more-count, so-far-all, so-far-next, so-far-none, so-far-packed}
use Rattle.join_row_keys.proofs.MoreLaws.{FitMore, any-more, more-fits-all, more-fits-next, more-value-fits, number-at}
use Rattle.join_row_keys.proofs.reader.RowReader.read_more.Goals as goal

pub loop-k-init : goal.loop-k-init
loop-k-init c =
    let columns = tree_columns c.args.self.columns in
    record {
      each = ap length c.requires.none;
      values = λ names row rows are is. subst (IsSoFar (values_at (more_numbers columns) row.cells) (more_numbers columns) row.cells 0) (sym c.requires.none) (so-far-none (more_numbers columns) row.cells);
      fits = subst (FitMore columns.more 0) (sym c.requires.none) (λ vs fits. fits);
    }

pub returns-in-Packed-clause-more : goal.returns-in-Packed-clause-more
returns-in-Packed-clause-more c = λ names row rows are is.
    let columns = tree_columns c.args.self.columns in
    let n = length columns.specs in
    let k = c.loop-k.k in
    let lt : k < length columns.more = omega arith in
    let same : c.args.self.first + n + k ≡ c.args.self.first + (n + k) = omega arith in
    let at = ap (column_asked c.args.cursor.now.asked) same ∙ more-column c.args.self.first columns _ k c.requires.reader.asked lt in
    so-far-packed (more_numbers columns) row.cells k c.loop-k.more (omega (arith, more-count columns))
    (ap (slice_get row.cells) (sym at) ∙ c.in-Packed.ensures.cell names row rows are is)
    (c.loop-k.invariant.values names row rows are is)

pub loop-k-preserved : goal.loop-k-preserved
loop-k-preserved c =
    let columns = tree_columns c.args.self.columns in
    let specs = columns.more in
    let n = length columns.specs in
    let k = c.loop-k.k in
    let v = value_shown c.in-Held.v in
    let lt : k < length specs = omega arith in
    let same : c.args.self.first + n + k ≡ c.args.self.first + (n + k) = omega arith in
    let at = ap (column_asked c.args.cursor.now.asked) same ∙ more-column c.args.self.first columns _ k c.requires.reader.asked lt in
    record {
      each = ap length c.push.ensures ∙ length-append c.loop-k.more (v ∷ []) ∙ ap (λ (n : ℕ). n + 1) c.loop-k.invariant.each;
      values = λ names row rows are is.
          subst (IsSoFar (values_at (more_numbers columns) row.cells) (more_numbers columns) row.cells (k + 1)) (sym c.push.ensures)
          (so-far-next (more_numbers columns) row.cells k c.loop-k.more v (omega (arith, more-count columns)) (ap (slice_get row.cells) (sym at) ∙ c.in-Held.ensures.cell names row rows are is)
          (c.loop-k.invariant.values names row rows are is));
      fits =
          subst (FitMore specs (k + 1)) (sym c.push.ensures)
          (more-fits-next specs k any-more c.loop-k.more v lt
          (more-value-fits c.args.cursor.now.case.now.columns specs k any-more v c.requires.reader.columns.more lt (λ column there. c.in-Held.ensures.fits column (ap (slice_get c.args.cursor.now.case.now.columns) (at ∙ number-at columns k) ∙ there)))
          c.loop-k.invariant.fits);
    }

pub returns-clause-more : goal.returns-clause-more
returns-clause-more c = λ names row rows are is.
    let columns = tree_columns c.args.self.columns in
    let end : length (more_numbers columns) ≤ c.loop-k.k = omega (arith, more-count columns) in
    so-far-all (more_numbers columns) row.cells c.loop-k.k c.loop-k.more (drop_of_length-le (more_numbers columns) end) (c.loop-k.invariant.values names row rows are is)

pub returns-clause-fits : goal.returns-clause-fits
returns-clause-fits c = more-fits-all c.args.self.columns.more.now c.loop-k.k c.loop-k.more c.loop-k.invariant.fits

pub returns-clause-whole : goal.returns-clause-whole
returns-clause-whole c = omega (arith, c.loop-k.invariant.each)

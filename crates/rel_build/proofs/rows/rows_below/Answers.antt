use Rattle.std.proofs.Common.{◌≡◌, ◌++◌, ◌+◌, ◌∷◌, ◌∙◌, [], ap, sym, subst, arith, length, All, ◌<◌, ℕ, List}
use Rattle.rel_build.specs.Rows.{next_number, number_after, rows_below}
use Rattle.rel_build.specs.declared.rows.Row.{Row}
use Rattle.rel_build.proofs.Parts.{groups_small, length_rows, number_next, row_is, rows_next, rows_none}
use Rattle.rel_build.proofs.rows.rows_below.Goals as goal

pub loop-id-init : goal.loop-id-init
unfolding number_after
loop-id-init c = (c.new-rows.ensures.items ∙ sym (rows_none c.args.seed), λ i. c.args.seed)

pub loop-id-preserved : goal.loop-id-preserved
loop-id-preserved c =
    let k = c.loop-id.id in
    let seed = c.args.seed in
    let x_is : c.next_number-x.result ≡ number_after seed (k + 1) =
    c.next_number-x.ensures ∙ ap next_number c.loop-id.invariant.1 ∙ sym (number_next seed k) in (
      c.in_ok-push.ensures.items
          ∙ ap (λ (rows : List Row). rows ++ row_is k c.next_number-x.result ∷ []) c.loop-id.invariant.0
          ∙ ap (λ (x : ℕ). rows_below seed k ++ row_is k x ∷ []) x_is
          ∙ sym (rows_next seed k),
      x_is,
    )

pub returns : goal.returns
returns c =
    let end : c.loop-id.id ≡ c.args.count = omega arith in
    let is : c.loop-id.rows.items ≡ rows_below c.args.seed c.args.count =
    c.loop-id.invariant.0 ∙ ap (rows_below c.args.seed) end in
    record {
      rows = is;
      count = let n : length c.loop-id.rows.items ≡ c.args.count = ap (λ (rows : List Row). length rows) is ∙ length_rows c.args.seed c.args.count in omega (arith, n, c.loop-id.rows.ok);
      small = subst (λ (rows : List Row). All (λ (row : Row). row.group < 100) rows) (sym is) (groups_small c.args.seed c.args.count);
    }

use Rattle.std.proofs.Common.{List, sym, subst, ◌∙◌, ◌<◌, length, arith}
use Rattle.std.proofs.lemmas.List.{take_more}
use Rattle.key_orders.specs.declared.columns.ColType.{ColType}
use Rattle.key_orders.specs.declared.columns.ColType.TheVariants.{Bool as BoolType}
use Rattle.varlena_attrs.specs.Inline.{AreFixed}
use Rattle.varlena_attrs.proofs.Ends.{fixed_more}
use Rattle.varlena_attrs.proofs.inline.column_start.Goals as goal

pub loop-j-preserved : goal.loop-j-preserved
loop-j-preserved c =
    let lt : c.loop-j.j < length c.args.columns.now = omega (arith, c.loop-j-test.true, c.loop-j.auto.j-end, c.requires.inside) in
    record {
      fixed =
          let P : List ColType → Type 0 = λ cs. AreFixed cs 0 c.in-Some.next in
          subst P (sym (take_more c.args.columns.now c.loop-j.j BoolType lt)) (fixed_more _ _ 0 c.loop-j.start c.in-Some.next c.loop-j.invariant.fixed (sym c.fixed_next.ensures ∙ c.in-Some.is));
      small = c.if-next-le-LONGEST.true;
    }

use Rattle.std.proofs.Common.{◌∙◌, ap, arith}
use Rattle.std.proofs.lemmas.Option.{slice_get-get_or}
use Rattle.outside.proofs.Adding.{loop-next, loop-none}
use Rattle.reports.specs.Added.{joined, report_lists}
use Rattle.heap_page_check.proofs.Left.{late_all, late_next}
use Rattle.heap_page_check.proofs.found.add_late_columns.Goals as goal

pub loop-k-init : goal.loop-k-init
loop-k-init c = loop-none report_lists _ _

pub add_late_column-requires : goal.add_late_column-requires
add_late_column-requires c = c.requires.within c.loop-k.k _ (omega (arith, c.loop-k-test.true))

pub loop-k-preserved : goal.loop-k-preserved
loop-k-preserved c =
    let place = slice_get-get_or c.args.places.now c.loop-k.k _ (omega (arith, c.loop-k-test.true)) in
    loop-next report_lists _ _ _ _ _ c.loop-k.invariant (c.in_ok-add_late_column.ensures ∙ ap (joined c.loop-k.late) (late_next _ _ _ _ _ c.args.body.now c.args.places.now _ place))

pub returns : goal.returns
returns c =
    c.loop-k.invariant ∙ ap (joined c.args.late.now) (late_all _ _ _ _ _ c.args.body.now _ (omega (arith, c.loop-k.auto.k-end, c.loop-k-test.false)))

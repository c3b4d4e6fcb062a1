use Rattle.std.proofs.Common.{◌∙◌, arith}
use Rattle.page_write.specs.Pages.{FitsBelow}
use Rattle.page_write.proofs.Laying.{with_header, with_special}
use Rattle.page_write.proofs.page.PageWriter.tree_page.Goals as goal

pub returns : goal.returns
returns c = λ items holds.
    let w = c.args.self in
    let order = w.order in
    let lower = holds.lower in
    let upper = holds.upper in
    let fits : FitsBelow 8176 items = omega (arith, order, lower, upper) in
    c.put_opaque.ensures ∙ with_special items c.args.special _ fits
    (c.finish-page.ensures ∙ with_header 8176 w.upper w.lower w.special items w.bytes holds.lower holds.upper holds.special holds.bytes)

use Rattle.std.proofs.Common.{◌∙◌}
use Rattle.page_write.proofs.Laying.{heap_is, with_header}
use Rattle.page_write.proofs.page.PageWriter.heap_page.Goals as goal

pub returns : goal.returns
returns c = λ items holds.
    let w = c.args.self in
    c.finish.ensures ∙ with_header 8192 w.upper w.lower w.special items w.bytes holds.lower holds.upper holds.special holds.bytes ∙ heap_is items

use Rattle.case_text.proofs.Depths.{document_depth}
use Rattle.case_text.proofs.text.printed.Goals as goal

pub returns-in-Ok : goal.returns-in-Ok
returns-in-Ok c =
    let back = rw c.in_ok-document.ensures at c.in-Ok.ensures.reads_back in
    back (document_depth c.args.cluster.now c.args.table.now)

use Rattle.std.proofs.Common.{◌∙◌, sym}
use Rattle.std.proofs.lemmas.Bool.{eqb-true}
use Rattle.heap_targets.proofs.Blocks.{begun_starts}
use Rattle.heap_targets.proofs.set.begin.Goals as goal

pub returns-in_ok-push-clause-same : goal.returns-in_ok-push-clause-same
returns-in_ok-push-clause-same c =
    let starts = c.args.starts.now in
    begun_starts starts.items c.push.new.self.items (sym starts.ok.0 ∙ eqb-true starts.len 0 (sym c.is_empty.ensures ∙ c.if-is_empty.true)) c.in_ok-push.ensures.items

use Rattle.std.proofs.Common.{◌≡◌, ◌∙◌, ◌∷◌, List, sym}
use Rattle.cmd_run.specs.declared.together.OwnReport.{OwnReport}
use Rattle.cmd_run.proofs.TogetherLaws.{put-step}
use Rattle.cmd_run.proofs.TreesLaws.{popped}
use Rattle.cmd_run.proofs.together.Alone.append_to.Goals as goal

pub loop-own-preserved : goal.loop-own-preserved
loop-own-preserved c = λ case names files were joint.
    let before = c.loop-own.invariant case names files were joint in
    let own : OwnReport = c.in-Some.own in
    let rest : List OwnReport = c.pop_front.new.self.items in
    let is : c.loop-own.alone.own.items ≡ own ∷ rest = popped c.loop-own.alone.own.items rest c.pop_front.result own c.pop_front.ensures.items c.in-Some.is in
    put-step case names c.args.are_joined c.args.report.now files _ own c.loop-own.joint.items c.append_both.new.joint.items c.loop-own.report c.append_both.new.report before.left (sym is ∙ before.own) before.beside before.put
    c.in_ok-append_both.ensures.alone c.in_ok-append_both.ensures.both

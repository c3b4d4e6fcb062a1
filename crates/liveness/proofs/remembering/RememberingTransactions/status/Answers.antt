use Rattle.std.proofs.Common.{◌∙◌, sym}
use Rattle.liveness.proofs.Remembered.{kept_is_true}
use Rattle.liveness.proofs.remembering.RememberingTransactions.status.Goals as goal

pub status-requires : goal.status-requires
status-requires g c names told =
    let kept = kept_is_true names c.args.self.now.memory.now.kept c.in-Some.kept c.in-Some.is (c.args.self.now.kept names told) in
    kept.states

pub invariant_of-self : goal.invariant_of-self
invariant_of-self g c = record {
  kept = λ names told.
      let before = sym c.status.ensures.asked.same ∙ told in
      let kept = kept_is_true names c.args.self.now.memory.now.kept c.in-Some.kept c.in-Some.is (c.args.self.now.kept names before) in
      record { states = c.status.ensures.says_true names before; answers = kept.answers };
}

use Rattle.std.proofs.Common.{◌∙◌, sym}
use Rattle.liveness.proofs.Remembered.{kept_is_true}
use Rattle.liveness.proofs.remembering.RememberingTransactions.updater.Goals as goal

pub updater-requires-clause-says_true : goal.updater-requires-clause-says_true
updater-requires-clause-says_true g c names told =
    let kept = kept_is_true names c.args.self.now.memory.now.kept c.in-Some.kept c.in-Some.is (c.args.self.now.kept names told) in
    kept.answers

pub invariant_of-self : goal.invariant_of-self
invariant_of-self g c = record {
  kept = λ names told.
      let before = sym c.updater.ensures.asked.same ∙ told in
      let kept = kept_is_true names c.args.self.now.memory.now.kept c.in-Some.kept c.in-Some.is (c.args.self.now.kept names before) in
      record { states = kept.states; answers = c.updater.ensures.says_true names before };
}

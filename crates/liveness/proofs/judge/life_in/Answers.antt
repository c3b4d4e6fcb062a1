use Rattle.std.proofs.Common.{arith}
use Rattle.std.proofs.lemmas.Grind.{common_steps}
use Rattle.std.proofs.lemmas.Result.{IfOk-weaker}
use Rattle.liveness.specs.Life.{judged_of}
use Rattle.liveness.proofs.Truth.{judged_says_true}
use Rattle.liveness.proofs.Update.{update_says_true}
use Rattle.liveness.proofs.judge.life_in.Goals as goal

pub returns-in-Some-clause-told : goal.returns-in-Some-clause-told
unfolding judged_of
returns-in-Some-clause-told g c = grind (arith, common_steps)

pub returns-in-Some-clause-says_true : goal.returns-in-Some-clause-says_true
returns-in-Some-clause-says_true g c names told = judged_says_true names _ c.args.head.now _ (returns-in-Some-clause-told g c names told)

pub returns-in-None-clause-told : goal.returns-in-None-clause-told
unfolding judged_of
returns-in-None-clause-told g c = grind (arith, common_steps)

pub returns-in-None-clause-says_true : goal.returns-in-None-clause-says_true
returns-in-None-clause-says_true g c =
    IfOk-weaker c.deleter_judged.result _ _ (λ judged is names told. judged_says_true names _ c.args.head.now judged (is names told))
    (returns-in-None-clause-told g c)

pub returns-in-Some-clause-update_says_true : goal.returns-in-Some-clause-update_says_true
returns-in-Some-clause-update_says_true g c names told = update_says_true names _ c.args.head.now _ (returns-in-Some-clause-told g c names told)

pub returns-in-None-clause-update_says_true : goal.returns-in-None-clause-update_says_true
returns-in-None-clause-update_says_true g c =
    IfOk-weaker c.deleter_judged.result _ _ (λ judged is names told. update_says_true names _ c.args.head.now judged (is names told))
    (returns-in-None-clause-told g c)

use Rattle.std.proofs.Common.{◌≡◌, ◌≤◌, ◌<◌, ◌∙◌, arith, sym, length}
use Rattle.bt_build.proofs.GroupLaws.{run_end, run_stops, run_goes_on}
use Rattle.bt_build.proofs.groups.run_of.Goals as goal

pub returns-then-not-have_one_key : goal.returns-then-not-have_one_key
returns-then-not-have_one_key c =
    let s = c.args.source in
    let lt : c.loop-i.i < length c.args.later.now = omega (arith, c.loop-i-test.true, c.min-end.ensures) in
    let most : c.loop-i.i ≤ c.args.most = omega (arith, c.loop-i-test.true, c.min-end.ensures) in
    run_stops s.specs.now s.more.now s.arena.now c.args.place c.args.later.now c.loop-i.i c.args.most _ c.have_one_key.result lt most
    c.have_one_key.ensures c.if-not-have_one_key.true c.loop-i.invariant

pub loop-i-preserved : goal.loop-i-preserved
loop-i-preserved c =
    let s = c.args.source in
    let lt : c.loop-i.i < length c.args.later.now = omega (arith, c.loop-i-test.true, c.min-end.ensures) in
    run_goes_on s.specs.now s.more.now s.arena.now c.args.place c.args.later.now c.loop-i.i _ c.have_one_key.result lt
    c.have_one_key.ensures c.if-not-have_one_key.false c.loop-i.invariant

pub returns : goal.returns
returns c =
    let s = c.args.source in
    let end : c.min-end.result ≡ c.loop-i.i = omega (arith, c.loop-i-test.false, c.loop-i.auto.i-end) in
    end ∙ run_end s.specs.now s.more.now s.arena.now c.args.place c.args.later.now c.loop-i.i c.args.most (sym end ∙ c.min-end.ensures) c.loop-i.invariant

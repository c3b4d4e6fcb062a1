use Rattle.std.proofs.Common.{◌-◌, ◌*◌, ◌≤◌, refl, arith}
use Rattle.rel_files.proofs.Runs.{lent_page}
use Rattle.rel_files.proofs.ahead.Ahead.page.Goals as goal

pub returns : goal.returns
returns c =
    let from = c.requires.from in
    let before = c.requires.before in
    let few = c.args.self.now.run.few in
    let within : 8192 ≤ 65536 - (c.args.b - c.args.self.now.run.first) * 8192 = omega (arith, from, before, few) in
    lent_page c.args.self.now.bytes c.unwrap.result.now _ _ (c.args.b - c.args.self.now.run.first) within refl (rw c.unwrap.ensures at c.first_chunk.ensures.cases).same

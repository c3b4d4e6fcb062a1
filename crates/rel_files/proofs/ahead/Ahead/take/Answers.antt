use Rattle.std.proofs.Common.{◌≡◌, ◌*◌, length, arith}
use Rattle.rel_files.specs.Blocks.{block_of}
use Rattle.rel_files.specs.Relation.{base_of, size_of}
use Rattle.rel_files.proofs.Runs.{run_in_hand}
use Rattle.rel_files.proofs.ahead.Ahead.take.Goals as goal

pub returns-clause-hand : goal.returns-clause-hand
returns-clause-hand g c names told b has =
    let r = c.args.relation.now in
    let long : length c.read_run.new.out ≡ 8192 * c.run_from-count.result = omega (arith, c.read_run.auto.out) in
    run_in_hand c.read_run.new.out _ c.run_from-count.result c.args.b b (block_of names (base_of r) (size_of r)) long (c.in_ok-read_run.ensures.bytes names told) has.from has.before

pub returns-clause-bytes : goal.returns-clause-bytes
returns-clause-bytes g c names told =
    let r = c.args.relation.now in
    let some = c.run_from-count.ensures.run.some in
    let long : length c.read_run.new.out ≡ 8192 * c.run_from-count.result = omega (arith, c.read_run.auto.out) in
    run_in_hand c.read_run.new.out _ c.run_from-count.result c.args.b c.args.b (block_of names (base_of r) (size_of r)) long (c.in_ok-read_run.ensures.bytes names told) (omega arith) (omega (arith, some))

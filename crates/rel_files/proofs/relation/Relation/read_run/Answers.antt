use Rattle.std.proofs.Common.{length}
use Rattle.rel_files.specs.Relation.{base_of, size_of}
use Rattle.rel_files.proofs.Runs.{run_gives, run_held}
use Rattle.rel_files.proofs.relation.Relation.read_run.Goals as goal

pub read_at-requires : goal.read_at-requires
read_at-requires g c names told =
    let attached = c.requires.attached names told in
    let run = c.requires.run in
    rw (c.as_str.ensures.value, c.requires.room)
    (run_held names (base_of c.args.self.now) (size_of c.args.self.now) attached.limit _ c.args.b c.args.count c.args.self.now.some attached.count run.some run.inside run.together)

pub returns-clause-bytes : goal.returns-clause-bytes
returns-clause-bytes g c names told k lt =
    let attached = c.requires.attached names told in
    let run = c.requires.run in
    run_gives names (base_of c.args.self.now) (size_of c.args.self.now) c.args.b c.args.count k (length c.args.out.now) _ run.together lt c.requires.room
    (run_held names (base_of c.args.self.now) (size_of c.args.self.now) attached.limit _ c.args.b c.args.count c.args.self.now.some attached.count run.some run.inside run.together)
    (λ bytes there. c.in_ok-read_at.ensures.bytes names bytes told (rw c.as_str.ensures.value there))

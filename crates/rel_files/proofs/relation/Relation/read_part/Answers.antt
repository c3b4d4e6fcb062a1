use Rattle.std.proofs.Common.{length}
use Rattle.rel_files.specs.Blocks.{block_of}
use Rattle.rel_files.specs.Relation.{base_of, size_of}
use Rattle.rel_files.proofs.Held.{attached_held, part_gives, part_held}
use Rattle.rel_files.proofs.relation.Relation.read_part.Goals as goal

pub read_at-requires : goal.read_at-requires
read_at-requires g c names told =
    let attached = c.requires.attached names told in
    rw c.as_str.ensures.value
    (part_held _ _ c.args.at (length c.args.out.now) c.requires.within (attached_held names (base_of c.args.self.now) (size_of c.args.self.now) attached.limit _ _ c.args.self.now.some attached.count c.requires.below))

pub returns-clause-bytes : goal.returns-clause-bytes
unfolding block_of
returns-clause-bytes g c names told =
    let attached = c.requires.attached names told in
    part_gives _ _ c.args.at (length c.args.out.now) _ c.requires.within (attached_held names (base_of c.args.self.now) (size_of c.args.self.now) attached.limit _ _ c.args.self.now.some attached.count c.requires.below)
    (λ bytes there. c.in_ok-read_at.ensures.bytes names bytes told (rw c.as_str.ensures.value there))

use Rattle.std.proofs.Common.{◌≡◌, ◌-◌, ◌≤◌}
use Rattle.std.specs.Prelude.{IsSome}
use Rattle.outside.specs.Outside.{IfTold, PassedAtMost}
use Rattle.outside.specs.declared.files.Part.TheVariants.{Segment}
use Rattle.rel_files.specs.Blocks.{first_not_full, last_segment, segment_length}
use Rattle.rel_files.proofs.segments.find_last.Given as goal

abbrev pub invariant-loop-blocks : goal.invariant-loop-blocks
invariant-loop-blocks g l = record {
  held : IfTold g.F.Files.seen l.initial.files (λ names. IsSome (names l.base (Segment 0)));
  blocks : IfTold g.F.Files.seen l.initial.files (λ names. l.blocks ≡ segment_length names l.base l.segment);
  so_far : IfTold g.F.Files.seen l.initial.files (λ names. last_segment (segment_length names l.base) l.segment_blocks l.reach ≡ first_not_full (segment_length names l.base) l.segment_blocks l.segment (l.reach - l.segment));
  within : l.segment ≤ l.reach;
  asked : PassedAtMost 0 g.F.Files.seen l.initial.files l.files;
}

abbrev pub decreases-loop-blocks : goal.decreases-loop-blocks
decreases-loop-blocks g l = l.reach - l.segment

use Rattle.std.proofs.Common.{◌-◌, length}
use Rattle.bt_build.specs.Source.{entries_of}
use Rattle.bt_build.proofs.GroupLaws.{SoFar}
use Rattle.bt_build.proofs.groups.cut_items.Given as goal

abbrev pub invariant-loop-first : goal.invariant-loop-first
invariant-loop-first l = SoFar l.source.specs.now l.source.more.now (entries_of l.source l.places) l.first l.items.items

abbrev pub decreases-loop-first : goal.decreases-loop-first
decreases-loop-first l = length l.places - l.first

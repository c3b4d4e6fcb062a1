use Rattle.std.proofs.Common.{◌≡◌, ◌-◌, ◌*◌, map}
use Rattle.outside.specs.Outside.{IfTold, PassedAtMost}
use Rattle.rel_files.specs.Slru.{dir_of}
use Rattle.multi_members.specs.Members.{member_of, numbers_from}
use Rattle.multi_members.specs.Updater.{first_updater}
use Rattle.multi_members.specs.Groups.{HoldsGroups}
use Rattle.multi_members.proofs.members.first_updater.Given as goal

-- what is left says what the whole says
abbrev pub invariant-loop-done : goal.invariant-loop-done
invariant-loop-done g l = record {
  left : IfTold g.F.Files.seen l.initial.files
      (λ names. first_updater (map (member_of names (dir_of l.members)) (numbers_from l.begin l.count)) ≡ first_updater
      (map (member_of names (dir_of l.members)) (numbers_from l.number (l.count - l.done))));
  read : IfTold g.F.Files.seen l.initial.files (λ names. HoldsGroups names (dir_of l.members) l.groups l.bytes);
  asked : PassedAtMost (1 * l.done) g.F.Files.seen l.initial.files l.files;
}

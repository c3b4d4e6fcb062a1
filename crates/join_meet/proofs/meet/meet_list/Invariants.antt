use Rattle.std.proofs.Common.{false, take}
use Rattle.bt_tuples.specs.Items.{Posting}
use Rattle.bt_image.specs.Image.{entries_in}
use Rattle.join_meet.specs.Meeting.{HaveMet}
use Rattle.join_meet.proofs.meet.meet_list.Given as goal

-- the entries so far have met their rows
abbrev pub invariant-loop-k : goal.invariant-loop-k
invariant-loop-k l = HaveMet (take l.k (entries_in (Posting l.key l.tids false))) l.initial.slots l.slots

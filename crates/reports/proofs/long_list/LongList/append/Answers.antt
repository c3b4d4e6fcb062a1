use Rattle.std.proofs.Common.{rules, ◌≡◌, ◌≤◌, ◌++◌, sym, inr, length-append, vec_capacity}
use Rattle.reports.specs.LongLists.{first_part}
use Rattle.reports.proofs.FirstParts.{first_part-both, length-first_part}
use Rattle.reports.proofs.long_list.LongList.append.Goals as goal

pub keep-requires : goal.keep-requires
keep-requires g c = rw c.self.invariant.first_is (length-first_part c.self.inside.all.items)

pub invariant_of-self-2 : goal.invariant_of-self-2
invariant_of-self-2 g c =
    let all = c.self.inside.all.items in
    let more = c.other.inside.all.items in
    let both = c.joined-self-inside.ensures in
    let kept : c.keep.new.first.items ≡ first_part (c.self.inside.first.items ++ c.other.inside.first.items) = search rules in
    let room : 1000 ≤ vec_capacity c.keep.new.first = search rules in
    record {
      first_is = rw (kept, c.self.invariant.first_is, c.other.invariant.first_is, both) (first_part-both all more);
      count_is = rw (c.self.invariant.count_is, c.other.invariant.count_is, both) (sym (length-append all more));
      room = inr room;
    }

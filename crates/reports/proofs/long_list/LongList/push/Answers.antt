use Rattle.std.proofs.Common.{[], ◌∷◌, sym, inr, length-append}
use Rattle.reports.proofs.FirstParts.{first_part-more, length-first_part}
use Rattle.reports.proofs.long_list.LongList.push.Goals as goal

pub keep-requires : goal.keep-requires
keep-requires g c = rw c.self.invariant.first_is (length-first_part c.self.inside.all.items)

pub invariant_of-self-2 : goal.invariant_of-self-2
invariant_of-self-2 g c =
    let all = c.self.inside.all.items in
    let grown = c.pushed-self-inside.ensures in
    record {
      first_is = rw (c.in_ok-keep.ensures.ok, c.self.invariant.first_is, grown) (first_part-more all (c.args.x ∷ []));
      count_is = rw (c.self.invariant.count_is, grown) (sym (length-append all (c.args.x ∷ [])));
      room = inr c.in_ok-keep.ensures.room;
    }

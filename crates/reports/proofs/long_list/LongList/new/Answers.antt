use Rattle.std.proofs.Common.{sym, ◌∙◌, ap, inl, length}
use Rattle.reports.specs.LongLists.{first_part}
use Rattle.reports.proofs.FirstParts.{first_part-none}
use Rattle.reports.proofs.long_list.LongList.new.Goals as goal

pub invariant_of-result : goal.invariant_of-result
invariant_of-result g c = record {
  first_is = c.new.ensures.items ∙ sym first_part-none ∙ ap first_part (sym c.new-2.ensures);
  count_is = ap length (sym c.new-2.ensures);
  room = inl c.new-2.ensures;
}

use Rattle.std.proofs.Common.{◌∙◌, arith}
use Rattle.page_write.proofs.Laying.{blank, room-none}
use Rattle.page_write.proofs.page.PageWriter.heap.Goals as goal

pub returns : goal.returns
returns c = record {
  bytes = c.blank_page.ensures ∙ blank 8192 (omega arith) (omega arith);
  lower = omega arith;
  upper = let none = room-none in omega (arith, none);
  special = omega arith;
}

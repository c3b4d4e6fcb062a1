use Rattle.page_layout.proofs.Writing.{length_with, apart_u16, apart_u32}
use Rattle.page_layout.proofs.writers.writes_leave_the_rest.Goals as goal

pub returns : goal.returns
returns c = record {
  length = λ bytes piece at fits. length_with bytes piece at fits;
  two = λ bytes piece at place fits apart. apart_u16 bytes piece at place fits apart;
  four = λ bytes piece at place fits apart. apart_u32 bytes piece at place fits apart;
}

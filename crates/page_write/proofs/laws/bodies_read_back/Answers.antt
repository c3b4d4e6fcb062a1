use Rattle.page_write.proofs.BodyReading.{entry_reads, separator_reads}
use Rattle.page_write.proofs.laws.bodies_read_back.Goals as goal

pub returns : goal.returns
returns c = record {
  entry = λ types values may few. entry_reads types values may few;
  separator = λ types values tid may few. separator_reads types values tid may few;
}

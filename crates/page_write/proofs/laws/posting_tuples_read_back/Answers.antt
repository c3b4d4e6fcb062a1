use Rattle.page_write.proofs.PostingReading.{length_posting, posting_means}
use Rattle.page_write.proofs.laws.posting_tuples_read_back.Goals as goal

pub returns : goal.returns
returns c = record {
  size = λ tids flags body. length_posting tids flags body;
  means = λ specs more tids flags body killed values alone is fits room told. posting_means specs more tids flags body killed values alone is fits room told;
}

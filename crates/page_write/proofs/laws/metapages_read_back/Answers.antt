use Rattle.page_write.proofs.Reading.{length_meta_page, meta_numbers, meta_rules, meta_special_is}
use Rattle.page_write.proofs.laws.metapages_read_back.Goals as goal

pub returns : goal.returns
returns c = record {
  length = λ meta. length_meta_page meta;
  numbers = λ meta is. meta_numbers meta is;
  special = λ meta. meta_special_is meta;
  rules = λ meta. meta_rules meta;
}

use Rattle.rel_build.proofs.Generated.{entry_means, high_key_means, inner_means, row_reads}
use Rattle.rel_build.proofs.laws.generated_tuples_read_back.Goals as goal

pub returns : goal.returns
returns c = record {
  row = λ row is. row_reads row is;
  entry = λ key row killed is. entry_means key row killed is;
  high_key = λ key down left right killed was is small. high_key_means key down left right killed was is small;
  inner = λ key down left right killed was is small. inner_means key down left right killed was is small;
}

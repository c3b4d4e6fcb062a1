use Rattle.page_write.proofs.TupleReading.{heap_tuple_body, heap_tuple_head, heap_tuple_nulls}
use Rattle.page_write.proofs.laws.heap_tuples_read_back.Goals as goal

pub returns : goal.returns
returns c = record {
  head = λ head nulls body is. heap_tuple_head head nulls body is;
  nulls = λ head nulls body. heap_tuple_nulls head nulls body;
  body = λ head nulls body fits. heap_tuple_body head nulls body fits;
}

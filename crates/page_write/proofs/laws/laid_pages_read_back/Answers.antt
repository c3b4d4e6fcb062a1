use Rattle.page_write.specs.Pages.{opaque_bytes}
use Rattle.page_write.proofs.Reading.{bytes_are, count_is, heap_rules, item_is, length_page, reads_page_header, special_is, laws_levels}
use Rattle.page_write.proofs.laws.laid_pages_read_back.Goals as goal

pub returns : goal.returns
returns c = record {
  length = λ place items tail fits. length_page place items tail fits;
  header = λ place items tail within fits. reads_page_header place items tail within fits;
  heap_rules = λ items fits. heap_rules items fits;
  laws_levels = λ items special fits. laws_levels items (opaque_bytes special) fits;
  count = λ place items tail within fits. count_is place items tail within fits;
  item = λ place before after item tail within fits. item_is place before after item tail within fits;
  bytes = λ place before after item tail within fits. bytes_are place before after item tail within fits;
  special = λ items special fits is. special_is items special fits is;
}

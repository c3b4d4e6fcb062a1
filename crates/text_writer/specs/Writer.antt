-- What waits to be added to a text.
use Rattle.std.specs.Prelude.{ℕ, List, take}
use Rattle.text_writer.specs.declared.writer.Waiting.{Waiting}

abbrev pub bytes_of : Waiting → List ℕ
bytes_of w = take w.used w.bytes

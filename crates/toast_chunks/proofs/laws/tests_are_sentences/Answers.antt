use Rattle.toast_chunks.proofs.Finding.{is_whole-sentence}
use Rattle.toast_chunks.proofs.Pointers.{pointer-sentence}
use Rattle.toast_chunks.proofs.laws.tests_are_sentences.Goals as goal

pub returns : goal.returns
returns c = record { pointer = pointer-sentence; whole = is_whole-sentence }

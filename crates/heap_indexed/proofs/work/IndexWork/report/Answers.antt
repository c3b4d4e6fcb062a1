use Rattle.heap_indexed.proofs.work.IndexWork.report.Goals as goal

pub add_duplicates-requires-clause-apart : goal.add_duplicates-requires-clause-apart
add_duplicates-requires-clause-apart g c = λ names told. (c.requires.met names told).apart

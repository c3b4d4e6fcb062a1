-- What is told is what is held.
use Rattle.std.proofs.Common.{refl}
use Rattle.memory_files.proofs.memory.MemFilesFiles.read_at.Goals as goal

pub copy-requires : goal.copy-requires
copy-requires c = c.requires _ refl

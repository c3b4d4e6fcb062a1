-- A file that is read by itself, as one segment.
use Rattle.std.specs.Prelude.{ℕ, List, nat_lt, if◌then◌else◌, Option, Some, None}
use Rattle.rel_files.specs.Blocks.{blocks_in}
use Rattle.cmd_answers.specs.Outcome.{Outcome, no_file, too_large}
use Rattle.cmd_answers.specs.declared.output.Unit.TheVariants.{Blocks}

-- how many blocks a file may have
abbrev pub block_limit : ℕ
block_limit = 16384

-- why a file is refused, if it is
unfoldable pub lone_file_refusal : List ℕ → Option (List ℕ) → Option Outcome
lone_file_refusal name None = Some (no_file name)
lone_file_refusal name (Some bytes) =
    if nat_lt block_limit (blocks_in (Some bytes))
    then Some (too_large name Blocks (blocks_in (Some bytes)) block_limit) else None

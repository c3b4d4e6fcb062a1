-- The command `pages`: what it says of a file.
use Rattle.std.specs.Prelude.{ℕ, ◌<◌, List, Option, Some, None, Ok, Err}
use Rattle.outside.specs.Adds.{each_below}
use Rattle.rel_files.specs.Blocks.{blocks_in, block_in}
use Rattle.page_layout.specs.declared.rules.Rule.{Rule}
use Rattle.reports.specs.Added.{report_lists}
use Rattle.reports.specs.Lists.{Lists}
use Rattle.reports.specs.declared.places.Place.{Place}
use Rattle.heap_page_check.specs.Alone.{BreaksAlone, lone_page_found}
use Rattle.cmd_answers.specs.Files.{lone_file_refusal}
use Rattle.cmd_answers.specs.Outcome.{Judged, Outcome}

-- a rule is broken at a place of a file: on one of its whole blocks
pub record BreaksFile (file : Option (List ℕ)) (rule : Rule) (place : Place) : Type 0 where
  pub block : ℕ
  pub inside : block < blocks_in file
  pub broken : BreaksAlone block (block_in file block) rule place

unfoldable pub block_found : Option (List ℕ) → ℕ → Lists
block_found file block = lone_page_found block (block_in file block)

-- what is found of the file, block by block
unfoldable pub file_found : Option (List ℕ) → Lists
file_found file = each_below report_lists (block_found file) (blocks_in file)

abbrev pub judged_unless : Option Outcome → Lists → Judged
judged_unless (Some refusal) lists = Err refusal
judged_unless None lists = Ok lists

-- the report on a file that is held or not
abbrev pub pages_judged : List ℕ → Option (List ℕ) → Judged
pages_judged name file = judged_unless (lone_file_refusal name file) (file_found file)

-- The command `show`: what it prints of a page.
use Rattle.std.specs.Prelude.{ℕ, List, nat_lt, if◌then◌else◌, Option}
use Rattle.rel_files.specs.Blocks.{block_in, blocks_in}
use Rattle.reports.specs.Show.{heap_page_text, tree_page_text}
use Rattle.cmd_answers.specs.Answers.{answer_code}
use Rattle.cmd_answers.specs.Files.{lone_file_refusal}
use Rattle.cmd_answers.specs.Outcome.{Outcome, no_block, refused_or}
use Rattle.cmd_answers.specs.declared.status.Answer.TheVariants.{Clean}
use Rattle.cmd_line.specs.declared.words.Shown.{Shown}
use Rattle.cmd_line.specs.declared.words.Shown.TheVariants.{Heap, Tree}

-- the text of the page with this block number, as a page of a heap or of a tree
abbrev pub shown_text : Shown → ℕ → List ℕ → List ℕ
shown_text Heap block page = heap_page_text page
shown_text Tree block page = tree_page_text block page

-- a page that is shown
abbrev pub page_shown : Shown → ℕ → List ℕ → Outcome
page_shown kind block page = record { bytes = shown_text kind block page; code = answer_code Clean }

-- one block of a file that is held or not, if it has that many
unfoldable pub show_outcome : Shown → List ℕ → ℕ → Option (List ℕ) → Outcome
show_outcome kind name block file =
    refused_or (lone_file_refusal name file)
    (if nat_lt block (blocks_in file) then page_shown kind block (block_in file block)
    else no_block block (blocks_in file))

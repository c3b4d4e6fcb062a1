-- What is known of the blocks of a table once they are judged.
use Rattle.std.specs.Prelude.{◌≡◌, ℕ, ◌<◌, true, false, List, get_or, length, None}
use Rattle.outside.specs.Outside.{Names}
use Rattle.page_layout.specs.Page.{page_rule_of}
use Rattle.page_layout.specs.declared.page.PageKind.TheVariants.{Heap}
use Rattle.heap_targets.specs.Targets.{targets_of}
use Rattle.case_file.specs.Record.{CaseRecord}
use Rattle.heap_page_check.specs.Quiet.{IsPlain}
use Rattle.heap_page_check.specs.Table.{Table}
use Rattle.heap_table_check.specs.Case.{heap_blocks, heap_page, table_of}
use Rattle.heap_table_check.specs.declared.known.KnownBlocks.{KnownBlocks}

-- none of the pages of blocks 0 to n - 1 breaks a rule of its own
abbrev pub KeepPageRules : (ℕ → List ℕ) → ℕ → Type 0
KeepPageRules pages n = (block : ℕ) → block < n → page_rule_of Heap (pages block) ≡ None

-- what is known of blocks 0 to n - 1 of a table: where none of their pages breaks a rule of its own, which of their
-- line pointers an index entry may name; and which pages are plain
pub record TellsOfBlocks (table : Table) (pages : ℕ → List ℕ) (n : ℕ) (known : KnownBlocks) : Type 0 where
  pub targets : KeepPageRules pages n → known.targets ≡ targets_of pages n
  pub count : length known.plain.items ≡ n
  pub plain : (block : ℕ) → get_or known.plain.items block false ≡ true → IsPlain table (pages block)

-- of all blocks of a case's heap
abbrev pub TellsOfHeap : CaseRecord → Names → KnownBlocks → Type 0
TellsOfHeap case names known = TellsOfBlocks (table_of case names) (heap_page case names) (heap_blocks case names) known

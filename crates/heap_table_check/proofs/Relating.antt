-- What the code adds of a block and of a table is what is found of them.
use Rattle.std.proofs.Common.{◌≡◌, ℕ, List, ◌∙◌, ap}
use Rattle.outside.specs.Outside.{Names}
use Rattle.rel_files.specs.Blocks.{block_of}
use Rattle.toast_chunks.specs.declared.map.Chunk.{Chunk}
use Rattle.vis_map.specs.declared.bits.MapBits.{MapBits}
use Rattle.heap_page_check.specs.Found.{FoundLists, both_found, found_parts, only_listed}
use Rattle.heap_page_check.specs.Pages.{page_found}
use Rattle.heap_page_check.specs.Table.{Table, rel_of}
use Rattle.heap_table_check.specs.Relations.{block_found, blocks_found, segment_found, table_found}
use Rattle.std.specs.Prelude.{Option}

-- a block that was read
pub block_added : (table : Table) (chunks : List Chunk) (bits : ℕ → MapBits) (names : Names) (base : List ℕ) (size block : ℕ) (page : List ℕ) (said : MapBits) (old new : FoundLists) → page ≡ block_of names base size block → said ≡ bits block
    → new ≡ both_found old (page_found table chunks said block page) → new ≡ both_found old (block_found table chunks bits names base size block)
unfolding block_found
block_added table chunks bits names base size block page said old new e f now =
    now ∙ ap (λ (p : List ℕ). both_found old (page_found table chunks said block p)) e ∙ ap (λ (b : MapBits). both_found old (page_found table chunks b block (block_of names base size block))) f

-- a segment, and then the blocks
pub table_added : (table : Table) (chunks : List Chunk) (bits : ℕ → MapBits) (names : Names) (base : List ℕ) (size n : ℕ) (long : Option ℕ) (old mid new : FoundLists) → mid ≡ both_found old (only_listed (segment_found (rel_of table.kind) long))
    → new ≡ both_found mid (blocks_found table chunks bits names base size n) → new ≡ both_found old (table_found table chunks bits names base size n long)
unfolding table_found
table_added table chunks bits names base size n long old mid new first now =
    now ∙ ap (λ (f : FoundLists). both_found f (blocks_found table chunks bits names base size n)) first
    ∙ found_parts.in_turn old (only_listed (segment_found (rel_of table.kind) long)) (blocks_found table chunks bits names base size n)

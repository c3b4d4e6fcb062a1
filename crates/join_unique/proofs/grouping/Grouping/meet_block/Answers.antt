use Rattle.std.proofs.Common.{rules, ◌∙◌, ◌≡◌, ◌≤◌, ◌<◌, ℕ, List, length, ap, refl, sym, subst, arith}
use Rattle.outside.proofs.Asking.{AskedAtMost-more, AskedAtMost-then}
use Rattle.heap_table_check.specs.declared.files.SoundHeap.{SoundHeap}
use Rattle.heap_rows.specs.Reads.{block_reads, columns_at, page_reads}
use Rattle.join_unique.proofs.Reading.{page-sum}
use Rattle.std.proofs.lemmas.Result.{on_ok_weaker}
use Rattle.rel_files.specs.Relation.{count_of}
use Rattle.heap_table_check.specs.Files.{heap_in}
use Rattle.heap_rows.specs.RowCursor.{case_at, heap_at, next_in, rows_here}
use Rattle.heap_rows.specs.Rows.{block_rows}
use Rattle.heap_rows.specs.declared.rows.LiveRow.{LiveRow}
use Rattle.join_row_keys.proofs.Pages.{block-few}
use Rattle.join_unique.proofs.Steps.{block-here, block-past}
use Rattle.join_unique.proofs.grouping.Grouping.meet_block.Goals as goal

pub returns-then-blocks-block-clause-met : goal.returns-then-blocks-block-clause-met
returns-then-blocks-block-clause-met g c = λ names told.
    let blocks = c.blocks-blocks.ensures ∙ ap count_of c.heap.ensures in
    block-past names c.args.self c.args.group.now c.look.new.self c.look.ensures (omega (arith, blocks, c.block-block.ensures, c.if-blocks-block.true))

pub take_block-requires-clause-told : goal.take_block-requires-clause-told
take_block-requires-clause-told g c = λ names told. c.go_to.ensures.told names (c.requires.told names told)

pub meet_rows-requires-clause-told : goal.meet_rows-requires-clause-told
meet_rows-requires-clause-told g c = λ names told. c.take_block.ensures.told names (sym c.take_block.ensures.asked.same ∙ told)

pub meet_rows-requires-clause-few : goal.meet_rows-requires-clause-few
meet_rows-requires-clause-few g c = λ names told.
    let before = sym c.take_block.ensures.asked.same ∙ told in
    subst (λ (rs : List LiveRow). length rs ≤ 2042) (sym (c.in_ok-take_block.ensures.here names before))
    (block-few (case_at c.go_to.new.self) names (next_in c.go_to.new.self))

pub returns-clause-met : goal.returns-clause-met
returns-clause-met g c =
    let blocks = c.blocks-blocks.ensures ∙ ap count_of c.heap.ensures in
    let inside : c.args.group.now.block < count_of (heap_in c.args.self.index.at.heap.now) = omega (arith, blocks, c.block-block.ensures, c.if-blocks-block.false) in
    let at = c.go_to.ensures.next ∙ c.block-block.ensures in
    let case = c.go_to.ensures.same.case ∙ c.requires.index.case in
    on_ok_weaker c.meet_rows.result (λ met names told.
    let rows : rows_here names c.take_block.new.self ≡ block_rows c.args.self.index.at.case.now names c.args.group.now.block =
    c.in_ok-take_block.ensures.here names told ∙ (λ i. block_rows (case i) names (at i)) in
    block-here names c.args.self c.args.group.now c.look.new.self c.meet_rows.new.group (rows_here names c.take_block.new.self) c.look.ensures inside rows (met names (c.take_block.ensures.asked.same ∙ told)))
    c.meet_rows.ensures.met

pub returns-clause-told : goal.returns-clause-told
returns-clause-told g c = λ names told. c.meet_rows.ensures.told names (c.take_block.ensures.asked.same ∙ told)

-- the block is one of the heap
inside : (blocks block next : ℕ) (heap now : SoundHeap) → blocks ≡ count_of (heap_in heap) → now ≡ heap → next ≡ block → block < blocks → next < count_of (heap_in now)
inside blocks block next heap now count same at lt =
    let whole = ap (λ (h : SoundHeap). count_of (heap_in h)) same in
    omega (arith, count, whole, at, lt)

pub returns-in_err-take_block-clause-asked : goal.returns-in_err-take_block-clause-asked
returns-in_err-take_block-clause-asked g c =
    let blocks = c.blocks-blocks.ensures ∙ ap count_of c.heap.ensures in
    let at = c.go_to.new.self in
    let here = inside c.blocks-blocks.result c.block-block.result (next_in at) c.args.self.index.at.heap.now (heap_at at) blocks (c.go_to.ensures.same.heap ∙ c.requires.index.heap) c.go_to.ensures.next (omega (arith, c.if-blocks-block.false)) in
    let page = page-sum c.args.cursor.now at at (next_in at) c.go_to.ensures.same (record { case = refl; heap = refl; asked = refl }) here in
    let few : block_reads (heap_at at) (next_in at) ≤ page_reads (heap_at c.args.cursor.now) (columns_at c.args.cursor.now) = omega (arith, page) in
    let all = AskedAtMost-more few c.in_err-take_block.ensures.asked in
    search rules

pub returns-clause-asked : goal.returns-clause-asked
returns-clause-asked g c =
    let blocks = c.blocks-blocks.ensures ∙ ap count_of c.heap.ensures in
    let at = c.go_to.new.self in
    let here = inside c.blocks-blocks.result c.block-block.result (next_in at) c.args.self.index.at.heap.now (heap_at at) blocks (c.go_to.ensures.same.heap ∙ c.requires.index.heap) c.go_to.ensures.next (omega (arith, c.if-blocks-block.false)) in
    AskedAtMost-more (page-sum c.args.cursor.now at c.take_block.new.self (next_in at) c.go_to.ensures.same c.take_block.ensures.same here)
    (AskedAtMost-then c.in_ok-take_block.ensures.asked c.meet_rows.ensures.asked)

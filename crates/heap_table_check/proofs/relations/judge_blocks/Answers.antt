use Rattle.std.proofs.Common.{◌≡◌, ◌∙◌, ℕ, subst, sym, arith}
use Rattle.outside.proofs.Adding.{loop-next, loop-none}
use Rattle.outside.proofs.Asking.{Passed-next, Passed-none}
use Rattle.rel_files.specs.Relation.{count_of}
use Rattle.heap_page_check.specs.Found.{found_parts}
use Rattle.heap_table_check.specs.TableFiles.{TellsOfFile}
use Rattle.heap_table_check.proofs.relations.judge_blocks.Goals as goal

pub loop-block-init : goal.loop-block-init
loop-block-init g c = record {
  found = λ names told. loop-none found_parts _ _;
  known = λ names told has. has;
  at_hand = c.requires.at_hand;
  asked = Passed-none;
}

pub loop-block-preserved : goal.loop-block-preserved
loop-block-preserved g c = record {
  found = λ names told. loop-next found_parts _ _ _ _ _ (c.loop-block.invariant.found names told) (c.in_ok-judge_block.ensures.found names (c.loop-block.invariant.asked.same ∙ told));
  known = λ names told has. c.in_ok-judge_block.ensures.known names (c.loop-block.invariant.asked.same ∙ told) (c.loop-block.invariant.known names told has);
  at_hand = λ names told. c.in_ok-judge_block.ensures.at_hand names (c.loop-block.invariant.asked.same ∙ told);
  asked = Passed-next c.loop-block.invariant.asked c.in_ok-judge_block.ensures.asked;
}

pub judge_block-requires-clause-at_hand : goal.judge_block-requires-clause-at_hand
judge_block-requires-clause-at_hand g c names told = c.loop-block.invariant.at_hand names (sym c.loop-block.invariant.asked.same ∙ told)

pub returns-clause-known : goal.returns-clause-known
returns-clause-known g c names told before =
    let end : c.loop-block.block ≡ count_of c.args.file.relation.now = omega (arith, c.loop-block-test.false, c.loop-block.auto.block-end, c.blocks-block-end.ensures) in
    subst (λ (n : ℕ). TellsOfFile names c.args.table.now c.args.file n c.loop-block.hands.known) end (c.loop-block.invariant.known names told before)

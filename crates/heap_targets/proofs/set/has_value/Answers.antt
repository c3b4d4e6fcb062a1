use Rattle.std.proofs.Common.{◌∙◌, sym, arith}
use Rattle.std.proofs.lemmas.Bool.{lt-leb}
use Rattle.heap_targets.proofs.Blocks.{no_block, no_item, no_such_item, value_found}
use Rattle.heap_targets.proofs.set.has_value.Goals as goal
use Rattle.heap_targets.proofs.set.has_value.Goals.{then-tid-eq0-via-then-tid-eq0, then-tid-eq0-via-else-tid-eq0+then-starts-block}

pub overflow_add-next : goal.overflow_add-next
overflow_add-next c =
    let ordered = c.requires.ordered c.args.tid.block (omega (arith, c.if-starts-block.false)) in
    omega (arith, ordered, c.requires.few, c.requires.short)

pub returns-then-tid-eq0 : goal.returns-then-tid-eq0
returns-then-tid-eq0 c = elim c.then-tid-eq0.branch [
  | then-tid-eq0-via-then-tid-eq0 w ↦ sym (no_item _ c.args.tid w.if-tid-eq0.true)
  | then-tid-eq0-via-else-tid-eq0+then-starts-block w ↦
      sym (no_block c.args.starts.now c.args.bits.now c.args.tid w.if-starts-block.true)
]

pub returns-then-next-starts : goal.returns-then-next-starts
returns-then-next-starts c =
    c.is_set.ensures
    ∙ sym (value_found c.args.starts.now c.args.bits.now c.args.tid c.if-starts-block.false (omega (arith, c.if-tid-eq0.false)) c.if-next-starts.true)

pub returns-else-next-starts : goal.returns-else-next-starts
returns-else-next-starts c =
    lt-leb _ _ c.if-next-starts.false
    ∙ sym (no_such_item c.args.starts.now c.args.bits.now c.args.tid c.if-starts-block.false (omega (arith, c.if-tid-eq0.false)) c.if-next-starts.false)

use Rattle.std.proofs.Common.{arith}
use Rattle.join_slots.proofs.SlotLaws.{Within, before_first, item_past, no_block, no_item, slot_found}
use Rattle.join_slots.proofs.slots.find.Goals as goal

pub returns-then-tid-first : goal.returns-then-tid-first
returns-then-tid-first c = before_first c.args.first c.args.starts.now c.args.tid c.if-tid-first.true

pub returns-then-tid-eq0 : goal.returns-then-tid-eq0
returns-then-tid-eq0 c = no_item c.args.first c.args.starts.now c.args.tid c.if-tid-eq0.true

pub returns-then-starts-block : goal.returns-then-starts-block
returns-then-starts-block c = no_block c.args.first c.args.starts.now c.args.tid c.if-starts-block.true

pub returns-then-starts-block-2 : goal.returns-then-starts-block-2
returns-then-starts-block-2 c = item_past c.args.first c.args.starts.now c.args.tid c.if-starts-block-2.true

pub returns : goal.returns
returns c =
    let within : Within c.args.first c.args.starts.now c.args.tid = record {
      low = omega (arith, c.if-tid-first.false);
      high = omega (arith, c.if-starts-block.false);
      item = omega (arith, c.if-tid-eq0.false);
      fits = omega (arith, c.if-starts-block-2.false);
    } in
    slot_found c.args.first c.args.starts.now c.args.tid within

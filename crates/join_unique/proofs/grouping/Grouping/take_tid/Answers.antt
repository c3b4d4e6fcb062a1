use Rattle.std.proofs.Common.{◌∙◌, sym, subst}
use Rattle.heap_rows.specs.RowCursor.{IsCursorOf}
use Rattle.join_unique.specs.Tables.{table_seen}
use Rattle.join_unique.proofs.Steps.{may-is, tid-leaves, tid-none, tid-stays, tid-uncounted}
use Rattle.join_unique.proofs.grouping.Grouping.take_tid.Goals.{then-leaves_block+in_ok-meet_block, else-leaves_block}
use Rattle.join_unique.proofs.grouping.Grouping.take_tid.Goals as goal

pub returns-then-not-is_counted-clause-met : goal.returns-then-not-is_counted-clause-met
returns-then-not-is_counted-clause-met g c = λ names told. tid-uncounted (table_seen names c.args.self) c.args.group.now c.args.tid (sym c.is_counted.ensures ∙ c.if-not-is_counted.true)

pub returns-then-not-has-clause-met : goal.returns-then-not-has-clause-met
returns-then-not-has-clause-met g c = λ names told. tid-none (table_seen names c.args.self) c.args.group.now c.args.tid (may-is names c.args.self c.args.tid ∙ sym c.has.ensures ∙ c.if-not-has.true)

pub returns-clause-met : goal.returns-clause-met
returns-clause-met g c = λ names told.
    let t = table_seen names c.args.self in
    let counted = sym c.is_counted.ensures ∙ c.if-not-is_counted.false in
    let may = may-is names c.args.self c.args.tid ∙ sym c.has.ensures ∙ c.if-not-has.false in
    c.name.ensures ∙ elim c.if-leaves_block.branch [
      | then-leaves_block+in_ok-meet_block w ↦ tid-leaves t c.args.group.now c.if-leaves_block.group c.args.tid counted may (sym c.leaves_block.ensures ∙ w.if-leaves_block.true) (w.group-is ∙ w.in_ok-meet_block.ensures.met names told)
      | else-leaves_block w ↦ tid-stays t c.args.group.now c.if-leaves_block.group c.args.tid counted may (sym c.leaves_block.ensures ∙ w.if-leaves_block.false) w.group-is
    ]

pub returns-clause-told : goal.returns-clause-told
returns-clause-told g c = λ names told. elim c.if-leaves_block.branch [
  | then-leaves_block+in_ok-meet_block w ↦ subst (IsCursorOf names) (sym w.cursor-is) (w.meet_block.ensures.told names told)
  | else-leaves_block w ↦ subst (IsCursorOf names) (sym w.cursor-is) (c.requires.told names told)
]

use Rattle.std.proofs.Common.{List, ◌∙◌, ap, sym, subst, true, length, ◌≡◌}
use Rattle.std.specs.Prelude.{None}
use Rattle.std.proofs.lemmas.Bool.{OnTrue_from}
use Rattle.key_orders.specs.declared.columns.ColType.{ColType}
use Rattle.rel_files.specs.Ranges.{is_xid_in_range}
use Rattle.tuple_head.specs.Head.{head_rule_of}
use Rattle.tuple_head.specs.declared.HeapHead.{HeapHead}
use Rattle.heap_page_check.specs.Quiet.{is_quiet_head}
use Rattle.heap_page_check.specs.Table.{table_with}
use Rattle.heap_page_check.proofs.quiet.is_quiet_tuple.Goals as goal

pub returns : goal.returns
unfolding table_with
returns c = OnTrue_from c.are_inline.result _ (λ e names.
    let tuple = c.args.tuple.now in
    let in_range = is_xid_in_range c.args.table.now.logs.cluster in
    record {
      head = subst (λ (h : HeapHead). is_quiet_head in_range c.args.all_frozen h ≡ true) c.heap_head-head.ensures (sym c.is_quiet_head.ensures ∙ c.if-not-is_quiet_head.false);
      rules = subst (λ (h : HeapHead). head_rule_of (length c.args.table.now.columns.now) (length tuple) h ≡ None) c.heap_head-head.ensures
          (ap (λ (types : List ColType). head_rule_of (length types) (length tuple) c.heap_head-head.result) (sym c.as_slice.ensures) ∙ sym c.head_rule.ensures.value ∙ c.in_default.is);
      inline = sym c.are_inline.ensures ∙ e;
    })

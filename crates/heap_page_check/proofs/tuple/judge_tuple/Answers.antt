use Rattle.std.proofs.Common.{List, ◌∙◌, rules, ap, refl, sym, length}
use Rattle.key_orders.specs.declared.columns.ColType.{ColType}
use Rattle.tuple_head.specs.Head.{head_rule_of}
use Rattle.heap_tuples.specs.Tuples.{attributes_in}
use Rattle.heap_page_check.specs.Table.{table_seen, table_with}
use Rattle.heap_page_check.specs.Verdicts.{tuple_verdict}
use Rattle.heap_page_check.proofs.TupleRules.{broken_has_no_state, broken_leaves_nothing, judged_verdict, left_as, ruled_verdict, state_as}
use Rattle.heap_page_check.proofs.tuple.judge_tuple.Goals as goal

pub returns-in-Some-clause-told : goal.returns-in-Some-clause-told
unfolding tuple_verdict table_with
returns-in-Some-clause-told g c = search rules

pub returns-in-Some-clause-found : goal.returns-in-Some-clause-found
unfolding table_with
returns-in-Some-clause-found g c names told =
    broken_leaves_nothing _ _ _ _ _ (attributes_in c.args.table.now.columns.now c.args.bytes.now) c.in-Some.rule _ _
    (ruled_verdict (table_seen names c.args.table.now) (length c.args.bytes.now) c.args.bytes.now c.heap_head-head.result c.in-Some.rule c.heap_head-head.ensures (sym c.old_form.ensures ∙ c.if-old_form.false)
    (ap (λ (types : List ColType). head_rule_of (length types) (length c.args.bytes.now) c.heap_head-head.result) (sym c.as_slice.ensures) ∙ sym c.head_rule.ensures.value ∙ c.in-Some.is))

pub returns-in-Some-clause-states : goal.returns-in-Some-clause-states
unfolding table_with
returns-in-Some-clause-states g c names told =
    broken_has_no_state c.in-Some.rule _ _
    (ruled_verdict (table_seen names c.args.table.now) (length c.args.bytes.now) c.args.bytes.now c.heap_head-head.result c.in-Some.rule c.heap_head-head.ensures (sym c.old_form.ensures ∙ c.if-old_form.false)
    (ap (λ (types : List ColType). head_rule_of (length types) (length c.args.bytes.now) c.heap_head-head.result) (sym c.as_slice.ensures) ∙ sym c.head_rule.ensures.value ∙ c.in-Some.is))

pub returns-clause-told : goal.returns-clause-told
unfolding tuple_verdict table_with
returns-clause-told g c = search rules

pub returns-clause-found : goal.returns-clause-found
unfolding table_with
returns-clause-found g c names told =
    left_as _ _ _ _ _ (attributes_in c.args.table.now.columns.now c.args.bytes.now) (attributes_in c.args.table.now.columns.now c.args.bytes.now) _ _ _ _ refl
    (judged_verdict (table_seen names c.args.table.now) (length c.args.bytes.now) c.args.bytes.now c.heap_head-head.result c.in_ok-judged.judged c.heap_head-head.ensures (sym c.old_form.ensures ∙ c.if-old_form.false)
    (ap (λ (types : List ColType). head_rule_of (length types) (length c.args.bytes.now) c.heap_head-head.result) (sym c.as_slice.ensures) ∙ sym c.head_rule.ensures.value ∙ c.in_default.is)
    (c.in_ok-judged.ensures.told names told)) c.in_ok-judge_life.ensures.found

pub returns-clause-states : goal.returns-clause-states
unfolding table_with
returns-clause-states g c names told =
    state_as _ _ _ _
    (judged_verdict (table_seen names c.args.table.now) (length c.args.bytes.now) c.args.bytes.now c.heap_head-head.result c.in_ok-judged.judged c.heap_head-head.ensures (sym c.old_form.ensures ∙ c.if-old_form.false)
    (ap (λ (types : List ColType). head_rule_of (length types) (length c.args.bytes.now) c.heap_head-head.result) (sym c.as_slice.ensures) ∙ sym c.head_rule.ensures.value ∙ c.in_default.is)
    (c.in_ok-judged.ensures.told names told)) c.in_ok-judge_life.ensures.states

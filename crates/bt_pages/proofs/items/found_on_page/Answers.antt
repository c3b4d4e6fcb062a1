use Rattle.std.proofs.Common.{◌∙◌, sym}
use Rattle.page_layout.specs.Page.{count_of}
use Rattle.page_layout.specs.View.{page_bytes}
use Rattle.bt_pages.proofs.Among.{dead_by, not_plain_by, ordered_by, own_doubt-dead, own_doubt-plain, placed-by_rule, plain_by, rule-dead, rule-not_plain, rule-ordered, rule-plain}
use Rattle.bt_pages.proofs.Passing.{plain-each}
use Rattle.bt_pages.proofs.items.found_on_page.Goals as goal

pub own_found-requires-clause-live : goal.own_found-requires-clause-live
own_found-requires-clause-live c =
    (not_plain_by c.args.columns.now.specs.now c.args.columns.now.more.now (page_bytes c.args.page) (sym c.in-NotPlain.is ∙ c.requires.pass)).0

pub order_rule-requires-clause-live : goal.order_rule-requires-clause-live
order_rule-requires-clause-live c =
    (plain_by c.args.columns.now.specs.now c.args.columns.now.more.now (page_bytes c.args.page) (sym c.in-Disordered.is ∙ c.requires.pass)).0

pub order_rule-requires-clause-plain : goal.order_rule-requires-clause-plain
order_rule-requires-clause-plain c =
    (plain_by c.args.columns.now.specs.now c.args.columns.now.more.now (page_bytes c.args.page) (sym c.in-Disordered.is ∙ c.requires.pass)).1

pub returns-in-HalfDead-clause-rule : goal.returns-in-HalfDead-clause-rule
returns-in-HalfDead-clause-rule c =
    c.form_rule.ensures c.args.columns.now.specs.now c.args.columns.now.more.now (dead_by c.args.columns.now.specs.now c.args.columns.now.more.now (page_bytes c.args.page) (sym c.in-HalfDead.is ∙ c.requires.pass)) ∙ sym (rule-dead c.args.columns.now.specs.now c.args.columns.now.more.now (page_bytes c.args.page) c.args.i (dead_by c.args.columns.now.specs.now c.args.columns.now.more.now (page_bytes c.args.page) (sym c.in-HalfDead.is ∙ c.requires.pass)))

pub returns-in-NotPlain-clause-rule : goal.returns-in-NotPlain-clause-rule
returns-in-NotPlain-clause-rule c =
    c.own_found.ensures.rule ∙ sym (rule-not_plain c.args.columns.now.specs.now c.args.columns.now.more.now (page_bytes c.args.page) c.args.i (not_plain_by c.args.columns.now.specs.now c.args.columns.now.more.now (page_bytes c.args.page) (sym c.in-NotPlain.is ∙ c.requires.pass)).0 (not_plain_by c.args.columns.now.specs.now c.args.columns.now.more.now (page_bytes c.args.page) (sym c.in-NotPlain.is ∙ c.requires.pass)).1)

pub returns-in-Disordered-clause-rule : goal.returns-in-Disordered-clause-rule
returns-in-Disordered-clause-rule c =
    c.order_rule.ensures ∙ sym (rule-plain c.args.columns.now.specs.now c.args.columns.now.more.now (page_bytes c.args.page) c.args.i (plain_by c.args.columns.now.specs.now c.args.columns.now.more.now (page_bytes c.args.page) (sym c.in-Disordered.is ∙ c.requires.pass)).0 (plain_by c.args.columns.now.specs.now c.args.columns.now.more.now (page_bytes c.args.page) (sym c.in-Disordered.is ∙ c.requires.pass)).1 (plain-each c.args.columns.now.specs.now c.args.columns.now.more.now (page_bytes c.args.page) c.args.i (count_of (page_bytes c.args.page)) c.requires.first c.requires.last (plain_by c.args.columns.now.specs.now c.args.columns.now.more.now (page_bytes c.args.page) (sym c.in-Disordered.is ∙ c.requires.pass)).1))

pub returns-in-Ordered-clause-rule : goal.returns-in-Ordered-clause-rule
returns-in-Ordered-clause-rule c =
    sym (rule-ordered c.args.columns.now.specs.now c.args.columns.now.more.now (page_bytes c.args.page) c.args.i c.requires.first c.requires.last (sym c.in-Ordered.is ∙ c.requires.pass))

pub returns-in-HalfDead-clause-doubt : goal.returns-in-HalfDead-clause-doubt
returns-in-HalfDead-clause-doubt c =
    sym (own_doubt-dead c.args.columns.now.specs.now c.args.columns.now.more.now (page_bytes c.args.page) c.args.i (dead_by c.args.columns.now.specs.now c.args.columns.now.more.now (page_bytes c.args.page) (sym c.in-HalfDead.is ∙ c.requires.pass)))

pub returns-in-Disordered-clause-doubt : goal.returns-in-Disordered-clause-doubt
returns-in-Disordered-clause-doubt c =
    sym (own_doubt-plain c.args.columns.now.specs.now c.args.columns.now.more.now (page_bytes c.args.page) c.args.i (plain-each c.args.columns.now.specs.now c.args.columns.now.more.now (page_bytes c.args.page) c.args.i (count_of (page_bytes c.args.page)) c.requires.first c.requires.last (plain_by c.args.columns.now.specs.now c.args.columns.now.more.now (page_bytes c.args.page) (sym c.in-Disordered.is ∙ c.requires.pass)).1))

pub returns-in-Ordered-clause-doubt : goal.returns-in-Ordered-clause-doubt
returns-in-Ordered-clause-doubt c =
    sym (own_doubt-plain c.args.columns.now.specs.now c.args.columns.now.more.now (page_bytes c.args.page) c.args.i (plain-each c.args.columns.now.specs.now c.args.columns.now.more.now (page_bytes c.args.page) c.args.i (count_of (page_bytes c.args.page)) c.requires.first c.requires.last (ordered_by c.args.columns.now.specs.now c.args.columns.now.more.now (page_bytes c.args.page) (sym c.in-Ordered.is ∙ c.requires.pass)).all))

pub returns-in-HalfDead-clause-placed : goal.returns-in-HalfDead-clause-placed
returns-in-HalfDead-clause-placed c none =
    placed-by_rule c.args.columns.now.specs.now c.args.columns.now.more.now (page_bytes c.args.page) c.args.i (sym (c.form_rule.ensures c.args.columns.now.specs.now c.args.columns.now.more.now (dead_by c.args.columns.now.specs.now c.args.columns.now.more.now (page_bytes c.args.page) (sym c.in-HalfDead.is ∙ c.requires.pass)) ∙ sym (rule-dead c.args.columns.now.specs.now c.args.columns.now.more.now (page_bytes c.args.page) c.args.i (dead_by c.args.columns.now.specs.now c.args.columns.now.more.now (page_bytes c.args.page) (sym c.in-HalfDead.is ∙ c.requires.pass)))) ∙ none)

pub returns-in-NotPlain-clause-placed : goal.returns-in-NotPlain-clause-placed
returns-in-NotPlain-clause-placed c none =
    placed-by_rule c.args.columns.now.specs.now c.args.columns.now.more.now (page_bytes c.args.page) c.args.i (sym (c.own_found.ensures.rule ∙ sym (rule-not_plain c.args.columns.now.specs.now c.args.columns.now.more.now (page_bytes c.args.page) c.args.i (not_plain_by c.args.columns.now.specs.now c.args.columns.now.more.now (page_bytes c.args.page) (sym c.in-NotPlain.is ∙ c.requires.pass)).0 (not_plain_by c.args.columns.now.specs.now c.args.columns.now.more.now (page_bytes c.args.page) (sym c.in-NotPlain.is ∙ c.requires.pass)).1)) ∙ none)

pub returns-in-Disordered-clause-placed : goal.returns-in-Disordered-clause-placed
returns-in-Disordered-clause-placed c none =
    placed-by_rule c.args.columns.now.specs.now c.args.columns.now.more.now (page_bytes c.args.page) c.args.i (sym (c.order_rule.ensures ∙ sym (rule-plain c.args.columns.now.specs.now c.args.columns.now.more.now (page_bytes c.args.page) c.args.i (plain_by c.args.columns.now.specs.now c.args.columns.now.more.now (page_bytes c.args.page) (sym c.in-Disordered.is ∙ c.requires.pass)).0 (plain_by c.args.columns.now.specs.now c.args.columns.now.more.now (page_bytes c.args.page) (sym c.in-Disordered.is ∙ c.requires.pass)).1 (plain-each c.args.columns.now.specs.now c.args.columns.now.more.now (page_bytes c.args.page) c.args.i (count_of (page_bytes c.args.page)) c.requires.first c.requires.last (plain_by c.args.columns.now.specs.now c.args.columns.now.more.now (page_bytes c.args.page) (sym c.in-Disordered.is ∙ c.requires.pass)).1))) ∙ none)

pub returns-in-Ordered-clause-placed : goal.returns-in-Ordered-clause-placed
returns-in-Ordered-clause-placed c none =
    placed-by_rule c.args.columns.now.specs.now c.args.columns.now.more.now (page_bytes c.args.page) c.args.i (rule-ordered c.args.columns.now.specs.now c.args.columns.now.more.now (page_bytes c.args.page) c.args.i c.requires.first c.requires.last (sym c.in-Ordered.is ∙ c.requires.pass))

use Rattle.std.proofs.Common.{sym, ◌∙◌, arith, rules}
use Rattle.std.proofs.lemmas.Str.Pattern.{split_once_first}
use Rattle.cmd_line.proofs.BoundLaws.{pushed-first, pushed-last}
use Rattle.cmd_line.proofs.bounds.values_of.Goals as goal

pub parts-preserved : goal.parts-preserved
parts-preserved c =
    let l = c.parts in
    let cut = rw c.in-Some.is at (split_once_first 44 l.rest.now c.split_once.result c.split_once.ensures.cases (omega arith)) in (
      l.invariant.0 ∙ pushed-first l.rest.now c.in-Some.part.now c.in-Some.more.now l.values.items c.push.new.self.items c.in_ok-value_of.field-0 cut.0 cut.1 cut.2 c.in_ok-value_of.ensures c.in_ok-push.ensures.items,
      search rules,
    )

pub returns : goal.returns
returns c =
    let l = c.parts in
    let none = rw c.in_default.is at (split_once_first 44 l.rest.now c.split_once.result c.split_once.ensures.cases (omega arith)) in
    sym (l.invariant.0 ∙ pushed-last l.rest.now l.values.items c.push-2.new.self.items c.in_ok-value_of-2.field-0 none c.in_ok-value_of-2.ensures c.in_ok-push-2.ensures.items)

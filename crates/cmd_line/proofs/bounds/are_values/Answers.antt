use Rattle.std.proofs.Common.{◌≡◌, is_some, false, true, sym, ◌∙◌, arith, rules}
use Rattle.std.proofs.lemmas.Str.Pattern.{split_once_first}
use Rattle.cmd_line.proofs.BoundLaws.{part-last, part-refused, part-taken}
use Rattle.cmd_line.proofs.bounds.are_values.Goals as goal

pub returns-then-is_none : goal.returns-then-is_none
returns-then-is_none c =
    let l = c.parts in
    let cut = rw c.in-Some.is at (split_once_first 44 l.rest.now c.split_once.result c.split_once.ensures.cases (omega arith)) in
    let none : is_some c.value_written.result ≡ false = search rules in
    sym (l.invariant.0 ∙ part-refused l.rest.now c.in-Some.part.now c.value_written.result cut.0 cut.1 c.value_written.ensures none)

pub parts-preserved : goal.parts-preserved
parts-preserved c =
    let l = c.parts in
    let cut = rw c.in-Some.is at (split_once_first 44 l.rest.now c.split_once.result c.split_once.ensures.cases (omega arith)) in
    let some : is_some c.value_written.result ≡ true = search rules in
    (l.invariant.0 ∙ part-taken l.rest.now c.in-Some.part.now c.in-Some.more.now c.value_written.result cut.0 cut.1 cut.2 c.value_written.ensures some, search rules)

pub returns : goal.returns
returns c =
    let l = c.parts in
    let none = rw c.in_default.is at (split_once_first 44 l.rest.now c.split_once.result c.split_once.ensures.cases (omega arith)) in
    c.is_some.ensures ∙ sym (l.invariant.0 ∙ part-last l.rest.now c.value_written-2.result none c.value_written-2.ensures)

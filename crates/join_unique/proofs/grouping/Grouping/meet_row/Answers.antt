use Rattle.std.proofs.Common.{◌≡◌, ◌∙◌, List, ap, refl, sym}
use Rattle.std.specs.Prelude.{None, Option, Some, if◌then◌else◌}
use Rattle.key_orders.specs.declared.columns.Value.{Value}
use Rattle.key_storage.specs.Same.{same_key}
use Rattle.join_unique.proofs.Steps.{row-with, row-without}
use Rattle.join_unique.proofs.grouping.Grouping.meet_row.Goals as goal

pub returns-in_ok-meet : goal.returns-in_ok-meet
returns-in_ok-meet c = λ names row found.
    let key = c.read_key.new.key in
    let is = sym (c.read_key.ensures.key names row found.rows found.cursor_of found.here) ∙ ap (λ b. if b then Some key else None) c.if-read_key.true in
    let same = ap (same_key c.args.group.now.key) (sym c.as_slice.ensures.values) ∙ sym c.has_key.ensures ∙ c.if-has_key.true in
    c.in_ok-meet.ensures ∙ row-with names c.args.self c.args.group.now row key c.args.place.tid is same found.tid

pub returns-else-has_key : goal.returns-else-has_key
returns-else-has_key c = λ names row found.
    let key = c.read_key.new.key in
    let is : Some key ≡ _ = ap (λ b. if b then Some key else None) (sym c.if-read_key.true) ∙ c.read_key.ensures.key names row found.rows found.cursor_of found.here in
    row-without names c.args.self c.args.group.now row (Some key) is (ap (same_key c.args.group.now.key) (sym c.as_slice.ensures.values) ∙ sym c.has_key.ensures ∙ c.if-has_key.false)

pub returns-else-read_key : goal.returns-else-read_key
returns-else-read_key c = λ names row found.
    let key = c.read_key.new.key in
    let is : ◌≡◌ {A = Option (List Value)} None _ = ap (λ b. if b then Some key else None) (sym c.if-read_key.false) ∙ c.read_key.ensures.key names row found.rows found.cursor_of found.here in
    row-without names c.args.self c.args.group.now row None is refl

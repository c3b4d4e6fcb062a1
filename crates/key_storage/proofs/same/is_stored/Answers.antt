use Rattle.std.proofs.Common.{◌≡◌, ◌∙◌, ◌+◌, List, ℕ, length, map, ap, sym}
use Rattle.std.proofs.lemmas.Bool.{ne_eqb}
use Rattle.std.proofs.lemmas.List.{length-append, length-map}
use Rattle.key_orders.specs.Values.{value_shown}
use Rattle.key_storage.specs.Rows.{row_values}
use Rattle.key_storage.specs.Same.{same_key}
use Rattle.key_storage.specs.Stored.{key_read, values_read}
use Rattle.key_storage.proofs.SameLaws.{other_count}
use Rattle.key_storage.proofs.StoredLaws.{read_count}
use Rattle.key_storage.proofs.same.is_stored.Goals as goal

pub returns-else-held-count : goal.returns-else-held-count
unfolding key_read
returns-else-held-count c =
    let v = c.args.values in
    let held = c.in-Some.held.now in
    let rest = c.in-Some.rest.now in
    let count : length (row_values v) ≡ length v.key.now + length v.more.now =
    length-append (map value_shown v.key.now) (map value_shown v.more.now) ∙ (λ i. length-map v.key.now value_shown i + length-map v.more.now value_shown i) in
    ne_eqb held (length v.key.now + length v.more.now) c.if-held-count.false
    ∙ sym (other_count (values_read held rest) (row_values v) (λ e. c.if-held-count.false (sym (read_count held rest) ∙ e ∙ count)))
    ∙ ap (λ (b : List ℕ). same_key (key_read b) (row_values v)) (sym c.in-Some.ensures.cases.0)

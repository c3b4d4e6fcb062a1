use Rattle.std.proofs.Common.{◌≡◌, ◌+◌, ◌++◌, ◌∷◌, [], ◌∙◌, ℕ, ap, sym, append_assoc, length, length-append, map}
use Rattle.std.specs.List.{flat_map}
use Rattle.std.proofs.lemmas.Grind.{flat_map-append}
use Rattle.std.proofs.lemmas.List.{length-map}
use Rattle.std.proofs.lemmas.List.Elements.{All-append}
use Rattle.std.proofs.lemmas.List.Folds.{flat_map-map}
use Rattle.key_orders.specs.Values.{value_shown}
use Rattle.key_storage.specs.Rows.{row_values}
use Rattle.key_storage.specs.Stored.{IsStorable, stored_value, shown_bytes}
use Rattle.key_storage.proofs.StoredLaws.{storable_key}
use Rattle.key_storage.proofs.write.store_key.Goals as goal

pub returns-clause-ok : goal.returns-clause-ok
returns-clause-ok c =
    let v = c.args.values in
    let old = c.args.arena.now.items in
    let key = flat_map shown_bytes v.key.now in
    let more = flat_map shown_bytes v.more.now in
    let many : ℕ = length v.key.now + length v.more.now in
    let bytes : key ++ more ≡ flat_map stored_value (row_values v) =
    (λ i. sym (flat_map-map stored_value value_shown v.key.now) i ++ sym (flat_map-map stored_value value_shown v.more.now) i)
    ∙ sym (flat_map-append stored_value (map value_shown v.key.now) (map value_shown v.more.now)) in
    let count : many ≡ length (row_values v) =
    (λ i. sym (length-map v.key.now value_shown) i + sym (length-map v.more.now value_shown) i) ∙ sym (length-append (map value_shown v.key.now) (map value_shown v.more.now)) in
    c.in_ok-store_values-2.ensures.ok
    ∙ ap (λ w. w ++ more) (c.in_ok-store_values.ensures.ok ∙ ap (λ w. w ++ key) c.in_ok-push.ensures.items)
    ∙ append_assoc (old ++ many ∷ []) key more
    ∙ append_assoc old (many ∷ []) (key ++ more)
    ∙ (λ i. old ++ (count i ∷ bytes i))

pub returns-clause-storable : goal.returns-clause-storable
returns-clause-storable c =
    let v = c.args.values in
    All-append IsStorable (map value_shown v.key.now) (map value_shown v.more.now)
    (storable_key v.key.now (map value_shown v.key.now) (λ i. map value_shown v.key.now) c.in_ok-store_values.ensures.storable)
    (storable_key v.more.now (map value_shown v.more.now) (λ i. map value_shown v.more.now) c.in_ok-store_values-2.ensures.storable)

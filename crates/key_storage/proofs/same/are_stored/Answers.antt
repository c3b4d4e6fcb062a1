use Rattle.std.proofs.Common.{◌≡◌, ◌∙◌, ◌+◌, ◌++◌, List, ℕ, Bool, length, map, ap, sym}
use Rattle.std.specs.Prelude.{◌&&◌}
use Rattle.std.proofs.lemmas.List.{length-append, length-map}
use Rattle.key_orders.specs.declared.columns.Value.{Value}
use Rattle.key_orders.specs.declared.columns.ValueRef.{ValueRef}
use Rattle.key_orders.specs.Values.{value_shown}
use Rattle.key_storage.specs.Same.{same_key}
use Rattle.key_storage.specs.Stored.{values_left, values_read}
use Rattle.key_storage.proofs.SameLaws.{two_parts}
use Rattle.key_storage.proofs.StoredLaws.{read_count, read_two}
use Rattle.key_storage.proofs.same.are_stored.Goals as goal

-- the two parts and the whole
whole : (bytes : List ℕ) (key more : List ValueRef) → same_key (values_read (length (map value_shown key ++ map value_shown more)) bytes) (map value_shown key ++ map value_shown more)
    ≡ (same_key (values_read (length key) bytes) (map value_shown key) && same_key (values_read (length more) (values_left (length key) bytes)) (map value_shown more))
whole bytes key more =
    let count : length (map value_shown key ++ map value_shown more) ≡ length key + length more =
    length-append (map value_shown key) (map value_shown more) ∙ (λ i. length-map key value_shown i + length-map more value_shown i) in
    ap (λ (n : ℕ). same_key (values_read n bytes) (map value_shown key ++ map value_shown more)) count
    ∙ ap (λ (vs : List Value). same_key vs (map value_shown key ++ map value_shown more)) (read_two (length key) (length more) bytes)
    ∙ two_parts (values_read (length key) bytes) (map value_shown key) (values_read (length more) (values_left (length key) bytes)) (map value_shown more) (read_count (length key) bytes ∙ sym (length-map key value_shown))

pub returns-in-Some : goal.returns-in-Some
returns-in-Some c =
    let v = c.args.values in
    c.is_some.ensures
    ∙ c.after_values-in-Some.ensures.some
    ∙ ap (λ (b : List ℕ). same_key (values_read (length v.more.now) b) (map value_shown v.more.now)) c.in-Some.ensures.rest
    ∙ ap (λ (t : Bool). t && same_key (values_read (length v.more.now) (values_left (length v.key.now) c.args.bytes.now)) (map value_shown v.more.now)) c.in-Some.ensures.some
    ∙ sym (whole c.args.bytes.now v.key.now v.more.now)

pub returns-in-None : goal.returns-in-None
returns-in-None c =
    let v = c.args.values in
    ap (λ (t : Bool). t && same_key (values_read (length v.more.now) (values_left (length v.key.now) c.args.bytes.now)) (map value_shown v.more.now)) c.in-None.ensures.some
    ∙ sym (whole c.args.bytes.now v.key.now v.more.now)

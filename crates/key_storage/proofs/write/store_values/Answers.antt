use Rattle.std.proofs.Common.{◌++◌, ◌∷◌, [], sym, ◌∙◌, ap, arith, take, append-nil, append_assoc, slice_index_or}
use Rattle.std.specs.List.{flat_map}
use Rattle.std.proofs.lemmas.List.{take_more}
use Rattle.std.proofs.lemmas.List.Concat.{flat_map-append}
use Rattle.std.proofs.lemmas.List.Elements.{All-more}
use Rattle.key_orders.specs.declared.columns.ValueRef.TheVariants.{Null}
use Rattle.key_orders.specs.Values.{value_shown}
use Rattle.key_storage.specs.Stored.{shown_bytes, IsStorable}
use Rattle.key_storage.proofs.write.store_values.Goals as goal

pub loop-i-preserved : goal.loop-i-preserved
loop-i-preserved c =
    let values = c.args.values.now in
    let i = c.loop-i.i in
    record {
      items =
          c.in_ok-store_value.ensures.ok
          ∙ (ap (λ w. w ++ shown_bytes (slice_index_or values i Null)) c.loop-i.invariant.items
          ∙ (append_assoc c.args.arena.now.items (flat_map shown_bytes (take i values)) (shown_bytes (slice_index_or values i Null))
          ∙ ap (λ w. c.args.arena.now.items ++ w) (sym (ap (flat_map shown_bytes) (take_more values i Null (omega arith)) ∙ (flat_map-append shown_bytes (take i values) (slice_index_or values i Null ∷ []) ∙ ap (λ w. flat_map shown_bytes (take i values) ++ w) (append-nil (shown_bytes (slice_index_or values i Null))))))));
      storable = All-more (λ v. IsStorable (value_shown v)) values i Null (omega arith) c.loop-i.invariant.storable c.in_ok-store_value.ensures.storable;
    }

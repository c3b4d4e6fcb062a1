use Rattle.std.proofs.Common.{◌≡◌, ◌+◌, ◌-◌, ◌<◌, ◌≤◌, ◌++◌, ◌∷◌, List, [], drop, take, get_or, length, refl, subst, sym, ap, ◌∙◌, arith}
use Rattle.std.specs.Prelude.{None, Ok}
use Rattle.std.proofs.lemmas.List.{take_all, take_more}
use Rattle.key_orders.specs.declared.columns.ColType.{ColType}
use Rattle.key_orders.specs.declared.columns.ColType.TheVariants.{Bool as BoolType}
use Rattle.key_orders.specs.declared.columns.Value.{Value}
use Rattle.key_orders.specs.Values.{value_shown}
use Rattle.key_storage.specs.Stored.{values_read}
use Rattle.key_attrs.specs.Columns.{all_types}
use Rattle.varlena_attrs.specs.Forms.{Plain}
use Rattle.key_attrs.specs.Keyed.{attribute_value, read_inline}
use Rattle.key_attrs.specs.KeyedShown.{told_after}
use Rattle.varlena_attrs.specs.Reading.{stored_at}
use Rattle.varlena_attrs.specs.Shown.{shown_at}
use Rattle.key_attrs.proofs.Keying.{told_last, told_none}
use Rattle.key_attrs.proofs.PlainKeys.{long_there, told_next}
use Rattle.key_attrs.proofs.StoredKeys.{held_at, held_behind, held_count}
use Rattle.key_attrs.proofs.same.has_stored_key.Goals as goal

pub loop-k-init : goal.loop-k-init
loop-k-init c = record {
  told = sym (told_none (all_types c.args.columns.now) (length (all_types c.args.columns.now)) c.args.body.now None refl);
  within = omega arith;
  left = ap (λ n. values_read n c.args.stored.now) (omega arith);
}

pub value_at-requires-clause-long : goal.value_at-requires-clause-long
value_at-requires-clause-long c =
    long_there c.type_at-ctype.result c.args.body.now c.loop-k.place c.in-Some.piece.start c.in-Some.piece.len c.found-found.result c.type_at-ctype.ensures.known c.in-Some.ensures.within c.in-Some.ensures.step c.found-found.ensures

pub loop-k-preserved : goal.loop-k-preserved
loop-k-preserved c =
    let types = all_types c.args.columns.now in
    let body = c.args.body.now in
    let k = c.loop-k.k in
    let lt-k : k < length types = omega (arith, c.loop-k-test.true, c.count-k-end.ensures) in
    let found = c.found-found.result in
    let piece = c.in-Some.piece in
    let shown = value_shown c.value_at.result in
    let key = values_read (length types) c.args.stored.now in
    let left = c.loop-k.left.now in
    let held = c.loop-k.invariant.left in
    let lt : k < length key = omega (arith, lt-k, held_count (length types) c.args.stored.now) in
    let here : get_or key k shown ≡ shown =
    held_at (length types) k left key shown lt-k lt held ∙ c.in-Some-after_value.ensures.value in
    let more : take (k + 1) key ≡ take k key ++ shown ∷ [] = take_more key k shown lt ∙ ap (λ (v : Value). take k key ++ v ∷ []) here in
    let ctype : c.type_at-ctype.result ≡ get_or types k BoolType = c.type_at-ctype.ensures.place BoolType in
    let step = subst (λ (t : ColType). stored_at t body c.loop-k.place ≡ Ok (Plain (take piece.len (drop piece.start body)), piece.start + piece.len)) ctype c.in-Some.ensures.step in
    let value = subst (λ (t : ColType). shown ≡ attribute_value t (shown_at body found.place)) ctype c.value_at.ensures.value in
    record {
      told =
          c.loop-k.invariant.told
          ∙ told_next types BoolType body k c.loop-k.place piece.start piece.len (take k key) shown found lt-k step c.found-found.ensures value
          ∙ ap (λ (vs : List Value). told_after vs None (k + 1) (drop (k + 1) types) (read_inline (drop (k + 1) types) None (length types) body (k + 1) found.next)) (sym more);
      within = rw c.found-found.ensures c.in-Some.ensures.within;
      left = ap (values_read (length types - (k + 1))) c.in-Some-after_value.ensures.rest ∙ held_behind (length types) k left key shown lt-k lt held;
    }

pub returns : goal.returns
returns c =
    let types = all_types c.args.columns.now in
    let key = values_read (length types) c.args.stored.now in
    let k = c.loop-k.k in
    let end : length types ≤ k = omega (arith, c.loop-k-test.false, c.count-k-end.ensures) in
    c.loop-k.invariant.told
    ∙ told_last types c.args.body.now (take k key) k c.loop-k.place end
    ∙ ap Ok (take_all k key (omega (arith, end, held_count (length types) c.args.stored.now)))

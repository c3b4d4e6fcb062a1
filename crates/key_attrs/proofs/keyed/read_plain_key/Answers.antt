use Rattle.std.proofs.Common.{◌≡◌, ◌+◌, ℕ, List, [], drop, get_or, length, refl, sym, ap, ◌∙◌, arith}
use Rattle.std.specs.Prelude.{None, false}
use Rattle.std.proofs.lemmas.List.{length-append, length-map}
use Rattle.key_orders.specs.declared.columns.ColType.TheVariants.{Bool as BoolType}
use Rattle.key_orders.specs.declared.columns.KeySpec.{KeySpec}
use Rattle.key_orders.specs.declared.columns.Value.{Value}
use Rattle.key_attrs.specs.Keyed.{key_types, read_inline}
use Rattle.key_attrs.specs.KeyedShown.{told_after}
use Rattle.key_attrs.proofs.Keying.{fits_push, key_aligned, told_end, told_none}
use Rattle.key_attrs.proofs.PlainKeys.{long_there, told_there}
use Rattle.key_attrs.proofs.keyed.read_plain_key.Goals as goal

-- before the first column and after the last one
first_told : (specs : List KeySpec) (body : List ℕ) (key : List Value) → key ≡ [] → told_after [] None 0 (key_types specs) (read_inline (key_types specs) None (length specs) body 0 0) ≡ told_after key None 0 (key_types (drop 0 specs)) (read_inline (key_types (drop 0 specs)) None (length specs) body 0 0)
first_told specs body key e = ap (λ k. told_after k None 0 (key_types specs) (read_inline (key_types specs) None (length specs) body 0 0)) (sym e)

pub loop-spec-init : goal.loop-spec-init
loop-spec-init c = record {
  told = sym (told_none (key_types c.args.specs.now) (length c.args.specs.now) c.args.body.now None (length-map c.args.specs.now (λ k. k.ctype))) ∙ first_told c.args.specs.now c.args.body.now _ c.clear.ensures;
  count = rw c.clear.ensures refl;
  fits = rw c.clear.ensures refl;
  within = omega arith;
}

pub plain_piece-requires-clause-known : goal.plain_piece-requires-clause-known
plain_piece-requires-clause-known c = key_aligned c.args.specs.now c.loop-spec.spec-index _ c.loop-spec-test.true c.requires.aligned

pub plain_piece-requires-clause-within : goal.plain_piece-requires-clause-within
plain_piece-requires-clause-within c = c.loop-spec.invariant.within

pub value_at-requires-clause-long : goal.value_at-requires-clause-long
value_at-requires-clause-long c =
    long_there (get_or c.args.specs.now c.loop-spec.spec-index _).ctype c.args.body.now c.loop-spec.place c.in-Some.piece.start c.in-Some.piece.len c.found-found.result (key_aligned c.args.specs.now c.loop-spec.spec-index _ c.loop-spec-test.true c.requires.aligned) c.in-Some.ensures.within c.in-Some.ensures.step c.found-found.ensures

pub push-requires : goal.push-requires
push-requires c = omega (arith, c.loop-spec.invariant.count, c.loop-spec-test.true, c.requires.few)

pub loop-spec-preserved : goal.loop-spec-preserved
loop-spec-preserved c =
    let specs = c.args.specs.now in
    let body = c.args.body.now in
    let k = c.loop-spec.spec-index in
    let none : KeySpec = record { column = 0; ctype = BoolType; desc = false; nulls_first = false } in
    let found = c.found-found.result in
    let piece = c.in-Some.piece in
    record {
      told =
          c.loop-spec.invariant.told
          ∙ told_there specs none body k c.loop-spec.place piece.start piece.len c.loop-spec.key _ found c.loop-spec-test.true c.in-Some.ensures.step c.found-found.ensures c.value_at.ensures.value
          ∙ ap (λ key. told_after key None (k + 1) (key_types (drop (k + 1) specs)) (read_inline (key_types (drop (k + 1) specs)) None (length specs) body (k + 1) found.next)) (sym c.push.ensures);
      count = rw c.push.ensures (length-append c.loop-spec.key _ ∙ rw c.loop-spec.invariant.count refl);
      fits = rw c.push.ensures (fits_push specs c.loop-spec.key _ none k c.loop-spec.invariant.count c.loop-spec-test.true c.loop-spec.invariant.fits c.value_at.ensures.fits);
      within = rw c.found-found.ensures c.in-Some.ensures.within;
    }

pub returns-clause-value : goal.returns-clause-value
returns-clause-value c e =
    c.loop-spec.invariant.told
    ∙ told_end c.args.specs.now c.args.body.now c.loop-spec.key c.loop-spec.spec-index c.loop-spec.place (omega (arith, c.loop-spec-test.false))

pub returns-clause-count : goal.returns-clause-count
returns-clause-count c e = omega (arith, c.loop-spec.invariant.count, c.loop-spec-test.false, c.loop-spec.auto.spec-index-end)

pub returns-clause-fits : goal.returns-clause-fits
returns-clause-fits c e = c.loop-spec.invariant.fits

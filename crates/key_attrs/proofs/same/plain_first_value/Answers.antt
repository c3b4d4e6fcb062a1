use Rattle.std.proofs.Common.{◌≡◌, ◌+◌, ◌<◌, ℕ, get_or, length, subst, arith}
use Rattle.std.specs.Prelude.{false}
use Rattle.key_orders.specs.declared.columns.ColType.TheVariants.{Bool as BoolType}
use Rattle.key_orders.specs.declared.columns.KeySpec.{KeySpec}
use Rattle.key_orders.specs.declared.more.MoreSpec.{MoreSpec}
use Rattle.key_orders.specs.Values.{value_shown}
use Rattle.key_attrs.specs.Columns.{all_types}
use Rattle.key_attrs.specs.FirstValues.{BeginsSoFar}
use Rattle.key_attrs.proofs.Keying.{key_aligned, more_aligned}
use Rattle.key_attrs.proofs.PlainKeys.{begins_all, begins_first, begins_key, begins_more, long_there}
use Rattle.key_attrs.proofs.same.plain_first_value.Goals as goal

abbrev none : KeySpec
none = record { column = 0; ctype = BoolType; desc = false; nulls_first = false }

abbrev no_more : MoreSpec
no_more = record { column = 0; ctype = BoolType }

pub plain_piece-requires-clause-known : goal.plain_piece-requires-clause-known
plain_piece-requires-clause-known c = key_aligned c.args.columns.now.specs.now 0 none (grind arith) c.args.columns.now.aligned

pub value_at-value-requires-clause-long : goal.value_at-value-requires-clause-long
value_at-value-requires-clause-long c =
    let piece = c.in_ok-plain_piece.field-0 in
    long_there (get_or c.args.columns.now.specs.now 0 none).ctype c.args.body.now 0 piece.start piece.len c.found-found.result (key_aligned c.args.columns.now.specs.now 0 none (grind arith) c.args.columns.now.aligned) c.in_ok-plain_piece.ensures.within c.in_ok-plain_piece.ensures.step c.found-found.ensures

pub loop-k-init : goal.loop-k-init
loop-k-init c =
    let piece = c.in_ok-plain_piece.field-0 in
    record {
      begins = begins_first c.args.columns.now.specs.now c.args.columns.now.more.now c.args.body.now none piece.start piece.len (value_shown c.value_at-value.result) c.found-found.result (grind arith) c.in_ok-plain_piece.ensures.step c.found-found.ensures c.value_at-value.ensures.value;
      within = rw c.found-found.ensures c.in_ok-plain_piece.ensures.within;
    }

pub plain_piece-requires-in-loop-k-clause-known : goal.plain_piece-requires-in-loop-k-clause-known
plain_piece-requires-in-loop-k-clause-known c = key_aligned c.args.columns.now.specs.now c.loop-k.k none c.loop-k-test.true c.args.columns.now.aligned

pub plain_piece-requires-in-loop-k-clause-within : goal.plain_piece-requires-in-loop-k-clause-within
plain_piece-requires-in-loop-k-clause-within c = c.loop-k.invariant.within

pub loop-k-preserved : goal.loop-k-preserved
loop-k-preserved c = record {
  begins = begins_key c.args.columns.now.specs.now c.args.columns.now.more.now c.args.body.now none c.loop-k.k c.loop-k.place c.in_ok-piece.piece.start c.in_ok-piece.piece.len (value_shown c.value_at-value.result) c.loop-k-test.true c.loop-k.invariant.begins c.in_ok-piece.ensures.step;
  within = c.in_ok-piece.ensures.within;
}

pub loop-included-init : goal.loop-included-init
loop-included-init c =
    let specs = c.args.columns.now.specs.now in
    let some : 0 < length specs = grind arith in
    let end : c.loop-k.k ≡ length specs + 0 = omega (arith, c.loop-k-test.false, some) in
    record {
      begins = subst (λ (n : ℕ). BeginsSoFar (all_types c.args.columns.now) c.args.body.now n c.loop-k.place (value_shown c.value_at-value.result)) end c.loop-k.invariant.begins;
      within = c.loop-k.invariant.within;
    }

pub plain_piece-requires-in-loop-included-clause-known : goal.plain_piece-requires-in-loop-included-clause-known
plain_piece-requires-in-loop-included-clause-known c = more_aligned c.args.columns.now.more.now c.loop-included.included-index no_more c.loop-included-test.true c.args.columns.now.aligned_more

pub plain_piece-requires-in-loop-included-clause-within : goal.plain_piece-requires-in-loop-included-clause-within
plain_piece-requires-in-loop-included-clause-within c = c.loop-included.invariant.within

pub loop-included-preserved : goal.loop-included-preserved
loop-included-preserved c = record {
  begins = begins_more c.args.columns.now.specs.now c.args.columns.now.more.now c.args.body.now no_more c.loop-included.included-index c.loop-included.place c.in_ok-piece-2.piece.start c.in_ok-piece-2.piece.len (value_shown c.value_at-value.result) c.loop-included-test.true c.loop-included.invariant.begins c.in_ok-piece-2.ensures.step;
  within = c.in_ok-piece-2.ensures.within;
}

pub returns : goal.returns
returns c =
    let some : 0 < length c.args.columns.now.specs.now = grind arith in
    begins_all c.args.columns.now.specs.now c.args.columns.now.more.now c.args.body.now none c.loop-included.included-index c.loop-included.place (value_shown c.value_at-value.result) c.loop-included.invariant.begins (omega (arith, c.loop-included-test.false)) (omega arith) some c.value_at-value.ensures.fits

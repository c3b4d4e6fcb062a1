use Rattle.std.proofs.Common.{◌+◌, ◌++◌, drop, refl, sym, ap, ◌∙◌}
use Rattle.std.proofs.lemmas.List.{length-append}
use Rattle.key_attrs.specs.Keyed.{key_types}
use Rattle.key_attrs.specs.KeyedShown.{told_by}
use Rattle.key_attrs.proofs.Keying.{fits_push, key_aligned, key_types-drop}
use Rattle.key_attrs.proofs.keyed.IndexTuple.read_key.Goals as goal

pub read-requires-clause-known : goal.read-requires-clause-known
read-requires-clause-known c = key_aligned c.args.specs.now c.loop-spec.spec-index _ c.loop-spec-test.true c.requires.aligned

pub loop-spec-preserved : goal.loop-spec-preserved
loop-spec-preserved c = record {
  told = λ types.
      c.loop-spec.invariant.told types
      ∙ ap (λ ts. told_by c.loop-spec.self c.loop-spec.key (ts ++ types)) (key_types-drop c.args.specs.now c.loop-spec.spec-index _ c.loop-spec-test.true)
      ∙ c.in_ok-read.ensures.value c.loop-spec.key (key_types (drop (c.loop-spec.spec-index + 1) c.args.specs.now) ++ types)
      ∙ ap (λ key. told_by c.read.new.self key (key_types (drop (c.loop-spec.spec-index + 1) c.args.specs.now) ++ types)) (sym c.push.ensures);
  count = rw c.push.ensures (length-append c.loop-spec.key _ ∙ rw c.loop-spec.invariant.count refl);
  column = c.in_ok-read.ensures.next ∙ ap (λ n. n + 1) c.loop-spec.invariant.column;
  fits = rw c.push.ensures (fits_push c.args.specs.now c.loop-spec.key _ _ c.loop-spec.spec-index c.loop-spec.invariant.count c.loop-spec-test.true c.loop-spec.invariant.fits c.in_ok-read.ensures.fits);
  within = c.in_ok-read.ensures.within;
}

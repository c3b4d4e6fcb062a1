use Rattle.std.proofs.Common.{◌+◌, ◌++◌, drop, refl, sym, ap, ◌∙◌, arith, append_assoc}
use Rattle.std.proofs.lemmas.List.{length-append}
use Rattle.key_attrs.specs.Keyed.{more_types}
use Rattle.key_attrs.specs.KeyedShown.{told_by}
use Rattle.key_attrs.proofs.Keying.{more_aligned, more_push, more_types-drop}
use Rattle.key_attrs.proofs.keyed.IndexTuple.read_more.Goals as goal

pub read-requires-clause-known : goal.read-requires-clause-known
read-requires-clause-known c = more_aligned c.args.more.now c.loop-m.m-index _ c.loop-m-test.true c.requires.aligned

pub loop-m-preserved : goal.loop-m-preserved
loop-m-preserved c = record {
  told = λ values.
      c.loop-m.invariant.told values
      ∙ ap (λ ts. told_by c.loop-m.self (values ++ c.loop-m.list) ts) (more_types-drop c.args.more.now c.loop-m.m-index _ c.loop-m-test.true)
      ∙ c.in_ok-read.ensures.value (values ++ c.loop-m.list) (more_types (drop (c.loop-m.m-index + 1) c.args.more.now))
      ∙ ap (λ list. told_by c.read.new.self list (more_types (drop (c.loop-m.m-index + 1) c.args.more.now))) (append_assoc values c.loop-m.list _ ∙ ap (λ list. values ++ list) (sym c.push.ensures));
  count = rw c.push.ensures (length-append c.loop-m.list _ ∙ rw c.loop-m.invariant.count refl);
  column = c.in_ok-read.ensures.next ∙ omega (arith, c.loop-m.invariant.column);
  fits = rw c.push.ensures (more_push c.args.more.now c.loop-m.list _ _ c.loop-m.m-index c.loop-m.invariant.count c.loop-m-test.true c.loop-m.invariant.fits c.in_ok-read.ensures.fits);
  within = c.in_ok-read.ensures.within;
}

use Rattle.std.proofs.Common.{◌≡◌, ap, refl, sym, subst, [], ◌∷◌, ◌++◌, List, ℕ}
use Rattle.std.specs.Prelude.{None, Ok}
use Rattle.std.specs.Ordering.{ordering_then}
use Rattle.std.specs.declared.cmp.Ordering.{Ordering}
use Rattle.std.specs.declared.cmp.Ordering.TheVariants.{Less, Equal, Greater}
use Rattle.key_orders.specs.Keys.{columns_of}
use Rattle.key_orders.specs.Values.{value_shown}
use Rattle.key_attrs.specs.Keyed.{key_types, key_values, more_types}
use Rattle.bt_meta.specs.declared.records.TreeHead.{TreeHead}
use Rattle.bt_tuples.specs.Tuples.{plain_tid}
use Rattle.bt_tuples.proofs.Plain.{outcome}
use Rattle.bt_tuples.proofs.entries.plain_prefix.Goals as goal

-- one value alone
first_less : (o : Ordering) → ordering_then o Equal ≡ Less → o ≡ Less
first_less Less is = refl
first_less Equal is = absurd cc
first_less Greater is = absurd cc

pub returns : goal.returns
returns c = λ killed.
    let specs = c.args.columns.now.specs.now in
    let more = c.args.columns.now.more.now in
    let tuple = c.args.tuple.now in
    let head : TreeHead = c.in_ok-head.head in
    let h = c.in_ok-head.ensures in
    let begins = c.in_ok-first.ensures in
    let first = value_shown c.in_ok-first.first in
    let told = subst (λ (body : List ℕ). key_values (key_types specs ++ more_types more) body None ≡ Ok ((first ∷ begins.rest) ++ begins.included)) c.body_of.ensures begins.told in
    record {
      first = first;
      rest = begins.rest;
      included = begins.included;
      tid = plain_tid head;
      is = outcome specs more tuple head h c.requires.long (first ∷ begins.rest) begins.included told killed (plain_tid head) begins.key_count (ap plain_tid (sym h.is));
      fits = begins.fits;
      prefix = c.key_prefix.ensures.prefix;
      below = λ other greater is lt fits. first_less (columns_of specs 0 first other) (c.key_prefix.ensures.below (other ∷ []) greater is lt begins.fits fits);
    }

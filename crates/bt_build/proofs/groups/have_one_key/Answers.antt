use Rattle.std.proofs.Common.{◌∙◌, ap, sym}
use Rattle.std.specs.Ordering.{is_eq}
use Rattle.laws_search.specs.Keys.{compare_values}
use Rattle.key_orders.specs.Keys.{columns_of}
use Rattle.bt_build.specs.Source.{entry_of}
use Rattle.bt_build.proofs.SortedLaws.{first_is}
use Rattle.bt_build.proofs.groups.have_one_key.Goals as goal

pub returns-then-a-b : goal.returns-then-a-b
returns-then-a-b c =
    let s = c.args.source in
    let other = entry_of s c.args.b in
    sym (ap is_eq (c.requires.a.prefix.below other.entry.values c.args.b.prefix c.requires.b.prefix.is c.if-a-b.true c.requires.b.prefix.fits))

pub returns : goal.returns
returns c =
    let s = c.args.source in
    let a = first_is s.specs.now s.more.now s.arena.now c.args.a c.requires.a in
    let b = first_is s.specs.now s.more.now s.arena.now c.args.b c.requires.b in
    c.is_eq.ensures ∙ ap is_eq c.compare_keys.ensures ∙ (λ i. is_eq (compare_values (columns_of s.specs.now) 0 (a i) (b i)))

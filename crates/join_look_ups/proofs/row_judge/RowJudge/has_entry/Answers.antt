use Rattle.std.proofs.Common.{◌≡◌, ◌∙◌, ◌++◌, map}
use Rattle.std.specs.Prelude.{Some}
use Rattle.key_orders.specs.Values.{value_shown}
use Rattle.join_slots.specs.Slots.{keys_in}
use Rattle.join_look_ups.proofs.row_judge.RowJudge.has_entry.Goals as goal

pub has_entry-requires-clause-holds : goal.has_entry-requires-clause-holds
has_entry-requires-clause-holds g c = λ names told. (c.requires.ready names told).tree

pub has_entry-requires-clause-of : goal.has_entry-requires-clause-of
has_entry-requires-clause-of g c = λ names told. (c.requires.ready names told).pages

pub returns-in-Some-clause-found : goal.returns-in-Some-clause-found
returns-in-Some-clause-found g c = λ names told.
    let key = c.args.row.key.now in
    let more = map value_shown c.args.row.more.now in
    let kept : keys_in c.args.self.slots.now c.args.row.place.root ≡ Some (key ++ more) =
    c.in-Some.ensures.0 ∙ (λ i. Some (c.as_slice.ensures.values i ++ more)) in
    c.in-Some.ensures.1 ∙ (c.requires.ready names told).kept c.args.row.place.root key more c.requires.key.whole kept

pub returns-clause-ready : goal.returns-clause-ready
returns-clause-ready g c = λ names told. record {
  tree = (c.requires.ready names told).tree;
  kept = (c.requires.ready names told).kept;
  pages = c.has_entry.ensures.of names told;
}

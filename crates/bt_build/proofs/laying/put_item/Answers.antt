use Rattle.std.proofs.Common.{◌≡◌, ◌≢◌, ◌∙◌, ℕ, List, ap, map, take, drop, subst}
use Rattle.std.specs.Prelude.{OnOk}
use Rattle.key_orders.specs.declared.Tid.{Tid}
use Rattle.page_write.specs.Tuples.{plain_tuple}
use Rattle.bt_build.specs.declared.entries.Place.{Place}
use Rattle.bt_build.specs.Places.{tid_of}
use Rattle.bt_build.proofs.LayLaws.{lay_more, lay_one, room_laid, short_laid}
use Rattle.bt_build.proofs.laying.put_item.Goals as goal

pub put_plain_tuple-requires : goal.put_plain_tuple-requires
put_plain_tuple-requires c =
    let s = c.args.source in
    let short =
    short_laid s.specs.now s.more.now s.arena.now c.args.places.now c.args.item c.requires.item c.in_ok-flags.flags c.deref.result.now
    c.in_ok-flags.ensures.flags (c.deref.ensures.value ∙ c.in_ok-flags.ensures.body) in
    short

pub returns-then-item-eq1 : goal.returns-then-item-eq1
returns-then-item-eq1 c =
    let s = c.args.source in
    let is =
    lay_one s.specs.now s.more.now s.arena.now c.args.places.now c.args.item c.requires.item c.in_ok-flags.flags c.deref.result.now
    c.in_ok-flags.ensures.flags (c.deref.ensures.value ∙ c.in_ok-flags.ensures.body) c.if-item-eq1.true in
    let told = subst (λ (t : Tid). OnOk c.put_plain_tuple.result (c.put_plain_tuple.new.out.items ≡ plain_tuple t c.in_ok-flags.flags c.deref.result.now)) c.tid.ensures c.put_plain_tuple.ensures in
    subst (λ (w : List ℕ). OnOk c.put_plain_tuple.result (c.put_plain_tuple.new.out.items ≡ w)) is told

pub put_posting_tuple-requires-clause-short : goal.put_posting_tuple-requires-clause-short
put_posting_tuple-requires-clause-short c =
    let s = c.args.source in
    short_laid s.specs.now s.more.now s.arena.now c.args.places.now c.args.item c.requires.item c.in_ok-flags.flags c.deref-3.result.now
    c.in_ok-flags.ensures.flags (c.deref-3.ensures.value ∙ c.in_ok-flags.ensures.body)

pub put_posting_tuple-requires-clause-room : goal.put_posting_tuple-requires-clause-room
put_posting_tuple-requires-clause-room c =
    let s = c.args.source in
    let tids : c.deref-2.result.now ≡ map tid_of (take c.args.item.count (drop c.args.item.first c.args.places.now)) =
    c.deref-2.ensures.value ∙ c.in_ok-put_tids.ensures ∙ ap (map tid_of) (c.split_at-2.ensures.front ∙ ap (take c.args.item.count) c.split_at.ensures.back) in
    let other : c.args.item.count ≢ 1 = c.if-item-eq1.false in
    room_laid s.specs.now s.more.now s.arena.now c.args.places.now c.args.item c.requires.item c.in_ok-flags.flags c.deref-3.result.now
    c.in_ok-flags.ensures.flags (c.deref-3.ensures.value ∙ c.in_ok-flags.ensures.body) c.deref-2.result.now tids other

pub returns : goal.returns
returns c =
    let s = c.args.source in
    let tids : c.deref-2.result.now ≡ map tid_of (take c.args.item.count (drop c.args.item.first c.args.places.now)) =
    c.deref-2.ensures.value ∙ c.in_ok-put_tids.ensures ∙ ap (map tid_of) (c.split_at-2.ensures.front ∙ ap (take c.args.item.count) c.split_at.ensures.back) in
    let other : c.args.item.count ≢ 1 = c.if-item-eq1.false in
    let is =
    lay_more s.specs.now s.more.now s.arena.now c.args.places.now c.args.item c.requires.item c.in_ok-flags.flags c.deref-3.result.now
    c.in_ok-flags.ensures.flags (c.deref-3.ensures.value ∙ c.in_ok-flags.ensures.body) c.deref-2.result.now tids other in
    subst (λ (w : List ℕ). OnOk c.put_posting_tuple.result (c.put_posting_tuple.new.out.items ≡ w)) is c.put_posting_tuple.ensures

use Rattle.std.proofs.Common.{◌≡◌, ◌∙◌, ◌++◌, ◌∷◌, [], false, ap, arith, length, map, subst, sym, List, ℕ}
use Rattle.std.proofs.lemmas.Bool.{OnTrue_at}
use Rattle.std.proofs.lemmas.List.Elements.{All-map}
use Rattle.key_orders.specs.Values.{value_shown}
use Rattle.key_orders.specs.declared.columns.ColType.{ColType}
use Rattle.page_write.specs.Bodies.{IsShortEnough, index_body}
use Rattle.page_write.specs.Fields.{IsTid}
use Rattle.bt_image.specs.Image.{leaf_entry}
use Rattle.bt_build.specs.declared.entries.Place.{Place}
use Rattle.bt_build.specs.Kept.{AreKept, listed_in, told_length}
use Rattle.bt_build.specs.Listed.{AreValues, IsNewTid, Listed, with_entry}
use Rattle.bt_build.proofs.KeptLaws.{entries_more, has_prefix, kept_more}
use Rattle.bt_build.proofs.entries.EntryList.add.Goals as goal

pub invariant_of-self-2 : goal.invariant_of-self-2
invariant_of-self-2 c =
    let s = c.self.inside in
    let key = map value_shown c.args.values.key.now in
    let more = map value_shown c.args.values.more.now in
    let p : Place = record { prefix = c.key_prefix-prefix.result; at = c.len-at.result; block = c.args.tid.block; item = c.args.tid.item; body_length = c.min.result } in
    let short = All-map IsShortEnough value_shown c.args.values.key.now (OnTrue_at c.if-not-are_short.false c.are_short.ensures) in
    let short_more = All-map IsShortEnough value_shown c.args.values.more.now (OnTrue_at c.if-not-are_short-2.false c.are_short-else-not-are_short.ensures) in
    let values = subst (λ (l : Listed). AreValues l key more) (sym c.self.view_is) c.requires.values in
    let fresh = subst (λ (l : Listed). IsNewTid l c.args.tid) (sym c.self.view_is) c.requires.fresh in
    let fits : IsTid c.args.tid = record { block = omega arith; item = omega arith } in
    let types = c.deref-2.ensures.value ∙ c.self.invariant.types_are in
    let long : c.min.result ≡ told_length s.specs.items s.more.items (leaf_entry key more c.args.tid false) =
    omega (arith, c.min.ensures, c.index_body_length-whole.ensures ∙ ap (λ (cs : List ColType). length (index_body cs (key ++ more))) types) in
    let at : c.len-at.result ≡ length s.arena.items = omega (arith, c.len-at.ensures, s.arena.ok.0) in
    let places : c.push_in_room.new.places.items ≡ s.places.items ++ p ∷ [] = c.push_in_room.ensures ∙ ap (λ w. w ++ p ∷ []) c.in_ok-reserve.ensures.items in
    subst (λ (x : List ℕ × List Place). AreKept s.specs.items s.more.items s.types.items x.0 x.1)
    (λ i. (sym c.in_ok-push_key.ensures.ok i, sym places i))
    (kept_more s.specs.items s.more.items s.types.items s.arena.items s.places.items key more p c.self.invariant values short short_more fits c.requires.item fresh
    c.in_ok-push_key.ensures.storable at
    (has_prefix c.deref.result.now s.specs.items key c.key_prefix-prefix.result c.deref.ensures.value values.key_fits.fits c.key_prefix-prefix.ensures.prefix c.key_prefix-prefix.ensures.below) long)

pub returns-clause-ok : goal.returns-clause-ok
returns-clause-ok c =
    let s = c.self.inside in
    let key = map value_shown c.args.values.key.now in
    let more = map value_shown c.args.values.more.now in
    let e = leaf_entry key more c.args.tid false in
    let p : Place = record { prefix = c.key_prefix-prefix.result; at = c.len-at.result; block = c.args.tid.block; item = c.args.tid.item; body_length = c.min.result } in
    let at : c.len-at.result ≡ length s.arena.items = omega (arith, c.len-at.ensures, s.arena.ok.0) in
    let places : c.push_in_room.new.places.items ≡ s.places.items ++ p ∷ [] = c.push_in_room.ensures ∙ ap (λ w. w ++ p ∷ []) c.in_ok-reserve.ensures.items in
    (λ i. listed_in s.specs.items s.more.items (c.in_ok-push_key.ensures.ok i) (places i))
    ∙ (λ i. record {
      specs = s.specs.items;
      more = s.more.items;
      entries = entries_more s.specs.items s.more.items s.arena.items s.places.items key more p c.self.invariant.each at
          (subst (λ (l : Listed). AreValues l key more) (sym c.self.view_is) c.requires.values).key_fits.whole c.in_ok-push_key.ensures.storable i;
    })
    ∙ ap (λ (l : Listed). with_entry l e) c.self.view_is

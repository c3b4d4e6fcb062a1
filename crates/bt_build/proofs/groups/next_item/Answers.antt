use Rattle.std.proofs.Common.{◌∙◌, List, min, refl, ap, arith, get_or}
use Rattle.std.specs.Prelude.{Bool, nat_le, not, suc, if◌then◌else◌}
use Rattle.laws_building.specs.Groups.{greatest, run_length}
use Rattle.page_write.specs.Posting.{posting_size}
use Rattle.std.proofs.lemmas.List.Elements.{All-get_or}
use Rattle.laws_built_index.specs.Sizes.{grouping_of}
use Rattle.bt_build.specs.declared.entries.Place.{Place}
use Rattle.bt_build.specs.Source.{IsPlaceOf, IsSmallOf, entries_of, entry_of}
use Rattle.bt_build.proofs.GroupLaws.{most_few, next_here, nowhere, short_told}
use Rattle.bt_build.proofs.groups.next_item.Goals as goal

pub most_more-most-requires : goal.most_more-most-requires
most_more-most-requires c =
    let s = c.args.source in
    let p : Place = get_or c.args.places.now c.args.first nowhere in
    let told = short_told s.specs.now s.more.now s.arena.now p (All-get_or (IsPlaceOf s) c.args.places.now c.args.first nowhere c.requires.first c.requires.kept)
    (All-get_or (IsSmallOf s) c.args.places.now c.args.first nowhere c.requires.first c.requires.small) in
    omega (arith, told.1)

pub item_size-size-requires-clause-len : goal.item_size-size-requires-clause-len
item_size-size-requires-clause-len c =
    let s = c.args.source in
    let p : Place = get_or c.args.places.now c.args.first nowhere in
    let told = short_told s.specs.now s.more.now s.arena.now p (All-get_or (IsPlaceOf s) c.args.places.now c.args.first nowhere c.requires.first c.requires.kept)
    (All-get_or (IsSmallOf s) c.args.places.now c.args.first nowhere c.requires.first c.requires.small) in
    omega (arith, told.1)

pub item_size-size-requires-clause-more : goal.item_size-size-requires-clause-more
item_size-size-requires-clause-more c =
    let p : Place = get_or c.args.places.now c.args.first nowhere in
    let few = most_few p.body_length (not c.is_empty.result) c.most_more-most.result c.most_more-most.ensures in
    omega (arith, few, c.run_of-more.ensures)

pub returns : goal.returns
returns c =
    let s = c.args.source in
    let p : Place = get_or c.args.places.now c.args.first nowhere in
    let told = short_told s.specs.now s.more.now s.arena.now p (All-get_or (IsPlaceOf s) c.args.places.now c.args.first nowhere c.requires.first c.requires.kept)
    (All-get_or (IsSmallOf s) c.args.places.now c.args.first nowhere c.requires.first c.requires.small) in
    next_here s.specs.now s.more.now s.arena.now c.args.places.now c.args.first p.body_length c.most_more-most.result c.run_of-more.result c.item_size-size.result _
    c.requires.first told.1 told.0 (c.most_more-most.ensures
    ∙ ap (λ (b : Bool). greatest (λ n. nat_le (posting_size p.body_length (suc n)) 2704) (if not b then 0 else 63)) c.is_empty.ensures) (c.run_of-more.ensures
    ∙ ap (λ (later : List Place). min c.most_more-most.result (run_length (grouping_of s.specs.now s.more.now).same_key (entry_of s p)
    (entries_of s later))) c.split_at.ensures.back) c.item_size-size.ensures refl

use Rattle.std.proofs.Common.{◌≡◌, ◌-◌, arith, refl, true, false}
use Rattle.page_layout.specs.View.{page_bytes}
use Rattle.bt_levels.specs.Sound.{held_block, index_columns}
use Rattle.bt_search.proofs.Reading.{read-there}
use Rattle.bt_search.specs.declared.item.Fate.TheVariants.{Other, Past, Wanted}
use Rattle.back_scan.proofs.Counts.{last-there}
use Rattle.back_scan.proofs.Reading.{ends-before, from, has-entries, last, passes, seen-there, takes}
use Rattle.back_scan.proofs.leaf.read_item.Goals as goal

pub returns-in_default-clause-told : goal.returns-in_default-clause-told
returns-in_default-clause-told c = λ names holds some at.
    let tree = c.args.search.now.tree.now in
    let bounds = c.args.search.now.scan.now in
    let page = page_bytes c.args.page in
    let spot = c.args.spot.now in
    let held = held_block names tree spot.block in
    let steps = c.back_searches_go_in_steps.ensures names tree bounds holds in
    let first = c.requires.first in
    let has = has-entries names tree bounds holds steps spot page some at first spot.item (last names tree bounds holds steps spot page some at first) (from names tree bounds holds steps spot page some at first) in
    absurd (let no_ : false ≡ true = c.in_default.ensures.read.1 (read-there (index_columns tree) (index_columns tree) page held spot.item refl (at.in_hand some) has.read) in cc)

pub returns-in-Past-clause-told : goal.returns-in-Past-clause-told
returns-in-Past-clause-told c = λ names holds some at.
    let tree = c.args.search.now.tree.now in
    let bounds = c.args.search.now.scan.now in
    let page = page_bytes c.args.page in
    let spot = c.args.spot.now in
    let steps = c.back_searches_go_in_steps.ensures names tree bounds holds in
    ends-before names tree bounds holds steps spot page some at c.requires.first c.in-Some.found.count
    (seen-there tree bounds page (held_block names tree spot.block) spot c.in-Some.found.fate Past c.in-Some.found.count (at.in_hand some) c.in-Past.is
    (record { count_is = c.in-Some.ensures.count; inside = c.if-found-spot.false; fates = c.in-Some.ensures.fate }))

pub returns-in-Wanted-clause-told : goal.returns-in-Wanted-clause-told
returns-in-Wanted-clause-told c = λ names holds some at.
    let tree = c.args.search.now.tree.now in
    let bounds = c.args.search.now.scan.now in
    let page = page_bytes c.args.page in
    let spot = c.args.spot.now in
    let held = held_block names tree spot.block in
    let steps = c.back_searches_go_in_steps.ensures names tree bounds holds in
    let first = c.requires.first in
    let high = last names tree bounds holds steps spot page some at first in
    takes names tree bounds holds steps spot page some at first c.spot_before.result c.in-Some.found.count c.spot_before.ensures.block
    (seen-there tree bounds page held spot c.in-Some.found.fate Wanted c.in-Some.found.count (at.in_hand some) c.in-Wanted.is
    (record { count_is = c.in-Some.ensures.count; inside = c.if-found-spot.false; fates = c.in-Some.ensures.fate }))
    c.spot_before.ensures.within
    (λ none. last-there (index_columns tree) page held (spot.item - 1) c.spot_before.result (at.in_hand some) (c.spot_before.ensures.next none (index_columns tree))
    (λ low. has-entries names tree bounds holds steps spot page some at first (spot.item - 1) (omega (arith, high)) low))

pub returns-in-Other-clause-told : goal.returns-in-Other-clause-told
returns-in-Other-clause-told c = λ names holds some at.
    let tree = c.args.search.now.tree.now in
    let bounds = c.args.search.now.scan.now in
    let page = page_bytes c.args.page in
    let spot = c.args.spot.now in
    let held = held_block names tree spot.block in
    let steps = c.back_searches_go_in_steps.ensures names tree bounds holds in
    let first = c.requires.first in
    let high = last names tree bounds holds steps spot page some at first in
    passes names tree bounds holds steps spot page some at first c.last_upto.result c.in-Some.found.count c.last_upto.ensures.block
    (last-there (index_columns tree) page held (spot.item - 1) c.last_upto.result (at.in_hand some) (c.last_upto.ensures.last (index_columns tree))
    (λ low. has-entries names tree bounds holds steps spot page some at first (spot.item - 1) (omega (arith, high)) low))
    (seen-there tree bounds page held spot c.in-Some.found.fate Other c.in-Some.found.count (at.in_hand some) c.in-Other.is
    (record { count_is = c.in-Some.ensures.count; inside = c.if-found-spot.false; fates = c.in-Some.ensures.fate }))

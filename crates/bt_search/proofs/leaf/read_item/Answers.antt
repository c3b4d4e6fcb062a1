use Rattle.std.proofs.Common.{◌≡◌, ◌≤◌, refl, subst, true, false}
use Rattle.page_layout.specs.Page.{count_of}
use Rattle.page_layout.specs.View.{page_bytes}
use Rattle.bt_levels.specs.Sound.{held_block, index_columns}
use Rattle.bt_search.specs.declared.item.Fate.TheVariants.{Other, Past, Wanted}
use Rattle.bt_steps.proofs.OnLeaf.{item-read}
use Rattle.bt_search.proofs.Reading.{ends-past, is-alive, is-leaf, passes, read-there, readable, seen-there, takes}
use Rattle.bt_search.proofs.leaf.read_item.Goals as goal

pub returns-in_default-clause-told : goal.returns-in_default-clause-told
returns-in_default-clause-told c = λ names holds some at.
    let tree = c.args.search.now.tree.now in
    let bounds = c.args.search.now.scan.now in
    let page = page_bytes c.args.page in
    let spot = c.args.spot.now in
    let held = held_block names tree spot.block in
    let hand = at.in_hand some in
    let steps = c.searches_go_in_steps.ensures names tree bounds holds in
    let to : spot.item ≤ count_of held = subst (λ p. spot.item ≤ count_of p) hand c.requires.last in
    let read = item-read (index_columns tree) held (readable names tree bounds holds steps spot page some at) (is-leaf names tree bounds holds steps spot page some at) (is-alive names tree bounds holds steps spot page some at) spot.item (at.place some).from to in
    absurd (let no_ : false ≡ true = c.in_default.ensures.read.1 (read-there (index_columns tree) (index_columns tree) page held spot.item refl hand read) in cc)

pub returns-in-Past-clause-told : goal.returns-in-Past-clause-told
returns-in-Past-clause-told c = λ names holds some at.
    let tree = c.args.search.now.tree.now in
    let bounds = c.args.search.now.scan.now in
    let page = page_bytes c.args.page in
    let spot = c.args.spot.now in
    let steps = c.searches_go_in_steps.ensures names tree bounds holds in
    ends-past names tree bounds holds steps spot page some at c.in-Some.found.count
    (seen-there tree bounds page (held_block names tree spot.block) spot c.in-Some.found.fate Past c.in-Some.found.count (at.in_hand some) c.in-Past.is
    (record { first = c.requires.first; last = c.requires.last; count_is = c.in-Some.ensures.count; inside = c.if-found-spot.false; fates = c.in-Some.ensures.fate }))

pub returns-in-Wanted-clause-told : goal.returns-in-Wanted-clause-told
returns-in-Wanted-clause-told c = λ names holds some at.
    let tree = c.args.search.now.tree.now in
    let bounds = c.args.search.now.scan.now in
    let page = page_bytes c.args.page in
    let spot = c.args.spot.now in
    let steps = c.searches_go_in_steps.ensures names tree bounds holds in
    takes names tree bounds holds steps spot page some at c.behind.result c.in-Some.found.count c.behind.ensures.block
    (seen-there tree bounds page (held_block names tree spot.block) spot c.in-Some.found.fate Wanted c.in-Some.found.count (at.in_hand some) c.in-Wanted.is
    (record { first = c.requires.first; last = c.requires.last; count_is = c.in-Some.ensures.count; inside = c.if-found-spot.false; fates = c.in-Some.ensures.fate }))
    c.behind.ensures.within c.behind.ensures.next

pub returns-in-Other-clause-told : goal.returns-in-Other-clause-told
returns-in-Other-clause-told c = λ names holds some at.
    let tree = c.args.search.now.tree.now in
    let bounds = c.args.search.now.scan.now in
    let page = page_bytes c.args.page in
    let spot = c.args.spot.now in
    let steps = c.searches_go_in_steps.ensures names tree bounds holds in
    passes names tree bounds holds steps spot page some at c.behind_item.result c.behind_item.ensures.block c.behind_item.ensures.item c.behind_item.ensures.nth c.in-Some.found.count
    (seen-there tree bounds page (held_block names tree spot.block) spot c.in-Some.found.fate Other c.in-Some.found.count (at.in_hand some) c.in-Other.is
    (record { first = c.requires.first; last = c.requires.last; count_is = c.in-Some.ensures.count; inside = c.if-found-spot.false; fates = c.in-Some.ensures.fate }))

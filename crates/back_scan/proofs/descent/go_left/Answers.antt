use Rattle.std.proofs.Common.{arith}
use Rattle.page_layout.specs.View.{page_bytes}
use Rattle.back_scan.proofs.Arriving.{dead-there, last-there, left-goes, left-inside, left-not-over, left-stands}
use Rattle.back_scan.proofs.descent.go_left.Goals as goal
use Rattle.back_scan.proofs.descent.go_left.Goals.{then-search-visits-via-then-search-visits, then-search-visits-via-else-search-visits+then-block-eq0, then-search-visits-via-else-search-visits+else-block-eq0+then-block-blocks}

pub returns-then-search-visits-clause-stands : goal.returns-then-search-visits-clause-stands
returns-then-search-visits-clause-stands g c = λ names told.
    let tree = c.args.search.now.tree.now in
    let bounds = c.args.search.now.scan.now in
    let holds = c.requires.holds names told in
    let steps = c.back_searches_go_in_steps.ensures names tree bounds holds in
    let comes = c.requires.comes names told in
    let inside = left-inside names tree bounds holds steps c.args.block comes in
    elim c.then-search-visits.branch [
      | then-search-visits-via-then-search-visits w ↦ absurd (left-not-over names tree bounds holds steps c.args.block comes c.args.visits.now.count c.args.search.now.limit (c.requires.enough names told) w.if-search-visits.true)
      | then-search-visits-via-else-search-visits+then-block-eq0 w ↦ absurd (inside.0 w.if-block-eq0.true)
      | then-search-visits-via-else-search-visits+else-block-eq0+then-block-blocks w ↦ absurd (omega (arith, inside.1, w.blocks-else-block-eq0.ensures, w.if-block-blocks.true))
    ]

pub returns-then-search-visits-clause-goes : goal.returns-then-search-visits-clause-goes
returns-then-search-visits-clause-goes g c = λ names told.
    let tree = c.args.search.now.tree.now in
    let bounds = c.args.search.now.scan.now in
    let holds = c.requires.holds names told in
    let steps = c.back_searches_go_in_steps.ensures names tree bounds holds in
    let comes = c.requires.comes names told in
    let inside = left-inside names tree bounds holds steps c.args.block comes in
    elim c.then-search-visits.branch [
      | then-search-visits-via-then-search-visits w ↦ absurd (left-not-over names tree bounds holds steps c.args.block comes c.args.visits.now.count c.args.search.now.limit (c.requires.enough names told) w.if-search-visits.true)
      | then-search-visits-via-else-search-visits+then-block-eq0 w ↦ absurd (inside.0 w.if-block-eq0.true)
      | then-search-visits-via-else-search-visits+else-block-eq0+then-block-blocks w ↦ absurd (omega (arith, inside.1, w.blocks-else-block-eq0.ensures, w.if-block-blocks.true))
    ]

pub returns-clause-stands : goal.returns-clause-stands
returns-clause-stands g c = λ names told.
    let tree = c.args.search.now.tree.now in
    let bounds = c.args.search.now.scan.now in
    let holds = c.requires.holds names told in
    let steps = c.back_searches_go_in_steps.ensures names tree bounds holds in
    let page = c.look_at.new.page in
    let spot = c.last_spot.result in
    left-stands names tree bounds holds steps c.args.block (c.requires.comes names told) page (c.in_ok-look_at.ensures.page names told) spot c.last_spot.ensures.block
    (dead-there (page_bytes c.new.result) page spot c.new.ensures c.last_spot.ensures.dead) (last-there (page_bytes c.new.result) page spot c.new.ensures c.last_spot.ensures.last)

pub returns-clause-goes : goal.returns-clause-goes
returns-clause-goes g c = λ names told.
    let tree = c.args.search.now.tree.now in
    let bounds = c.args.search.now.scan.now in
    let holds = c.requires.holds names told in
    let steps = c.back_searches_go_in_steps.ensures names tree bounds holds in
    let page = c.look_at.new.page in
    let spot = c.last_spot.result in
    left-goes names tree bounds holds steps c.args.block (c.requires.comes names told) page (c.in_ok-look_at.ensures.page names told) spot c.last_spot.ensures.block
    (dead-there (page_bytes c.new.result) page spot c.new.ensures c.last_spot.ensures.dead) (last-there (page_bytes c.new.result) page spot c.new.ensures c.last_spot.ensures.last)
    c.args.visits.now.count c.look_at.new.visits.count c.look_at.ensures.count

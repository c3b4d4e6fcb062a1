use Rattle.std.proofs.Common.{◌+◌, ◌∙◌, ℕ, ap, arith, refl, sym}
use Rattle.bt_search.specs.declared.spot.Spot.{Spot}
use Rattle.back_scan.specs.Spots.{left_from, rest_from, state_at}
use Rattle.back_scan.proofs.Arriving.{first-comes, nowhere-starts, ok-then, rest-answers, rest-wanted, start-first, start-most}
use Rattle.back_scan.proofs.descent.descend_last.Goals as goal

nowhere : Spot
nowhere = record { block = 0; item = 0; nth = 0 }

pub returns-then-first-eq0-clause-wanted : goal.returns-then-first-eq0-clause-wanted
unfolding nowhere
returns-then-first-eq0-clause-wanted g c = λ names told.
    let tree = c.args.tree.now in
    let bounds = c.args.scan.now in
    let holds = c.requires.holds names told in
    let steps = c.back_searches_go_in_steps.ensures names tree bounds holds in
    rest-wanted names tree bounds holds steps (state_at names tree bounds nowhere)
    (ap (rest_from names tree bounds) (nowhere-starts names tree bounds holds steps c.fastroot-first.result nowhere c.fastroot-first.ensures c.if-first-eq0.true refl))

pub returns-then-first-eq0-clause-answer : goal.returns-then-first-eq0-clause-answer
unfolding nowhere
returns-then-first-eq0-clause-answer g c = λ names told.
    let tree = c.args.tree.now in
    let bounds = c.args.scan.now in
    let holds = c.requires.holds names told in
    let steps = c.back_searches_go_in_steps.ensures names tree bounds holds in
    rest-answers names tree bounds holds steps (state_at names tree bounds nowhere)
    (ap (rest_from names tree bounds) (nowhere-starts names tree bounds holds steps c.fastroot-first.result nowhere c.fastroot-first.ensures c.if-first-eq0.true refl))

pub returns-then-first-eq0-clause-visits : goal.returns-then-first-eq0-clause-visits
unfolding nowhere
returns-then-first-eq0-clause-visits g c = λ names told.
    let tree = c.args.tree.now in
    let bounds = c.args.scan.now in
    let holds = c.requires.holds names told in
    let steps = c.back_searches_go_in_steps.ensures names tree bounds holds in
    let same = ap (left_from names tree bounds) (nowhere-starts names tree bounds holds steps c.fastroot-first.result nowhere c.fastroot-first.ensures c.if-first-eq0.true refl) in
    ap (λ (n : ℕ). c.args.visits.now.count + n) (sym same)

pub returns-then-first-eq0-clause-most : goal.returns-then-first-eq0-clause-most
returns-then-first-eq0-clause-most g c = λ names told.
    let tree = c.args.tree.now in
    let bounds = c.args.scan.now in
    let holds = c.requires.holds names told in
    let most = start-most names tree bounds holds (c.back_searches_go_in_steps.ensures names tree bounds holds) in
    omega (arith, most)

pub arrive-requires-clause-comes : goal.arrive-requires-clause-comes
arrive-requires-clause-comes g c = λ names told.
    let tree = c.args.tree.now in
    let bounds = c.args.scan.now in
    let holds = c.requires.holds names told in
    first-comes names tree bounds holds (c.back_searches_go_in_steps.ensures names tree bounds holds) c.fastroot-first.result c.fastroot-first.ensures c.if-first-eq0.false

pub arrive-requires-clause-enough : goal.arrive-requires-clause-enough
arrive-requires-clause-enough g c = λ names told.
    let tree = c.args.tree.now in
    let bounds = c.args.scan.now in
    let holds = c.requires.holds names told in
    let steps = c.back_searches_go_in_steps.ensures names tree bounds holds in
    let most = start-most names tree bounds holds steps in
    let same = ap (left_from names tree bounds) (start-first names tree bounds holds steps c.fastroot-first.result c.fastroot-first.ensures c.if-first-eq0.false) in
    omega (arith, most, same, c.blocks-2.ensures, c.from.ensures)

pub returns-clause-wanted : goal.returns-clause-wanted
returns-clause-wanted g c =
    ok-then c.arrive.result
    (λ spot goes names told.
    let tree = c.args.tree.now in
    let bounds = c.args.scan.now in
    let holds = c.requires.holds names told in
    let steps = c.back_searches_go_in_steps.ensures names tree bounds holds in
    rest-wanted names tree bounds holds steps (state_at names tree bounds spot)
    (ap (rest_from names tree bounds) (start-first names tree bounds holds steps c.fastroot-first.result c.fastroot-first.ensures c.if-first-eq0.false) ∙ (goes names told).rest))
    c.arrive.ensures.goes

pub returns-clause-answer : goal.returns-clause-answer
returns-clause-answer g c =
    ok-then c.arrive.result
    (λ spot goes names told.
    let tree = c.args.tree.now in
    let bounds = c.args.scan.now in
    let holds = c.requires.holds names told in
    let steps = c.back_searches_go_in_steps.ensures names tree bounds holds in
    rest-answers names tree bounds holds steps (state_at names tree bounds spot)
    (ap (rest_from names tree bounds) (start-first names tree bounds holds steps c.fastroot-first.result c.fastroot-first.ensures c.if-first-eq0.false) ∙ (goes names told).rest))
    c.arrive.ensures.goes

pub returns-clause-visits : goal.returns-clause-visits
returns-clause-visits g c =
    ok-then c.arrive.result
    (λ spot goes names told.
    let tree = c.args.tree.now in
    let bounds = c.args.scan.now in
    let holds = c.requires.holds names told in
    let steps = c.back_searches_go_in_steps.ensures names tree bounds holds in
    sym (goes names told).left
    ∙ ap (λ (n : ℕ). c.args.visits.now.count + n) (sym (ap (left_from names tree bounds) (start-first names tree bounds holds steps c.fastroot-first.result c.fastroot-first.ensures c.if-first-eq0.false))))
    c.arrive.ensures.goes

pub returns-clause-most : goal.returns-clause-most
returns-clause-most g c = λ names told.
    let tree = c.args.tree.now in
    let bounds = c.args.scan.now in
    let holds = c.requires.holds names told in
    let most = start-most names tree bounds holds (c.back_searches_go_in_steps.ensures names tree bounds holds) in
    omega (arith, most)

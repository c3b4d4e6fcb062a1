use Rattle.std.proofs.Common.{◌∙◌, ℕ, arith, subst, sym}
use Rattle.key_attrs.specs.Columns.{tree_columns}
use Rattle.laws_search.specs.Back.{Seeks}
use Rattle.page_layout.specs.View.{page_bytes}
use Rattle.bt_levels.specs.Sound.{index_columns}
use Rattle.bt_steps.specs.declared.inner.Step.TheVariants.{Lost, Read, To}
use Rattle.back_scan.specs.Spots.{GoesOn}
use Rattle.back_scan.specs.Spots.{state_at}
use Rattle.back_scan.proofs.Arriving.{comes-inside, dead-there, last-there, leads-there, not-over, read-goes, read-stands, step-comes, step-goes, step-lost}
use Rattle.bt_search.proofs.Asked.{passed-then}
use Rattle.back_scan.proofs.descent.arrive.Goals as goal
use Rattle.back_scan.proofs.descent.arrive.Goals.{then-block-eq0-via-then-block-eq0, then-block-eq0-via-else-block-eq0+then-block-blocks}

pub look_at-requires-clause-holds : goal.look_at-requires-clause-holds
look_at-requires-clause-holds g c = λ names told. c.requires.holds names (sym c.loop-visits.invariant.asked.same ∙ told)

pub loop-visits-preserved : goal.loop-visits-preserved
loop-visits-preserved g c =
    let tree = c.args.search.now.tree.now in
    let bounds = c.args.search.now.scan.now in
    let b = c.loop-visits.block in
    let page = c.look_at.new.page in
    let inv = c.loop-visits.invariant in
    let count = c.look_at.ensures.count in
    record {
      onward = omega arith;
      limit = omega arith;
      comes = λ names told.
          let holds = c.requires.holds names told in
          let steps = c.back_searches_go_in_steps.ensures names tree bounds holds in
          step-comes names tree bounds holds steps b (inv.comes names told) c.in-To.next page (c.in_ok-look_at.ensures.page names (inv.asked.same ∙ told))
          (leads-there (tree_columns c.columns-columns.result) (index_columns tree) bounds _ page (To c.in-To.next) c.columns-columns.ensures.lists c.new.ensures c.in-To.ensures.leads);
      goes = λ names told.
          let holds = c.requires.holds names told in
          let steps = c.back_searches_go_in_steps.ensures names tree bounds holds in
          subst (λ (n : ℕ). GoesOn names tree bounds (Seeks c.args.first) (Seeks c.in-To.next) c.args.visits.now.count n) (sym count)
          (step-goes names tree bounds holds steps b (inv.comes names told) c.in-To.next page (c.in_ok-look_at.ensures.page names (inv.asked.same ∙ told))
          (leads-there (tree_columns c.columns-columns.result) (index_columns tree) bounds _ page (To c.in-To.next) c.columns-columns.ensures.lists c.new.ensures c.in-To.ensures.leads)
          (Seeks c.args.first) c.args.visits.now.count c.loop-visits.visits.count (inv.goes names told));
      asked = passed-then (omega arith) inv.asked c.in_ok-look_at.ensures.asked;
    }

pub returns-then-block-eq0-clause-stands : goal.returns-then-block-eq0-clause-stands
returns-then-block-eq0-clause-stands g c = λ names told.
    let holds = c.requires.holds names told in
    let steps = c.back_searches_go_in_steps.ensures names c.args.search.now.tree.now c.args.search.now.scan.now holds in
    let inside = comes-inside names c.args.search.now.tree.now c.args.search.now.scan.now holds steps c.loop-visits.block (c.loop-visits.invariant.comes names told) in
    elim c.then-block-eq0.branch [
      | then-block-eq0-via-then-block-eq0 w ↦ absurd (inside.0 w.if-block-eq0.true)
      | then-block-eq0-via-else-block-eq0+then-block-blocks w ↦ absurd (omega (arith, inside.1, w.blocks-else-block-eq0.ensures, w.if-block-blocks.true))
    ]

pub returns-then-block-eq0-clause-there : goal.returns-then-block-eq0-clause-there
returns-then-block-eq0-clause-there g c = λ names told e.
    let holds = c.requires.holds names told in
    let steps = c.back_searches_go_in_steps.ensures names c.args.search.now.tree.now c.args.search.now.scan.now holds in
    let inside = comes-inside names c.args.search.now.tree.now c.args.search.now.scan.now holds steps c.loop-visits.block (c.loop-visits.invariant.comes names told) in
    elim c.then-block-eq0.branch [
      | then-block-eq0-via-then-block-eq0 w ↦ inside.0 w.if-block-eq0.true
      | then-block-eq0-via-else-block-eq0+then-block-blocks w ↦ omega (arith, inside.1, w.blocks-else-block-eq0.ensures, w.if-block-blocks.true)
    ]

pub returns-then-block-eq0-clause-goes : goal.returns-then-block-eq0-clause-goes
returns-then-block-eq0-clause-goes g c = λ names told.
    let holds = c.requires.holds names told in
    let steps = c.back_searches_go_in_steps.ensures names c.args.search.now.tree.now c.args.search.now.scan.now holds in
    let inside = comes-inside names c.args.search.now.tree.now c.args.search.now.scan.now holds steps c.loop-visits.block (c.loop-visits.invariant.comes names told) in
    elim c.then-block-eq0.branch [
      | then-block-eq0-via-then-block-eq0 w ↦ absurd (inside.0 w.if-block-eq0.true)
      | then-block-eq0-via-else-block-eq0+then-block-blocks w ↦ absurd (omega (arith, inside.1, w.blocks-else-block-eq0.ensures, w.if-block-blocks.true))
    ]

pub returns-in-Read-clause-stands : goal.returns-in-Read-clause-stands
returns-in-Read-clause-stands g c = λ names told.
    let tree = c.args.search.now.tree.now in
    let bounds = c.args.search.now.scan.now in
    let holds = c.requires.holds names told in
    let steps = c.back_searches_go_in_steps.ensures names tree bounds holds in
    let inv = c.loop-visits.invariant in
    let page = c.look_at.new.page in
    read-stands names tree bounds holds steps c.loop-visits.block (inv.comes names told) page (c.in_ok-look_at.ensures.page names (inv.asked.same ∙ told))
    (leads-there (tree_columns c.columns-columns.result) (index_columns tree) bounds _ page Read c.columns-columns.ensures.lists c.new.ensures c.in-Read.ensures.leads)
    c.last_spot.result c.last_spot.ensures.block (dead-there (page_bytes c.new-in-Read.result) page c.last_spot.result c.new-in-Read.ensures c.last_spot.ensures.dead)
    (last-there (page_bytes c.new-in-Read.result) page c.last_spot.result c.new-in-Read.ensures c.last_spot.ensures.last)

pub returns-in-Read-clause-goes : goal.returns-in-Read-clause-goes
returns-in-Read-clause-goes g c = λ names told.
    let tree = c.args.search.now.tree.now in
    let bounds = c.args.search.now.scan.now in
    let holds = c.requires.holds names told in
    let steps = c.back_searches_go_in_steps.ensures names tree bounds holds in
    let inv = c.loop-visits.invariant in
    let page = c.look_at.new.page in
    subst (λ (n : ℕ). GoesOn names tree bounds (Seeks c.args.first) (state_at names tree bounds c.last_spot.result) c.args.visits.now.count n) (sym c.look_at.ensures.count)
    (read-goes names tree bounds holds steps c.loop-visits.block (inv.comes names told) page (c.in_ok-look_at.ensures.page names (inv.asked.same ∙ told))
    (leads-there (tree_columns c.columns-columns.result) (index_columns tree) bounds _ page Read c.columns-columns.ensures.lists c.new.ensures c.in-Read.ensures.leads)
    c.last_spot.result c.last_spot.ensures.block (dead-there (page_bytes c.new-in-Read.result) page c.last_spot.result c.new-in-Read.ensures c.last_spot.ensures.dead)
    (last-there (page_bytes c.new-in-Read.result) page c.last_spot.result c.new-in-Read.ensures c.last_spot.ensures.last)
    (Seeks c.args.first) c.args.visits.now.count c.loop-visits.visits.count (inv.goes names told))

pub returns-in-Lost-clause-stands : goal.returns-in-Lost-clause-stands
returns-in-Lost-clause-stands g c = λ names told.
    let tree = c.args.search.now.tree.now in
    let bounds = c.args.search.now.scan.now in
    let holds = c.requires.holds names told in
    let steps = c.back_searches_go_in_steps.ensures names tree bounds holds in
    let inv = c.loop-visits.invariant in
    absurd (step-lost names tree bounds holds steps c.loop-visits.block (inv.comes names told) c.look_at.new.page (c.in_ok-look_at.ensures.page names (inv.asked.same ∙ told))
    (leads-there (tree_columns c.columns-columns.result) (index_columns tree) bounds _ c.look_at.new.page Lost c.columns-columns.ensures.lists c.new.ensures c.in-Lost.ensures.leads))

pub returns-in-Lost-clause-there : goal.returns-in-Lost-clause-there
returns-in-Lost-clause-there g c = λ names told e.
    let tree = c.args.search.now.tree.now in
    let bounds = c.args.search.now.scan.now in
    let holds = c.requires.holds names told in
    let steps = c.back_searches_go_in_steps.ensures names tree bounds holds in
    let inv = c.loop-visits.invariant in
    step-lost names tree bounds holds steps c.loop-visits.block (inv.comes names told) c.look_at.new.page (c.in_ok-look_at.ensures.page names (inv.asked.same ∙ told))
    (leads-there (tree_columns c.columns-columns.result) (index_columns tree) bounds _ c.look_at.new.page Lost c.columns-columns.ensures.lists c.new.ensures c.in-Lost.ensures.leads)

pub returns-in-Lost-clause-goes : goal.returns-in-Lost-clause-goes
returns-in-Lost-clause-goes g c = λ names told.
    let tree = c.args.search.now.tree.now in
    let bounds = c.args.search.now.scan.now in
    let holds = c.requires.holds names told in
    let steps = c.back_searches_go_in_steps.ensures names tree bounds holds in
    let inv = c.loop-visits.invariant in
    absurd (step-lost names tree bounds holds steps c.loop-visits.block (inv.comes names told) c.look_at.new.page (c.in_ok-look_at.ensures.page names (inv.asked.same ∙ told))
    (leads-there (tree_columns c.columns-columns.result) (index_columns tree) bounds _ c.look_at.new.page Lost c.columns-columns.ensures.lists c.new.ensures c.in-Lost.ensures.leads))

pub returns-clause-stands : goal.returns-clause-stands
returns-clause-stands g c = λ names told.
    let tree = c.args.search.now.tree.now in
    let bounds = c.args.search.now.scan.now in
    let holds = c.requires.holds names told in
    let steps = c.back_searches_go_in_steps.ensures names tree bounds holds in
    let inv = c.loop-visits.invariant in
    let enough = c.requires.enough names told in
    let same = (inv.goes names told).left in
    absurd (not-over names tree bounds holds steps c.loop-visits.block (inv.comes names told) c.loop-visits.visits.count c.args.search.now.limit (omega (arith, enough, same)) (omega arith))

pub returns-clause-there : goal.returns-clause-there
returns-clause-there g c = λ names told e.
    let tree = c.args.search.now.tree.now in
    let bounds = c.args.search.now.scan.now in
    let holds = c.requires.holds names told in
    let steps = c.back_searches_go_in_steps.ensures names tree bounds holds in
    let inv = c.loop-visits.invariant in
    let enough = c.requires.enough names told in
    let same = (inv.goes names told).left in
    not-over names tree bounds holds steps c.loop-visits.block (inv.comes names told) c.loop-visits.visits.count c.args.search.now.limit (omega (arith, enough, same)) (omega arith)

pub returns-clause-goes : goal.returns-clause-goes
returns-clause-goes g c = λ names told.
    let tree = c.args.search.now.tree.now in
    let bounds = c.args.search.now.scan.now in
    let holds = c.requires.holds names told in
    let steps = c.back_searches_go_in_steps.ensures names tree bounds holds in
    let inv = c.loop-visits.invariant in
    let enough = c.requires.enough names told in
    let same = (inv.goes names told).left in
    absurd (not-over names tree bounds holds steps c.loop-visits.block (inv.comes names told) c.loop-visits.visits.count c.args.search.now.limit (omega (arith, enough, same)) (omega arith))

use Rattle.std.proofs.Common.{rules, ◌≡◌, ◌+◌, ◌-◌, ◌<◌, ◌≤◌, ◌∙◌, ℕ, List, inl, inr, refl, sym, subst, arith}
use Rattle.std.specs.Prelude.{IsSome, Result}
use Rattle.std.specs.Borrow.{Bor}
use Rattle.std.proofs.lemmas.Bool.{cases_eq}
use Rattle.page_layout.specs.View.{page_bytes}
use Rattle.key_attrs.specs.Columns.{tree_columns}
use Rattle.bt_levels.specs.Sound.{block_count, fastroot_of, index_columns}
use Rattle.bt_steps.specs.declared.inner.Step.TheVariants.{Lost, Read, To}
use Rattle.bt_search.specs.Lookups.{IsLookedUp}
use Rattle.bt_search.specs.Cached.{Cached, KeepsAll, Keeps, Looked}
use Rattle.bt_search.proofs.Asked.{asked-none, passed-then}
use Rattle.bt_search.proofs.Onward.{IsUnderWay, begins, found-on, goes-to, is-open, led, none-on, there-on}
use Rattle.bt_search.proofs.look_up.find.Goals as goal
use Rattle.bt_search.proofs.look_up.find.Goals.{then-block-eq0-via-then-block-eq0, then-block-eq0-via-else-block-eq0+then-block-blocks}

-- a look at a block that is kept keeps them all
keeps-on : {E : Type 0} (blocks block : ℕ) (result : Result (Bor (List ℕ)) E) (old new : Cached)
    → Keeps block old → Looked block result old new → KeepsAll blocks old → KeepsAll blocks new
keeps-on blocks block result old new here looked all = λ b from below.
    subst IsSome (sym (looked.pages here b)) (all b from below)

-- visits along the way are within what the numbers of the index say
within-most : (old new way most : ℕ) → new ≤ old + way → way < most → new ≤ old + most
within-most old new way most made short = omega (arith, made, short)

pub loop-visits-init : goal.loop-visits-init
loop-visits-init g c =
    let tree = c.args.tree.now in
    let key = c.args.sought.key.now in
    let tid = c.args.sought.tid in
    let count = c.args.visits.now.count in
    let none-made : 0 ≡ count - count = omega arith in
    record {
      onward = omega arith;
      limit = omega arith;
      way = λ names told some.
          subst (λ (b : ℕ). IsUnderWay names tree key tid (count - count) b) (sym c.fastroot-block.ensures)
          (subst (λ (m : ℕ). IsUnderWay names tree key tid m (fastroot_of tree)) none-made
          (begins names tree key tid (c.entries_have_a_leaf.ensures.leaf names tree key tid (c.requires.holds names told) some)));
      empty = λ none. (c.fastroot-block.ensures ∙ none, refl);
      of = c.requires.of;
      capacity = refl;
      kept = λ all. (refl, all);
      asked = asked-none (count - count);
    }

pub loop-visits-preserved : goal.loop-visits-preserved
loop-visits-preserved g c =
    let tree = c.args.tree.now in
    let key = c.args.sought.key.now in
    let tid = c.args.sought.tid in
    let b = c.loop-visits.block in
    let inv = c.loop-visits.invariant in
    let onward = inv.onward in
    let made = c.loop-visits.visits.count - c.args.visits.now.count in
    record {
      onward = omega (arith, onward);
      limit = omega arith;
      way = λ names told some.
          let u = inv.way names told some in
          let to = led names tree key tid (c.requires.holds names told) made b u (tree_columns c.columns-columns.result) (page_bytes c.new-page.result) (To c.in-To.next) c.columns-columns.ensures.lists
          (c.new-page.ensures ∙ c.in_ok-page.ensures.bytes names (inv.asked.same ∙ told)) c.in-To.ensures.leads in
          let more : made + 1 ≡ (c.loop-visits.visits.count + 1) - c.args.visits.now.count = omega (arith, onward) in
          subst (λ (m : ℕ). IsUnderWay names tree key tid m c.in-To.next) more (goes-to names tree key tid made b c.in-To.next u to);
      empty = λ none. absurd (c.if-block-eq0.false (inv.empty none).0);
      of = search rules;
      capacity = search rules;
      kept = λ all.
          let so-far = inv.kept all in
          let here = so-far.1 b (omega (arith, c.if-block-eq0.false)) (omega (arith, c.if-block-blocks.false, c.blocks-else-block-eq0.ensures)) in
          ((c.page.ensures.hit here).1 ∙ so-far.0, keeps-on (block_count tree) b c.page.result c.loop-visits.cache c.page.follows.lender-at-none here c.page.follows.holds-at-none.0 so-far.1);
      asked = passed-then (omega (arith, onward)) inv.asked c.in_ok-page.ensures.asked;
    }

pub returns-clause-visits : goal.returns-clause-visits
returns-clause-visits g c = λ names told. elim (cases_eq (fastroot_of c.args.tree.now) 0) [
  | inl none ↦ (let made = (c.loop-visits.invariant.empty none).1 in omega (arith, made))
  | inr some ↦
      let tree = c.args.tree.now in
      let open-way = is-open names tree c.args.sought.key.now c.args.sought.tid _ c.loop-visits.block (c.loop-visits.invariant.way names told some) in
      let within = open-way.1 in
      let onward = c.loop-visits.invariant.onward in
      omega (arith, within, onward)
]

pub returns-clause-found : goal.returns-clause-found
returns-clause-found g c = λ names told. elim (cases_eq (fastroot_of c.args.tree.now) 0) [
  | inl none ↦ c.entries_have_a_leaf.ensures.empty names c.args.tree.now c.args.sought.key.now c.args.sought.tid (c.requires.holds names told) none
  | inr some ↦
      let tree = c.args.tree.now in
      let open-way = is-open names tree c.args.sought.key.now c.args.sought.tid _ c.loop-visits.block (c.loop-visits.invariant.way names told some) in
      let within = open-way.0 in
      let onward = c.loop-visits.invariant.onward in
      absurd (omega (arith, within, onward, c.loop-visits-test.false, c.blocks-2.ensures, c.from.ensures))
]

pub returns-then-block-eq0-clause-found : goal.returns-then-block-eq0-clause-found
returns-then-block-eq0-clause-found g c = λ names told. elim (cases_eq (fastroot_of c.args.tree.now) 0) [
  | inl none ↦ c.entries_have_a_leaf.ensures.empty names c.args.tree.now c.args.sought.key.now c.args.sought.tid (c.requires.holds names told) none
  | inr some ↦
      let tree = c.args.tree.now in
      let open-way = is-open names tree c.args.sought.key.now c.args.sought.tid _ c.loop-visits.block (c.loop-visits.invariant.way names told some) in
      let inside = open-way.3 in
      elim c.then-block-eq0.branch [
        | then-block-eq0-via-then-block-eq0 w ↦ absurd (open-way.2 w.if-block-eq0.true)
        | then-block-eq0-via-else-block-eq0+then-block-blocks w ↦ absurd (omega (arith, inside, w.blocks-else-block-eq0.ensures, w.if-block-blocks.true))
      ]
]

pub returns-then-block-eq0-clause-visits : goal.returns-then-block-eq0-clause-visits
returns-then-block-eq0-clause-visits g c = λ names told. elim (cases_eq (fastroot_of c.args.tree.now) 0) [
  | inl none ↦ (let made = (c.loop-visits.invariant.empty none).1 in omega (arith, made))
  | inr some ↦
      let tree = c.args.tree.now in
      let open-way = is-open names tree c.args.sought.key.now c.args.sought.tid _ c.loop-visits.block (c.loop-visits.invariant.way names told some) in
      let within = open-way.1 in
      let onward = c.loop-visits.invariant.onward in
      omega (arith, within, onward)
]

pub returns-in_err-page-clause-visits : goal.returns-in_err-page-clause-visits
returns-in_err-page-clause-visits g c = λ names told. elim (cases_eq (fastroot_of c.args.tree.now) 0) [
  | inl none ↦ absurd (c.if-block-eq0.false (c.loop-visits.invariant.empty none).0)
  | inr some ↦
      let open-way = is-open names c.args.tree.now c.args.sought.key.now c.args.sought.tid _ c.loop-visits.block (c.loop-visits.invariant.way names told some) in
      let within = open-way.1 in
      let onward = c.loop-visits.invariant.onward in
      omega (arith, within, onward)
]

pub returns-in-Read-clause-visits : goal.returns-in-Read-clause-visits
returns-in-Read-clause-visits g c = λ names told. elim (cases_eq (fastroot_of c.args.tree.now) 0) [
  | inl none ↦ absurd (c.if-block-eq0.false (c.loop-visits.invariant.empty none).0)
  | inr some ↦
      let open-way = is-open names c.args.tree.now c.args.sought.key.now c.args.sought.tid _ c.loop-visits.block (c.loop-visits.invariant.way names told some) in
      let within = open-way.1 in
      let onward = c.loop-visits.invariant.onward in
      omega (arith, within, onward)
]

pub returns-in-Lost-clause-visits : goal.returns-in-Lost-clause-visits
returns-in-Lost-clause-visits g c = λ names told. elim (cases_eq (fastroot_of c.args.tree.now) 0) [
  | inl none ↦ absurd (c.if-block-eq0.false (c.loop-visits.invariant.empty none).0)
  | inr some ↦
      let open-way = is-open names c.args.tree.now c.args.sought.key.now c.args.sought.tid _ c.loop-visits.block (c.loop-visits.invariant.way names told some) in
      let within = open-way.1 in
      let onward = c.loop-visits.invariant.onward in
      omega (arith, within, onward)
]

pub returns-in-Lost-clause-found : goal.returns-in-Lost-clause-found
returns-in-Lost-clause-found g c = λ names told. elim (cases_eq (fastroot_of c.args.tree.now) 0) [
  | inl none ↦ absurd (c.if-block-eq0.false (c.loop-visits.invariant.empty none).0)
  | inr some ↦
      let inv = c.loop-visits.invariant in
      absurd (led names c.args.tree.now c.args.sought.key.now c.args.sought.tid (c.requires.holds names told) _ c.loop-visits.block (inv.way names told some) (tree_columns c.columns-columns.result) (page_bytes c.new-page.result) Lost c.columns-columns.ensures.lists
      (c.new-page.ensures ∙ c.in_ok-page.ensures.bytes names (inv.asked.same ∙ told)) c.in-Lost.ensures.leads)
]

pub returns-in-Read-clause-found : goal.returns-in-Read-clause-found
returns-in-Read-clause-found g c = λ names told. elim (cases_eq (fastroot_of c.args.tree.now) 0) [
  | inl none ↦ absurd (c.if-block-eq0.false (c.loop-visits.invariant.empty none).0)
  | inr some ↦
      let tree = c.args.tree.now in
      let key = c.args.sought.key.now in
      let tid = c.args.sought.tid in
      let b = c.loop-visits.block in
      let inv = c.loop-visits.invariant in
      let page-is = c.new-page.ensures ∙ c.in_ok-page.ensures.bytes names (inv.asked.same ∙ told) in
      let u = inv.way names told some in
      let holds = c.requires.holds names told in
      let read = led names tree key tid holds _ b u (tree_columns c.columns-columns.result) (page_bytes c.new-page.result) Read c.columns-columns.ensures.lists page-is c.in-Read.ensures.leads in
      subst (IsLookedUp names tree key tid) (sym c.spot_of.ensures)
      (found-on names tree key tid holds _ b u read c.find_on.result
      (there-on (tree_columns c.columns-columns.result) (index_columns tree) (page_bytes c.new-page.result) _ key tid c.find_on.result c.columns-columns.ensures.lists page-is c.find_on.ensures.some)
      (none-on (tree_columns c.columns-columns.result) (index_columns tree) (page_bytes c.new-page.result) _ key tid c.find_on.result c.columns-columns.ensures.lists page-is c.find_on.ensures.none))
]

pub returns-clause-most : goal.returns-clause-most
returns-clause-most g c = λ names told. within-most c.args.visits.now.count _ _ _ (returns-clause-visits g c names told) (c.ways_are_short.ensures names c.args.tree.now (c.requires.holds names told))

pub returns-then-block-eq0-clause-most : goal.returns-then-block-eq0-clause-most
returns-then-block-eq0-clause-most g c = λ names told. within-most c.args.visits.now.count _ _ _ (returns-then-block-eq0-clause-visits g c names told) (c.ways_are_short.ensures names c.args.tree.now (c.requires.holds names told))

pub returns-in_err-page-clause-most : goal.returns-in_err-page-clause-most
returns-in_err-page-clause-most g c = λ names told. within-most c.args.visits.now.count _ _ _ (returns-in_err-page-clause-visits g c names told) (c.ways_are_short.ensures names c.args.tree.now (c.requires.holds names told))

pub returns-in-Read-clause-most : goal.returns-in-Read-clause-most
returns-in-Read-clause-most g c = λ names told. within-most c.args.visits.now.count _ _ _ (returns-in-Read-clause-visits g c names told) (c.ways_are_short.ensures names c.args.tree.now (c.requires.holds names told))

pub returns-in-Lost-clause-most : goal.returns-in-Lost-clause-most
returns-in-Lost-clause-most g c = λ names told. within-most c.args.visits.now.count _ _ _ (returns-in-Lost-clause-visits g c names told) (c.ways_are_short.ensures names c.args.tree.now (c.requires.holds names told))

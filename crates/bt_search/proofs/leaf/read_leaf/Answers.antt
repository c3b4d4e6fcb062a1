use Rattle.std.proofs.Common.{◌≡◌, ◌≢◌, ◌<◌, ◌∙◌, List, ℕ, ap, arith, refl, subst, sym}
use Rattle.std.specs.Prelude.{None}
use Rattle.std.proofs.lemmas.Grind.{common_steps}
use Rattle.page_layout.specs.Page.{count_of, page_rule_of}
use Rattle.page_layout.specs.View.{page_bytes}
use Rattle.page_layout.specs.declared.page.PageKind.TheVariants.{Tree}
use Rattle.bt_meta.specs.declared.records.Opaque.{Opaque}
use Rattle.bt_meta.specs.Pages.{opaque_of}
use Rattle.bt_image.proofs.PageFields.{first_cases}
use Rattle.bt_levels.specs.Sound.{held_block, index_columns}
use Rattle.bt_search.specs.declared.spot.Spot.{Spot}
use Rattle.bt_search.specs.Entries.{IsEntryAt}
use Rattle.bt_search.specs.Leaves.{Leaves}
use Rattle.bt_search.proofs.Reading.{ends-last, goes-right, readable}
use Rattle.bt_search.proofs.leaf.read_leaf.Goals as goal
use Rattle.bt_search.proofs.leaf.read_leaf.Goals.{then-is_some-via-then-is_some, then-is_some-via-else-is_some+then-spot-eq0}

pub returns-then-is_some-clause-told : goal.returns-then-is_some-clause-told
returns-then-is_some-clause-told c = λ names holds some at.
    let tree = c.args.search.now.tree.now in
    let bounds = c.args.search.now.scan.now in
    let page = page_bytes c.args.page in
    let spot = c.args.spot.now in
    let held = held_block names tree spot.block in
    let hand = at.in_hand some in
    let steps = c.searches_go_in_steps.ensures names tree bounds holds in
    let laid : page_rule_of Tree page ≡ None = subst (λ (p : List ℕ). page_rule_of Tree p ≡ None) (sym hand) (readable names tree bounds holds steps spot page some at).laid_out in
    let none : c.page_rule.result ≡ None = c.page_rule.ensures.value ∙ laid in
    let one = first_cases held in
    let from = (at.place some).from in
    elim c.then-is_some.branch [
      | then-is_some-via-then-is_some w ↦ absurd (grind (arith, common_steps))
      | then-is_some-via-else-is_some+then-spot-eq0 w ↦ absurd (omega (arith, one, from, w.if-spot-eq0.true))
    ]

pub returns-in-Entry-clause-entry : goal.returns-in-Entry-clause-entry
returns-in-Entry-clause-entry c = λ at is.
    let r = c.in-Entry.ensures.entry c.in-Entry.at refl in
    let same : c.in-Entry.at ≡ at = cc in
    subst (λ (a : Spot). (a.block ≡ c.args.spot.now.block) × IsEntryAt (index_columns c.args.search.now.tree.now) (page_bytes c.args.page) a) same (r.0 ∙ c.loop-spot.invariant.block, r.1)

pub returns-in-0-clause-told : goal.returns-in-0-clause-told
returns-in-0-clause-told c = λ names holds some at.
    let tree = c.args.search.now.tree.now in
    let bounds = c.args.search.now.scan.now in
    let page = page_bytes c.args.page in
    let spot = c.loop-spot.spot in
    let so_far = c.loop-spot.invariant.goes names holds some at in
    let some_still : spot.block ≢ 0 = λ e. some (sym c.loop-spot.invariant.block ∙ e) in
    let hand = so_far.stands.in_hand some_still in
    let steps = c.searches_go_in_steps.ensures names tree bounds holds in
    let behind : count_of page < spot.item = omega arith in
    let past : count_of (held_block names tree spot.block) < spot.item = subst (λ (p : List ℕ). count_of p < spot.item) hand behind in
    let last : (opaque_of (held_block names tree spot.block)).next ≡ 0 = sym (ap (λ (p : List ℕ). (opaque_of p).next) hand) ∙ (sym (ap (λ (o : Opaque). o.next) c.opaque.ensures) ∙ c.in-0.is) in
    let end = ends-last names tree bounds holds steps spot page some_still so_far.stands past last in
    record { stands = so_far.stands; rest = so_far.rest ∙ end.rest; left = so_far.left ∙ end.left; new_rest = end.new_rest; new_left = end.new_left }

pub returns-in_default-clause-told : goal.returns-in_default-clause-told
returns-in_default-clause-told c = λ names holds some at.
    let tree = c.args.search.now.tree.now in
    let bounds = c.args.search.now.scan.now in
    let page = page_bytes c.args.page in
    let spot = c.loop-spot.spot in
    let so_far = c.loop-spot.invariant.goes names holds some at in
    let some_still : spot.block ≢ 0 = λ e. some (sym c.loop-spot.invariant.block ∙ e) in
    let hand = so_far.stands.in_hand some_still in
    let steps = c.searches_go_in_steps.ensures names tree bounds holds in
    let behind : count_of page < spot.item = omega arith in
    let past : count_of (held_block names tree spot.block) < spot.item = subst (λ (p : List ℕ). count_of p < spot.item) hand behind in
    let next : (opaque_of (held_block names tree spot.block)).next ≡ c.opaque.result.next = sym (ap (λ (p : List ℕ). (opaque_of p).next) hand) ∙ sym (ap (λ (o : Opaque). o.next) c.opaque.ensures) in
    let right = goes-right names tree bounds holds steps spot page some_still so_far.stands past (λ e. let none : c.opaque.result.next ≡ 0 = sym next ∙ e in omega arith) in
    let there = subst (λ (n : ℕ). Leaves names tree bounds spot n) next right in
    record { comes = there.comes; rest = so_far.rest ∙ there.rest; left = so_far.left ∙ there.left }

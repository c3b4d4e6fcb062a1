use Rattle.std.proofs.Common.{◌≡◌, ◌≢◌, ◌≤◌, ◌+◌, ◌-◌, suc, [], false, refl, ap, sym, subst, ◌∙◌, arith}
use Rattle.std.specs.Prelude.{None, ◌==◌}
use Rattle.outside.proofs.Asking.{Passed-next, Passed-none}
use Rattle.rel_files.specs.Relation.{IsAttached}
use Rattle.bt_pages.specs.Trees.{tree_seen}
use Rattle.laws_search.specs.Levels.{downlinks, entry_page}
use Rattle.laws_levels.specs.Tests.{are_roots_misplaced}
use Rattle.bt_level_check.specs.Reading.{IsOfLevel, IsReading}
use Rattle.bt_level_check.specs.Trees.{HoldsPages, image_of, order_in}
use Rattle.bt_level_check.specs.Walked.{HasEnough, IsLevelJudged, StandsBefore, dead_of, fastroot_of, tree_of}
use Rattle.bt_level_check.specs.UnderWay.{AtLevel, IsAtStage}
use Rattle.bt_level_check.proofs.Descending.{at_top, entry_here, found_on, levels_tree, next_on, none_is, some_is}
use Rattle.bt_level_check.proofs.Entries.{few_levels}
use Rattle.bt_level_check.proofs.levels.Levels.walk_down.Goals as goal

pub loop-k-init : goal.loop-k-init
loop-k-init g c = record {
  ready = c.requires.ready;
  same = record { tree = refl; fastroot = refl };
  within = omega arith;
  at = λ names told holds ne roots before enough.
      let tree = tree_seen names (tree_of c.args.self.now) in
      let local = c.kept_rules_make_a_sound_image.ensures tree.specs tree.more tree.blocks tree.block holds.pages in
      let is = ap (λ m. m.level) (c.requires.meta names told) in
      at_top tree local ne roots c.args.self.now (c.args.meta.now.level - 0) (let e : c.args.meta.now.level - 0 ≡ c.args.meta.now.level = omega arith in e ∙ is) before c.requires.unwalked enough;
  taken = omega arith;
  asked = Passed-none;
}

pub overflow_sub-level : goal.overflow_sub-level
overflow_sub-level g c = c.loop-k.invariant.within

pub judge-requires-clause-ready : goal.judge-requires-clause-ready
judge-requires-clause-ready g c = c.loop-k.invariant.ready

pub judge-requires-clause-attached : goal.judge-requires-clause-attached
judge-requires-clause-attached g c names told =
    let i = c.loop-k.invariant in
    subst (λ t. IsAttached names t.relation.now) (sym i.same.tree) (c.requires.attached names (sym i.asked.same ∙ told))

pub descend-requires-clause-attached : goal.descend-requires-clause-attached
descend-requires-clause-attached g c names told =
    let i = c.loop-k.invariant in
    let j = c.in_ok-judged.ensures in
    subst (λ t. IsAttached names t.relation.now) (sym (j.same.tree ∙ i.same.tree)) (c.requires.attached names (sym (j.asked.same ∙ i.asked.same) ∙ told))

pub loop-k-preserved : goal.loop-k-preserved
loop-k-preserved g c =
    let i = c.loop-k.invariant in
    let j = c.in_ok-judged.ensures in
    let d = c.in_ok-descend.ensures in
    let k = c.loop-k.k in
    let top = c.args.meta.now.level in
    let before_reads = i.taken in
    let judge_reads = j.taken in
    let descend_reads = d.taken in
    let within : k + 1 ≤ top = let le = i.within in let some = c.if-level-eq0.false in omega (arith, le, some) in
    record {
      ready = d.ready;
      same = record { tree = ap tree_of d.downlinks ∙ j.same.tree ∙ i.same.tree; fastroot = ap fastroot_of d.downlinks ∙ j.same.fastroot ∙ i.same.fastroot };
      within = within;
      at = λ names told holds ne roots before enough.
          let tree = tree_seen names (tree_of c.args.self.now) in
          let local = c.kept_rules_make_a_sound_image.ensures tree.specs tree.more tree.blocks tree.block holds.pages in
          let m = top - (k + 1) in
          let here : top - k ≡ suc m = omega (arith, within) in
          let at = i.at names told holds ne roots before enough in
          let entry = entry_here tree local ne roots c.loop-k.self (top - k) k at in
          let held = i.asked.same ∙ told in
          let fast : (top - k == c.args.meta.now.fastlevel) ≡ (top - k == (image_of tree).fastlevel) = ap (λ q. top - k == q) (ap (λ z. z.fastlevel) (c.requires.meta names told)) in
          let judged = subst (λ t. IsLevelJudged (tree_seen names t) (top - k) (downlinks (image_of tree) k) c.loop-k.self c.judge.new.self c.in_ok-judged.judged) i.same.tree
          (j.told names held (subst (λ t. HoldsPages names t) (sym i.same.tree) holds) (top - k) (downlinks (image_of tree) k) (subst (λ t. StandsBefore (tree_seen names t) (top - k) c.loop-k.self (downlinks (image_of tree) k)) (sym i.same.tree) at.stands)
          (subst (λ t. IsOfLevel (image_of (tree_seen names t)) (top - k) (entry_page (downlinks (image_of tree) k))) (sym i.same.tree) entry) (subst (λ t. HasEnough (tree_seen names t) (suc (top - k)) c.loop-k.self) (sym i.same.tree) at.enough)
          (fast ∙ ap (λ t. top - k == (image_of (tree_seen names t)).fastlevel) (sym i.same.tree))) in
          let none : c.in_ok-judged.judged.finding ≡ None = none_is c.in_ok-judged.judged.finding (sym c.is_some.ensures ∙ c.if-is_some.false) in
          let same = j.same.tree ∙ i.same.tree in
          subst (λ n. AtLevel tree c.descend.new.self m n) (let e : suc k ≡ k + 1 = omega arith in e)
          (next_on tree local ne roots c.loop-k.self c.judge.new.self k c.in_ok-judged.judged m c.descend.new.self
          (subst (λ n. AtLevel tree c.loop-k.self n k) here at) (subst (λ n. IsLevelJudged tree n (downlinks (image_of tree) k) c.loop-k.self c.judge.new.self c.in_ok-judged.judged) here judged) none
          j.same.fastroot d.downlinks
          (λ level left reading root. subst (λ t. StandsBefore (tree_seen names t) level c.descend.new.self left) same (d.told names (j.asked.same ∙ held) (subst (λ t. HoldsPages names t) (sym same) holds) level left (subst (λ t. IsReading (image_of (tree_seen names t)) (dead_of c.judge.new.self) (suc level) c.judge.new.self.upper.turns_left (record { items = []; lower = None; block = c.in_ok-judged.judged.first }) left) (sym same) reading) (root ∙ ap (λ t. (image_of (tree_seen names t)).fastroot) (sym same)))));
      taken = omega (arith, before_reads, judge_reads, descend_reads);
      asked = Passed-next (Passed-next i.asked j.asked) d.asked;
    }

pub enter_leaves-requires-clause-attached : goal.enter_leaves-requires-clause-attached
enter_leaves-requires-clause-attached g c names told =
    let i = c.loop-k.invariant in
    subst (λ t. IsAttached names t.relation.now) (sym i.same.tree) (c.requires.attached names (sym i.asked.same ∙ told))

pub returns-then-level-eq0-clause-told : goal.returns-then-level-eq0-clause-told
returns-then-level-eq0-clause-told g c names told holds ne roots before enough =
    let i = c.loop-k.invariant in
    let k = c.loop-k.k in
    let tree = tree_seen names (tree_of c.args.self.now) in
    let same = sym i.same.tree in
    let at = subst (λ n. AtLevel tree c.loop-k.self n k) c.if-level-eq0.true (i.at names told holds ne roots before enough) in
    subst (λ t. IsAtStage (tree_seen names t) c.enter_leaves.new.self c.in_ok-stage.stage) i.same.tree
    (c.in_ok-stage.ensures.told names (i.asked.same ∙ told) (subst (λ t. HoldsPages names t) same holds) k
    (subst (λ t. (image_of (tree_seen names t)).root ≢ 0) same ne) (subst (λ t. are_roots_misplaced (image_of (tree_seen names t)) ≡ false) same roots)
    (subst (λ t. AtLevel (tree_seen names t) c.loop-k.self 0 k) same at))

pub returns-then-is_some-clause-told : goal.returns-then-is_some-clause-told
returns-then-is_some-clause-told g c names told holds ne roots before enough =
    let i = c.loop-k.invariant in
    let j = c.in_ok-judged.ensures in
    let k = c.loop-k.k in
    let top = c.args.meta.now.level in
    let tree = tree_seen names (tree_of c.args.self.now) in
    let local = c.kept_rules_make_a_sound_image.ensures tree.specs tree.more tree.blocks tree.block holds.pages in
    let at = i.at names told holds ne roots before enough in
    let entry = entry_here tree local ne roots c.loop-k.self (top - k) k at in
    let fast : (top - k == c.args.meta.now.fastlevel) ≡ (top - k == (image_of tree).fastlevel) = ap (λ q. top - k == q) (ap (λ z. z.fastlevel) (c.requires.meta names told)) in
    let judged = subst (λ t. IsLevelJudged (tree_seen names t) (top - k) (downlinks (image_of tree) k) c.loop-k.self c.judge.new.self c.in_ok-judged.judged) i.same.tree
    (j.told names (i.asked.same ∙ told) (subst (λ t. HoldsPages names t) (sym i.same.tree) holds) (top - k) (downlinks (image_of tree) k) (subst (λ t. StandsBefore (tree_seen names t) (top - k) c.loop-k.self (downlinks (image_of tree) k)) (sym i.same.tree) at.stands)
    (subst (λ t. IsOfLevel (image_of (tree_seen names t)) (top - k) (entry_page (downlinks (image_of tree) k))) (sym i.same.tree) entry) (subst (λ t. HasEnough (tree_seen names t) (suc (top - k)) c.loop-k.self) (sym i.same.tree) at.enough)
    (fast ∙ ap (λ t. top - k == (image_of (tree_seen names t)).fastlevel) (sym i.same.tree))) in
    let some = some_is c.in_ok-judged.judged.finding (sym c.is_some.ensures ∙ c.if-is_some.true) in
    levels_tree tree local ne roots c.judge.new.self c.in_ok-judged.judged.finding
    (found_on tree local ne roots c.loop-k.self c.judge.new.self k c.in_ok-judged.judged (top - k) some.finding at judged some.is)

-- there are no more levels than blocks
pub returns-clause-told : goal.returns-clause-told
returns-clause-told g c names told holds ne roots before enough =
    let tree = tree_seen names (tree_of c.args.self.now) in
    let local = c.kept_rules_make_a_sound_image.ensures tree.specs tree.more tree.blocks tree.block holds.pages in
    let is = ap (λ z. z.level) (c.requires.meta names told) in
    let within = c.loop-k.invariant.within in
    let e = c.blocks-k-end.ensures in
    let t = c.loop-k.auto.k-end in
    let f = c.loop-k-test.false in
    absurd (few_levels (order_in tree) (image_of tree) local ne roots (omega (arith, is, within, e, t, f)))

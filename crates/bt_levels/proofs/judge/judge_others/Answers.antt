use Rattle.std.proofs.Common.{◌≡◌, ◌∙◌, ◌+◌, ◌-◌, ◌<◌, ℕ, ap, subst, sym, arith}
use Rattle.outside.specs.Adds.{Begins}
use Rattle.outside.proofs.Adding.{Adds-exit, Begins-none}
use Rattle.outside.proofs.Asking.{Passed-next, Passed-none}
use Rattle.rel_files.specs.Relation.{count_of}
use Rattle.reports.specs.Added.{each_upto, joined, report_lists}
use Rattle.reports.proofs.Upto.{upto-cut, upto-next, upto-none}
use Rattle.bt_pages.specs.Found.{block_lists}
use Rattle.bt_pages.specs.Trees.{tree_seen}
use Rattle.bt_pages.specs.declared.tree.TreeRules.{TreeRules}
use Rattle.bt_level_check.specs.Trees.{HoldsPages}
use Rattle.bt_level_check.specs.UnderWay.{IsOnItsWay}
use Rattle.bt_levels.specs.Lists.{other_lists}
use Rattle.bt_levels.specs.Window.{held_page}
use Rattle.bt_levels.proofs.judge.judge_others.Goals as goal

pub loop-k-init : goal.loop-k-init
loop-k-init g c = record {
  lists = λ names told. upto-none report_lists (block_lists (tree_seen names c.args.tree.now.rules)) c.args.report.now;
  here = λ names told some. c.in_ok-begin.ensures.page names told some;
  tree = record { rules = c.in_ok-begin.ensures.tree.rules; kept = c.in_ok-begin.ensures.tree.kept };
  walk = c.requires.walk;
  way = λ names told way. way;
  taken = let most = c.in_ok-begin.ensures.asked.most in omega (arith, most);
  asked = Passed-next Passed-none c.in_ok-begin.ensures.asked;
}

pub loop-k-preserved : goal.loop-k-preserved
loop-k-preserved g c = record {
  lists = λ names told. upto-next report_lists (block_lists (tree_seen names c.args.tree.now.rules)) c.loop-k.k c.args.report.now c.loop-k.report c.judge_next.new.report (c.loop-k.invariant.lists names told)
      (subst (λ rules. c.judge_next.new.report ≡ joined c.loop-k.report (block_lists (tree_seen names rules) (c.loop-k.k + 1))) c.loop-k.invariant.tree.rules
      (c.in_ok-judge_next.ensures.lists names (c.in_ok-follow.ensures.asked.same ∙ c.loop-k.invariant.asked.same ∙ told)));
  here = λ names told some.
      subst (λ rules. c.loop-k.k + 1 + 1 < count_of rules.relation.now → held_page c.judge_next.new.self ≡ (tree_seen names rules).block (c.loop-k.k + 1 + 1)) c.loop-k.invariant.tree.rules
      (c.in_ok-judge_next.ensures.next names (c.in_ok-follow.ensures.asked.same ∙ c.loop-k.invariant.asked.same ∙ told)) some;
  tree = record {
    rules = c.in_ok-judge_next.ensures.tree.rules ∙ c.loop-k.invariant.tree.rules;
    kept = λ names told. c.in_ok-judge_next.ensures.tree.kept names (c.in_ok-follow.ensures.asked.same ∙ c.loop-k.invariant.asked.same ∙ told);
  };
  walk = record { ready = c.in_ok-follow.ensures.ready; index = c.in_ok-follow.ensures.index ∙ c.loop-k.invariant.walk.index; some = c.requires.walk.some };
  way = λ names told before holds.
      let i = c.loop-k.invariant in
      let f = c.in_ok-follow.ensures in
      subst (λ t. IsOnItsWay (tree_seen names t) c.follow.new.self) i.walk.index
      (f.told names (i.asked.same ∙ told) (subst (λ t. HoldsPages names t) (sym i.walk.index) holds)
      (subst (λ t. IsOnItsWay (tree_seen names t) c.loop-k.walk) (sym i.walk.index) (i.way names told before holds)));
  taken =
      let before = c.loop-k.invariant.taken in
      let follows = c.in_ok-follow.ensures.taken in
      let most = c.in_ok-judge_next.ensures.asked.most in
      omega (arith, before, follows, most);
  asked = Passed-next (Passed-next c.loop-k.invariant.asked c.in_ok-follow.ensures.asked) c.in_ok-judge_next.ensures.asked;
}

pub returns-in_err-begin-clause-lists : goal.returns-in_err-begin-clause-lists
returns-in_err-begin-clause-lists g c names told =
    Adds-exit report_lists c.from_residual.result _ c.args.report.now c.args.report.now (other_lists (tree_seen names c.args.tree.now.rules)) c.from_residual.ensures.1
    (Begins-none report_lists c.args.report.now (other_lists (tree_seen names c.args.tree.now.rules)))

pub returns-in_err-judge_next-clause-lists : goal.returns-in_err-judge_next-clause-lists
unfolding other_lists
returns-in_err-judge_next-clause-lists g c names told =
    Adds-exit report_lists c.from_residual-in_err-judge_next.result _ c.args.report.now c.judge_next.new.report (other_lists (tree_seen names c.args.tree.now.rules)) c.from_residual-in_err-judge_next.ensures.1
    (upto-cut report_lists (block_lists (tree_seen names c.args.tree.now.rules)) c.loop-k.k (count_of c.args.tree.now.rules.relation.now - 1) c.args.report.now c.loop-k.report c.judge_next.new.report (omega (arith, c.blocks-k-end.ensures, ap (λ (rules : TreeRules). count_of rules.relation.now) c.in_ok-begin.ensures.tree.rules))
    (c.loop-k.invariant.lists names told)
    (subst (λ rules. Begins report_lists c.loop-k.report c.judge_next.new.report (block_lists (tree_seen names rules) (c.loop-k.k + 1))) c.loop-k.invariant.tree.rules
    (c.in_err-judge_next.ensures.lists names (c.in_ok-follow.ensures.asked.same ∙ c.loop-k.invariant.asked.same ∙ told))))

pub returns-in_err-follow-clause-lists : goal.returns-in_err-follow-clause-lists
unfolding other_lists
returns-in_err-follow-clause-lists g c names told =
    Adds-exit report_lists c.from_residual-in_err-follow.result _ c.args.report.now c.loop-k.report (other_lists (tree_seen names c.args.tree.now.rules)) c.from_residual-in_err-follow.ensures.1
    (upto-cut report_lists (block_lists (tree_seen names c.args.tree.now.rules)) c.loop-k.k (count_of c.args.tree.now.rules.relation.now - 1) c.args.report.now c.loop-k.report c.loop-k.report (omega (arith, c.blocks-k-end.ensures, ap (λ (rules : TreeRules). count_of rules.relation.now) c.in_ok-begin.ensures.tree.rules))
    (c.loop-k.invariant.lists names told)
    (Begins-none report_lists c.loop-k.report (block_lists (tree_seen names c.args.tree.now.rules) (c.loop-k.k + 1))))

pub returns-clause-lists : goal.returns-clause-lists
unfolding other_lists
returns-clause-lists g c names told =
    let whole : c.loop-k.k ≡ count_of c.args.tree.now.rules.relation.now - 1 = omega (arith, c.blocks-k-end.ensures, ap (λ (rules : TreeRules). count_of rules.relation.now) c.in_ok-begin.ensures.tree.rules) in
    subst (λ (n : ℕ). c.loop-k.report ≡ joined c.args.report.now (each_upto report_lists (block_lists (tree_seen names c.args.tree.now.rules)) n)) whole
    (c.loop-k.invariant.lists names told)

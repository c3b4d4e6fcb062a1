use Rattle.std.proofs.Common.{◌≡◌, ◌∙◌, ◌+◌, ℕ, refl, subst, arith}
use Rattle.outside.specs.Adds.{Begins}
use Rattle.outside.proofs.Adding.{Adds-exit}
use Rattle.outside.proofs.Asking.{PassedAtMost-next, PassedAtMost-none}
use Rattle.page_layout.specs.Page.{count_of}
use Rattle.page_layout.specs.View.{page_bytes}
use Rattle.reports.specs.Added.{each_upto, joined, report_lists}
use Rattle.reports.proofs.Upto.{upto-cut, upto-next, upto-none}
use Rattle.bt_pages.specs.Found.{item_lists, items_lists}
use Rattle.bt_pages.specs.Trees.{tree_seen}
use Rattle.bt_pages.proofs.page.judge_each.Goals as goal

pub loop-k-init : goal.loop-k-init
loop-k-init g c = record {
  lists = λ names told. upto-none report_lists (item_lists (tree_seen names c.args.tree.now.rules) c.args.b (page_bytes c.args.page)) c.args.report.now;
  tree = record { rules = refl; kept = c.requires.seen };
  asked = PassedAtMost-none;
}

pub loop-k-preserved : goal.loop-k-preserved
loop-k-preserved g c = record {
  lists = λ names told. upto-next report_lists (item_lists (tree_seen names c.args.tree.now.rules) c.args.b (page_bytes c.args.page)) c.loop-k.k c.args.report.now c.loop-k.report c.judge_item.new.report (c.loop-k.invariant.lists names told)
      (subst (λ rules. c.judge_item.new.report ≡ joined c.loop-k.report (item_lists (tree_seen names rules) c.args.b (page_bytes c.args.page) (c.loop-k.k + 1))) c.loop-k.invariant.tree.rules
      (c.in_ok-judge_item.ensures.lists names (c.loop-k.invariant.asked.same ∙ told)));
  tree = record {
    rules = c.in_ok-judge_item.ensures.tree.rules ∙ c.loop-k.invariant.tree.rules;
    kept = λ names told. c.in_ok-judge_item.ensures.tree.kept names (c.loop-k.invariant.asked.same ∙ told);
  };
  asked = PassedAtMost-next 2 c.loop-k.k c.loop-k.invariant.asked c.in_ok-judge_item.ensures.asked;
}

pub returns-in_err-judge_item-clause-lists : goal.returns-in_err-judge_item-clause-lists
unfolding items_lists
returns-in_err-judge_item-clause-lists g c names told =
    Adds-exit report_lists c.from_residual.result _ c.args.report.now c.judge_item.new.report (items_lists (tree_seen names c.args.tree.now.rules) c.args.b (page_bytes c.args.page)) c.from_residual.ensures.1
    (upto-cut report_lists (item_lists (tree_seen names c.args.tree.now.rules) c.args.b (page_bytes c.args.page)) c.loop-k.k (count_of (page_bytes c.args.page)) c.args.report.now c.loop-k.report c.judge_item.new.report (omega arith)
    (c.loop-k.invariant.lists names told)
    (subst (λ rules. Begins report_lists c.loop-k.report c.judge_item.new.report (item_lists (tree_seen names rules) c.args.b (page_bytes c.args.page) (c.loop-k.k + 1))) c.loop-k.invariant.tree.rules
    (c.in_err-judge_item.ensures.lists names (c.loop-k.invariant.asked.same ∙ told))))

pub returns-clause-lists : goal.returns-clause-lists
unfolding items_lists
returns-clause-lists g c names told =
    let whole : c.loop-k.k ≡ count_of (page_bytes c.args.page) = omega arith in
    subst (λ (n : ℕ). c.loop-k.report ≡ joined c.args.report.now (each_upto report_lists (item_lists (tree_seen names c.args.tree.now.rules) c.args.b (page_bytes c.args.page)) n)) whole
    (c.loop-k.invariant.lists names told)

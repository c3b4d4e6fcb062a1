use Rattle.std.proofs.Common.{◌≡◌, ◌≢◌, ◌∙◌, ℕ, List, true, arith, subst, sym}
use Rattle.std.specs.Option.{option_copied}
use Rattle.std.proofs.lemmas.Bool.{OnTrue_at}
use Rattle.outside.proofs.Adding.{Adds-exit, Begins-none}
use Rattle.page_layout.specs.Page.{count_of}
use Rattle.key_attrs.specs.Columns.{TreeColumns, tree_columns}
use Rattle.bt_levels.specs.Files.{number_of}
use Rattle.bt_levels.specs.Sound.{file_of, held_block, index_columns}
use Rattle.bt_steps.specs.Pages.{is_live_leaf}
use Rattle.join_distinct.specs.Apart.{IsApart}
use Rattle.join_distinct.specs.Items.{RisesTo}
use Rattle.join_meet.specs.Meeting.{HaveMet, leaf_entries}
use Rattle.reports.specs.Added.{report_lists}
use Rattle.join_leaf_pass.specs.Passes.{strays_on}
use Rattle.join_leaf_pass.proofs.Reading.{block-readable, readable-by}
use Rattle.join_leaf_pass.proofs.check.Leaves.take_block.Goals as goal

pub returns-in_err-take_ahead-clause-lists : goal.returns-in_err-take_ahead-clause-lists
returns-in_err-take_ahead-clause-lists g c names told targets =
    let tree = c.args.self.tree.now in
    let owed = strays_on (number_of (file_of tree)) (index_columns tree) (option_copied c.args.self.targets) c.args.b (held_block names tree c.args.b) in
    Adds-exit report_lists c.from_residual.result _ c.args.report.now c.args.report.now owed c.from_residual.ensures.1
    (Begins-none report_lists c.args.report.now owed)

pub returns-clause-lists : goal.returns-clause-lists
returns-clause-lists g c names told targets =
    let tree = c.args.self.tree.now in
    let page = c.page-page.ensures ∙ c.in_ok-take_ahead.ensures.bytes names told in
    let not-meta = c.requires.not_meta in
    let some : c.args.b ≢ 0 = λ e. absurd (omega (arith, not-meta, e)) in
    let readable = readable-by (index_columns tree) (index_columns tree) c.page-page.result.now (held_block names tree c.args.b) (λ i. index_columns tree) page (block-readable names tree (c.requires.holds names told) c.args.b some c.requires.below) in
    c.in_ok-judge_page.ensures.lists targets readable
    ∙ (λ i. report_lists.join c.args.report.now (strays_on (number_of (file_of tree)) (index_columns tree) (option_copied c.args.self.targets) c.args.b (page i)))

pub returns-clause-met : goal.returns-clause-met
returns-clause-met g c names told =
    let tree = c.args.self.tree.now in
    let page = c.page-page.ensures ∙ c.in_ok-take_ahead.ensures.bytes names told in
    let not-meta = c.requires.not_meta in
    let some : c.args.b ≢ 0 = λ e. absurd (omega (arith, not-meta, e)) in
    let readable = readable-by (index_columns tree) (index_columns tree) c.page-page.result.now (held_block names tree c.args.b) (λ i. index_columns tree) page (block-readable names tree (c.requires.holds names told) c.args.b some c.requires.below) in
    subst (λ (p : List ℕ). HaveMet (leaf_entries (index_columns tree) p) c.args.slots.now c.judge_page.new.slots) page (c.in_ok-judge_page.ensures.met readable)

pub is_still_apart-hands-requires : goal.is_still_apart-hands-requires
is_still_apart-hands-requires g c = record {
  rise = λ live laid_out.
      let page = c.page-page.result.now in
      subst (λ (t : TreeColumns). RisesTo t page (count_of page) c.judge_page.new.seen.rise) (sym c.columns.ensures.lists) (c.in_ok-judge_page.ensures.rise live laid_out);
}

pub returns-clause-apart : goal.returns-clause-apart
returns-clause-apart g c names told known =
    let tree = c.args.self.tree.now in
    let block = held_block names tree c.args.b in
    let page = c.page-page.ensures ∙ c.in_ok-take_ahead.ensures.bytes names told in
    let both = OnTrue_at known c.is_still_apart-hands.ensures in
    record {
      known = sym c.in_ok-judge_page.ensures.apart ∙ both.0;
      here =
          subst (λ (t : TreeColumns). is_live_leaf block ≡ true → IsApart t block) c.columns.ensures.lists
          (subst (λ (p : List ℕ). is_live_leaf p ≡ true → IsApart (tree_columns c.columns.result) p) page both.1);
    }

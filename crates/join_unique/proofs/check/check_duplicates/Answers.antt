use Rattle.std.proofs.Common.{◌∙◌, ap, arith, sym}
use Rattle.outside.proofs.Adding.{Adds-exit, Begins-none}
use Rattle.reports.specs.Added.{report_lists}
use Rattle.bt_levels.specs.Files.{number_of}
use Rattle.bt_levels.specs.Sound.{file_of}
use Rattle.join_rules.specs.Lists.{duplicates_lists}
use Rattle.join_rules.specs.Unique.{unique_of}
use Rattle.join_unique.specs.Tables.{no_bounds}
use Rattle.join_unique.proofs.NotUnique.{nothing-added, nothing-with}
use Rattle.join_unique.proofs.check.check_duplicates.Goals as goal

pub unique_of-unique-requires : goal.unique_of-unique-requires
unique_of-unique-requires g c =
    let index = c.requires.belong.index in
    (omega (arith, index.belongs.first, c.index-index.ensures, index.number), omega (arith, index.belongs.last, c.index-index.ensures, index.number))

pub returns-in-No-clause-lists : goal.returns-in-No-clause-lists
returns-in-No-clause-lists g c = λ names told.
    let case = c.args.at.case.now in
    nothing-added case names (number_of (file_of c.args.at.tree.now)) (ap (unique_of case) (sym c.index-index.ensures) ∙ sym c.unique_of-unique.ensures ∙ c.in-No.is) c.args.report.now

pub returns-in_err-later-clause-lists : goal.returns-in_err-later-clause-lists
returns-in_err-later-clause-lists g c = λ names told.
    let owed = duplicates_lists c.args.at.case.now names (number_of (file_of c.args.at.tree.now)) in
    Adds-exit report_lists c.from_residual.result _ c.args.report.now c.args.report.now owed c.from_residual.ensures.1 (Begins-none report_lists c.args.report.now owed)

pub returns-then-apart-clause-lists : goal.returns-then-apart-clause-lists
returns-then-apart-clause-lists g c = λ names told.
    let case = c.args.at.case.now in
    let none = c.no_row_is_second.ensures names (c.requires.hold names told) (c.requires.joined names told) (c.requires.apart names told c.if-apart.true) in
    nothing-with case names (number_of (file_of c.args.at.tree.now)) none c.args.report.now

pub returns-then-apart-clause-few : goal.returns-then-apart-clause-few
returns-then-apart-clause-few g c = λ names told. record {
  entries = _;
  wanted = (c.searches_go_in_steps.ensures names c.args.at.tree.now no_bounds (c.requires.hold names told).tree).wanted;
  few = omega arith;
}

pub returns-in-No-clause-few : goal.returns-in-No-clause-few
returns-in-No-clause-few g c = λ names told. record {
  entries = _;
  wanted = (c.searches_go_in_steps.ensures names c.args.at.tree.now no_bounds (c.requires.hold names told).tree).wanted;
  few = omega arith;
}

use Rattle.std.proofs.Common.{◌∙◌, ℕ, ap}
use Rattle.std.specs.Prelude.{Some}
use Rattle.outside.proofs.Adding.{Adds-exit, Begins-same}
use Rattle.reports.specs.Added.{doubt_at, joined, report_lists}
use Rattle.reports.specs.declared.places.Place.TheVariants.{Tuple}
use Rattle.reports.specs.declared.places.Reason.TheVariants.{U6}
use Rattle.bt_levels.specs.Files.{number_of}
use Rattle.bt_levels.specs.Sound.{file_of}
use Rattle.join_look_ups.proofs.Owed.{doubt-is}
use Rattle.join_look_ups.proofs.row_judge.RowJudge.add_doubt.Goals as goal

pub returns-in_err-unjudged : goal.returns-in_err-unjudged
returns-in_err-unjudged c =
    let owed = doubt_at (Tuple (number_of (file_of c.args.self.index.at.tree.now)) c.args.tid) (Some U6) in
    Adds-exit report_lists c.from_residual.result _ c.args.report.now c.unjudged.new.self owed c.from_residual.ensures.1
    (Begins-same report_lists c.args.report.now c.unjudged.new.self owed c.in_err-unjudged.ensures.err)

pub returns : goal.returns
returns c =
    c.in_ok-unjudged.ensures.ok
    ∙ doubt-is c.args.report.now (Tuple c.index.result c.args.tid)
    ∙ ap (λ (n : ℕ). joined c.args.report.now (doubt_at (Tuple n c.args.tid) (Some U6))) c.index.ensures

use Rattle.std.proofs.Common.{◌∙◌, ◌++◌, ◌∷◌, [], List, get_or, map, take, ap, sym, subst, arith, ◌+◌, ℕ}
use Rattle.std.proofs.lemmas.List.{map-append, take_all, take_more}
use Rattle.outside.proofs.Asking.{Passed-next, Passed-none}
use Rattle.reports.specs.Lists.{Lists}
use Rattle.bt_levels.specs.Files.{number_of}
use Rattle.bt_levels.specs.Sound.{file_of}
use Rattle.join_rules.specs.Lists.{indexed_lists}
use Rattle.bt_levels.specs.declared.sound.SoundTree.{SoundTree}
use Rattle.join_row_keys.specs.Joined.{HoldTogether}
use Rattle.heap_indexed.specs.Reads.{looking_reads}
use Rattle.std.proofs.lemmas.List.Sums.{sum_by-take-le, sum_by_more}
use Rattle.heap_indexed.proofs.check_all.probe_indexes.Goals as goal

pub index_report-requires-clause-hold : goal.index_report-requires-clause-hold
index_report-requires-clause-hold g c = λ names told.
    let tree : SoundTree = c.index-trees-j.result in
    subst (λ (t : SoundTree). HoldTogether names c.args.at.case.now c.args.at.heap.now t) (sym c.index-trees-j.is) ((c.requires.hold names (sym c.loop-j.invariant.asked.same ∙ told)).each c.loop-j.j tree (omega arith))

pub loop-j-preserved : goal.loop-j-preserved
loop-j-preserved g c =
    let inv = c.loop-j.invariant in
    let trees = c.args.at.trees.now in
    let tree : SoundTree = c.index-trees-j.result in
    record {
      reports = λ names told.
          let f : SoundTree → Lists = λ (t : SoundTree). indexed_lists c.args.at.case.now names (number_of (file_of t)) in
          c.in_ok-push_report.ensures
          ∙ (λ i. inv.reports names told i ++ c.in_ok-report.ensures.report names (inv.asked.same ∙ told) i ∷ [])
          ∙ ap (λ (t : SoundTree). map f (take c.loop-j.j trees) ++ f t ∷ []) c.index-trees-j.is
          ∙ sym (map-append f (take c.loop-j.j trees) (get_or trees c.loop-j.j tree ∷ []))
          ∙ ap (map f) (sym (take_more trees c.loop-j.j tree (omega arith)));
      asked = Passed-next inv.asked c.in_ok-report.ensures.asked;
      reads = λ names told.
          let f : SoundTree → ℕ = looking_reads names c.args.at.case.now c.args.at.heap.now in
          let here = ap f c.index-trees-j.is in
          let next = sum_by_more f trees c.loop-j.j tree (omega arith) in
          omega (arith, inv.reads names told, c.index_report.ensures.reads names (inv.asked.same ∙ told), here, next);
    }

pub returns-clause-reports : goal.returns-clause-reports
returns-clause-reports g c = λ names told.
    c.loop-j.invariant.reports names told
    ∙ ap (λ (ts : List SoundTree). map (λ (t : SoundTree). indexed_lists c.args.at.case.now names (number_of (file_of t))) ts) (take_all c.loop-j.j c.args.at.trees.now c.loop-j-test.false)

-- How often files are read

pub returns-in_err-report-clause-reads : goal.returns-in_err-report-clause-reads
returns-in_err-report-clause-reads g c = λ names told.
    let inv = c.loop-j.invariant in
    let trees = c.args.at.trees.now in
    let tree : SoundTree = c.index-trees-j.result in
    let f : SoundTree → ℕ = looking_reads names c.args.at.case.now c.args.at.heap.now in
    let here = ap f c.index-trees-j.is in
    let next = sum_by_more f trees c.loop-j.j tree (omega arith) in
    let few = sum_by-take-le f trees (c.loop-j.j + 1) in
    omega (arith, inv.reads names told, c.index_report.ensures.reads names (inv.asked.same ∙ told), here, next, few)

pub returns-in_err-push_report-clause-reads : goal.returns-in_err-push_report-clause-reads
returns-in_err-push_report-clause-reads g c = λ names told.
    let inv = c.loop-j.invariant in
    let trees = c.args.at.trees.now in
    let tree : SoundTree = c.index-trees-j.result in
    let f : SoundTree → ℕ = looking_reads names c.args.at.case.now c.args.at.heap.now in
    let here = ap f c.index-trees-j.is in
    let next = sum_by_more f trees c.loop-j.j tree (omega arith) in
    let few = sum_by-take-le f trees (c.loop-j.j + 1) in
    omega (arith, inv.reads names told, c.index_report.ensures.reads names (inv.asked.same ∙ told), here, next, few)

pub returns-clause-reads : goal.returns-clause-reads
returns-clause-reads g c = λ names told.
    let inv = c.loop-j.invariant in
    let few = sum_by-take-le (looking_reads names c.args.at.case.now c.args.at.heap.now) c.args.at.trees.now c.loop-j.j in
    omega (arith, inv.reads names told, few)

pub loop-j-init : goal.loop-j-init
loop-j-init g c = record {
  reports = λ names told. c.new-reports.ensures.items;
  asked = Passed-none;
  reads = λ names told. omega arith;
}

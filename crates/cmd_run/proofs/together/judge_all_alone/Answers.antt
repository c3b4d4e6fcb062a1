use Rattle.std.proofs.Common.{◌≡◌, ◌∙◌, List, [], ◌∷◌, ◌++◌, append_assoc, ap, arith, refl, sym, subst}
use Rattle.std.specs.Prelude.{All}
use Rattle.std.proofs.lemmas.List.Elements.{All-tail}
use Rattle.outside.proofs.Asking.{Passed-next, Passed-none}
use Rattle.bt_levels.specs.Files.{BelongsTo, IsFileOf}
use Rattle.bt_levels.specs.declared.files.TreeFile.{TreeFile}
use Rattle.cmd_run.proofs.TogetherLaws.{all-judged, none-of}
use Rattle.cmd_run.proofs.TreesLaws.{popped}
use Rattle.cmd_run.proofs.together.judge_all_alone.Goals as goal

pub loop-tree-preserved : goal.loop-tree-preserved
loop-tree-preserved g c =
    let case = c.args.case.now in
    let tree : TreeFile = c.in-Some.tree in
    let rest : List TreeFile = c.pop_front.new.self.items in
    let inv = c.loop-tree.invariant in
    let is : c.loop-tree.trees.items ≡ tree ∷ rest = popped c.loop-tree.trees.items rest c.pop_front.result tree c.pop_front.ensures.items c.in-Some.is in
    record {
      told = λ names told. All-tail (IsFileOf case names) tree rest (subst (All (IsFileOf case names)) is (inv.told names told));
      belongs = All-tail (BelongsTo case) tree rest (subst (All (BelongsTo case)) is inv.belongs);
      judged = λ names told.
          let before = inv.judged names told in
          record {
            done = before.done ++ tree ∷ [];
            is = before.is ∙ ap (λ (ts : List TreeFile). before.done ++ ts) is ∙ sym (append_assoc before.done (tree ∷ []) rest);
            were = c.in_ok-judge.ensures.alone names (inv.asked.same ∙ told) before.done before.were;
          };
      belong = c.in_ok-judge.ensures.belong;
      asked = Passed-next inv.asked c.in_ok-judge.ensures.asked;
    }

pub loop-tree-init : goal.loop-tree-init
loop-tree-init g c = record {
  told = c.requires.told;
  belongs = c.requires.belongs;
  judged = λ names told. record { done = []; is = refl; were = c.new-alone.ensures.none c.args.case.now names };
  belong = c.new-alone.ensures.belong c.args.case.now;
  asked = Passed-none;
}

pub returns-clause-alone : goal.returns-clause-alone
returns-clause-alone g c = λ names told.
    all-judged c.args.case.now names c.args.trees.items c.loop-tree.trees.items c.loop-tree.alone
    (none-of c.loop-tree.trees.items c.loop-tree.trees.len (omega (arith, c.loop-tree.trees.ok)) c.in_default.ensures.cases.0)
    (c.loop-tree.invariant.judged names told)

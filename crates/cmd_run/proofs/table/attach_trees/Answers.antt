use Rattle.std.proofs.Common.{◌≡◌, ◌≤◌, ◌∙◌, ◌+◌, ◌-◌, ◌<◌, ◌++◌, ◌∷◌, [], arith, length}
use Rattle.std.specs.Prelude.{All, None}
use Rattle.std.specs.Global.{Global}
use Rattle.std.specs.declared.collections.VecDeque.{VecDeque}
use Rattle.std.proofs.lemmas.Result.{err_from_is_err_and}
use Rattle.std.proofs.lemmas.List.Elements.{All-nil, All-push}
use Rattle.outside.proofs.Asking.{Passed-next, Passed-none}
use Rattle.bt_levels.specs.Files.{IsFileOf, refusal_of}
use Rattle.bt_levels.specs.declared.files.TreeFile.{TreeFile}
use Rattle.cmd_run.specs.Tables.{AreTreesBehind}
use Rattle.cmd_run.proofs.TreesLaws.{carried, first_tree, none_before, none_further, tells_first, tree_behind}
use Rattle.cmd_run.proofs.table.attach_trees.Goals as goal

pub loop-before-init : goal.loop-before-init
loop-before-init g c =
    let case = c.args.case.now in
    let start = c.args.indexes.start in
    record {
      trees = carried (AreTreesBehind case start (start - start)) c.new-trees.result.items [] c.new-trees.ensures.items (first_tree case start (start - start) (omega arith));
      told = λ names told. carried (All (IsFileOf case names)) c.new-trees.result.items [] c.new-trees.ensures.items (All-nil (IsFileOf case names));
      refusal = λ names told. none_before (λ k. refusal_of case names (start + k)) (start - start) (omega arith);
      asked = Passed-none;
    }

pub returns-in_err-tree-clause-refusal : goal.returns-in_err-tree-clause-refusal
returns-in_err-tree-clause-refusal g c names told =
    let p = err_from_is_err_and c.from_residual.result c.from_residual.ensures.1 in
    let start = c.args.indexes.start in
    let stop = c.args.indexes.end in
    let within : start ≤ c.loop-before.before = omega arith in
    let less : c.loop-before.before < stop = omega arith in
    rw (p.1, p.2) (tells_first (refusal_of c.args.case.now names) start c.loop-before.before within TreeFile (VecDeque TreeFile Global) stop _ less
    (c.loop-before.invariant.refusal names told) (c.in_err-tree.ensures.refusal names (c.loop-before.invariant.asked.same ∙ told)))

pub loop-before-preserved : goal.loop-before-preserved
loop-before-preserved g c =
    let case = c.args.case.now in
    let start = c.args.indexes.start in
    let before = c.loop-before.before in
    let tree : TreeFile = c.in_ok-tree.tree in
    let within : start ≤ before = omega arith in
    record {
      trees = carried (AreTreesBehind case start (before + 1 - start)) c.push_tree.new.trees.items (c.loop-before.trees.items ++ tree ∷ []) c.in_ok-push_tree.ensures
          (tree_behind case start before c.loop-before.trees.items tree within c.loop-before.invariant.trees c.in_ok-tree.ensures.number c.in_ok-tree.ensures.belong);
      told = λ names told. carried (All (IsFileOf case names)) c.push_tree.new.trees.items (c.loop-before.trees.items ++ tree ∷ []) c.in_ok-push_tree.ensures
          (All-push (IsFileOf case names) c.loop-before.trees.items tree (c.loop-before.invariant.told names told)
          (c.in_ok-tree.ensures.told names (c.loop-before.invariant.asked.same ∙ told)));
      refusal = λ names told. none_further (refusal_of case names) start before within (c.loop-before.invariant.refusal names told)
          (c.in_ok-tree.ensures.refusal names (c.loop-before.invariant.asked.same ∙ told));
      asked = Passed-next c.loop-before.invariant.asked c.in_ok-tree.ensures.asked;
    }

use Rattle.std.proofs.Common.{◌≡◌, ◌∙◌, ◌++◌, ◌∷◌, [], ◌+◌, List, length, ap, sym, subst, refl}
use Rattle.std.specs.Prelude.{All}
use Rattle.std.proofs.lemmas.List.{map-append, take_all, take_more}
use Rattle.std.proofs.lemmas.List.Elements.{All-push}
use Rattle.bt_levels.specs.declared.sound.SoundTree.{SoundTree}
use Rattle.bt_levels.specs.Sound.{index_columns}
use Rattle.reports.specs.Added.{nothing}
use Rattle.heap_rows.specs.RowCursor.{asked_at}
use Rattle.join_row_keys.specs.declared.keys.KeyedHeap.{KeyedHeap}
use Rattle.join_row_keys.specs.Rows.{AreAskedFrom, columns_in}
use Rattle.heap_indexed.specs.declared.work.IndexWork.{IndexWork}
use Rattle.heap_indexed.specs.Works.{IsInWork, IsOf, tree_of, trees_of}
use Rattle.heap_indexed.proofs.Columns.{asked-here, columns-count}
use Rattle.heap_indexed.proofs.check_all.new_works.Goals as goal

pub loop-j-preserved : goal.loop-j-preserved
loop-j-preserved c =
    let inv = c.loop-j.invariant in
    let case = c.args.at.case.now in
    let heap = c.args.at.heap.now in
    let trees = c.args.at.trees.now in
    let works : List IndexWork = c.loop-j.works.items in
    let j = c.loop-j.j in
    let tree : SoundTree = c.index-trees-j.result in
    let work : IndexWork = c.in_ok-work.work in
    let lt = c.loop-j-test.true in
    let pushed : c.push.new.self.items ≡ works ++ work ∷ [] = c.in_ok-push.ensures.items in
    let is : tree_of work ≡ tree = ap (λ (i : KeyedHeap). i.at.tree.now) c.in_ok-work.ensures.index in
    record {
      trees =
          ap trees_of pushed ∙ map-append tree_of works (work ∷ [])
          ∙ (λ i. inv.trees i ++ (is ∙ c.index-trees-j.is) i ∷ [])
          ∙ sym (take_more trees j tree lt);
      each =
          let here : IsOf case heap work.index = subst (IsOf case heap) (sym c.in_ok-work.ensures.index) (record { case_is = refl; heap_is = refl }) in
          subst (All (λ (w : IndexWork). IsOf case heap w.index)) (sym pushed)
          (All-push (λ (w : IndexWork). IsOf case heap w.index) works work inv.each here);
      first = c.in_ok-first.ensures ∙ (λ i. inv.first i + length (c.columns.ensures.lists i).specs + length (c.columns.ensures.lists i).more) ∙ sym (columns-count trees j tree c.index-trees-j.is lt);
      asked = λ cursor are.
          let P : IndexWork → Type 0 = λ (w : IndexWork). AreAskedFrom w.index.first (columns_in (index_columns (tree_of w))) (asked_at cursor) in
          let here : P work =
          subst (λ (i : KeyedHeap). AreAskedFrom i.first (columns_in (index_columns i.at.tree.now)) (asked_at cursor)) (sym c.in_ok-work.ensures.index)
          (asked-here trees j tree (asked_at cursor) c.loop-j.first c.index-trees-j.is lt inv.first are) in
          subst (All P) (sym pushed) (All-push P works work (inv.asked cursor are) here);
      work = λ names.
          let P : IndexWork → Type 0 = IsInWork names nothing nothing [] in
          subst (All P) (sym pushed) (All-push P works work (inv.work names) (c.in_ok-work.ensures.work names));
    }

pub returns-clause-works : goal.returns-clause-works
returns-clause-works c = record {
  trees = c.loop-j.invariant.trees ∙ take_all c.loop-j.j c.args.at.trees.now c.loop-j-test.false;
  each = c.loop-j.invariant.each;
}

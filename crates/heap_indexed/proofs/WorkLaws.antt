-- What follows of the work for each index of a heap.
use Rattle.std.proofs.Common.{◌≡◌, ◌∙◌, List, [], ◌∷◌, length, get_or, map, refl, ap, sym, subst, arith}
use Rattle.std.specs.Prelude.{All}
use Rattle.std.proofs.Math.ListN.{get_or-map}
use Rattle.std.proofs.lemmas.List.{length-map}
use Rattle.std.proofs.lemmas.List.Elements.{All-head, All-tail}
use Rattle.case_file.specs.Record.{CaseRecord}
use Rattle.reports.specs.Lists.{Lists}
use Rattle.bt_levels.specs.declared.sound.SoundTree.{SoundTree}
use Rattle.heap_table_check.specs.declared.files.SoundHeap.{SoundHeap}
use Rattle.join_row_keys.specs.declared.joined.IndexedTable.{IndexedTable}
use Rattle.join_row_keys.specs.declared.keys.KeyedHeap.{KeyedHeap}
use Rattle.heap_indexed.specs.declared.work.IndexWork.{IndexWork}
use Rattle.heap_indexed.specs.Works.{AreWorksOf, IsOf, indexes_of, tree_of, trees_of}
use Rattle.heap_indexed.proofs.Each.{same-each}

-- an index has one piece of work
pub works-many : (at : IndexedTable) (works : List IndexWork) → AreWorksOf at works → length works ≡ length at.trees.now
works-many at works are = sym (length-map works tree_of) ∙ ap length are.trees

trees-by : (works : List IndexWork) → map (λ (i : KeyedHeap). i.at.tree.now) (indexes_of works) ≡ trees_of works
trees-by [] = refl
trees-by (w ∷ works) = λ i. tree_of w ∷ trees-by works i

-- work that was done is for the same indexes
pub still-of : (at : IndexedTable) (old new : List IndexWork) → indexes_of new ≡ indexes_of old → AreWorksOf at old → AreWorksOf at new
still-of at old new same are = record {
  trees = sym (trees-by new) ∙ ap (map (λ (i : KeyedHeap). i.at.tree.now)) same ∙ trees-by old ∙ are.trees;
  each = same-each (IsOf at.case.now at.heap.now) old new same are.each;
}

-- what is so of each tree of a heap is so of the indexes in work
pub each-of : (P : CaseRecord → SoundHeap → SoundTree → Type 0) (at : IndexedTable) (works : List IndexWork) → AreWorksOf at works → All (P at.case.now at.heap.now) at.trees.now
    → All (λ (w : IndexWork). P w.index.at.case.now w.index.at.heap.now (tree_of w)) works
each-of P at works are all k d lt =
    let w : IndexWork = get_or works k d in
    let is : get_or at.trees.now k (tree_of d) ≡ tree_of w = ap (λ (ts : List SoundTree). get_or ts k (tree_of d)) (sym are.trees) ∙ get_or-map tree_of works k d in
    let many : length works ≡ length at.trees.now = works-many at works are in
    let here : P at.case.now at.heap.now (tree_of w) = subst (P at.case.now at.heap.now) is (all k (tree_of d) (omega (arith, lt, many))) in
    let of = are.each k d lt in
    subst (λ (heap : SoundHeap). P w.index.at.case.now heap (tree_of w)) (sym of.heap_is)
    (subst (λ (case : CaseRecord). P case at.heap.now (tree_of w)) (sym of.case_is) here)

-- lists that are had by the case and the tree of each
pub lists-of : (f : CaseRecord → SoundTree → Lists) (case : CaseRecord) (heap : SoundHeap) (works : List IndexWork) → All (λ (w : IndexWork). IsOf case heap w.index) works
    → map (λ (w : IndexWork). f w.index.at.case.now (tree_of w)) works ≡ map (f case) (trees_of works)
lists-of f case heap [] each = refl
lists-of f case heap (w ∷ works) each =
    let of = All-head (λ (v : IndexWork). IsOf case heap v.index) w works each in
    let rest = lists-of f case heap works (All-tail (λ (v : IndexWork). IsOf case heap v.index) w works each) in
    λ i. f (of.case_is i) (tree_of w) ∷ rest i

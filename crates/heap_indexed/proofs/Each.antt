-- What is in work for indexes, place by place.
use Rattle.std.proofs.Common.{◌≡◌, ◌∙◌, ◌≢◌, ◌⊎◌, ℕ, ◌+◌, ◌<◌, ◌≤◌, List, ◌++◌, inl, inr, drop, length, get_or, set, sym, ap, subst, arith}
use Rattle.std.specs.Prelude.{All, take}
use Rattle.std.proofs.lemmas.Bool.{cases_eq}
use Rattle.std.proofs.Math.ListN.{get_or-map}
use Rattle.std.proofs.Math.Seq.{map-set_same, take-append_seam}
use Rattle.std.proofs.lemmas.List.{get_or-set_same, get_or-set_other, length-map}
use Rattle.bt_levels.specs.declared.sound.SoundTree.{SoundTree}
use Rattle.join_row_keys.specs.declared.keys.KeyedHeap.{KeyedHeap}
use Rattle.heap_indexed.specs.declared.work.IndexWork.{IndexWork}
use Rattle.heap_indexed.specs.Works.{indexes_of, tree_of}

-- Places up to one: after it was changed

-- the places below one, and that one
pub done-set : (After : IndexWork → Type 0) (works : List IndexWork) (j : ℕ) (new : IndexWork) → j < length works → ((k : ℕ) (d : IndexWork) → k < j → After (get_or works k d)) → After new
    → (k : ℕ) (d : IndexWork) → k < j + 1 → After (get_or (set works j new) k d)
done-set After works j new within below here k d up = by (cases_eq k j)
  where
    by : (k ≡ j) ⊎ (k ≢ j) → After (get_or (set works j new) k d)
    by (inl e) = subst After (sym (ap (λ (i : ℕ). get_or (set works j new) i d) e ∙ get_or-set_same works j new d within)) here
    by (inr other) = subst After (sym (get_or-set_other works j k new d other)) (below k d (omega (arith, other)))

-- the places above it are as they were
pub above-set : (start works : List IndexWork) (j : ℕ) (new : IndexWork) → ((k : ℕ) (d : IndexWork) → j ≤ k → get_or works k d ≡ get_or start k d) → (k : ℕ) (d : IndexWork) → j + 1 ≤ k → get_or (set works j new) k d ≡ get_or start k d
above-set start works j new left k d up =
    let other : k ≢ j = λ e. absurd (omega (arith, e)) in
    get_or-set_other works j k new d other ∙ left k d (omega arith)

-- at the place all is as it was
pub still-before : (Before : IndexWork → Type 0) (start works : List IndexWork) (j : ℕ) (d : IndexWork) → ((k : ℕ) (e : IndexWork) → j ≤ k → get_or works k e ≡ get_or start k e) → j < length start → All Before start → Before (get_or works j d)
still-before Before start works j d left lt all = subst Before (sym (left j d (omega arith))) (all j d lt)

-- all places are below the end
pub all-done : (After : IndexWork → Type 0) (works : List IndexWork) (j : ℕ) → length works ≤ j → ((k : ℕ) (d : IndexWork) → k < j → After (get_or works k d)) → All After works
all-done After works j end below k d lt = below k d (omega (arith, lt, end))

-- what follows for each
pub each-map : (P Q : IndexWork → Type 0) (works : List IndexWork) → ((work : IndexWork) → P work → Q work) → All P works → All Q works
each-map P Q works f all k d lt = f (get_or works k d) (all k d lt)

-- Their indexes

-- the work for an index was changed, and not the index
pub indexes-set : (works : List IndexWork) (j : ℕ) (new d : IndexWork) → new.index ≡ (get_or works j d).index → indexes_of (set works j new) ≡ indexes_of works
indexes-set works j new d same = map-set_same (λ (w : IndexWork). w.index) works j new d same

pub same-many : (old new : List IndexWork) → indexes_of new ≡ indexes_of old → length new ≡ length old
same-many old new same =
    sym (length-map new (λ (w : IndexWork). w.index)) ∙ ap length same ∙ length-map old (λ (w : IndexWork). w.index)

-- what is so of their trees
pub by-tree : (P : SoundTree → Type 0) (old new : IndexWork) → new.index ≡ old.index → P (tree_of old) → P (tree_of new)
by-tree P old new same = subst P (sym (ap (λ (i : KeyedHeap). i.at.tree.now) same))

-- what is so of each index still is
pub same-each : (P : KeyedHeap → Type 0) (old new : List IndexWork) → indexes_of new ≡ indexes_of old → All (λ (w : IndexWork). P w.index) old → All (λ (w : IndexWork). P w.index) new
same-each P old new same all k d lt =
    let f : IndexWork → KeyedHeap = λ (w : IndexWork). w.index in
    let there : (get_or old k d).index ≡ (get_or new k d).index = sym (get_or-map f old k d) ∙ ap (λ (is : List KeyedHeap). get_or is k d.index) (sym same) ∙ get_or-map f new k d in
    subst P there (all k d (omega (arith, lt, same-many old new same)))

-- what a slice of all of a vector leaves behind
pub written-back : (n : ℕ) (new old : List IndexWork) → n ≡ length new → take n (new ++ drop (length new) old) ≡ new
written-back n new old is = ap (λ (m : ℕ). take m (new ++ drop (length new) old)) is ∙ take-append_seam new (drop (length new) old)

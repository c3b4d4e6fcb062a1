use Rattle.std.proofs.Common.{◌≡◌, ◌++◌, ◌∙◌, ℕ, List, ap, sym, arith, append_assoc}
use Rattle.std.proofs.lemmas.List.{append-nil}
use Rattle.outside.specs.Adds.{each_below, one_list}
use Rattle.rel_build.specs.Trees.{leaf_page, leaf_pages}
use Rattle.rel_build.proofs.Parts.{parts_next, parts_none}
use Rattle.rel_build.proofs.trees.push_leaves.Goals as goal

pub loop-k-init : goal.loop-k-init
loop-k-init c =
    sym (ap (λ (z : List ℕ). c.args.file.now.items ++ z) (parts_none (leaf_page c.args.key c.args.rows.now)) ∙ append-nil c.args.file.now.items)

pub loop-k-preserved : goal.loop-k-preserved
loop-k-preserved c =
    let f = leaf_page c.args.key c.args.rows.now in
    let k = c.loop-k.k in
    let old : List ℕ = c.args.file.now.items in
    c.in_ok-push_bytes.ensures
    ∙ ap (λ (page : List ℕ). c.loop-k.file.items ++ page) c.in_ok-page.ensures
    ∙ ap (λ (file : List ℕ). file ++ f k) c.loop-k.invariant
    ∙ append_assoc old (each_below one_list f k) (f k)
    ∙ ap (λ (z : List ℕ). old ++ z) (sym (parts_next f k))

pub returns : goal.returns
unfolding leaf_pages
returns c =
    let count = c.leaves_for-k-end.ensures.count in
    let end : c.loop-k.k ≡ c.leaves_for-k-end.result = omega arith in
    c.loop-k.invariant ∙ ap (λ (n : ℕ). c.args.file.now.items ++ each_below one_list (leaf_page c.args.key c.args.rows.now) n) (end ∙ count)

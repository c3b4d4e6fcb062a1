-- Block 0, and what is asked after it.
use Rattle.std.proofs.Common.{◌≡◌, ℕ, ◌∙◌, Bool, true, false, List, refl, sym, ap}
use Rattle.std.specs.Prelude.{is_none, ◌&&◌, ◌==◌, Option, Some, None}
use Rattle.page_layout.specs.declared.rules.Rule.{Rule}
use Rattle.page_layout.specs.declared.rules.Rule.TheVariants.{M1}
use Rattle.bt_meta.specs.Pages.{meta_of}
use Rattle.reports.specs.Added.{doubt_at, finding_at, joined, report_lists}
use Rattle.bt_pages.specs.Trees.{Tree}
use Rattle.bt_pages.specs.Found.{block_place}
use Rattle.bt_levels.specs.Lists.{blocks_lists, first_doubt, first_lists, first_rule, is_first_quiet, lists_where, old_version, other_lists}

rule-none : (page : List ℕ) → first_rule 0 page ≡ Some M1
unfolding first_rule
rule-none page = refl

doubt-none : (page : List ℕ) → first_doubt 0 page ≡ None
unfolding first_doubt
doubt-none page = ap (λ (o : Option Rule). old_version (is_none o) ((meta_of page).version == 4)) (rule-none page)

-- an index without blocks
pub first-none : (tree : Tree) → tree.blocks ≡ 0 → joined (finding_at (block_place tree 0) (Some M1)) (doubt_at (block_place tree 0) None) ≡ first_lists tree
first-none tree none =
    (λ k. joined (finding_at (block_place tree 0) (sym (rule-none (tree.block 0)) k)) (doubt_at (block_place tree 0) (sym (doubt-none (tree.block 0)) k)))
    ∙ (λ k. joined (finding_at (block_place tree 0) (first_rule (sym none k) (tree.block 0))) (doubt_at (block_place tree 0) (first_doubt (sym none k) (tree.block 0))))

pub quiet-none : (tree : Tree) → tree.blocks ≡ 0 → false ≡ is_first_quiet tree
quiet-none tree none =
    (λ k. is_none (sym (rule-none (tree.block 0)) k) && is_none (first_doubt 0 (tree.block 0)))
    ∙ (λ k. is_none (first_rule (sym none k) (tree.block 0)) && is_none (first_doubt (sym none k) (tree.block 0)))

-- the other blocks are asked where it is quiet
pub blocks-quiet : (tree : Tree) → true ≡ is_first_quiet tree → joined (first_lists tree) (other_lists tree) ≡ blocks_lists tree
unfolding blocks_lists
blocks-quiet tree quiet = ap (λ (q : Bool). joined (first_lists tree) (lists_where q (other_lists tree))) quiet

pub blocks-loud : (tree : Tree) → false ≡ is_first_quiet tree → first_lists tree ≡ blocks_lists tree
unfolding blocks_lists
blocks-loud tree loud =
    sym (report_lists.with_none (first_lists tree)) ∙ ap (λ (q : Bool). joined (first_lists tree) (lists_where q (other_lists tree))) loud

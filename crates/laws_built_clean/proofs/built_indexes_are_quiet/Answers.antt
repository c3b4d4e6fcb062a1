use Rattle.std.proofs.Common.{ℕ, ap, ◌∙◌, subst}
use Rattle.std.specs.Prelude.{Option}
use Rattle.std.specs.List.{All}
use Rattle.page_layout.specs.Page.{page_rule_of}
use Rattle.page_layout.specs.declared.page.PageKind.TheVariants.{Meta}
use Rattle.page_write.proofs.Reading.{meta_rules}
use Rattle.bt_levels.specs.Broken.{BreaksTree}
use Rattle.bt_levels.specs.Index.{index_of, tree_lists, tree_of}
use Rattle.laws_built_index.specs.Sizes.{index_tree}
use Rattle.laws_built_index.specs.Trees.{meta_in}
use Rattle.laws_built_clean.proofs.Quiet.{quiet}
use Rattle.laws_built_clean.proofs.built_indexes_are_quiet.Goals as goal

pub returns : goal.returns
returns c case names n es may few same short =
    let specs = (index_of case n).keys in
    let more = (index_of case n).more in
    let tree = tree_of case names n in
    let file = c.built_files_are_sound.ensures specs more es tree.blocks tree.block may few same in
    let keeps = c.built_files_keep_the_rules.ensures specs more es tree.blocks tree.block may few same in
    let fit = c.index_trees_may_be_laid.ensures specs more es may few in
    let first = ap (page_rule_of Meta) (same.each 0 keeps.some) ∙ meta_rules (meta_in (index_tree specs more es)) in
    let judged = c.indexes_are_judged.ensures case names n in
    quiet tree keeps file.rules first (λ b some inside. let w = file.fresh.untouched b some inside in (w.used, w.alive))
    (tree_lists case names n) (subst (λ (long : Option ℕ). All (λ f. BreaksTree (tree_of case names n) long f.rule f.place) (tree_lists case names n).findings) short judged.sound) judged.doubts

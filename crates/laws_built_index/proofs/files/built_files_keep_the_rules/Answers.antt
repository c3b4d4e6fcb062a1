use Rattle.std.proofs.Common.{◌≡◌, ◌<◌, ℕ, refl, sym, subst, arith}
use Rattle.bt_image.specs.Pages.{KeepsTreeRules}
use Rattle.laws_built_index.specs.Sizes.{index_tree}
use Rattle.laws_built_index.specs.Trees.{built_block}
use Rattle.laws_built_index.proofs.Keys.{HaveOrders, keyed}
use Rattle.laws_built_index.proofs.PageRules.{HaveReadings}
use Rattle.laws_built_index.proofs.TreeRules.{keeps_rules}
use Rattle.laws_built_index.proofs.files.built_files_keep_the_rules.Goals as goal

pub returns : goal.returns
returns c specs more es blocks block may few same =
    let o = c.key_orders_are_total.ensures in
    let laws : HaveOrders = record { column = o.column; keys = o.keys; order = c.keys_are_searchable.ensures.order; same_key = o.same_key } in
    let seps = c.laid_separators_mean.ensures in
    let readings : HaveReadings specs more =
    record {
      entries = c.laid_items_mean.ensures specs more;
      high_key = λ s fits. seps.high_key specs more 0 s (omega arith) fits;
      inner = λ down s small fits. seps.inner specs more down s small fits;
      first = λ down small. seps.first specs more down small;
      meaning = λ down s small fits. seps.meaning specs more down s small fits;
      nothing = λ down small. seps.nothing specs more down small;
      exact = λ spot page i item h. let e = c.item_rules_are_exact.ensures.read specs more spot page i item h in (e.0, e.1);
    } in
    let x = index_tree specs more es in
    let each : (b : ℕ) → b < (index_tree specs more es).blocks → block b ≡ built_block specs more (index_tree specs more es) b = λ b inside. same.each b (subst (λ (n : ℕ). b < n) (sym same.count) inside) in
    let file = c.built_files_are_sound.ensures specs more es (index_tree specs more es).blocks block may few (record { count = refl; each = each }) in
    subst (λ (n : ℕ). KeepsTreeRules specs more n block) (sym same.count)
    (keeps_rules specs more readings x block es (c.index_trees_may_be_laid.ensures specs more es may few) each file (keyed laws specs) (omega arith) refl (λ p fit. c.built_bytes_mean.ensures.page specs more p fit))

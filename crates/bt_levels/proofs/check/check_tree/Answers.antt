use Rattle.std.proofs.Common.{◌≡◌, ◌≤◌, ◌∙◌, List, length, refl, sym, subst}
use Rattle.std.specs.Prelude.{All, IsSome, IfSome}
use Rattle.key_orders.specs.declared.columns.KeySpec.{KeySpec}
use Rattle.key_orders.specs.declared.more.MoreSpec.{MoreSpec}
use Rattle.key_orders.specs.Types.{HasAlignment}
use Rattle.key_attrs.specs.Keyed.{key_types, more_types}
use Rattle.bt_level_check.specs.Shape.{IsShapeOf}
use Rattle.bt_levels.specs.Files.{number_of}
use Rattle.bt_levels.specs.Index.{index_of, tree_of}
use Rattle.bt_levels.proofs.Keys.{aligned-keys, aligned-more, few-keys, few-more, index-has}
use Rattle.bt_levels.proofs.Sounds.{holds-from, none-found, same_law}
use Rattle.bt_levels.proofs.check.check_tree.Goals as goal

pub returns-clause-holds : goal.returns-clause-holds
returns-clause-holds g c names told =
    let case = c.args.case.now in
    let n = number_of c.args.at in
    let some = subst IsSome (sym c.in-Some.is) refl in
    let judged = c.indexes_are_judged.ensures case names n in
    let shape = subst (λ o. IfSome o (IsShapeOf (tree_of case names n))) c.in-Some.is (c.in_ok-shape.ensures.shape names told) in
    let keys = c.in_ok-specs.ensures ∙ index-has (λ i. i.keys) case n _ c.index_keys.ensures in
    let more = c.in_ok-more.ensures ∙ index-has (λ i. i.more) case n _ c.index_more.ensures in
    let kept = judged.kept ((c.in_ok-shape.ensures.quiet names told).0 some) in
    let tree = tree_of case names n in
    let same = same_law tree.specs (c.key_orders_are_total.ensures.same_key tree.specs) in
    let local = c.kept_rules_make_a_sound_image.ensures tree.specs tree.more tree.blocks tree.block kept.pages in
    holds-from case names _ (λ i. record { specs = keys i; more = more i }) (c.requires.told names told) c.requires.belong kept (none-found tree same local kept) shape

pub returns-clause-sound : goal.returns-clause-sound
returns-clause-sound g c =
    let case = c.args.case.now in
    let n = number_of c.args.at in
    let keys = c.in_ok-specs.ensures ∙ index-has (λ i. i.keys) case n _ c.index_keys.ensures in
    let more = c.in_ok-more.ensures ∙ index-has (λ i. i.more) case n _ c.index_more.ensures in
    record { number = refl; belongs = c.requires.belong; columns = λ i. record { specs = keys i; more = more i } }

pub invariant_of-result : goal.invariant_of-result
invariant_of-result g c =
    let case = c.args.case.now in
    let n = number_of c.args.at in
    let keys : c.in_ok-specs.specs.items ≡ (index_of case n).keys = c.in_ok-specs.ensures ∙ index-has (λ i. i.keys) case n _ c.index_keys.ensures in
    let more : c.in_ok-more.more.items ≡ (index_of case n).more = c.in_ok-more.ensures ∙ index-has (λ i. i.more) case n _ c.index_more.ensures in
    record {
      few = subst (λ (k : List KeySpec). length k ≤ 8) (sym keys) (few-keys case n c.sound.ensures c.requires.belong.first c.requires.belong.last);
      few_more = subst (λ (k : List MoreSpec). length k ≤ 24) (sym more) (few-more case n c.sound.ensures c.requires.belong.first c.requires.belong.last);
      aligned = subst (λ (k : List KeySpec). All HasAlignment (key_types k)) (sym keys) (aligned-keys case n c.sound.ensures c.requires.belong.first c.requires.belong.last);
      aligned_more = subst (λ (k : List MoreSpec). All HasAlignment (more_types k)) (sym more) (aligned-more case n c.sound.ensures c.requires.belong.first c.requires.belong.last);
    }

use Rattle.std.proofs.Common.{List, length, ◌≤◌, sym, subst, ◌∙◌}
use Rattle.std.specs.Prelude.{All}
use Rattle.key_orders.specs.declared.columns.KeySpec.{KeySpec}
use Rattle.key_orders.specs.declared.more.MoreSpec.{MoreSpec}
use Rattle.key_orders.specs.Types.{HasAlignment}
use Rattle.key_attrs.specs.Keyed.{key_types, more_types}
use Rattle.bt_levels.proofs.Keys.{aligned-keys, aligned-more, few-keys, few-more, index-has}
use Rattle.join_row_entries.proofs.index.columns_at.Goals as goal

pub new-requires-clause-few : goal.new-requires-clause-few
new-requires-clause-few c =
    subst (λ (keys : List KeySpec). length keys ≤ 8) (sym (index-has (λ i. i.keys) c.args.case.now c.args.n _ c.index_keys.ensures)) (few-keys c.args.case.now c.args.n c.sound.ensures c.requires.first c.requires.last)

pub new-requires-clause-aligned : goal.new-requires-clause-aligned
new-requires-clause-aligned c =
    subst (λ (keys : List KeySpec). All HasAlignment (key_types keys)) (sym (index-has (λ i. i.keys) c.args.case.now c.args.n _ c.index_keys.ensures)) (aligned-keys c.args.case.now c.args.n c.sound.ensures c.requires.first c.requires.last)

pub new-requires-clause-aligned_more : goal.new-requires-clause-aligned_more
new-requires-clause-aligned_more c =
    subst (λ (more : List MoreSpec). All HasAlignment (more_types more)) (sym (index-has (λ i. i.more) c.args.case.now c.args.n _ c.index_more.ensures)) (aligned-more c.args.case.now c.args.n c.sound.ensures c.requires.first c.requires.last)

pub new-requires-clause-few_more : goal.new-requires-clause-few_more
new-requires-clause-few_more c =
    subst (λ (more : List MoreSpec). length more ≤ 24) (sym (index-has (λ i. i.more) c.args.case.now c.args.n _ c.index_more.ensures)) (few-more c.args.case.now c.args.n c.sound.ensures c.requires.first c.requires.last)

pub returns : goal.returns
returns c = λ i. record {
  specs = (c.new.ensures.specs ∙ index-has (λ i. i.keys) c.args.case.now c.args.n _ c.index_keys.ensures) i;
  more = (c.new.ensures.more ∙ index-has (λ i. i.more) c.args.case.now c.args.n _ c.index_more.ensures) i;
}

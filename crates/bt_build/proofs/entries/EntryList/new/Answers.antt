use Rattle.std.proofs.Common.{◌∙◌, ◌++◌, ap}
use Rattle.key_attrs.specs.Keyed.{more_types}
use Rattle.bt_build.proofs.KeptLaws.{none_kept}
use Rattle.bt_build.proofs.entries.EntryList.new.Goals as goal

pub invariant_of-result : goal.invariant_of-result
invariant_of-result c =
    none_kept c.args.specs.now _ c.args.more.now _ _ _ _ c.requires c.in_ok-specs.ensures c.in_ok-more.ensures
    (c.in_ok-add_more_types.ensures ∙ ap (λ w. w ++ more_types c.args.more.now) c.in_ok-types.ensures) c.new-3.ensures.items

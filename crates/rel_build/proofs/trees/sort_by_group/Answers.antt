use Rattle.std.proofs.Common.{rules}
use Rattle.std.proofs.lemmas.List.Sorted.{IsNonDecreasingBy-from_sort_by_key, answers_always}
use Rattle.rel_build.specs.declared.rows.Row.{Row}
use Rattle.rel_build.proofs.Groups.{in_groups}
use Rattle.rel_build.proofs.trees.sort_by_group.Goals as goal

pub returns-clause-order : goal.returns-clause-order
returns-clause-order c =
    in_groups c.args.rows.now.items c.sort_by_key.new.self.items
    (IsNonDecreasingBy-from_sort_by_key (λ (row : Row). row.group) _ c.in_ok-sort_by_key.ensures.sorted (λ a r q k. search rules))
    (c.in_ok-sort_by_key.ensures.stable (λ (row : Row). row.group) (answers_always _ _ _ (λ f a r q k. search rules)))
    c.in_ok-sort_by_key.ensures.permutation
    c.requires

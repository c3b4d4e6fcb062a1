use Rattle.std.proofs.Common.{◌∙◌, ◌<◌, ◌^◌, ℕ, List, nat_eq, sym, subst}
use Rattle.std.specs.Prelude.{All, Contains}
use Rattle.std.proofs.lemmas.List.Elements.{All-contains, All-contains_itself, All-weaker}
use Rattle.std.proofs.lemmas.List.Filters.{dedup_is}
use Rattle.std.proofs.lemmas.List.Sorted.{All-permutation}
use Rattle.bt_levels.specs.Sound.{specs_of}
use Rattle.join_unique.proofs.Done.{few-looks-done, later-is, looks-done}
use Rattle.join_unique.proofs.Fitting.{later-listed}
use Rattle.join_unique.proofs.Sorting.{deduped-from}
use Rattle.join_unique.proofs.check.later_rows.Goals as goal

pub group_rows-requires-clause-hold : goal.group_rows-requires-clause-hold
group_rows-requires-clause-hold g c = λ names told. c.requires.hold names (sym c.roots_of.ensures.asked.same ∙ told)

pub returns-clause-tids : goal.returns-clause-tids
returns-clause-tids g c =
    let sorted = c.sort_unstable.new.self.items in
    let ns = c.dedup.new.self.items in
    let once = dedup_is nat_eq sorted ns c.dedup.ensures.filtered in
    let all : All (λ (n : ℕ). n < 2 ^ 48) sorted = All-permutation (λ (n : ℕ). n < 2 ^ 48) c.into_later-numbers.result.items sorted c.sort_unstable.ensures.permutation c.into_later-numbers.ensures.tids in
    All-weaker (Contains ns) (λ (n : ℕ). n < 2 ^ 48)
    (λ n among. All-contains (λ (m : ℕ). m < 2 ^ 48) sorted n all (deduped-from sorted n (subst (λ (xs : List ℕ). Contains xs n) once among)))
    ns (All-contains_itself ns)

pub returns-clause-lists : goal.returns-clause-lists
returns-clause-lists g c = λ names told.
    let at = c.args.at in
    let case = at.case.now in
    let hold = c.requires.hold names told in
    let ended = c.in_ok-group.ensures.done names (c.roots_of.ensures.asked.same ∙ told) in
    later-listed names at c.args.unique c.in_ok-roots.roots c.requires.belong hold c.sound.ensures c.requires.kind
    (c.rows_are_live_tuples.ensures.live case names) (c.rows_are_live_tuples.ensures.rise case names) (c.rows_are_live_tuples.ensures.exact case names c.sound.ensures hold.quiet) (c.requires.joined names told)
    (c.key_orders_are_total.ensures.same_key (specs_of at.tree.now)) (c.in_ok-roots.ensures.roots names told) ended.entries ended.wanted
    c.into_later-numbers.result.items c.sort_unstable.new.self.items c.dedup.new.self.items
    (c.into_later-numbers.ensures.later ∙ later-is names at c.args.unique c.in_ok-roots.roots ended.entries _ ended.is)
    c.sort_unstable.ensures.permutation c.sort_unstable.ensures.sorted (dedup_is nat_eq c.sort_unstable.new.self.items c.dedup.new.self.items c.dedup.ensures.filtered)

pub returns-clause-few : goal.returns-clause-few
returns-clause-few g c = λ names told.
    few-looks-done names c.args.at c.args.unique c.in_ok-roots.roots c.in_ok-group.group c.looks-looks.result c.looks-looks.ensures
    (c.in_ok-group.ensures.done names (c.roots_of.ensures.asked.same ∙ told))

pub returns-clause-looks : goal.returns-clause-looks
returns-clause-looks g c = λ names told.
    looks-done names c.args.at c.args.unique c.in_ok-roots.roots c.in_ok-group.group c.looks-looks.result c.looks-looks.ensures
    (c.in_ok-roots.ensures.roots names told) (c.in_ok-group.ensures.done names (c.roots_of.ensures.asked.same ∙ told))

-- What is counted on the levels of an index: the right halves, and the half-dead leaves.
use Rattle.std.specs.Prelude.{◌==◌, ℕ, Bool, true, false, cond, List, length}
use Rattle.std.specs.List.{filter}
use Rattle.laws_search.specs.Probe.{halves_down}
use Rattle.laws_search.specs.Tree.{Index, chain_of}
use Rattle.laws_levels.specs.Rules.{entry_at}

-- what a page adds to a count: one, if it is counted
abbrev pub one_if : Bool → ℕ
one_if true = 1
one_if false = 0

-- how many pages are right halves, on all levels from the root's down to the leaves. Without a root there are no levels
abbrev pub right_halves_in : {S E : Type 0} → Index S E → ℕ
right_halves_in x = cond (x.root == 0) 0 (halves_down x x.level 0)

-- how many of these blocks have a half-dead page
abbrev pub half_dead_among : {S E : Type 0} → Index S E → List ℕ → ℕ
half_dead_among x c = length (filter (λ b. (x.page b).half_dead) c)

-- how many leaves are half-dead, in the chain of the lowest level
abbrev pub half_dead_in : {S E : Type 0} → Index S E → ℕ
half_dead_in x = cond (x.root == 0) 0 (half_dead_among x (chain_of x (entry_at x x.level)))

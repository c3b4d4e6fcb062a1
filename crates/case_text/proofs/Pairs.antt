-- Pairs and values that are put one behind the other.
use Rattle.std.proofs.Common.{◌≡◌, List, [], ◌∷◌, ◌++◌, map, refl, ap, ◌∙◌, append_assoc}
use Rattle.toml.specs.Data.{Members}
use Rattle.toml.specs.declared.value.Value.{Value}
use Rattle.toml.specs.View.{view}
use Rattle.case_text.specs.Written.{Pair, with_member, with_pairs}

-- the pairs of one list, then those of another
pub pairs_append : (xs ys : List Pair) (ms : Members) → with_pairs (xs ++ ys) ms ≡ with_pairs ys (with_pairs xs ms)
pairs_append [] ys ms = refl
pairs_append (x ∷ xs) ys ms = pairs_append xs ys (with_member x.0 x.1 ms)

pub view_push : (vs : List Value) (v : Value) → map view (vs ++ v ∷ []) ≡ map view vs ++ view v ∷ []
view_push [] v = refl
view_push (x ∷ vs) v = ap (λ ds. view x ∷ ds) (view_push vs v)

pub ruleset pair_laws = (pairs_append)

pub ruleset push_laws = (view_push, append_assoc)

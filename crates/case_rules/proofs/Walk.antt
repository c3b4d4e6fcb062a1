use Rattle.std.proofs.Common.{◌≡◌, ℕ, ◌+◌, ◌<◌, List, [], ◌∷◌, ◌++◌, length, get_or, drop, map, sym, ap, ◌∙◌, append_assoc}
use Rattle.std.proofs.lemmas.List.{map-append, drop_more}
use Rattle.toml.specs.declared.value.Value.{Value}
use Rattle.toml.specs.Data.{Data}
use Rattle.toml.specs.View.{view}
use Rattle.case_rules.specs.declared.spots.Spot.{Spot as CodeSpot}
use Rattle.case_rules.specs.Spots.{Spot, spot_view, spots_view, flat_map_from}

pub spots_view-add : (ss : List CodeSpot) (s : CodeSpot) → spots_view (ss ++ s ∷ []) ≡ spots_view ss ++ spot_view s ∷ []
unfolding spots_view
spots_view-add ss s = map-append spot_view ss (s ∷ [])

pub ruleset spots_view_laws = (spots_view-add)

-- one value on in the walk over an array
pub next_step : (f : ℕ → Data → List Spot) (k : ℕ) (vs : List Value) (v : Value) (old new total : List Spot)
    → k < length vs → v ≡ get_or vs k v
    → old ++ flat_map_from f k (map view (drop k vs)) ≡ total
    → new ≡ old ++ f k (view v)
    → new ++ flat_map_from f (k + 1) (map view (drop (k + 1) vs)) ≡ total
next_step f k vs v old new total within is before added =
    let rest : List Spot = flat_map_from f (k + 1) (map view (drop (k + 1) vs)) in
    let here : drop k vs ≡ v ∷ drop (k + 1) vs = drop_more vs k v within ∙ ap (λ x. x ∷ drop (k + 1) vs) (sym is) in
    ap (λ x. x ++ rest) added ∙ append_assoc old (f k (view v)) rest
    ∙ ap (λ ws. old ++ flat_map_from f k (map view ws)) (sym here) ∙ before

-- Whatever the order of the entries, the rows that were met are those with an entry.
use Rattle.std.proofs.Common.{◌≡◌, Bool, true, false, List, [], ◌∷◌, refl, ◌∙◌}
use Rattle.std.specs.Prelude.{not, cond, ◌&&◌, ◌||◌, All, filter}
use Rattle.std.specs.List.{list_any}
use Rattle.std.proofs.lemmas.List.Elements.{All-head, All-tail}
use Rattle.key_orders.specs.declared.Tid.{Tid}
use Rattle.join_slots.specs.Met.{Keys, Mets, Keyed, same_tid, is_key, meets, met_by, met_after, has_entry, has_none, is_unmet, none_met, IsKept}

or_false : (a : Bool) → a ≡ (a || false)
or_false true = refl
or_false false = refl

or_assoc : (a b c : Bool) → ((a || b) || c) ≡ (a || (b || c))
or_assoc true b c = refl
or_assoc false b c = refl

pub met_after_is : (keys : Keys) (es : List Keyed) (met : Mets) (tid : Tid)
    → met_after keys es met tid ≡ (met tid || list_any (λ e. meets keys e tid) es)
unfolding met_by
met_after_is keys [] met tid = or_false (met tid)
met_after_is keys (e ∷ es) met tid =
    met_after_is keys es (met_by keys met e) tid ∙ or_assoc (met tid) (meets keys e tid) (list_any (λ e. meets keys e tid) es)

any_is_entry : (keys : Keys) (row : Keyed) → IsKept keys row → (es : List Keyed)
    → list_any (λ e. meets keys e row.tid) es ≡ has_entry es row
any_is_entry keys row kept [] = refl
any_is_entry keys row kept (e ∷ es) =
    (λ i. (same_tid row.tid e.tid && is_key e.key (kept i)) || any_is_entry keys row kept es i)

pub met_if_entry : (keys : Keys) (es : List Keyed) (row : Keyed) → IsKept keys row
    → met_after keys es none_met row.tid ≡ has_entry es row
met_if_entry keys es row kept = met_after_is keys es none_met row.tid ∙ any_is_entry keys row kept es

pub unmet_are_missing : (keys : Keys) (es rows : List Keyed) → All (IsKept keys) rows
    → filter (is_unmet (met_after keys es none_met)) rows ≡ filter (has_none es) rows
unmet_are_missing keys es [] all = refl
unmet_are_missing keys es (r ∷ rs) all =
    let here = met_if_entry keys es r (All-head (IsKept keys) r rs all) in
    let rest = unmet_are_missing keys es rs (All-tail (IsKept keys) r rs all) in
    (λ i. cond (not (here i)) (r ∷ rest i) (rest i))

-- The values of an entry, as they are read to be laid.
use Rattle.std.proofs.Common.{◌≡◌, ◌+◌, ◌∙◌, ℕ, List, [], ◌∷◌, ◌++◌, length, map, take, drop, sym, ap, subst, arith}
use Rattle.std.specs.List.{AllByRecursion, flat_map}
use Rattle.std.proofs.lemmas.List.{take-append-drop}
use Rattle.key_orders.specs.declared.columns.ColType.{ColType}
use Rattle.key_orders.specs.declared.columns.KeySpec.{KeySpec}
use Rattle.key_orders.specs.declared.columns.Value.{Value}
use Rattle.key_orders.specs.declared.columns.ValueRef.{ValueRef}
use Rattle.key_orders.specs.declared.more.MoreSpec.{MoreSpec}
use Rattle.key_orders.specs.Values.{value_shown}
use Rattle.key_storage.specs.Stored.{key_read, stored_value, values_read}
use Rattle.key_storage.proofs.StoredLaws.{values_back}
use Rattle.key_storage.proofs.RowLaws.{read_there}
use Rattle.page_write.specs.Bodies.{IsShortEnough, MayAllStand}
use Rattle.laws_built_index.specs.Items.{entry_types}
use Rattle.bt_build.specs.declared.entries.Place.{Place}
use Rattle.bt_build.specs.Kept.{IsKept, entry_at}
use Rattle.bt_build.proofs.SortedLaws.{behind_count}

pub stand_length : (cs : List ColType) (vs : List Value) → MayAllStand cs vs → length vs ≡ length cs
stand_length [] [] stand = λ i. 0
stand_length [] (v ∷ vs) stand = absurd stand
stand_length (c ∷ cs) [] stand = absurd stand
stand_length (c ∷ cs) (v ∷ vs) stand = let rest = stand_length cs vs stand.1 in omega (arith, rest)

stand_short : (cs : List ColType) (vs : List Value) → MayAllStand cs vs → AllByRecursion IsShortEnough vs
stand_short [] [] stand = tt
stand_short [] (v ∷ vs) stand = absurd stand
stand_short (c ∷ cs) [] stand = absurd stand
stand_short (c ∷ cs) (v ∷ vs) stand = (stand.0.short, stand_short cs vs stand.1)

shown_short : (refs : List ValueRef) → AllByRecursion IsShortEnough (map value_shown refs) → AllByRecursion (λ v. IsShortEnough (value_shown v)) refs
shown_short [] short = tt
shown_short (r ∷ refs) short = (short.0, shown_short refs short.1)

pub refs_short : (cs : List ColType) (vs : List Value) (refs : List ValueRef) → map value_shown refs ≡ vs → MayAllStand cs vs
    → AllByRecursion (λ v. IsShortEnough (value_shown v)) refs
refs_short cs vs refs is stand =
    shown_short refs (subst (λ (ws : List Value). AllByRecursion IsShortEnough ws) (sym is) (stand_short cs vs stand))

pub all_values : (specs : List KeySpec) (ms : List MoreSpec) (arena : List ℕ) (p : Place) → IsKept specs ms arena p
    → values_read (length (entry_types specs ms)) (drop (p.at + 1) arena)
    ≡ (entry_at specs arena p).entry.values ++ (entry_at specs arena p).more
all_values specs ms arena p kept =
    let lies = kept.lies in
    let read : List Value = key_read (drop p.at arena) in
    let whole : take (length specs) read ++ drop (length specs) read ≡ read = take-append-drop (length specs) read in
    let same : read ≡ lies.key = read_there arena p.at lies in
    let count : length lies.key ≡ length (entry_types specs ms) =
    sym (ap length (whole ∙ same)) ∙ stand_length (entry_types specs ms) (take (length specs) read ++ drop (length specs) read) kept.laid.stand in
    ap (values_read (length (entry_types specs ms))) (behind_count arena p.at lies)
    ∙ ap (λ (m : ℕ). values_read m (flat_map stored_value lies.key ++ lies.rest)) (sym count)
    ∙ values_back lies.key lies.rest lies.storable ∙ sym same ∙ sym whole

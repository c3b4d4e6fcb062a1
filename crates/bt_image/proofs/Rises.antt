-- The entries of a leaf rise, and end with the key of its last item.
use Rattle.std.proofs.Common.{◌≡◌, ◌≢◌, ℕ, zero, suc, ◌+◌, ◌-◌, ◌<◌, ◌≤◌, Bool, true, false, List, [], ◌∷◌, ◌++◌, length, refl, ap, sym, subst, ◌∙◌, arith}
use Rattle.std.specs.Prelude.{Option, Some, None, slice_get, slice_index_or}
use Rattle.std.specs.List.{AllAdjacentBelow, flat_map}
use Rattle.std.specs.Ordering.{is_lt, ordering_then}
use Rattle.std.specs.declared.cmp.Ordering.{Ordering}
use Rattle.std.specs.declared.cmp.Ordering.TheVariants.{Equal}
use Rattle.std.proofs.lemmas.Bool.{not-false, or_parts}
use Rattle.laws_search.specs.Keys.{Entry, Separator, compare_values, as_separator}
use Rattle.key_orders.specs.declared.columns.KeySpec.{KeySpec}
use Rattle.key_orders.specs.declared.columns.Value.{Value}
use Rattle.key_orders.specs.declared.Tid.{Tid}
use Rattle.key_orders.specs.Keys.{columns_of, tid_order}
use Rattle.key_orders.specs.Scans.{order_of}
use Rattle.bt_tuples.specs.Items.{Item, Pivot, Plain, Posting}
use Rattle.bt_tuples.specs.Rules.{are_not_rising}
use Rattle.bt_image.specs.Image.{keys_in, numbers_from}
use Rattle.bt_tuples.specs.Keys.{first_key, last_key, last_tid}
use Rattle.bt_image.specs.Pages.{is_key_below}

-- the values of a key are equal to themselves
abbrev pub AreSame : List KeySpec → Type 0
AreSame specs = (values : List Value) → compare_values (columns_of specs) 0 values values ≡ Equal

-- an item of a leaf that breaks no rule
abbrev pub IsGood : Item → Type 0
IsGood (Pivot sep down) = ⊥
IsGood (Plain key more tid killed) = Unit {0}
IsGood (Posting key tids killed) = (are_not_rising None tids ≡ false) × (tids ≢ [])

abbrev pub IsAbove : List KeySpec → Option (Separator Value Tid) → Separator Value Tid → Type 0
IsAbove specs None s = Unit {0}
IsAbove specs (Some r) s = is_key_below specs r s ≡ true

-- each entry is above the one before it, and the first above a key, if there is one
abbrev pub RisesFrom : List KeySpec → Option (Separator Value Tid) → List (Entry Value Tid) → Type 0
RisesFrom specs before [] = Unit {0}
RisesFrom specs before (e ∷ es) = IsAbove specs before (as_separator e) × RisesFrom specs (Some (as_separator e)) es

-- there is a last entry, and it has this key
abbrev pub EndsWith : Separator Value Tid → List (Entry Value Tid) → Type 0
EndsWith s [] = ⊥
EndsWith s (e ∷ []) = as_separator e ≡ s
EndsWith s (e ∷ f ∷ es) = EndsWith s (f ∷ es)

entry_with : List Value → Bool → Tid → Entry Value Tid
entry_with key killed t = record { values = key; tid = t; killed = killed }

-- what are_not_rising leaves
next_tid : (before : Tid) (t : Tid) (ts : List Tid) → are_not_rising (Some before) (t ∷ ts) ≡ false → (is_lt (tid_order before t) ≡ true) × (are_not_rising (Some t) ts ≡ false)
unfolding are_not_rising
next_tid before t ts h =
    let both = or_parts _ _ h in
    let one = or_parts _ _ both.0 in
    (not-false _ one.1, both.1)

first_tid : (t : Tid) (ts : List Tid) → are_not_rising None (t ∷ ts) ≡ false → are_not_rising (Some t) ts ≡ false
unfolding are_not_rising
first_tid t ts h = (or_parts _ _ h).1

-- under one key the TIDs decide
tid_above : (specs : List KeySpec) (key : List Value) (t u : Tid) → AreSame specs → is_lt (tid_order t u) ≡ true → is_key_below specs (record { kept = key; tid = Some t }) (record { kept = key; tid = Some u }) ≡ true
tid_above specs key t u same lt = ap (λ (o : Ordering). is_lt (ordering_then o (tid_order t u))) (same key) ∙ lt

tids_then : (specs : List KeySpec) (key : List Value) (killed : Bool) (t : Tid) (ts : List Tid) (rest : List (Entry Value Tid)) → AreSame specs → are_not_rising (Some t) ts ≡ false → RisesFrom specs (Some (record { kept = key; tid = Some (last_tid t ts) })) rest → RisesFrom specs (Some (record { kept = key; tid = Some t })) (keys_in (Posting key ts killed) ++ rest)
tids_then specs key killed t [] rest same rising r = r
tids_then specs key killed t (u ∷ us) rest same rising r =
    let next = next_tid t u us rising in
    (tid_above specs key t u same next.0, tids_then specs key killed u us rest same next.1 r)

pub item_then : (specs : List KeySpec) (item : Item) (before : Option (Separator Value Tid)) (rest : List (Entry Value Tid)) → AreSame specs → IsGood item → IsAbove specs before (first_key item) → RisesFrom specs (Some (last_key item)) rest → RisesFrom specs before (keys_in item ++ rest)
item_then specs (Pivot sep down) before rest same good above r = absurd good
item_then specs (Plain key more tid killed) before rest same good above r = (above, r)
item_then specs (Posting key [] killed) before rest same good above r = absurd (good.1 refl)
item_then specs (Posting key (t ∷ ts) killed) before rest same good above r =
    (above, tids_then specs key killed t ts rest same (first_tid t ts good.0) r)

-- the items from number i on, which follow a key
pub items_rise : (specs : List KeySpec) (item : ℕ → Item) (i n : ℕ) (before : Option (Separator Value Tid)) → AreSame specs → ((j : ℕ) → i ≤ j → j < i + n → IsGood (item j)) → (0 < n → IsAbove specs before (first_key (item i))) → ((j : ℕ) → i ≤ j → j + 1 < i + n → is_key_below specs (last_key (item j)) (first_key (item (j + 1))) ≡ true) → RisesFrom specs before (flat_map (λ j. keys_in (item j)) (numbers_from i n))
items_rise specs item i zero before same good above steps = tt
items_rise specs item i (suc n) before same good above steps =
    let next : suc i ≡ i + 1 = omega arith in
    item_then specs (item i) before _ same (good i (omega arith) (omega arith)) (above (omega arith))
    (items_rise specs item (suc i) n (Some (last_key (item i))) same
    (λ j from to. good j (omega (arith, from)) (omega (arith, to)))
    (λ some. subst (λ k. is_key_below specs (last_key (item i)) (first_key (item k)) ≡ true) (sym next) (steps i (omega arith) (omega (arith, some))))
    (λ j from to. steps j (omega (arith, from)) (omega (arith, to))))

pub adjacent_from : (specs : List KeySpec) (before : Option (Separator Value Tid)) (es : List (Entry Value Tid)) → RisesFrom specs before es → AllAdjacentBelow (λ d e. (order_of specs).precedes d e ≡ true) es (length es)
adjacent_from specs before [] r = λ k d l. absurd (omega arith)
adjacent_from specs before (e ∷ []) r = λ k d l. absurd (omega arith)
adjacent_from specs before (e ∷ f ∷ es) r = go (adjacent_from specs (Some (as_separator e)) (f ∷ es) r.1)
  where
    go : AllAdjacentBelow (λ d e. (order_of specs).precedes d e ≡ true) (f ∷ es) (length (f ∷ es)) → (k : ℕ) (d : Entry Value Tid) → k + 1 < length (e ∷ f ∷ es) → (order_of specs).precedes (slice_index_or (e ∷ f ∷ es) k d) (slice_index_or (e ∷ f ∷ es) (k + 1) d) ≡ true
    go rest zero d l = r.1.0
    go rest (suc k) d l =
        let to : suc (k + 1) ≡ suc k + 1 = omega arith in
        subst (λ m. (order_of specs).precedes (slice_index_or (e ∷ f ∷ es) (suc k) d) (slice_index_or (e ∷ f ∷ es) m d) ≡ true) to (rest k d (omega arith))

-- the last entry
ends_push : (s : Separator Value Tid) (e : Entry Value Tid) (es : List (Entry Value Tid)) → EndsWith s es → EndsWith s (e ∷ es)
ends_push s e [] h = absurd h
ends_push s e (f ∷ es) h = h

ends_append : (s : Separator Value Tid) (es fs : List (Entry Value Tid)) → EndsWith s fs → EndsWith s (es ++ fs)
ends_append s [] fs h = h
ends_append s (e ∷ es) fs h = ends_push s e (es ++ fs) (ends_append s es fs h)

tids_end : (key : List Value) (killed : Bool) (t : Tid) (ts : List Tid) → EndsWith (record { kept = key; tid = Some (last_tid t ts) }) (keys_in (Posting key (t ∷ ts) killed))
tids_end key killed t [] = refl
tids_end key killed t (u ∷ us) = tids_end key killed u us

item_ends : (item : Item) → IsGood item → EndsWith (last_key item) (keys_in item)
item_ends (Pivot sep down) good = absurd good
item_ends (Plain key more tid killed) good = refl
item_ends (Posting key [] killed) good = absurd (good.1 refl)
item_ends (Posting key (t ∷ ts) killed) good = tids_end key killed t ts

append_nothing : (s : Separator Value Tid) (es : List (Entry Value Tid)) → EndsWith s es → EndsWith s (es ++ [])
append_nothing s [] h = h
append_nothing s (e ∷ []) h = h
append_nothing s (e ∷ f ∷ es) h = append_nothing s (f ∷ es) h

pub items_end : (item : ℕ → Item) (i n : ℕ) → IsGood (item (i + n)) → EndsWith (last_key (item (i + n))) (flat_map (λ j. keys_in (item j)) (numbers_from i (suc n)))
items_end item i zero good =
    let here : i + 0 ≡ i = omega arith in
    append_nothing (last_key (item (i + 0))) (keys_in (item i)) (subst (λ k. EndsWith (last_key (item (i + 0))) (keys_in (item k))) here (item_ends (item (i + 0)) good))
items_end item i (suc n) good =
    let there : suc i + n ≡ i + suc n = omega arith in
    ends_append _ (keys_in (item i)) _ (subst (λ k. EndsWith (last_key (item k)) (flat_map (λ j. keys_in (item j)) (numbers_from (suc i) (suc n)))) there (items_end item (suc i) n (subst (λ k. IsGood (item k)) (sym there) good)))

pub last_has : (s : Separator Value Tid) (es : List (Entry Value Tid)) (e : Entry Value Tid) → EndsWith s es → slice_get es (length es - 1) ≡ Some e → as_separator e ≡ s
last_has s [] e h last = absurd h
last_has s (d ∷ []) e h last = ap as_separator (sym inner) ∙ h
  where
    inner : d ≡ e
    inner = cc
last_has s (d ∷ f ∷ es) e h last =
    let to : length (d ∷ f ∷ es) - 1 ≡ suc (length (f ∷ es) - 1) = omega arith in
    last_has s (f ∷ es) e h (ap (slice_get (d ∷ f ∷ es)) (sym to) ∙ last)

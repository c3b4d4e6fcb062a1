-- The entries of a leaf, of whose items each has one.
use Rattle.std.proofs.Common.{◌≡◌, ◌≢◌, ◌∙◌, ◌+◌, ◌-◌, ◌<◌, ◌≤◌, ℕ, zero, suc, List, [], ◌∷◌, ◌++◌, length, refl, ap, sym, subst, arith}
use Rattle.std.specs.Prelude.{⊤, None, Option, Some, slice_get, slice_index_or}
use Rattle.std.specs.List.{AllAdjacentBelow, flat_map}
use Rattle.std.specs.Cmp.{tied_itself}
use Rattle.std.specs.declared.cmp.Ordering.TheVariants.{Less, Equal}
use Rattle.page_layout.specs.Page.{count_of}
use Rattle.laws_search.specs.Keys.{Entry}
use Rattle.key_orders.specs.declared.columns.KeySpec.{KeySpec}
use Rattle.key_orders.specs.declared.columns.Value.{Value}
use Rattle.key_orders.specs.declared.Tid.{Tid}
use Rattle.key_orders.specs.Keys.{IsKey, tid_order}
use Rattle.key_attrs.specs.Columns.{TreeColumns}
use Rattle.bt_tuples.specs.Items.{Item, ItemFits, Pivot, Plain, Posting}
use Rattle.bt_tuples.specs.Keys.{first_key, last_key, last_tid}
use Rattle.bt_image.specs.Image.{first_data, keys_in, numbers_from, page_keys, separator_in}
use Rattle.bt_image.proofs.Rises.{IsGood}
use Rattle.bt_steps.specs.WayLaws.{tids_total}
use Rattle.bt_steps.proofs.TidRises.{tids-rise}
use Rattle.join_distinct.specs.Items.{DifferTo, HasOne, item_on, values_in}

-- ONE ITEM

-- the last TID of a list stands somewhere in it
last-at : (t : Tid) (ts : List Tid) → (m : ℕ) × (slice_get (t ∷ ts) m ≡ Some (last_tid t ts))
last-at t [] = (0, refl)
last-at t (u ∷ us) = let rest = last-at u us in (suc rest.0, rest.1)

some-is : (t u : Tid) → ◌≡◌ {A = Option Tid} (Some t) (Some u) → t ≡ u
some-is t u e = cc

-- an item whose first TID is its last one has one entry
pub one-entry : (item : Item) → IsGood item → (first_key item).tid ≡ (last_key item).tid → HasOne item
one-entry (Pivot sep down) good same = absurd good
one-entry (Plain key more tid killed) good same = record { entry = record { values = key; tid = tid; killed = killed }; is = refl }
one-entry (Posting key [] killed) good same = absurd (good.1 refl)
one-entry (Posting key (t ∷ []) killed) good same = record { entry = record { values = key; tid = t; killed = killed }; is = refl }
one-entry (Posting key (t ∷ u ∷ us) killed) good same =
    let at = last-at u us in
    let above : tid_order t (last_tid u us) ≡ Less = tids-rise (t ∷ u ∷ us) good.0 0 (suc at.0) t (last_tid u us) (omega arith) refl at.1 in
    let is : t ≡ last_tid u us = some-is t (last_tid u us) same in
    let itself : tid_order t t ≡ Equal = tied_itself tids_total t in
    absurd (let clash : Less ≡ Equal = sym above ∙ ap (tid_order t) (sym is) ∙ itself in cc)

-- its values fit the columns
pub values-fit : (specs : List KeySpec) (item : Item) → IsGood item → ItemFits specs item → IsKey specs (values_in item)
values-fit specs (Pivot sep down) good fits = absurd good
values-fit specs (Plain key more tid killed) good fits = fits
values-fit specs (Posting key tids killed) good fits = fits.0

-- and are those of its entry
one-values : (item : Item) (e : Entry Value Tid) → keys_in item ≡ e ∷ [] → e.values ≡ values_in item
one-values (Pivot sep down) e is = absurd cc
one-values (Plain key more tid killed) e is = ap (λ (x : Entry Value Tid). x.values) (inner is)
  where
    inner : ◌≡◌ {A = List (Entry Value Tid)} (record { values = key; tid = tid; killed = killed } ∷ []) (e ∷ []) → e ≡ record { values = key; tid = tid; killed = killed }
    inner h = cc
one-values (Posting key [] killed) e is = absurd cc
one-values (Posting key (t ∷ ts) killed) e is = ap (λ (x : Entry Value Tid). x.values) (inner is)
  where
    inner : ◌≡◌ {A = List (Entry Value Tid)} (record { values = key; tid = t; killed = killed } ∷ keys_in (Posting key ts killed)) (e ∷ []) → e ≡ record { values = key; tid = t; killed = killed }
    inner h = cc

-- what an item without a TID keeps as a separator has none
pub no-tid : (item : Item) → (first_key item).tid ≡ None → (separator_in item).tid ≡ None
no-tid (Pivot sep down) none = none
no-tid (Plain key more tid killed) none = refl
no-tid (Posting key tids killed) none = refl

-- ALL OF A LEAF

abbrev IsOther : Option (List Value) → List Value → Type 0
IsOther None values = ⊤
IsOther (Some before) values = before ≢ values

-- each entry has other values than the one before, and the first than these, if there are some
abbrev DifferFrom : Option (List Value) → List (Entry Value Tid) → Type 0
DifferFrom before [] = ⊤
DifferFrom before (e ∷ es) = IsOther before e.values × DifferFrom (Some e.values) es

items-differ : (item : ℕ → Item) (i n : ℕ) (before : Option (List Value)) → ((j : ℕ) → i ≤ j → j < i + n → HasOne (item j)) → (0 < n → IsOther before (values_in (item i))) → ((j : ℕ) → i ≤ j → j + 1 < i + n → values_in (item j) ≢ values_in (item (j + 1))) → DifferFrom before (flat_map (λ j. keys_in (item j)) (numbers_from i n))
items-differ item i zero before one first steps = tt
items-differ item i (suc n) before one first steps =
    let here = one i (omega arith) (omega arith) in
    let values : here.entry.values ≡ values_in (item i) = one-values (item i) here.entry here.is in
    let next : suc i ≡ i + 1 = omega arith in
    subst (λ (es : List (Entry Value Tid)). DifferFrom before (es ++ flat_map (λ j. keys_in (item j)) (numbers_from (suc i) n))) (sym here.is) (
      subst (IsOther before) (sym values) (first (omega arith)),
      items-differ item (suc i) n (Some here.entry.values)
          (λ j from to. one j (omega (arith, from)) (omega (arith, to)))
          (λ some same. steps i (omega arith) (omega (arith, some)) (sym values ∙ same ∙ ap (λ (k : ℕ). values_in (item k)) next))
          (λ j from to. steps j (omega (arith, from)) (omega (arith, to))),
    )

adjacent : (before : Option (List Value)) (es : List (Entry Value Tid)) → DifferFrom before es → AllAdjacentBelow (λ d e. d.values ≢ e.values) es (length es)
adjacent before [] differ = λ k d l. absurd (omega arith)
adjacent before (e ∷ []) differ = λ k d l. absurd (omega arith)
adjacent before (e ∷ f ∷ es) differ = go (adjacent (Some e.values) (f ∷ es) differ.1)
  where
    go : AllAdjacentBelow (λ (d e : Entry Value Tid). d.values ≢ e.values) (f ∷ es) (length (f ∷ es)) → (k : ℕ) (d : Entry Value Tid) → k + 1 < length (e ∷ f ∷ es) → (slice_index_or (e ∷ f ∷ es) k d).values ≢ (slice_index_or (e ∷ f ∷ es) (k + 1) d).values
    go rest zero d l = differ.1.0
    go rest (suc k) d l =
        let to : suc (k + 1) ≡ suc k + 1 = omega arith in
        subst (λ (m : ℕ). (slice_index_or (e ∷ f ∷ es) (suc k) d).values ≢ (slice_index_or (e ∷ f ∷ es) m d).values) to (rest k d (omega arith))

pub entries-differ : (columns : TreeColumns) (page : List ℕ) → DifferTo columns page (count_of page) → AllAdjacentBelow (λ d e. d.values ≢ e.values) (page_keys columns.specs columns.more page) (length (page_keys columns.specs columns.more page))
entries-differ columns page so =
    adjacent None (page_keys columns.specs columns.more page)
    (items-differ (item_on columns page) (first_data page) (count_of page + 1 - first_data page) None
    (λ j from to. so.one j from (omega (arith, to)))
    (λ some. tt)
    (λ j from to. so.other j from (omega (arith, to))))

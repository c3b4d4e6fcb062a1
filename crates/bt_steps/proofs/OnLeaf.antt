-- On a leaf an entry that is sought can stand in one item alone: the last whose first key isn't above it.
use Rattle.std.proofs.Common.{◌≡◌, ℕ, zero, suc, ◌+◌, ◌-◌, ◌<◌, ◌≤◌, ◌⊎◌, inl, inr, true, false, List, [], ◌∷◌, ◌++◌, refl, ap, sym, subst, ◌∙◌, arith}
use Rattle.std.specs.Prelude.{Contains, None, Some, not, slice_get}
use Rattle.std.specs.Cmp.{tied_itself}
use Rattle.std.specs.List.{flat_map}
use Rattle.std.specs.Ordering.{is_lt}
use Rattle.std.proofs.lemmas.Bool.{and_parts, both_ways, cases_lt, cond-true, not-false, not-true}
use Rattle.page_layout.specs.Page.{count_of}
use Rattle.laws_search.specs.Keys.{Entry, Separator, as_separator, compare_keys}
use Rattle.laws_search.specs.Order.{Order}
use Rattle.laws_search.proofs.Gather.{In-from_Contains}
use Rattle.laws_search.proofs.Lists.{Each-front, Each-in, In, In-cases, In-left, In-right}
use Rattle.laws_search.proofs.Rising.{Rising, rising_across, rising_from_adjacent}
use Rattle.key_orders.specs.declared.columns.Value.{Value}
use Rattle.key_orders.specs.declared.Tid.{Tid}
use Rattle.key_orders.specs.Keys.{columns_of, entry_of, tid_order}
use Rattle.key_orders.specs.Scans.{order_of}
use Rattle.key_attrs.specs.Columns.{TreeColumns}
use Rattle.bt_meta.specs.Flags.{is_half_dead, is_leaf}
use Rattle.bt_meta.specs.Pages.{is_idle, opaque_of}
use Rattle.bt_tuples.specs.declared.items.Spot3.{Spot3}
use Rattle.bt_tuples.specs.Items.{Item, Pivot, Plain, Posting}
use Rattle.bt_tuples.specs.Rules.{KeepsItemRules}
use Rattle.bt_tuples.specs.Keys.{first_key, last_key}
use Rattle.bt_image.specs.Image.{first_data, item_at, keys_in, numbers_from, page_keys}
use Rattle.bt_image.specs.Pages.{KeepsPage, first_compared, is_key_below}
use Rattle.bt_image.proofs.PageFields.{first_cases, leaf_item_good, leaf_spot, order_kept}
use Rattle.bt_image.proofs.Rises.{AreSame, IsGood, adjacent_from, items_rise}
use Rattle.bt_image.proofs.Sound.{same_values}
use Rattle.bt_steps.specs.Entries.{IsRead}
use Rattle.bt_steps.specs.Pages.{IsReadable, is_live_leaf}
use Rattle.bt_steps.specs.Sought.{IsSought, is_within}
use Rattle.bt_steps.specs.WayLaws.{ordered, total}
use Rattle.bt_steps.specs.Ways.{is_passed}

-- What the rules leave of a page

pub page-readable : (columns : TreeColumns) (blocks : ℕ) (block : ℕ → List ℕ) (b : ℕ) → KeepsPage columns.specs columns.more blocks block b → IsReadable columns (block b)
page-readable columns blocks block b kept = record { laid_out = kept.laid_out; some_items = kept.some_items; items = kept.items; order = kept.order }

-- what is known of a leaf in use that isn't half-dead
pub live-parts : (page : List ℕ) → is_live_leaf page ≡ true → (is_leaf (opaque_of page) ≡ true) × (is_idle page ≡ false) × (is_half_dead (opaque_of page) ≡ false)
live-parts page live =
    let leaf = and_parts (is_leaf (opaque_of page)) _ live in
    let rest = and_parts (not (is_idle page)) _ leaf.1 in
    (leaf.0, not-true _ rest.0, not-true _ rest.1)

-- Lists that are laid one behind the other

module _ {S E : Type 0} (o : Order S E) (g : ℕ → List E) where
  abbrev all : ℕ → ℕ → List E
  all f n = flat_map g (numbers_from f n)

  in-item : (f n : ℕ) (x : E) → In x (all f n) → (j : ℕ) × (f ≤ j) × (j < f + n) × In x (g j)
  in-item f zero x h = absurd h
  in-item f (suc n) x h = elim (In-cases x (g f) (all (suc f) n) h) [
    | inl here ↦ (f, omega arith, omega arith, here)
    | inr later ↦ let r = in-item (suc f) n x later in (r.0, omega (arith, r.1), omega (arith, r.2), r.3)
  ]

  item-in : (f n j : ℕ) (x : E) → f ≤ j → j < f + n → In x (g j) → In x (all f n)
  item-in f zero j x from to h = absurd (omega (arith, from, to))
  item-in f (suc n) j x from to h = elim (cases_lt f j) [
    | inl past ↦ In-right x (g f) (all (suc f) n) (item-in (suc f) n j x (omega (arith, past)) (omega (arith, to)) h)
    | inr at ↦ In-left x (g f) (all (suc f) n) (subst (λ k. In x (g k)) (let e : j ≡ f = omega (arith, at, from) in e) h)
  ]

  back-rising : (xs ys : List E) → Rising o (xs ++ ys) → Rising o ys
  back-rising [] ys r = r
  back-rising (x ∷ xs) ys r = back-rising xs ys r.1

  front-rising : (xs ys : List E) → Rising o (xs ++ ys) → Rising o xs
  front-rising [] ys r = tt
  front-rising (x ∷ xs) ys r = (Each-front (λ d. o.precedes x d ≡ true) xs ys r.0, front-rising xs ys r.1)

  item-rising : (f n j : ℕ) → Rising o (all f n) → f ≤ j → j < f + n → Rising o (g j)
  item-rising f zero j r from to = absurd (omega (arith, from, to))
  item-rising f (suc n) j r from to = elim (cases_lt f j) [
    | inl past ↦ item-rising (suc f) n j (back-rising (g f) (all (suc f) n) r) (omega (arith, past)) (omega (arith, to))
    | inr at ↦ subst (λ k. Rising o (g k)) (let e : f ≡ j = omega (arith, at, from) in e) (front-rising (g f) (all (suc f) n) r)
  ]

  -- what stands in an earlier list is below what stands in a later one
  across : (f n j r : ℕ) (d e : E) → Rising o (all f n) → f ≤ j → j < r → r < f + n → In d (g j) → In e (g r) → o.precedes d e ≡ true
  across f zero j r d e rising from less to d-in e-in = absurd (omega (arith, from, less, to))
  across f (suc n) j r d e rising from less to d-in e-in = elim (cases_lt f j) [
    | inl past ↦ across (suc f) n j r d e (back-rising (g f) (all (suc f) n) rising) (omega (arith, past)) less (omega (arith, to)) d-in e-in
    | inr at ↦
        let here : j ≡ f = omega (arith, at, from) in
        Each-in (λ x. o.precedes d x ≡ true) e (all (suc f) n)
        (rising_across o (g f) (all (suc f) n) d rising (subst (λ k. In d (g k)) here d-in))
        (item-in (suc f) n r e (omega (arith, less, from)) (omega (arith, to)) e-in)
  ]

-- The first entry of an item

record First (item : Item) : Type 0 where
  entry : Entry Value Tid
  rest : List (Entry Value Tid)
  are : keys_in item ≡ entry ∷ rest
  key : as_separator entry ≡ first_key item

first-of : (item : Item) → IsGood item → First item
first-of (Pivot sep down) good = absurd good
first-of (Plain key more tid killed) good = record { entry = record { values = key; tid = tid; killed = killed }; rest = []; are = refl; key = refl }
first-of (Posting key [] killed) good = absurd (good.1 refl)
first-of (Posting key (t ∷ ts) killed) good = record { entry = record { values = key; tid = t; killed = killed }; rest = keys_in (Posting key ts killed); are = refl; key = refl }

-- each entry of a rising list is its first, or above it
first-or_above : {S E : Type 0} (o : Order S E) (d x : E) (rest : List E) → Rising o (d ∷ rest) → In x (d ∷ rest) → (x ≡ d) ⊎ (o.precedes d x ≡ true)
first-or_above o d x rest r (inl e) = inl e
first-or_above o d x rest r (inr k) = inr (Each-in (λ y. o.precedes d y ≡ true) x rest r.0 k)

-- The entries of a leaf

module _ (columns : TreeColumns) (page : List ℕ) (readable : IsReadable columns page) (leaf : is_leaf (opaque_of page) ≡ true) (alive : is_half_dead (opaque_of page) ≡ false) where
  abbrev item : ℕ → Item
  item j = item_at columns.specs columns.more page j

  abbrev keys : ℕ → List (Entry Value Tid)
  keys j = keys_in (item j)

  abbrev number : ℕ
  number = count_of page + 1 - first_data page

  good : (j : ℕ) → first_data page ≤ j → j ≤ count_of page → IsGood (item j)
  good j from to =
      let one = first_cases page in
      leaf_item_good columns.specs columns.more page j _ (leaf_spot page j leaf from) (readable.items alive j (omega (arith, one, from)) to).rules

  same : AreSame columns.specs
  same = same_values columns.specs (tied_itself (total columns.specs))

  step : (j : ℕ) → first_data page ≤ j → j + 1 ≤ count_of page → is_key_below columns.specs (last_key (item j)) (first_key (item (j + 1))) ≡ true
  step j from to =
      let least : first_compared page ≡ first_data page + 1 = cond-true {A = ℕ} (is_leaf (opaque_of page)) _ _ leaf in
      let back : j + 1 - 1 ≡ j = omega arith in
      subst (λ (k : ℕ). is_key_below columns.specs (last_key (item k)) (first_key (item (j + 1))) ≡ true) back
      (order_kept columns.specs columns.more page (j + 1) (readable.order alive (j + 1) (record { from = omega (arith, from); to = to })) (omega (arith, least, from)))

  pub rising : Rising (order_of columns.specs) (page_keys columns.specs columns.more page)
  rising =
      rising_from_adjacent (order_of columns.specs) (ordered columns.specs) (page_keys columns.specs columns.more page)
      (adjacent_from columns.specs None (page_keys columns.specs columns.more page)
      (items_rise columns.specs item (first_data page) number None same
      (λ j from to. good j from (omega (arith, to)))
      (λ some. tt)
      (λ j from to. step j from (omega (arith, to)))))

  -- an entry that is sought is in the item where it is looked for
  module _ (key : List Value) (tid : Tid) (r : ℕ) (from : first_data page ≤ r) (to : r ≤ count_of page)
      (passed : first_data page < r → is_passed columns (is_within columns.specs key tid) page r ≡ true)
      (next : r < count_of page → is_passed columns (is_within columns.specs key tid) page (r + 1) ≡ false) where
    abbrev o : Order (Separator Value Tid) (Entry Value Tid)
    o = order_of columns.specs

    as-sought : (e : Entry Value Tid) → IsSought key tid e → as_separator e ≡ as_separator (entry_of key tid)
    as-sought e s = λ i. record { kept = s.values i; tid = Some (s.tid_is i) }

    -- it isn't below the item
    not-before : (j : ℕ) (e : Entry Value Tid) → IsSought key tid e → first_data page ≤ j → j < r → In e (keys j) → ⊥
    not-before j e s low less there =
        let f = first-of (item r) (good r from to) in
        let below : o.precedes e f.entry ≡ true = across o keys (first_data page) number j r e f.entry rising low less (omega (arith, from, to)) there (subst (In f.entry) (sym f.are) (inl refl)) in
        let at : is_lt (compare_keys (columns_of columns.specs) tid_order (as_separator (entry_of key tid)) (first_key (item r))) ≡ true =
        (λ i. is_lt (compare_keys (columns_of columns.specs) tid_order (sym (as-sought e s) i) (sym f.key i))) ∙ below in
        both_ways (is_lt (compare_keys (columns_of columns.specs) tid_order (as_separator (entry_of key tid)) (first_key (item r)))) (not-true _ (passed (omega (arith, low, less)))) at

    -- nor above it
    not-after : (j : ℕ) (e : Entry Value Tid) → IsSought key tid e → r < j → j ≤ count_of page → In e (keys j) → ⊥
    not-after j e s less high there =
        let f = first-of (item (r + 1)) (good (r + 1) (omega (arith, from)) (omega (arith, less, high))) in
        let below : o.precedes e f.entry ≡ true =
        (λ i. is_lt (compare_keys (columns_of columns.specs) tid_order (as-sought e s i) (f.key i))) ∙ not-false _ (next (omega (arith, less, high))) in
        let first-in : In f.entry (keys (r + 1)) = subst (In f.entry) (sym f.are) (inl refl) in
        elim (at-or_above j e less high there f first-in) [
          | inl is ↦ both_ways (o.precedes e e) ((ordered columns.specs).strict e) (subst (λ (x : Entry Value Tid). o.precedes e x ≡ true) (sym is) below)
          | inr above ↦ both_ways (o.precedes e e) ((ordered columns.specs).strict e) ((ordered columns.specs).chained e f.entry e below above)
        ]
      where
        at-or_above : (j : ℕ) (e : Entry Value Tid) → r < j → j ≤ count_of page → In e (keys j) → (f : First (item (r + 1))) → In f.entry (keys (r + 1)) → (e ≡ f.entry) ⊎ (o.precedes f.entry e ≡ true)
        at-or_above j e less high there f first-in = elim (cases_lt (r + 1) j) [
          | inl past ↦ inr (across o keys (first_data page) number (r + 1) j f.entry e rising (omega (arith, from)) past (omega (arith, high, from)) first-in there)
          | inr at ↦
              let same-item : j ≡ r + 1 = omega (arith, at, less) in
              let here : In e (keys (r + 1)) = subst (λ (k : ℕ). In e (keys k)) same-item there in
              first-or_above o f.entry e f.rest
              (subst (Rising o) f.are (item-rising o keys (first_data page) number (r + 1) rising (omega (arith, from)) (omega (arith, less, high))))
              (subst (In e) f.are here)
        ]

    pub only-there : (e : Entry Value Tid) → IsSought key tid e → In e (page_keys columns.specs columns.more page) → In e (keys r)
    only-there e s there =
        let at = in-item o keys (first_data page) number e there in
        elim (cases_lt at.0 r) [
          | inl less ↦ absurd (not-before at.0 e s at.1 less at.3)
          | inr le ↦ elim (cases_lt r at.0) [
            | inl more ↦ absurd (not-after at.0 e s more (omega (arith, at.2, from)) at.3)
            | inr same-item ↦ subst (λ (k : ℕ). In e (keys k)) (let is : at.0 ≡ r = omega (arith, le, same-item) in is) at.3
          ]
        ]

  -- each data item of a leaf can be read
  pub item-read : (i : ℕ) → first_data page ≤ i → i ≤ count_of page → IsRead columns page i
  item-read i from to =
      let one = first_cases page in
      let plain = readable.items alive i (omega (arith, one, from)) to in
      record { rules = subst (λ (s : Spot3). KeepsItemRules columns.specs columns.more s page i) (leaf_spot page i leaf from) plain.rules; plain = plain.read }

-- where a member of a list stands
pub in-get : {X : Type 0} (x : X) (xs : List X) → In x xs → (k : ℕ) × (slice_get xs k ≡ Some x)
in-get x [] h = absurd h
in-get x (y ∷ ys) (inl e) = (0, ap Some (sym e))
in-get x (y ∷ ys) (inr k) = let r = in-get x ys k in (suc r.0, r.1)

-- a page without data items has no entries
pub none-there : (columns : TreeColumns) (page : List ℕ) (e : Entry Value Tid) → count_of page < first_data page → Contains (page_keys columns.specs columns.more page) e → ⊥
none-there columns page e none there =
    let zero-left : count_of page + 1 - first_data page ≡ 0 = omega (arith, none) in
    In-from_Contains {X = Entry Value Tid} [] e (subst (λ (n : ℕ). Contains (flat_map (λ j. keys_in (item_at columns.specs columns.more page j)) (numbers_from (first_data page) n)) e) zero-left there)

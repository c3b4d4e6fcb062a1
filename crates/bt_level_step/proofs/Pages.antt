-- What a page's items say of its image.
use Rattle.std.proofs.Common.{◌≡◌, ◌≢◌, ℕ, suc, ◌+◌, ◌-◌, ◌<◌, ◌≤◌, inl, inr, Bool, true, false, List, [], ◌∷◌, ◌++◌, length, drop, map, refl, sym, ap, subst, ◌∙◌, arith}
use Rattle.std.specs.Prelude.{Option, Some, None, Ok, Err, nat_lt, ◌==◌, slice_get, cond}
use Rattle.std.specs.List.{flat_map}
use Rattle.std.proofs.lemmas.Bool.{and_from, and_left, both_ways, cases_Bool, cases_eq, cond-false, cond-true, eq-eqb, eqb-true, lt-ltb, ne_eqb, not-false, not_from_false, or_parts}
use Rattle.page_layout.specs.declared.page.LinePtr.{LinePtr}
use Rattle.page_layout.specs.Page.{count_of, header_of, item_of, piece_of, upper_of}
use Rattle.laws_search.specs.Keys.{Entry, Separator, as_separator}
use Rattle.laws_search.specs.Levels.{is_single, page_downlinks}
use Rattle.laws_levels.specs.Rules.{second_separator}
use Rattle.key_orders.specs.declared.columns.KeySpec.{KeySpec}
use Rattle.key_orders.specs.declared.columns.Value.{Value}
use Rattle.key_orders.specs.declared.more.MoreSpec.{MoreSpec}
use Rattle.key_orders.specs.declared.Tid.{Tid}
use Rattle.bt_meta.specs.declared.records.HeadKind.{HeadKind}
use Rattle.bt_meta.specs.declared.records.HeadKind.TheVariants as head
use Rattle.bt_meta.specs.declared.records.TreeHead.{TreeHead}
use Rattle.bt_meta.specs.Flags.{is_half_dead, is_leaf}
use Rattle.bt_meta.specs.Heads.{tree_head_of}
use Rattle.bt_meta.specs.Pages.{opaque_of}
use Rattle.bt_tuples.specs.declared.items.ItemFault.{ItemFault}
use Rattle.bt_tuples.specs.declared.items.Spot3.{Spot3}
use Rattle.bt_tuples.specs.declared.items.Spot3.TheVariants as spot
use Rattle.bt_tuples.specs.Items.{Item, ItemOutcome, Pivot, Plain, Posting, is_dead, item_outcome, meaning_by, meaning_of, values_or_none}
use Rattle.bt_tuples.specs.Keys.{first_key}
use Rattle.bt_tuples.specs.Rules.{breaks_form, includes_some, is_pivot, tuple_of}
use Rattle.bt_tuples.specs.Tuples.{values_in}
use Rattle.bt_tuples.proofs.Outcomes.{kept_means, read_means}
use Rattle.bt_image.specs.Image.{child_in, data_items, downlink_in, first_data, has_high_key, item_at, keys_in, numbers_from, page_image, page_keys, separator_in, spot_of}
use Rattle.bt_image.specs.Pages.{IsDataItem, IsPlainItem, breaks_items}
use Rattle.bt_image.proofs.PageFields.{first_cases, leaf_item_good, leaf_spot, numbers_none}
use Rattle.bt_image.proofs.Rises.{IsGood}
use Rattle.bt_level_step.specs.Bounds.{Bound}
use Rattle.bt_level_step.specs.Pages.{HasPlainItems, downlinks_from}
use Rattle.bt_level_step.proofs.Items.{downlinks_end, downlinks_first, downlinks_later, no_second, second_is, single_is}

same_test : (a b c d : ℕ) → (a ≡ b → c ≡ d) → (c ≡ d → a ≡ b) → (a == b) ≡ (c == d)
same_test a b c d there back = elim (cases_Bool (a == b)) [
  | inl e ↦ e ∙ sym (eq-eqb c d (there (eqb-true a b e)))
  | inr e ↦ e ∙ sym (ne_eqb c d (λ h. both_ways (a == b) e (eq-eqb a b (back h))))
]

-- a page with a high key has an item
pub some_high : (page : List ℕ) → breaks_items page ≡ false → has_high_key page ≡ true → count_of page ≢ 0
unfolding breaks_items
some_high page kept high none =
    both_ways _ (or_parts _ _ kept).0 (and_from (has_high_key page) (count_of page == 0) high (eq-eqb (count_of page) 0 none))

-- the tuple that a line pointer names
pub tuple_is : (page bytes : List ℕ) (i : ℕ) (at : LinePtr) → at ≡ item_of page i → bytes ≡ piece_of page at.off at.len → bytes ≡ tuple_of page i
tuple_is page bytes i at is e = e ∙ ap (λ (p : LinePtr). piece_of page p.off p.len) is

pub upper_is : (page : List ℕ) → (header_of page).upper ≡ upper_of page
unfolding header_of
upper_is page = refl

-- an item that isn't one of a leaf is a separator
not_leaf_pivot : (at : Spot3) (n : ℕ) (includes : Bool) (h : TreeHead) → at ≢ spot.LeafItem → breaks_form at n includes h ≡ false → is_pivot h.kind ≡ true
not_leaf_pivot spot.HighKey n includes h other kept = not-false _ (or_parts _ _ kept).0
not_leaf_pivot spot.FirstInner n includes h other kept = not-false _ (or_parts _ _ (or_parts _ _ kept).0).0
not_leaf_pivot spot.Inner n includes h other kept = not-false _ (or_parts _ _ kept).0
not_leaf_pivot spot.LeafItem n includes h other kept = absurd (other refl)

pub spot_high : (page : List ℕ) (i : ℕ) → i < first_data page → spot_of page i ≢ spot.LeafItem
spot_high page i lt e = clash (sym (cond-true (nat_lt i (first_data page)) spot.HighKey _ (lt-ltb _ _ lt)) ∙ e)
  where
    clash : ◌≡◌ {A = Spot3} spot.HighKey spot.LeafItem → ⊥
    clash h = cc

pub high_spot : (page : List ℕ) (i : ℕ) → i < first_data page → spot_of page i ≡ spot.HighKey
high_spot page i lt = cond-true (nat_lt i (first_data page)) spot.HighKey _ (lt-ltb _ _ lt)

pub spot_inner : (page : List ℕ) (i : ℕ) → is_leaf (opaque_of page) ≡ false → spot_of page i ≢ spot.LeafItem
spot_inner page i inner e = by (nat_lt i (first_data page)) (i == first_data page) (ap (λ (t : Bool). cond (nat_lt i (first_data page)) spot.HighKey (cond t spot.LeafItem (cond (i == first_data page) spot.FirstInner spot.Inner))) (sym inner) ∙ e)
  where
    by : (a b : Bool) → ◌≡◌ {A = Spot3} (cond a spot.HighKey (cond b spot.FirstInner spot.Inner)) spot.LeafItem → ⊥
    by true b h = cc
    by false true h = cc
    by false false h = cc

module _ (specs : List KeySpec) (more : List MoreSpec) (page : List ℕ) where
  -- an item without a fault is read
  pub plain_outcome : (i : ℕ) → IsPlainItem specs more page i → item_outcome specs more (spot_of page i) page i ≡ Ok (item_at specs more page i)
  unfolding item_at
  plain_outcome i plain = kept_means specs more (spot_of page i) page i false plain.rules plain.read

  -- and what is read is that item
  pub item_means : (at : Spot3) (i : ℕ) (item : Item) → item_outcome specs more at page i ≡ Ok item → item ≡ item_at specs more page i
  unfolding item_at
  item_means at i item is = (read_means specs more at page i item is).2

  -- it can't be unread
  pub must_read : (at : Spot3) (i : ℕ) (e : ItemFault) → at ≡ spot_of page i → IsPlainItem specs more page i → item_outcome specs more at page i ≡ Err e → ⊥
  must_read at i e is plain unread = clash (sym (plain_outcome i plain) ∙ ap (λ (s : Spot3). item_outcome specs more s page i) (sym is) ∙ unread)
    where
      clash : ◌≡◌ {A = ItemOutcome} (Ok (item_at specs more page i)) (Err e) → ⊥
      clash h = cc

  kind_pivot : (kind : HeadKind) (tuple : List ℕ) (n : ℕ) (killed : Bool) (values : List Value) → is_pivot kind ≡ true → first_key (meaning_by kind n tuple killed values) ≡ separator_in (meaning_by kind n tuple killed values)
  kind_pivot head.Pivot tuple n killed values is = refl
  kind_pivot head.Plain tuple n killed values is = absurd cc
  kind_pivot head.Posting tuple n killed values is = absurd cc

  -- its key is what it keeps
  pub pivot_key : (i : ℕ) → IsPlainItem specs more page i → spot_of page i ≢ spot.LeafItem → first_key (item_at specs more page i) ≡ separator_in (item_at specs more page i)
  unfolding item_at meaning_of
  pivot_key i plain other =
      let tuple = tuple_of page i in
      kind_pivot (tree_head_of tuple).kind tuple (length specs) (is_dead (item_of page i).flag) (values_or_none (values_in specs more tuple))
      (not_leaf_pivot (spot_of page i) (length specs) (includes_some more) (tree_head_of tuple) other plain.rules.form)

  pivot_down : (kind : HeadKind) (tuple : List ℕ) (n : ℕ) (killed : Bool) (values : List Value) → kind ≡ head.Pivot → downlink_in (meaning_by kind n tuple killed values) ≡ (tree_head_of tuple).block
  pivot_down head.Pivot tuple n killed values is = refl
  pivot_down head.Plain tuple n killed values is = absurd cc
  pivot_down head.Posting tuple n killed values is = absurd cc

  -- its downlink stands in its head
  pub down_is : (i : ℕ) → (tree_head_of (tuple_of page i)).kind ≡ head.Pivot → downlink_in (item_at specs more page i) ≡ (tree_head_of (tuple_of page i)).block
  unfolding item_at meaning_of
  down_is i is = pivot_down (tree_head_of (tuple_of page i)).kind (tuple_of page i) (length specs) (is_dead (item_of page i).flag) (values_or_none (values_in specs more (tuple_of page i))) is

  pivot_kind : (kind : HeadKind) → is_pivot kind ≡ true → kind ≡ head.Pivot
  pivot_kind head.Pivot is = refl
  pivot_kind head.Plain is = absurd cc
  pivot_kind head.Posting is = absurd cc

  pub kind_is : (i : ℕ) → IsPlainItem specs more page i → is_leaf (opaque_of page) ≡ false → (tree_head_of (tuple_of page i)).kind ≡ head.Pivot
  kind_is i plain inner = pivot_kind _ (not_leaf_pivot (spot_of page i) (length specs) (includes_some more) (tree_head_of (tuple_of page i)) (spot_inner page i inner) plain.rules.form)

  -- THE HIGH KEY
  pub high_some : has_high_key page ≡ true → is_half_dead (opaque_of page) ≡ false → (page_image specs more page).high_key ≡ Some (separator_in (item_at specs more page 1))
  high_some high whole = cond-true _ _ _ (and_from (has_high_key page) _ high (not_from_false _ whole))

  pub high_none : has_high_key page ≡ false → (page_image specs more page).high_key ≡ None
  high_none none = cond-false _ _ _ (and_left (has_high_key page) _ none)

  pub high_before : has_high_key page ≡ true → 1 < first_data page
  high_before high = let two = cond-true {A = ℕ} (has_high_key page) 2 1 high in omega (arith, two)

  -- THE FIRST ENTRY OF A LEAF
  record FirstEntry (item : Item) (rest : List (Entry Value Tid)) : Type 0 where
    pub entry : Entry Value Tid
    pub is : slice_get (keys_in item ++ rest) 0 ≡ Some entry
    pub key : as_separator entry ≡ first_key item

  good_first : (item : Item) (rest : List (Entry Value Tid)) → IsGood item → FirstEntry item rest
  good_first (Pivot sep down) rest good = absurd good
  good_first (Plain key more tid killed) rest good = record { entry = record { values = key; tid = tid; killed = killed }; is = refl; key = refl }
  good_first (Posting key [] killed) rest good = absurd (good.1 refl)
  good_first (Posting key (t ∷ ts) killed) rest good = record { entry = record { values = key; tid = t; killed = killed }; is = refl; key = refl }

  pub record HasFirst (o : Option (Entry Value Tid)) : Type 0 where
    pub entry : Entry Value Tid
    pub is : o ≡ Some entry
    pub key : as_separator entry ≡ first_key (item_at specs more page (first_data page))

  module _ (leaf : is_leaf (opaque_of page) ≡ true) (whole : is_half_dead (opaque_of page) ≡ false) where
    entries_are : (page_image specs more page).entries ≡ page_keys specs more page
    entries_are = cond-true _ _ _ (and_from (is_leaf (opaque_of page)) _ leaf (not_from_false _ whole))

    pub no_entry : count_of page < first_data page → slice_get (page_image specs more page).entries 0 ≡ None
    no_entry few =
        ap (λ (es : List (Entry Value Tid)). slice_get es 0) entries_are
        ∙ ap (λ (ns : List ℕ). slice_get (flat_map (λ i. keys_in (item_at specs more page i)) ns) 0) (numbers_none (first_data page) (count_of page + 1 - first_data page) (omega (arith, few)))

    pub first_entry : HasPlainItems specs more page → first_data page ≤ count_of page → HasFirst (slice_get (page_image specs more page).entries 0)
    first_entry items some =
        let f = first_data page in
        let plain = items.plain whole f (first_cases page) some in
        let good = leaf_item_good specs more page f _ (leaf_spot page f leaf (omega arith)) plain.rules in
        let n : count_of page + 1 - f ≡ suc (count_of page - f) = omega (arith, some) in
        let first = good_first (item_at specs more page f) (flat_map (λ i. keys_in (item_at specs more page i)) (numbers_from (suc f) (count_of page - f))) good in
        record {
          entry = first.entry;
          is =
              ap (λ (es : List (Entry Value Tid)). slice_get es 0) entries_are
              ∙ ap (λ (k : ℕ). slice_get (flat_map (λ i. keys_in (item_at specs more page i)) (numbers_from f k)) 0) n ∙ first.is;
          key = first.key;
        }

  -- THE DATA ITEMS OF AN INTERNAL PAGE
  abbrev child_at : ℕ → Separator Value Tid × ℕ
  child_at i = child_in (item_at specs more page i)

  module _ (inner : is_leaf (opaque_of page) ≡ false) where
    children_are : (page_image specs more page).children ≡ map child_at (data_items page)
    children_are = cond-false (is_leaf (opaque_of page)) _ _ inner

    one_number : (count_of page + 1 - first_data page == 1) ≡ (count_of page == first_data page)
    one_number =
        let from = first_cases page in
        same_test (count_of page + 1 - first_data page) 1 (count_of page) (first_data page) (λ e. omega (arith, from, e)) (λ e. omega (arith, from, e))

    -- there is exactly one of them
    pub one_child : is_single (page_image specs more page).children ≡ (count_of page == first_data page)
    one_child = ap is_single children_are ∙ single_is child_at (first_data page) (count_of page + 1 - first_data page) ∙ one_number

    pub second_some : first_data page + 1 ≤ count_of page → second_separator (page_image specs more page).children ≡ Some (separator_in (item_at specs more page (first_data page + 1)))
    second_some some = ap second_separator children_are ∙ second_is child_at (first_data page) (count_of page + 1 - first_data page) (omega (arith, some))

    pub second_none : count_of page < first_data page + 1 → second_separator (page_image specs more page).children ≡ None
    second_none few = ap second_separator children_are ∙ no_second child_at (first_data page) (count_of page + 1 - first_data page) (omega (arith, few))

    module _ (lower : Bound) where
      -- the first downlink, a later one, and where there is none
      pub hand_first : first_data page ≤ count_of page → downlinks_from specs more page lower (first_data page) ≡ (lower, downlink_in (item_at specs more page (first_data page))) ∷ downlinks_from specs more page lower (first_data page + 1)
      hand_first some =
          let f = first_data page in
          let n = count_of page + 1 - f in
          let k : f - f ≡ 0 = omega arith in
          let j : 1 ≡ f + 1 - f = omega arith in
          ap (λ (m : ℕ). drop m (page_downlinks lower (page_image specs more page).children)) k
          ∙ ap (page_downlinks lower) children_are ∙ downlinks_first lower child_at f n (omega (arith, some))
          ∙ ap (λ cs. (lower, downlink_in (item_at specs more page f)) ∷ drop 1 (page_downlinks lower cs)) (sym children_are)
          ∙ ap (λ (m : ℕ). (lower, downlink_in (item_at specs more page f)) ∷ drop m (page_downlinks lower (page_image specs more page).children)) j

      pub hand_later : (i : ℕ) → first_data page < i → i ≤ count_of page → downlinks_from specs more page lower i ≡ (Some (separator_in (item_at specs more page i)), downlink_in (item_at specs more page i)) ∷ downlinks_from specs more page lower (i + 1)
      hand_later i from to =
          let f = first_data page in
          let n = count_of page + 1 - f in
          let at : f + (i - f) ≡ i = omega (arith, from) in
          let j : suc (i - f) ≡ i + 1 - f = omega (arith, from) in
          ap (λ cs. drop (i - f) (page_downlinks lower cs)) children_are
          ∙ downlinks_later lower child_at f n (i - f) (omega (arith, from)) (omega (arith, from, to))
          ∙ ap (λ (m : ℕ). (Some (separator_in (item_at specs more page m)), downlink_in (item_at specs more page m)) ∷ drop (suc (i - f)) (page_downlinks lower (map child_at (data_items page)))) at
          ∙ ap (λ cs. (Some (separator_in (item_at specs more page i)), downlink_in (item_at specs more page i)) ∷ drop (suc (i - f)) (page_downlinks lower cs)) (sym children_are)
          ∙ ap (λ (m : ℕ). (Some (separator_in (item_at specs more page i)), downlink_in (item_at specs more page i)) ∷ drop m (page_downlinks lower (page_image specs more page).children)) j

      pub hand_end : (i : ℕ) → first_data page ≤ i → i ≡ count_of page → downlinks_from specs more page lower (i + 1) ≡ []
      hand_end i from is =
          let f = first_data page in
          let n : i + 1 - f ≡ count_of page + 1 - f = omega (arith, is) in
          ap (λ (m : ℕ). drop m (page_downlinks lower (page_image specs more page).children)) n
          ∙ ap (λ cs. drop (count_of page + 1 - f) (page_downlinks lower cs)) children_are
          ∙ downlinks_end lower child_at f (count_of page + 1 - f)

      -- from one to the next
      pub record Next (i : ℕ) : Type 0 where
        pub separator : Bound
        pub list : downlinks_from specs more page lower i ≡ (separator, downlink_in (item_at specs more page i)) ∷ downlinks_from specs more page lower (i + 1)
        pub first : i ≡ first_data page → separator ≡ lower
        pub later : i ≢ first_data page → separator ≡ Some (separator_in (item_at specs more page i))

      pub hand_next : (i : ℕ) → IsDataItem page i → Next i
      hand_next i at = elim (cases_eq i (first_data page)) [
        | inl e ↦
            let to = at.to in
            record {
              separator = lower;
              list = subst (λ (k : ℕ). downlinks_from specs more page lower k ≡ (lower, downlink_in (item_at specs more page k)) ∷ downlinks_from specs more page lower (k + 1)) (sym e) (hand_first (omega (arith, e, to)));
              first = λ same. refl;
              later = λ other. absurd (other e);
            }
        | inr ne ↦
            let from = at.from in
            record {
              separator = Some (separator_in (item_at specs more page i));
              list = hand_later i (omega (arith, from, ne)) at.to;
              first = λ same. absurd (ne same);
              later = λ other. refl;
            }
      ]

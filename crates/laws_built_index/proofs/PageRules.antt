-- A page that is laid breaks none of the rules that it can break by itself.
use Rattle.std.proofs.Common.{◌≡◌, ◌≢◌, ◌≤◌, ◌<◌, ◌+◌, ◌-◌, ◌⊎◌, inl, inr, ℕ, zero, suc, Bool, true, false, not, ◌&&◌, ◌||◌, ◌==◌, nat_le, nat_lt, List, [], ◌∷◌, ◌++◌, length, map, Ok, refl, sym, ap, ◌∙◌, subst, arith, append_assoc}
use Rattle.std.specs.Prelude.{Option, Some, None, is_some, option_map}
use Rattle.std.specs.List.{AllByRecursion}
use Rattle.std.proofs.lemmas.Bool.{and_left, and_right, cases_Bool, cond-false, cond-true, eq-eqb, le-leb, le-ltb, leb-true, lt-ltb, ne_eqb, not_from_true}
use Rattle.std.proofs.lemmas.List.{length-append, length-map}
use Rattle.laws_search.specs.Keys.{Entry, Separator, as_separator}
use Rattle.laws_search.specs.Order.{Order}
use Rattle.laws_search.specs.Search.{last_or}
use Rattle.laws_search.proofs.Lists.{Each-back, Each-front, Each-in}
use Rattle.laws_search.proofs.Rising.{Rising, rising_across}
use Rattle.page_layout.specs.Page.{count_of, has_bit, page_rule_of}
use Rattle.page_layout.specs.declared.page.PageKind.TheVariants.{Tree}
use Rattle.key_orders.specs.declared.columns.KeySpec.{KeySpec}
use Rattle.key_orders.specs.declared.columns.Value.{Value}
use Rattle.key_orders.specs.declared.more.MoreSpec.{MoreSpec}
use Rattle.key_orders.specs.declared.Tid.{Tid}
use Rattle.key_orders.specs.Scans.{order_of}
use Rattle.bt_meta.specs.declared.records.Opaque.{Opaque}
use Rattle.bt_meta.specs.Flags.{is_half_dead, is_leaf, is_meta}
use Rattle.bt_meta.specs.Pages.{opaque_of}
use Rattle.bt_tuples.specs.declared.items.Spot3.{Spot3}
use Rattle.bt_tuples.specs.declared.items.Spot3.TheVariants.{HighKey, FirstInner, Inner, LeafItem}
use Rattle.bt_tuples.specs.Items.{Item, Pivot, Plain, Posting, item_outcome, tuple_outcome}
use Rattle.bt_tuples.specs.Keys.{first_key, last_key, last_tid}
use Rattle.bt_tuples.specs.Rules.{KeepsItemRules, has_packed, tuple_of}
use Rattle.bt_image.specs.Image.{LeafEntry, downlink_in, entries_in, first_data, has_high_key, item_at, leaf_entry, minus_infinity, separator_in, spot_of}
use Rattle.bt_image.specs.Pages.{IsDataItem, IsPlainItem, breaks_flags, breaks_half_dead, breaks_high_key, breaks_items, breaks_order, first_compared, has_data, is_key_below, is_past, least_for_high_key}
use Rattle.bt_image.proofs.PageFields.{leaf_spot}
use Rattle.page_write.specs.Bodies.{body_flags, index_body}
use Rattle.page_write.specs.Pages.{FitsBelow, opaque_bytes, tree_page}
use Rattle.page_write.proofs.PostingReading.{length_posting}
use Rattle.page_write.proofs.Reading.{laws_levels}
use Rattle.page_write.proofs.TupleReading.{length_plain}
use Rattle.laws_building.specs.Built.{Splitter}
use Rattle.laws_building.specs.Cuts.{joined}
use Rattle.laws_building.specs.Fresh.{Climbs, ItemsClimb}
use Rattle.laws_building.specs.Seen.{order_by}
use Rattle.laws_building.proofs.LeafLevel.{Rising-back, last_in}
use Rattle.laws_built_index.specs.Items.{IsRead, MayBeItem, MaySplit, entry_types, kept_types, leaf_item, pivot_item, tids_of}
use Rattle.laws_built_index.specs.Pages.{IsLaidWell, flags_of, high_items, items_of, means, special_of}
use Rattle.laws_built_index.specs.Sizes.{entry_in}
use Rattle.laws_built_index.specs.Trees.{Children, IsDownlink, IsPageFit, ItemPage, MayLead, laid_of, page_bytes, tuples_in}
use Rattle.laws_built_index.proofs.Images.{count_there, first_there, high_there, item_means, leaf_there, not_half_dead, special_there}
use Rattle.laws_built_index.proofs.Laid.{laid_well}
use Rattle.laws_built_index.proofs.Placed.{Split, last_of, means_there, outcome_is, outcome_there, split_at, two_at}
use Rattle.laws_built_index.proofs.Short.{length_pivot}

-- what laid_items_mean, laid_separators_mean and item_rules_are_exact say
pub record HaveReadings (specs : List KeySpec) (more : List MoreSpec) : Type 0 where
  pub entries : (es : List LeafEntry) → MayBeItem specs more es → IsRead specs more (leaf_item specs more es) es
  pub high_key : (s : Separator Value Tid) → MaySplit specs s → tuple_outcome specs more HighKey (pivot_item specs 0 s) false ≡ Ok (Pivot s 0)
  pub inner : (down : ℕ) (s : Separator Value Tid) → down < 4294967296 → MaySplit specs s → tuple_outcome specs more Inner (pivot_item specs down s) false ≡ Ok (Pivot s down)
  pub first : (down : ℕ) → down < 4294967296 → tuple_outcome specs more FirstInner (pivot_item specs down minus_infinity) false ≡ Ok (Pivot minus_infinity down)
  pub meaning : (down : ℕ) (s : Separator Value Tid) → down < 4294967296 → MaySplit specs s → means specs more (pivot_item specs down s) ≡ Pivot s down
  pub nothing : (down : ℕ) → down < 4294967296 → means specs more (pivot_item specs down minus_infinity) ≡ Pivot minus_infinity down
  pub exact : (spot : Spot3) (page : List ℕ) (i : ℕ) (item : Item) → item_outcome specs more spot page i ≡ Ok item
      → KeepsItemRules specs more spot page i × (has_packed specs more (tuple_of page i) ≡ false)

-- The keys of an item

last_mapped : (key : List Value) (killed : Bool) (t : Tid) (ts : List Tid) → last_or (leaf_entry key [] t killed) (map (λ u. leaf_entry key [] u killed) ts) ≡ leaf_entry key [] (last_tid t ts) killed
last_mapped key killed t [] = refl
last_mapped key killed t (u ∷ us) = last_mapped key killed u us

key_ends : (item : Item) (a : LeafEntry) (rest : List LeafEntry) → entries_in item ≡ a ∷ rest → (first_key item ≡ as_separator a.entry) × (last_key item ≡ as_separator (last_or a rest).entry)
key_ends (Pivot s down) a rest is = absurd cc
key_ends (Plain key more tid killed) a rest is =
    let head : leaf_entry key more tid killed ≡ a = cc in
    let tail : ◌≡◌ {A = List LeafEntry} [] rest = cc in
    (λ i. as_separator (head i).entry, λ i. as_separator (last_or (head i) (tail i)).entry)
key_ends (Posting key [] killed) a rest is = absurd cc
key_ends (Posting key (t ∷ ts) killed) a rest is =
    let head : leaf_entry key [] t killed ≡ a = cc in
    let tail : map (λ u. leaf_entry key [] u killed) ts ≡ rest = cc in
    (λ i. as_separator (head i).entry, (λ i. as_separator (sym (last_mapped key killed t ts) i).entry) ∙ (λ i. as_separator (last_or (head i) (tail i)).entry))

-- Lengths

long_item : (specs : List KeySpec) (more : List MoreSpec) (es : List LeafEntry) → MayBeItem specs more es → 8 ≤ length (leaf_item specs more es)
long_item specs more [] may = absurd may
long_item specs more (e ∷ []) may =
    let a = length_plain e.entry.tid (body_flags (entry_types specs more) (e.entry.values ++ e.more)) (index_body (entry_types specs more) (e.entry.values ++ e.more)) in
    omega (arith, a)
long_item specs more (e ∷ d ∷ es) may =
    let a = length_posting (tids_of (e ∷ d ∷ es)) (body_flags (entry_types specs more) (e.entry.values ++ e.more)) (index_body (entry_types specs more) (e.entry.values ++ e.more)) in
    omega (arith, a)

long_pivot : (specs : List KeySpec) (down : ℕ) (s : Separator Value Tid) → 8 ≤ length (pivot_item specs down s)
long_pivot specs down s =
    let a = length_pivot down (length s.kept) s.tid (body_flags (kept_types specs s) s.kept) (index_body (kept_types specs s) s.kept) in
    omega (arith, a)

-- Members

each_split : {X : Type 0} (P : X → Type 0) (xs front back : List X) (x : X) → xs ≡ front ++ x ∷ back → AllByRecursion P xs → P x
each_split P xs front back x is each = (Each-back P front (x ∷ back) (subst (AllByRecursion P) is each)).0

-- Separators that climb

climb_on : {S E : Type 0} (o : Order S E) (front : List (S × ℕ)) (c d : S × ℕ) (back : List (S × ℕ)) (lower high : Option S) → Climbs o (front ++ c ∷ d ∷ back) lower high → o.under c.0 d.0 ≡ true
climb_on o [] c d back lower high h = h.1.0
climb_on o (b ∷ front) c d back lower high h = climb_on o front c d back (Some b.0) high h.1

climb_out : {S E : Type 0} (o : Order S E) (front : List (S × ℕ)) (c : S × ℕ) (lower : Option S) (s : S) → Climbs o (front ++ c ∷ []) lower (Some s) → o.under c.0 s ≡ true
climb_out o [] c lower s h = h.1 s refl
climb_out o (b ∷ front) c lower s h = climb_out o front c (Some b.0) s h.1

-- from a leaf's last entry of an item to the first of the next
rise_on : {S E : Type 0} (o : Order S E) (front : List (List E)) (a : E) (es : List E) (b : E) (bs : List E) (back : List (List E)) → Rising o (joined (front ++ (a ∷ es) ∷ (b ∷ bs) ∷ back)) → o.precedes (last_or a es) b ≡ true
rise_on o [] a es b bs back up = (rising_across o (a ∷ es) ((b ∷ bs) ++ joined back) (last_or a es) up (last_in a es)).0
rise_on o (x ∷ front) a es b bs back up = rise_on o front a es b bs back (Rising-back o x (joined (front ++ (a ∷ es) ∷ (b ∷ bs) ∷ back)) up)

-- the children of an internal page
pub record Lead (specs : List KeySpec) (cs : Children) : Type 0 where
  pub first : Separator Value Tid × ℕ
  pub rest : Children
  pub is : cs ≡ first ∷ rest
  pub keeps : first.0 ≡ minus_infinity
  pub small : first.1 < 4294967296
  pub each : AllByRecursion (IsDownlink specs) rest

first_child : (specs : List KeySpec) (cs : Children) → MayLead specs cs → Lead specs cs
first_child specs [] may = absurd may
first_child specs (c ∷ rest) may = record { first = c; rest = rest; is = refl; keeps = may.0; small = may.1; each = may.2 }

either_side : (m i : ℕ) → (i ≤ m) ⊎ (m < i)
either_side m i = grind arith

-- a test of a number from one on
from_test : (first i : ℕ) (t : Bool) → (first ≤ i → t ≡ true) → (nat_le first i && not t) ≡ false
from_test first i t h = elim (cases_Bool (nat_le first i)) [
  | inl e ↦ and_right (nat_le first i) (not t) (not_from_true t (h (leb-true first i e)))
  | inr e ↦ and_left (nat_le first i) (not t) e
]

module _ (specs : List KeySpec) (more : List MoreSpec) (laws : HaveReadings specs more) (p : ItemPage) (fit : IsPageFit specs more p) where
  abbrev page : List ℕ
  page = page_bytes specs more p

  abbrev special : Opaque
  special = special_of (laid_of specs more p)

  abbrev high : List (List ℕ)
  high = high_items (laid_of specs more p).high

  abbrev tuples : List (List ℕ)
  tuples = tuples_in specs more p.leaf p.entries p.children

  well : IsLaidWell (laid_of specs more p)
  well = laid_well specs more p fit

  first_is : first_data page ≡ length high + 1
  first_is = first_there specs more (laid_of specs more p) well

  count_is : count_of page ≡ length high + length tuples
  count_is = count_there specs more (laid_of specs more p) well ∙ length-append high tuples

  -- The marks

  flags_are : (opaque_of page).flags ≡ flags_of p.leaf (laid_of specs more p).root
  flags_are = ap (λ (s : Opaque). s.flags) (special_there specs more (laid_of specs more p) well)

  pub keeps_flags : breaks_flags page ≡ false
  unfolding breaks_flags
  keeps_flags = ap (nat_lt 0x01FF) flags_are ∙ few p.leaf (laid_of specs more p).root
    where
      few : (leaf root : Bool) → nat_lt 0x01FF (flags_of leaf root) ≡ false
      few true true = refl
      few true false = refl
      few false true = refl
      few false false = refl

  pub no_meta : is_meta (opaque_of page) ≡ false
  unfolding is_meta has_bit
  no_meta = ap (λ (n : ℕ). has_bit n 0x0008) flags_are ∙ none p.leaf (laid_of specs more p).root
    where
      none : (leaf root : Bool) → has_bit (flags_of leaf root) 0x0008 ≡ false
      none true true = refl
      none true false = refl
      none false true = refl
      none false false = refl

  pub leaf_is : is_leaf (opaque_of page) ≡ p.leaf
  leaf_is = leaf_there specs more (laid_of specs more p) well

  pub alive_is : is_half_dead (opaque_of page) ≡ false
  alive_is = not_half_dead specs more (laid_of specs more p) well

  pub keeps_layout : page_rule_of Tree page ≡ None
  keeps_layout = laws_levels (items_of (laid_of specs more p)) (opaque_bytes special) fit.room

  pub keeps_half_dead : breaks_half_dead page ≡ false
  unfolding breaks_half_dead
  keeps_half_dead = and_left (is_half_dead (opaque_of page)) _ alive_is

  some_data : 0 < length tuples
  some_data = by_list tuples well.some
    where
      by_list : (ts : List (List ℕ)) → ts ≢ [] → 0 < length ts
      by_list [] some = absurd (some refl)
      by_list (t ∷ ts) some = omega arith

  data_there : has_data page ≡ true
  data_there =
      let a = first_is in
      let b = count_is in
      let c = some_data in
      le-leb (first_data page) (count_of page) (omega (arith, a, b, c))

  pub keeps_items : breaks_items page ≡ false
  unfolding breaks_items
  keeps_items =
      let b = count_is in
      let c = some_data in
      let counted : (count_of page == 0) ≡ false = ne_eqb (count_of page) 0 (λ z. omega (arith, z, b, c)) in
      (λ i. (has_high_key page && counted i) || (not (is_leaf (opaque_of page)) && not (data_there i))) ∙ neither (has_high_key page) (not (is_leaf (opaque_of page)))
    where
      neither : (a b : Bool) → ((a && false) || (b && false)) ≡ false
      neither true true = refl
      neither true false = refl
      neither false true = refl
      neither false false = refl

  -- The items

  plain_from : (spot : Spot3) (i : ℕ) (item : Item) → spot_of page i ≡ spot → item_outcome specs more spot page i ≡ Ok item → IsPlainItem specs more page i
  plain_from spot i item at h =
      let e = laws.exact spot page i item h in
      record { rules = subst (λ (s : Spot3). KeepsItemRules specs more s page i) (sym at) e.0; read = e.1 }

  -- as a leaf, and as an internal page
  module _ (leaf : p.leaf ≡ true) where
    abbrev leaf_page : List ℕ
    leaf_page = tree_page (high ++ map (leaf_item specs more) p.entries) special

    as_leaf : page ≡ leaf_page
    as_leaf = ap (λ (b : Bool). tree_page (high ++ tuples_in specs more b p.entries p.children) special) leaf

    leaf_fits : FitsBelow 8176 (high ++ map (leaf_item specs more) p.entries)
    leaf_fits = subst (λ (b : Bool). FitsBelow 8176 (high ++ tuples_in specs more b p.entries p.children)) leaf fit.room

    leaf_count : length tuples ≡ length p.entries
    leaf_count = ap (λ (b : Bool). length (tuples_in specs more b p.entries p.children)) leaf ∙ length-map p.entries (leaf_item specs more)

    leaf_means : (front back : List (List LeafEntry)) (es : List LeafEntry) → p.entries ≡ front ++ es ∷ back → item_at specs more page (length high + length front + 1) ≡ means specs more (leaf_item specs more es)
    leaf_means front back es is =
        ap (λ (w : List ℕ). item_at specs more w (length high + length front + 1)) as_leaf
        ∙ means_there specs more special high (leaf_item specs more) p.entries front back es is leaf_fits

    leaf_plain : (n : ℕ) → n < length p.entries → IsPlainItem specs more page (length high + n + 1)
    leaf_plain n lt =
        let s = split_at p.entries n lt in
        let may = each_split (MayBeItem specs more) p.entries s.front s.back s.here s.is (fit.items leaf).each in
        let r = laws.entries s.here may in
        let f = first_is in
        let at : spot_of page (length high + n + 1) ≡ LeafItem = leaf_spot page (length high + n + 1) (leaf_is ∙ leaf) (omega (arith, f)) in
        plain_from LeafItem (length high + n + 1) r.item at
        (ap (λ (w : List ℕ). item_outcome specs more LeafItem w (length high + n + 1)) as_leaf
        ∙ ap (λ (k : ℕ). item_outcome specs more LeafItem leaf_page (length high + k + 1)) (sym s.long)
        ∙ outcome_there specs more special high (leaf_item specs more) p.entries s.front s.back s.here s.is leaf_fits LeafItem r.item (long_item specs more s.here may) r.outcome)

    -- the first and the last key of an item
    item_keys : (front back : List (List LeafEntry)) (a : LeafEntry) (rest : List LeafEntry) → p.entries ≡ front ++ (a ∷ rest) ∷ back
        → (first_key (item_at specs more page (length high + length front + 1)) ≡ as_separator a.entry) × (last_key (item_at specs more page (length high + length front + 1)) ≡ as_separator (last_or a rest).entry)
    item_keys front back a rest is =
        let may = each_split (MayBeItem specs more) p.entries front back (a ∷ rest) is (fit.items leaf).each in
        let r = laws.entries (a ∷ rest) may in
        let there = leaf_means front back (a ∷ rest) is in
        let ends = key_ends (means specs more (leaf_item specs more (a ∷ rest))) a rest (ap entries_in r.meaning ∙ r.entries) in
        (ap first_key there ∙ ends.0, ap last_key there ∙ ends.1)

    filled_item : (es : List LeafEntry) → MayBeItem specs more es → (a : LeafEntry) × (rest : List LeafEntry) × (es ≡ a ∷ rest)
    filled_item [] may = absurd may
    filled_item (a ∷ rest) may = (a, rest, refl)

    leaf_order : Rising (order_by entry_in (order_of specs)) (joined p.entries) → (n : ℕ) → suc n < length p.entries
        → is_key_below specs (last_key (item_at specs more page (length high + n + 1))) (first_key (item_at specs more page (length high + suc n + 1))) ≡ true
    leaf_order up n lt =
        let s = two_at p.entries n lt in
        let moved : p.entries ≡ (s.front ++ s.left ∷ []) ++ s.right ∷ s.back = s.is ∙ sym (append_assoc s.front (s.left ∷ []) (s.right ∷ s.back)) in
        let l = filled_item s.left (each_split (MayBeItem specs more) p.entries s.front (s.right ∷ s.back) s.left s.is (fit.items leaf).each) in
        let r = filled_item s.right (each_split (MayBeItem specs more) p.entries (s.front ++ s.left ∷ []) s.back s.right moved (fit.items leaf).each) in
        let is_left : p.entries ≡ s.front ++ (l.0 ∷ l.1) ∷ s.right ∷ s.back = s.is ∙ (λ i. s.front ++ l.2 i ∷ s.right ∷ s.back) in
        let is_both : p.entries ≡ s.front ++ (l.0 ∷ l.1) ∷ (r.0 ∷ r.1) ∷ s.back = is_left ∙ (λ i. s.front ++ (l.0 ∷ l.1) ∷ r.2 i ∷ s.back) in
        let is_right : p.entries ≡ (s.front ++ s.left ∷ []) ++ (r.0 ∷ r.1) ∷ s.back = moved ∙ (λ i. (s.front ++ s.left ∷ []) ++ r.2 i ∷ s.back) in
        let a = item_keys s.front (s.right ∷ s.back) l.0 l.1 is_left in
        let b = item_keys (s.front ++ s.left ∷ []) s.back r.0 r.1 is_right in
        let one : length high + length s.front + 1 ≡ length high + n + 1 = ap (λ (k : ℕ). length high + k + 1) s.long in
        let long = length-append s.front (s.left ∷ []) in
        let front_long = s.long in
        let two : length high + length (s.front ++ s.left ∷ []) + 1 ≡ length high + suc n + 1 = omega (arith, long, front_long) in
        let below = rise_on (order_by entry_in (order_of specs)) s.front l.0 l.1 r.0 r.1 s.back (subst (λ (w : List (List LeafEntry)). Rising (order_by entry_in (order_of specs)) (joined w)) is_both up) in
        (λ i. is_key_below specs ((ap (λ (k : ℕ). last_key (item_at specs more page k)) (sym one) ∙ a.1) i) ((ap (λ (k : ℕ). first_key (item_at specs more page k)) (sym two) ∙ b.0) i)) ∙ below

  module _ (inner : p.leaf ≡ false) where
    abbrev child_item : Separator Value Tid × ℕ → List ℕ
    child_item c = pivot_item specs c.1 c.0

    abbrev inner_page : List ℕ
    inner_page = tree_page (high ++ map child_item p.children) special

    as_inner : page ≡ inner_page
    as_inner = ap (λ (b : Bool). tree_page (high ++ tuples_in specs more b p.entries p.children) special) inner

    inner_fits : FitsBelow 8176 (high ++ map child_item p.children)
    inner_fits = subst (λ (b : Bool). FitsBelow 8176 (high ++ tuples_in specs more b p.entries p.children)) inner fit.room

    inner_count : length tuples ≡ length p.children
    inner_count = ap (λ (b : Bool). length (tuples_in specs more b p.entries p.children)) inner ∙ length-map p.children child_item

    inner_means : (front back : Children) (c : Separator Value Tid × ℕ) → p.children ≡ front ++ c ∷ back → means specs more (child_item c) ≡ Pivot c.0 c.1
        → item_at specs more page (length high + length front + 1) ≡ Pivot c.0 c.1
    inner_means front back c is there =
        ap (λ (w : List ℕ). item_at specs more w (length high + length front + 1)) as_inner
        ∙ means_there specs more special high child_item p.children front back c is inner_fits
        ∙ there

    -- what the first means, and the others
    pub lead : Lead specs p.children
    lead = first_child specs p.children (fit.downlinks inner).each

    first_spot : spot_of page (length high + 0 + 1) ≡ FirstInner
    first_spot =
        let f = first_is in
        cond-false _ _ _ (le-ltb (length high + 0 + 1) (first_data page) (omega (arith, f)))
        ∙ cond-false _ _ _ (leaf_is ∙ inner)
        ∙ cond-true _ _ _ (eq-eqb (length high + 0 + 1) (first_data page) (omega (arith, f)))

    other_spot : (n : ℕ) → spot_of page (length high + suc n + 1) ≡ Inner
    other_spot n =
        let f = first_is in
        cond-false _ _ _ (le-ltb (length high + suc n + 1) (first_data page) (omega (arith, f)))
        ∙ cond-false _ _ _ (leaf_is ∙ inner)
        ∙ cond-false _ _ _ (ne_eqb (length high + suc n + 1) (first_data page) (λ z. omega (arith, f, z)))

    inner_outcome : (spot : Spot3) (front back : Children) (c : Separator Value Tid × ℕ) → p.children ≡ front ++ c ∷ back → tuple_outcome specs more spot (child_item c) false ≡ Ok (Pivot c.0 c.1)
        → item_outcome specs more spot page (length high + length front + 1) ≡ Ok (Pivot c.0 c.1)
    inner_outcome spot front back c is there =
        ap (λ (w : List ℕ). item_outcome specs more spot w (length high + length front + 1)) as_inner
        ∙ outcome_there specs more special high child_item p.children front back c is inner_fits spot (Pivot c.0 c.1) (long_pivot specs c.1 c.0) there

    -- a child after the first
    later_child : (n : ℕ) → suc n < length p.children → Split lead.rest n
    later_child n lt = let e = ap (λ (w : Children). length w) lead.is in split_at lead.rest n (omega (arith, lt, e))

    inner_plain : (n : ℕ) → n < length p.children → IsPlainItem specs more page (length high + n + 1)
    inner_plain zero lt =
        let c = lead.first in
        let outcome : tuple_outcome specs more FirstInner (child_item c) false ≡ Ok (Pivot c.0 c.1) =
        ap (λ (s : Separator Value Tid). tuple_outcome specs more FirstInner (pivot_item specs c.1 s) false) lead.keeps
        ∙ laws.first c.1 lead.small
        ∙ (λ i. Ok (Pivot (sym lead.keeps i) c.1)) in
        plain_from FirstInner (length high + 0 + 1) (Pivot c.0 c.1) first_spot (inner_outcome FirstInner [] lead.rest c lead.is outcome)
    inner_plain (suc n) lt =
        let s = later_child n lt in
        let is : p.children ≡ (lead.first ∷ s.front) ++ s.here ∷ s.back = lead.is ∙ (λ i. lead.first ∷ s.is i) in
        let down = each_split (IsDownlink specs) lead.rest s.front s.back s.here s.is lead.each in
        let here = inner_outcome Inner (lead.first ∷ s.front) s.back s.here is (laws.inner s.here.1 s.here.0 down.block down.splits) in
        let long : length (lead.first ∷ s.front) ≡ suc n = ap suc s.long in
        plain_from Inner (length high + suc n + 1) (Pivot s.here.0 s.here.1) (other_spot n)
        (ap (λ (k : ℕ). item_outcome specs more Inner page (length high + k + 1)) (sym long) ∙ here)

    -- the downlink of a child
    child_means : (front back : Children) (c : Separator Value Tid × ℕ) → p.children ≡ front ++ c ∷ back → item_at specs more page (length high + length front + 1) ≡ Pivot c.0 c.1
    child_means [] back c is =
        let same : ◌≡◌ {A = Separator Value Tid × ℕ} lead.first c = let e = sym lead.is ∙ is in cc in
        let small : c.1 < 4294967296 = subst (λ (d : Separator Value Tid × ℕ). d.1 < 4294967296) same lead.small in
        let none : c.0 ≡ minus_infinity = subst (λ (d : Separator Value Tid × ℕ). d.0 ≡ minus_infinity) same lead.keeps in
        inner_means [] back c is (ap (λ (s : Separator Value Tid). means specs more (pivot_item specs c.1 s)) none ∙ laws.nothing c.1 small ∙ (λ i. Pivot (sym none i) c.1))
    child_means (b ∷ front) back c is =
        let same : ◌≡◌ {A = Children} lead.rest (front ++ c ∷ back) = let e = sym lead.is ∙ is in cc in
        let down = each_split (IsDownlink specs) lead.rest front back c same lead.each in
        inner_means (b ∷ front) back c is (laws.meaning c.1 c.0 down.block down.splits)

    pub climbing : (lower above : Option (Separator Value Tid)) (k : Splitter (Separator Value Tid) (Entry Value Tid)) → ItemsClimb (order_of specs) k p.children lower above → Climbs (order_of specs) lead.rest lower above
    climbing lower above k climb = (subst (λ (w : Children). ItemsClimb (order_of specs) k w lower above) lead.is climb).1

    inner_order : (lower above : Option (Separator Value Tid)) → Climbs (order_of specs) lead.rest lower above → (n : ℕ) → suc (suc n) < length p.children
        → is_key_below specs (last_key (item_at specs more page (length high + suc n + 1))) (first_key (item_at specs more page (length high + suc (suc n) + 1))) ≡ true
    inner_order lower above climb n lt =
        let count = ap (λ (w : Children). length w) lead.is in
        let s = two_at lead.rest n (omega (arith, lt, count)) in
        let is_left : p.children ≡ (lead.first ∷ s.front) ++ s.left ∷ s.right ∷ s.back = lead.is ∙ (λ i. lead.first ∷ s.is i) in
        let is_right : p.children ≡ (lead.first ∷ (s.front ++ s.left ∷ [])) ++ s.right ∷ s.back = is_left ∙ (λ i. lead.first ∷ sym (append_assoc s.front (s.left ∷ []) (s.right ∷ s.back)) i) in
        let a = child_means (lead.first ∷ s.front) (s.right ∷ s.back) s.left is_left in
        let b = child_means (lead.first ∷ (s.front ++ s.left ∷ [])) s.back s.right is_right in
        let front_long = s.long in
        let long = length-append s.front (s.left ∷ []) in
        let one : length high + length (lead.first ∷ s.front) + 1 ≡ length high + suc n + 1 = omega (arith, front_long) in
        let two : length high + length (lead.first ∷ (s.front ++ s.left ∷ [])) + 1 ≡ length high + suc (suc n) + 1 = omega (arith, front_long, long) in
        let below : (order_of specs).under s.left.0 s.right.0 ≡ true = climb_on (order_of specs) s.front s.left s.right s.back lower above (subst (λ (w : Children). Climbs (order_of specs) w lower above) s.is climb) in
        (λ i. is_key_below specs (last_key ((ap (item_at specs more page) (sym one) ∙ a) i)) (first_key ((ap (item_at specs more page) (sym two) ∙ b) i))) ∙ below

    -- the last of two or more
    inner_end : (lower : Option (Separator Value Tid)) (s : Separator Value Tid) → Climbs (order_of specs) lead.rest lower (Some s) → 2 ≤ length p.children
        → is_key_below specs (last_key (item_at specs more page (length high + length p.children))) s ≡ true
    inner_end lower s climb many =
        let count = ap (λ (w : Children). length w) lead.is in
        let e = last_of lead.rest (omega (arith, many, count)) in
        let is : p.children ≡ (lead.first ∷ e.front) ++ e.here ∷ [] = lead.is ∙ (λ i. lead.first ∷ e.is i) in
        let a = child_means (lead.first ∷ e.front) [] e.here is in
        let long = e.long in
        let one : length high + length (lead.first ∷ e.front) + 1 ≡ length high + length p.children = omega (arith, long, count) in
        let below : (order_of specs).under e.here.0 s ≡ true = climb_out (order_of specs) e.front e.here lower s (subst (λ (w : Children). Climbs (order_of specs) w lower (Some s)) e.is climb) in
        (λ i. is_key_below specs (last_key ((ap (item_at specs more page) (sym one) ∙ a) i)) s) ∙ below

    -- where the children lead
    pub each_downlink : (P : ℕ → Type 0) → AllByRecursion (λ (c : Separator Value Tid × ℕ). P c.1) p.children → (i : ℕ) → IsDataItem page i → P (downlink_in (item_at specs more page i))
    each_downlink P each i there =
        let f = first_is in
        let c = count_is in
        let n = inner_count in
        let from = there.from in
        let to = there.to in
        let s = split_at p.children (i - (length high + 1)) (omega (arith, f, c, n, from, to)) in
        let long = s.long in
        let at : length high + length s.front + 1 ≡ i = omega (arith, f, from, long) in
        let means_it : item_at specs more page i ≡ Pivot s.here.0 s.here.1 = ap (item_at specs more page) (sym at) ∙ child_means s.front s.back s.here s.is in
        subst (λ (x : Item). P (downlink_in x)) (sym means_it) (each_split (λ (c : Separator Value Tid × ℕ). P c.1) p.children s.front s.back s.here s.is each)

  -- The high key

  module _ (s : Separator Value Tid) (is : p.high_key ≡ Some s) where
    abbrev high_page : List ℕ
    high_page = tree_page (pivot_item specs 0 s ∷ tuples) special

    as_high : page ≡ high_page
    as_high = ap (λ (o : Option (Separator Value Tid)). tree_page (high_items (option_map (pivot_item specs 0) o) ++ tuples) special) is

    high_fits : FitsBelow 8176 (pivot_item specs 0 s ∷ tuples)
    high_fits = subst (λ (o : Option (Separator Value Tid)). FitsBelow 8176 (high_items (option_map (pivot_item specs 0) o) ++ tuples)) is fit.room

    one_high : length high ≡ 1
    one_high = ap (λ (o : Option (Separator Value Tid)). length (high_items (option_map (pivot_item specs 0) o))) is

    high_means : item_at specs more page 1 ≡ Pivot s 0
    high_means =
        ap (λ (w : List ℕ). item_at specs more w 1) as_high
        ∙ item_means specs more special [] tuples (pivot_item specs 0 s) high_fits
        ∙ laws.meaning 0 s (omega arith) (fit.high s is)

    high_plain : IsPlainItem specs more page 1
    high_plain =
        let f = first_is in
        let one = one_high in
        plain_from HighKey 1 (Pivot s 0) (cond-true _ _ _ (lt-ltb 1 (first_data page) (omega (arith, f, one))))
        (ap (λ (w : List ℕ). item_outcome specs more HighKey w 1) as_high
        ∙ outcome_is specs more special [] tuples (pivot_item specs 0 s) high_fits HighKey (Pivot s 0) (long_pivot specs 0 s) (laws.high_key s (fit.high s is)))

  no_high : p.high_key ≡ None → length high ≡ 0
  no_high none = ap (λ (o : Option (Separator Value Tid)). length (high_items (option_map (pivot_item specs 0) o))) none

  high_item : (h : Option (Separator Value Tid)) → p.high_key ≡ h → (i : ℕ) → 1 ≤ i → i ≤ length high → IsPlainItem specs more page i
  high_item None is i from to = let none = no_high is in absurd (omega (arith, from, to, none))
  high_item (Some s) is i from to =
      let one = one_high s is in
      let at : 1 ≡ i = omega (arith, from, to, one) in
      subst (IsPlainItem specs more page) at (high_plain s is)

  data_item : (n : ℕ) → n < length tuples → IsPlainItem specs more page (length high + n + 1)
  data_item n lt = elim (cases_Bool p.leaf) [
    | inl leaf ↦ let c = leaf_count leaf in leaf_plain leaf n (omega (arith, lt, c))
    | inr inner ↦ let c = inner_count inner in inner_plain inner n (omega (arith, lt, c))
  ]

  pub keeps_plain : (i : ℕ) → 1 ≤ i → i ≤ count_of page → IsPlainItem specs more page i
  keeps_plain i from to = elim (either_side (length high) i) [
    | inl low ↦ high_item p.high_key refl i from low
    | inr up ↦
        let c = count_is in
        let at : length high + (i - (length high + 1)) + 1 ≡ i = omega (arith, up) in
        subst (IsPlainItem specs more page) at (data_item (i - (length high + 1)) (omega (arith, up, to, c)))
  ]

  -- The order

  pub keeps_leaf_order : p.leaf ≡ true → Rising (order_by entry_in (order_of specs)) (joined p.entries) → (i : ℕ) → IsDataItem page i → breaks_order specs more page i ≡ false
  unfolding breaks_order
  keeps_leaf_order leaf up i there =
      let f = first_is in
      let c = count_is in
      let m = leaf_count leaf in
      let to = there.to in
      let compared : first_compared page ≡ first_data page + 1 = cond-true (is_leaf (opaque_of page)) _ _ (leaf_is ∙ leaf) in
      from_test (first_compared page) i (is_key_below specs (last_key (item_at specs more page (i - 1))) (first_key (item_at specs more page i)))
      (λ from.
      let right : i ≡ length high + suc (i - (length high + 2)) + 1 = omega (arith, f, compared, from) in
      let left : i - 1 ≡ length high + (i - (length high + 2)) + 1 = omega (arith, f, compared, from) in
      (λ j. is_key_below specs (last_key (item_at specs more page (left j))) (first_key (item_at specs more page (right j))))
      ∙ leaf_order leaf up (i - (length high + 2)) (omega (arith, f, compared, from, to, c, m)))

  pub keeps_inner_order : (inner : p.leaf ≡ false) (lower above : Option (Separator Value Tid)) → Climbs (order_of specs) (lead inner).rest lower above → (i : ℕ) → IsDataItem page i → breaks_order specs more page i ≡ false
  unfolding breaks_order
  keeps_inner_order inner lower above climb i there =
      let f = first_is in
      let c = count_is in
      let m = inner_count inner in
      let to = there.to in
      let compared : first_compared page ≡ first_data page + 2 = cond-false (is_leaf (opaque_of page)) _ _ (leaf_is ∙ inner) in
      from_test (first_compared page) i (is_key_below specs (last_key (item_at specs more page (i - 1))) (first_key (item_at specs more page i)))
      (λ from.
      let right : i ≡ length high + suc (suc (i - (length high + 3))) + 1 = omega (arith, f, compared, from) in
      let left : i - 1 ≡ length high + suc (i - (length high + 3)) + 1 = omega (arith, f, compared, from) in
      (λ j. is_key_below specs (last_key (item_at specs more page (left j))) (first_key (item_at specs more page (right j))))
      ∙ inner_order inner lower above climb (i - (length high + 3)) (omega (arith, f, compared, from, to, c, m)))

  -- The last item and the high key

  with_high : (h : Option (Separator Value Tid)) → p.high_key ≡ h → has_high_key page ≡ true → (s : Separator Value Tid) × (p.high_key ≡ Some s)
  with_high None none has =
      let there : has_high_key page ≡ false =
      high_there specs more (laid_of specs more p) well ∙ ap (λ (o : Option (Separator Value Tid)). is_some (option_map (pivot_item specs 0) o)) none in
      absurd (let e = sym has ∙ there in cc)
  with_high (Some s) is has = (s, is)

  three : (a b c : Bool) → (a ≡ true → b ≡ true → c ≡ false) → (a && b && c) ≡ false
  three true true c h = h refl refl
  three true false c h = refl
  three false b c h = refl

  pub keeps_leaf_end : p.leaf ≡ true → ((s : Separator Value Tid) → p.high_key ≡ Some s → AllByRecursion (λ (e : LeafEntry). (order_of specs).within e.entry s ≡ true) (joined p.entries)) → breaks_high_key specs more page ≡ false
  unfolding breaks_high_key
  keeps_leaf_end leaf within =
      three (has_high_key page) (nat_le (least_for_high_key page) (count_of page)) (is_past specs (is_leaf (opaque_of page)) (last_key (item_at specs more page (count_of page))) (separator_in (item_at specs more page 1)))
      (λ has many.
      let h = with_high p.high_key refl has in
      let c = count_is in
      let m = leaf_count leaf in
      let some = some_data in
      let e = last_of p.entries (omega (arith, m, some)) in
      let l = filled_item leaf e.here (each_split (MayBeItem specs more) p.entries e.front [] e.here e.is (fit.items leaf).each) in
      let is : p.entries ≡ e.front ++ (l.0 ∷ l.1) ∷ [] = e.is ∙ (λ i. e.front ++ l.2 i ∷ []) in
      let long = e.long in
      let at : length high + length e.front + 1 ≡ count_of page = omega (arith, c, m, long) in
      let key = ap (λ (k : ℕ). last_key (item_at specs more page k)) (sym at) ∙ (item_keys leaf e.front [] l.0 l.1 is).1 in
      let each = in_item (λ (x : LeafEntry). (order_of specs).within x.entry h.0 ≡ true) e.front (l.0 ∷ l.1) (subst (λ (w : List (List LeafEntry)). AllByRecursion (λ (x : LeafEntry). (order_of specs).within x.entry h.0 ≡ true) (joined w)) is (within h.0 h.1)) in
      let last = Each-in (λ (x : LeafEntry). (order_of specs).within x.entry h.0 ≡ true) (last_or l.0 l.1) (l.0 ∷ l.1) each (last_in l.0 l.1) in
      let sep = ap separator_in (high_means h.0 h.1) in
      (λ i. is_past specs ((leaf_is ∙ leaf) i) (key i) (sep i)) ∙ ap not last)
    where
      in_item : {E : Type 0} (P : E → Type 0) (front : List (List E)) (es : List E) → AllByRecursion P (joined (front ++ es ∷ [])) → AllByRecursion P es
      in_item P [] es each = Each-front P es [] each
      in_item P (x ∷ front) es each = in_item P front es (Each-back P x (joined (front ++ es ∷ [])) each)

  pub keeps_inner_end : (inner : p.leaf ≡ false) (lower : Option (Separator Value Tid)) → Climbs (order_of specs) (lead inner).rest lower p.high_key → breaks_high_key specs more page ≡ false
  unfolding breaks_high_key
  keeps_inner_end inner lower climb =
      three (has_high_key page) (nat_le (least_for_high_key page) (count_of page)) (is_past specs (is_leaf (opaque_of page)) (last_key (item_at specs more page (count_of page))) (separator_in (item_at specs more page 1)))
      (λ has many.
      let h = with_high p.high_key refl has in
      let f = first_is in
      let c = count_is in
      let m = inner_count inner in
      let least : least_for_high_key page ≡ first_data page + 1 = cond-false (is_leaf (opaque_of page)) _ _ (leaf_is ∙ inner) in
      let enough = leb-true (least_for_high_key page) (count_of page) many in
      let at : count_of page ≡ length high + length p.children = omega (arith, c, m) in
      let below = inner_end inner lower h.0 (subst (Climbs (order_of specs) (lead inner).rest lower) h.1 climb) (omega (arith, f, c, m, least, enough)) in
      let sep = ap separator_in (high_means h.0 h.1) in
      (λ i. is_past specs ((leaf_is ∙ inner) i) (last_key (item_at specs more page (at i))) (sep i)) ∙ ap not below)

-- The items of entries that may be indexed may be laid.
use Rattle.std.proofs.Common.{◌≡◌, ◌≤◌, ◌%◌, ℕ, suc, Bool, true, false, not, ◌||◌, ◌==◌, cond, List, [], ◌∷◌, ◌++◌, length, refl, sym, ap, ◌∙◌, arith, Ordering, Less, Equal, Greater}
use Rattle.std.specs.Prelude.{Some, None}
use Rattle.std.specs.List.{AllByRecursion}
use Rattle.std.specs.Ordering.{is_eq, is_lt}
use Rattle.std.proofs.lemmas.Bool.{ne_eqb}
use Rattle.std.proofs.lemmas.List.Elements.{recursion_from_All, All-from_recursion}
use Rattle.laws_search.specs.Keys.{Separator, compare_values}
use Rattle.laws_search.specs.Order.{Order}
use Rattle.laws_search.proofs.Lists.{Each-front, Each-back}
use Rattle.laws_search.proofs.Rising.{Rising}
use Rattle.key_orders.specs.declared.columns.KeySpec.{KeySpec}
use Rattle.key_orders.specs.declared.columns.Value.{Value}
use Rattle.key_orders.specs.declared.more.MoreSpec.{MoreSpec}
use Rattle.key_orders.specs.declared.Tid.{Tid}
use Rattle.key_orders.specs.Keys.{columns_of, tid_order}
use Rattle.key_orders.specs.Scans.{order_of}
use Rattle.bt_tuples.specs.Rules.{are_not_rising, includes_some}
use Rattle.page_write.specs.Bodies.{body_flags, index_body}
use Rattle.page_write.specs.Fields.{IsTid}
use Rattle.page_write.proofs.PostingReading.{length_posting}
use Rattle.bt_image.specs.Image.{LeafEntry}
use Rattle.laws_building.specs.Cuts.{joined}
use Rattle.laws_building.specs.Groups.{AllGreatest, Grouping, IsGreatest}
use Rattle.laws_building.specs.Seen.{order_by}
use Rattle.laws_building.proofs.LeafLevel.{Rising-back, Rising-front}
use Rattle.laws_building.proofs.Splits.{ties}
use Rattle.laws_built_index.specs.Items.{IsLike, IsRun, MayBeItem, MayBeLaid, entry_types, leaf_item, plain_item, tids_of}
use Rattle.laws_built_index.specs.Sizes.{entry_in, grouping_of}
use Rattle.laws_built_index.proofs.Keys.{HaveOrders, same_values}
use Rattle.laws_built_index.proofs.Room.{entry_words}
use Rattle.laws_built_index.proofs.Separated.{more_there}

is_equal : (o : Ordering) → is_eq o ≡ true → o ≡ Equal
is_equal Less h = absurd cc
is_equal Equal h = refl
is_equal Greater h = absurd cc

empty_list : {X : Type 0} (xs : List X) → length xs ≡ 0 → xs ≡ []
empty_list [] e = refl
empty_list (x ∷ xs) e = absurd (omega (arith, e))

no_more : (more : List MoreSpec) → includes_some more ≡ false → length more ≡ 0
no_more [] none = refl
no_more (m ∷ more) none = absurd cc

no_includes : (b : Bool) (n : ℕ) → suc n ≤ cond b 0 63 → b ≡ false
no_includes true n few = absurd (omega (arith, few))
no_includes false n few = refl

-- an item has whole words of 8 bytes
pub leaf_words : (specs : List KeySpec) (more : List MoreSpec) (es : List LeafEntry) → length (leaf_item specs more es) % 8 ≡ 0
leaf_words specs more [] = refl
leaf_words specs more (e ∷ []) = entry_words specs more e.entry e.more
leaf_words specs more (e ∷ d ∷ es) =
    let types = entry_types specs more in
    let long = length_posting (tids_of (e ∷ d ∷ es)) (body_flags (entry_types specs more) (e.entry.values ++ e.more)) (index_body (entry_types specs more) (e.entry.values ++ e.more)) in
    omega (arith, long)

-- the entry may be laid, and isn't too large
abbrev pub Fits : List KeySpec → List MoreSpec → LeafEntry → Type 0
Fits specs more e = MayBeLaid specs more e × (length (plain_item specs more e.entry e.more) ≤ 2704)

-- nor is the item
abbrev pub IsItem : List KeySpec → List MoreSpec → List LeafEntry → Type 0
IsItem specs more item = MayBeItem specs more item × (length (leaf_item specs more item) ≤ 2704)

module _ (laws : HaveOrders) (specs : List KeySpec) (more : List MoreSpec) where
  abbrev o : Order (Separator Value Tid) LeafEntry
  o = order_by entry_in (order_of specs)

  abbrev g : Grouping LeafEntry
  g = grouping_of specs more

  like : (e : LeafEntry) (ds : List LeafEntry) → includes_some more ≡ false → AllByRecursion (λ d. g.same_key e d ≡ true) ds → AllByRecursion (Fits specs more) ds → AllByRecursion (IsLike e) ds
  like e [] none same fits = tt
  like e (d ∷ ds) none same fits =
      let equal : compare_values (columns_of specs) 0 e.entry.values d.entry.values ≡ Equal = is_equal _ same.0 in
      let few = more_there specs more d fits.0.0 ∙ no_more more none in
      (record { values = same_values laws specs e.entry.values d.entry.values equal; alone = empty_list d.more few; alive = fits.0.0.alive }, like e ds none same.1 fits.1)

  tids_fit : (es : List LeafEntry) → AllByRecursion (Fits specs more) es → AllByRecursion IsTid (tids_of es)
  tids_fit [] fits = tt
  tids_fit (e ∷ es) fits = (fits.0.0.tid, tids_fit es fits.1)

  tids_rise : (e c : LeafEntry) (ds : List LeafEntry) → e.entry.values ≡ c.entry.values → AllByRecursion (λ d. g.same_key e d ≡ true) ds → AllByRecursion (Fits specs more) ds → Rising o (c ∷ ds) → are_not_rising (Some c.entry.tid) (tids_of ds) ≡ false
  unfolding are_not_rising
  tids_rise e c [] is same fits up = refl
  tids_rise e c (d ∷ ds) is same fits up =
      let equal : compare_values (columns_of specs) 0 e.entry.values d.entry.values ≡ Equal = is_equal _ same.0 in
      let here : compare_values (columns_of specs) 0 c.entry.values d.entry.values ≡ Equal = ap (λ (vs : List Value). compare_values (columns_of specs) 0 vs d.entry.values) (sym is) ∙ equal in
      let less : tid_order c.entry.tid d.entry.tid ≡ Less = ties (columns_of specs) tid_order c.entry d.entry up.0.0 here in
      let some : (d.entry.tid.item == 0) ≡ false = ne_eqb d.entry.tid.item 0 fits.0.0.some_item in
      let values = same_values laws specs e.entry.values d.entry.values equal in
      (λ i. (some i || not (is_lt (less i))) || are_not_rising (Some d.entry.tid) (tids_of ds)) ∙ tids_rise e d ds values same.1 fits.1 up.1

  all_rise : (e : LeafEntry) (ds : List LeafEntry) → AllByRecursion (λ d. g.same_key e d ≡ true) ds → AllByRecursion (Fits specs more) (e ∷ ds) → Rising o (e ∷ ds) → are_not_rising None (tids_of (e ∷ ds)) ≡ false
  unfolding are_not_rising
  all_rise e ds same fits up =
      let some : (e.entry.tid.item == 0) ≡ false = ne_eqb e.entry.tid.item 0 fits.0.0.some_item in
      (λ i. (some i || false) || are_not_rising (Some e.entry.tid) (tids_of ds)) ∙ tids_rise e e ds refl same fits.1 up

  one_item : (e : LeafEntry) (es later : List LeafEntry) → IsGreatest g e es later → AllByRecursion (Fits specs more) (e ∷ es) → Rising o (e ∷ es) → IsItem specs more (e ∷ es)
  one_item e [] later great fits up = let small = fits.0.1 in ((fits.0.0, omega (arith, small)), small)
  one_item e (d ∷ ds) later great fits up =
      let none : includes_some more ≡ false = no_includes (includes_some more) (length ds) great.not_many in
      let small : length (leaf_item specs more (e ∷ d ∷ ds)) ≤ 2704 = great.small (omega arith) in
      let same = recursion_from_All (λ d. g.same_key e d ≡ true) (d ∷ ds) great.one_key in
      let alone = empty_list e.more (more_there specs more e fits.0.0 ∙ no_more more none) in
      let self : IsLike e e = record { values = refl; alone = alone; alive = fits.0.0.alive } in
      let run : IsRun more e (e ∷ d ∷ ds) =
      record {
        includes = none;
        like = All-from_recursion (IsLike e) (e ∷ d ∷ ds) (self, like e (d ∷ ds) none same fits.1);
        fit = All-from_recursion IsTid (tids_of (e ∷ d ∷ ds)) (tids_fit (e ∷ d ∷ ds) fits);
        rise = all_rise e (d ∷ ds) same fits up;
      } in
      ((fits.0.0, run, omega (arith, small)), small)

  pub all_items : (items : List (List LeafEntry)) → AllGreatest g items → AllByRecursion (Fits specs more) (joined items) → Rising o (joined items) → AllByRecursion (IsItem specs more) items
  all_items [] great fits up = tt
  all_items ([] ∷ items) great fits up = absurd great
  all_items ((e ∷ es) ∷ items) great fits up = (
    one_item e es (joined items) great.0 (Each-front (Fits specs more) (e ∷ es) (joined items) fits) (Rising-front o (e ∷ es) (joined items) up),
    all_items items great.1 (Each-back (Fits specs more) (e ∷ es) (joined items) fits) (Rising-back o (e ∷ es) (joined items) up),
  )

-- The data items of a leaf one after another.
use Rattle.std.proofs.Common.{◌≡◌, ◌≢◌, ◌∙◌, ◌+◌, ◌-◌, ◌<◌, ◌≤◌, ℕ, inl, inr, List, ◌∷◌, refl, ap, sym, subst, arith}
use Rattle.std.specs.Prelude.{false}
use Rattle.std.specs.Cmp.{tied_itself}
use Rattle.std.specs.Ordering.{ordering_then}
use Rattle.std.specs.declared.cmp.Ordering.{Ordering}
use Rattle.std.specs.declared.cmp.Ordering.TheVariants.{Less, Equal}
use Rattle.std.proofs.lemmas.Bool.{cases_lt, cond-false}
use Rattle.page_layout.specs.Page.{item_of}
use Rattle.laws_search.specs.Keys.{compare_values}
use Rattle.laws_search.proofs.Columns.{then_less}
use Rattle.key_orders.specs.declared.columns.Value.{Value}
use Rattle.key_orders.specs.Keys.{columns_of}
use Rattle.key_attrs.specs.Columns.{TreeColumns}
use Rattle.bt_tuples.specs.declared.items.Spot3.TheVariants.{LeafItem}
use Rattle.bt_tuples.specs.Items.{Item, Plain, is_dead, item_outcome, tuple_outcome}
use Rattle.bt_tuples.specs.Plain.{IsPlainEntry}
use Rattle.bt_tuples.specs.Rules.{breaks_place, tuple_of}
use Rattle.bt_image.specs.Image.{first_data}
use Rattle.bt_image.proofs.PageFields.{first_cases}
use Rattle.bt_image.proofs.Sound.{same_values}
use Rattle.bt_steps.specs.WayLaws.{total}
use Rattle.bt_steps.proofs.Items.{item-is}
use Rattle.join_distinct.specs.declared.rising.Rise.{Rise}
use Rattle.join_distinct.specs.declared.rising.Rise.TheVariants.{Begins, Rises, Untold}
use Rattle.join_distinct.specs.Items.{DifferTo, HasOne, RisesTo, item_on, values_in}

-- one value alone
pub first-less : (o : Ordering) → ordering_then o Equal ≡ Less → o ≡ Less
first-less o is = elim (then_less o Equal is) [
  | inl less ↦ less
  | inr both ↦ absurd (let clash : Equal ≡ Less = both.1 in cc)
]

module _ (columns : TreeColumns) (page : List ℕ) where
  -- an item at a right place is what its tuple is
  pub at-place : (i : ℕ) → breaks_place page i ≡ false → item_outcome columns.specs columns.more LeafItem page i ≡ tuple_outcome columns.specs columns.more LeafItem (tuple_of page i) (is_dead (item_of page i).flag)
  unfolding item_outcome
  at-place i placed = cond-false (breaks_place page i) _ _ placed

  abbrev item : ℕ → Item
  item i = item_on columns page i

  -- Up to one more item

  pub differ-first : (i : ℕ) → i ≤ first_data page → HasOne (item i) → DifferTo columns page i
  differ-first i low one = record {
    one = λ j from to. subst (λ (k : ℕ). HasOne (item k)) (let same : i ≡ j = omega (arith, low, from, to) in same) one;
    other = λ j from to. absurd (omega (arith, low, from, to));
  }

  pub differ-none : (i : ℕ) → i < first_data page → DifferTo columns page i
  differ-none i low = record {
    one = λ j from to. absurd (omega (arith, low, from, to));
    other = λ j from to. absurd (omega (arith, low, from, to));
  }

  pub differ-next : (i : ℕ) → DifferTo columns page i → HasOne (item (i + 1)) → values_in (item i) ≢ values_in (item (i + 1)) → DifferTo columns page (i + 1)
  differ-next i so one here = record {
    one = λ j from to. elim (cases_lt i j) [
      | inl past ↦ subst (λ (k : ℕ). HasOne (item k)) (let same : i + 1 ≡ j = omega (arith, past, to) in same) one
      | inr low ↦ so.one j from low
    ];
    other = λ j from to. elim (cases_lt j i) [
      | inl low ↦ so.other j from low
      | inr high ↦ subst (λ (k : ℕ). values_in (item k) ≢ values_in (item (k + 1))) (let same : i ≡ j = omega (arith, high, to) in same) here
    ];
  }

  -- By numbers

  module _ (i number : ℕ) (e : IsPlainEntry columns.specs columns.more page i number) where
    entry-item : Plain (e.first ∷ e.rest) e.included e.tid (is_dead (item_of page i).flag) ≡ item i
    entry-item = item-is columns page i (Plain (e.first ∷ e.rest) e.included e.tid (is_dead (item_of page i).flag)) (sym e.is)

    pub entry-one : HasOne (item i)
    entry-one = subst HasOne entry-item (record { entry = record { values = e.first ∷ e.rest; tid = e.tid; killed = is_dead (item_of page i).flag }; is = refl })

    entry-values : values_in (item i) ≡ e.first ∷ e.rest
    entry-values = ap values_in (sym entry-item)

  numbers-differ : (i m n : ℕ) → IsPlainEntry columns.specs columns.more page i m → IsPlainEntry columns.specs columns.more page (i + 1) n → m < n → values_in (item i) ≢ values_in (item (i + 1))
  numbers-differ i m n e f lt same =
      let compare : List Value → List Value → Ordering = compare_values (columns_of columns.specs) 0 in
      let first : List Value = e.first ∷ e.rest in
      let second : List Value = f.first ∷ f.rest in
      let below : compare first second ≡ Less = ap (λ (o : Ordering). ordering_then o (compare_values (columns_of columns.specs) 1 e.rest f.rest)) (e.below f.first n f.prefix lt f.fits) in
      let is : first ≡ second = sym (entry-values i m e) ∙ same ∙ entry-values (i + 1) n f in
      let itself : compare first first ≡ Equal = same_values columns.specs (tied_itself (total columns.specs)) first in
      let clash : Less ≡ Equal = sym below ∙ ap (compare first) (sym is) ∙ itself in
      cc

  -- the first data item, and one more
  pub rises-first : (i number : ℕ) → first_data page ≤ i → i - 1 < first_data page → IsPlainEntry columns.specs columns.more page i number → RisesTo columns page i (Rises number)
  rises-first i number from low e = (from, differ-first i (omega (arith, low)) (entry-one i number e), e)

  one-more : (k last number : ℕ) → last < number → RisesTo columns page k (Rises last) → IsPlainEntry columns.specs columns.more page (k + 1) number → RisesTo columns page (k + 1) (Rises number)
  one-more k last number lt so e =
      let from = so.0 in
      (omega (arith, from), differ-next k so.1 (entry-one (k + 1) number e) (numbers-differ k last number so.2 e lt), e)

  pub rises-next : (i last number : ℕ) → last < number → RisesTo columns page (i - 1) (Rises last) → IsPlainEntry columns.specs columns.more page i number → RisesTo columns page i (Rises number)
  rises-next i last number lt so e =
      let from = so.0 in
      let one = first_cases page in
      let same : i - 1 + 1 ≡ i = omega (arith, from, one) in
      subst (λ (k : ℕ). RisesTo columns page k (Rises number)) same
      (one-more (i - 1) last number lt so (subst (λ (k : ℕ). IsPlainEntry columns.specs columns.more page k number) (sym same) e))

  -- an item before the data items
  pub rises-past : (i : ℕ) (rise : Rise) → i < first_data page → RisesTo columns page (i - 1) rise → RisesTo columns page i rise
  rises-past i Begins low so = low
  rises-past i (Rises last) low so = let from = so.0 in absurd (omega (arith, low, from))
  rises-past i Untold low so = tt

  -- before the first item
  pub rises-none : RisesTo columns page 0 Begins
  rises-none = let one = first_cases page in omega (arith, one)

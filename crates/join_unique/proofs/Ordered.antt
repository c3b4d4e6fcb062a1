-- Entries that rise by key and TID: those with one key stand side by side.
use Rattle.std.proofs.Common.{◌≡◌, ◌∙◌, ◌<◌, ℕ, inl, inr, Bool, true, false, List, [], ◌∷◌, ◌++◌, length, refl, ap, sym, subst, arith}
use Rattle.std.specs.Prelude.{Contains, None, cond, ◌==◌, ◌↔◌, ◌⊎◌, nat_lt}
use Rattle.std.specs.List.{AllAdjacentBelow}
use Rattle.std.specs.Ordering.{is_lt, nat_cmp, ordering_reverse, ordering_then}
use Rattle.std.specs.declared.cmp.Ordering.{Ordering}
use Rattle.std.specs.declared.cmp.Ordering.TheVariants.{Less, Equal, Greater}
use Rattle.std.proofs.lemmas.Bool.Decides.{nat_tests}
use Rattle.laws_search.specs.Keys.{Entry, Separator, compare_keys, compare_values}
use Rattle.laws_search.specs.Order.{Order}
use Rattle.laws_search.proofs.Gather.{In-from_Contains}
use Rattle.laws_search.proofs.Lists.{Each, Each-in}
use Rattle.laws_search.proofs.Rising.{Rising, rising_across, rising_from_adjacent}
use Rattle.key_orders.specs.declared.columns.KeySpec.{KeySpec}
use Rattle.key_orders.specs.declared.columns.Value.{Value}
use Rattle.key_orders.specs.declared.Tid.{Tid}
use Rattle.key_orders.specs.Keys.{columns_of, tid_order}
use Rattle.key_orders.specs.Scans.{order_of}
use Rattle.bt_steps.specs.WayLaws.{ordered, total}
use Rattle.heap_rows.specs.RowLaws.{IsBefore, in_lower_block, in_same_block}
use Rattle.join_unique.proofs.Grouped.{AreGrouped}

-- Answers of comparisons

then-equal : (o : Ordering) → ordering_then o Equal ≡ o
then-equal Less = refl
then-equal Equal = refl
then-equal Greater = refl

low : (a b : Ordering) → is_lt (ordering_then a b) ≡ true → (a ≡ Less) ⊎ ((a ≡ Equal) × (is_lt b ≡ true))
low Less b h = inl refl
low Equal b h = inr (refl, h)
low Greater b h = absurd cc

less-not-equal : Less ≡ Equal → ⊥
less-not-equal e = absurd cc

less-not-greater : Less ≡ Greater → ⊥
less-not-greater e = absurd cc

lt-less : (o : Ordering) → is_lt o ≡ true → o ≡ Less
lt-less Less h = refl
lt-less Equal h = absurd cc
lt-less Greater h = absurd cc

cmp-less : (x y : ℕ) → nat_cmp x y ≡ Less → x < y
cmp-less x y = go (nat_lt x y) (x == y) refl
  where
    go : (a b : Bool) → nat_lt x y ≡ a → cond a Less (cond b Equal Greater) ≡ Less → x < y
    go true b is e = grind (arith, nat_tests, is)
    go false true is e = absurd (less-not-equal (sym e))
    go false false is e = absurd (less-not-greater (sym e))

cmp-equal : (x y : ℕ) → nat_cmp x y ≡ Equal → x ≡ y
cmp-equal x y = go (nat_lt x y) (x == y) refl
  where
    greater : ◌≡◌ {A = Ordering} Greater Equal → ⊥
    greater e = absurd cc

    go : (a b : Bool) → (x == y) ≡ b → cond a Less (cond b Equal Greater) ≡ Equal → x ≡ y
    go true b is e = absurd (less-not-equal e)
    go false true is e = grind (arith, nat_tests, is)
    go false false is e = absurd (greater e)

tid-before : (t u : Tid) → is_lt (tid_order t u) ≡ true → IsBefore t u
tid-before t u h = elim (low (nat_cmp t.block u.block) (nat_cmp t.item u.item) h) [
  | inl less ↦ in_lower_block (cmp-less t.block u.block less)
  | inr same ↦ in_same_block (cmp-equal t.block u.block same.0) (cmp-less t.item u.item (lt-less (nat_cmp t.item u.item) same.1))
]

-- a rising list from one of its members on
rising-from : {S E : Type 0} (o : Order S E) (xs ys : List E) → Rising o (xs ++ ys) → Rising o ys
rising-from o [] ys r = r
rising-from o (x ∷ xs) ys r = rising-from o xs ys r.1

module _ (specs : List KeySpec) (same_key : (s t : Separator Value Tid) → (compare_keys (columns_of specs) tid_order s t ≡ Equal) ↔ (s ≡ t)) where
  abbrev Item : Type 0
  Item = Entry Value Tid

  abbrev bare : List Value → Separator Value Tid
  bare values = record { kept = values; tid = None }

  abbrev compare : List Value → List Value → Ordering
  compare a b = compare_values (columns_of specs) 0 a b

  equal-is : (a b : List Value) → compare a b ≡ Equal → a ≡ b
  equal-is a b e = ap (λ (s : Separator Value Tid). s.kept) ((same_key (bare a) (bare b)).0 (then-equal (compare a b) ∙ e))

  itself : (a : List Value) → compare a a ≡ Equal
  itself a = sym (then-equal (compare a a)) ∙ (same_key (bare a) (bare a)).1 refl

  backward : (a b : List Value) → compare a b ≡ ordering_reverse (compare b a)
  backward a b = sym (then-equal (compare a b)) ∙ (total specs).antisymm (bare a) (bare b) ∙ ap ordering_reverse (then-equal (compare b a))

  abbrev Below : Item → Item → Type 0
  Below d e = (order_of specs).precedes d e ≡ true

  tids-rise : (d e : Item) → Below d e → d.values ≡ e.values → IsBefore d.tid e.tid
  tids-rise d e below same = elim (low (compare d.values e.values) (tid_order d.tid e.tid) below) [
    | inl less ↦ absurd (less-not-equal (sym less ∙ ap (compare d.values) (sym same) ∙ itself d.values))
    | inr equal ↦ tid-before d.tid e.tid equal.1
  ]

  middle : (d e f : Item) → Below d e → Below e f → d.values ≡ f.values → e.values ≡ d.values
  middle d e f first second same = elim (low (compare d.values e.values) (tid_order d.tid e.tid) first) [
    | inr equal ↦ sym (equal-is d.values e.values equal.0)
    | inl less ↦ elim (low (compare e.values f.values) (tid_order e.tid f.tid) second) [
      | inr equal ↦ equal-is e.values f.values equal.0 ∙ sym same
      | inl again ↦
          let up : compare e.values d.values ≡ Less = ap (compare e.values) same ∙ again in
          absurd (less-not-greater (sym up ∙ backward e.values d.values ∙ ap ordering_reverse less))
    ]
  ]

  pub grouped : (es : List Item) → AllAdjacentBelow (λ d e. (order_of specs).precedes d e ≡ true) es (length es) → AreGrouped es
  grouped es adjacent = record {
    rise = λ before e after is d among same. tids-rise d e (across before e after is d among).0 same;
    onward = λ before e after is f among same. tids-rise e f (behind before e after is f among) same;
    between = λ before e after is d f among later same. middle d e f (across before e after is d among).0 (behind before e after is f later) same;
  }
    where
      all : Rising (order_of specs) es
      all = rising_from_adjacent (order_of specs) (ordered specs) es adjacent

      across : (before : List Item) (e : Item) (after : List Item) → es ≡ before ++ e ∷ after → (d : Item) → Contains before d → Each (λ f. (order_of specs).precedes d f ≡ true) (e ∷ after)
      across before e after is d among = rising_across (order_of specs) before (e ∷ after) d (subst (Rising (order_of specs)) is all) (In-from_Contains before d among)

      behind : (before : List Item) (e : Item) (after : List Item) → es ≡ before ++ e ∷ after → (f : Item) → Contains after f → Below e f
      behind before e after is f among =
          Each-in (λ f. (order_of specs).precedes e f ≡ true) f after (rising-from (order_of specs) before (e ∷ after) (subst (Rising (order_of specs)) is all)).0 (In-from_Contains after f among)

-- The first items of a page, which are compared with none before them.
use Rattle.std.proofs.Common.{◌≡◌, ℕ, ◌+◌, ◌≤◌, ◌<◌, Bool, true, false, List, inl, inr, arith}
use Rattle.std.specs.Prelude.{◌&&◌, nat_le}
use Rattle.std.proofs.lemmas.Bool.{cases_Bool, cond-false, cond-true, leb-true}
use Rattle.page_layout.specs.Page.{count_of}
use Rattle.key_orders.specs.declared.columns.KeySpec.{KeySpec}
use Rattle.key_orders.specs.declared.more.MoreSpec.{MoreSpec}
use Rattle.bt_meta.specs.Flags.{is_leaf}
use Rattle.bt_meta.specs.Pages.{opaque_of}
use Rattle.bt_image.specs.Image.{first_data, has_high_key}
use Rattle.bt_image.specs.Pages.{breaks_high_key, breaks_order, first_compared, least_for_high_key}
use Rattle.bt_image.proofs.PageFields.{first_cases}

compared-from : (page : List ℕ) → first_data page + 1 ≤ first_compared page
compared-from page = elim (cases_Bool (is_leaf (opaque_of page))) [
  | inl e ↦ (let is : first_compared page ≡ first_data page + 1 = cond-true _ _ _ e in omega (arith, is))
  | inr e ↦ (let is : first_compared page ≡ first_data page + 2 = cond-false _ _ _ e in omega (arith, is))
]

pub compared-past_1 : (page : List ℕ) → 1 < first_compared page
compared-past_1 page = let from = compared-from page in let one = first_cases page in omega arith

-- where the first of two tests says no
none_below : (b c : Bool) → b ≡ false → (b && c) ≡ false
none_below false c e = e
none_below true c e = absurd cc

below_is : (m n : ℕ) → n < m → nat_le m n ≡ false
below_is m n lt = elim (cases_Bool (nat_le m n)) [ inl e ↦ absurd (let le = leb-true m n e in omega arith) | inr e ↦ e ]

pub order-first : (specs : List KeySpec) (more : List MoreSpec) (page : List ℕ) (i : ℕ) → i ≤ first_data page → breaks_order specs more page i ≡ false
unfolding breaks_order
order-first specs more page i first =
    none_below (nat_le (first_compared page) i) _ (below_is (first_compared page) i (let from = compared-from page in omega arith))

pub order-item_1 : (specs : List KeySpec) (more : List MoreSpec) (page : List ℕ) (i : ℕ) → i ≤ 1 → breaks_order specs more page i ≡ false
order-item_1 specs more page i first = order-first specs more page i (let one = first_cases page in omega arith)

none_of : (a b c : Bool) → a ≡ false → (a && b && c) ≡ false
none_of false b c e = e
none_of true b c e = absurd cc

-- a page without a high key isn't past it
pub high_key-none : (specs : List KeySpec) (more : List MoreSpec) (page : List ℕ) → has_high_key page ≡ false → breaks_high_key specs more page ≡ false
unfolding breaks_high_key
high_key-none specs more page none = none_of (has_high_key page) _ _ none

second_of : (a b c : Bool) → b ≡ false → (a && b && c) ≡ false
second_of true false c e = e
second_of false false c e = e
second_of false true c e = absurd cc
second_of true true c e = absurd cc

least-one : (page : List ℕ) → 1 ≤ least_for_high_key page
least-one page = elim (cases_Bool (is_leaf (opaque_of page))) [
  | inl e ↦ (let is : least_for_high_key page ≡ first_data page = cond-true _ _ _ e in let one = first_cases page in omega (arith, is))
  | inr e ↦ (let is : least_for_high_key page ≡ first_data page + 1 = cond-false _ _ _ e in omega (arith, is))
]

-- nor is one without items
pub high_key-few : (specs : List KeySpec) (more : List MoreSpec) (page : List ℕ) → count_of page < 1 → breaks_high_key specs more page ≡ false
unfolding breaks_high_key
high_key-few specs more page few =
    second_of (has_high_key page) (nat_le (least_for_high_key page) (count_of page)) _ (below_is _ _ (let one = least-one page in omega arith))

-- A pass over items, item by item.
use Rattle.std.proofs.Common.{◌≡◌, ℕ, zero, suc, ◌+◌, ◌-◌, ◌≤◌, ◌<◌, ◌∙◌, Bool, true, false, List, refl, sym, ap, add-one, add-suc, add-zero, inl, inr, arith}
use Rattle.std.specs.Prelude.{◌&&◌, ◌||◌}
use Rattle.std.proofs.lemmas.Bool.{cases_Bool, or_parts}
use Rattle.key_orders.specs.declared.columns.KeySpec.{KeySpec}
use Rattle.key_orders.specs.declared.more.MoreSpec.{MoreSpec}
use Rattle.bt_image.specs.Pages.{breaks_order}
use Rattle.bt_image.specs.Pages.{breaks_high_key}
use Rattle.page_layout.specs.Page.{count_of}
use Rattle.bt_pages.specs.declared.pass.Pass.TheVariants.{NotPlain, Ordered}
use Rattle.bt_pages.specs.Passes.{are_disordered, is_disordered, pass_by}
use Rattle.bt_pages.proofs.Orders.{high_key-few}
use Rattle.bt_pages.specs.Questions.{are_plain, is_without_fault}

both_true : (a b : Bool) → a ≡ true → b ≡ true → (a && b) ≡ true
both_true true true p q = refl
both_true true false p q = q
both_true false b p q = absurd cc

pub second_false : (a b : Bool) → b ≡ false → (a && b) ≡ false
second_false true b q = q
second_false false b q = refl

first_false : (a b : Bool) → a ≡ false → (a && b) ≡ false
first_false false b p = p
first_false true b p = absurd cc

module _ (specs : List KeySpec) (more : List MoreSpec) (page : List ℕ) where
  pub plain-none : are_plain specs more page 0 ≡ true
  unfolding are_plain
  plain-none = refl

  pub plain-next : (k : ℕ) → are_plain specs more page k ≡ true → is_without_fault specs more page (k + 1) ≡ true → are_plain specs more page (k + 1) ≡ true
  unfolding are_plain
  plain-next k so here = rw add-one (both_true _ _ so (rw add-one at here))

  -- one item that isn't plain is enough
  plain-not_from : (k d : ℕ) → is_without_fault specs more page (k + 1) ≡ false → are_plain specs more page (suc k + d) ≡ false
  unfolding are_plain
  plain-not_from k zero here = rw add-zero (second_false (are_plain specs more page k) _ (rw add-one at here))
  plain-not_from k (suc d) here = rw add-suc (first_false (are_plain specs more page (suc k + d)) (is_without_fault specs more page (suc (suc k + d))) (plain-not_from k d here))

  pub plain-not : (k n : ℕ) → k < n → is_without_fault specs more page (k + 1) ≡ false → are_plain specs more page n ≡ false
  plain-not k n lt here =
      ap (λ (m : ℕ). are_plain specs more page m) whole ∙ plain-not_from k (n - suc k) here
    where
      whole : n ≡ suc k + (n - suc k)
      whole = omega arith

  pub disordered-none : are_disordered specs more page 0 ≡ false
  unfolding are_disordered
  disordered-none = refl

  -- whether an item more is in order
  pub disordered-next : (k : ℕ) (was low : Bool) → was ≡ are_disordered specs more page k → low ≡ breaks_order specs more page (k + 1)
      → (was || low) ≡ are_disordered specs more page (k + 1)
  unfolding are_disordered
  disordered-next k was low is here = rw add-one ((λ i. is i || low) ∙ ap (λ (b : Bool). are_disordered specs more page k || b) (rw add-one at here))

  -- where all are plain, each is
  pub plain-at : (k n : ℕ) → k < n → are_plain specs more page n ≡ true → is_without_fault specs more page (k + 1) ≡ true
  plain-at k n lt all = elim (cases_Bool (is_without_fault specs more page (k + 1))) [
    | inl e ↦ e
    | inr e ↦ absurd (let not_all : are_plain specs more page n ≡ false = plain-not k n lt e in let both : true ≡ false = sym all ∙ not_all in cc)
  ]

  pub plain-each : (i n : ℕ) → 1 ≤ i → i ≤ n → are_plain specs more page n ≡ true → is_without_fault specs more page i ≡ true
  plain-each i n first last all =
      ap (λ (m : ℕ). is_without_fault specs more page m) whole ∙ plain-at (i - 1) n (omega arith) all
    where
      whole : i ≡ i - 1 + 1
      whole = omega arith

  -- where none is out of order, each is in order
  order_from : (k d : ℕ) → are_disordered specs more page (suc k + d) ≡ false → breaks_order specs more page (suc k) ≡ false
  unfolding are_disordered
  order_from k zero all = (or_parts (are_disordered specs more page k) _ (rw add-zero at all)).1
  order_from k (suc d) all = order_from k d (or_parts (are_disordered specs more page (suc k + d)) _ (rw add-suc at all)).0

  pub order-each : (i n : ℕ) → 1 ≤ i → i ≤ n → are_disordered specs more page n ≡ false → breaks_order specs more page i ≡ false
  order-each i n first last all =
      ap (λ (m : ℕ). breaks_order specs more page m) here ∙ order_from (i - 1) (n - i) (sym (ap (λ (m : ℕ). are_disordered specs more page m) whole) ∙ all)
    where
      here : i ≡ suc (i - 1)
      here = omega arith

      whole : n ≡ suc (i - 1) + (n - i)
      whole = omega arith

  pub pass-not_plain : (k n : ℕ) (disordered : Bool) → k < n → is_without_fault specs more page (k + 1) ≡ false → NotPlain ≡ pass_by false (are_plain specs more page n) disordered
  pass-not_plain k n disordered lt here = sym (ap (λ (plain : Bool). pass_by false plain disordered) (plain-not k n lt here))

  -- a page without items
  pub pass-empty : (k : ℕ) → k ≡ 0 → count_of page ≤ k → Ordered ≡ pass_by false (are_plain specs more page (count_of page)) (is_disordered specs more page)
  pass-empty k none past =
      let count : count_of page ≡ 0 = omega arith in
      let plain : are_plain specs more page (count_of page) ≡ true = ap (are_plain specs more page) count ∙ plain-none in
      let low : are_disordered specs more page (count_of page) ≡ false = ap (are_disordered specs more page) count ∙ disordered-none in
      let high : breaks_high_key specs more page ≡ false = high_key-few specs more page (omega arith) in
      sym (λ i. pass_by false (plain i) (low i || high i))

-- the flag that was kept
pub kept_flag : (was low now : Bool) → was ≡ true → now ≡ true → now ≡ (was || low)
kept_flag true low now e is = is
kept_flag false low now e is = absurd cc

pub new_flag : (was low now : Bool) → was ≡ false → now ≡ low → now ≡ (was || low)
new_flag false low now e is = is
new_flag true low now e is = absurd cc

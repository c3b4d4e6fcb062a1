-- A leaf of plain entries with rising numbers.
use Rattle.std.proofs.Common.{◌≡◌, ◌∙◌, ℕ, ◌+◌, ◌-◌, ◌<◌, ◌≤◌, true, false, List, ◌∷◌, sym, ap, subst, arith}
use Rattle.std.specs.Prelude.{◌||◌, nat_le, nat_lt, not, Ok}
use Rattle.std.specs.Ordering.{is_lt, ordering_then}
use Rattle.std.specs.declared.cmp.Ordering.{Ordering}
use Rattle.std.specs.declared.cmp.Ordering.TheVariants.{Less}
use Rattle.std.proofs.lemmas.Bool.{cond-false, cond-true, lt-ltb}
use Rattle.page_layout.specs.Page.{count_of, item_of}
use Rattle.laws_search.specs.Keys.{compare_values}
use Rattle.key_orders.specs.declared.columns.KeySpec.{KeySpec}
use Rattle.key_orders.specs.declared.more.MoreSpec.{MoreSpec}
use Rattle.key_orders.specs.Keys.{columns_of, tid_order}
use Rattle.bt_meta.specs.Flags.{is_half_dead, is_leaf}
use Rattle.bt_meta.specs.Pages.{opaque_of}
use Rattle.bt_tuples.specs.declared.items.Spot3.{Spot3}
use Rattle.bt_tuples.specs.declared.items.Spot3.TheVariants.{HighKey}
use Rattle.bt_tuples.specs.Items.{Item, Plain, is_dead, item_outcome}
use Rattle.bt_tuples.specs.Keys.{first_key, key_with, last_key}
use Rattle.bt_tuples.specs.Plain.{IsPlainEntry}
use Rattle.bt_image.specs.Image.{first_data, has_high_key, item_at, spot_of}
use Rattle.bt_image.specs.Pages.{breaks_high_key, breaks_order, first_compared, is_key_below}
use Rattle.bt_image.proofs.PageFields.{first_cases, leaf_spot}
use Rattle.bt_pages.specs.declared.pass.Pass.TheVariants.{Ordered}
use Rattle.bt_pages.specs.Passes.{RiseTo, pass_by, pass_of}
use Rattle.bt_pages.specs.Questions.{is_without_fault}
use Rattle.bt_pages.proofs.Orders.{order-first}
use Rattle.bt_pages.proofs.Passing.{disordered-next, disordered-none, plain-next, plain-none, second_false}
use Rattle.bt_pages.proofs.Plain.{item-means, plain-read}

module _ (specs : List KeySpec) (more : List MoreSpec) (page : List ℕ) where
  pub rise-none : RiseTo specs more page 0
  rise-none = record { plain = plain-none specs more page; order = disordered-none specs more page }

  pub rise-next : (k : ℕ) → RiseTo specs more page k → is_without_fault specs more page (k + 1) ≡ true → breaks_order specs more page (k + 1) ≡ false → RiseTo specs more page (k + 1)
  rise-next k so plain order = record {
    plain = plain-next specs more page k so.plain plain;
    order = sym (disordered-next specs more page k false false (sym so.order) (sym order));
  }

  -- an item that is compared with none before it
  pub rise-first : (i : ℕ) → 1 ≤ i → i ≤ first_data page → RiseTo specs more page (i - 1) → is_without_fault specs more page i ≡ true → RiseTo specs more page i
  rise-first i some first so plain =
      let here : i - 1 + 1 ≡ i = omega arith in
      subst (RiseTo specs more page) here
      (rise-next (i - 1) so (ap (is_without_fault specs more page) here ∙ plain) (order-first specs more page (i - 1 + 1) (omega (arith, here, first))))

  pub rise-high_key : is_without_fault specs more page 1 ≡ true → RiseTo specs more page 1
  rise-high_key plain = rise-first 1 (omega arith) (first_cases page) rise-none plain

  pub rise-pass : is_half_dead (opaque_of page) ≡ false → RiseTo specs more page (count_of page) → breaks_high_key specs more page ≡ false → pass_of specs more page ≡ Ordered
  unfolding pass_of
  rise-pass live all high = λ i. pass_by (live i) (all.plain i) (all.order i || high i)

-- THE ENTRIES OF A LEAF

module _ (specs : List KeySpec) (more : List MoreSpec) (page : List ℕ) (live : is_half_dead (opaque_of page) ≡ false) (leaf : is_leaf (opaque_of page) ≡ true) where
  module _ (i number : ℕ) (from : first_data page ≤ i) (e : IsPlainEntry specs more page i number) where
    entry : Item
    entry = Plain (e.first ∷ e.rest) e.included e.tid (is_dead (item_of page i).flag)

    entry-read : item_outcome specs more (spot_of page i) page i ≡ Ok entry
    unfolding entry
    entry-read = ap (λ (s : Spot3). item_outcome specs more s page i) (leaf_spot page i leaf from) ∙ e.is

    pub entry-plain : is_without_fault specs more page i ≡ true
    entry-plain = plain-read specs more page i entry live entry-read

    entry-is : item_at specs more page i ≡ entry
    entry-is = sym (item-means specs more page i live entry entry-read)

    pub entry-last : last_key (item_at specs more page i) ≡ key_with (e.first ∷ e.rest) e.tid
    unfolding entry
    entry-last = ap last_key entry-is

    pub entry-first : first_key (item_at specs more page i) ≡ key_with (e.first ∷ e.rest) e.tid
    unfolding entry
    entry-first = ap first_key entry-is

  -- the first values tell it, so that the others don't count
  values_below : (i m n : ℕ) (e : IsPlainEntry specs more page i m) (f : IsPlainEntry specs more page (i + 1) n) → m < n → compare_values (columns_of specs) 0 (e.first ∷ e.rest) (f.first ∷ f.rest) ≡ Less
  values_below i m n e f lt = ap (λ (o : Ordering). ordering_then o (compare_values (columns_of specs) 1 e.rest f.rest)) (e.below f.first n f.prefix lt f.fits)

  entry-below : (i m n : ℕ) → first_data page ≤ i → (e : IsPlainEntry specs more page i m) (f : IsPlainEntry specs more page (i + 1) n) → m < n
      → is_key_below specs (last_key (item_at specs more page i)) (first_key (item_at specs more page (i + 1))) ≡ true
  entry-below i m n from e f lt =
      (λ k. is_key_below specs (entry-last i m from e k) (entry-first (i + 1) n (omega (arith, from)) f k))
      ∙ ap (λ (o : Ordering). is_lt (ordering_then o (tid_order e.tid f.tid))) (values_below i m n e f lt)

  entry-order : (i m n : ℕ) → first_data page ≤ i → IsPlainEntry specs more page i m → IsPlainEntry specs more page (i + 1) n → m < n → breaks_order specs more page (i + 1) ≡ false
  unfolding breaks_order
  entry-order i m n from e f lt =
      let before : i + 1 - 1 ≡ i = omega arith in
      second_false (nat_le (first_compared page) (i + 1)) _
      (ap (λ (j : ℕ). not (is_key_below specs (last_key (item_at specs more page j)) (first_key (item_at specs more page (i + 1))))) before
      ∙ ap not (entry-below i m n from e f lt))

  pub rise-entry : (i m n : ℕ) → first_data page ≤ i → IsPlainEntry specs more page i m → IsPlainEntry specs more page (i + 1) n → m < n → RiseTo specs more page i → RiseTo specs more page (i + 1)
  rise-entry i m n from e f lt so =
      rise-next specs more page i so (entry-plain (i + 1) n (omega (arith, from)) f) (entry-order i m n from e f lt)

-- THE HIGH KEY

pub first-alone : (page : List ℕ) → has_high_key page ≡ false → first_data page ≡ 1
first-alone page none = cond-false {A = ℕ} (has_high_key page) 2 1 none

pub first-after : (page : List ℕ) → has_high_key page ≡ true → first_data page ≡ 2
first-after page some = cond-true {A = ℕ} (has_high_key page) 2 1 some

pub high_key-spot : (page : List ℕ) → has_high_key page ≡ true → HighKey ≡ spot_of page 1
high_key-spot page some =
    let first : first_data page ≡ 2 = first-after page some in
    sym (cond-true (nat_lt 1 (first_data page)) _ _ (lt-ltb 1 (first_data page) (omega (arith, first))))

-- A set that was filled from the pages of a heap.
use Rattle.std.proofs.Common.{◌≡◌, ◌∙◌, ℕ, ◌+◌, ◌-◌, ◌<◌, Bool, true, false, List, [], ◌∷◌, ◌++◌, length, get_or, ap, sym, arith, inl, inr}
use Rattle.std.specs.Prelude.{◌&&◌, nat_le, nat_lt}
use Rattle.std.proofs.lemmas.Bool.{and_left, and_right, cases_lt, le-leb, le-ltb, lt-leb, lt-ltb}
use Rattle.std.proofs.lemmas.List.FromFn.{get_or-map-range_with_len, length-map-range_with_len, map-range_with_len_more}
use Rattle.key_orders.specs.declared.Tid.{Tid}
use Rattle.page_layout.specs.Page.{count_of}
use Rattle.heap_targets.specs.Targets.{is_in, is_target, targets_of, targets_on, values_of}

no_first : (page : List ℕ) (i : ℕ) → i < 1 → is_target page i ≡ false
unfolding is_target
no_first page i low = and_left _ _ (and_left _ _ (and_left _ _ (lt-leb 1 i low)))

none_past : (page : List ℕ) (i : ℕ) → count_of page < i → is_target page i ≡ false
unfolding is_target
none_past page i past = and_left _ _ (and_left _ _ (and_right (nat_le 1 i) _ (lt-leb i (count_of page) past)))

-- what the values of a page say of an item
says : List Bool → ℕ → Bool
says values i = nat_le 1 i && nat_le i (length values) && get_or values (i - 1) false

all_hold : (a b c d : Bool) → a ≡ true → b ≡ true → c ≡ d → (a && b && c) ≡ d
all_hold a b c d p q r = rw (p, q) r

says_of_page : (page : List ℕ) (i : ℕ) → says (targets_on page) i ≡ is_target page i
unfolding says
says_of_page page i =
    let count = length-map-range_with_len (is_target page) 1 (count_of page) in
    elim (cases_lt i 1) [
      | inl low ↦ and_left _ _ (and_left _ _ (lt-leb 1 i low)) ∙ sym (no_first page i low)
      | inr first ↦ elim (cases_lt (count_of page) i) [
        | inl past ↦
            and_left _ _ (and_right (nat_le 1 i) _ (lt-leb i (length (targets_on page)) (omega arith))) ∙ sym (none_past page i past)
        | inr last ↦
            all_hold _ _ _ _
            (le-leb 1 i first)
            (le-leb i (length (targets_on page)) (omega arith))
            (get_or-map-range_with_len (is_target page) 1 (count_of page) (i - 1) i false (omega arith) (omega arith))
      ]
    ]

pub tells : (pages : ℕ → List ℕ) (n : ℕ) (tid : Tid)
    → is_in (targets_of pages n) tid ≡ (nat_lt tid.block n && is_target (pages tid.block) tid.item)
unfolding is_in says
tells pages n tid =
    let targets : ℕ → List Bool = λ block. targets_on (pages block) in
    let blocks = length-map-range_with_len targets 0 n in
    let values = values_of (targets_of pages n) tid.block in
    let rest = nat_le tid.item (length values) in
    let value = get_or values (tid.item - 1) false in
    elim (cases_lt tid.block n) [
      | inl within ↦
          ap (λ t. t && nat_le 1 tid.item && rest && value) (lt-ltb tid.block (length (targets_of pages n)) (omega arith))
          ∙ ap (λ v. says v tid.item) (get_or-map-range_with_len targets 0 n tid.block tid.block [] within (omega arith))
          ∙ says_of_page (pages tid.block) tid.item
          ∙ sym (ap (λ t. t && is_target (pages tid.block) tid.item) (lt-ltb tid.block n within))
      | inr past ↦
          and_left _ _ (and_left _ _ (and_left _ _ (le-ltb tid.block (length (targets_of pages n)) (omega arith))))
          ∙ sym (and_left _ _ (le-ltb tid.block n past))
    ]

pub grows : (pages : ℕ → List ℕ) (n : ℕ) → targets_of pages (n + 1) ≡ targets_of pages n ++ targets_on (pages n) ∷ []
grows pages n = map-range_with_len_more (λ block. targets_on (pages block)) 0 n n (omega arith)

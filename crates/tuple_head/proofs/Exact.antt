-- The first of the header's rules that is broken is broken, and there is none exactly where the header keeps them all.
use Rattle.std.proofs.Common.{◌≡◌, ◌↔◌, ℕ, ◌+◌, ◌-◌, ◌*◌, ◌/◌, ◌≤◌, inl, inr, true, None, IfSome, arith}
use Rattle.std.proofs.lemmas.Bool.{cases_Bool, cond-true, cond-false, eqb-true, ltb-false, not-false, or_parts}
use Rattle.page_layout.specs.Page.{max_align}
use Rattle.tuple_head.specs.declared.HeapHead.{HeapHead}
use Rattle.tuple_head.specs.Head.{KeepsHeadRules, PlacesAttributes, breaks_head_rule, expected_hoff, has_nulls, head_rule_of, head_rules, natts_of}
use Rattle.tuple_head.proofs.First.{find-none, first_passes, none_passes}

pub none_is_exact : (columns len : ℕ) (head : HeapHead) → (head_rule_of columns len head ≡ None) ↔ KeepsHeadRules columns len head
unfolding head_rule_of
none_is_exact columns len head = (
  λ e.
      let kept = none_passes (breaks_head_rule columns len head) head_rules e in
      record { count = kept.0; place = kept.1.0; multixact = kept.1.1.0; update = kept.1.1.1.0; chain = kept.1.1.1.1.0 },
  λ kept. find-none (breaks_head_rule columns len head) head_rules (kept.count, (kept.place, (kept.multixact, (kept.update, (kept.chain, tt))))),
)

pub first_is_broken : (columns len : ℕ) (head : HeapHead) → IfSome (head_rule_of columns len head) (λ rule. breaks_head_rule columns len head rule ≡ true)
unfolding head_rule_of
first_is_broken columns len head = first_passes (breaks_head_rule columns len head) head_rules

expected_at_least : (head : HeapHead) → 24 ≤ expected_hoff head
unfolding expected_hoff
expected_at_least head = elim (cases_Bool (has_nulls head)) [
  | inl e ↦ let at = cond-true (has_nulls head) (max_align (23 + (natts_of head + 7) / 8)) 24 e in omega (arith, at)
  | inr e ↦ let at = cond-false (has_nulls head) (max_align (23 + (natts_of head + 7) / 8)) 24 e in omega (arith, at)
]

expected_nulls : (head : HeapHead) → has_nulls head ≡ true → natts_of head ≤ 8 * (expected_hoff head - 23)
unfolding expected_hoff
expected_nulls head e = let at = cond-true (has_nulls head) (max_align (23 + (natts_of head + 7) / 8)) 24 e in omega (arith, at)

pub attributes_are_placed : (columns len : ℕ) (head : HeapHead) → KeepsHeadRules columns len head → PlacesAttributes columns len head
attributes_are_placed columns len head kept =
    let h5 = or_parts _ _ kept.place in
    let at = eqb-true head.hoff (expected_hoff head) (not-false _ h5.0) in
    let least = expected_at_least head in
    record {
      natts = ltb-false columns (natts_of head) kept.count;
      begins = omega (arith, at, least);
      within = ltb-false len head.hoff h5.1;
      nulls = λ e. let nulls = expected_nulls head e in omega (arith, at, nulls);
    }

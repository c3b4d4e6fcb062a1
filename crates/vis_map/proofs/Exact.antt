-- Each test is its sentence, the first broken rule is broken, and where there is none, the bits are true.
use Rattle.std.proofs.Common.{◌≡◌, ◌↔◌, ◌⊎◌, inl, inr, Bool, true, false, not, ◌&&◌, ◌||◌, List, Option, Some, None, IfSome, IsNone, is_some, refl, ap}
use Rattle.std.specs.List.{AllByRecursion, list_all}
use Rattle.std.proofs.lemmas.Bool.{and_cases, and_from, and_parts, both_ways, false_from_ne_true, iff_false, not-false, not-true, not_from_false, or_cases, or_left, or_right}
use Rattle.std.proofs.lemmas.List.Elements.{All-weaker}
use Rattle.std.proofs.lemmas.List.Sums.{AllPass-from_list_all, list_all-from_AllPass}
use Rattle.page_layout.specs.declared.rules.Rule.{Rule}
use Rattle.page_layout.specs.declared.rules.Rule.TheVariants.{V1, V2, V3, V4}
use Rattle.tuple_head.specs.Head.{needs_freezing}
use Rattle.tuple_head.proofs.First.{find-none, first_passes, none_passes}
use Rattle.liveness.specs.declared.states.ItemState.{ItemState}
use Rattle.liveness.specs.declared.states.ItemState.TheVariants.{Unused, Dead, Redirect, Tuple}
use Rattle.liveness.specs.declared.states.Life.{Life}
use Rattle.liveness.specs.declared.states.Life.TheVariants.{Live, Dead as dead_life, Unjudged, Broken}
use Rattle.vis_map.specs.declared.bits.MapBits.{MapBits}
use Rattle.vis_map.specs.Truth.{AreTrue, IsAllFrozen, IsAllVisible, IsSettled, IsVisible}
use Rattle.vis_map.specs.Rules.{IsMapRuleBroken, breaks_map_rule, is_live, is_settled, is_visible, map_rule_of, map_rules}

live_from_test : (life : Life) → is_live life ≡ true → life ≡ Live
live_from_test Live e = refl
live_from_test dead_life e = absurd cc
live_from_test (Unjudged doubt) e = absurd cc
live_from_test (Broken rule) e = absurd cc

visible_from_test : (item : ItemState) → is_visible item ≡ true → IsVisible item
visible_from_test Unused e = tt
visible_from_test Dead e = absurd cc
visible_from_test (Redirect target) e = tt
visible_from_test (Tuple head judged) e = live_from_test judged.life e

test_from_visible : (item : ItemState) → IsVisible item → is_visible item ≡ true
test_from_visible Unused h = refl
test_from_visible Dead h = absurd h
test_from_visible (Redirect target) h = refl
test_from_visible (Tuple head judged) h = ap is_live h

settled_from_test : (item : ItemState) → is_settled item ≡ true → IsSettled item
settled_from_test Unused e = tt
settled_from_test Dead e = tt
settled_from_test (Redirect target) e = tt
settled_from_test (Tuple head judged) e = not-true (needs_freezing head) e

test_from_settled : (item : ItemState) → IsSettled item → is_settled item ≡ true
test_from_settled Unused h = refl
test_from_settled Dead h = refl
test_from_settled (Redirect target) h = refl
test_from_settled (Tuple head judged) h = not_from_false (needs_freezing head) h

pub all_visible_told : (items : List ItemState) → (list_all is_visible items ≡ true) ↔ IsAllVisible items
all_visible_told items = (
  λ e. All-weaker (λ item. is_visible item ≡ true) IsVisible visible_from_test items (AllPass-from_list_all is_visible items e),
  λ h. list_all-from_AllPass is_visible items (All-weaker IsVisible (λ item. is_visible item ≡ true) test_from_visible items h),
)

pub all_frozen_told : (items : List ItemState) → (list_all is_settled items ≡ true) ↔ IsAllFrozen items
all_frozen_told items = (
  λ e. All-weaker (λ item. is_settled item ≡ true) IsSettled settled_from_test items (AllPass-from_list_all is_settled items e),
  λ h. list_all-from_AllPass is_settled items (All-weaker IsSettled (λ item. is_settled item ≡ true) test_from_settled items h),
)

or_not : (a b t : Bool) (P : Type 0) → ((t ≡ true) ↔ P) → (((a || b) && not t) ≡ true) ↔ (((a ≡ true) ⊎ (b ≡ true)) × (P → ⊥))
or_not a b t P told = (
  λ e. let both = and_parts (a || b) (not t) e in (or_cases a b both.0, iff_false told (not-true t both.1)),
  λ h. and_from (a || b) (not t) (elim h.0 [ inl x ↦ or_left a b x | inr y ↦ or_right a b y ]) (not_from_false t (false_from_ne_true t (λ y. h.1 (told.0 y)))),
)

and_not : (a t : Bool) (P : Type 0) → ((t ≡ true) ↔ P) → ((a && not t) ≡ true) ↔ ((a ≡ true) × (P → ⊥))
and_not a t P told = (
  λ e. let both = and_parts a (not t) e in (both.0, iff_false told (not-true t both.1)),
  λ h. and_from a (not t) h.0 (not_from_false t (false_from_ne_true t (λ y. h.1 (told.0 y)))),
)

-- each test is its sentence
pub broken_told : (bits : MapBits) (page_flag : Bool) (items : List ItemState) (rule : Rule) → (breaks_map_rule bits page_flag items rule ≡ true) ↔ IsMapRuleBroken bits page_flag items rule
broken_told bits page_flag items V1 = (
  λ e. let both = and_parts bits.all_frozen (not bits.all_visible) e in (both.0, not-true bits.all_visible both.1),
  λ h. and_from bits.all_frozen (not bits.all_visible) h.0 (not_from_false bits.all_visible h.1),
)
broken_told bits page_flag items V2 = (
  λ e.
      let both = and_parts (bits.all_visible || bits.all_frozen) (not page_flag) e in
      (or_cases bits.all_visible bits.all_frozen both.0, not-true page_flag both.1),
  λ h.
      and_from (bits.all_visible || bits.all_frozen) (not page_flag)
      (elim h.0 [ inl x ↦ or_left bits.all_visible bits.all_frozen x | inr y ↦ or_right bits.all_visible bits.all_frozen y ])
      (not_from_false page_flag h.1),
)
broken_told bits page_flag items V3 = or_not bits.all_visible page_flag (list_all is_visible items) (IsAllVisible items) (all_visible_told items)
broken_told bits page_flag items V4 = and_not bits.all_frozen (list_all is_settled items) (IsAllFrozen items) (all_frozen_told items)
broken_told bits page_flag items _ = (λ e. absurd cc, λ h. absurd h)

none_is_none : (o : Option Rule) → IsNone o → o ≡ None
none_is_none None e = refl
none_is_none (Some rule) e = absurd cc

weaker : (P Q : Rule → Type 0) → ((rule : Rule) → P rule → Q rule) → (o : Option Rule) → IfSome o P → IfSome o Q
weaker P Q step None h = tt
weaker P Q step (Some rule) h = step rule h

second_fails : (x y : Bool) → x ≡ true → (x && y) ≡ false → y ≡ false
second_fails x y e f = elim (and_cases x y f) [ inl z ↦ absurd (both_ways x z e) | inr done ↦ done ]

module _ (bits : MapBits) (page_flag : Bool) (items : List ItemState) where
  all_fail : IsNone (map_rule_of bits page_flag items) → AllByRecursion (λ rule. breaks_map_rule bits page_flag items rule ≡ false) map_rules
  unfolding map_rule_of
  all_fail none = none_passes (breaks_map_rule bits page_flag items) map_rules (none_is_none (map_rule_of bits page_flag items) none)

  each_fails : AllByRecursion (λ rule. breaks_map_rule bits page_flag items rule ≡ false) map_rules → (rule : Rule) → breaks_map_rule bits page_flag items rule ≡ false
  each_fails fail V1 = fail.0
  each_fails fail V2 = fail.1.0
  each_fails fail V3 = fail.1.1.0
  each_fails fail V4 = fail.1.1.1.0
  each_fails fail _ = refl

  unbroken : ((rule : Rule) → IsMapRuleBroken bits page_flag items rule → ⊥) → (rule : Rule) → breaks_map_rule bits page_flag items rule ≡ false
  unbroken none rule = false_from_ne_true (breaks_map_rule bits page_flag items rule) (λ e. none rule ((broken_told bits page_flag items rule).0 e))

  pub none_is_exact : IsNone (map_rule_of bits page_flag items) ↔ ((rule : Rule) → IsMapRuleBroken bits page_flag items rule → ⊥)
  unfolding map_rule_of
  none_is_exact = (
    λ none rule. iff_false (broken_told bits page_flag items rule) (each_fails (all_fail none) rule),
    λ none.
        let e = find-none (breaks_map_rule bits page_flag items) map_rules (unbroken none V1, (unbroken none V2, (unbroken none V3, (unbroken none V4, tt)))) in
        ap is_some e,
  )

  pub first_is_broken : IfSome (map_rule_of bits page_flag items) (λ rule. IsMapRuleBroken bits page_flag items rule)
  unfolding map_rule_of
  first_is_broken =
      weaker (λ rule. breaks_map_rule bits page_flag items rule ≡ true) (λ rule. IsMapRuleBroken bits page_flag items rule)
      (λ rule. (broken_told bits page_flag items rule).0)
      (map_rule_of bits page_flag items)
      (first_passes (breaks_map_rule bits page_flag items) map_rules)

  -- where no rule is broken, the page's flag and the bits are true
  pub none_is_true : IsNone (map_rule_of bits page_flag items) → AreTrue bits page_flag items
  none_is_true none =
      let kept = each_fails (all_fail none) in
      let visible : (bits.all_visible || page_flag) ≡ true → IsAllVisible items =
      λ e. (all_visible_told items).0 (not-false (list_all is_visible items) (second_fails (bits.all_visible || page_flag) (not (list_all is_visible items)) e (kept V3))) in
      record {
        flag = λ e. visible (or_right bits.all_visible page_flag e);
        visible = λ e. (
          not-false page_flag (second_fails (bits.all_visible || bits.all_frozen) (not page_flag) (or_left bits.all_visible bits.all_frozen e) (kept V2)),
          visible (or_left bits.all_visible page_flag e),
        );
        frozen = λ e. (
          not-false bits.all_visible (second_fails bits.all_frozen (not bits.all_visible) e (kept V1)),
          (all_frozen_told items).0 (not-false (list_all is_settled items) (second_fails bits.all_frozen (not (list_all is_settled items)) e (kept V4))),
        );
      }

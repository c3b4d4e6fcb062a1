-- A block of which nothing is listed keeps what the image of an index is built on.
use Rattle.std.proofs.Common.{◌≡◌, ℕ, zero, suc, ◌+◌, ◌≤◌, ◌∙◌, inl, inr, Bool, true, false, cond, [], ◌∷◌, refl, sym, ap, subst, add-one, arith}
use Rattle.std.specs.Prelude.{Contains, find, not, nat_le, ◌&&◌, Option, Some, None}
use Rattle.std.specs.Option.{option_or}
use Rattle.std.proofs.lemmas.Bool.{cases_Bool, le-leb, leb-false, leb-true, not_from_false}
use Rattle.std.proofs.lemmas.List.Folds.{find-append}
use Rattle.page_layout.specs.Page.{count_of, page_rule_of}
use Rattle.page_layout.specs.declared.page.PageKind.TheVariants.{Tree as tree_kind}
use Rattle.page_layout.specs.declared.rules.Rule.{Rule}
use Rattle.page_layout.specs.declared.rules.Rule.TheVariants.{B1, B2, B3, B4, B10, B11, B13}
use Rattle.bt_meta.specs.Flags.{is_half_dead, is_leaf}
use Rattle.bt_meta.specs.Pages.{is_idle, opaque_of}
use Rattle.bt_tuples.specs.Items.{item_rule_of}
use Rattle.bt_tuples.specs.Rules.{KeepsItemRules, has_packed, tuple_of}
use Rattle.bt_tuples.proofs.Outcomes.{none_is}
use Rattle.bt_image.specs.Image.{downlink_in, first_data, item_at, spot_of}
use Rattle.bt_image.specs.Pages.{IsDataItem, KeepsPage, breaks_downlink, breaks_high_key, breaks_order, breaks_siblings}
use Rattle.bt_image.proofs.PageFields.{first_cases}
use Rattle.bt_pages.specs.Trees.{Tree}
use Rattle.bt_pages.specs.Questions.{are_plain, breaks_item, breaks_lone_rule, breaks_on_page, downlink_rules, has_downlink, is_without_fault, item_rule, lone_rule, lone_rules, order_rules, own_doubt, own_rule, own_rules, rule_on_page}
use Rattle.bt_pages.specs.Found.{block_lists, block_place, item_place}
use Rattle.bt_pages.specs.Broken.{AreEmpty, alone, siblings, item, IsJudged, IsJudgedItem}
use Rattle.bt_pages.proofs.Among.{own_by, own_is, passed, rule-plain, rule_by}
use Rattle.bt_pages.proofs.BlockLaws.{block-certain, block-complete, both_none, in_doubt, item_is, lone_is, not_packed, or_none, some_or_none}
use Rattle.bt_pages.proofs.Lists.{item_rule-parts}
use Rattle.bt_pages.proofs.Orders.{high_key-few}
use Rattle.bt_pages.proofs.Passing.{plain-next, plain-none}
use Rattle.bt_pages.proofs.Rules.{lone_rule-header}

second_of : (a b : Bool) → a ≡ true → (a && b) ≡ false → b ≡ false
second_of true b e f = f
second_of false b e f = absurd cc

both_yes : (a b : Bool) → a ≡ true → b ≡ true → (a && b) ≡ true
both_yes true b e f = f
both_yes false b e f = absurd cc

module _ (tree : Tree) (b : ℕ) (empty : AreEmpty (block_lists tree b)) (used : is_idle (tree.block b) ≡ false) where
  lone_none : lone_rule (tree.block b) ≡ None
  lone_none = elim (some_or_none (lone_rule (tree.block b))) [
    | inl e ↦ e
    | inr some ↦ absurd (let is = lone_is tree b some.it some.is in block-complete tree b empty some.it (block_place tree b) (alone some.it is.among is.passes))
  ]

  judged : IsJudged (tree.block b)
  judged = record { keeps = lone_none; used = used }

  header_none : page_rule_of tree_kind (tree.block b) ≡ None
  header_none = elim (some_or_none (page_rule_of tree_kind (tree.block b))) [
    | inl e ↦ e
    | inr some ↦ absurd (let both : None ≡ Some some.it = sym lone_none ∙ lone_rule-header (tree.block b) some.it some.is in cc)
  ]

  lone_false : (rule : Rule) → Contains (lone_rules false) rule → breaks_lone_rule (tree.block b) rule ≡ false
  lone_false rule among = elim (cases_Bool (breaks_lone_rule (tree.block b) rule)) [
    | inl e ↦ absurd (block-complete tree b empty rule (block_place tree b) (alone rule (subst (λ (idle : Bool). Contains (lone_rules idle) rule) (sym used) among) e))
    | inr e ↦ e
  ]

  siblings_kept : breaks_siblings tree.blocks tree.block b ≡ false
  siblings_kept = elim (cases_Bool (breaks_siblings tree.blocks tree.block b)) [
    | inl e ↦ absurd (block-complete tree b empty _ (block_place tree b) (siblings judged e))
    | inr e ↦ e
  ]

  module _ (i : ℕ) (first : 1 ≤ i) (last : i ≤ count_of (tree.block b)) where
    item_judged : IsJudgedItem (tree.block b) i
    item_judged = record { judged = judged; first = first; last = last }

    item_none : item_rule tree (tree.block b) i ≡ None
    item_none = elim (some_or_none (item_rule tree (tree.block b) i)) [
      | inl e ↦ e
      | inr some ↦ absurd (let is = item_is tree b i some.it some.is in block-complete tree b empty some.it (item_place tree b i) (item i some.it item_judged is.among is.passes))
    ]

    doubt_none : own_doubt tree.specs tree.more (tree.block b) i ≡ None
    doubt_none = elim (some_or_none (own_doubt tree.specs tree.more (tree.block b) i)) [
      | inl e ↦ e
      | inr some ↦ absurd (block-certain tree b empty some.it (item_place tree b i) (in_doubt tree b i item_judged some.it some.is))
    ]

    on_page_none : rule_on_page tree.specs tree.more (tree.block b) i ≡ None
    on_page_none = (or_none (rule_on_page tree.specs tree.more (tree.block b) i) _ (sym (item_rule-parts tree (tree.block b) i) ∙ item_none)).0

    downlink_none : find (breaks_item tree (tree.block b) i) (downlink_rules (has_downlink (tree.block b) i)) ≡ None
    downlink_none = (or_none (rule_on_page tree.specs tree.more (tree.block b) i) _ (sym (item_rule-parts tree (tree.block b) i) ∙ item_none)).1

    own_none : (h : Bool) → is_half_dead (opaque_of (tree.block b)) ≡ h → own_rule tree.specs tree.more (tree.block b) i ≡ None
    own_none h dead =
        let test = breaks_on_page tree.specs tree.more (tree.block b) i in
        let p = are_plain tree.specs tree.more (tree.block b) (count_of (tree.block b)) in
        let whole : option_or (find test (own_rules h)) (find test (order_rules h p)) ≡ None =
        sym (find-append test (own_rules h) (order_rules h p)) ∙ sym (rule_by tree.specs tree.more (tree.block b) i h p dead refl) ∙ on_page_none in
        own_by tree.specs tree.more (tree.block b) i h dead ∙ sym (own_is tree.specs tree.more (tree.block b) i h) ∙ (or_none (find test (own_rules h)) (find test (order_rules h p)) whole).0

    plain : is_without_fault tree.specs tree.more (tree.block b) i ≡ true
    unfolding is_without_fault
    plain = both_none (own_rule tree.specs tree.more (tree.block b) i) (own_doubt tree.specs tree.more (tree.block b) i) (own_none (is_half_dead (opaque_of (tree.block b))) refl) doubt_none

    keeps_rules : is_half_dead (opaque_of (tree.block b)) ≡ false → KeepsItemRules tree.specs tree.more (spot_of (tree.block b) i) (tree.block b) i
    unfolding item_rule_of
    keeps_rules live =
        (none_is tree.specs tree.more (spot_of (tree.block b) i) (tree.block b) i).0 (sym (own_by tree.specs tree.more (tree.block b) i false live) ∙ own_none false live)

    no_packed : is_half_dead (opaque_of (tree.block b)) ≡ false → has_packed tree.specs tree.more (tuple_of (tree.block b) i) ≡ false
    unfolding own_doubt
    no_packed live =
        not_packed (is_half_dead (opaque_of (tree.block b))) (own_rule tree.specs tree.more (tree.block b) i) (has_packed tree.specs tree.more (tuple_of (tree.block b) i)) doubt_none live (own_none false live)

  all_plain : (n : ℕ) → n ≤ count_of (tree.block b) → are_plain tree.specs tree.more (tree.block b) n ≡ true
  all_plain zero le = plain-none tree.specs tree.more (tree.block b)
  all_plain (suc n) le =
      subst (λ (m : ℕ). are_plain tree.specs tree.more (tree.block b) m ≡ true) (add-one n)
      (plain-next tree.specs tree.more (tree.block b) n (all_plain n (omega arith)) (plain (n + 1) (omega arith) (omega arith)))

  order_found : (i : ℕ) → 1 ≤ i → i ≤ count_of (tree.block b) → is_half_dead (opaque_of (tree.block b)) ≡ false
      → find (breaks_on_page tree.specs tree.more (tree.block b) i) (B10 ∷ B11 ∷ []) ≡ None
  order_found i first last live =
      sym (rule-plain tree.specs tree.more (tree.block b) i live (all_plain (count_of (tree.block b)) (omega arith)) (plain i first last)) ∙ on_page_none i first last

  rest_none : (t : Bool) (r : Rule) (o : Option Rule) → cond t (Some r) o ≡ None → o ≡ None
  rest_none false r o e = e
  rest_none true r o e = absurd cc

  order_kept : (i : ℕ) → 1 ≤ i → i ≤ count_of (tree.block b) → is_half_dead (opaque_of (tree.block b)) ≡ false → breaks_order tree.specs tree.more (tree.block b) i ≡ false
  order_kept i first last live = passed (breaks_order tree.specs tree.more (tree.block b) i) B10 _ (order_found i first last live)

  high_key_kept : is_half_dead (opaque_of (tree.block b)) ≡ false → breaks_high_key tree.specs tree.more (tree.block b) ≡ false
  high_key_kept live = elim (cases_Bool (nat_le 1 (count_of (tree.block b)))) [
    | inl e ↦
        (let some : 1 ≤ count_of (tree.block b) = leb-true 1 (count_of (tree.block b)) e in
        passed (breaks_high_key tree.specs tree.more (tree.block b)) B11 None
        (rest_none (breaks_order tree.specs tree.more (tree.block b) 1) B10 _ (order_found 1 (omega arith) some live)))
    | inr e ↦ high_key-few tree.specs tree.more (tree.block b) (leb-false 1 (count_of (tree.block b)) e)
  ]

  downlink_kept : (i : ℕ) → IsDataItem (tree.block b) i → is_leaf (opaque_of (tree.block b)) ≡ false
      → breaks_downlink tree.blocks tree.block (opaque_of (tree.block b)).level (downlink_in (item_at tree.specs tree.more (tree.block b) i)) ≡ false
  downlink_kept i is inner =
      let first : 1 ≤ i = (let one = first_cases (tree.block b) in omega (arith, is.from)) in
      let has : has_downlink (tree.block b) i ≡ true = both_yes (not (is_leaf (opaque_of (tree.block b)))) (nat_le (first_data (tree.block b)) i) (not_from_false _ inner) (le-leb _ _ is.from) in
      passed _ B13 None (sym (ap (λ (h : Bool). find (breaks_item tree (tree.block b) i) (downlink_rules h)) has) ∙ downlink_none i first is.to)

  pub block-kept : KeepsPage tree.specs tree.more tree.blocks tree.block b
  block-kept = record {
    laid_out = header_none;
    flags = lone_false B1 (4, omega arith, refl);
    level = lone_false B2 (5, omega arith, refl);
    half_dead = lone_false B3 (6, omega arith, refl);
    some_items = lone_false B4 (7, omega arith, refl);
    siblings = siblings_kept;
    items = λ live i first last. record { rules = keeps_rules i first last live; read = no_packed i first last live };
    order = λ live i is. order_kept i (let one = first_cases (tree.block b) in omega (arith, is.from)) is.to live;
    high_key = λ live. high_key_kept live;
    downlinks = λ inner i is. downlink_kept i is inner;
  }
